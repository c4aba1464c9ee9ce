-- A source and a sink as one stream.
use Rattle.std.specs.Prelude.{◌≡◌, ◌⊎◌, ℕ, ◌≤◌, ◌++◌, List, [], Option, Some, None}
use Rattle.std.proofs.Common.{inl, inr, refl, sym, ◌∙◌, subst, arith}
use Rattle.my_wire.specs.Counts.{HasRisen}
use Rattle.my_wire.specs.declared.duplex.End.{End}
use Rattle.my_wire.specs.declared.duplex.End.TheVariants as ends
use Rattle.my_wire.specs.declared.duplex.Duplex.{Duplex}

module _ {S K : Type 0} where
  -- how often an end failed
  abbrev pub count_of : Duplex S K → ℕ
  count_of d = d.faults

  -- the end that failed last
  abbrev pub failed_end : Duplex S K → Option End
  failed_end d = d.failed

  -- neither end failed yet
  abbrev pub IsFresh : Duplex S K → Type 0
  IsFresh d = (d.faults ≡ 0) × (d.failed ≡ None)

module _ {S K : Type 0} (gives : S → List ℕ → S → Type 0) (read_faults : S → ℕ) (takes : K → List ℕ → K → Type 0) (write_faults : K → ℕ) where
  -- the end that failed since, if one did, is told, and its own count rose
  abbrev pub Tells : Duplex S K → Duplex S K → Option End → Type 0
  Tells d e None = ⊥
  Tells d e (Some ends.Source) = HasRisen (read_faults d.source.now) (read_faults e.source.now)
  Tells d e (Some ends.Sink) = HasRisen (write_faults d.sink.now) (write_faults e.sink.now)

  -- the source gave these bytes, the sink took those
  pub record Passes (d : Duplex S K) (given taken : List ℕ) (e : Duplex S K) : Type 0 where
    pub source : gives d.source.now given e.source.now
    pub sink : takes d.sink.now taken e.sink.now
    pub source_later : read_faults d.source.now ≤ read_faults e.source.now
    pub sink_later : write_faults d.sink.now ≤ write_faults e.sink.now
    pub failed : ((e.faults ≡ d.faults) × (e.failed ≡ d.failed)) ⊎ Tells d e e.failed

  pub passes_nothing : ((s : S) → gives s [] s) → ((k : K) → takes k [] k) → (d : Duplex S K) → Passes d [] [] d
  passes_nothing f g d = record { source = f d.source.now; sink = g d.sink.now; source_later = omega arith; sink_later = omega arith; failed = inl (refl, refl) }

  rises_earlier : (a b c : ℕ) → a ≤ b → HasRisen b c → HasRisen a c
  rises_earlier a b c h k = omega arith

  rises_later : (a b c : ℕ) → HasRisen a b → b ≤ c → HasRisen a c
  rises_later a b c h k = omega arith

  tells_earlier : (d e f : Duplex S K) (end : Option End) → read_faults d.source.now ≤ read_faults e.source.now → write_faults d.sink.now ≤ write_faults e.sink.now → Tells e f end → Tells d f end
  tells_earlier d e f None r w t = t
  tells_earlier d e f (Some ends.Source) r w t = rises_earlier (read_faults d.source.now) (read_faults e.source.now) (read_faults f.source.now) r t
  tells_earlier d e f (Some ends.Sink) r w t = rises_earlier (write_faults d.sink.now) (write_faults e.sink.now) (write_faults f.sink.now) w t

  tells_later : (d e f : Duplex S K) (end : Option End) → read_faults e.source.now ≤ read_faults f.source.now → write_faults e.sink.now ≤ write_faults f.sink.now → Tells d e end → Tells d f end
  tells_later d e f None r w t = t
  tells_later d e f (Some ends.Source) r w t = rises_later (read_faults d.source.now) (read_faults e.source.now) (read_faults f.source.now) t r
  tells_later d e f (Some ends.Sink) r w t = rises_later (write_faults d.sink.now) (write_faults e.sink.now) (write_faults f.sink.now) t w

  fails_on : (d e f : Duplex S K) (given taken more moved : List ℕ) → Passes d given taken e → Passes e more moved f
      → ((f.faults ≡ e.faults) × (f.failed ≡ e.failed)) ⊎ Tells e f f.failed → ((e.faults ≡ d.faults) × (e.failed ≡ d.failed)) ⊎ Tells d e e.failed
      → ((f.faults ≡ d.faults) × (f.failed ≡ d.failed)) ⊎ Tells d f f.failed
  fails_on d e f given taken more moved p q (inr t) o = inr (tells_earlier d e f f.failed p.source_later p.sink_later t)
  fails_on d e f given taken more moved p q (inl same) (inl was) = inl (same.0 ∙ was.0, same.1 ∙ was.1)
  fails_on d e f given taken more moved p q (inl same) (inr t) = inr (subst (Tells d f) (sym same.1) (tells_later d e f e.failed q.source_later q.sink_later t))

  pub passes_on : ((s t u : S) (a b : List ℕ) → gives s a t → gives t b u → gives s (a ++ b) u) → ((k l m : K) (x y : List ℕ) → takes k x l → takes l y m → takes k (x ++ y) m)
      → (d e f : Duplex S K) (a b x y : List ℕ) → Passes d a x e → Passes e b y f → Passes d (a ++ b) (x ++ y) f
  passes_on g t d e f a b x y p q =
      let r = p.source_later in let s = q.source_later in let u = p.sink_later in let v = q.sink_later in
      record {
        source = g _ _ _ a b p.source q.source;
        sink = t _ _ _ x y p.sink q.sink;
        source_later = omega arith;
        sink_later = omega arith;
        failed = fails_on d e f a x b y p q q.failed p.failed;
      }

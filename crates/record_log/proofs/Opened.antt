-- A log that was opened, from what was found in its files.
use Rattle.std.proofs.Common.{◌≡◌, ℕ, Bool, true, false, List, [], take, refl, sym, ◌∙◌, subst, arith}
use Rattle.std.specs.Prelude.{Option, Some, None, option_map}
use Rattle.disk_core.specs.DiskModel.{DiskState, IsSure, Becomes, synced}
use Rattle.record_log.specs.Recovery.{records_of}
use Rattle.record_log.specs.Files.{IsLog, IsLogIn}
use Rattle.record_log.specs.LogView.{AnyMoment, IsNew, IsStored, IsStoredIn, ordered_of}
use Rattle.record_log.specs.declared.files.DiskPair.{DiskPair}
use Rattle.record_log.specs.Format.{new_file}
use Rattle.record_log.proofs.Told.{some_same}
use Rattle.record_log.proofs.RecordReads.{reads_none}
use Rattle.record_log.proofs.Openings.{ShortLeft, short_files}
use Rattle.record_log.proofs.Pairs.{log_records, log_records_swapped}

stored_synced : (o p o' p' : Option DiskState) (records : List (List ℕ)) (gate : ℕ) → ((a b : DiskState) → o ≡ Some a → p ≡ Some b → IsLog a.seen b.seen records gate) → o' ≡ option_map synced o → p' ≡ option_map synced p → IsStored o' p' records gate
stored_synced None p o' p' records gate told is is_other a b is_a is_b = absurd (cc (sym is_a ∙ is))
stored_synced (Some s) None o' p' records gate told is is_other a b is_a is_b = absurd (cc (sym is_b ∙ is_other))
stored_synced (Some s) (Some t) o' p' records gate told is is_other a b is_a is_b =
    let first : a ≡ synced s = some_same a (synced s) (sym is_a ∙ is) in
    let second : b ≡ synced t = some_same b (synced t) (sym is_b ∙ is_other) in
    let here : IsSure (synced s) × IsSure (synced t) × IsLog s.seen t.seen records gate = (refl, refl, told s t refl refl) in
    let P : DiskState → DiskState → Type 0 = λ x y. IsSure x × IsSure y × IsLog x.seen y.seen records gate in
    let step : P a (synced t) = subst (λ (x : DiskState). P x (synced t)) (sym first) here in
    subst (λ (y : DiskState). P a y) (sym second) step

pub stored_found : (in_spare : Bool) (m s m' s' : Option DiskState) (records : List (List ℕ)) (gate : ℕ) → ((a b : DiskState) → m ≡ Some a → s ≡ Some b → IsLogIn in_spare a.seen b.seen records gate)
    → m' ≡ option_map synced m → s' ≡ option_map synced s → IsStoredIn in_spare m' s' records gate
stored_found true m s m' s' records gate told is is_other = stored_synced s m s' m' records gate (λ b a is_b is_a. told a b is_a is_b) is_other is
stored_found false m s m' s' records gate told is is_other = stored_synced m s m' s' records gate told is is_other

pub log_found : (in_spare : Bool) (a b : List ℕ) (records : List (List ℕ)) (gate : ℕ) → IsLogIn in_spare a b records gate → records_of a b ≡ Some records
log_found true a b records gate log = log_records_swapped b a records gate log
log_found false a b records gate log = log_records a b records gate log

module _ {D : Type 0} (state : D → Option DiskState) where
  pub stored_ordered : (in_spare : Bool) (disks : DiskPair D) (records : List (List ℕ)) (gate : ℕ) → IsStoredIn in_spare (state disks.main) (state disks.spare) records gate
      → IsStored (state (ordered_of in_spare disks).0) (state (ordered_of in_spare disks).1) records gate
  stored_ordered true disks records gate stored = stored
  stored_ordered false disks records gate stored = stored

  pub stored_pair : (in_spare : Bool) (disks : DiskPair D) (pair : D × D) (records : List (List ℕ)) (gate : ℕ) → pair ≡ ordered_of in_spare disks → IsStoredIn in_spare (state disks.main) (state disks.spare) records gate → IsStored (state pair.0) (state pair.1) records gate
  stored_pair in_spare disks pair records gate is stored =
      let P : D × D → Type 0 = λ p. IsStored (state p.0) (state p.1) records gate in
      subst P (sym is) (stored_ordered in_spare disks records gate stored)

-- two new files
pub new_moments : (o p o' p' : Option DiskState) → ShortLeft o o' → ShortLeft p p' → AnyMoment o p o' p' IsNew
new_moments o p o' p' left other_left a b is_a is_b =
    let first = subst (λ x. ShortLeft x o') is_a left in
    let second = subst (λ x. ShortLeft x p') is_b other_left in
    let leaves = first.2 in
    let other_leaves = second.2 in (
      first.0,
      (
        second.0,
        (
          first.1,
          (
            second.1,
            record {
              more = leaves.more;
              clock = leaves.clock;
              other_more = other_leaves.more;
              other_clock = other_leaves.clock;
              each = λ c d left_c left_d. short_files c d (leaves.each c left_c) (other_leaves.each d left_d);
            },
          ),
        ),
      ),
    )

told_made : (o o' : Option DiskState) (file : List ℕ) → Becomes (λ s t. IsSure t × (t.seen ≡ file)) o o' → (a : DiskState) → o' ≡ Some a → IsSure a × (a.seen ≡ file)
told_made None o' file told a is = absurd (cc (sym is ∙ told))
told_made (Some s) o' file told a is = let P : DiskState → Type 0 = λ x. IsSure x × (x.seen ≡ file) in subst P (some_same told.0 a (sym told.1 ∙ is)) told.2

new_log : IsLog (new_file 1 1) (new_file 0 0) [] 17
new_log = record {
  marked = refl;
  other_marked = refl;
  leads = refl;
  head = take 17 (new_file 1 1);
  body = [];
  length_head = refl;
  length_body = refl;
  size = refl;
  shut = (0, [], (λ one. absurd (omega (arith, one))), refl);
  reads = reads_none;
}

pub new_stored : (o p o' p' : Option DiskState) → Becomes (λ s t. IsSure t × (t.seen ≡ new_file 1 1)) o o' → Becomes (λ s t. IsSure t × (t.seen ≡ new_file 0 0)) p p' → IsStored o' p' [] 17
new_stored o p o' p' main spare a b is_a is_b =
    let first = told_made o o' (new_file 1 1) main a is_a in
    let second = told_made p p' (new_file 0 0) spare b is_b in
    let step = subst (λ (x : List ℕ). IsLog x (new_file 0 0) [] 17) (sym first.1) new_log in
    (first.0, second.0, subst (λ (y : List ℕ). IsLog a.seen y [] 17) (sym second.1) step)

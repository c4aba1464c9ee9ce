-- What a crash leaves in each step of an append.
use Rattle.std.proofs.Common.{◌≡◌, inl, inr, ⊎_elim, ℕ, suc, ◌+◌, ◌≤◌, ◌<◌, min, List, [], ◌∷◌, ◌++◌, length, get_or, take, drop, refl, sym, ◌∙◌, ap, subst, arith, append_assoc, length-append, length-take, take-append-drop}
use Rattle.std.specs.Prelude.{Option, Some, None, option_map}
use Rattle.std.proofs.lemmas.Bool.{cases_eq}
use Rattle.std.proofs.lemmas.List.{take_at, drop_at, drop_more}
use Rattle.disk_core.specs.DiskModel.{Wrote, DiskState, Torn, MayLeave, IsSure, LeavesOnly, FailsToWrite, Becomes, patched, changed_by, sure_now, written, synced}
use Rattle.disk_core.proofs.Moments.{started, goes_on}
use Rattle.record_log.proofs.Told.{some_same}
use Rattle.record_log.specs.Crash.{IsOpened, IsTorn, Waits}

-- a list is its first n, the next one, and the rest
pub around : (bytes : List ℕ) (n : ℕ) → n < length bytes → bytes ≡ take n bytes ++ (get_or bytes n 0 ∷ drop (n + 1) bytes)
around bytes n lt = sym (take-append-drop n bytes) ∙ ap (λ (l : List ℕ). take n bytes ++ l) (drop_more bytes n 0 lt)

module _ (s : DiskState) (place : ℕ) (frame : List ℕ) (w : Waits s place) where
  abbrev gate : ℕ
  gate = w.shut.0

  abbrev rest : List ℕ
  rest = w.shut.1

  split : s.seen ≡ w.front ++ (gate ∷ rest)
  split = w.shut.3

  abbrev P : List ℕ → Type 0
  P = IsTorn w.front frame

  size : length s.seen ≡ place + suc (length rest)
  size = omega (arith, ap length split, length-append w.front (gate ∷ rest), w.length_front)

  pub front_is : take place s.seen ≡ w.front
  front_is = ap (λ (l : List ℕ). take place l) split ∙ take_at w.front (gate ∷ rest) place w.length_front

  gated : take (place + 1) s.seen ≡ w.front ++ (gate ∷ [])
  gated =
      ap (λ (l : List ℕ). take (place + 1) l) (split ∙ sym (append_assoc w.front (gate ∷ []) rest))
      ∙ take_at (w.front ++ (gate ∷ [])) rest (place + 1) (omega (arith, length-append w.front (gate ∷ []), w.length_front))

  -- before the first write
  pub at_start : LeavesOnly s s P
  at_start = started s P (λ bytes left. inl (gate, rest, w.shut.2, subst (λ m. MayLeave m bytes) w.sure left ∙ split))

  -- the gate stays shut in each outcome of the first write
  staged : (bytes : List ℕ) → Torn (place + 1) (length frame) s.seen bytes → P bytes
  staged bytes torn =
      let least : min (place + 1) (length s.seen) ≡ place + 1 = omega (arith, size) in
      let front : take (place + 1) bytes ≡ w.front ++ (gate ∷ []) = ap (λ (n : ℕ). take n bytes) (sym least) ∙ torn.before ∙ gated in
      inl (gate, drop (place + 1) bytes, w.shut.2, sym (take-append-drop (place + 1) bytes) ∙ ap (λ (l : List ℕ). l ++ drop (place + 1) bytes) front ∙ append_assoc w.front (gate ∷ []) (drop (place + 1) bytes))

  first_image : (bytes : List ℕ) → MayLeave (changed_by (Wrote (place + 1) frame) s.now) bytes → P bytes
  first_image bytes left =
      let torn = subst (λ m. MayLeave (changed_by (Wrote (place + 1) frame) m) bytes) w.sure left in
      subst P (sym torn.2) (staged torn.0 torn.1)

  abbrev pub s1 : DiskState
  s1 = written (place + 1) frame s

  abbrev pub s2 : DiskState
  s2 = synced s1

  abbrev pub s3 : DiskState
  s3 = written place (1 ∷ []) s2

  abbrev pub s4 : DiskState
  s4 = synced s3

  pub first : LeavesOnly s s1 P
  first = goes_on s s P (patched (place + 1) frame s.seen) (changed_by (Wrote (place + 1) frame) s.now) at_start first_image

  pub first_fails : (t : DiskState) → FailsToWrite (place + 1) frame s t → LeavesOnly s t P
  first_fails t (inl same) = subst (λ (u : DiskState). LeavesOnly s u P) (sym same) at_start
  first_fails t (inr torn) = subst (λ (u : DiskState). LeavesOnly s u P) (sym torn.2) (goes_on s s P torn.0 (changed_by (Wrote (place + 1) frame) s.now) at_start first_image)

  abbrev behind : List ℕ
  behind = drop (place + 1 + length frame) s.seen

  staged_is : s1.seen ≡ w.front ++ (gate ∷ (frame ++ behind))
  staged_is = ap (λ (l : List ℕ). l ++ (frame ++ behind)) gated ∙ append_assoc w.front (gate ∷ []) (frame ++ behind)

  pub second : LeavesOnly s s2 P
  second = goes_on s s1 P s1.seen (sure_now s1.seen) first (λ bytes left. inl (gate, frame ++ behind, w.shut.2, left ∙ staged_is))

  -- the frame stands whole in each outcome of the second write
  opened : (bytes : List ℕ) → Torn place 1 s1.seen bytes → P bytes
  opened bytes torn =
      let long : length s1.seen ≡ place + suc (length (frame ++ behind)) = omega (arith, ap length staged_is, length-append w.front (gate ∷ (frame ++ behind)), w.length_front) in
      let least : min place (length s1.seen) ≡ place = omega (arith, long) in
      let front : take place bytes ≡ w.front =
      ap (λ (n : ℕ). take n bytes) (sym least) ∙ torn.before ∙ ap (λ (l : List ℕ). take place l) staged_is ∙ take_at w.front (gate ∷ (frame ++ behind)) place w.length_front in
      let tail : drop (place + 1) bytes ≡ frame ++ behind =
      torn.after
      ∙ ap (λ (l : List ℕ). drop (place + 1) l) (staged_is ∙ sym (append_assoc w.front (gate ∷ []) (frame ++ behind)))
      ∙ drop_at (w.front ++ (gate ∷ [])) (frame ++ behind) (place + 1) (omega (arith, length-append w.front (gate ∷ []), w.length_front)) in
      let byte = get_or bytes place 0 in
      let whole : bytes ≡ w.front ++ (byte ∷ (frame ++ behind)) = around bytes place (omega (arith, torn.no_shorter, long)) ∙ (λ i. front i ++ (byte ∷ tail i)) in
      ⊎_elim
      (λ is. inr (behind, whole ∙ ap (λ (n : ℕ). w.front ++ (n ∷ (frame ++ behind))) is))
      (λ isnt. inl (byte, frame ++ behind, isnt, whole))
      (cases_eq byte 1)

  second_image : (bytes : List ℕ) → MayLeave (changed_by (Wrote place (1 ∷ [])) s2.now) bytes → P bytes
  second_image bytes left = subst P (sym left.2) (opened left.0 left.1)

  pub third : LeavesOnly s s3 P
  third = goes_on s s2 P (patched place (1 ∷ []) s2.seen) (changed_by (Wrote place (1 ∷ [])) s2.now) second second_image

  pub third_fails : (t : DiskState) → FailsToWrite place (1 ∷ []) s2 t → LeavesOnly s t P
  third_fails t (inl same) = subst (λ (u : DiskState). LeavesOnly s u P) (sym same) second
  third_fails t (inr torn) = subst (λ (u : DiskState). LeavesOnly s u P) (sym torn.2) (goes_on s s2 P torn.0 (changed_by (Wrote place (1 ∷ [])) s2.now) second second_image)

  pub opened_is : s3.seen ≡ w.front ++ (1 ∷ (frame ++ behind))
  opened_is =
      let front : take place s1.seen ≡ w.front = ap (λ (l : List ℕ). take place l) staged_is ∙ take_at w.front (gate ∷ (frame ++ behind)) place w.length_front in
      let tail : drop (place + 1) s1.seen ≡ frame ++ behind =
      ap (λ (l : List ℕ). drop (place + 1) l) (staged_is ∙ sym (append_assoc w.front (gate ∷ []) (frame ++ behind)))
      ∙ drop_at (w.front ++ (gate ∷ [])) (frame ++ behind) (place + 1) (omega (arith, length-append w.front (gate ∷ []), w.length_front)) in
      λ i. front i ++ (1 ∷ tail i)

  pub fourth : LeavesOnly s s4 P
  fourth = goes_on s s3 P s3.seen (sure_now s3.seen) third (λ bytes left. inr (behind, left ∙ opened_is))

-- where the disk tells, what a crash inside the append may leave
abbrev pub Left : ℕ → List ℕ → Option DiskState → Option DiskState → Type 0
Left place frame old new = Becomes (λ s t. LeavesOnly s t (IsTorn (take place s.seen) frame)) old new

abbrev pub File : ℕ → Option DiskState → Type 0
File place o = (s : DiskState) → o ≡ Some s → Waits s place

shown : (s t : DiskState) (place : ℕ) (frame : List ℕ) (w : Waits s place) (new : Option DiskState) → new ≡ Some t → LeavesOnly s t (IsTorn w.front frame) → Left place frame (Some s) new
shown s t place frame w new is leaves = (t, is, subst (λ f. LeavesOnly s t (IsTorn f frame)) (sym (front_is s place frame w)) leaves)

pub after_failed_write : (place : ℕ) (frame : List ℕ) (o o1 : Option DiskState) → File place o → Becomes (FailsToWrite (place + 1) frame) o o1 → Left place frame o o1
after_failed_write place frame None o1 file failed = failed
after_failed_write place frame (Some s) o1 file failed = shown s failed.0 place frame (file s refl) o1 failed.1 (first_fails s place frame (file s refl) failed.0 failed.2)

-- the frame stands behind the gate, and is sure
abbrev pub Staged : ℕ → List ℕ → Option DiskState → Option DiskState → Type 0
Staged place frame o o2 = o2 ≡ option_map (λ x. synced (written (place + 1) frame x)) o

-- and the gate is open
abbrev pub Opened : ℕ → Option DiskState → Option DiskState → Type 0
Opened place o2 o4 = o4 ≡ option_map (λ x. synced (written place (1 ∷ []) x)) o2

pub after_failed_gate : (place : ℕ) (frame : List ℕ) (o o2 o3 : Option DiskState) → File place o → Staged place frame o o2 → Becomes (FailsToWrite place (1 ∷ [])) o2 o3 → Left place frame o o3
after_failed_gate place frame None o2 o3 file staged failed = let P : Option DiskState → Type 0 = λ x. Becomes (FailsToWrite place (1 ∷ [])) x o3 in subst P staged failed
after_failed_gate place frame (Some s) o2 o3 file staged failed =
    let w = file s refl in
    let P : Option DiskState → Type 0 = λ x. Becomes (FailsToWrite place (1 ∷ [])) x o3 in
    let told = subst P staged failed in
    shown s told.0 place frame w o3 told.1 (third_fails s place frame w told.0 told.2)

opened_option : (place : ℕ) (frame : List ℕ) (o o2 o4 : Option DiskState) → Staged place frame o o2 → Opened place o2 o4
    → o4 ≡ option_map (λ x. synced (written place (1 ∷ []) x)) (option_map (λ x. synced (written (place + 1) frame x)) o)
opened_option place frame o o2 o4 staged opened = opened ∙ ap (λ x. option_map (λ y. synced (written place (1 ∷ []) y)) x) staged

pub after_all : (place : ℕ) (frame : List ℕ) (o o2 o4 : Option DiskState) → File place o → Staged place frame o o2 → Opened place o2 o4 → Left place frame o o4
after_all place frame None o2 o4 file staged opened = opened_option place frame None o2 o4 staged opened
after_all place frame (Some s) o2 o4 file staged opened =
    let w = file s refl in
    shown s (s4 s place frame w) place frame w o4 (opened_option place frame (Some s) o2 o4 staged opened) (fourth s place frame w)

pub all_done : (place : ℕ) (frame : List ℕ) (o o2 o4 : Option DiskState) → File place o → Staged place frame o o2 → Opened place o2 o4 → Becomes (λ s t. IsSure t × IsOpened (take place s.seen) frame t.seen) o o4
all_done place frame None o2 o4 file staged opened = opened_option place frame None o2 o4 staged opened
all_done place frame (Some s) o2 o4 file staged opened =
    let w = file s refl in (
      s4 s place frame w,
      opened_option place frame (Some s) o2 o4 staged opened,
      (
        refl,
        (
          drop (place + 1 + length frame) s.seen,
          opened_is s place frame w ∙ ap (λ (f : List ℕ). f ++ (1 ∷ (frame ++ drop (place + 1 + length frame) s.seen))) (sym (front_is s place frame w)),
        ),
      ),
    )

-- there is room for the writes
pub place_first : (place : ℕ) (o : Option DiskState) → File place o → (s : DiskState) → o ≡ Some s → place + 1 ≤ length s.seen
place_first place o file s is = let w = file s is in omega (arith, ap length w.shut.3, length-append w.front (w.shut.0 ∷ w.shut.1), w.length_front)

pub place_second : (place : ℕ) (frame : List ℕ) (o o2 : Option DiskState) → File place o → Staged place frame o o2 → (s : DiskState) → o2 ≡ Some s → place ≤ length s.seen
place_second place frame None o2 file staged s is = absurd (cc (sym is ∙ staged))
place_second place frame (Some t) o2 file staged s is =
    let same : s ≡ s2 t place frame (file t refl) = some_same s (s2 t place frame (file t refl)) (sym is ∙ staged) in
    let whole : s.seen ≡ take (place + 1) t.seen ++ (frame ++ drop (place + 1 + length frame) t.seen) = ap (λ (x : DiskState). x.seen) same in
    let first = place_first place (Some t) file t refl in
    omega (arith, ap length whole, length-append (take (place + 1) t.seen) (frame ++ drop (place + 1 + length frame) t.seen), length-take (place + 1) t.seen, first)

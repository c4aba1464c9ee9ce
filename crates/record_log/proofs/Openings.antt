-- What a crash leaves while files are opened or made.
use Rattle.std.proofs.Common.{◌≡◌, ◌⊎◌, ◌≤◌, inl, inr, ⊎_elim, ℕ, zero, suc, ◌+◌, Bool, true, false, ◌&&◌, replicate, List, [], ◌∷◌, ◌++◌, length, drop, refl, sym, ◌∙◌, ap, subst, arith}
use Rattle.std.specs.Prelude.{Option, Some, None, option_map, if◌then◌else◌}
use Rattle.std.proofs.lemmas.Bool.{cases_eq}
use Rattle.std.proofs.lemmas.Bool.Decides.{nat_tests}
use Rattle.std.proofs.lemmas.List.{append-nil, drop_all}
use Rattle.disk_core.specs.DiskModel.{Wrote, DiskState, MayLeave, LeavesOnly, FailsToWrite, Becomes, patched, changed_by, sure_now, written, synced}
use Rattle.disk_core.proofs.Moments.{started, goes_on}
use Rattle.record_log.specs.Recovery.{has_mark, is_current, records_past, records_of}
use Rattle.record_log.specs.Files.{IsEmpty, MaySync}
use Rattle.record_log.proofs.RecordReads.{shut_none}

-- a sync leaves what could be left before
pub sync_leaves : (o o' : Option DiskState) → ((s : DiskState) → o ≡ Some s → MayLeave s.now s.seen) → Becomes MaySync o o' → Becomes (λ s t. LeavesOnly s t (MayLeave s.now)) o o'
sync_leaves None o' stays told = told
sync_leaves (Some s) o' stays told =
    let at_start : LeavesOnly s s (MayLeave s.now) = started s (MayLeave s.now) (λ bytes left. left) in
    let after : LeavesOnly s (synced s) (MayLeave s.now) =
    goes_on s s (MayLeave s.now) s.seen (sure_now s.seen) at_start (λ bytes left. subst (MayLeave s.now) (sym left) (stays s refl)) in
    let P : DiskState → Type 0 = λ t. LeavesOnly s t (MayLeave s.now) in
    (told.0, told.1, ⊎_elim (λ same. subst P (sym same) at_start) (λ is. subst P (sym is) after) told.2)

abbrev Short : List ℕ → Type 0
Short bytes = length bytes ≤ 18

module _ (s : DiskState) (piece : List ℕ) (empty : IsEmpty s) (size : length piece ≡ 18) where
  none_yet : LeavesOnly s s Short
  none_yet = started s Short (λ bytes left. omega (arith, ap length (subst (λ m. MayLeave m bytes) empty.sure left ∙ empty.seen)))

  made_image : (bytes : List ℕ) → MayLeave (changed_by (Wrote 0 piece) s.now) bytes → Short bytes
  made_image bytes left =
      let torn = subst (λ m. MayLeave (changed_by (Wrote 0 piece) m) bytes) empty.sure left in
      omega (arith, ap length torn.2, torn.1.no_longer, ap length empty.seen, size)

  wrote_one : LeavesOnly s (written 0 piece s) Short
  wrote_one = goes_on s s Short (patched 0 piece s.seen) (changed_by (Wrote 0 piece) s.now) none_yet made_image

  fails_one : (t : DiskState) → FailsToWrite 0 piece s t → LeavesOnly s t Short
  fails_one t (inl same) = subst (λ (u : DiskState). LeavesOnly s u Short) (sym same) none_yet
  fails_one t (inr torn) = subst (λ (u : DiskState). LeavesOnly s u Short) (sym torn.2) (goes_on s s Short torn.0 (changed_by (Wrote 0 piece) s.now) none_yet made_image)

  written_is : (written 0 piece s).seen ≡ piece
  written_is =
      let none : drop (0 + length piece) s.seen ≡ [] = drop_all (0 + length piece) s.seen (omega (arith, ap length empty.seen)) in
      ap (λ (l : List ℕ). piece ++ l) none ∙ append-nil piece

  synced_one : LeavesOnly s (synced (written 0 piece s)) Short
  synced_one = goes_on s (written 0 piece s) Short (written 0 piece s).seen (sure_now (written 0 piece s).seen) wrote_one (λ bytes left. omega (arith, ap length (left ∙ written_is), size))

abbrev pub ShortLeft : Option DiskState → Option DiskState → Type 0
ShortLeft old new = Becomes (λ s t. LeavesOnly s t (λ bytes. length bytes ≤ 18)) old new

abbrev pub Empty : Option DiskState → Type 0
Empty o = (s : DiskState) → o ≡ Some s → IsEmpty s

pub not_made : (o o' : Option DiskState) → Empty o → o' ≡ o → ShortLeft o o'
not_made None o' empty same = same
not_made (Some s) o' empty same = (s, same, none_yet s (replicate 18 0) (empty s refl) refl)

pub failed_made : (piece : List ℕ) (o o1 o2 : Option DiskState) → length piece ≡ 18 → Empty o → o1 ≡ o → Becomes (FailsToWrite 0 piece) o1 o2 → ShortLeft o o2
failed_made piece None o1 o2 size empty same failed = subst (λ x. Becomes (FailsToWrite 0 piece) x o2) same failed
failed_made piece (Some s) o1 o2 size empty same failed =
    let told = subst (λ x. Becomes (FailsToWrite 0 piece) x o2) same failed in
    (told.0, told.1, fails_one s piece (empty s refl) size told.0 told.2)

pub sure_made : (piece : List ℕ) (o o1 o2 : Option DiskState) → length piece ≡ 18 → Empty o → o1 ≡ o → o2 ≡ option_map (λ x. synced (written 0 piece x)) o1 → ShortLeft o o2
sure_made piece None o1 o2 size empty same is = is ∙ ap (λ x. option_map (λ y. synced (written 0 piece y)) x) same
sure_made piece (Some s) o1 o2 size empty same is =
    (synced (written 0 piece s), is ∙ ap (λ x. option_map (λ y. synced (written 0 piece y)) x) same, synced_one s piece (empty s refl) size)

-- a file as short as its head and one gate has no record
pub short_past : (n : ℕ) (bytes : List ℕ) → length bytes ≤ n + 1 → (records_past n bytes ≡ Some []) ⊎ (records_past n bytes ≡ None)
short_past n [] short = inr refl
short_past zero (gate ∷ []) short = ⊎_elim (λ is. inr (open_short gate is)) (λ shut. inl (shut_none gate [] shut)) (cases_eq gate 1)
  where
    open_short : (gate : ℕ) → gate ≡ 1 → records_past 0 (gate ∷ []) ≡ None
    open_short gate is = grind (arith, nat_tests)
short_past zero (gate ∷ byte ∷ bytes) short = absurd (omega arith)
short_past (suc n) (byte ∷ bytes) short = short_past n bytes (omega arith)

-- two such files stand for no record, or for no log
pub short_files : (main spare : List ℕ) → length main ≤ 18 → length spare ≤ 18 → (records_of main spare ≡ Some []) ⊎ (records_of main spare ≡ None)
short_files main spare short_main short_spare =
    either (has_mark main && has_mark spare) (is_current main spare) (is_current spare main) (records_past 17 main) (records_past 17 spare) (short_past 17 main short_main) (short_past 17 spare short_spare)
  where
    either : (marks first second : Bool) (x y : Option (List (List ℕ))) → (x ≡ Some []) ⊎ (x ≡ None) → (y ≡ Some []) ⊎ (y ≡ None)
        → ((if marks then (if first then x else if second then y else None) else None) ≡ Some []) ⊎ ((if marks then (if first then x else if second then y else None) else None) ≡ None)
    either false first second x y is_x is_y = inr refl
    either true true second x y is_x is_y = is_x
    either true false true x y is_x is_y = is_y
    either true false false x y is_x is_y = inr refl

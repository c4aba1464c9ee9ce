-- Lines, as they are cut out of bytes.
use Rattle.std.proofs.Common.{◌≡◌, ℕ, suc, ◌<◌, ◌≤◌, List, [], ◌∷◌, Option, Some, None, Bool, true, false, cond, length, refl, ap, ◌∙◌, arith}
use Rattle.std.specs.Prelude.{◌==◌}
use Rattle.world_runs.specs.Schedule.{onto_first, onto_line, first_line, lines_of}

same_cut : (a b : List ℕ × List ℕ) → Some a ≡ Some b → a ≡ b
same_cut a b e = cc

cut_first : (b : ℕ) (bytes : List ℕ) (t : Bool) (o : Option (List ℕ × List ℕ)) (line more : List ℕ) → ((l m : List ℕ) → o ≡ Some (l, m) → lines_of bytes ≡ l ∷ lines_of m)
    → cond t (Some ([], bytes)) (onto_line (b ∷ []) o) ≡ Some (line, more) → cond t ([] ∷ lines_of bytes) (onto_first b (lines_of bytes)) ≡ line ∷ lines_of more
cut_first b bytes true o line more f h = ap (λ (p : List ℕ × List ℕ). p.0 ∷ lines_of p.1) (same_cut ([], bytes) (line, more) h)
cut_first b bytes false None line more f h = absurd (cc)
cut_first b bytes false (Some cut) line more f h =
    ap (onto_first b) (f cut.0 cut.1 refl) ∙ ap (λ (p : List ℕ × List ℕ). p.0 ∷ lines_of p.1) (same_cut (b ∷ cut.0, cut.1) (line, more) h)

-- the first line, and those of the bytes after it
pub lines_of-cut : (bytes line more : List ℕ) → first_line bytes ≡ Some (line, more) → lines_of bytes ≡ line ∷ lines_of more
unfolding lines_of
lines_of-cut [] line more h = absurd (cc)
lines_of-cut (b ∷ bytes) line more h = cut_first b bytes (b == 10) (first_line bytes) line more (λ l m e. lines_of-cut bytes l m e) h

shorter_first : (b : ℕ) (bytes : List ℕ) (t : Bool) (o : Option (List ℕ × List ℕ)) (line more : List ℕ) → ((l m : List ℕ) → o ≡ Some (l, m) → length m < length bytes)
    → cond t (Some ([], bytes)) (onto_line (b ∷ []) o) ≡ Some (line, more) → length more < suc (length bytes)
shorter_first b bytes true o line more f h = let e = ap (λ (p : List ℕ × List ℕ). length p.1) (same_cut ([], bytes) (line, more) h) in omega arith
shorter_first b bytes false None line more f h = absurd (cc)
shorter_first b bytes false (Some cut) line more f h =
    let e = ap (λ (p : List ℕ × List ℕ). length p.1) (same_cut (b ∷ cut.0, cut.1) (line, more) h) in let k = f cut.0 cut.1 refl in omega arith

-- these are fewer
pub cut_shorter : (bytes line more : List ℕ) → first_line bytes ≡ Some (line, more) → length more < length bytes
cut_shorter [] line more h = absurd (cc)
cut_shorter (b ∷ bytes) line more h = shorter_first b bytes (b == 10) (first_line bytes) line more (λ l m e. cut_shorter bytes l m e) h

last_first : (b c : ℕ) (bytes : List ℕ) (t : Bool) (o : Option (List ℕ × List ℕ)) → (o ≡ None → onto_first c (lines_of bytes) ≡ (c ∷ bytes) ∷ [])
    → cond t (Some ([], bytes)) (onto_line (c ∷ []) o) ≡ None → onto_first b (cond t ([] ∷ lines_of bytes) (onto_first c (lines_of bytes))) ≡ (b ∷ c ∷ bytes) ∷ []
last_first b c bytes true o f h = absurd (cc)
last_first b c bytes false None f h = ap (onto_first b) (f refl)
last_first b c bytes false (Some cut) f h = absurd (cc)

-- bytes without an end are one line, with a byte in front
onto_last : (b : ℕ) (bytes : List ℕ) → first_line bytes ≡ None → onto_first b (lines_of bytes) ≡ (b ∷ bytes) ∷ []
unfolding lines_of
onto_last b [] h = refl
onto_last b (c ∷ bytes) h = last_first b c bytes (c == 10) (first_line bytes) (λ e. onto_last c bytes e) h

whole_first : (b : ℕ) (bytes : List ℕ) (t : Bool) (o : Option (List ℕ × List ℕ)) → (o ≡ None → onto_first b (lines_of bytes) ≡ (b ∷ bytes) ∷ [])
    → cond t (Some ([], bytes)) (onto_line (b ∷ []) o) ≡ None → cond t ([] ∷ lines_of bytes) (onto_first b (lines_of bytes)) ≡ (b ∷ bytes) ∷ []
whole_first b bytes true o f h = absurd (cc)
whole_first b bytes false None f h = f refl
whole_first b bytes false (Some cut) f h = absurd (cc)

-- bytes without an end are one line
pub lines_of-uncut : (bytes : List ℕ) → first_line bytes ≡ None → 0 < length bytes → lines_of bytes ≡ bytes ∷ []
unfolding lines_of
lines_of-uncut [] h l = absurd (omega arith)
lines_of-uncut (b ∷ bytes) h l = whole_first b bytes (b == 10) (first_line bytes) (λ e. onto_last b bytes e) h

few_first : (b n : ℕ) (t : Bool) (lines : List (List ℕ)) → length lines ≤ n → length (cond t ([] ∷ lines) (onto_first b lines)) ≤ suc n
few_first b n true lines h = omega arith
few_first b n false [] h = omega arith
few_first b n false (line ∷ lines) h = omega arith

-- each line has a byte, or is ended by one
pub few_lines : (bytes : List ℕ) → length (lines_of bytes) ≤ length bytes
unfolding lines_of
few_lines [] = omega arith
few_lines (b ∷ bytes) = few_first b (length bytes) (b == 10) (lines_of bytes) (few_lines bytes)

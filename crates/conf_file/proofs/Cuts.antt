-- Texts with a beginning and an end.
use Rattle.std.proofs.Common.{◌≡◌, ◌≢◌, ℕ, ◌+◌, ◌-◌, Bool, true, false, List, ◌++◌, length, take, drop, length-append, Option, Some, None, Bor, if◌then◌else◌, sym, refl, ap, ◌∙◌, arith}
use Rattle.std.proofs.lemmas.List.{append_cancel_left}
use Rattle.std.proofs.lemmas.Cmp.{nat_list_eq_equiv}
use Rattle.std.proofs.Math.Seq.{drop-append_seam, take-append_seam}
use Rattle.std.specs.Cmp.Lexicographic.{same_text}
use Rattle.std.specs.Option.{MatchOption, option_copied, unwrap_or}
use Rattle.conf_file.specs.Texts.{is_same, between}

cut_there : (front back text m middle : List ℕ) → m ≡ middle → text ≡ front ++ (middle ++ back) → Some middle ≡ (if is_same text (front ++ (m ++ back)) then Some m else None)
cut_there front back text m middle same is = rw (same, ← is, nat_list_eq_equiv.refl text)

middle_is : (front middle back text : List ℕ) → text ≡ front ++ (middle ++ back) → take (length text - length front - length back) (drop (length front) text) ≡ middle
middle_is front middle back text is =
    let long : length text ≡ length front + (length middle + length back) = ap length is ∙ rw (length-append, length-append) in
    let size : length text - length front - length back ≡ length middle = omega (arith, long) in
    rw (size, is, drop-append_seam) (take-append_seam middle back)

-- what stands between the ends of a text that has both
pub between_ends : (front middle back text : List ℕ) → text ≡ front ++ (middle ++ back) → Some middle ≡ between front back text
between_ends front middle back text is = cut_there front back text _ middle (middle_is front middle back text is) is

nothing_there : (text other m : List ℕ) (b : Bool) → b ≡ is_same text other → (text ≡ other → ⊥) → None ≡ (if b then Some m else None)
nothing_there text other m true same lacks = absurd (lacks (same_text text other same))
nothing_there text other m false same lacks = refl

-- nothing stands between the ends of a text that lacks one
pub between_none : (front back text : List ℕ) → ((middle : List ℕ) → text ≡ front ++ (middle ++ back) → ⊥) → None ≡ between front back text
between_none front back text lacks = nothing_there text _ _ _ refl (lacks _)

-- a text of which the beginning is gone, and then the end
pub stripped : (front back text rest : List ℕ) (r : Option (Bor (List ℕ))) → text ≡ front ++ rest → MatchOption r ((middle : List ℕ) → rest ≢ middle ++ back) (λ x. rest ≡ x.now ++ back)
    → option_copied r ≡ between front back text
stripped front back text rest None is none = between_none front back text (λ middle e. none middle (append_cancel_left front rest (middle ++ back) (sym is ∙ e)))
stripped front back text rest (Some x) is some = between_ends front x.now back text (is ∙ ap (λ t. front ++ t) some)

found_between : (text other m middle : List ℕ) (b : Bool) → b ≡ is_same text other → (if b then Some m else None) ≡ Some middle → (text ≡ other) × (m ≡ middle)
found_between text other m middle true same is = (same_text text other same, ap (λ o. unwrap_or o m) is)
found_between text other m middle false same is = cc

-- a text with both ends is these and what stands between them
pub cut_text : (front back text middle : List ℕ) → between front back text ≡ Some middle → text ≡ front ++ (middle ++ back)
cut_text front back text middle cut =
    let (is, same) = found_between text _ _ middle _ refl cut in is ∙ ap (λ m. front ++ (m ++ back)) same

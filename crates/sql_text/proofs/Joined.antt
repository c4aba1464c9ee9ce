-- Texts that are put together from left to right.
use Rattle.std.proofs.Common.{◌≡◌, ◌++◌, List, [], ◌∷◌, ℕ, Bool, true, false, cond, Result, Ok, Err, refl, ap, ◌∙◌, append_assoc, append-nil}
use Rattle.std.specs.Prelude.{OnOk}
use Rattle.std.specs.List.{flat_map}
use Rattle.sql_text.specs.Printing.{Shown, joined_text, at_level, sign_text, part_text, sum_text}

-- texts, the first behind one text, each other behind the separator
abbrev pub behind_text : List ℕ → List ℕ → List (List ℕ) → List ℕ
behind_text before separator [] = []
behind_text before separator (x ∷ xs) = (before ++ x) ++ flat_map (λ y. separator ++ y) xs

all_behind : (separator : List ℕ) (xs : List (List ℕ)) → behind_text separator separator xs ≡ flat_map (λ y. separator ++ y) xs
all_behind separator [] = refl
all_behind separator (x ∷ xs) = refl

pub one_behind : (out before separator x : List ℕ) (xs : List (List ℕ)) → ((out ++ before) ++ x) ++ behind_text separator separator xs ≡ out ++ behind_text before separator (x ∷ xs)
one_behind out before separator x xs =
    ap (λ (l : List ℕ). ((out ++ before) ++ x) ++ l) (all_behind separator xs)
    ∙ ap (λ (l : List ℕ). l ++ flat_map (λ y. separator ++ y) xs) (append_assoc out before x)
    ∙ append_assoc out (before ++ x) (flat_map (λ y. separator ++ y) xs)

pub none_behind : (separator : List ℕ) (xs : List (List ℕ)) → behind_text [] separator xs ≡ joined_text separator xs
none_behind separator [] = refl
none_behind separator (x ∷ xs) = refl

pub on_ok : {A E : Type 0} (r : Result A E) (P Q : Type 0) → (P → Q) → OnOk r P → OnOk r Q
on_ok (Ok x) P Q f h = f h
on_ok (Err e) P Q f h = h

pub three_parts : (o p q r a b c : List ℕ) → p ≡ o ++ a → q ≡ p ++ b → r ≡ q ++ c → r ≡ o ++ (a ++ (b ++ c))
three_parts o p q r a b c e f g =
    g ∙ ap (λ (l : List ℕ). l ++ c) (f ∙ ap (λ (l : List ℕ). l ++ b) e)
    ∙ append_assoc (o ++ a) b c ∙ append_assoc o a (b ++ c)

pub four_parts : (o p q r s a b c d : List ℕ) → p ≡ o ++ a → q ≡ p ++ b → r ≡ q ++ c → s ≡ r ++ d → s ≡ o ++ (a ++ (b ++ (c ++ d)))
four_parts o p q r s a b c d e f g h =
    h ∙ ap (λ (l : List ℕ). l ++ d) (g ∙ ap (λ (l : List ℕ). l ++ c) (f ∙ ap (λ (l : List ℕ). l ++ b) e))
    ∙ append_assoc ((o ++ a) ++ b) c d ∙ append_assoc (o ++ a) b (c ++ d) ∙ append_assoc o a (b ++ (c ++ d))

-- what is left of a sum's text, behind a part or at its beginning
abbrev pub rest_of_sum : Bool → List (Bool × Shown) → List ℕ
rest_of_sum true parts = flat_map (part_text true) parts
rest_of_sum false parts = sum_text parts

-- the next part, and what is left behind it
pub next_of_sum : (further : Bool) (out : List ℕ) (part : Bool × Shown) (parts : List (Bool × Shown)) → (out ++ part_text further part) ++ rest_of_sum true parts ≡ out ++ rest_of_sum further (part ∷ parts)
next_of_sum true out part parts = append_assoc out (part_text true part) (flat_map (part_text true) parts)
next_of_sum false out part parts = append_assoc out (part_text false part) (flat_map (part_text true) parts)

pub none_of_sum : (further : Bool) (out : List ℕ) → out ++ rest_of_sum further [] ≡ out
none_of_sum true out = append-nil out
none_of_sum false out = append-nil out

-- a part of a sum, written as its sign and its text
pub part_is : (further subtracted : Bool) (shown : Shown) (out : List ℕ) → (out ++ cond further (sign_text subtracted) []) ++ at_level 1 shown ≡ out ++ part_text further (subtracted, shown)
part_is true subtracted shown out = append_assoc out (sign_text subtracted) (at_level 1 shown)
part_is false subtracted shown out = ap (λ (l : List ℕ). l ++ at_level 1 shown) (append-nil out)

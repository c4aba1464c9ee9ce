-- What a set has after a name is taken.
use Rattle.std.proofs.Common.{◌≡◌, ℕ, ◌+◌, ◌<◌, Bool, true, false, ◌||◌, cond, List, map, length, get_or, drop, Bor, is_eq, nat_cmp, refl, sym, ap, ◌∙◌}
use Rattle.std.proofs.lemmas.List.{drop_more}
use Rattle.std.specs.BTreeSet.{BTreeSet, contains, Updates}
use Rattle.std.specs.Cmp.Lexicographic.{slice_cmp, texts_ties}
use Rattle.conf_file.specs.Names.{all_free, with_name, is_among}
use Rattle.conf_file.specs.Texts.{is_same}

abbrev has : BTreeSet (List ℕ) → List ℕ → Bool
has = contains (slice_cmp nat_cmp)

or_else : (a b : Bool) → cond a true b ≡ (a || b)
or_else true b = refl
or_else false b = refl

-- the names of a set, one more being taken
pub taken_one : (name key : List ℕ) (old new : BTreeSet (List ℕ)) → key ≡ name → Updates (slice_cmp nat_cmp) old new key true → has new ≡ with_name name (has old)
taken_one name key old new same updates =
    rw (← same) (λ i other. (updates.0 other ∙ or_else (is_eq (slice_cmp nat_cmp key other)) (has old other) ∙ ap (λ b. b || has old other) (sym (texts_ties key other))) i)

or_swap : (a b t : Bool) → (a || (b || t)) ≡ ((b || a) || t)
or_swap true true t = refl
or_swap true false t = refl
or_swap false true t = refl
or_swap false false t = refl

abbrev bytes_of : List (Bor (List ℕ)) → List (List ℕ)
bytes_of names = map (λ n. n.now) names

-- a name of a list, taken beside those after it
pub take_listed : (names : List (Bor (List ℕ))) (i : ℕ) (d : Bor (List ℕ)) (taken taken' : List ℕ → Bool) (name : List ℕ) → i < length names →
    taken' ≡ with_name (get_or names i d).now taken → (is_among (bytes_of (drop (i + 1) names)) name || taken' name) ≡ (is_among (bytes_of (drop i names)) name || taken name)
take_listed names i d taken taken' name lt is =
    rw (is, drop_more names i d lt) (or_swap (is_among (bytes_of (drop (i + 1) names)) name) (is_same (get_or names i d).now name) (taken name))

or_false : (b : Bool) → (b || false) ≡ b
or_false true = refl
or_false false = refl

-- names that are taken where none was
pub taken_alone : (names : List (List ℕ)) (before after : List ℕ → Bool) → before ≡ all_free → ((name : List ℕ) → after name ≡ (is_among names name || before name)) → after ≡ is_among names
taken_alone names before after free is = λ i name. (is name ∙ ap (λ taken. is_among names name || taken name) free ∙ or_false (is_among names name)) i

-- Names that are all free differ.
use Rattle.std.proofs.Common.{◌≡◌, ℕ, Bool, true, false, ◌||◌, if◌then◌else◌, List, [], ◌∷◌, Option, Some, None, refl}
use Rattle.std.specs.List.{AllByRecursion, IsDistinct}
use Rattle.conf_file.specs.Laws.{FreeNamesDiffer}
use Rattle.conf_file.specs.Names.{all_free, with_name, first_taken}
use Rattle.conf_file.specs.Texts.{is_same}

AreFree : (List ℕ → Bool) → List (List ℕ) → Type 0
AreFree taken names = AllByRecursion (λ name. taken name ≡ false) names

neither : (a b : Bool) → (a || b) ≡ false → (a ≡ false) × (b ≡ false)
neither true b both = cc
neither false b both = (refl, both)

either : (a b : Bool) → a ≡ false → b ≡ false → (a || b) ≡ false
either a b no_a no_b = rw (no_a, no_b)

apart : (name : List ℕ) (taken : List ℕ → Bool) (names : List (List ℕ)) → AreFree (with_name name taken) names → AreFree (is_same name) names × AreFree taken names
unfolding AreFree
apart name taken [] free = (tt, tt)
apart name taken (n ∷ names) free =
    let (other, n_free) = neither (is_same name n) (taken n) free.0 in
    let (others, all_free) = apart name taken names free.1 in ((other, others), (n_free, all_free))

together : (name : List ℕ) (taken : List ℕ → Bool) (names : List (List ℕ)) → AreFree (is_same name) names → AreFree taken names → AreFree (with_name name taken) names
unfolding AreFree
together name taken [] others free = tt
together name taken (n ∷ names) others free = (either (is_same name n) (taken n) others.0 free.0, together name taken names others.1 free.1)

first_free : (b : Bool) (name : List ℕ) (rest : Option (List ℕ)) → (if b then Some name else rest) ≡ None → (b ≡ false) × (rest ≡ None)
first_free true name rest none = cc
first_free false name rest none = (refl, none)

then_differ : (taken : List ℕ → Bool) (names : List (List ℕ)) → first_taken taken names ≡ None → AreFree taken names × IsDistinct is_same names
unfolding AreFree IsDistinct
then_differ taken [] none = (tt, tt)
then_differ taken (name ∷ names) none =
    let (free, rest) = first_free (taken name) name (first_taken (with_name name taken) names) none in
    let (frees, distinct) = then_differ (with_name name taken) names rest in
    let (others, all) = apart name taken names frees in ((free, all), (others, distinct))

if_differ : (taken : List ℕ → Bool) (names : List (List ℕ)) → AreFree taken names → IsDistinct is_same names → first_taken taken names ≡ None
unfolding AreFree IsDistinct
if_differ taken [] free distinct = refl
if_differ taken (name ∷ names) free distinct = rw free.0 (if_differ (with_name name taken) names (together name taken names distinct.0 free.1) distinct.1)

all_are_free : (names : List (List ℕ)) → AreFree all_free names
unfolding AreFree
all_are_free [] = tt
all_are_free (name ∷ names) = (refl, all_are_free names)

pub free_names_differ : FreeNamesDiffer
free_names_differ names = ((λ none. (then_differ all_free names none).1), λ distinct. if_differ all_free names (all_are_free names) distinct)

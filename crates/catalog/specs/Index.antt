-- Names by their places.
use Rattle.std.specs.Prelude.{◌≡◌, ℕ, List, Option, nat_eq}
use Rattle.std.specs.List.{position}
use Rattle.std.specs.Cmp.Lexicographic.{pointwise}
use Rattle.std.specs.declared.string.String.{String}
use Rattle.std.specs.HashMap.{HashMap, get_by_text}

-- the place of the first of these names that is this one
abbrev pub place_in : List (List ℕ) → List ℕ → Option ℕ
place_in names name = position (λ (n : List ℕ). pointwise nat_eq n name) names

-- the map gives the place of each name
abbrev pub IsIndex : {Y S : Type 0} → List (List ℕ) → HashMap (String Y) ℕ S → Type 0
IsIndex names places = (name : List ℕ) → get_by_text places name ≡ place_in names name

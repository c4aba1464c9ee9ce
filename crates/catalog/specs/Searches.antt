-- What is found along a list.
use Rattle.std.specs.Prelude.{ℕ, List, [], ◌∷◌, ◌++◌, Option, Some, None, if◌then◌else◌}
use Rattle.std.specs.Option.{option_map, option_or}
use Rattle.sql_values.specs.Names.{is_name}

abbrev pub put : {Y : Type 0} → Option Y → Option (List Y) → Option (List Y)
put None ys = None
put (Some y) ys = option_map (λ others. y ∷ others) ys

-- the results for all, where there is one for each
abbrev pub each : {X Y : Type 0} → (X → Option Y) → List X → Option (List Y)
each f [] = Some []
each f (x ∷ xs) = put (f x) (each f xs)

-- results in front of others
abbrev pub in_front : {Y : Type 0} → List Y → Option (List Y) → Option (List Y)
in_front front ys = option_map (λ others. front ++ others) ys

-- the first result that there is
abbrev pub first : {X Y : Type 0} → (X → Option Y) → List X → Option Y
first f [] = None
first f (x ∷ xs) = option_or (f x) (first f xs)

-- the name that a text is
abbrev pub name_of : List ℕ → Option (List ℕ)
name_of text = if is_name text then Some text else None

-- Lists in an order.
use Rattle.std.specs.Prelude.{Bool, List, [], ◌∷◌, if◌then◌else◌}

-- the element in front of the first that doesn't come before it
abbrev pub insert_by : {X : Type 0} → (X → X → Bool) → X → List X → List X
insert_by comes_before x [] = x ∷ []
insert_by comes_before x (y ∷ ys) = if comes_before y x then y ∷ insert_by comes_before x ys else x ∷ y ∷ ys

-- the elements in the order; of elements that tie, none passes another
unfoldable pub sorted_by : {X : Type 0} → (X → X → Bool) → List X → List X
sorted_by comes_before [] = []
sorted_by comes_before (x ∷ xs) = insert_by comes_before x (sorted_by comes_before xs)

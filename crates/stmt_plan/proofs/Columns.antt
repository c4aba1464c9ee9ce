-- What the code finds among columns.
use Rattle.std.proofs.Common.{◌≡◌, ℕ, ◌+◌, Bool, not, cond, List, [], ◌∷◌, map, refl, ap}
use Rattle.std.specs.List.{position, position_or_len}
use Rattle.std.proofs.lemmas.List.{length-map}

position_or_len-map : {X Y : Type 0} (v : X → Y) (p : Y → Bool) (xs : List X) → position_or_len p (map v xs) ≡ position_or_len (λ x. p (v x)) xs
position_or_len-map v p [] = refl
position_or_len-map v p (x ∷ xs) = ap (λ (n : ℕ). cond (not (p (v x))) (1 + n) 0) (position_or_len-map v p xs)

-- a place among what is shown of a list
pub position-map : {X Y : Type 0} (v : X → Y) (p : Y → Bool) (xs : List X) → position (λ x. p (v x)) xs ≡ position p (map v xs)
position-map v p xs = rw (position_or_len-map v p xs, length-map) refl

-- The values of arrays, as code has them.
use Rattle.std.proofs.Common.{◌≡◌, List, [], ◌∷◌, map, refl, ap}
use Rattle.toml.specs.Data.{Data}
use Rattle.toml.specs.View.{items_of, view, items_view}
use Rattle.toml.specs.declared.value.Value.{Value}
use Rattle.conf_file.specs.Trees.{values_of}

values_of_list : (values : List Data) → values_of (items_of values) ≡ values
values_of_list [] = refl
values_of_list (value ∷ values) = ap (λ t. value ∷ t) (values_of_list values)

-- the values that an array is seen to have
pub values_of_view : (values : List Value) → values_of (items_view values) ≡ map view values
values_of_view values = values_of_list (map view values)

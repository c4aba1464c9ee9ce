-- A value in its place of a row.
use Rattle.std.proofs.Common.{◌≡◌, ◌<◌, ◌≤◌, ℕ, zero, suc, List, [], ◌∷◌, set, refl, arith, ap, length}
use Rattle.sql_values.specs.declared.value.Value.{Value}
use Rattle.plain_tables.specs.Updates.{with_value}

pub value_here : (row : List Value) (place : ℕ) (value : Value) → place < length row → set row place value ≡ with_value row place value
value_here [] place value inside = absurd (omega arith)
value_here (old ∷ row) zero value inside = refl
value_here (old ∷ row) (suc place) value inside = ap (λ l. old ∷ l) (value_here row place value (omega arith))

pub value_past : (row : List Value) (place : ℕ) (value : Value) → length row ≤ place → row ≡ with_value row place value
value_past [] place value past = refl
value_past (old ∷ row) zero value past = absurd (omega arith)
value_past (old ∷ row) (suc place) value past = ap (λ l. old ∷ l) (value_past row place value (omega arith))

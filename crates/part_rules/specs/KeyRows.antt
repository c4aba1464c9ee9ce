-- That what a condition says of the key column holds of each row that meets it.
use Rattle.std.specs.Prelude.{◌≡◌, ℕ, ℤ, true, List, [], ◌∷◌, Some, slice_get, FitsSigned}
use Rattle.std.specs.Int.{w64}
use Rattle.std.specs.List.{Contains}
use Rattle.sql_values.specs.declared.table.ColumnDef.{ColumnDef}
use Rattle.sql_values.specs.declared.table.TableDef.{TableDef}
use Rattle.sql_values.specs.declared.tree.Cond.{Cond}
use Rattle.sql_values.specs.declared.value.Value.{Value}
use Rattle.sql_values.specs.declared.value.Value.TheVariants as value
use Rattle.sql_values.specs.Conditions.{cond_holds}
use Rattle.sql_values.specs.declared.places.Interval.{Interval}
use Rattle.part_rules.specs.declared.rule.Rule.{Rule}
use Rattle.part_rules.specs.Keeps.{keeps}
use Rattle.sql_values.specs.KeySets.{AreKeys}
use Rattle.part_rules.specs.Placing.{part}
use Rattle.part_rules.specs.Pruned.{IsPruned}

-- no other column has the key column's name
abbrev pub HasOwnKeyName : TableDef → Type 0
HasOwnKeyName table = (j : ℕ) (other column : ColumnDef) → slice_get table.columns j ≡ Some other → slice_get table.columns table.key ≡ Some column → other.name ≡ column.name → j ≡ table.key

-- where a condition holds on a row, it keeps the row's key
abbrev pub ConditionsKeepKeys : Type 0
ConditionsKeepKeys = (table : TableDef) (row : List Value) (key : ℤ) (cond : Cond) → HasOwnKeyName table → slice_get row table.key ≡ Some (value.Number key) → cond_holds (table ∷ []) row cond ≡ true → keeps table key cond ≡ true

-- where the partitions of a condition's keys are read, no row is missed on which it holds
abbrev pub NoRowIsMissed : Type 0
NoRowIsMissed = (table : TableDef) (row : List Value) (key : ℤ) (cond : Cond) (rule : Rule) (keys : List Interval) (parts : List ℕ) (p : ℕ) → HasOwnKeyName table → slice_get row table.key ≡ Some (value.Number key) → FitsSigned w64 key
    → cond_holds (table ∷ []) row cond ≡ true → AreKeys keys (λ k. keeps table k cond) → IsPruned rule keys parts → part rule key ≡ Some p → Contains parts p

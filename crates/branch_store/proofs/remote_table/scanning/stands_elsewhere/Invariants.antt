use Rattle.std.proofs.Common.{◌≡◌, ℕ, ◌<◌, Some}
use Rattle.std.specs.Prelude.{slice_get}
use Rattle.sql_values.specs.declared.table.ColumnDef.{ColumnDef}
use Rattle.branch_store.proofs.remote_table.scanning.stands_elsewhere.Given as goal

abbrev pub invariant-loop-place : goal.invariant-loop-place
invariant-loop-place l = (j : ℕ) (other : ColumnDef) → j < l.place → slice_get l.columns j ≡ Some other → other.name ≡ l.name → j ≡ l.key

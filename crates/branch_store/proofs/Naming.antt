-- Why a name of a column is refused, by the column that it means.
use Rattle.std.proofs.Common.{◌≡◌, cond, [], ◌∷◌, ap, sym, ◌∙◌, find, Option, Some, None}
use Rattle.std.specs.Option.{is_none, option_map}
use Rattle.sql_values.specs.declared.table.ColumnDef.{ColumnDef}
use Rattle.sql_values.specs.declared.table.Kind.TheVariants.{BigInt}
use Rattle.sql_values.specs.declared.table.TableDef.{TableDef}
use Rattle.sql_values.specs.declared.tree.ColumnName.{ColumnName}
use Rattle.sql_values.specs.Columns.{column_kind}
use Rattle.sql_values.specs.Kinds.{are_comparable}
use Rattle.plain_tables.proofs.Naming.{kind_is, means, unknown_is}
use Rattle.branch_store.specs.declared.fault.BranchFault.{BranchFault}
use Rattle.branch_store.specs.declared.fault.BranchFault.TheVariants.{NoColumn}
use Rattle.branch_store.specs.Faults.{column_fault}

pub column_fault_by : (def : TableDef) (name : ColumnName) (column : Option ColumnDef) → column ≡ find (means def name) def.columns
    → cond {A = Option BranchFault} (is_none column) (Some (NoColumn name.column)) None ≡ column_fault def name
column_fault_by def name column is = ap (λ b. cond {A = Option BranchFault} b (Some (NoColumn name.column)) None) (ap is_none is ∙ sym (unknown_is def name))

pub kind_by : (def : TableDef) (name : ColumnName) (column : Option ColumnDef) → column ≡ find (means def name) def.columns
    → are_comparable (option_map (λ (c : ColumnDef). c.kind) column) (Some BigInt) ≡ are_comparable (column_kind (def ∷ []) name) (Some BigInt)
kind_by def name column is = ap (λ k. are_comparable k (Some BigInt)) (ap (option_map (λ (c : ColumnDef). c.kind)) is ∙ sym (kind_is def name))

-- The plan of a statement over the tables of a catalog.
use Rattle.std.specs.Prelude.{◌≡◌, ◌⊎◌, ℕ, List, Some, None, map, slice_get}
use Rattle.catalog.specs.declared.tables.Table.{Table}
use Rattle.catalog.specs.Index.{place_in}
use Rattle.catalog.specs.Views.{table_name}
use Rattle.sql_text.specs.declared.statement.TableStatement.{TableStatement}
use Rattle.sql_text.specs.declared.statement.TableStatement.TheVariants as statement
use Rattle.stmt_plan.specs.declared.fault.StmtFault.TheVariants.{NoMemory}
use Rattle.stmt_plan.specs.declared.planned.Plan.{Plan}
use Rattle.stmt_plan.specs.Plans.{IsPlan}
use Rattle.stmt_plan.specs.Plans.{IsTable as IsDefinition}
use Rattle.stmt_plan.specs.Refusals.{refusal}
use Rattle.catalog_plan.specs.declared.fault.PlanFault.{PlanFault}
use Rattle.catalog_plan.specs.declared.fault.PlanFault.TheVariants.{NoTable, Statement as Breaks}

-- the table that a statement names
abbrev pub table_of : TableStatement → List ℕ
table_of (statement.Insert insert) = insert.table
table_of (statement.Select select) = select.tab.table
table_of (statement.Update update) = update.table
table_of (statement.Delete delete) = delete.table

-- the table of that number has the name, and its columns' names differ
pub record IsFound (tables : List Table) (name : List ℕ) (number : ℕ) (table : Table) : Type 0 where
  pub place : place_in (map table_name tables) name ≡ Some number
  pub at : slice_get tables number ≡ Some table
  pub definition : IsDefinition table.def

-- the plan is that of the statement's table, which breaks no rule there
pub record IsPlanned (tables : List Table) (s : TableStatement) (plan : Plan) : Type 0 where
  pub number : ℕ
  pub table : Table
  pub found : IsFound tables (table_of s) number table
  pub passes : refusal table.def table.rule s ≡ None
  pub planned : IsPlan number table.def table.rule s plan

-- no table has the name; or the statement breaks this rule first, on its table; want of memory says nothing
abbrev pub IsRefused : List Table → TableStatement → PlanFault → Type 0
IsRefused tables s (NoTable name) = (name ≡ table_of s) × ((number : ℕ) (table : Table) → IsFound tables (table_of s) number table → ⊥)
IsRefused tables s (Breaks fault) = (fault ≡ NoMemory) ⊎ ((number : ℕ) × (table : Table) × IsFound tables (table_of s) number table × (refusal table.def table.rule s ≡ Some fault))

-- What statements do to stores that hold the plain tables.
use Rattle.std.specs.Prelude.{◌≡◌, ℕ, false, List, Some, None, slice_get}
use Rattle.std.specs.List.{AllByRecursion}
use Rattle.catalog.specs.declared.tables.Table.{Table}
use Rattle.catalog.specs.Conf.{IsCatalog}
use Rattle.catalog.specs.Views.{View}
use Rattle.catalog_plan.specs.Plans.{table_of}
use Rattle.sql_values.specs.declared.value.Value.{Value}
use Rattle.sql_text.specs.declared.statement.TableStatement.{TableStatement}
use Rattle.stmt_plan.specs.Plans.{work_of}
use Rattle.stmt_plan.specs.Refusals.{refusal}
use Rattle.plain_tables.specs.Partitions.{IsTable}
use Rattle.plain_tables.specs.Rows.{FitsColumns}
use Rattle.txn_phases.specs.declared.deed.Outcome.{Outcome}
use Rattle.txn_phases.specs.declared.phase.Ending.{Ending}
use Rattle.txn_phases.specs.declared.phase.Ending.TheVariants.{RolledBack}
use Rattle.txn_phases.specs.Phases.{begins}
use Rattle.front_core.specs.declared.event.TxNo.{TxNo}
use Rattle.front_core.specs.Core.{outcome_told, table_named}
use Rattle.front_core.specs.Jobs.{job_of, columns_by}
use Rattle.plain_sessions.specs.Exec.{Tables, exec, exec_on, with_rows}
use Rattle.plain_sessions.specs.Held.{CanBeServed, stores_of}
use Rattle.phase_law.specs.Through.{Through}

-- the rows are a table's: their keys rise, each lies in a partition, and each has a value for each column
pub record IsHeld (table : Table) (rows : List (List Value)) : Type 0 where
  pub rows_of : IsTable table.def table.rule rows
  pub fit : AllByRecursion (FitsColumns table.def) rows

-- so are the rows of each table of the configuration
abbrev pub AreHeld : View → Tables → Type 0
AreHeld catalog tables = (number : ℕ) (table : Table) → slice_get catalog.tables number ≡ Some table → IsHeld table (tables number)

-- a statement on a table, as a transaction on connection n: from stores that hold the tables to those that hold what it leaves of them
pub record GoesThrough (catalog : View) (tables : Tables) (n : ℕ) (tx : TxNo) (number : ℕ) (table : Table) (s : TableStatement) : Type 0 where
  pub ending : Ending
  pub outcome : Outcome
  pub through : Through 6 n false (stores_of catalog tables) (begins (job_of catalog tx table s))
      (stores_of catalog (with_rows tables number (exec_on table s (tables number)).1)) ending outcome
  -- the client is told the plain answer
  pub told : outcome_told catalog (columns_by (work_of table.def s)) table.def outcome ≡ (exec_on table s (tables number)).0
  -- what is rolled back changed nothing
  pub undone : ending ≡ RolledBack → (exec_on table s (tables number)).1 ≡ tables number

abbrev pub StatementsGoThrough : Type 0
StatementsGoThrough =
    (catalog : View) (tables : Tables) (n : ℕ) (tx : TxNo) (number : ℕ) (table : Table) (s : TableStatement) → CanBeServed catalog → AreHeld catalog tables →
    table_named catalog.tables (table_of s) ≡ Some (number, table) → refusal table.def table.rule s ≡ None → GoesThrough catalog tables n tx number table s

abbrev pub StatementsKeepTables : Type 0
StatementsKeepTables = (catalog : View) (tables : Tables) (text : List ℕ) → CanBeServed catalog → AreHeld catalog tables → AreHeld catalog (exec catalog text tables).1

-- the servers of every accepted configuration can hold its links' tables
abbrev pub ConfigurationsCanBeServed : Type 0
ConfigurationsCanBeServed = (conf : List ℕ) (catalog : View) → IsCatalog conf catalog → CanBeServed catalog

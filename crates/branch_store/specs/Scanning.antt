-- Rows found by their keys.
use Rattle.std.specs.Prelude.{◌≡◌, Bool, true, List, Option}
use Rattle.std.specs.List.{AllByRecursion}
use Rattle.sql_values.specs.declared.places.Interval.{Interval}
use Rattle.sql_values.specs.declared.table.TableDef.{TableDef}
use Rattle.sql_values.specs.declared.tree.Cond.{Cond}
use Rattle.sql_values.specs.KeySets.{has_key, is_within}
use Rattle.plain_tables.specs.Rows.{Row, HasKey, key_of, holds_on}
use Rattle.branch_store.specs.declared.branch.Change.{Change}
use Rattle.branch_store.specs.Opening.{is_definition}
use Rattle.branch_store.specs.Sound.{AreRows, FitsTable}
use Rattle.branch_store.specs.Tables.{Table}

-- the row's key lies in the interval
abbrev pub lies_within : TableDef → Interval → Row → Bool
lies_within def interval row = is_within (key_of def row) interval

-- the row's key is one of these
abbrev pub lies_among : TableDef → List Interval → Row → Bool
lies_among def keys row = has_key keys (key_of def row)

-- no row on which the condition holds has another key
abbrev pub MissesNone : TableDef → Option Cond → List Interval → Type 0
MissesNone def cond keys = (row : Row) → HasKey def row → holds_on def cond row ≡ true → lies_among def keys row ≡ true

-- the table has rows of its own, and the changes put rows of it
pub record AreOfTable (made : List Change) (table : Table) : Type 0 where
  pub definition : is_definition table.def ≡ true
  pub rows : AreRows table.def table.rows
  pub changes : AllByRecursion (λ change. FitsTable change table.def) made

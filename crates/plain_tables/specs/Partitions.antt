-- The rows of a partition, and merging.
use Rattle.std.specs.Prelude.{◌≡◌, ℕ, ◌==◌, ℤ, Bool, true, false, List, Option, map, ◌↔◌, IsSome}
use Rattle.std.specs.List.{AllByRecursion, Contains, filter, flat_map}
use Rattle.std.specs.Option.{option_map_or}
use Rattle.sql_values.specs.declared.places.Interval.{Interval}
use Rattle.sql_values.specs.declared.table.TableDef.{TableDef}
use Rattle.sql_values.specs.declared.tree.Cond.{Cond}
use Rattle.sql_values.specs.KeySets.{AreKeys}
use Rattle.part_rules.specs.declared.rule.Rule.{Rule}
use Rattle.part_rules.specs.Keeps.{keeps}
use Rattle.part_rules.specs.KeyRows.{HasOwnKeyName}
use Rattle.part_rules.specs.Placing.{part}
use Rattle.part_rules.specs.Pruned.{IsPruned}
use Rattle.plain_tables.specs.Rows.{Row, key_of, HasKey, Rises, kept}

-- the row's key lies in the partition
abbrev pub lies_in : TableDef → Rule → ℕ → Row → Bool
lies_in def rule p row = option_map_or (λ q. q == p) (part rule (key_of def row)) false

-- the rows of a partition
abbrev pub rows_in : TableDef → Rule → ℕ → List Row → List Row
rows_in def rule p rows = filter (lies_in def rule p) rows

-- the rows of a table: their keys rise, and each lies in a partition
pub record IsTable (def : TableDef) (rule : Rule) (rows : List Row) : Type 0 where
  pub rises : Rises def rows
  pub keyed : AllByRecursion (HasKey def) rows
  pub placed : AllByRecursion (λ row. IsSome (part rule (key_of def row))) rows

-- a list has exactly the rows of these lists, and its keys rise
pub record IsMerged (def : TableDef) (parts : List (List Row)) (all : List Row) : Type 0 where
  pub rises : Rises def all
  pub rows : (row : Row) → Contains all row ↔ Contains (flat_map (λ rows. rows) parts) row

-- whether a row with this key may meet the condition, where there is one
abbrev pub may_keep : TableDef → Option Cond → ℤ → Bool
may_keep def cond key = option_map_or (keeps def key) cond true

abbrev pub RowsMergeInOneWay : Type 0
RowsMergeInOneWay = (def : TableDef) (parts : List (List Row)) (a b : List Row) → IsMerged def parts a → IsMerged def parts b → a ≡ b

-- the partitions of the condition's keys have all rows on which it holds: merged, these are the table's
abbrev pub PartitionsAreMerged : Type 0
PartitionsAreMerged =
    (def : TableDef) (rule : Rule) (rows : List Row) (cond : Option Cond) (keys : List Interval) (parts : List ℕ) → HasOwnKeyName def → IsTable def rule rows →
    AreKeys keys (may_keep def cond) → IsPruned rule keys parts →
    IsMerged def (map (λ p. kept def cond (rows_in def rule p rows)) parts) (kept def cond rows)

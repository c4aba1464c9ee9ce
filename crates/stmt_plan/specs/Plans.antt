-- What a statement needs of its table's partitions.
use Rattle.std.specs.Prelude.{◌≡◌, ℕ, ◌<◌, ◌^◌, ℤ, Bool, true, List, Option, Some, None, IsSomeAnd, length, map, slice_get, unwrap_or}
use Rattle.std.specs.Option.{option_map, option_map_or}
use Rattle.sql_values.specs.declared.places.LockMode.{LockMode}
use Rattle.sql_values.specs.declared.places.LockMode.TheVariants.{Shared, Exclusive}
use Rattle.sql_values.specs.declared.table.ColumnDef.{ColumnDef}
use Rattle.sql_values.specs.declared.table.Kind.TheVariants.{BigInt}
use Rattle.sql_values.specs.declared.table.TableDef.{TableDef}
use Rattle.sql_values.specs.declared.tree.Cond.{Cond}
use Rattle.sql_values.specs.KeySets.{AreKeys}
use Rattle.part_rules.specs.declared.rule.Rule.{Rule}
use Rattle.part_rules.specs.Keeps.{keeps}
use Rattle.part_rules.specs.Pruned.{IsPruned}
use Rattle.sql_text.specs.declared.link.ScanItems.{ScanItems}
use Rattle.sql_text.specs.declared.link.ScanItems.TheVariants as scan
use Rattle.sql_text.specs.declared.statement.TableStatement.{TableStatement}
use Rattle.sql_text.specs.declared.statement.TableStatement.TheVariants as statement
use Rattle.stmt_plan.specs.declared.planned.Plan.{Plan}
use Rattle.stmt_plan.specs.declared.planned.Work.{Work}
use Rattle.stmt_plan.specs.declared.planned.Work.TheVariants as work
use Rattle.stmt_plan.specs.Inserts.{rows_of, row_key, AreRising, in_keys}
use Rattle.stmt_plan.specs.Selects.{known_as, items_by, limit_by, unqualified, work_by}
use Rattle.stmt_plan.specs.Settings.{settings}

-- a table's columns have different names, their places are numbers, and the key column is a BIGINT
pub record IsTable (table : TableDef) : Type 0 where
  pub apart : (i j : ℕ) (a b : ColumnDef) → slice_get table.columns i ≡ Some a → slice_get table.columns j ≡ Some b → a.name ≡ b.name → i ≡ j
  pub few : length table.columns < 2 ^ 32
  pub key : IsSomeAnd (slice_get table.columns table.key) (λ (column : ColumnDef). column.kind ≡ BigInt)

-- rows that are to be added or changed, or to go, are locked against all others, rows that are read against writers, or as the SELECT says
abbrev pub mode_of : TableStatement → LockMode
mode_of (statement.Select select) = unwrap_or select.lock Shared
mode_of _ = Exclusive

-- what is done with the rows that are found
abbrev pub work_of : TableDef → TableStatement → Work
work_of table (statement.Insert insert) = work.Insert (rows_of table insert.columns insert.rows)
work_of table (statement.Select select) = work_by (known_as table select.tab) select select.items
work_of table (statement.Update update) = work.Update (settings table update.sets)
work_of table (statement.Delete delete) = work.Delete

-- the condition asks for these keys, rising, without repeats
pub record AsksForKeys (table : TableDef) (keys : List ℤ) (pushed : Option Cond) : Type 0 where
  pub list : List ℤ
  pub rising : AreRising list keys
  pub in_list : pushed ≡ Some (in_keys table list)

-- an INSERT asks for its keys, each other statement for the rows of its WHERE
abbrev pub IsPushed : TableDef → TableStatement → Option Cond → Type 0
IsPushed table (statement.Insert insert) pushed = AsksForKeys table (map (row_key table.key) (rows_of table insert.columns insert.rows)) pushed
IsPushed table (statement.Select select) pushed = pushed ≡ option_map unqualified select.cond
IsPushed table (statement.Update update) pushed = pushed ≡ option_map unqualified update.cond
IsPushed table (statement.Delete delete) pushed = pushed ≡ option_map unqualified delete.cond

-- what is asked of these rows
abbrev pub items_of : TableStatement → ScanItems
items_of (statement.Select select) = items_by select.items
items_of _ = scan.All

-- of how many of them at most
abbrev pub limit_of : TableDef → TableStatement → Option ℕ
limit_of table (statement.Select select) = limit_by (known_as table select.tab) select select.items
limit_of table _ = None

-- whether a row with this key may be asked for
abbrev pub keeps_key : TableDef → Option Cond → ℤ → Bool
keeps_key table pushed key = option_map_or (keeps table key) pushed true

pub record IsPlan (number : ℕ) (table : TableDef) (rule : Rule) (s : TableStatement) (plan : Plan) : Type 0 where
  pub table_is : plan.table ≡ number
  pub parts : IsPruned rule plan.keys plan.parts
  pub keys : AreKeys plan.keys (keeps_key table plan.cond)
  pub items : plan.pushed ≡ items_of s
  pub cond : IsPushed table s plan.cond
  pub limit_is : plan.limit ≡ limit_of table s
  pub mode : plan.mode ≡ mode_of s
  pub work_is : plan.work ≡ work_of table s

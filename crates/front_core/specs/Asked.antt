-- What a statement asks of its table: of which rows, and of which partitions (MySQL Reference Manual, "Partition Pruning").
use Rattle.std.specs.Prelude.{ℕ, ◌^◌, ◌==◌, ℤ, pos, ◌-ℤ◌, Bool, false, ◌&&◌, List, [], Option, Some, map}
use Rattle.std.specs.BTreeMap.{insert_entry}
use Rattle.std.specs.List.{filter, fold, list_any, range_with_len}
use Rattle.std.specs.Map.{keys_of}
use Rattle.std.specs.Option.{option_map, option_map_or}
use Rattle.std.specs.Ordering.{int_cmp}
use Rattle.sql_values.specs.declared.table.TableDef.{TableDef}
use Rattle.sql_values.specs.declared.tree.Cond.{Cond}
use Rattle.part_rules.specs.declared.rule.Rule.{Rule}
use Rattle.part_rules.specs.Placing.{part, part_count}
use Rattle.sql_text.specs.declared.statement.TableStatement.{TableStatement}
use Rattle.sql_text.specs.declared.statement.TableStatement.TheVariants as statement
use Rattle.stmt_plan.specs.Inserts.{rows_of, row_key, in_keys}
use Rattle.stmt_plan.specs.Plans.{keeps_key}
use Rattle.stmt_plan.specs.Selects.{unqualified}

abbrev pub add_key : List (ℤ × Unit {0}) → ℤ → List (ℤ × Unit {0})
add_key entries key = insert_entry int_cmp entries key tt

-- the keys in rising order, each once
abbrev pub rising : List ℤ → List ℤ
rising keys = keys_of (fold add_key [] keys)

-- an INSERT asks for the rows with its keys, every other statement for those of its WHERE, in which columns stand without their table
abbrev pub pushed : TableDef → TableStatement → Option Cond
pushed def (statement.Insert insert) = Some (in_keys def (rising (map (row_key def.key) (rows_of def insert.columns insert.rows))))
pushed def (statement.Select select) = option_map unqualified select.cond
pushed def (statement.Update update) = option_map unqualified update.cond
pushed def (statement.Delete delete) = option_map unqualified delete.cond

-- every key of a BIGINT. It is a set to speak of: nothing ever lists it
unfoldable pub bigints : List ℤ
bigints = map (λ n. pos n -ℤ pos (2 ^ 63)) (range_with_len 0 (2 ^ 64))

-- the key lies in that partition
abbrev pub lies_at : Rule → ℕ → ℤ → Bool
lies_at rule p key = option_map_or (λ q. q == p) (part rule key) false

-- a key that passes the test lies in the partition
abbrev pub owns : Rule → (ℤ → Bool) → ℕ → Bool
owns rule test p = list_any (λ key. test key && lies_at rule p key) bigints

-- the partitions in which a key lies that passes the test, rising
unfoldable pub parts_with : Rule → (ℤ → Bool) → List ℕ
parts_with rule test = filter (owns rule test) (range_with_len 0 (part_count rule))

-- the partitions that a statement asks: those with a key that its condition keeps
abbrev pub parts_asked : TableDef → Rule → TableStatement → List ℕ
parts_asked def rule s = parts_with rule (keeps_key def (pushed def s))

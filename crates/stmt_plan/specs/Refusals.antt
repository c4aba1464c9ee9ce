-- Why a statement on a table is refused: each rule a definition of its own, and their order.
use Rattle.std.specs.Prelude.{[], ◌∷◌, Option, Some, None, map, if◌then◌else◌}
use Rattle.std.specs.Option.{option_map}
use Rattle.sql_values.specs.declared.table.TableDef.{TableDef}
use Rattle.sql_values.specs.declared.tree.Cond.{Cond}
use Rattle.sql_values.specs.Checks.{first_column, is_unknown, is_ambiguous, cond_fits}
use Rattle.part_rules.specs.declared.rule.Rule.{Rule}
use Rattle.sql_text.specs.declared.statement.TableStatement.{TableStatement}
use Rattle.sql_text.specs.declared.statement.TableStatement.TheVariants as statement
use Rattle.stmt_plan.specs.declared.fault.StmtFault.{StmtFault}
use Rattle.stmt_plan.specs.declared.fault.StmtFault.TheVariants.{NoColumn, Ambiguous, KeyChanged, TypeMismatch}
use Rattle.stmt_plan.specs.Faults.{first_of}
use Rattle.stmt_plan.specs.Inserts.{targets, unknown_target, count_fault, rows_fault, rows_of, row_key, unplaced}
use Rattle.stmt_plan.specs.Selects.{calls_fit, known_as, named_columns, where_columns}
use Rattle.stmt_plan.specs.Settings.{update_columns, settings, sets_key, sets_fault, sets_fit}

-- the first column, in the order of the text, that the table doesn't have (MySQL's 1054). UPDATE and DELETE know the table by its own name
abbrev pub no_column : TableDef → TableStatement → Option StmtFault
no_column table (statement.Insert insert) = option_map NoColumn (unknown_target table.columns insert.columns)
no_column table (statement.Select select) =
    option_map NoColumn (first_column (is_unknown (known_as table select.tab ∷ [])) (named_columns select))
no_column table (statement.Update update) = option_map NoColumn (first_column (is_unknown (table ∷ [])) (update_columns update))
no_column table (statement.Delete delete) = option_map NoColumn (first_column (is_unknown (table ∷ [])) (where_columns delete.cond))

-- the first that may be one of several (1052)
abbrev pub ambiguous : TableDef → TableStatement → Option StmtFault
ambiguous table (statement.Insert insert) = None
ambiguous table (statement.Select select) =
    option_map Ambiguous (first_column (is_ambiguous (known_as table select.tab ∷ [])) (named_columns select))
ambiguous table (statement.Update update) = option_map Ambiguous (first_column (is_ambiguous (table ∷ [])) (update_columns update))
ambiguous table (statement.Delete delete) = option_map Ambiguous (first_column (is_ambiguous (table ∷ [])) (where_columns delete.cond))

-- the key column is set (14009)
abbrev pub key_changed : TableDef → TableStatement → Option StmtFault
key_changed table (statement.Update update) = if sets_key table (settings table update.sets) then Some KeyChanged else None
key_changed table _ = None

-- the first row with another number of values than columns (1136)
abbrev pub column_count : TableDef → TableStatement → Option StmtFault
column_count table (statement.Insert insert) = count_fault table.columns (targets table.columns insert.columns) insert.rows
column_count table _ = None

-- the first value that can't be stored, by row and by column in the order of the statement: NULL (1048), of another type (14020), out of range
-- (1264), too long (1406); of an UPDATE the literals that stand alone, for NULL and type
abbrev pub value_fault : TableDef → TableStatement → Option StmtFault
value_fault table (statement.Insert insert) = rows_fault (targets table.columns insert.columns) 1 insert.rows
value_fault table (statement.Update update) = sets_fault table (settings table update.sets)
value_fault table _ = None

-- the first row whose key no partition takes (1526)
abbrev pub no_partition : TableDef → Rule → TableStatement → Option StmtFault
no_partition table rule (statement.Insert insert) = unplaced rule (map (row_key table.key) (rows_of table insert.columns insert.rows))
no_partition table rule _ = None

abbrev pub mismatch_in : TableDef → Option Cond → Option StmtFault
mismatch_in table None = None
mismatch_in table (Some cond) = if cond_fits (table ∷ []) cond then None else Some TypeMismatch

-- a sum of a column that is no BIGINT, an expression of another type than its column, a condition on values that can't be compared (14020)
abbrev pub mismatch : TableDef → TableStatement → Option StmtFault
mismatch table (statement.Insert insert) = None
mismatch table (statement.Select select) = if calls_fit (known_as table select.tab) select.items then mismatch_in (known_as table select.tab) select.cond else Some TypeMismatch
mismatch table (statement.Update update) = if sets_fit table (settings table update.sets) then mismatch_in table update.cond else Some TypeMismatch
mismatch table (statement.Delete delete) = mismatch_in table delete.cond

-- the first rule, in this order, that the statement breaks
abbrev pub refusal : TableDef → Rule → TableStatement → Option StmtFault
refusal table rule s =
    first_of (no_column table s ∷ ambiguous table s ∷ key_changed table s ∷ column_count table s ∷ value_fault table s ∷ no_partition table rule s ∷ mismatch table s ∷ [])

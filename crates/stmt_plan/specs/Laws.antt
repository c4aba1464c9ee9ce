-- What plans are for.
use Rattle.std.specs.Prelude.{◌≡◌, ℕ, ℤ, true, List, [], ◌∷◌, Some, None, FitsSigned, count_by, slice_get}
use Rattle.std.specs.Int.{w64}
use Rattle.std.specs.List.{Contains}
use Rattle.std.specs.Option.{option_map_or}
use Rattle.sql_values.specs.declared.table.ColumnDef.{ColumnDef}
use Rattle.sql_values.specs.declared.table.TableDef.{TableDef}
use Rattle.sql_values.specs.declared.tree.Cond.{Cond}
use Rattle.sql_values.specs.declared.value.Value.{Value}
use Rattle.sql_values.specs.declared.value.Value.TheVariants as value
use Rattle.sql_values.specs.Checks.{first_column, is_unknown, cond_columns}
use Rattle.sql_values.specs.Conditions.{cond_holds}
use Rattle.part_rules.specs.declared.rule.Rule.{Rule}
use Rattle.part_rules.specs.Placing.{part}
use Rattle.sql_text.specs.declared.statement.Insert.{Insert}
use Rattle.sql_text.specs.declared.statement.TableStatement.{TableStatement}
use Rattle.sql_text.specs.declared.statement.TableStatement.TheVariants as statement
use Rattle.sql_text.specs.declared.statement.Tab.{Tab}
use Rattle.stmt_plan.specs.declared.planned.Plan.{Plan}
use Rattle.stmt_plan.specs.Inserts.{is_named, targets, unknown_target, has_each_once, rows_of, row_key}
use Rattle.stmt_plan.specs.Plans.{IsTable, IsPlan}
use Rattle.stmt_plan.specs.Selects.{known_as, unqualified}

-- where each column of a condition is known, the condition without qualifiers holds on exactly the same rows
abbrev pub UnqualifiedMeansTheSame : Type 0
UnqualifiedMeansTheSame = (table : TableDef) (tab : Tab) (row : List Value) (cond : Cond) →
    first_column (is_unknown (known_as table tab ∷ [])) (cond_columns cond) ≡ None →
    cond_holds (table ∷ []) row (unqualified cond) ≡ cond_holds (known_as table tab ∷ []) row cond

-- a row on which a plan's condition holds lies in one of its partitions
abbrev pub NoRowIsMissed : Type 0
NoRowIsMissed = (number : ℕ) (table : TableDef) (rule : Rule) (s : TableStatement) (plan : Plan) (row : List Value) (key : ℤ) (p : ℕ) →
    IsTable table → IsPlan number table rule s plan → slice_get row table.key ≡ Some (value.Number key) → FitsSigned w64 key →
    option_map_or (cond_holds (table ∷ []) row) plan.cond true ≡ true → part rule key ≡ Some p → Contains plan.parts p

-- the partition of each row that is inserted is one of the plan's
abbrev pub InsertsAreCovered : Type 0
InsertsAreCovered = (number : ℕ) (table : TableDef) (rule : Rule) (insert : Insert) (plan : Plan) (row : List Value) (p : ℕ) →
    IsPlan number table rule (statement.Insert insert) plan →
    Contains (rows_of table insert.columns insert.rows) row → part rule (row_key table.key row) ≡ Some p → Contains plan.parts p

-- a list that is taken for one with each column once has each exactly once
abbrev pub ListsHaveEachOnce : Type 0
ListsHaveEachOnce = (table : TableDef) (names : List (List ℕ)) (column : ColumnDef) → IsTable table →
    unknown_target table.columns (Some names) ≡ None → has_each_once table.columns (targets table.columns (Some names)) ≡ true →
    Contains table.columns column → count_by (λ name. is_named name column) names ≡ 1

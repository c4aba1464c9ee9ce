-- A statement over partitions is the statement on the plain table.
use Rattle.std.specs.Prelude.{◌≡◌, ℕ, true, List, [], ◌∷◌, None, map}
use Rattle.std.specs.List.{AllByRecursion}
use Rattle.sql_values.specs.declared.table.TableDef.{TableDef}
use Rattle.part_rules.specs.declared.rule.Rule.{Rule}
use Rattle.sql_text.specs.declared.link.AggregateCall.{AggregateCall}
use Rattle.sql_text.specs.declared.link.LinkAnswer.{LinkAnswer}
use Rattle.sql_text.specs.declared.link.ScanItems.TheVariants.{All, Aggregates}
use Rattle.sql_text.specs.declared.statement.TableStatement.{TableStatement}
use Rattle.front_rows.specs.Aggregates.{can_merge, is_part, merged_results, over}
use Rattle.front_rows.specs.Merging.{key_order, merged_rows}
use Rattle.stmt_plan.specs.declared.planned.Plan.{Plan}
use Rattle.stmt_plan.specs.declared.planned.Work.{Work}
use Rattle.stmt_plan.specs.declared.planned.Work.TheVariants as work
use Rattle.stmt_plan.specs.Plans.{IsPlan}
use Rattle.stmt_plan.specs.Plans.{IsTable as IsDefinition}
use Rattle.stmt_plan.specs.Refusals.{refusal}
use Rattle.stmt_plan.specs.Selects.{aggregate_of, aggregates_of}
use Rattle.plain_tables.specs.Partitions.{IsTable, rows_in}
use Rattle.plain_tables.specs.Rows.{Row, FitsColumns, kept}
use Rattle.plain_tables.specs.Scans.{answered}
use Rattle.plain_tables.specs.Statements.{Answer, Found, Writes, Puts, executed, finished, applied, arranged_by}

-- WHAT PARTITIONS ANSWER

-- the answer to a plan's scan of these rows
abbrev pub scanned : TableDef → Plan → List Row → LinkAnswer
scanned def plan rows = answered def plan.pushed plan.cond plan.limit rows

-- the answers of a plan's partitions
abbrev pub part_answers : TableDef → Rule → Plan → List Row → List LinkAnswer
part_answers def rule plan rows = map (λ p. scanned def plan (rows_in def rule p rows)) plan.parts

-- WHAT A STATEMENT MAKES OF THEM

-- their rows as the statement takes them: a SELECT of columns in its order, and cut; each other one by their keys
abbrev pub gathered : TableDef → Work → List LinkAnswer → List Row
gathered def (work.Select selected) parts = merged_rows selected.order selected.skip selected.most parts
gathered def w parts = merged_rows (key_order def.key) 0 None parts

-- aggregates of their aggregates; each other statement what it makes of their rows
abbrev pub concluded : TableDef → Work → List LinkAnswer → Answer × Writes
concluded def (work.Aggregate columns) parts = (Found (merged_results (aggregates_of columns) parts ∷ []), Puts [])
concluded def w parts = finished def w (gathered def w parts)

-- LAWS

-- the rows are those that the condition keeps of the plain table, though each partition gave only its first rows where that is enough
abbrev pub RowsAreMerged : Type 0
RowsAreMerged =
    (number : ℕ) (def : TableDef) (rule : Rule) (s : TableStatement) (plan : Plan) (rows : List Row) → IsDefinition def → IsTable def rule rows → IsPlan number def rule s plan → plan.pushed ≡ All →
    gathered def plan.work (part_answers def rule plan rows) ≡ arranged_by plan.work (kept def plan.cond rows)

-- the aggregates are those over these rows
abbrev pub AggregatesAreMerged : Type 0
AggregatesAreMerged =
    (number : ℕ) (def : TableDef) (rule : Rule) (s : TableStatement) (plan : Plan) (calls : List AggregateCall) (rows : List Row) → IsDefinition def → IsTable def rule rows →
    AllByRecursion (FitsColumns def) rows → refusal def rule s ≡ None → IsPlan number def rule s plan → plan.pushed ≡ Aggregates calls →
    merged_results (map (aggregate_of def) calls) (part_answers def rule plan rows) ≡ map (λ call. over (kept def plan.cond rows) (aggregate_of def call)) calls

-- each partition's answer is one that these aggregates may give
abbrev pub AggregatesFit : Type 0
AggregatesFit =
    (number : ℕ) (def : TableDef) (rule : Rule) (s : TableStatement) (plan : Plan) (calls : List AggregateCall) (rows : List Row) → IsDefinition def → IsTable def rule rows →
    AllByRecursion (FitsColumns def) rows → refusal def rule s ≡ None → IsPlan number def rule s plan → plan.pushed ≡ Aggregates calls →
    AllByRecursion (λ answer. is_part (map (aggregate_of def) calls) answer ≡ true) (part_answers def rule plan rows)

-- and all of them can be merged: no sum passes 128 bits
abbrev pub AggregatesCanMerge : Type 0
AggregatesCanMerge =
    (number : ℕ) (def : TableDef) (rule : Rule) (s : TableStatement) (plan : Plan) (calls : List AggregateCall) (rows : List Row) → IsDefinition def → IsTable def rule rows →
    AllByRecursion (FitsColumns def) rows → refusal def rule s ≡ None → IsPlan number def rule s plan → plan.pushed ≡ Aggregates calls →
    can_merge (map (aggregate_of def) calls) (part_answers def rule plan rows) ≡ true

-- a statement that isn't refused is what it makes of the answers of its plan's partitions
abbrev pub StatementsAreMerged : Type 0
StatementsAreMerged =
    (number : ℕ) (def : TableDef) (rule : Rule) (s : TableStatement) (plan : Plan) (rows : List Row) → IsDefinition def → IsTable def rule rows → AllByRecursion (FitsColumns def) rows →
    refusal def rule s ≡ None → IsPlan number def rule s plan → executed def rule s rows ≡ applied def rows (concluded def plan.work (part_answers def rule plan rows))

-- What a scan answers of rows: a function of these rows, whether they are a whole table's or a partition's.
use Rattle.std.specs.Prelude.{ℕ, List, [], ◌∷◌, Option, Some, None, map, take}
use Rattle.sql_values.specs.declared.table.TableDef.{TableDef}
use Rattle.sql_values.specs.declared.tree.Cond.{Cond}
use Rattle.sql_text.specs.declared.link.LinkAnswer.{LinkAnswer}
use Rattle.sql_text.specs.declared.link.LinkAnswer.TheVariants.{Rows, Cells}
use Rattle.sql_text.specs.declared.link.ScanItems.{ScanItems}
use Rattle.sql_text.specs.declared.link.ScanItems.TheVariants.{All, Aggregates}
use Rattle.front_rows.specs.Aggregates.{cells_over}
use Rattle.stmt_plan.specs.Selects.{aggregate_of}
use Rattle.plain_tables.specs.Rows.{Row, kept}

-- the first rows, at most so many where there is a limit
abbrev pub first_rows : {X : Type 0} → Option ℕ → List X → List X
first_rows None rows = rows
first_rows (Some most) rows = take most rows

-- the rows themselves, or one row with the aggregates over all of them; of either at most so many
abbrev pub answer_of : TableDef → ScanItems → Option ℕ → List Row → LinkAnswer
answer_of def All limit rows = Rows (first_rows limit rows)
answer_of def (Aggregates calls) limit rows = Cells (first_rows limit (cells_over (map (aggregate_of def) calls) rows ∷ []))

-- the answer to a scan: of those of the rows on which the condition holds
abbrev pub answered : TableDef → ScanItems → Option Cond → Option ℕ → List Row → LinkAnswer
answered def items cond limit rows = answer_of def items limit (kept def cond rows)

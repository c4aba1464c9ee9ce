-- What is tested of an answer is what packets ask of it.
use Rattle.std.proofs.Common.{◌≡◌, ◌==◌, ◌&&◌, true, List, Option, Some, None, length, nat_lt}
use Rattle.std.specs.Prelude.{nat_le}
use Rattle.std.specs.List.{list_all}
use Rattle.std.proofs.lemmas.Bool.{and_parts, ltb-true, leb-true, eqb-true}
use Rattle.front_rows.specs.Cells.{Cell}
use Rattle.stmt_plan.specs.declared.planned.AnswerColumns.{AnswerColumns}
use Rattle.stmt_plan.specs.declared.planned.AnswerColumns.TheVariants as columns
use Rattle.stmt_plan.specs.declared.planned.CellColumn.{CellColumn}
use Rattle.stmt_plan.specs.declared.planned.Picks.{Picks}
use Rattle.sql_replies.specs.Outcomes.{are_short_rows, is_short_cell, AreFewPicks, AreFewCells, IsShowable}
use Rattle.txn_phases.specs.declared.deed.Outcome.{Outcome}
use Rattle.txn_phases.specs.declared.deed.Outcome.TheVariants as outcome
use Rattle.front_core.specs.Core.{are_few, are_few_cells, is_showable}

few_picks : (picks : Picks) → are_few picks ≡ true → AreFewPicks picks
few_picks picks few =
    let both = and_parts (nat_lt 0 (length picks.picks)) (nat_le (length picks.picks) 900) few in
    (ltb-true 0 (length picks.picks) both.0, leb-true (length picks.picks) 900 both.1)

few_cells : (list : List CellColumn) (cells : List Cell) → are_few_cells list cells ≡ true → AreFewCells list cells
few_cells list cells few =
    let both = and_parts (nat_lt 0 (length list) && nat_le (length list) 900) ((length cells == length list) && list_all is_short_cell cells) few in
    let number = and_parts (nat_lt 0 (length list)) (nat_le (length list) 900) both.0 in
    let whole = and_parts (length cells == length list) (list_all is_short_cell cells) both.1 in
    record {
      some = ltb-true 0 (length list) number.0;
      few = leb-true (length list) 900 number.1;
      each = eqb-true (length cells) (length list) whole.0;
      short = whole.1;
    }

pub showable_is : (list : Option AnswerColumns) (o : Outcome) → is_showable list o ≡ true → IsShowable list o
showable_is None o shown = tt
showable_is (Some (columns.Picks picks)) (outcome.Found rows) shown =
    let both = and_parts (are_few picks) (are_short_rows rows) shown in
    (few_picks picks both.0, both.1)
showable_is (Some (columns.Picks picks)) (outcome.Cells cells) shown = tt
showable_is (Some (columns.Picks picks)) (outcome.Done count) shown = tt
showable_is (Some (columns.Picks picks)) (outcome.Duplicate key) shown = tt
showable_is (Some (columns.Picks picks)) (outcome.RowRefused fault) shown = tt
showable_is (Some (columns.Picks picks)) outcome.AnswerLimit shown = tt
showable_is (Some (columns.Picks picks)) outcome.WriteSetLimit shown = tt
showable_is (Some (columns.Picks picks)) (outcome.Refused refusal) shown = tt
showable_is (Some (columns.Cells list)) (outcome.Found rows) shown = tt
showable_is (Some (columns.Cells list)) (outcome.Cells cells) shown = few_cells list cells shown
showable_is (Some (columns.Cells list)) (outcome.Done count) shown = tt
showable_is (Some (columns.Cells list)) (outcome.Duplicate key) shown = tt
showable_is (Some (columns.Cells list)) (outcome.RowRefused fault) shown = tt
showable_is (Some (columns.Cells list)) outcome.AnswerLimit shown = tt
showable_is (Some (columns.Cells list)) outcome.WriteSetLimit shown = tt
showable_is (Some (columns.Cells list)) (outcome.Refused refusal) shown = tt

-- what is told in place of too large an answer always is
pub limit_showable : (list : Option AnswerColumns) → IsShowable list outcome.AnswerLimit
limit_showable None = tt
limit_showable (Some (columns.Picks picks)) = tt
limit_showable (Some (columns.Cells list)) = tt

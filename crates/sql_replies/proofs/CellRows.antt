-- A row of short cells fits a packet.
use Rattle.std.proofs.Common.{◌≡◌, ◌≤◌, ◌*◌, List, [], ◌∷◌, length, Some, None, arith, true}
use Rattle.std.specs.List.{list_all}
use Rattle.std.proofs.lemmas.List.{length-append}
use Rattle.std.proofs.lemmas.Bool.Decides.{nat_tests}
use Rattle.my_messages.specs.Reply.{RowFits, cell_bytes, row_bytes}
use Rattle.stmt_plan.specs.declared.planned.CellColumn.{CellColumn}
use Rattle.front_rows.specs.Cells.{Cell}
use Rattle.sql_replies.specs.Outcomes.{AreFewCells, is_short_cell}
use Rattle.sql_replies.proofs.Shaped.{left, right}
use Rattle.sql_replies.proofs.Fits.{text_is_short}

short_cell : (cell : Cell) → is_short_cell cell ≡ true → length (cell_bytes cell) ≤ 1027
short_cell None h = omega arith
short_cell (Some text) h = let short : length text ≤ 1024 = grind (arith, nat_tests) in omega (arith, text_is_short text short)

short_row : (cells : List Cell) → list_all is_short_cell cells ≡ true → length (row_bytes cells) ≤ 1027 * length cells
short_row [] h = omega arith
short_row (cell ∷ cells) h =
    omega (
      arith,
      length-append (cell_bytes cell) (row_bytes cells),
      short_cell cell (left (is_short_cell cell) (list_all is_short_cell cells) h),
      short_row cells (right (is_short_cell cell) (list_all is_short_cell cells) h),
    )

pub few_cells_fit : (list : List CellColumn) (cells : List Cell) → AreFewCells list cells → RowFits (length list) cells
few_cells_fit list cells few = (few.each, omega (arith, short_row cells few.short, few.few, few.each))

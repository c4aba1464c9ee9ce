use Rattle.std.proofs.Common.{◌≡◌, ◌∙◌, length, arith, ap}
use Rattle.std.proofs.lemmas.List.{length-map}
use Rattle.my_messages.specs.Reply.{RowFits}
use Rattle.sql_replies.specs.Results.{cell_column_of}
use Rattle.sql_replies.proofs.CellRows.{few_cells_fit}
use Rattle.sql_replies.proofs.results.shown_cells.Goals as goal

pub returns-clause-bytes : goal.returns-clause-bytes
returns-clause-bytes c few =
    let width : length c.in_ok-cell_columns.field-0 ≡ length c.args.columns.now = ap length c.in_ok-cell_columns.ensures.columns ∙ length-map c.args.columns.now cell_column_of in
    let row : RowFits (length c.in_ok-cell_columns.field-0) c.args.cells.now = rw width (few_cells_fit c.args.columns.now c.args.cells.now few) in
    (omega (arith, few.some, width), c.in_ok-cell_columns.ensures.fit, rw (c.in_ok-push.ensures.ok, c.new-rows.ensures, c.in_ok-copied.ensures) (row, tt))

use Rattle.std.proofs.Common.{◌≡◌, ◌≤◌, true, map, take, length}
use Rattle.std.specs.List.{AllByRecursion}
use Rattle.my_messages.specs.Reply.{RowFits}
use Rattle.sql_replies.specs.Results.{cells_of}
use Rattle.sql_replies.specs.Outcomes.{are_short_rows}
use Rattle.sql_replies.proofs.results.all_cells.Given as goal

abbrev pub invariant-loop-row : goal.invariant-loop-row
invariant-loop-row l = record {
  made : l.all.items ≡ map (cells_of l.picks) (take l.row-index l.rows);
  fit : length l.picks ≤ 900 → are_short_rows l.rows ≡ true → AllByRecursion (RowFits (length l.picks)) l.all.items;
}

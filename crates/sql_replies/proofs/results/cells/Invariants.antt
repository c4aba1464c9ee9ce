use Rattle.std.proofs.Common.{◌≡◌, ◌≤◌, ◌*◌, true, map, take, length}
use Rattle.std.specs.List.{list_all}
use Rattle.my_messages.specs.Reply.{row_bytes}
use Rattle.txn_phases.specs.Phases.{is_short}
use Rattle.sql_replies.specs.Results.{cell_of}
use Rattle.sql_replies.proofs.results.cells.Given as goal

abbrev pub invariant-loop-pick : goal.invariant-loop-pick
invariant-loop-pick l = record {
  made : l.cells.items ≡ map (cell_of l.row) (take l.pick-index l.picks);
  fit : list_all is_short l.row ≡ true → length (row_bytes l.cells.items) ≤ 1027 * l.pick-index;
}

use Rattle.std.proofs.Common.{◌≡◌, ◌-◌}
use Rattle.my_messages.specs.Reading.{cells_at}
use Rattle.my_messages.proofs.Rows.{after_cells}
use Rattle.my_messages.proofs.row.row.Given as goal

-- what was read, with what is left, is the whole row
abbrev pub invariant-loop : goal.invariant-loop
invariant-loop l = after_cells l.cells (cells_at (l.width - l.counter) l.rest) ≡ cells_at l.width l.bytes

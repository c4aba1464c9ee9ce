use Rattle.std.proofs.Common.{◌≡◌, ◌++◌, drop}
use Rattle.my_messages.specs.Reply.{row_bytes}
use Rattle.my_messages.proofs.encode.put_row.Given as goal

-- what is written, with what the values left have, is the row
abbrev pub invariant-loop-cell : goal.invariant-loop-cell
invariant-loop-cell l = l.out ++ row_bytes (drop l.cell-index l.row) ≡ l.fn.out ++ row_bytes l.row

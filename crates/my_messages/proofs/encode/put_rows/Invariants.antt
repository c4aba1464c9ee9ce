use Rattle.std.proofs.Common.{◌≡◌, ◌++◌, drop, map}
use Rattle.std.specs.List.{AllByRecursion}
use Rattle.my_wire.specs.Packets.{packets, next_after}
use Rattle.my_messages.specs.Reply.{RowFits, row_bytes}
use Rattle.my_messages.proofs.encode.put_rows.Given as goal

-- what is written, with the packets left, is the whole
abbrev pub invariant-loop-row : goal.invariant-loop-row
invariant-loop-row l = record {
  bytes : l.out ++ packets l.number (map row_bytes (drop l.row-index l.rows)) ≡ l.fn.out ++ packets l.seq (map row_bytes l.rows);
  next : next_after l.number (map row_bytes (drop l.row-index l.rows)) ≡ next_after l.seq (map row_bytes l.rows);
  fit : AllByRecursion (RowFits l.width) (drop l.row-index l.rows);
}

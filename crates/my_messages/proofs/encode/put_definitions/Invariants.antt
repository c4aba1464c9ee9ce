use Rattle.std.proofs.Common.{◌≡◌, ◌++◌, drop, map}
use Rattle.std.specs.List.{AllByRecursion}
use Rattle.my_wire.specs.Packets.{packets, next_after}
use Rattle.my_messages.specs.Reply.{DefinitionFits, definition_bytes}
use Rattle.my_messages.proofs.encode.put_definitions.Given as goal

-- what is written, with the packets left, is the whole
abbrev pub invariant-loop-column : goal.invariant-loop-column
invariant-loop-column l = record {
  bytes : l.out ++ packets l.number (map definition_bytes (drop l.column-index l.columns)) ≡ l.fn.out ++ packets l.seq (map definition_bytes l.columns);
  next : next_after l.number (map definition_bytes (drop l.column-index l.columns)) ≡ next_after l.seq (map definition_bytes l.columns);
  fit : AllByRecursion DefinitionFits (drop l.column-index l.columns);
}

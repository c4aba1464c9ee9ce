use Rattle.std.proofs.Common.{◌≡◌, ◌++◌, drop}
use Rattle.std.specs.List.{flat_map}
use Rattle.sql_text.specs.Printing.{escaped}
use Rattle.sql_text.proofs.printing.push_quoted.Given as goal

-- what is added so far, and what is left to add, is the whole text
abbrev pub invariant-loop-byte : goal.invariant-loop-byte
invariant-loop-byte l = l.out.items ++ flat_map escaped (drop l.byte-index l.text) ≡ l.initial.out.items ++ flat_map escaped l.text

use Rattle.std.proofs.Common.{◌≡◌, ◌≤◌, min, drop}
use Rattle.sql_text.specs.Tokens.{value_after}
use Rattle.sql_text.specs.Lexing.{cap}
use Rattle.sql_text.proofs.lexer.digits.value.Given as goal

-- the digits that are left make of the value what all of them make
abbrev pub invariant-loop-byte : goal.invariant-loop-byte
invariant-loop-byte l = record {
  small : l.value ≤ cap;
  goes_on : min (value_after l.value (drop l.byte-index l.digits)) cap ≡ min (value_after 0 l.digits) cap;
}

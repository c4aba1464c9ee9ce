use Rattle.std.proofs.Common.{◌≡◌, take, drop}
use Rattle.sql_text.specs.Tokens.{up_to}
use Rattle.sql_text.specs.Lexing.{onto_all}
use Rattle.sql_text.proofs.lexer.quoted.split_before.Given as goal

-- what is passed, and what is found in the rest
abbrev pub invariant-loop-i : goal.invariant-loop-i
invariant-loop-i l = onto_all (take l.i l.bytes) (up_to l.stop (drop l.i l.bytes)) ≡ up_to l.stop l.bytes

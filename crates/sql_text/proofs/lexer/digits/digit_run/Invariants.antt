use Rattle.std.proofs.Common.{◌≡◌, ◌++◌, take, drop}
use Rattle.std.specs.Char.{is_ascii_digit}
use Rattle.sql_text.specs.Tokens.{run}
use Rattle.sql_text.proofs.lexer.digits.digit_run.Given as goal

-- all that is passed is in the run
abbrev pub invariant-loop-i : goal.invariant-loop-i
invariant-loop-i l = run is_ascii_digit l.bytes ≡ (take l.i l.bytes ++ (run is_ascii_digit (drop l.i l.bytes)).0, (run is_ascii_digit (drop l.i l.bytes)).1)

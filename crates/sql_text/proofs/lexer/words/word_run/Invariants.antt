use Rattle.std.proofs.Common.{◌≡◌, ◌++◌, take, drop}
use Rattle.sql_values.specs.Names.{continues_name as may_continue}
use Rattle.sql_text.specs.Tokens.{run}
use Rattle.sql_text.proofs.lexer.words.word_run.Given as goal

-- all that is passed is in the run
abbrev pub invariant-loop-i : goal.invariant-loop-i
invariant-loop-i l = run may_continue l.bytes ≡ (take l.i l.bytes ++ (run may_continue (drop l.i l.bytes)).0, (run may_continue (drop l.i l.bytes)).1)

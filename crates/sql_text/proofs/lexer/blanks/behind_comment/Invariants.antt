use Rattle.std.proofs.Common.{◌≡◌, length, false}
use Rattle.sql_text.specs.Tokens.{comment_end}
use Rattle.sql_text.proofs.lexer.blanks.behind_comment.Given as goal

abbrev pub invariant-loop-rest : goal.invariant-loop-rest
invariant-loop-rest l = comment_end l.star l.rest ≡ comment_end false l.bytes

abbrev pub decreases-loop-rest : goal.decreases-loop-rest
decreases-loop-rest l = length l.rest

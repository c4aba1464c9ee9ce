use Rattle.std.proofs.Common.{◌≡◌, length}
use Rattle.sql_text.specs.Tokens.{is_word as word_is}
use Rattle.sql_text.proofs.lexer.words.is_word.Given as goal

abbrev pub invariant-loop-rest : goal.invariant-loop-rest
invariant-loop-rest l = word_is l.expected l.rest ≡ word_is l.initial.expected l.initial.rest

abbrev pub decreases-loop-rest : goal.decreases-loop-rest
decreases-loop-rest l = length l.rest

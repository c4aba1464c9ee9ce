use Rattle.std.proofs.Common.{◌≡◌, length}
use Rattle.sql_text.specs.Tokens.{Plain, text_from}
use Rattle.sql_text.specs.Lexing.{onto_all}
use Rattle.sql_text.proofs.lexer.quoted.quoted_text.Given as goal

-- what is read, and the text of what is left
abbrev pub invariant-loop-text : goal.invariant-loop-text
invariant-loop-text l = onto_all l.text.items (text_from l.quote Plain l.rest) ≡ text_from l.quote Plain l.bytes

abbrev pub decreases-loop-text : goal.decreases-loop-text
decreases-loop-text l = length l.rest

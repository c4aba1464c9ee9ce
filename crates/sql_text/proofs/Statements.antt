-- A text is parsed as a statement.
use Rattle.std.proofs.Common.{◌≡◌, ℕ, List, ◌∷◌, Result, Ok, Err, ◌⊎◌}
use Rattle.std.specs.Prelude.{IfOk, IfErr}
use Rattle.std.specs.Str.{IsUtf8}
use Rattle.sql_text.specs.declared.statement.Statement.{Statement}
use Rattle.sql_text.specs.declared.fault.Stop.{Stop}
use Rattle.sql_text.specs.declared.fault.ParseFault.{ParseFault}
use Rattle.sql_text.specs.declared.fault.ParseFault.TheVariants.{NoMemory}
use Rattle.sql_text.specs.Tokens.{tokens_of}
use Rattle.sql_text.specs.Grammar.{statement, most_openings, IsStatement}
use Rattle.sql_text.specs.Reading.{body_at, statement_at}
use Rattle.sql_text.specs.Places.{IsFirstBad}
use Rattle.sql_text.specs.Parsing.{parsed, IsParsed, IsNoStatement}
use Rattle.sql_text.proofs.Parses as parses
use Rattle.sql_text.proofs.StatementRules.{firsts, furthers as parts_further, whole_field}
use Rattle.sql_text.proofs.Wholes as wholes

abbrev furthers : List ℕ
furthers = 18 ∷ parts_further

is_read : (text : List ℕ) (s : Statement) → statement_at most_openings (tokens_of text) ≡ Ok s → IsStatement (tokens_of text) s
unfolding statement_at
is_read text s h = wholes.read_found statement body_at firsts furthers whole_field most_openings (tokens_of text) s h

reads : (text : List ℕ) (s : Statement) → IsStatement (tokens_of text) s → statement_at most_openings (tokens_of text) ≡ Ok s
unfolding statement_at
reads text s h = wholes.read_again statement body_at firsts furthers whole_field most_openings s (tokens_of text) h

stops : (text : List ℕ) (stop : Stop) → statement_at most_openings (tokens_of text) ≡ Err stop → IsFirstBad statement most_openings stop.deep (tokens_of text) stop.left
unfolding statement_at
stops text stop h = wholes.read_bad statement body_at firsts furthers whole_field most_openings (tokens_of text) stop h

pub found : (text : List ℕ) (r : Result Statement ParseFault) → IsParsed r (parsed text) → IfOk r (λ s. IsUtf8 text × IsStatement (tokens_of text) s)
unfolding parsed
found text r h = parses.found statement most_openings (tokens_of text) (statement_at most_openings (tokens_of text)) text (is_read text) (reads text) (stops text) r h

pub only : (text : List ℕ) (r : Result Statement ParseFault) (s : Statement) → IsParsed r (parsed text) → IsUtf8 text → IsStatement (tokens_of text) s → (r ≡ Err NoMemory) ⊎ (r ≡ Ok s)
unfolding parsed
only text r s h u i = parses.only statement most_openings (tokens_of text) (statement_at most_openings (tokens_of text)) text (is_read text) (reads text) (stops text) r s h u i

pub refused : (text : List ℕ) (r : Result Statement ParseFault) → IsParsed r (parsed text) → IfErr r (λ e. IsNoStatement text e)
unfolding parsed
refused text r h = parses.refused statement most_openings (tokens_of text) (statement_at most_openings (tokens_of text)) text (is_read text) (reads text) (stops text) r h

pub again : (text : List ℕ) (s : Statement) → IsUtf8 text → IsStatement (tokens_of text) s → parsed text ≡ Ok s
unfolding parsed
again text s u i = parses.answered_again statement most_openings (tokens_of text) (statement_at most_openings (tokens_of text)) text (is_read text) (reads text) (stops text) s u i

-- A link text is parsed as a request.
use Rattle.std.proofs.Common.{◌≡◌, ℕ, List, [], ◌∷◌, Result, Ok, Err, ◌⊎◌}
use Rattle.std.specs.Prelude.{IfOk, IfErr}
use Rattle.std.specs.Str.{IsUtf8}
use Rattle.sql_text.specs.declared.link.LinkRequest.{LinkRequest}
use Rattle.sql_text.specs.declared.fault.Stop.{Stop}
use Rattle.sql_text.specs.declared.fault.ParseFault.{ParseFault}
use Rattle.sql_text.specs.declared.fault.ParseFault.TheVariants.{NoMemory}
use Rattle.sql_text.specs.Tokens.{link_tokens_of}
use Rattle.sql_text.specs.LinkGrammar.{request, most_link_openings, IsRequest}
use Rattle.sql_text.specs.LinkReading.{request_body_at, request_at}
use Rattle.sql_text.specs.Places.{IsFirstBad}
use Rattle.sql_text.specs.Parsing.{link_parsed, IsParsed, IsNoRequest}
use Rattle.sql_text.proofs.Parses as parses
use Rattle.sql_text.proofs.LinkRules.{request_field}
use Rattle.sql_text.proofs.Wholes as wholes

abbrev firsts : List ℕ
firsts = 45 ∷ 10 ∷ 39 ∷ 28 ∷ []

abbrev furthers : List ℕ
furthers = 18 ∷ 15 ∷ []

is_read : (text : List ℕ) (s : LinkRequest) → request_at most_link_openings (link_tokens_of text) ≡ Ok s → IsRequest (link_tokens_of text) s
unfolding request_at
is_read text s h = wholes.read_found request request_body_at firsts furthers request_field most_link_openings (link_tokens_of text) s h

reads : (text : List ℕ) (s : LinkRequest) → IsRequest (link_tokens_of text) s → request_at most_link_openings (link_tokens_of text) ≡ Ok s
unfolding request_at
reads text s h = wholes.read_again request request_body_at firsts furthers request_field most_link_openings s (link_tokens_of text) h

stops : (text : List ℕ) (stop : Stop) → request_at most_link_openings (link_tokens_of text) ≡ Err stop → IsFirstBad request most_link_openings stop.deep (link_tokens_of text) stop.left
unfolding request_at
stops text stop h = wholes.read_bad request request_body_at firsts furthers request_field most_link_openings (link_tokens_of text) stop h

pub found : (text : List ℕ) (r : Result LinkRequest ParseFault) → IsParsed r (link_parsed text) → IfOk r (λ s. IsUtf8 text × IsRequest (link_tokens_of text) s)
unfolding link_parsed
found text r h = parses.found request most_link_openings (link_tokens_of text) (request_at most_link_openings (link_tokens_of text)) text (is_read text) (reads text) (stops text) r h

pub only : (text : List ℕ) (r : Result LinkRequest ParseFault) (s : LinkRequest) → IsParsed r (link_parsed text) → IsUtf8 text → IsRequest (link_tokens_of text) s → (r ≡ Err NoMemory) ⊎ (r ≡ Ok s)
unfolding link_parsed
only text r s h u i = parses.only request most_link_openings (link_tokens_of text) (request_at most_link_openings (link_tokens_of text)) text (is_read text) (reads text) (stops text) r s h u i

pub refused : (text : List ℕ) (r : Result LinkRequest ParseFault) → IsParsed r (link_parsed text) → IfErr r (λ e. IsNoRequest text e)
unfolding link_parsed
refused text r h = parses.refused request most_link_openings (link_tokens_of text) (request_at most_link_openings (link_tokens_of text)) text (is_read text) (reads text) (stops text) r h

pub again : (text : List ℕ) (s : LinkRequest) → IsUtf8 text → IsRequest (link_tokens_of text) s → link_parsed text ≡ Ok s
unfolding link_parsed
again text s u i = parses.answered_again request most_link_openings (link_tokens_of text) (request_at most_link_openings (link_tokens_of text)) text (is_read text) (reads text) (stops text) s u i

-- What is printed of a statement is a text of it.
use Rattle.std.proofs.Common.{ℕ, List, refl, sym, subst}
use Rattle.std.specs.Str.{IsUtf8}
use Rattle.sql_text.specs.declared.statement.Statement.{Statement}
use Rattle.sql_text.specs.declared.token.Token.{Token}
use Rattle.sql_text.specs.Tokens.{placed_tokens, tokens_of}
use Rattle.sql_text.specs.Grammar.{statement, most_openings, IsStatement}
use Rattle.sql_text.specs.Printing.{printed}
use Rattle.sql_text.proofs.Written.{atom_tokens}
use Rattle.sql_text.proofs.Lexemes.{Fixes}
use Rattle.sql_text.proofs.Sound.{tokens_sound}
use Rattle.sql_text.proofs.RespelledStatements.{statement_told}

abbrev same : Token → Token
same t = t

same_fixes : Fixes same
same_fixes = record { fixed = λ f. refl; quoted = λ n. refl; digits = λ z. refl; signed = λ z. refl; text = λ t. refl }

pub printed_read : (text : List ℕ) (s : Statement) → IsStatement (tokens_of text) s → IsUtf8 (printed s) × IsStatement (tokens_of (printed s)) s
unfolding tokens_of placed_tokens
printed_read text s h =
    let a = statement_told same same_fixes most_openings s (tokens_of text) h (tokens_sound text) in
    (a.2.utf8, subst (λ (ts : List Token). statement most_openings s ts) (sym (atom_tokens same (printed s) a.0 a.2)) a.1)

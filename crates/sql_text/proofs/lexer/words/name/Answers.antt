use Rattle.std.proofs.Common.{◌≡◌, Some, None, true, cond, ap, ◌∙◌, List, ℕ}
use Rattle.sql_values.specs.Names.{is_name}
use Rattle.sql_text.proofs.Bytes.{name_utf8}
use Rattle.sql_text.proofs.lexer.words.name.Goals as goal

pub returns : goal.returns
returns c =
    let yes : is_name c.args.bytes.now ≡ true = cc in
    let text : c.from_string-text.result ≡ c.args.bytes.now = c.from_string-text.ensures ∙ c.in_ok-from_utf8_lossy.ensures.ok (name_utf8 c.args.bytes.now yes) in
    c.name_of_text.ensures ∙ ap (λ (t : List ℕ). cond (is_name t) (Some t) None) text

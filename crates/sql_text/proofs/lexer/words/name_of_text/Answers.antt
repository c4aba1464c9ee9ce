use Rattle.std.proofs.Common.{◌≡◌, false, true, refl}
use Rattle.sql_text.proofs.Bytes.{name_found, name_missed}
use Rattle.sql_text.proofs.lexer.words.name_of_text.Goals as goal

pub returns-in-Ok : goal.returns-in-Ok
returns-in-Ok c = name_found c.args.text c.in-Ok.name c.in-Ok.ensures.ok (λ k. let f : false ≡ true = c.in-Ok.ensures.exact.1 k in cc)

pub returns : goal.returns
returns c = name_missed c.args.text (c.in-Err.ensures.exact.0 refl)

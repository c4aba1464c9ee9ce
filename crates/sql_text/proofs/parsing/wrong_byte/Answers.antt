use Rattle.std.proofs.Common.{Some, ap, sym, ◌∙◌}
use Rattle.sql_text.proofs.Parses.{utf8_none, not_utf8_some}
use Rattle.sql_text.proofs.parsing.wrong_byte.Goals as goal

pub returns-in-Ok : goal.returns-in-Ok
returns-in-Ok c = sym (utf8_none c.args.text.now c.in-Ok.ensures.cases.1)

pub returns-in-Err : goal.returns-in-Err
returns-in-Err c = ap Some (c.valid_up_to.ensures ∙ c.in-Err.ensures.valid_len) ∙ sym (not_utf8_some c.args.text.now c.in-Err.ensures.cases.0)

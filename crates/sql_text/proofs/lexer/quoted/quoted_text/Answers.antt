use Rattle.std.proofs.Common.{◌≡◌, Some, ap, sym, ◌∙◌}
use Rattle.sql_text.specs.Tokens.{Plain, text_from}
use Rattle.sql_text.specs.Lexing.{onto_all, piece_at, text_by, Piece}
use Rattle.std.proofs.Common.{Option}
use Rattle.sql_text.proofs.Bytes.{text_is, onto_again}
use Rattle.sql_text.proofs.lexer.quoted.quoted_text.Goals as goal

pub loop-text-preserved : goal.loop-text-preserved
loop-text-preserved c =
    let p : Some (Some c.in-Some-Some-default.byte, c.in-Some-Some-default.behind.now) ≡ piece_at c.args.quote c.loop-text.rest.now = rw c.in-Some-Some-default.field-0-0-is at c.in-Some-Some-default.ensures.value in
    rw c.in_ok-push-in-Some-Some-default.ensures.items
    (onto_again c.loop-text.text.items c.in-Some-Some-default.byte (text_from c.args.quote Plain c.in-Some-Some-default.behind.now)
    ∙ ap (onto_all c.loop-text.text.items) (ap (λ (o : Option Piece). text_by o (text_from c.args.quote Plain)) p ∙ sym (text_is c.args.quote c.loop-text.rest.now))
    ∙ c.loop-text.invariant)

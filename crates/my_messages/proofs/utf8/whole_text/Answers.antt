use Rattle.std.proofs.Common.{◌∙◌, sym, ap, List, ℕ, Ok}
use Rattle.my_messages.proofs.Texts.{all_utf8, utf8_all}
use Rattle.my_messages.proofs.utf8.whole_text.Goals as goal

pub unreachable-requires : goal.unreachable-requires
unreachable-requires c = c.in-Err.ensures.cases.0 (all_utf8 c.args.bytes.now (sym c.in-None.ensures))

pub returns-in_ok-from_str-in-Ok : goal.returns-in_ok-from_str-in-Ok
returns-in_ok-from_str-in-Ok c =
    utf8_all c.args.bytes.now c.in-Ok.ensures.cases.1 ∙ ap (λ (t : List ℕ). Ok t) (sym c.in-Ok.ensures.cases.0 ∙ sym c.in_ok-from_str-in-Ok.ensures)

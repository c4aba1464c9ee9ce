use Rattle.std.proofs.Common.{arith, subst, sym, take, ◌≡◌}
use Rattle.std.specs.Str.{IsUtf8}
use Rattle.my_messages.proofs.Texts.{utf8_sized, sized_utf8}
use Rattle.my_messages.proofs.utf8.front_text.Goals as goal

pub returns-in-Ok-clause-text : goal.returns-in-Ok-clause-text
returns-in-Ok-clause-text c =
    let front : c.split_at.result.0.now ≡ take c.args.size c.args.bytes.now = c.split_at.ensures.front in
    let is_text = utf8_sized c.args.size c.args.bytes.now (omega arith) (subst IsUtf8 front c.in-Ok.ensures.cases.1) in grind (arith, is_text)

pub returns-in-Err-clause-none : goal.returns-in-Err-clause-none
returns-in-Err-clause-none c = λ e. c.in-Err.ensures.cases.0 (subst IsUtf8 (let front : c.split_at.result.0.now ≡ take c.args.size c.args.bytes.now = c.split_at.ensures.front in sym front) (sized_utf8 c.args.size c.args.bytes.now e).1)

pub returns-else-bytes-size-clause-none : goal.returns-else-bytes-size-clause-none
returns-else-bytes-size-clause-none c = λ e. let h = (sized_utf8 c.args.size c.args.bytes.now e).0 in omega arith

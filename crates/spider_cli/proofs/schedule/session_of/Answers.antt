use Rattle.std.proofs.Common.{◌∙◌, ap, sym, arith}
use Rattle.std.specs.Prelude.{nat_eq}
use Rattle.std.specs.Cmp.Lexicographic.{pointwise}
use Rattle.spider_cli.proofs.Sessions.{session_found, no_session}
use Rattle.spider_cli.proofs.schedule.session_of.Goals as goal

pub returns-then-number-eq0 : goal.returns-then-number-eq0
returns-then-number-eq0 c = no_session c.args.word.now c.number_of-number.result c.number_of-number.ensures (λ low high. absurd (omega arith))

pub returns-then-eq : goal.returns-then-eq
returns-then-eq c = session_found c.args.word.now c.number_of-number.result c.number_of-number.ensures (omega arith) (omega arith)
    (ap (λ bs. pointwise nat_eq bs c.args.word.now) (sym (c.as_bytes.ensures.value ∙ c.format.ensures.text)) ∙ sym c.eq.ensures ∙ c.if-eq.true)

pub returns-else-eq : goal.returns-else-eq
returns-else-eq c = no_session c.args.word.now c.number_of-number.result c.number_of-number.ensures
    (λ low high. ap (λ bs. pointwise nat_eq bs c.args.word.now) (sym (c.as_bytes.ensures.value ∙ c.format.ensures.text)) ∙ sym c.eq.ensures ∙ c.if-eq.false)

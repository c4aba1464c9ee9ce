use Rattle.std.proofs.Common.{◌∙◌, ◌++◌, ap, subst, codes, decimal, OnOk}
use Rattle.my_wire.specs.Counts.{TakesFront}
use Rattle.spider_cli.proofs.outcome.write_refusal.Goals as goal

pub returns-clause-whole : goal.returns-clause-whole
returns-clause-whole g c =
    let number = c.as_bytes-number.ensures.value ∙ c.format.ensures.text in
    let e = ap (λ n. codes "schedule line " ++ (n ++ c.rule_end.result.now)) number ∙ ap (λ r. codes "schedule line " ++ (decimal c.args.line ++ r)) c.rule_end.ensures in
    subst (λ t. OnOk c.write_three.result (g.E.Sink.takes c.args.err.now t c.write_three.new.sink)) e c.write_three.ensures.whole

pub returns-clause-front : goal.returns-clause-front
returns-clause-front g c =
    let number = c.as_bytes-number.ensures.value ∙ c.format.ensures.text in
    let e = ap (λ n. codes "schedule line " ++ (n ++ c.rule_end.result.now)) number ∙ ap (λ r. codes "schedule line " ++ (decimal c.args.line ++ r)) c.rule_end.ensures in
    subst (λ t. TakesFront g.E.Sink.takes c.args.err.now t c.write_three.new.sink) e c.write_three.ensures.front

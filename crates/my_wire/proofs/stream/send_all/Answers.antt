use Rattle.std.proofs.Common.{[], take, rules, subst, ◌∙◌}
use Rattle.std.proofs.lemmas.List.{append-nil}
use Rattle.my_wire.proofs.Fronts.{next_front}
use Rattle.my_wire.proofs.stream.send_all.Goals as goal

pub returns-in_err-at-clause-front : goal.returns-in_err-at-clause-front
returns-in_err-at-clause-front g c = record {
  count = c.loop-at.at;
  within = c.loop-at.invariant.within;
  taken =
      subst (λ bs. g.C.Stream.passes c.args.stream.now [] bs c.write.new.self) (append-nil (take c.loop-at.at c.args.bytes.now))
      (g.met.C.Stream.passes_on _ _ _ _ _ _ _ c.loop-at.invariant.taken c.in_err-at.ensures.none);
}

pub loop-at-preserved : goal.loop-at-preserved
loop-at-preserved g c = record {
  within = search rules;
  taken =
      subst (λ bs. g.C.Stream.passes c.args.stream.now [] bs c.write.new.self) (next_front c.loop-at.at c.in_ok-at.field-0 c.args.bytes.now)
      (g.met.C.Stream.passes_on _ _ _ _ _ _ _ c.loop-at.invariant.taken c.in_ok-at.ensures.taken);
  no_more = search rules;
  later = search rules;
  same_source = c.write.ensures.same_source ∙ c.loop-at.invariant.same_source;
  same_sink = c.write.ensures.same_sink ∙ c.loop-at.invariant.same_sink;
}

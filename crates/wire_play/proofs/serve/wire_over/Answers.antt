use Rattle.std.proofs.Common.{sym, ◌∙◌}
use Rattle.my_messages.specs.declared.session_end.SessionEnd.TheVariants as ends
use Rattle.wire_play.proofs.Ends.{starts_at, ended, failed_at}
use Rattle.wire_play.proofs.serve.wire_over.Goals as goal

pub returns-in-Closed-clause-ends : goal.returns-in-Closed-clause-ends
returns-in-Closed-clause-ends g c = (
  ends.Closed,
  tt,
  ended g.S.Source.gives g.met.S.Source.gives_nothing g.S.Source.has_ended g.S.Source.faults g.K.Sink.takes g.met.K.Sink.takes_nothing g.K.Sink.faults c.args.front.now.catalog
      c.wires_are_solo.ensures c.requires.served _ (starts_at c.args.front.now c.args.servers.now c.requires.new_one c.requires.stores) c.args.client.now c.serve_session.new.client _
      c.serve_session.result ends.Closed c.in-Closed.is c.serve_session.ensures.visit,
)

pub returns-in-Refused-clause-ends : goal.returns-in-Refused-clause-ends
returns-in-Refused-clause-ends g c = (
  ends.Refused c.in-Refused._number,
  tt,
  ended g.S.Source.gives g.met.S.Source.gives_nothing g.S.Source.has_ended g.S.Source.faults g.K.Sink.takes g.met.K.Sink.takes_nothing g.K.Sink.faults c.args.front.now.catalog
      c.wires_are_solo.ensures c.requires.served _ (starts_at c.args.front.now c.args.servers.now c.requires.new_one c.requires.stores) c.args.client.now c.serve_session.new.client _
      c.serve_session.result (ends.Refused c.in-Refused._number) c.in-Refused.is c.serve_session.ensures.visit,
)

pub returns-in-NoMemory-clause-ends : goal.returns-in-NoMemory-clause-ends
returns-in-NoMemory-clause-ends g c =
    ended g.S.Source.gives g.met.S.Source.gives_nothing g.S.Source.has_ended g.S.Source.faults g.K.Sink.takes g.met.K.Sink.takes_nothing g.K.Sink.faults c.args.front.now.catalog
    c.wires_are_solo.ensures c.requires.served _ (starts_at c.args.front.now c.args.servers.now c.requires.new_one c.requires.stores) c.args.client.now c.serve_session.new.client _
    c.serve_session.result ends.NoMemory c.in-NoMemory.is c.serve_session.ensures.visit

pub returns-in-Some-clause-ends : goal.returns-in-Some-clause-ends
returns-in-Some-clause-ends g c =
    failed_at g.S.Source.gives g.met.S.Source.gives_nothing g.S.Source.has_ended g.S.Source.faults g.K.Sink.takes g.met.K.Sink.takes_nothing g.K.Sink.faults c.args.front.now.catalog
    c.wires_are_solo.ensures c.requires.served _ (starts_at c.args.front.now c.args.servers.now c.requires.new_one c.requires.stores) c.args.client.now c.serve_session.new.client _
    c.in-Some.end c.requires.fresh (sym c.failed.ensures ∙ c.in-Some.is) c.in-ClientFault.ensures.visit

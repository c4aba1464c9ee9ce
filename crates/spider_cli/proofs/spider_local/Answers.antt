use Rattle.std.proofs.Common.{sym, ◌∙◌}
use Rattle.spider_cli.proofs.Ends.{writes_front, writes_whole, usage_is_told, usage_only, rose, is_refused, stops_at}
use Rattle.spider_cli.proofs.spider_local.Goals as goal

pub returns-clause-prefix : goal.returns-clause-prefix
returns-clause-prefix g c =
    writes_front g.F.Files.holds g.F.Files.faults g.I.Source.gives g.I.Source.has_ended g.I.Source.faults g.O.Sink.takes g.O.Sink.faults
    _ _ _ _ _ _ _ c.run-how.result c.run-how.ensures

pub returns-clause-done : goal.returns-clause-done
returns-clause-done g c e =
    writes_whole g.F.Files.holds g.F.Files.faults g.I.Source.gives g.I.Source.has_ended g.I.Source.faults g.O.Sink.takes g.O.Sink.faults
    _ _ _ _ _ _ _ c.run-how.result (sym c.status_code-code.ensures ∙ e) c.run-how.ensures

pub returns-clause-fault : goal.returns-clause-fault
returns-clause-fault g c e =
    rose g.F.Files.holds g.F.Files.faults g.I.Source.gives g.I.Source.has_ended g.I.Source.faults g.O.Sink.takes g.O.Sink.faults
    _ _ _ _ _ _ _ c.run-how.result (sym c.status_code-code.ensures ∙ e) c.run-how.ensures

pub returns-clause-usage : goal.returns-clause-usage
returns-clause-usage g c = (
  λ e. usage_only g.F.Files.holds g.F.Files.faults g.I.Source.gives g.I.Source.has_ended g.I.Source.faults g.O.Sink.takes g.O.Sink.faults
      _ _ _ _ _ _ _ c.run-how.result (sym c.status_code-code.ensures ∙ e) c.run-how.ensures,
  λ e. c.status_code-code.ensures
      ∙ usage_is_told g.F.Files.holds g.F.Files.faults g.I.Source.gives g.I.Source.has_ended g.I.Source.faults g.O.Sink.takes g.O.Sink.faults
      _ _ _ _ _ _ _ c.run-how.result e c.run-how.ensures,
)

pub returns-clause-conf : goal.returns-clause-conf
returns-clause-conf g c e =
    is_refused g.F.Files.holds g.F.Files.faults g.I.Source.gives g.I.Source.has_ended g.I.Source.faults g.O.Sink.takes g.O.Sink.faults
    _ _ _ _ _ _ _ c.run-how.result (sym c.status_code-code.ensures ∙ e) c.run-how.ensures

pub returns-clause-refused : goal.returns-clause-refused
returns-clause-refused g c e =
    stops_at g.F.Files.holds g.F.Files.faults g.I.Source.gives g.I.Source.has_ended g.I.Source.faults g.O.Sink.takes g.O.Sink.faults
    _ _ _ _ _ _ _ c.run-how.result (sym c.status_code-code.ensures ∙ e) c.run-how.ensures

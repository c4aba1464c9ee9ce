use Rattle.std.proofs.Common.{List, ◌∙◌, ap}
use Rattle.disk_core.specs.DiskModel.{Change, Moment}
use Rattle.disk_core.specs.History.{changes, total}
use Rattle.disk_core.specs.declared.recent.Call.{Call}
use Rattle.disk_core.proofs.Changes.{changes_cut, total_cut}
use Rattle.disk_core.proofs.recent.Recent.cut.Goals as goal

pub invariant_of-self : goal.invariant_of-self
invariant_of-self c = record {
  whole = ap total c.push_reserved.ensures.items ∙ total_cut c.args.self.now.calls.items c.args.len ∙ c.args.self.now.whole;
  fits = c.args.self.now.fits;
}

pub returns-clause-moment : goal.returns-clause-moment
returns-clause-moment c =
    let after : List Change → Moment = λ (cs : List Change). record { sure = c.args.self.now.sure.items; since = cs } in
    ap (λ (cs : List Call). after (changes cs c.args.self.now.pieces.items)) c.push_reserved.ensures.items ∙ ap after (changes_cut c.args.self.now.calls.items c.args.self.now.pieces.items c.args.len)

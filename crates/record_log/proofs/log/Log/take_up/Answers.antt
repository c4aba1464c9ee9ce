use Rattle.std.proofs.Common.{◌≡◌, arith, sym, ◌∙◌, ap, subst}
use Rattle.record_log.specs.RecordLists.{list_of}
use Rattle.record_log.specs.LogView.{IsStoredIn, disk_pair, pair_of}
use Rattle.record_log.proofs.Opened.{stored_pair}
use Rattle.record_log.proofs.Pairs.{stored_leaves}
use Rattle.record_log.proofs.log.Log.take_up.Goals as goal

pub invariant_of-self : goal.invariant_of-self
invariant_of-self g c =
    let found = c.args.found in
    let here = subst (λ v. IsStoredIn found.in_spare (g.D.Disk.state v.current) (g.D.Disk.state v.other) (list_of found.records) found.gate) (sym c.self.view_is) c.requires.stored in
    let none : c.self.inside.ready ≡ 0 = ap (λ v. v.ready) c.self.view_is ∙ c.requires.order.1 in
    record {
      stored = λ _. stored_pair g.D.Disk.state found.in_spare (disk_pair c.self.inside.current c.self.inside.other) (pair_of c.order.new.main c.order.new.spare) (list_of found.records) found.gate c.order.ensures here;
      size = λ _. c.requires.size;
      fits = c.requires.fits;
      has_room = λ some. absurd (omega (arith, some, none));
      no_next = c.self.invariant.no_next;
      no_frame = c.self.invariant.no_frame;
    }

pub returns-clause-acknowledged : goal.returns-clause-acknowledged
returns-clause-acknowledged g c =
    let found = c.args.found in
    let here = subst (λ v. IsStoredIn found.in_spare (g.D.Disk.state v.current) (g.D.Disk.state v.other) (list_of found.records) found.gate) (sym c.self.view_is) c.requires.stored in
    stored_leaves _ _ (list_of found.records) found.gate (stored_pair g.D.Disk.state found.in_spare (disk_pair c.self.inside.current c.self.inside.other) (pair_of c.order.new.main c.order.new.spare) (list_of found.records) found.gate c.order.ensures here)

use Rattle.std.proofs.Common.{arith}
use Rattle.record_log.specs.RecordLists.{list_of}
use Rattle.record_log.proofs.Opened.{stored_pair}
use Rattle.record_log.proofs.Pairs.{stored_leaves}
use Rattle.record_log.proofs.log.assembled.Goals as goal

pub invariant_of-result : goal.invariant_of-result
invariant_of-result g c = record {
  stored = λ _. stored_pair g.D.Disk.state c.args.found.in_spare c.args.disks c.ordered-current.result (list_of c.args.found.records) c.args.found.gate c.ordered-current.ensures c.requires.stored;
  size = λ _. c.requires.size;
  fits = c.requires.fits;
  has_room = λ some. absurd (omega (arith, some));
  no_next = c.new.ensures.items;
  no_frame = c.new-2.ensures.items;
}

pub returns-clause-stored : goal.returns-clause-stored
returns-clause-stored g c =
    stored_leaves _ _ (list_of c.args.found.records) c.args.found.gate (stored_pair g.D.Disk.state c.args.found.in_spare c.args.disks c.ordered-current.result (list_of c.args.found.records) c.args.found.gate c.ordered-current.ensures c.requires.stored)

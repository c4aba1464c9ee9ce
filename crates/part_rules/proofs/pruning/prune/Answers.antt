use Rattle.std.proofs.Common.{◌≡◌}
use Rattle.std.proofs.lemmas.Result.{IfOk-weaker}
use Rattle.part_rules.specs.Marking.{marked_from}
use Rattle.part_rules.specs.Pruned.{IsPruned}
use Rattle.part_rules.proofs.MarkedParts.{IsPruned-marked}
use Rattle.part_rules.proofs.pruning.prune.Goals as goal

pub returns : goal.returns
returns c =
    IfOk-weaker c.marked.result (λ parts. parts ≡ marked_from 0 c.deref.result.now) (IsPruned c.args.rule.now c.args.keys.now)
    (λ parts same. IsPruned-marked c.args.rule.now c.args.keys.now c.in_ok-marks.marks.items parts c.in_ok-marks.ensures.marks (rw c.deref.ensures.value at same))
    c.marked.ensures

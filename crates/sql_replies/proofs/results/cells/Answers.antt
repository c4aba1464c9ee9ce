use Rattle.std.proofs.Common.{arith}
use Rattle.std.proofs.lemmas.Grind.{common_steps}
use Rattle.sql_replies.proofs.Fits.{row_grows}
use Rattle.sql_replies.proofs.results.cells.Goals as goal

pub loop-pick-preserved : goal.loop-pick-preserved
loop-pick-preserved c = record {
  made = grind (arith, common_steps);
  fit = λ short. rw c.in_ok-push.ensures.items (row_grows c.loop-pick.cells.items c.in_ok-cell.field-0 c.loop-pick.pick-index (c.loop-pick.invariant.fit short) (c.in_ok-cell.ensures.fits short));
}

use Rattle.std.proofs.Common.{◌∙◌, ap, subst}
use Rattle.commit_protocol.specs.Links.{Plain}
use Rattle.commit_protocol.specs.Notes.{IsPlainSerial, plain}
use Rattle.replica_law.proofs.Moves.{agreed, link_view}
use Rattle.replica_law.proofs.Executed.{all_executed}
use Rattle.replica_law.proofs.statements_are_serial.Goals as goal

pub returns-clause-answers : goal.returns-clause-answers
returns-clause-answers a f p status v book r e all = (all_executed p book all (subst (λ b. IsPlainSerial p b) e (agreed f p status v r).holds.serial)).0

pub returns-clause-rows : goal.returns-clause-rows
returns-clause-rows a f p status v book l k r e all h q =
    let i = agreed f p status v r in
    link_view f p v i l k (i.cursor l k h) q ∙ ap (λ b. plain p b k) e ∙ ap (λ (t : Plain). t k) (all_executed p book all (subst (λ b. IsPlainSerial p b) e i.holds.serial)).1

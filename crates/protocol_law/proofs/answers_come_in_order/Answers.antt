use Rattle.std.proofs.Common.{◌&&◌, List, ap₂, subst}
use Rattle.commit_protocol.specs.Backend.{Request}
use Rattle.commit_protocol.specs.Network.{Reply, no_requests, no_replies}
use Rattle.commit_protocol.specs.Answers.{course, new_course}
use Rattle.protocol_law.proofs.Answered.{AreAnswered, answered, first_answered, none_due}
use Rattle.protocol_law.proofs.answers_come_in_order.Goals as goal

pub returns-clause-first : goal.returns-clause-first
returns-clause-first g f ms c a more all e =
    let v = course f ms new_course in
    first_answered f v.core c a more (v.core.connection c).queue (v.due c) (subst (λ us. AreAnswered f v.core c us (v.core.connection c).queue (v.due c)) e ((answered f ms).1 c all))

pub returns-clause-idle : goal.returns-clause-idle
returns-clause-idle g f ms c all e =
    let v = course f ms new_course in
    let k = none_due f v.core c (v.core.connection c).unread (v.core.connection c).queue (subst (λ d. AreAnswered f v.core c (v.core.connection c).unread (v.core.connection c).queue d) e ((answered f ms).1 c all)) in
    ap₂ (λ (q : List Request) (us : List Reply). no_requests q && no_replies us) k.1 k.0

use Rattle.replica_law.proofs.Moves.{agreed, link_view}
use Rattle.replica_law.proofs.links_agree.Goals as goal

pub returns-clause-serial : goal.returns-clause-serial
returns-clause-serial a f p status v r = (agreed f p status v r).holds.serial

pub returns-clause-whole : goal.returns-clause-whole
returns-clause-whole a f p status v l k r h e = let i = agreed f p status v r in link_view f p v i l k (i.cursor l k h) e

pub returns-clause-copied : goal.returns-clause-copied
returns-clause-copied a f p status v l k r h e = link_view f p v (agreed f p status v r) l k h e

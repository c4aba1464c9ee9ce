use Rattle.replica_law.proofs.Books.{kept}
use Rattle.replica_law.proofs.books_follow_decisions.Goals as goal

pub returns-clause-entries : goal.returns-clause-entries
returns-clause-entries a f p status v r = (kept f p status v r).same

pub returns-clause-cursors : goal.returns-clause-cursors
returns-clause-cursors a f p status v l r h = (kept f p status v r).marked l h

use Rattle.std.proofs.Common.{length, subst}
use Rattle.catalog.specs.Views.{View, AreTables}
use Rattle.catalog.proofs.whole.Catalog.tables.Goals as goal

pub returns-clause-sound : goal.returns-clause-sound
returns-clause-sound c = subst (λ (v : View). AreTables (length v.servers) v.tables) c.self.view_is c.self.invariant.2

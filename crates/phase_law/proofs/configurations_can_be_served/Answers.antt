use Rattle.phase_law.proofs.Servable.{configurations_can_be_served}
use Rattle.phase_law.proofs.configurations_can_be_served.Goals as goal

pub returns : goal.returns
returns c = configurations_can_be_served

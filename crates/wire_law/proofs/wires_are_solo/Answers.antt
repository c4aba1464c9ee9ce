use Rattle.phase_law.proofs.Goes.{statements_go_through}
use Rattle.phase_law.proofs.Keeping.{statements_keep_tables}
use Rattle.wire_law.proofs.Wires.{wires_are_solo}
use Rattle.wire_law.proofs.wires_are_solo.Goals as goal

pub returns : goal.returns
returns c = wires_are_solo statements_go_through statements_keep_tables

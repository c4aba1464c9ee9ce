use Rattle.phase_law.proofs.Goes.{statements_go_through}
use Rattle.phase_law.proofs.Keeping.{statements_keep_tables}
use Rattle.world_runs.proofs.Runs.{every_run_is_plain}
use Rattle.world_runs.proofs.laws.runs_are_plain.Goals as goal

pub returns : goal.returns
returns c = λ catalog schedule served. every_run_is_plain statements_go_through statements_keep_tables catalog served schedule

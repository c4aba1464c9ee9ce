use Rattle.std.proofs.Common.{◌∙◌}
use Rattle.conf_file.specs.Taken.{is_taken}
use Rattle.conf_file.proofs.Takings.{take_listed}
use Rattle.conf_file.proofs.taken.TakenNames.take_all.Goals as goal

pub loop-name-preserved : goal.loop-name-preserved
loop-name-preserved c =
    λ name. take_listed c.args.names.now c.loop-name.name-index _ (is_taken c.loop-name.self) (is_taken c.take.new.self) name c.loop-name-test.true c.in_ok-take.ensures.taken ∙ c.loop-name.invariant name

use Rattle.conf_file.specs.Taken.{is_taken}
use Rattle.conf_file.proofs.Takings.{taken_one}
use Rattle.conf_file.proofs.taken.TakenNames.take.Goals as goal

pub returns-clause-taken : goal.returns-clause-taken
unfolding is_taken
returns-clause-taken c = taken_one c.args.name.now c.in_ok-name.name c.args.self.now.names c.insert.new.self c.in_ok-name.ensures c.in_ok-was_free.ensures.updates

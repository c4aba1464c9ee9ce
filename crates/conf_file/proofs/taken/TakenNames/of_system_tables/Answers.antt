use Rattle.conf_file.specs.Names.{system_tables}
use Rattle.conf_file.specs.Taken.{is_taken}
use Rattle.conf_file.proofs.Takings.{taken_alone}
use Rattle.conf_file.proofs.taken.TakenNames.of_system_tables.Goals as goal

pub returns : goal.returns
returns c = taken_alone system_tables (is_taken c.new-names.result) (is_taken c.take_all.new.self) c.new-names.ensures c.in_ok-take_all.ensures

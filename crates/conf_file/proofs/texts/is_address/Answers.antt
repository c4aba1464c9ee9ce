use Rattle.std.proofs.Common.{◌∙◌}
use Rattle.conf_file.proofs.Ports.{port_found, no_port_found}
use Rattle.conf_file.proofs.texts.is_address.Goals as goal

pub returns-in-Some : goal.returns-in-Some
returns-in-Some c = c.is_port.ensures ∙ port_found c.args.text.now c.in-Some._host.now c.in-Some.port.now c.in-Some.ensures.cases

pub returns-in-None : goal.returns-in-None
returns-in-None c = no_port_found c.args.text.now c.in-None.ensures.cases

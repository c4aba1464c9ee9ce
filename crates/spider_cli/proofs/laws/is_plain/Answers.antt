use Rattle.spider_cli.proofs.laws.is_plain.Goals as goal

pub returns : goal.returns
returns c conf catalog is schedule = c.runs_are_plain.ensures catalog schedule (c.configurations_can_be_served.ensures conf catalog is)

use Rattle.std.proofs.Common.{◌∙◌, ap, arith, codes, length}
use Rattle.std.proofs.lemmas.List.{length-append}
use Rattle.front_node.proofs.replies.unknown_database.Goals as goal

pub returns-clause-bytes : goal.returns-clause-bytes
returns-clause-bytes c = let few = c.requires in omega (arith, ap length (c.from_string.ensures ∙ c.in_ok-format.ensures.ok), length-append c.args.name.now (codes "'"))

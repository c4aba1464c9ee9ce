use Rattle.std.proofs.Common.{sym, ◌∙◌}
use Rattle.toml.specs.View.{table_view}
use Rattle.conf_file.specs.declared.sections.KeyFault.TheVariants.{WrongType}
use Rattle.conf_file.specs.Keys.{wrong_type}
use Rattle.conf_file.proofs.Firsts.{first_of_sections}
use Rattle.conf_file.proofs.keys.wrong_type.Goals as goal

pub returns : goal.returns
unfolding wrong_type
returns c = c.first_broken.ensures ∙ sym (first_of_sections WrongType (table_view c.args.tree.now))

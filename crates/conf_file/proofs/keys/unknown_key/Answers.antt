use Rattle.std.proofs.Common.{sym, ◌∙◌}
use Rattle.toml.specs.View.{table_view}
use Rattle.conf_file.specs.declared.sections.KeyFault.TheVariants.{Unknown}
use Rattle.conf_file.specs.Keys.{unknown_key}
use Rattle.conf_file.proofs.Firsts.{first_of_sections}
use Rattle.conf_file.proofs.keys.unknown_key.Goals as goal

pub returns : goal.returns
unfolding unknown_key
returns c = c.first_broken.ensures ∙ sym (first_of_sections Unknown (table_view c.args.tree.now))

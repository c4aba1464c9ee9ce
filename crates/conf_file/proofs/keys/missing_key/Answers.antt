use Rattle.std.proofs.Common.{sym, ◌∙◌}
use Rattle.toml.specs.View.{table_view}
use Rattle.conf_file.specs.declared.sections.KeyFault.TheVariants.{Missing}
use Rattle.conf_file.specs.Keys.{missing_key}
use Rattle.conf_file.proofs.Firsts.{first_of_sections}
use Rattle.conf_file.proofs.keys.missing_key.Goals as goal

pub returns : goal.returns
unfolding missing_key
returns c = c.first_broken.ensures ∙ sym (first_of_sections Missing (table_view c.args.tree.now))

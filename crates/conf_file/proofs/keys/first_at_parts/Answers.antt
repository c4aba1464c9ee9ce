use Rattle.std.proofs.Common.{map, ap, ◌∙◌}
use Rattle.std.specs.List.{flat_map}
use Rattle.toml.specs.View.{view}
use Rattle.conf_file.specs.Keys.{first_some, broken_in, part_entries}
use Rattle.conf_file.proofs.Firsts.{first_of_tables}
use Rattle.conf_file.proofs.keys.first_at_parts.Goals as goal

pub returns : goal.returns
returns c =
    c.first_of_all_parts.ensures ∙ first_of_tables c.args.fault (map view c.tables_at.result.now)
    ∙ ap (λ tables. first_some (broken_in c.args.fault) (flat_map part_entries tables)) c.tables_at.ensures

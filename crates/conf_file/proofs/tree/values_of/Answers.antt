use Rattle.std.proofs.Common.{Some, sym, ap, ◌∙◌}
use Rattle.std.specs.Option.{option_map}
use Rattle.conf_file.specs.Trees.{values_of}
use Rattle.conf_file.proofs.Trees.{values_of_view}
use Rattle.conf_file.proofs.tree.values_of.Goals as goal

pub returns-in-Some : goal.returns-in-Some
returns-in-Some c =
    rw c.as_slice.ensures.value (ap Some (sym (values_of_view c.in-Some.values.now.items)) ∙ ap (option_map values_of) c.in-Some.ensures)

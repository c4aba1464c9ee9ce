use Rattle.std.proofs.Common.{Some, None, ◌∙◌}
use Rattle.branch_store.proofs.Naming.{kind_by}
use Rattle.branch_store.proofs.checking.is_of_numbers.Goals as goal

pub returns-in-Some : goal.returns-in-Some
returns-in-Some c = c.is_number.ensures ∙ kind_by c.args.def.now c.args.name.now (Some c.in-Some.column.now) c.in-Some.ensures

pub returns-in-None : goal.returns-in-None
returns-in-None c = kind_by c.args.def.now c.args.name.now None c.in-None.ensures

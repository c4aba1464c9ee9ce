use Rattle.std.proofs.Common.{codes}
use Rattle.sql_text.specs.Printing.{name_text, where_text, printed}
use Rattle.sql_text.proofs.Joined.{on_ok, three_parts}
use Rattle.sql_text.proofs.printing.push_delete.Goals as goal

pub returns : goal.returns
unfolding printed
returns c =
    on_ok c.push_where.result _ _
    (λ e. three_parts _ _ _ _ (codes "DELETE FROM ") (name_text c.args.delete.now.table) (where_text c.args.delete.now.cond)
    c.in_ok-extend_from_slice.ensures.items c.in_ok-push_name.ensures e)
    c.push_where.ensures

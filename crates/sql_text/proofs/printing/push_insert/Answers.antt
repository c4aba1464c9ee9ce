use Rattle.std.proofs.Common.{◌++◌, ◌∙◌, ap, codes, map, List}
use Rattle.sql_values.specs.declared.literal.Literal.{Literal}
use Rattle.sql_text.specs.Printing.{name_text, columns_text, joined_text, tuple_text, printed}
use Rattle.sql_text.proofs.Joined.{on_ok, four_parts}
use Rattle.sql_text.proofs.printing.push_insert.Goals as goal

pub returns : goal.returns
unfolding printed
returns c =
    on_ok c.push_values.result _ _
    (λ e. four_parts _ _ _ _ _ (codes "INSERT INTO ") (name_text c.args.insert.now.table) (columns_text c.args.insert.now.columns) _
    c.in_ok-extend_from_slice.ensures.items c.in_ok-push_name.ensures c.in_ok-push_columns.ensures
    (e ∙ ap (λ (l : List (List Literal)). c.push_columns.new.out.items ++ (codes " VALUES " ++ joined_text (codes ",") (map tuple_text l))) c.as_slice.ensures))
    c.push_values.ensures

use Rattle.sql_values.proofs.Lookups.{value_found}
use Rattle.sql_values.proofs.columns.value_of_table.Goals as goal

pub returns-then-is_qualified_by : goal.returns-then-is_qualified_by
returns-then-is_qualified_by c =
    value_found c.args.name.now c.args.table.now _ _ _ _ c.is_qualified_by.ensures c.if-is_qualified_by.true c.as_slice.ensures c.value_in.ensures

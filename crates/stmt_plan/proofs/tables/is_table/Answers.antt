use Rattle.std.proofs.Common.{arith, rules}
use Rattle.stmt_plan.proofs.Apart.{IsTable-decided}
use Rattle.stmt_plan.proofs.tables.is_table.Goals as goal

pub returns : goal.returns
returns c =
    IsTable-decided c.args.table.now c.as_slice-columns.result.now _ _ c.as_slice-columns.ensures (omega arith) (search rules) c.has_key.ensures c.names_differ.ensures

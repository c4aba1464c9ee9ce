use Rattle.std.proofs.Common.{◌≡◌, drop}
use Rattle.std.specs.List.{list_all, zip}
use Rattle.plain_tables.specs.Rows.{can_hold}
use Rattle.branch_store.proofs.checking.all_fit.Given as goal

abbrev pub invariant-loop-column : goal.invariant-loop-column
invariant-loop-column l = list_all can_hold (zip (drop l.column-index l.columns) l.left) ≡ list_all can_hold (zip l.columns l.values)

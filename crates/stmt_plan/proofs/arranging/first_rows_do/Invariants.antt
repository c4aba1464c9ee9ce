use Rattle.std.proofs.Common.{◌≡◌, drop}
use Rattle.std.specs.List.{list_all}
use Rattle.sql_values.specs.declared.places.LockMode.TheVariants.{Shared}
use Rattle.std.specs.Prelude.{true, unwrap_or}
use Rattle.stmt_plan.specs.Selects.{called, is_key_sort, is_shared}
use Rattle.stmt_plan.proofs.arranging.first_rows_do.Given as goal

abbrev pub invariant-loop-item : goal.invariant-loop-item
invariant-loop-item l = record {
  shared : is_shared (unwrap_or l.select.lock Shared) ≡ true;
  rest : list_all (is_key_sort (called l.table l.known)) (drop l.item-index l.select.order) ≡ list_all (is_key_sort (called l.table l.known)) l.select.order;
}

use Rattle.std.proofs.Common.{◌≡◌, map, take, drop}
use Rattle.std.specs.List.{flat_map}
use Rattle.sql_text.specs.declared.statement.AggregateItem.{AggregateItem}
use Rattle.stmt_plan.specs.Chosen.{unknown_fault}
use Rattle.stmt_plan.specs.Selects.{called, call_columns, cell_column}
use Rattle.stmt_plan.proofs.aggregates.call_columns.Given as goal

abbrev pub invariant-loop-item : goal.invariant-loop-item
invariant-loop-item l = record {
  columns : l.columns ≡ map (cell_column (called l.table l.known)) (take l.item-index l.items);
  known : unknown_fault (called l.table l.known) (flat_map (λ (item : AggregateItem). call_columns item.call) (drop l.item-index l.items))
      ≡ unknown_fault (called l.table l.known) (flat_map (λ (item : AggregateItem). call_columns item.call) l.items);
}

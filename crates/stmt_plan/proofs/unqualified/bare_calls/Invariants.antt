use Rattle.std.proofs.Common.{◌≡◌, map, take}
use Rattle.sql_text.specs.declared.statement.AggregateItem.{AggregateItem}
use Rattle.stmt_plan.specs.Selects.{bare_call}
use Rattle.stmt_plan.proofs.unqualified.bare_calls.Given as goal

abbrev pub invariant-loop-item : goal.invariant-loop-item
invariant-loop-item l = l.calls ≡ map (λ (item : AggregateItem). bare_call item.call) (take l.item-index l.items)

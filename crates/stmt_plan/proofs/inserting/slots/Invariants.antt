use Rattle.std.proofs.Common.{◌≡◌, map, take, drop}
use Rattle.std.specs.List.{list_all}
use Rattle.std.specs.Option.{is_some}
use Rattle.stmt_plan.specs.Inserts.{slots}
use Rattle.stmt_plan.specs.Slots.{slot_shown}
use Rattle.stmt_plan.proofs.inserting.slots.Given as goal

abbrev pub invariant-loop-column : goal.invariant-loop-column
invariant-loop-column l = record {
  shown : map slot_shown l.slots.items ≡ slots (take l.column-index l.columns) (map (λ c. c.now) l.among);
  found : list_all (λ slot. is_some slot.1) (slots (drop l.column-index l.columns) (map (λ c. c.now) l.among)) ≡ list_all (λ slot. is_some slot.1) (slots l.columns (map (λ c. c.now) l.among));
}

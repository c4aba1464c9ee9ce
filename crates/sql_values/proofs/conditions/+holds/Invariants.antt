use Rattle.std.proofs.Common.{◌≡◌, drop, map}
use Rattle.std.specs.List.{list_all, list_any}
use Rattle.sql_values.specs.Conditions.{cond_holds}
use Rattle.sql_values.proofs.conditions.+holds.Given as goal

abbrev pub invariant-do_all_hold-loop-part : goal.invariant-do_all_hold-loop-part
invariant-do_all_hold-loop-part l =
    list_all (λ part. part) (map (cond_holds l.tables l.row) (drop l.part-index l.parts)) ≡ list_all (λ part. part) (map (cond_holds l.tables l.row) l.parts)

abbrev pub invariant-does_any_hold-loop-part : goal.invariant-does_any_hold-loop-part
invariant-does_any_hold-loop-part l =
    list_any (λ part. part) (map (cond_holds l.tables l.row) (drop l.part-index l.parts)) ≡ list_any (λ part. part) (map (cond_holds l.tables l.row) l.parts)

use Rattle.std.proofs.Common.{◌≡◌, ◌++◌, map, drop, find, option_to_list}
use Rattle.std.specs.List.{flat_map}
use Rattle.std.specs.Option.{is_none}
use Rattle.stmt_plan.specs.Inserts.{is_named}
use Rattle.stmt_plan.proofs.inserting.listed.Given as goal

abbrev pub invariant-loop-name : goal.invariant-loop-name
invariant-loop-name l = record {
  columns : map (λ c. c.now) l.among.items ++ flat_map (λ name. option_to_list (find (is_named name) l.columns)) (drop l.name-index l.names)
      ≡ flat_map (λ name. option_to_list (find (is_named name) l.columns)) l.names;
  known : find (λ name. is_none (find (is_named name) l.columns)) (drop l.name-index l.names) ≡ find (λ name. is_none (find (is_named name) l.columns)) l.names;
}

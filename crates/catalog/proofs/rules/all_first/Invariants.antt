use Rattle.std.proofs.Common.{◌≡◌, drop}
use Rattle.std.specs.List.{list_all}
use Rattle.catalog.specs.Rules.{is_first}
use Rattle.catalog.proofs.rules.all_first.Given as goal

abbrev pub invariant-loop-key : goal.invariant-loop-key
invariant-loop-key l = list_all (is_first l.lists l.place) (drop l.key-index l.keys) ≡ list_all (is_first l.lists l.place) l.keys

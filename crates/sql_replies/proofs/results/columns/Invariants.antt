use Rattle.std.proofs.Common.{◌≡◌, map, take}
use Rattle.std.specs.List.{AllByRecursion}
use Rattle.my_messages.specs.Reply.{DefinitionFits}
use Rattle.sql_replies.specs.Results.{column_of}
use Rattle.sql_replies.proofs.results.columns.Given as goal

abbrev pub invariant-loop-pick : goal.invariant-loop-pick
invariant-loop-pick l = record {
  made : l.columns.items ≡ map (column_of l.table l.known) (take l.pick-index l.picks);
  fit : AllByRecursion DefinitionFits l.columns.items;
}

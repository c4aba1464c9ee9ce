use Rattle.std.proofs.Common.{◌≡◌, map, take}
use Rattle.std.specs.List.{AllByRecursion}
use Rattle.my_messages.specs.Reply.{DefinitionFits}
use Rattle.sql_replies.specs.Results.{cell_column_of}
use Rattle.sql_replies.proofs.results.cell_columns.Given as goal

abbrev pub invariant-loop-column : goal.invariant-loop-column
invariant-loop-column l = record {
  made : l.columns.items ≡ map cell_column_of (take l.column-index l.list);
  fit : AllByRecursion DefinitionFits l.columns.items;
}

use Rattle.std.proofs.Common.{◌≡◌, map, take}
use Rattle.std.specs.List.{AllByRecursion}
use Rattle.my_messages.specs.Reply.{RowFits}
use Rattle.sql_replies.specs.Admin.{system_row}
use Rattle.sql_replies.specs.Errors.{shown}
use Rattle.sql_replies.proofs.admin.name_rows.Given as goal

abbrev pub invariant-loop-name : goal.invariant-loop-name
invariant-loop-name l = record {
  made : l.rows.items ≡ map system_row (map shown (take l.name-index l.names));
  fit : AllByRecursion (RowFits 1) l.rows.items;
}

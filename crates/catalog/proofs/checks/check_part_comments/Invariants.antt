use Rattle.std.proofs.Common.{◌≡◌, drop}
use Rattle.catalog.specs.Searches.{first}
use Rattle.catalog.specs.Broken.{part_comment_fault}
use Rattle.catalog.proofs.checks.check_part_comments.Given as goal

abbrev pub invariant-loop-part : goal.invariant-loop-part
invariant-loop-part l = first (part_comment_fault l.table.name) (drop l.part-index l.part-items) ≡ first (part_comment_fault l.table.name) l.part-items

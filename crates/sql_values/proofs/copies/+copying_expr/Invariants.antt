use Rattle.std.proofs.Common.{◌≡◌, take}
use Rattle.sql_values.proofs.copies.+copying_expr.Given as goal

abbrev pub invariant-copy_exprs-loop-part : goal.invariant-copy_exprs-loop-part
invariant-copy_exprs-loop-part l = l.copies ≡ take l.part-index l.parts

abbrev pub invariant-copy_addends-loop-part : goal.invariant-copy_addends-loop-part
invariant-copy_addends-loop-part l = l.copies ≡ take l.part-index l.parts

use Rattle.std.proofs.Common.{◌≡◌, take}
use Rattle.sql_values.proofs.copies.+copying_cond.Given as goal

abbrev pub invariant-copy_conds-loop-part : goal.invariant-copy_conds-loop-part
invariant-copy_conds-loop-part l = l.copies ≡ take l.part-index l.parts

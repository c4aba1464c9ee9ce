use Rattle.std.proofs.Common.{◌≡◌, take, length}
use Rattle.sql_values.proofs.sameness.+same_conds.Given as goal

abbrev pub invariant-have_same_parts-loop-i : goal.invariant-have_same_parts-loop-i
invariant-have_same_parts-loop-i l = record { long : length l.left ≡ length l.right; so_far : take l.i l.left ≡ take l.i l.right }

use Rattle.std.proofs.Common.{◌≡◌, take, length}
use Rattle.sql_values.proofs.sameness.+same_exprs.Given as goal

abbrev pub invariant-have_same_addends-loop-i : goal.invariant-have_same_addends-loop-i
invariant-have_same_addends-loop-i l = record { long : length l.left ≡ length l.right; so_far : take l.i l.left ≡ take l.i l.right }

abbrev pub invariant-have_same_factors-loop-i : goal.invariant-have_same_factors-loop-i
invariant-have_same_factors-loop-i l = record { long : length l.left ≡ length l.right; so_far : take l.i l.left ≡ take l.i l.right }

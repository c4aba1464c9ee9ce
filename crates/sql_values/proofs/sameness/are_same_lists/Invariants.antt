use Rattle.std.proofs.Common.{◌≡◌, take, length}
use Rattle.sql_values.proofs.sameness.are_same_lists.Given as goal

abbrev pub invariant-loop-i : goal.invariant-loop-i
invariant-loop-i l = record { long : length l.left ≡ length l.right; so_far : take l.i l.left ≡ take l.i l.right }

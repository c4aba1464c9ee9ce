use Rattle.std.proofs.Common.{◌≡◌, drop}
use Rattle.my_messages.specs.Utf8.{all_after, bad_of}
use Rattle.my_messages.proofs.utf8.bad_all.Given as goal

-- what is left stops where the whole does
abbrev pub invariant-loop-i : goal.invariant-loop-i
invariant-loop-i l = bad_of (all_after l.last.x l.last.y l.last.z (drop l.i l.bytes)) ≡ bad_of (all_after 0 0 0 l.bytes)

use Rattle.std.proofs.Common.{◌≡◌, drop}
use Rattle.my_messages.specs.Utf8.{sized_after, bad_of}
use Rattle.my_messages.proofs.utf8.bad_sized.Given as goal

-- what is left stops where the whole does
abbrev pub invariant-loop-i : goal.invariant-loop-i
invariant-loop-i l = bad_of (sized_after l.last.x l.last.y l.last.z l.due (drop l.i l.bytes)) ≡ bad_of (sized_after 0 0 0 l.size l.bytes)

use Rattle.std.proofs.Common.{◌≡◌, take, drop}
use Rattle.my_messages.specs.Utf8.{nul_after}
use Rattle.my_messages.proofs.BadPlaces.{with_front}
use Rattle.my_messages.proofs.utf8.nul_end.Given as goal

-- what was read, with what is left, is the whole
abbrev pub invariant-loop-i : goal.invariant-loop-i
invariant-loop-i l = with_front (take l.i l.bytes) (nul_after l.last.x l.last.y l.last.z (drop l.i l.bytes)) ≡ nul_after 0 0 0 l.bytes

use Rattle.std.proofs.Common.{◌≡◌, ◌&&◌, ◌-◌, nat_le, true, false, slice_index_or, refl, arith}
use Rattle.my_messages.specs.Utf8.{owed, may_follow, sized_after, bad_of}
use Rattle.my_messages.proofs.BadPlaces.{sized_on, sized_off, sized_end}
use Rattle.my_messages.proofs.utf8.bad_sized.Goals as goal

pub returns-then-not-goes_on : goal.returns-then-not-goes_on
returns-then-not-goes_on c =
    let b = slice_index_or c.args.bytes.now c.loop-i.i 0 in
    let h : (may_follow c.loop-i.last.x c.loop-i.last.y c.loop-i.last.z b && nat_le (owed c.loop-i.last.y c.loop-i.last.z b) (c.loop-i.due - 1)) ≡ false = cc in
    sized_off c.loop-i.last.x c.loop-i.last.y c.loop-i.last.z c.loop-i.due c.loop-i.i b c.args.bytes.now (bad_of (sized_after 0 0 0 c.args.size c.args.bytes.now)) c.loop-i-test.true refl (omega arith) h c.loop-i.invariant

pub loop-i-preserved : goal.loop-i-preserved
loop-i-preserved c =
    let b = slice_index_or c.args.bytes.now c.loop-i.i 0 in
    let h : (may_follow c.loop-i.last.x c.loop-i.last.y c.loop-i.last.z b && nat_le (owed c.loop-i.last.y c.loop-i.last.z b) (c.loop-i.due - 1)) ≡ true = cc in
    sized_on c.loop-i.last.x c.loop-i.last.y c.loop-i.last.z c.loop-i.due c.loop-i.i b c.args.bytes.now (bad_of (sized_after 0 0 0 c.args.size c.args.bytes.now)) c.loop-i-test.true refl (omega arith) h c.loop-i.invariant

pub returns-else-due-eq0-2 : goal.returns-else-due-eq0-2
returns-else-due-eq0-2 c =
    sized_end c.loop-i.last.x c.loop-i.last.y c.loop-i.last.z c.loop-i.due c.loop-i.i c.args.bytes.now (bad_of (sized_after 0 0 0 c.args.size c.args.bytes.now)) c.loop-i-test.false (omega arith) c.loop-i.invariant

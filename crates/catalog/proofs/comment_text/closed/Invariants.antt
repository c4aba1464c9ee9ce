use Rattle.std.proofs.Common.{◌≡◌, take, drop}
use Rattle.catalog.specs.CommentText.{closed as close_text, behind}
use Rattle.catalog.proofs.comment_text.closed.Given as goal

abbrev pub invariant-loop-i : goal.invariant-loop-i
invariant-loop-i l = behind (take l.i l.bytes) (close_text (drop l.i l.bytes)) ≡ close_text l.bytes

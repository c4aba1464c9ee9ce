use Rattle.std.proofs.Common.{◌≡◌, ◌++◌, take, drop}
use Rattle.catalog.specs.CommentText.{word_run as run}
use Rattle.catalog.proofs.comment_text.word_run.Given as goal

-- all that is passed is in the run
abbrev pub invariant-loop-i : goal.invariant-loop-i
invariant-loop-i l = run l.bytes ≡ (take l.i l.bytes ++ (run (drop l.i l.bytes)).0, (run (drop l.i l.bytes)).1)

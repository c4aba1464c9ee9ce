use Rattle.std.proofs.Common.{◌≡◌, drop}
use Rattle.catalog.specs.Comment.{status_of}
use Rattle.catalog.specs.Searches.{each, in_front}
use Rattle.catalog.proofs.comment.statuses_of.Given as goal

abbrev pub invariant-loop-word : goal.invariant-loop-word
invariant-loop-word l = in_front l.statuses (each status_of (drop l.word-index l.words)) ≡ each status_of l.words

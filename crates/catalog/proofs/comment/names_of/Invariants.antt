use Rattle.std.proofs.Common.{◌≡◌, drop}
use Rattle.catalog.specs.Searches.{each, in_front, name_of}
use Rattle.catalog.proofs.comment.names_of.Given as goal

abbrev pub invariant-loop-word : goal.invariant-loop-word
invariant-loop-word l = in_front l.names (each name_of (drop l.word-index l.words)) ≡ each name_of l.words

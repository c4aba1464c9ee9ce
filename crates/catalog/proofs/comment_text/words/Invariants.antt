use Rattle.std.proofs.Common.{◌≡◌, [], drop, string_bytes}
use Rattle.catalog.specs.CommentText.{words_from, after_words}
use Rattle.catalog.proofs.comment_text.words.Given as goal

abbrev pub invariant-loop-byte : goal.invariant-loop-byte
invariant-loop-byte l = after_words l.words.items (words_from (string_bytes l.word) (drop l.byte-index l.text)) ≡ words_from [] l.text

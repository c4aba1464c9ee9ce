-- What is told of a transcript in short.
use Rattle.std.specs.Prelude.{ℕ, ◌++◌, Bool, ◌&&◌, nat_eq, List, [], ◌∷◌, codes, count_by, filter, flat_map}
use Rattle.std.specs.Cmp.Lexicographic.{pointwise}
use Rattle.std.specs.Fmt.{decimal}
use Rattle.std.specs.Option.{option_map_or}
use Rattle.std.specs.List.{starts_with}
use Rattle.world_runs.specs.Schedule.{cut_at, lines_of}

-- WORDS

-- what follows the first blank
abbrev pub after_word : List ℕ → List ℕ
after_word line = option_map_or (λ (cut : List ℕ × List ℕ). cut.1) (cut_at 32 line) []

abbrev pub first_word : List ℕ → List ℕ
first_word line = option_map_or (λ (cut : List ℕ × List ℕ). cut.0) (cut_at 32 line) line

-- the fourth word: of an answer, behind its session and its transaction, the kind
abbrev pub kind_word : List ℕ → List ℕ
kind_word line = first_word (after_word (after_word (after_word line)))

abbrev pub begins : List ℕ → List ℕ → Bool
begins front line = starts_with nat_eq line front

-- LINES

-- an answer of this kind
abbrev pub is_answer : List ℕ → List ℕ → Bool
is_answer kind line = begins (codes "answer ") line && pointwise nat_eq (kind_word line) kind

abbrev pub is_decided : List ℕ → Bool
is_decided line = begins (codes "decided ") line

abbrev pub is_link : List ℕ → Bool
is_link line = begins (codes "link ") line

-- a line with its end
abbrev pub ended : List ℕ → List ℕ
ended line = line ++ (10 ∷ [])

-- THE SUMMARY

-- a word and a number
abbrev pub count_line : List ℕ → ℕ → List ℕ
count_line word count = word ++ (32 ∷ (decimal count ++ (10 ∷ [])))

-- the answers by their kinds, and the decided transactions
abbrev pub counts_text : List (List ℕ) → List ℕ
counts_text lines =
    count_line (codes "ok") (count_by (is_answer (codes "ok")) lines)
    ++ (count_line (codes "rows") (count_by (is_answer (codes "rows")) lines)
    ++ (count_line (codes "refused") (count_by (is_answer (codes "err")) lines)
    ++ count_line (codes "decided") (count_by is_decided lines)))

abbrev pub links_text : List (List ℕ) → List ℕ
links_text lines = flat_map ended (filter is_link lines)

-- how many statements were played, the counts, and the links without their rows
unfoldable pub summary : ℕ → List ℕ → List ℕ
summary played text = count_line (codes "statements") played ++ (counts_text (lines_of text) ++ links_text (lines_of text))

-- The lines of a schedule, and what each is.
use Rattle.std.specs.Prelude.{ℕ, ◌++◌, Bool, true, false, Option, Some, None, ◌==◌, not, nat_lt, nat_eq, List, [], ◌∷◌, if◌then◌else◌, codes, length, take, drop}
use Rattle.std.specs.Cmp.Lexicographic.{pointwise}
use Rattle.std.specs.Fmt.{decimal}
use Rattle.std.specs.List.{find, range_with_len}
use Rattle.std.specs.Str.{is_utf8}
use Rattle.world_runs.specs.declared.schedule.LineRule.{LineRule}
use Rattle.world_runs.specs.declared.schedule.LineRule.TheVariants.{NotText, LineTooLong, TooManyLines, UnknownWord, BadNumber}

-- LINES

-- a byte in front of the first line
abbrev pub onto_first : ℕ → List (List ℕ) → List (List ℕ)
onto_first b [] = (b ∷ []) ∷ []
onto_first b (line ∷ lines) = (b ∷ line) ∷ lines

-- the lines, each ended by LF, which the last may lack
unfoldable pub lines_of : List ℕ → List (List ℕ)
lines_of [] = []
lines_of (b ∷ bytes) = if b == 10 then [] ∷ lines_of bytes else onto_first b (lines_of bytes)

-- with these bytes before the first piece
abbrev pub onto_line : List ℕ → Option (List ℕ × List ℕ) → Option (List ℕ × List ℕ)
onto_line front None = None
onto_line front (Some cut) = Some (front ++ cut.0, cut.1)

-- the bytes up to the first one that is the end, and those after it, where there is one
abbrev pub cut_at : ℕ → List ℕ → Option (List ℕ × List ℕ)
cut_at end [] = None
cut_at end (b ∷ bytes) = if b == end then Some ([], bytes) else onto_line (b ∷ []) (cut_at end bytes)

-- the bytes up to the first line's end, and those after it
abbrev pub first_line : List ℕ → Option (List ℕ × List ℕ)
first_line bytes = cut_at 10 bytes

-- WHAT A LINE IS

pub data Line : Type 0 where
  Passed : Line
  -- requests are shown from here on, or aren't
  Trace : Bool → Line
  -- the session's client sends the text
  Client : ℕ → List ℕ → Line
  Broken : LineRule → Line

-- the number of a session, 1 to 256, in decimal digits
unfoldable pub session_of : List ℕ → Option ℕ
session_of word = find (λ n. pointwise nat_eq (decimal n) word) (range_with_len 1 256)

abbrev pub client_by : List ℕ → Option ℕ → Line
client_by text None = Broken BadNumber
client_by text (Some n) = Client n text

-- a session, a space, and the text; an empty word isn't one
abbrev pub client_of : Option (List ℕ × List ℕ) → Line
client_of None = Broken UnknownWord
client_of (Some ([], text)) = Broken UnknownWord
client_of (Some ((b ∷ word), text)) = client_by text (session_of (b ∷ word))

abbrev pub client_word : List ℕ
client_word = codes "client "

abbrev pub words_of : List ℕ → Line
words_of [] = Passed
words_of (b ∷ bytes) =
    if b == 35 then Passed
    else if pointwise nat_eq (b ∷ bytes) (codes "trace on") then Trace true
    else if pointwise nat_eq (b ∷ bytes) (codes "trace off") then Trace false
    else if pointwise nat_eq (take 7 (b ∷ bytes)) client_word then client_of (cut_at 32 (drop 7 (b ∷ bytes)))
    else Broken UnknownWord

-- the line of that number
unfoldable pub line_of : ℕ → List ℕ → Line
line_of number line =
    if not (is_utf8 line) then Broken NotText
    else if nat_lt 65536 (length line) then Broken LineTooLong
    else if nat_lt 1000000 number then Broken TooManyLines
    else words_of line

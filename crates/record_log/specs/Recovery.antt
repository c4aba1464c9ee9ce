-- What the two files of a log stand for.
use Rattle.std.specs.Prelude.{ℕ, zero, suc, ◌+◌, ◌-◌, Bool, not, ◌&&◌, ◌||◌, ◌==◌, nat_le, nat_lt, bytes_eq, if◌then◌else◌, List, [], ◌∷◌, ◌++◌, length, take, drop, replicate, slice_index, Option, Some, None, option_map}
use Rattle.byteorder.specs.Endian.{little_number}
use Rattle.record_log.specs.Format.{mark}

-- The first 17 bytes of a file, with 00 in the place of those that aren't there.
abbrev pub head_of : List ℕ → List ℕ
head_of file = take 17 file ++ replicate (17 - length file) 0

-- The file begins with the mark.
abbrev pub has_mark : List ℕ → Bool
has_mark file = bytes_eq (take 8 (head_of file)) mark

-- The file has its whole head, a first gate, and its own gate open.
abbrev pub is_open : List ℕ → Bool
is_open file = nat_le 18 (length file) && (slice_index (head_of file) 8 == 1)

-- The file's generation.
abbrev pub generation : List ℕ → ℕ
generation file = little_number 8 (drop 9 (head_of file))

-- A file is the current one of two: its gate is open, and the other's isn't, or the other's generation is lower.
abbrev pub is_current : List ℕ → List ℕ → Bool
is_current file other = is_open file && (not (is_open other) || nat_lt (generation other) (generation file))

-- Behind an open gate stands a whole record: a length of at most 8 MiB, and so many bytes.
abbrev pub is_whole : List ℕ → Bool
is_whole bytes = nat_le 4 (length bytes) && (nat_le (little_number 4 bytes) 8388608 && nat_le (4 + little_number 4 bytes) (length bytes))

-- The payload behind an open gate.
abbrev pub payload_at : List ℕ → List ℕ
payload_at bytes = take (little_number 4 bytes) (drop 4 bytes)

-- The records that stand behind so many bytes: a gate that isn't 01 ends them. None where a gate must stand and the bytes end, or an open gate's record isn't whole.
abbrev pub records_past : ℕ → List ℕ → Option (List (List ℕ))
records_past n [] = None
records_past (suc n) (byte ∷ bytes) = records_past n bytes
records_past zero (gate ∷ bytes) =
    if gate == 1
    then (if is_whole bytes then option_map (λ more. payload_at bytes ∷ more) (records_past (4 + little_number 4 bytes) bytes) else None)
    else Some []

-- The records of a log's two files: those of the current one. None where a file lacks the mark, no file is current, or the current one has a record that can't be whole.
abbrev pub records_of : List ℕ → List ℕ → Option (List (List ℕ))
records_of main spare =
    if has_mark main && has_mark spare
    then (if is_current main spare then records_past 17 main else if is_current spare main then records_past 17 spare else None)
    else None

-- The file that a refusal shows: the first that lacks the mark, else the main file.
abbrev pub shown_of : List ℕ → List ℕ → List ℕ
shown_of main spare = if has_mark main && not (has_mark spare) then spare else main

-- The bytes of a log's files. Numbers are little-endian.
use Rattle.std.specs.Prelude.{ℕ, ◌+◌, List, [], ◌∷◌, ◌++◌, length, codes, sum_by}
use Rattle.byteorder.specs.Endian.{little_bytes}

-- The eight bytes with which each file of a log begins.
abbrev pub mark : List ℕ
mark = codes "SPFLOG01"

-- A new file: the mark, the file's gate, its generation, and a closed gate where the records end.
abbrev pub new_file : ℕ → ℕ → List ℕ
new_file gate generation = mark ++ (gate ∷ (little_bytes 8 generation ++ (0 ∷ [])))

-- What an append writes behind the gate: the payload's length, the payload, and the next gate, closed.
abbrev pub framed : List ℕ → List ℕ
framed payload = little_bytes 4 (length payload) ++ (payload ++ (0 ∷ []))

-- The length of a log with these records, up to and with the gate that closes it: a head of 17 bytes, a gate, a length and a payload for each, and the closing gate.
abbrev pub log_size : List (List ℕ) → ℕ
log_size records = 18 + sum_by (λ record_bytes. 5 + length record_bytes) records

-- How the bytes behind a file's head stand for records.
use Rattle.std.specs.Prelude.{◌≡◌, ◌≢◌, ℕ, ◌+◌, List, ◌∷◌, ◌++◌, length, Option, option_map, sum_by}
use Rattle.record_log.specs.Recovery.{records_past}

-- These records, and then those that are read further on.
abbrev pub with_front : List (List ℕ) → Option (List (List ℕ)) → Option (List (List ℕ))
with_front records rest = option_map (λ more. records ++ more) rest

-- Whatever stands behind them, these bytes are read as these records.
abbrev pub Reads : List ℕ → List (List ℕ) → Type 0
Reads front records = (tail : List ℕ) → records_past 0 (front ++ tail) ≡ with_front records (records_past 0 tail)

-- How many bytes these records take: a gate, a length and a payload for each.
abbrev pub size_of : List (List ℕ) → ℕ
size_of records = sum_by (λ record_bytes. 5 + length record_bytes) records

-- Bytes that are these records, so many bytes of them, and then a gate that isn't open.
pub record EndsAt (bytes : List ℕ) (records : List (List ℕ)) (size : ℕ) : Type 0 where
  pub front : List ℕ
  pub gate : ℕ
  pub rest : List ℕ
  pub split : bytes ≡ front ++ (gate ∷ rest)
  pub shut : gate ≢ 1
  pub length_front : length front ≡ size
  pub length_records : size_of records ≡ size
  pub reads : Reads front records

-- What the code keeps of the rows that are to be written.
use Rattle.std.specs.Prelude.{ℕ, ◌-◌, ◌^◌, ◌==◌, Bool, ◌||◌, List, length, min, nat_lt, sum_by, if◌then◌else◌}
use Rattle.txn_phases.specs.declared.deed.PlacedRow.{PlacedRow}
use Rattle.txn_phases.specs.declared.phase.Target.{Target}
use Rattle.txn_phases.specs.declared.partitions.PlacedKey.{PlacedKey}
use Rattle.txn_phases.specs.declared.weight.Weight.{Weight}
use Rattle.txn_phases.specs.Deeds.{rows_at, bytes_at, keys_at}

-- counts stop at 2^64 - 1
abbrev pub capped : ℕ → ℕ
capped n = min n (2 ^ 64 - 1)

-- a link that gets so many rows, and so many bytes of them
abbrev pub weight_by : (Target → ℕ) → (Target → ℕ) → Target → Weight
weight_by rows bytes t = record { server = t.server; rows = capped (rows t); bytes = capped (bytes t) }

abbrev pub weight_of : List PlacedRow → Target → Weight
weight_of news = weight_by (rows_at news) (bytes_at news)

abbrev pub key_weight_of : List PlacedKey → Target → Weight
key_weight_of keys = weight_by (λ t. length (keys_at keys t.part)) (λ t. 0)

abbrev pub total : (Weight → ℕ) → List Weight → ℕ → ℕ
total amount weights server = sum_by (λ (w : Weight). if w.server == server then amount w else 0) weights

abbrev pub is_heavy : List Weight → ℕ → Bool
is_heavy weights server = nat_lt 10000 (total (λ w. w.rows) weights server) || nat_lt 4194304 (total (λ w. w.bytes) weights server)

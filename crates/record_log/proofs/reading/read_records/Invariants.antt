use Rattle.std.proofs.Common.{◌≡◌, List, ℕ, ◌++◌, length}
use Rattle.record_log.specs.Layout.{Reads, size_of}
use Rattle.record_log.specs.RecordLists.{list_of}
use Rattle.record_log.proofs.reading.read_records.Given as goal

abbrev pub invariant-loop-after : goal.invariant-loop-after
invariant-loop-after l = (front : List ℕ) × (l.bytes ≡ front ++ l.rest) × (size_of (list_of l.records) ≡ length front) × Reads front (list_of l.records)

abbrev pub decreases-loop-after : goal.decreases-loop-after
decreases-loop-after l = length l.rest

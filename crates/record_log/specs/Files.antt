-- The two files of a log that was opened, and what an opening may do to them.
use Rattle.std.specs.Prelude.{bytes_eq, if◌then◌else◌, not, ◌&&◌, ◌||◌, ◌==◌, nat_le, nat_lt, drop, slice_index, ◌≡◌, ◌⊎◌, ◌≤◌, ℕ, ◌+◌, Bool, true, false, List, [], ◌++◌, length, take, None}
use Rattle.disk_core.specs.Counts.{HasRisen}
use Rattle.disk_core.specs.DiskModel.{DiskState, IsSure, synced}
use Rattle.byteorder.specs.Endian.{little_number}
use Rattle.record_log.specs.Recovery.{head_of, has_mark, is_current, records_of, shown_of}
use Rattle.record_log.specs.Format.{mark}
use Rattle.record_log.specs.Layout.{Reads, size_of}
use Rattle.record_log.specs.Crash.{IsShut}
use Rattle.record_log.specs.declared.files.Head.{Head}

-- A head that was read is that of this file.
pub record IsHead (file : List ℕ) (head : Head) : Type 0 where
  pub bytes : head.bytes ≡ head_of file
  pub length_file : head.length ≡ length file

-- Of two heads this is that of the current file.
abbrev pub leads : Head → Head → Bool
leads head other =
    (nat_le 18 head.length && (slice_index head.bytes 8 == 1))
    && (not (nat_le 18 other.length && (slice_index other.bytes 8 == 1)) || nat_lt (little_number 8 (drop 9 other.bytes)) (little_number 8 (drop 9 head.bytes)))

-- Of two heads this is that of the file that a refusal shows.
abbrev pub shown_head : Head → Head → Head
shown_head main spare = if bytes_eq (take 8 main.bytes) mark && not (bytes_eq (take 8 spare.bytes) mark) then spare else main

-- A fault of one disk is answered exactly where its count rose, and the count never falls.
pub record FaultCause (before now : ℕ) (failed : Type 0) : Type 0 where
  pub later : before ≤ now
  pub risen : failed → HasRisen before now
  pub kept : (failed → ⊥) → now ≡ before

-- The current file of two has these records, and the gate that ends them at this place.
pub record IsLog (current other : List ℕ) (records : List (List ℕ)) (gate : ℕ) : Type 0 where
  pub marked : has_mark current ≡ true
  pub other_marked : has_mark other ≡ true
  pub leads : is_current current other ≡ true
  pub head : List ℕ
  pub body : List ℕ
  pub length_head : length head ≡ 17
  pub length_body : 17 + length body ≡ gate
  pub size : 17 + size_of records ≡ gate
  pub shut : IsShut (head ++ body) current
  pub reads : Reads body records

-- The same, where the bool says that the spare file is the current one.
abbrev pub IsLogIn : Bool → List ℕ → List ℕ → List (List ℕ) → ℕ → Type 0
IsLogIn true main spare records gate = IsLog spare main records gate
IsLogIn false main spare records gate = IsLog main spare records gate

-- The files aren't those of a log, and this is what shows it.
pub record IsRefused (main spare found : List ℕ) (size : ℕ) : Type 0 where
  pub none : records_of main spare ≡ None
  pub shows : found ≡ take 8 (head_of (shown_of main spare))
  pub shows_size : size ≡ length (shown_of main spare)

-- A disk without bytes, which a crash leaves so.
pub record IsEmpty (s : DiskState) : Type 0 where
  pub seen : s.seen ≡ []
  pub sure : IsSure s

-- An opening changes nothing but that it may make a file sure.
abbrev pub MaySync : DiskState → DiskState → Type 0
MaySync s t = (t ≡ s) ⊎ (t ≡ synced s)

-- A disk fault is answered exactly where a count of faults rose, and no count falls.
pub record Counted (main main' spare spare' : ℕ) (failed : Type 0) : Type 0 where
  pub later : (main ≤ main') × (spare ≤ spare')
  pub risen : failed → HasRisen main main' ⊎ HasRisen spare spare'
  pub kept : (failed → ⊥) → (main' ≡ main) × (spare' ≡ spare)

-- A log as contracts see it, and what its calls keep.
use Rattle.std.specs.Prelude.{◌≡◌, ◌⊎◌, ◌≤◌, ◌<◌, ℕ, ◌+◌, Bool, true, false, if◌then◌else◌, List, [], ◌∷◌, ◌++◌, Option, Some, None, refl}
use Rattle.std.specs.Coded.{Coded, code_by, coded×, coded_ℕ, coded_bool, coded_list}
use Rattle.disk_core.specs.DiskModel.{Moment, DiskState, IsSure, MayLeave, LeftSince, LeavesOnly, Becomes}
use Rattle.record_log.specs.Recovery.{records_of}
use Rattle.record_log.specs.Files.{IsLog}
use Rattle.record_log.specs.declared.files.DiskPair.{DiskPair}

-- A log: the disk of its current file and the other one, whether the current one is the spare, the records, the length that the log may have, whether an append may come, and how many bytes, less one, the next append may have that takes no memory (none, where it is 0).
pub record LogView (D : Type 0) : Type 0 where
  pub current : D
  pub other : D
  pub in_spare : Bool
  pub records : List (List ℕ)
  pub most : ℕ
  pub ready : ℕ
  pub sound : Bool

-- How a log is stored: the tuple of its fields.
abbrev pub log_code : {D : Type 0} → Coded D → Coded (LogView D)
log_code {D = D} d =
    code_by
    (D × (D × (Bool × (List (List ℕ) × (ℕ × (ℕ × Bool))))))
    (coded× d (coded× d (coded× coded_bool (coded× (coded_list (coded_list coded_ℕ)) (coded× coded_ℕ (coded× coded_ℕ coded_bool))))))
    (λ l. (l.current, (l.other, (l.in_spare, (l.records, (l.most, (l.ready, l.sound)))))))
    (λ t. record { current = t.0; other = t.1.0; in_spare = t.1.1.0; records = t.1.1.1.0; most = t.1.1.1.1.0; ready = t.1.1.1.1.1.0; sound = t.1.1.1.1.1.1 })
    (λ _. refl)

-- The disks of a log, the main one and the spare one.
abbrev pub disks_of : {D : Type 0} → LogView D → DiskPair D
disks_of log = if log.in_spare then record { main = log.other; spare = log.current } else record { main = log.current; spare = log.other }

-- The disk of the current file, and the other one, where the bool says that the spare file is the current one.
abbrev pub ordered_of : {D : Type 0} → Bool → DiskPair D → D × D
ordered_of true disks = (disks.spare, disks.main)
ordered_of false disks = (disks.main, disks.spare)

-- Two disks as a pair.
abbrev pub pair_of : {D : Type 0} → D → D → D × D
pair_of first second = (first, second)

-- A main and a spare disk.
abbrev pub disk_pair : {D : Type 0} → D → D → DiskPair D
disk_pair main spare = record { main = main; spare = spare }

-- Where the disks tell: all of both files is sure, and they are a log with these records, whose closing gate stands at that place.
abbrev pub IsStored : Option DiskState → Option DiskState → List (List ℕ) → ℕ → Type 0
IsStored current other records gate = (a b : DiskState) → current ≡ Some a → other ≡ Some b → IsSure a × IsSure b × IsLog a.seen b.seen records gate

-- The same of the main and the spare file, where the bool says that the spare one is the current one.
abbrev pub IsStoredIn : Bool → Option DiskState → Option DiskState → List (List ℕ) → ℕ → Type 0
IsStoredIn true main spare records gate = IsStored spare main records gate
IsStoredIn false main spare records gate = IsStored main spare records gate

-- A crash at any moment from the old state on up to the new one leaves what a crash just before could have left.
abbrev pub LeavesAsBefore : Option DiskState → Option DiskState → Type 0
LeavesAsBefore old new = Becomes (λ s t. LeavesOnly s t (MayLeave s.now)) old new

-- What was made ready: so many bytes, less one, of a payload.
pub record HasRoom (calls room ready next frame slots : ℕ) : Type 0 where
  pub four_calls : 4 ≤ calls
  pub bytes : ready + 5 ≤ room
  pub payload : ready ≤ next + 1
  pub framed : ready + 4 ≤ frame
  pub slot : 0 < slots

-- A crash now leaves of the two files only what has P, as far as the disks tell.
abbrev pub CrashLeaves : Option DiskState → Option DiskState → (List ℕ → List ℕ → Type 0) → Type 0
CrashLeaves current other P = (a b : DiskState) → current ≡ Some a → other ≡ Some b → (c d : List ℕ) → MayLeave a.now c → MayLeave b.now d → P c d

-- From two states on, up to two others, a crash at any moment leaves of the two files only what has P: each file as it may be at any moment of its own.
pub record LeavesPairs (a b a' b' : DiskState) (P : List ℕ → List ℕ → Type 0) : Type 0 where
  pub more : List Moment
  pub clock : a'.moments ≡ a.moments ++ more
  pub other_more : List Moment
  pub other_clock : b'.moments ≡ b.moments ++ other_more
  pub each : (c d : List ℕ) → LeftSince a a' c → LeftSince b b' d → P c d

-- The same of two disks, as far as they tell: they go on telling.
abbrev pub AnyMoment : Option DiskState → Option DiskState → Option DiskState → Option DiskState → (List ℕ → List ℕ → Type 0) → Type 0
AnyMoment current other current' other' P = (a b : DiskState) → current ≡ Some a → other ≡ Some b
    → (a' : DiskState) × ((b' : DiskState) × ((current' ≡ Some a') × ((other' ≡ Some b') × LeavesPairs a b a' b' P)))

-- The files stand for the records from before, or for these and the one that is appended.
abbrev pub IsBeforeOrAfter : List (List ℕ) → List ℕ → List ℕ → List ℕ → Type 0
IsBeforeOrAfter records payload current other = (records_of current other ≡ Some records) ⊎ (records_of current other ≡ Some (records ++ payload ∷ []))

-- The files stand for a log without records, or for none.
abbrev pub IsNew : List ℕ → List ℕ → Type 0
IsNew main spare = (records_of main spare ≡ Some []) ⊎ (records_of main spare ≡ None)

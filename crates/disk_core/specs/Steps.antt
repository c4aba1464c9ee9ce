-- Changing calls in turn, as what is planned lets them go.
use Rattle.std.specs.Prelude.{◌≡◌, ℕ, Bool, true, if◌then◌else◌, List, [], ◌∷◌, Option, Some, is_none, is_ok, option_map, Result}
use Rattle.disk_core.specs.DiskModel.{DiskState, written, cut_to, synced}
use Rattle.disk_core.specs.Trial.{Trial, befallen, next_mishap, passed}

-- A changing call.
pub data Step : Type 0 where
  Writes : ℕ → List ℕ → Step
  Cuts : ℕ → Step
  Syncs : Step

-- What it makes of a disk.
abbrev pub does : Step → DiskState → DiskState
does (Writes at piece) s = written at piece s
does (Cuts n) s = cut_to n s
does Syncs s = synced s

-- What it has made of a disk that stops inside it.
abbrev pub begins : Step → DiskState → DiskState
begins (Writes at piece) s = written at piece s
begins (Cuts n) s = cut_to n s
begins Syncs s = s

-- A changing call went as it was planned, where the disk tells of a plan.
pub record AsPlanned {E : Type 0} (step : Step) (old new : Option DiskState) (trial trial' : Option Trial) (result : Result Unit E) : Type 0 where
  pub spent : trial' ≡ option_map passed trial
  pub state : (t : Trial) → trial ≡ Some t → new ≡ option_map (befallen (next_mishap t) (does step) (begins step)) old
  pub answer : (t : Trial) → trial ≡ Some t → is_ok result ≡ is_none (next_mishap t)

-- A disk after some calls: what it holds, its trial, and whether all of them succeeded.
pub record Course : Type 0 where
  pub state : DiskState
  pub trial : Trial
  pub well : Bool

-- One call more, where those before it succeeded.
abbrev pub taken : Step → Course → Course
taken step c =
    if c.well
    then record { state = befallen (next_mishap c.trial) (does step) (begins step) c.state; trial = passed c.trial; well = is_none (next_mishap c.trial) }
    else c

-- Calls in turn, up to and with the first that fails.
abbrev pub taken_all : List Step → Course → Course
taken_all [] c = c
taken_all (step ∷ steps) c = taken_all steps (taken step c)

-- Before the first call.
abbrev pub setting_out : DiskState → Trial → Course
setting_out s t = record { state = s; trial = t; well = true }

-- These calls went as they were planned, where the disk tells, and the bool says whether all of them succeeded.
abbrev pub GoThrough : List Step → Option DiskState → Option Trial → Option DiskState → Option Trial → Bool → Type 0
GoThrough steps state trial state' trial' well = (s : DiskState) (t : Trial) → state ≡ Some s → trial ≡ Some t
    → (state' ≡ Some (taken_all steps (setting_out s t)).state) × (trial' ≡ Some (taken_all steps (setting_out s t)).trial) × (well ≡ (taken_all steps (setting_out s t)).well)

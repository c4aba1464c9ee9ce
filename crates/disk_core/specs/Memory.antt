-- A disk in memory as a state of the model.
use Rattle.std.specs.Prelude.{ℕ, ◌+◌, ◌-◌, min, vec_capacity, vec_len}
use Rattle.disk_core.specs.declared.memory.MemDisk.{MemDisk}
use Rattle.disk_core.specs.DiskModel.{DiskState}
use Rattle.disk_core.specs.Recents.{moment_of}
use Rattle.disk_core.specs.Trial.{Trial}

-- What a disk in memory holds, and a crash may leave.
abbrev pub state_of : MemDisk → DiskState
state_of d = record { seen = d.bytes.items; now = moment_of d.recent; moments = d.past.moments }

-- What is planned for it, and what has come of it.
abbrev pub trial_of : MemDisk → Trial
trial_of d = d.plan

-- How often a call on it has failed.
abbrev pub faults_of : MemDisk → ℕ
faults_of d = d.faults

-- How many bytes it may be given without taking memory: there has to be room in the file, among the changes, and where a sync puts them.
abbrev pub room_of : MemDisk → ℕ
room_of d =
    min (vec_capacity d.bytes - vec_len d.bytes) (min (vec_capacity d.recent.pieces - vec_len d.recent.pieces) (vec_capacity d.recent.sure - (vec_len d.recent.sure + vec_len d.recent.pieces)))

-- How many changing calls it may be given without taking memory.
abbrev pub calls_of : MemDisk → ℕ
calls_of d = vec_capacity d.recent.calls - vec_len d.recent.calls

-- The changes that a disk in memory keeps, as the model has them.
use Rattle.std.specs.Prelude.{ℕ, ◌+◌, ◌-◌, min, vec_capacity, vec_len}
use Rattle.disk_core.specs.DiskModel.{Moment}
use Rattle.disk_core.specs.History.{changes}
use Rattle.disk_core.specs.declared.recent.Recent.{Recent}

-- The present moment: what the last sync made sure, and the changes since.
abbrev pub moment_of : Recent → Moment
moment_of r = record { sure = r.sure.items; since = changes r.calls.items r.pieces.items }

-- How many calls more take no memory.
abbrev pub calls_left : Recent → ℕ
calls_left r = vec_capacity r.calls - vec_len r.calls

-- How many bytes more take no memory, now and when a sync makes them sure.
abbrev pub pieces_left : Recent → ℕ
pieces_left r = min (vec_capacity r.pieces - vec_len r.pieces) (vec_capacity r.sure - (vec_len r.sure + vec_len r.pieces))

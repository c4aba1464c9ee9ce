-- What a log keeps true of its fields.
use Rattle.std.specs.Prelude.{◌≡◌, ◌<◌, ℕ, ◌+◌, ◌^◌, Bool, true, List, [], Option, Vec, vec_capacity}
use Rattle.std.specs.declared.alloc.Global.{Global}
use Rattle.disk_core.specs.DiskModel.{DiskState}
use Rattle.record_log.specs.Layout.{size_of}
use Rattle.record_log.specs.LogView.{IsStored, HasRoom}

-- A sound log is stored on its disks, its gate stands behind its records, and what was made ready is there.
pub record IsKept (current other : Option DiskState) (calls room : ℕ) (records : List (List ℕ)) (gate ready : ℕ) (sound : Bool) (next frame : Vec ℕ Global) (slots : ℕ) : Type 0 where
  pub stored : sound ≡ true → IsStored current other records gate
  pub size : sound ≡ true → 17 + size_of records ≡ gate
  pub fits : gate + 1 < 2 ^ 64
  pub has_room : 0 < ready → HasRoom calls room ready (vec_capacity next) (vec_capacity frame) slots
  pub no_next : next.items ≡ []
  pub no_frame : frame.items ≡ []

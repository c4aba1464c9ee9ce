-- What is planned for the changing calls of a disk, and what has come of it.
use Rattle.std.specs.Prelude.{◌≡◌, ℕ, ◌+◌, ◌-◌, ◌^◌, ◌==◌, min, Bool, not, if◌then◌else◌, filter, map, List, [], ◌∷◌, Option, Some, None, is_none, is_some, is_ok, Result}
use Rattle.disk_core.specs.DiskModel.{DiskState}
use Rattle.disk_core.specs.declared.image.Image.{Image}
use Rattle.disk_core.specs.declared.plan.Mishap.{Mishap}
use Rattle.disk_core.specs.declared.plan.Mishap.TheVariants.{Fail, Stop}
use Rattle.disk_core.specs.declared.plan.Pending.{Pending}

-- The mishaps that are still to come, the oldest first, the image with which the disk has stopped, if it has, and how many changing calls were made.
pub record Trial : Type 0 where
  pub pending : List Pending
  pub stopped : Option Image
  pub made : ℕ

-- No mishap is planned, and no call was made.
abbrev pub untried : Trial
untried = record { pending = []; stopped = None; made = 0 }

-- Of an earlier planned mishap and a later one at the same call, the one that counts: a stop before a failure, and a later stop before an earlier one.
abbrev pub graver : Option Mishap → Option Mishap → Option Mishap
graver earlier None = earlier
graver earlier (Some (Stop image)) = Some (Stop image)
graver None (Some Fail) = Some Fail
graver (Some mishap) (Some Fail) = Some mishap

-- The mishap of the next changing call, where one is planned.
abbrev pub mishap_of : List Pending → Option Mishap
mishap_of [] = None
mishap_of (entry ∷ pending) = graver (if entry.call == 1 then Some entry.mishap else None) (mishap_of pending)

-- It befalls a later call than the next one.
abbrev pub is_later : Pending → Bool
is_later entry = not (entry.call == 1)

-- The same, when a call more was made.
abbrev pub nearer : Pending → Pending
nearer entry = record { call = entry.call - 1; mishap = entry.mishap }

-- What is still to come after the next changing call: all that was planned for that call is spent, and the rest is a call nearer.
abbrev pub later : List Pending → List Pending
later pending = map nearer (filter is_later pending)

-- What befalls the next changing call: a disk that has stopped fails.
abbrev pub next_mishap : Trial → Option Mishap
next_mishap t = if is_some t.stopped then Some Fail else mishap_of t.pending

-- The image of a stop.
abbrev pub image_in : Option Mishap → Option Image
image_in None = None
image_in (Some Fail) = None
image_in (Some (Stop image)) = Some image

-- After the next changing call. On a disk that has stopped it doesn't count.
abbrev pub passed : Trial → Trial
passed t = if is_some t.stopped then t else record { pending = later t.pending; stopped = image_in (mishap_of t.pending); made = min (t.made + 1) (2 ^ 64 - 1) }

-- What a changing call makes of a disk: `done` where nothing befalls it, nothing where it fails, and `torn` where the disk stops inside it.
abbrev pub befallen : Option Mishap → (DiskState → DiskState) → (DiskState → DiskState) → DiskState → DiskState
befallen None done torn s = done s
befallen (Some Fail) done torn s = s
befallen (Some (Stop image)) done torn s = torn s

-- A call that changes nothing fails exactly on a disk that has stopped, where the disk tells of a plan.
pub record UnlessStopped {T E : Type 0} (trial trial' : Option Trial) (result : Result T E) : Type 0 where
  pub kept : trial' ≡ trial
  pub answer : (t : Trial) → trial ≡ Some t → is_ok result ≡ is_none t.stopped

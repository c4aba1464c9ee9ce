-- What a disk holds, what its calls make of it, and what a crash may leave.
use Rattle.std.specs.Prelude.{◌≡◌, ◌⊎◌, ℕ, ◌+◌, ◌-◌, ◌≤◌, min, max, List, [], ◌∷◌, ◌++◌, length, take, drop, Option, Some, None}

-- A change of the file that no sync has made sure yet: bytes written at a place, or a cut to a length.
pub data Change : Type 0 where
  Wrote : ℕ → List ℕ → Change
  CutTo : ℕ → Change

-- A moment: the bytes that the last sync made sure, and the changes since, the oldest first.
pub record Moment : Type 0 where
  pub sure : List ℕ
  pub since : List Change

-- A moment at which these bytes are sure, and nothing else stands.
abbrev pub sure_now : List ℕ → Moment
sure_now bytes = record { sure = bytes; since = [] }

-- A moment with one change more that isn't sure.
abbrev pub changed_by : Change → Moment → Moment
changed_by change m = record { sure = m.sure; since = m.since ++ change ∷ [] }

-- A disk: the bytes that a read gives, the present moment, and the moments that the clock has counted, the oldest first.
pub record DiskState : Type 0 where
  pub seen : List ℕ
  pub now : Moment
  pub moments : List Moment

-- A disk at its start: these bytes, all of them sure.
abbrev pub start : List ℕ → DiskState
start bytes = record { seen = bytes; now = sure_now bytes; moments = [] }

-- All that a read gives is sure.
abbrev pub IsSure : DiskState → Type 0
IsSure s = s.now ≡ sure_now s.seen

-- The file after these bytes are written over it from a place on.
abbrev pub patched : ℕ → List ℕ → List ℕ → List ℕ
patched at piece bytes = take at bytes ++ (piece ++ drop (at + length piece) bytes)

-- After a write of n bytes that may be torn anyhow: any bytes in its range and past the old end, the same elsewhere.
-- (A write past the end, which no caller makes, would begin at the end.)
pub record Torn (at n : ℕ) (old new : List ℕ) : Type 0 where
  pub before : take (min at (length old)) new ≡ take at old
  pub after : drop (at + n) new ≡ drop (at + n) old
  pub no_shorter : length old ≤ length new
  pub no_longer : length new ≤ max (length old) (at + n)

-- After a cut to n bytes that may be torn: a front of the file, no shorter than n.
pub record Cut (n : ℕ) (old new : List ℕ) : Type 0 where
  pub front : take (length new) old ≡ new
  pub no_shorter : min n (length old) ≤ length new

-- What a torn change may make of a file.
abbrev pub Tears : Change → List ℕ → List ℕ → Type 0
Tears (Wrote at piece) old new = Torn at (length piece) old new
Tears (CutTo n) old new = Cut n old new

-- What these changes, each torn anyhow, may make of a file.
abbrev pub TearsAll : List Change → List ℕ → List ℕ → Type 0
TearsAll [] old new = new ≡ old
TearsAll (change ∷ changes) old new = (mid : List ℕ) × Tears change old mid × TearsAll changes mid new

-- A crash at this moment may leave these bytes: those that were sure, with each later change torn anyhow.
abbrev pub MayLeave : Moment → List ℕ → Type 0
MayLeave m bytes = TearsAll m.since m.sure bytes

-- A crash at one of these moments may leave these bytes.
abbrev pub LeftAtSome : List Moment → List ℕ → Type 0
LeftAtSome [] bytes = ⊥
LeftAtSome (m ∷ moments) bytes = MayLeave m bytes ⊎ LeftAtSome moments bytes

-- The disk at a new moment, which the clock counts.
abbrev pub at_moment : DiskState → List ℕ → Moment → DiskState
at_moment s seen m = record { seen = seen; now = m; moments = s.moments ++ m ∷ [] }

-- After a write that succeeded.
abbrev pub written : ℕ → List ℕ → DiskState → DiskState
written at piece s = at_moment s (patched at piece s.seen) (changed_by (Wrote at piece) s.now)

-- After a cut that succeeded.
abbrev pub cut_to : ℕ → DiskState → DiskState
cut_to n s = at_moment s (take n s.seen) (changed_by (CutTo n) s.now)

-- After a sync that succeeded: a crash leaves what a read gives.
abbrev pub synced : DiskState → DiskState
synced s = at_moment s s.seen (sure_now s.seen)

-- A write that failed did nothing, or may have left any bytes in its range and past the old end.
abbrev pub FailsToWrite : ℕ → List ℕ → DiskState → DiskState → Type 0
FailsToWrite at piece s t = (t ≡ s) ⊎ ((seen : List ℕ) × Torn at (length piece) s.seen seen × (t ≡ at_moment s seen (changed_by (Wrote at piece) s.now)))

-- A cut that failed left the old or the new length.
abbrev pub FailsToCut : ℕ → DiskState → DiskState → Type 0
FailsToCut n s t = (t ≡ s) ⊎ (t ≡ cut_to n s)

-- What a disk has become, where it tells: one that doesn't tell goes on not telling.
abbrev pub Becomes : (DiskState → DiskState → Type 0) → Option DiskState → Option DiskState → Type 0
Becomes step None new = new ≡ None
Becomes step (Some s) new = (t : DiskState) × (new ≡ Some t) × step s t

-- A read of this many bytes at a place filled the front of the room with what stands there, and fell short only at the end.
pub record ReadsAt (seen : List ℕ) (at count : ℕ) (old new : List ℕ) : Type 0 where
  pub counted : count ≡ min (length old) (length seen - at)
  pub filled : new ≡ take count (drop at seen) ++ drop count old

-- A crash at a moment from the old state on, up to the new one, may leave these bytes.
abbrev pub LeftSince : DiskState → DiskState → List ℕ → Type 0
LeftSince old new bytes = MayLeave old.now bytes ⊎ LeftAtSome (drop (length old.moments) new.moments) bytes

-- The clock went on from the old state to the new one, and a crash at any moment on the way leaves only bytes that have P.
pub record LeavesOnly (old new : DiskState) (P : List ℕ → Type 0) : Type 0 where
  pub more : List Moment
  pub clock : new.moments ≡ old.moments ++ more
  pub each : (bytes : List ℕ) → LeftSince old new bytes → P bytes

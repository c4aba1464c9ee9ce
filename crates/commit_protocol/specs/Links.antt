-- Redundant links: partitions, statuses, epochs, cursors, and how far decided batches have brought a link.
use Rattle.std.specs.Prelude.{◌≡◌, ℕ, Bool, true, false, ◌&&◌, ◌||◌, ◌+◌, eqb, leb, List, [], ◌∷◌, Option, ◌⊎◌}
use Rattle.commit_protocol.specs.Rows.{Row, Key, Interval, is_in_one}

-- The plain tables, in one space of keys: what stands at each key.
abbrev pub Plain : Type 0
Plain = ℕ → Option Row

-- The partition of each key; of each link its partition and its server. A link's table at its server has the link's number.
pub record Placement : Type 0 where
  pub key_partition : ℕ → ℕ
  pub link_partition : ℕ → ℕ
  pub link_server : ℕ → ℕ

-- A key's place at a link's server.
abbrev pub at_link : ℕ → ℕ → Key
at_link l k = record { table = l; key = k }

-- A key lies in these intervals of a partition.
abbrev pub lies : Placement → ℕ → List Interval → ℕ → Bool
lies p q keys k = eqb (p.key_partition k) q && is_in_one keys k

-- A link is usable, or is being copied to, or counts for nothing.
pub data Status : Type 0 where
  OK : Status
  RECOVERY : Status
  NG : Status

-- The link is OK.
abbrev pub is_ok : Status → Bool
is_ok OK = true
is_ok RECOVERY = false
is_ok NG = false

-- The link is RECOVERY.
abbrev pub is_recovery : Status → Bool
is_recovery OK = false
is_recovery RECOVERY = true
is_recovery NG = false

-- The link is NG.
abbrev pub is_ng : Status → Bool
is_ng OK = false
is_ng RECOVERY = false
is_ng NG = true

-- How far a copy has come, by key order.
pub data Cursor : Type 0 where
  Nothing : Cursor
  Up_to : (key : ℕ) → Cursor
  All : Cursor

-- The key is at or below the cursor.
abbrev pub reaches_key : Cursor → ℕ → Bool
reaches_key Nothing k = false
reaches_key (Up_to c) k = leb k c
reaches_key All k = true

-- The key is at most the next one above the cursor.
abbrev pub is_below : ℕ → Cursor → Bool
is_below k Nothing = false
is_below k (Up_to c) = leb k (c + 1)
is_below k All = true

-- A link as the front's records say. epoch: the number of its changes to NG and from NG to RECOVERY.
pub record Link : Type 0 where
  pub status : Status
  pub epoch : ℕ
  pub cursor : Cursor

-- A decided batch of a copy has brought a link up to here, in this epoch.
pub record Mark : Type 0 where
  pub link : ℕ
  pub epoch : ℕ
  pub upto : Cursor

-- A decided batch of this epoch has brought the link to the key.
abbrev pub is_copied : List Mark → ℕ → ℕ → ℕ → Bool
is_copied [] l e k = false
is_copied (m ∷ ms) l e k = (eqb m.link l && (eqb m.epoch e && reaches_key m.upto k)) || is_copied ms l e k

-- The key is one that the link has to have right: each of an OK link, none of an NG link, and of a RECOVERY link those that decided
-- batches of its present epoch have reached.
abbrev pub has_by : List Mark → ℕ → Link → Status → ℕ → Bool
has_by ms l n OK k = true
has_by ms l n RECOVERY k = is_copied ms l n.epoch k
has_by ms l n NG k = false

-- The keys up to the cursor, as the records say.
abbrev pub recorded_by : Link → Status → ℕ → Bool
recorded_by n OK k = true
recorded_by n RECOVERY k = reaches_key n.cursor k
recorded_by n NG k = false

-- A decided batch of this epoch has come to just below the key, or further.
abbrev pub comes_to : List Mark → ℕ → ℕ → ℕ → Bool
comes_to [] l e k = false
comes_to (m ∷ ms) l e k = (eqb m.link l && (eqb m.epoch e && is_below k m.upto)) || comes_to ms l e k

-- A link after a change of status that raises its epoch: what was copied before doesn't count.
abbrev pub raised : Link → Status → Link
raised n s = record { status = s; epoch = n.epoch + 1; cursor = Nothing }

-- A batch that was decided has come to just here.
abbrev pub IsMark : Mark → List Mark → Type 0
IsMark m [] = ⊥
IsMark m (n ∷ ns) = (n ≡ m) ⊎ IsMark m ns

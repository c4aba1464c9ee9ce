-- Rows of a server, what a request locks there, and what a branch did. Lists of what was done have the newest first.
use Rattle.std.specs.Prelude.{◌≡◌, ℕ, Bool, true, false, cond, ◌&&◌, ◌||◌, eqb, leb, List, [], ◌∷◌, Option, None}

-- ---- rows

-- A row's values. No definition and no proof of these crates looks into a row, so a product's type of rows is put in here.
abbrev pub Row : Type 0
Row = ℕ

-- A row for each number, as examples have them.
abbrev pub row : ℕ → Row
row n = n

-- A row's place at a server: its table there, and its key.
pub record Key : Type 0 where
  pub table : ℕ
  pub key : ℕ

-- Two places are one.
abbrev pub same_key : Key → Key → Bool
same_key a b = eqb a.table b.table && eqb a.key b.key

-- The rows of a server: what stands at each key.
abbrev pub Table : Type 0
Table = Key → Option Row

-- ---- footprints

-- A closed interval of keys.
pub record Interval : Type 0 where
  pub from : ℕ
  pub to : ℕ

-- A key lies in an interval.
abbrev pub is_within : Interval → ℕ → Bool
is_within i k = leb i.from k && leb k i.to

-- A key lies in one of the intervals.
abbrev pub is_in_one : List Interval → ℕ → Bool
is_in_one [] k = false
is_in_one (i ∷ is) k = is_within i k || is_in_one is k

-- Two intervals meet where neither lies above the other.
abbrev pub meet : Interval → Interval → Bool
meet i j = leb i.from j.to && leb j.from i.to

-- An interval meets one of these.
abbrev pub meets_one : Interval → List Interval → Bool
meets_one i [] = false
meets_one i (j ∷ js) = meet i j || meets_one i js

-- An interval of the one list meets one of the other.
abbrev pub some_meet : List Interval → List Interval → Bool
some_meet [] js = false
some_meet (i ∷ is) js = meets_one i js || some_meet is js

-- What one request locks: keys of one table of the server, in closed intervals, shared or exclusive.
pub record Footprint : Type 0 where
  pub table : ℕ
  pub keys : List Interval
  pub exclusive : Bool

-- A key lies in a footprint.
abbrev pub covers : Footprint → Key → Bool
covers f k = eqb f.table k.table && is_in_one f.keys k.key

-- Two footprints conflict where the tables are equal, the keys meet and one is exclusive.
abbrev pub conflicts : Footprint → Footprint → Bool
conflicts f g = eqb f.table g.table && (some_meet f.keys g.keys && (f.exclusive || g.exclusive))

-- The same keys, exclusive.
abbrev pub exclusively : Footprint → Footprint
exclusively f = record f { exclusive = true }

-- The rows at a footprint's keys, and nothing elsewhere.
abbrev pub restricted : Footprint → Table → Table
restricted f t k = cond (covers f k) (t k) None

-- ---- what a branch did

-- A scan gave these rows for its keys, or a change made the rows at its keys these: a put, a delete and a clear are changes.
pub data Operation : Type 0 where
  Scanned : (footprint : Footprint) (rows : Table) → Operation
  Changed : (footprint : Footprint) (rows : Table) → Operation

-- The footprint that an operation took: that of a change is exclusive.
abbrev pub footprint_of : Operation → Footprint
footprint_of (Scanned f rows) = f
footprint_of (Changed f rows) = exclusively f

-- The rows after one operation.
abbrev pub apply : Operation → Table → Table
apply (Scanned f rows) t = t
apply (Changed f rows) t = λ k. cond (covers f k) (rows k) (t k)

-- The rows after these operations.
abbrev pub after : Table → List Operation → Table
after t [] = t
after t (op ∷ older) = apply op (after t older)

-- A scan's rows are those of the table at the scan's keys.
abbrev pub IsRight : Table → Operation → Type 0
IsRight t (Scanned f rows) = (k : Key) → rows k ≡ restricted f t k
IsRight t (Changed f rows) = Unit {0}

-- Each scan's rows are those that the table had then.
abbrev pub AreRight : Table → List Operation → Type 0
AreRight t [] = Unit {0}
AreRight t (op ∷ older) = IsRight (after t older) op × AreRight t older

-- ---- which keys a branch holds

-- A key lies in one of the footprints.
abbrev pub holds : List Operation → Key → Bool
holds [] k = false
holds (op ∷ older) k = covers (footprint_of op) k || holds older k

-- A key lies in one of the exclusive footprints.
abbrev pub owns : List Operation → Key → Bool
owns [] k = false
owns (op ∷ older) k = ((footprint_of op).exclusive && covers (footprint_of op) k) || owns older k

-- The operation changes the key.
abbrev pub changes_key : Operation → Key → Bool
changes_key (Scanned f rows) k = false
changes_key (Changed f rows) k = covers f k

-- A key was changed.
abbrev pub touches : List Operation → Key → Bool
touches [] k = false
touches (op ∷ older) k = changes_key op k || touches older k

-- A footprint of the list conflicts with this one.
abbrev pub blocks : Footprint → List Operation → Bool
blocks f [] = false
blocks f (op ∷ older) = conflicts f (footprint_of op) || blocks f older

-- No footprint of the one list conflicts with one of the other.
abbrev pub AreApart : List Operation → List Operation → Type 0
AreApart [] other = Unit {0}
AreApart (op ∷ older) other = (blocks (footprint_of op) other ≡ false) × AreApart older other

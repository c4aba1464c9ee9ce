-- What the front notes of a transaction: reads and writes of the plain tables, and where they went; and that it is what was told.
use Rattle.std.specs.Prelude.{◌≡◌, ◌≢◌, ℕ, Bool, true, false, cond, ◌&&◌, ◌||◌, eqb, leb, List, [], ◌∷◌, None, ◌⊎◌}
use Rattle.commit_protocol.specs.Rows.{Table, Interval, Footprint, Operation, is_in_one, covers}
use Rattle.commit_protocol.specs.Rows.Operation.{Scanned, Changed}
use Rattle.commit_protocol.specs.Links.{Plain, Placement, at_link, lies}

-- Where something went: a link, on a connection, in the link's epoch as it was sent.
pub record Went : Type 0 where
  pub link : ℕ
  pub connection : ℕ
  pub epoch : ℕ

-- What a transaction did with the plain tables. A read looks at the rows in some intervals of a partition, and found this: look is
-- any function of these rows, and links are those that gave exactly what was found. A write makes the rows at its keys these.
pub data Note : Type 0 where
  Read : (partition : ℕ) (keys : List Interval) (look : Plain → Plain) (found : Plain) (links : List Went) → Note
  Write : (partition : ℕ) (keys : List Interval) (rows : Plain) (links : List Went) → Note

-- The rows in some intervals of a partition.
abbrev pub seen_in : Placement → ℕ → List Interval → Plain → Plain
seen_in p q keys t k = cond (lies p q keys k) (t k) None

-- The plain tables after one write.
abbrev pub written : Placement → ℕ → List Interval → Plain → Plain → Plain
written p q keys rows t k = cond (lies p q keys k) (rows k) (t k)

-- The plain tables after these notes.
abbrev pub plain_after : Placement → Plain → List Note → Plain
plain_after p t [] = t
plain_after p t (Read q keys look found links ∷ older) = plain_after p t older
plain_after p t (Write q keys rows links ∷ older) = written p q keys rows (plain_after p t older)

-- The plain tables after the decided transactions.
abbrev pub plain : Placement → List (List Note) → Plain
plain p [] = λ k. None
plain p (notes ∷ older) = plain_after p (plain p older) notes

-- Each read found what it finds on the plain tables as they were then.
abbrev pub IsPlainRun : Placement → Plain → List Note → Type 0
IsPlainRun p t [] = Unit {0}
IsPlainRun p t (Read q keys look found links ∷ older) = (found ≡ look (seen_in p q keys (plain_after p t older))) × IsPlainRun p t older
IsPlainRun p t (Write q keys rows links ∷ older) = IsPlainRun p t older

-- The decided transactions, in the order of their decisions, are a run of one plain table.
abbrev pub IsPlainSerial : Placement → List (List Note) → Type 0
IsPlainSerial p [] = Unit {0}
IsPlainSerial p (notes ∷ older) = IsPlainRun p (plain p older) notes × IsPlainSerial p older

-- Something went to the link on the connection.
abbrev pub went_to : ℕ → ℕ → List Went → Bool
went_to l c [] = false
went_to l c (g ∷ gs) = (eqb g.link l && eqb g.connection c) || went_to l c gs

-- Something went to the link in this epoch.
abbrev pub went_in : ℕ → ℕ → List Went → Bool
went_in l e [] = false
went_in l e (g ∷ gs) = (eqb g.link l && eqb g.epoch e) || went_in l e gs

-- Each of these was sent, in that epoch or a later one: a request that is repeated keeps the epoch of its first sending.
abbrev pub was_sent : Went → List Went → Bool
was_sent g [] = false
was_sent g (h ∷ hs) = (eqb g.link h.link && (eqb g.connection h.connection && leb g.epoch h.epoch)) || was_sent g hs

-- Each of these was sent.
abbrev pub all_sent : List Went → List Went → Bool
all_sent [] hs = true
all_sent (g ∷ gs) hs = was_sent g hs && all_sent gs hs

-- The links of a note.
abbrev pub links_of : Note → List Went
links_of (Read q keys look found links) = links
links_of (Write q keys rows links) = links

-- All that the notes name was sent.
abbrev pub notes_sent : List Note → List Went → Bool
notes_sent [] hs = true
notes_sent (n ∷ ns) hs = all_sent (links_of n) hs && notes_sent ns hs

-- A scan of the link at least as wide, in which the look at the partition's rows finds this.
abbrev pub IsScanOf : Placement → ℕ → ℕ → List Interval → (Plain → Plain) → Plain → Operation → Type 0
IsScanOf p l q keys look found (Scanned f rows) = ((k : ℕ) → is_in_one keys k ≡ true → covers f (at_link l k) ≡ true) × (look (seen_in p q keys (λ k. rows (at_link l k))) ≡ found)
IsScanOf p l q keys look found (Changed f rows) = ⊥

-- A change of the link at just these keys, to these rows.
abbrev pub IsChangeOf : ℕ → List Interval → Plain → Operation → Type 0
IsChangeOf l keys rows (Scanned f seen) = ⊥
IsChangeOf l keys rows (Changed f new) = (k : ℕ) → (covers f (at_link l k) ≡ is_in_one keys k) × (is_in_one keys k ≡ true → new (at_link l k) ≡ rows k)

-- The changes that were made of a link's table on a connection are the writes that the notes say went there, in order. Both lists have
-- the newest first.
pub data Follows (p : Placement) (l c : ℕ) : List Note → List Operation → Type 0 where
  -- nothing was done
  Ends : Follows p l c [] []
  -- a read changes nothing
  Reads_pass : {q : ℕ} {keys : List Interval} {look : Plain → Plain} {found : Plain} {links : List Went} {ns : List Note} {ops : List Operation}
      → Follows p l c ns ops → Follows p l c (Read q keys look found links ∷ ns) ops
  -- a write that didn't go here
  Writes_pass : {q : ℕ} {keys : List Interval} {rows : Plain} {links : List Went} {ns : List Note} {ops : List Operation}
      → went_to l c links ≡ false → Follows p l c ns ops → Follows p l c (Write q keys rows links ∷ ns) ops
  -- a write that was made here
  Writes_here : {q : ℕ} {keys : List Interval} {rows : Plain} {links : List Went} {ns : List Note} {f : Footprint} {new : Table} {ops : List Operation}
      → went_to l c links ≡ true → IsChangeOf l keys rows (Changed f new) → Follows p l c ns ops → Follows p l c (Write q keys rows links ∷ ns) (Changed f new ∷ ops)
  -- a scan changes nothing
  Scans_pass : {ns : List Note} {f : Footprint} {rows : Table} {ops : List Operation} → Follows p l c ns ops → Follows p l c ns (Scanned f rows ∷ ops)
  -- a change of another link's table at the same server
  Changes_other : {ns : List Note} {f : Footprint} {new : Table} {ops : List Operation} → f.table ≢ l → Follows p l c ns ops → Follows p l c ns (Changed f new ∷ ops)

-- A read was made here as a scan, after the writes of the earlier notes and before those of the later ones. In which order the scans
-- between two writes came doesn't matter.
pub data IsReadAt (p : Placement) (l c q : ℕ) (keys : List Interval) (look : Plain → Plain) (found : Plain) (ns : List Note) : List Operation → Type 0 where
  Here : {f : Footprint} {rows : Table} {older : List Operation} → IsScanOf p l q keys look found (Scanned f rows) → Follows p l c ns older → IsReadAt p l c q keys look found ns (Scanned f rows ∷ older)
  Earlier : {op : Operation} {older : List Operation} → IsReadAt p l c q keys look found ns older → IsReadAt p l c q keys look found ns (op ∷ older)

-- Each read that the notes say was made here was.
abbrev pub ReadsFollow : Placement → ℕ → ℕ → List Note → List Operation → Type 0
ReadsFollow p l c [] ops = Unit {0}
ReadsFollow p l c (Read q keys look found links ∷ ns) ops = (went_to l c links ≡ true → IsReadAt p l c q keys look found ns ops) × ReadsFollow p l c ns ops
ReadsFollow p l c (Write q keys rows links ∷ ns) ops = ReadsFollow p l c ns ops

-- What was done on a connection, seen at a link, is what the notes say went there.
pub record IsTold (p : Placement) (l c : ℕ) (notes : List Note) (ops : List Operation) : Type 0 where
  pub changes : Follows p l c notes ops
  pub reads : ReadsFollow p l c notes ops

-- Links of the partition.
abbrev pub all_of : Placement → ℕ → List Went → Bool
all_of p q [] = true
all_of p q (g ∷ gs) = eqb (p.link_partition g.link) q && all_of p q gs

-- It is one of these.
abbrev pub IsAmong : Went → List Went → Type 0
IsAmong g [] = ⊥
IsAmong g (h ∷ hs) = (h ≡ g) ⊎ IsAmong g hs

-- Statements of any language: a list of scans and, as a function of what these find, an answer and changes.
use Rattle.std.specs.Prelude.{◌≡◌, ℕ, List, [], ◌∷◌, map, None}
use Rattle.commit_protocol.specs.Rows.{Interval}
use Rattle.commit_protocol.specs.Links.{Plain, Placement}
use Rattle.commit_protocol.specs.Notes.{Went, Note, seen_in, written}
use Rattle.commit_protocol.specs.Notes.Note.{Read, Write}

-- What a client is answered. No definition and no proof looks into an answer, so a product's type is put in here.
abbrev pub Answer : Type 0
Answer = ℕ

-- A scan looks at the rows in some intervals of a partition: look filters, counts or sums them.
pub record PartScan : Type 0 where
  pub partition : ℕ
  pub keys : List Interval
  pub look : Plain → Plain

-- A change makes the rows at some keys of a partition these.
pub record PartChange : Type 0 where
  pub partition : ℕ
  pub keys : List Interval
  pub rows : Plain

-- A statement's meaning.
pub record Statement : Type 0 where
  pub scans : List PartScan
  pub answer : List Plain → Answer
  pub changes : List Plain → List PartChange

-- What scans find on the plain tables.
abbrev pub finds : Placement → Plain → List PartScan → List Plain
finds p t [] = []
finds p t (s ∷ ss) = s.look (seen_in p s.partition s.keys t) ∷ finds p t ss

-- The plain tables after changes, the first one first.
abbrev pub changed : Placement → List PartChange → Plain → Plain
changed p [] t = t
changed p (a ∷ more) t = changed p more (written p a.partition a.keys a.rows t)

-- What a statement answers on the plain tables, and the tables that it leaves.
abbrev pub exec_answer : Placement → Statement → Plain → Answer
exec_answer p s t = s.answer (finds p t s.scans)

-- The plain tables that a statement leaves.
abbrev pub exec_tables : Placement → Statement → Plain → Plain
exec_tables p s t = changed p (s.changes (finds p t s.scans)) t

-- ---- what a transaction's entries say

-- A scan that was answered: what it found, and the links that gave exactly this.
pub record ScannedPart : Type 0 where
  pub scan : PartScan
  pub found : Plain
  pub links : List Went

-- A statement that was answered: its scans with what counted, and where the changes of each partition went.
pub record Entry : Type 0 where
  pub statement : Statement
  pub answer : Answer
  pub scanned : List ScannedPart
  pub went : ℕ → List Went

-- What the scans of an entry found.
abbrev pub found_by : Entry → List Plain
found_by e = map (λ (s : ScannedPart). s.found) e.scanned

-- The reads of a statement, noted on what went before.
abbrev pub reads_onto : List ScannedPart → List Note → List Note
reads_onto [] notes = notes
reads_onto (s ∷ ss) notes = reads_onto ss (Read s.scan.partition s.scan.keys s.scan.look s.found s.links ∷ notes)

-- The writes of a statement, noted on what went before.
abbrev pub writes_onto : (ℕ → List Went) → List PartChange → List Note → List Note
writes_onto went [] notes = notes
writes_onto went (a ∷ more) notes = writes_onto went more (Write a.partition a.keys a.rows (went a.partition) ∷ notes)

-- What entries note, the newest first: of each its reads, then its writes.
abbrev pub notes_of : List Entry → List Note
notes_of [] = []
notes_of (e ∷ older) = writes_onto e.went (e.statement.changes (found_by e)) (reads_onto e.scanned (notes_of older))

-- The statement was scanned whole, and was answered from what its scans found.
pub record IsAnswered (e : Entry) : Type 0 where
  pub scans : e.statement.scans ≡ map (λ (s : ScannedPart). s.scan) e.scanned
  pub answer : e.answer ≡ e.statement.answer (found_by e)

-- Each entry of a transaction was answered so.
abbrev pub AreAnswered : List Entry → Type 0
AreAnswered [] = Unit {0}
AreAnswered (e ∷ older) = IsAnswered e × AreAnswered older

-- Each entry of each transaction was answered so.
abbrev pub AllAnswered : List (List Entry) → Type 0
AllAnswered [] = Unit {0}
AllAnswered (es ∷ older) = AreAnswered es × AllAnswered older

-- ---- a serial run

-- The plain tables after entries, executed one after another.
abbrev pub tables_after : Placement → Plain → List Entry → Plain
tables_after p t [] = t
tables_after p t (e ∷ older) = exec_tables p e.statement (tables_after p t older)

-- Each entry's answer is its statement's on the tables that the earlier ones leave.
abbrev pub IsExecuted : Placement → Plain → List Entry → Type 0
IsExecuted p t [] = Unit {0}
IsExecuted p t (e ∷ older) = (e.answer ≡ exec_answer p e.statement (tables_after p t older)) × IsExecuted p t older

-- The plain tables after the transactions' entries, from empty ones.
abbrev pub tables_of : Placement → List (List Entry) → Plain
tables_of p [] = λ k. None
tables_of p (es ∷ older) = tables_after p (tables_of p older) es

-- The transactions, in their order, are a serial run of statements on the plain tables, from empty ones.
abbrev pub AreSerial : Placement → List (List Entry) → Type 0
AreSerial p [] = Unit {0}
AreSerial p (es ∷ older) = IsExecuted p (tables_of p older) es × AreSerial p older

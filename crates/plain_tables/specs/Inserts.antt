-- What statements do to a plain table: rows are put, or go.
use Rattle.std.specs.Prelude.{◌≡◌, ◌==◌, ℤ, false, ◌||◌, Bool, not, List, [], ◌∷◌, ◌++◌, Option, Some, None, if◌then◌else◌, int_lt, IsSome, ℕ}
use Rattle.std.specs.List.{AllByRecursion, filter, list_any}
use Rattle.std.specs.Option.{option_map_or}
use Rattle.std.specs.Ordering.{int_eq}
use Rattle.sql_values.specs.declared.table.TableDef.{TableDef}
use Rattle.sql_values.specs.declared.tree.Cond.{Cond}
use Rattle.part_rules.specs.declared.rule.Rule.{Rule}
use Rattle.part_rules.specs.Placing.{part}
use Rattle.plain_tables.specs.Rows.{Row, key_of, HasKey, holds_on, kept}
use Rattle.plain_tables.specs.Partitions.{IsTable, rows_in}

-- a row of the table has the key
abbrev pub has_row : TableDef → List Row → ℤ → Bool
has_row def rows key = list_any (λ row. int_eq (key_of def row) key) rows

-- the first key that is taken, or that comes a second time
unfoldable pub first_taken : (ℤ → Bool) → List ℤ → Option ℤ
first_taken taken [] = None
first_taken taken (key ∷ keys) = if taken key then Some key else first_taken (λ k. int_eq key k || taken k) keys

-- the table with a row in its place; one with the same key goes
abbrev pub put : TableDef → List Row → Row → List Row
put def rows row = filter (λ r. int_lt (key_of def r) (key_of def row)) rows ++ row ∷ filter (λ r. int_lt (key_of def row) (key_of def r)) rows

-- the table with these rows, one after the other
unfoldable pub put_all : TableDef → List Row → List Row → List Row
put_all def rows [] = rows
put_all def rows (row ∷ more) = put_all def (put def rows row) more

-- the rows without those with one of these keys
abbrev pub without : TableDef → List ℤ → List Row → List Row
without def keys rows = filter (λ row. not (list_any (int_eq (key_of def row)) keys)) rows

-- rows that may be put: each has a key, which lies in a partition
pub record AreRows (def : TableDef) (rule : Rule) (news : List Row) : Type 0 where
  pub keyed : AllByRecursion (HasKey def) news
  pub placed : AllByRecursion (λ row. IsSome (part rule (key_of def row))) news

-- the condition holds exactly on the rows with one of the keys
abbrev pub FindsKeys : TableDef → Option Cond → List ℤ → List Row → Type 0
FindsKeys def cond keys rows = AllByRecursion (λ row. holds_on def cond row ≡ list_any (int_eq (key_of def row)) keys) rows

-- the rows with the new keys tell whether one is taken
abbrev pub FoundKeysTell : Type 0
FoundKeysTell = (def : TableDef) (rows : List Row) (cond : Option Cond) (keys : List ℤ) → FindsKeys def cond keys rows → first_taken (has_row def (kept def cond rows)) keys ≡ first_taken (has_row def rows) keys

-- a table with rows put into it is a table
abbrev pub PutsKeepTables : Type 0
PutsKeepTables = (def : TableDef) (rule : Rule) (rows news : List Row) → IsTable def rule rows → AreRows def rule news → IsTable def rule (put_all def rows news)

-- what a partition has after rows were put are its rows, with those put that lie in it
abbrev pub PutsArePlaced : Type 0
PutsArePlaced = (def : TableDef) (rule : Rule) (rows news : List Row) (p : ℕ) → IsTable def rule rows → AreRows def rule news → rows_in def rule p (put_all def rows news) ≡ put_all def (rows_in def rule p rows) (rows_in def rule p news)

-- those of the keys that lie in the partition
abbrev pub keys_in : Rule → ℕ → List ℤ → List ℤ
keys_in rule p keys = filter (λ key. option_map_or (λ q. q == p) (part rule key) false) keys

-- a table from which rows went is a table
abbrev pub DeletionsKeepTables : Type 0
DeletionsKeepTables = (def : TableDef) (rule : Rule) (rows : List Row) (keys : List ℤ) → IsTable def rule rows → IsTable def rule (without def keys rows)

-- what a partition has after the rows with these keys went is what it had, without those of the keys that lie in it
abbrev pub DeletionsArePlaced : Type 0
DeletionsArePlaced = (def : TableDef) (rule : Rule) (rows : List Row) (keys : List ℤ) (p : ℕ) → rows_in def rule p (without def keys rows) ≡ without def (keys_in rule p keys) (rows_in def rule p rows)

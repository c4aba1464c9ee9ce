-- What is written at a link of each partition: its requests, the changes that these are, and what they leave.
use Rattle.std.specs.Prelude.{◌≡◌, ℕ, ◌==◌, ℤ, Bool, false, List, [], ◌∷◌, if◌then◌else◌}
use Rattle.std.specs.List.{AllByRecursion, flat_map}
use Rattle.sql_values.specs.declared.table.TableDef.{TableDef}
use Rattle.part_rules.specs.declared.rule.Rule.{Rule}
use Rattle.plain_tables.specs.Partitions.{rows_in}
use Rattle.plain_tables.specs.Rows.{Row, FitsColumns}
use Rattle.plain_tables.specs.Statements.{Writes, Puts, Dels, written}
use Rattle.branch_store.specs.declared.branch.Change.{Change}
use Rattle.branch_store.specs.declared.branch.Change.TheVariants.{Put, Del}
use Rattle.txn_phases.specs.declared.phase.Target.{Target}
use Rattle.txn_phases.specs.declared.requests.Ask.{Ask}
use Rattle.txn_phases.specs.Phases.{put_of, del_of}

-- REQUESTS

-- keys go by the name of the key column; no request goes out for nothing
abbrev pub request_of : List ℕ → Target → Writes → List Ask
request_of key t (Puts rows) = put_of t rows
request_of key t (Dels keys) = del_of key t keys

-- to each link what is written in its partition
abbrev pub requests_of : List ℕ → List Target → (ℕ → Writes) → List Ask
requests_of key targets w = flat_map (λ (t : Target). request_of key t (w t.part)) targets

-- CHANGES

abbrev pub put_at : Target → List Row → List Change
put_at t [] = []
put_at t (row ∷ rows) = Put t.remote (row ∷ rows) ∷ []

abbrev pub del_at : Target → List ℤ → List Change
del_at t [] = []
del_at t (k ∷ keys) = Del t.remote (k ∷ keys) ∷ []

abbrev pub change_of : Target → Writes → List Change
change_of t (Puts rows) = put_at t rows
change_of t (Dels keys) = del_at t keys

-- what is written at a server, link by link
abbrev pub changes_at : List Target → (ℕ → Writes) → ℕ → List Change
changes_at targets w s = flat_map (λ (t : Target). if t.server == s then change_of t (w t.part) else []) targets

-- WHAT IS LEFT

-- what is put is rows of the table
abbrev pub FitsWrites : TableDef → Writes → Type 0
FitsWrites def (Puts rows) = AllByRecursion (FitsColumns def) rows
FitsWrites def (Dels keys) = Unit {0}

abbrev pub IsNothing : Writes → Type 0
IsNothing (Puts rows) = rows ≡ []
IsNothing (Dels keys) = keys ≡ []

-- written in the partitions of a table with these rows it leaves those, and nothing is written in partitions that aren't asked
pub record IsWritten (def : TableDef) (rule : Rule) (asked : ℕ → Bool) (rows : List Row) (w : ℕ → Writes) (left : List Row) : Type 0 where
  pub fit : (p : ℕ) → FitsWrites def (w p)
  pub leaves : (p : ℕ) → written def (rows_in def rule p rows) (w p) ≡ rows_in def rule p left
  pub elsewhere : (p : ℕ) → asked p ≡ false → IsNothing (w p)

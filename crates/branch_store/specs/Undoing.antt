-- Rows that were put, taken back.
use Rattle.std.specs.Prelude.{ℤ, Bool, true, false, List, [], ◌∷◌, Option, Some, None}
use Rattle.std.specs.Ordering.{int_eq}
use Rattle.sql_values.specs.declared.table.TableDef.{TableDef}
use Rattle.plain_tables.specs.Rows.{Row, key_of}
use Rattle.branch_store.specs.declared.branch.Change.{Change}
use Rattle.branch_store.specs.declared.branch.Change.TheVariants.{Put, Del, Clear}
use Rattle.branch_store.specs.declared.remote_table.writing.Before.{Before}
use Rattle.branch_store.specs.declared.remote_table.writing.Before.TheVariants.{Stood, Nothing}
use Rattle.branch_store.specs.Changes.{has_key_in, without}
use Rattle.branch_store.specs.Lists.{changed_first}

-- the change puts rows
abbrev pub is_put : Change → Bool
is_put (Put table rows) = true
is_put (Del table keys) = false
is_put (Clear table low high) = false

-- what stood under a key
abbrev pub before_of : ℤ → Option Row → Before
before_of key None = Nothing key
before_of key (Some row) = Stood row

-- the rows with what stood there put back
abbrev pub undone_one : TableDef → List Row → Before → List Row
undone_one def rows (Stood row) = changed_first (λ r. int_eq (key_of def row) (key_of def r)) (λ r. row) rows
undone_one def rows (Nothing key) = without (has_key_in def (key ∷ [])) rows

-- one after the other, the last first
abbrev pub undone : TableDef → List Row → List Before → List Row
undone def rows [] = rows
undone def rows (before ∷ later) = undone_one def (undone def rows later) before

-- What the changes of a branch leave of a table's rows.
use Rattle.std.specs.Prelude.{ℕ, ℤ, Bool, not, ◌&&◌, List, int_le, if◌then◌else◌, nat_eq}
use Rattle.std.specs.List.{filter, fold, list_any}
use Rattle.std.specs.Ordering.{int_eq}
use Rattle.std.specs.Cmp.Lexicographic.{pointwise}
use Rattle.sql_values.specs.declared.table.TableDef.{TableDef}
use Rattle.plain_tables.specs.Inserts.{put_all}
use Rattle.plain_tables.specs.Rows.{Row, key_of}
use Rattle.branch_store.specs.declared.branch.Change.{Change}
use Rattle.branch_store.specs.declared.branch.Change.TheVariants.{Put, Del, Clear}

-- the row's key is one of these
abbrev pub has_key_in : TableDef → List ℤ → Row → Bool
has_key_in def keys row = list_any (int_eq (key_of def row)) keys

-- the row's key lies between these, both included
abbrev pub has_key_from : TableDef → ℤ → ℤ → Row → Bool
has_key_from def low high row = int_le low (key_of def row) && int_le (key_of def row) high

-- the rows for which the test fails
abbrev pub without : (Row → Bool) → List Row → List Row
without test rows = filter (λ row. not (test row)) rows

-- the table has this name
abbrev pub is_called : List ℕ → TableDef → Bool
is_called name def = pointwise nat_eq def.name name

-- what a change leaves of the rows of this table; one of another table leaves them all
abbrev pub changed : TableDef → List Row → Change → List Row
changed def rows (Put table news) = if is_called table def then put_all def rows news else rows
changed def rows (Del table keys) = if is_called table def then without (has_key_in def keys) rows else rows
changed def rows (Clear table low high) = if is_called table def then without (has_key_from def low high) rows else rows

-- the change is one of this table
abbrev pub is_of : TableDef → Change → Bool
is_of def (Put table news) = is_called table def
is_of def (Del table keys) = is_called table def
is_of def (Clear table low high) = is_called table def

-- what changes leave, one after the other
abbrev pub after : TableDef → List Change → List Row → List Row
after def changes rows = fold (changed def) rows changes

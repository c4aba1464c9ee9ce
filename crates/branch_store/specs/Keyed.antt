-- Rows by key, as the code keeps them.
use Rattle.std.specs.Prelude.{◌≡◌, ℤ, List}
use Rattle.std.specs.List.{AllByRecursion}
use Rattle.std.specs.List.Sorted.{IsStrictlySortedBy}
use Rattle.std.specs.Map.{keys_of}
use Rattle.std.specs.Ordering.{int_cmp}
use Rattle.sql_values.specs.declared.table.TableDef.{TableDef}
use Rattle.plain_tables.specs.Rows.{Row, key_of}

-- each row stands under its key, and the keys rise
pub record AreKeyed (def : TableDef) (entries : List (ℤ × Row)) : Type 0 where
  pub keyed : AllByRecursion (λ (entry : ℤ × Row). entry.0 ≡ key_of def entry.1) entries
  pub ordered : IsStrictlySortedBy int_cmp (keys_of entries)

-- The names that code has taken.
use Rattle.std.specs.Prelude.{ℕ, Bool, List}
use Rattle.std.specs.Ordering.{nat_cmp}
use Rattle.std.specs.Cmp.Lexicographic.{slice_cmp}
use Rattle.std.specs.BTreeSet.{contains}
use Rattle.conf_file.specs.declared.taken.TakenNames.{TakenNames}

-- the name is taken
unfoldable pub is_taken : TakenNames → List ℕ → Bool
is_taken taken name = contains (slice_cmp nat_cmp) taken.names name

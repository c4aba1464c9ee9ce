-- In which order two rows stand: MySQL Reference Manual, "ORDER BY" of "SELECT Statement".
use Rattle.std.specs.Prelude.{ℕ, Bool, List, [], ◌∷◌, slice_get, unwrap_or, if◌then◌else◌}
use Rattle.std.specs.Option.{option_map_or}
use Rattle.std.specs.Ordering.{nat_cmp, is_lt, ordering_then}
use Rattle.std.specs.declared.cmp.Ordering.{Ordering}
use Rattle.std.specs.declared.cmp.Ordering.TheVariants.{Equal}
use Rattle.sql_values.specs.declared.literal.Literal.{Literal}
use Rattle.sql_values.specs.declared.literal.Literal.TheVariants as literal
use Rattle.sql_values.specs.declared.value.Value.{Value}
use Rattle.sql_values.specs.Conditions.{literal_of, order_of}
use Rattle.front_rows.specs.declared.order.Sort.{Sort}

-- nothing, numbers, texts
abbrev pub rank : Literal → ℕ
rank literal.Null = 0
rank (literal.Number n) = 1
rank (literal.Text t) = 2

-- numbers by number, texts by their bytes; what has no order goes by its kind, which never matters where a column has values of one kind
abbrev pub cell_cmp : Literal → Literal → Ordering
cell_cmp left right = unwrap_or (order_of left right) (nat_cmp (rank left) (rank right))

-- what a row has in a column; a value that isn't there counts as NULL
abbrev pub cell : ℕ → List Value → Literal
cell column row = option_map_or literal_of (slice_get row column) literal.Null

-- by one column, rising or falling
abbrev pub sort_cmp : Sort → List Value → List Value → Ordering
sort_cmp sort left right =
    if sort.rising then cell_cmp (cell sort.column left) (cell sort.column right)
    else cell_cmp (cell sort.column right) (cell sort.column left)

-- by the columns in turn
abbrev pub rows_cmp : List Sort → List Value → List Value → Ordering
rows_cmp [] left right = Equal
rows_cmp (sort ∷ order) left right = ordering_then (sort_cmp sort left right) (rows_cmp order left right)

-- the one row comes before the other
abbrev pub before : List Sort → List Value → List Value → Bool
before order left right = is_lt (rows_cmp order left right)

-- What an INSERT stores: MySQL Reference Manual, "INSERT Statement".
use Rattle.std.specs.Prelude.{ℕ, ◌+◌, ◌==◌, ℤ, pos, Bool, false, ◌&&◌, List, [], ◌∷◌, Option, Some, None, Result, Ok, Err, ◌↔◌, map, length, slice_get, nat_eq, option_and_then, option_to_list, unwrap_or, if◌then◌else◌}
use Rattle.std.specs.List.{Contains, find, position, list_all, flat_map, zip}
use Rattle.std.specs.List.Sorted.{IsStrictlySortedBy}
use Rattle.std.specs.Option.{option_map, option_map_or, is_none, is_some, option_or}
use Rattle.std.specs.Ordering.{int_cmp}
use Rattle.std.specs.Result.{result_err}
use Rattle.std.specs.Cmp.Lexicographic.{pointwise}
use Rattle.sql_values.specs.declared.literal.Literal.{Literal}
use Rattle.sql_values.specs.declared.literal.Literal.TheVariants as literal
use Rattle.sql_values.specs.declared.storage.StoreFault.{StoreFault}
use Rattle.sql_values.specs.declared.table.ColumnDef.{ColumnDef}
use Rattle.sql_values.specs.declared.table.TableDef.{TableDef}
use Rattle.sql_values.specs.declared.tree.Cond.{Cond}
use Rattle.sql_values.specs.declared.tree.Cond.TheVariants.{In}
use Rattle.sql_values.specs.declared.value.Value.{Value}
use Rattle.sql_values.specs.declared.value.Value.TheVariants.{Number}
use Rattle.sql_values.specs.Expressions.{number_of}
use Rattle.sql_values.specs.Storing.{stored}
use Rattle.part_rules.specs.declared.rule.Rule.{Rule}
use Rattle.part_rules.specs.Placing.{part}
use Rattle.stmt_plan.specs.declared.fault.StmtFault.{StmtFault}
use Rattle.stmt_plan.specs.declared.fault.StmtFault.TheVariants.{ColumnCount, NoPartition}
use Rattle.stmt_plan.specs.Faults.{fault_of_store}

-- the column has this name
abbrev pub is_named : List ℕ → ColumnDef → Bool
is_named name column = pointwise nat_eq column.name name

-- the columns to which the literals of a row go, in order: those of the statement's list, or all of the table's
abbrev pub targets : List ColumnDef → Option (List (List ℕ)) → List ColumnDef
targets columns None = columns
targets columns (Some names) = flat_map (λ name. option_to_list (find (is_named name) columns)) names

-- the first name of the list that no column has
abbrev pub unknown_target : List ColumnDef → Option (List (List ℕ)) → Option (List ℕ)
unknown_target columns None = None
unknown_target columns (Some names) = find (λ name. is_none (find (is_named name) columns)) names

-- each column of the table beside the place of its literal in a row
abbrev pub slots : List ColumnDef → List ColumnDef → List (ColumnDef × Option ℕ)
slots columns among = map (λ (column : ColumnDef). (column, position (is_named column.name) among)) columns

-- the list has each column once: as many as there are, and each of them
abbrev pub has_each_once : List ColumnDef → List ColumnDef → Bool
has_each_once columns among = (length among == length columns) && list_all (λ (slot : ColumnDef × Option ℕ). is_some slot.1) (slots columns among)

-- the first row, counted from this number on, with another number of literals
abbrev pub miscounted : ℕ → ℕ → List (List Literal) → Option StmtFault
miscounted count row [] = None
miscounted count row (literals ∷ rows) = if length literals == count then miscounted count (row + 1) rows else Some (ColumnCount row)

-- a list that hasn't each column once is told at row 1
abbrev pub count_fault : List ColumnDef → List ColumnDef → List (List Literal) → Option StmtFault
count_fault columns among rows = if has_each_once columns among then miscounted (length columns) 1 rows else Some (ColumnCount 1)

-- why a literal can't be stored in its column, in the row of this number
abbrev pub cell_fault : ℕ → ColumnDef × Literal → Option StmtFault
cell_fault row (column, l) = option_map (fault_of_store column.name row) (result_err (stored l column.kind))

-- the first of a row's literals that can't be stored
abbrev pub row_fault : ℕ → List (ColumnDef × Literal) → Option StmtFault
row_fault row [] = None
row_fault row (cell ∷ cells) = option_or (cell_fault row cell) (row_fault row cells)

-- row by row, counted from this number on
abbrev pub rows_fault : List ColumnDef → ℕ → List (List Literal) → Option StmtFault
rows_fault among row [] = None
rows_fault among row (literals ∷ rows) = option_or (row_fault row (zip among literals)) (rows_fault among (row + 1) rows)

-- the value that is stored; what is refused, which no plan has, counts as 0
abbrev pub held : Result Value StoreFault → Value
held (Ok value) = value
held (Err fault) = Number (pos 0)

-- what a column holds of the literals of a row; a literal that isn't there counts as NULL
abbrev pub slot_value : List Literal → ColumnDef × Option ℕ → Value
slot_value literals (column, place) = held (stored (unwrap_or (option_and_then (slice_get literals) place) literal.Null) column.kind)

-- the row that is stored of these literals: a value for each column of the table, in the table's order
abbrev pub row_of : List (ColumnDef × Option ℕ) → List Literal → List Value
row_of places literals = map (slot_value literals) places

abbrev pub rows_of : TableDef → Option (List (List ℕ)) → List (List Literal) → List (List Value)
rows_of table names rows = map (row_of (slots table.columns (targets table.columns names))) rows

-- the key of a row
abbrev pub row_key : ℕ → List Value → ℤ
row_key key row = option_map_or number_of (slice_get row key) (pos 0)

-- the first of these keys that no partition takes
abbrev pub unplaced : Rule → List ℤ → Option StmtFault
unplaced rule keys = option_map NoPartition (find (λ k. is_none (part rule k)) keys)

-- the same keys, rising, without repeats
pub record AreRising (rising keys : List ℤ) : Type 0 where
  pub sorted : IsStrictlySortedBy int_cmp rising
  pub same : (k : ℤ) → Contains rising k ↔ Contains keys k

-- the name of the key column
abbrev pub key_name : TableDef → List ℕ
key_name table = option_map_or (λ (column : ColumnDef). column.name) (slice_get table.columns table.key) []

-- the key column IN these keys
abbrev pub in_keys : TableDef → List ℤ → Cond
in_keys table keys = In (record { table = None; column = key_name table }) false (map literal.Number keys)

-- The statements that a seed generates on the tables of a configuration, as a schedule.
use Rattle.std.specs.Prelude.{ℕ, zero, suc, ◌+◌, ◌*◌, ◌/◌, ◌%◌, ◌^◌, ◌++◌, ◌==◌, Bool, true, false, not, ◌&&◌, nat_lt, List, [], ◌∷◌, Option, Some, None, if◌then◌else◌, codes, length, take, slice_get}
use Rattle.std.specs.Fmt.{decimal}
use Rattle.std.specs.Option.{option_map_or}
use Rattle.sql_values.specs.declared.table.ColumnDef.{ColumnDef}
use Rattle.sql_values.specs.declared.table.Kind.{Kind}
use Rattle.sql_values.specs.declared.table.Kind.TheVariants.{BigInt, VarChar}
use Rattle.sql_values.specs.declared.table.TableDef.{TableDef}
use Rattle.sql_text.specs.Printing.{name_text, quoted}
use Rattle.catalog.specs.declared.tables.Table.{Table}
use Rattle.catalog.specs.Views.{View}

-- DRAWS

-- the state after a draw
unfoldable pub next_state : ℕ → ℕ
next_state x = (x * 6364136223846793005 + 1442695040888963407) % 2 ^ 64

-- what a draw that left this state gives, of so many numbers from 0 on
unfoldable pub drawn : ℕ → ℕ → ℕ
drawn count x = (x / 2 ^ 33) % count

-- A text and the state that is left.

-- behind another text
abbrev pub onto : List ℕ → List ℕ × ℕ → List ℕ × ℕ
onto front made = (front ++ made.0, made.1)

-- and what is made from that state on
abbrev pub and_then : List ℕ × ℕ → (ℕ → List ℕ × ℕ) → List ℕ × ℕ
and_then made more = onto made.0 (more made.1)

-- VALUES

-- the value of a column that isn't the key, by a draw that left this state
abbrev pub value_text : Kind → ℕ → List ℕ
value_text BigInt x = decimal (drawn 100000 x)
value_text (VarChar most) x = quoted (take most (decimal (drawn 1000000 x)))

-- the value at a place: the key in its own, else what is drawn
abbrev pub value_at : ℕ → ℕ → ℕ → Kind → ℕ → List ℕ × ℕ
value_at key_place key place kind x = if place == key_place then (decimal key, x) else (value_text kind (next_state x), next_state x)

-- a comma, where a value stands before
abbrev pub comma_at : ℕ → List ℕ
comma_at place = if place == 0 then [] else codes ","

-- the values from a place on
abbrev pub values_from : ℕ → ℕ → ℕ → List ColumnDef → ℕ → List ℕ × ℕ
values_from key_place key place [] x = ([], x)
values_from key_place key place (column ∷ columns) x =
    onto (comma_at place) (and_then (value_at key_place key place column.kind x) (values_from key_place key (place + 1) columns))

-- STATEMENTS

-- the name of the key column
abbrev pub key_text : TableDef → List ℕ
key_text def = option_map_or (λ (column : ColumnDef). name_text column.name) (slice_get def.columns def.key) []

-- a condition on the key column
abbrev pub where_key : TableDef → List ℕ → ℕ → List ℕ
where_key def comparison key = codes " WHERE " ++ (key_text def ++ (comparison ++ decimal key))

abbrev pub insert_front : TableDef → List ℕ
insert_front def = codes "INSERT INTO " ++ (name_text def.name ++ codes " VALUES (")

abbrev pub insert_text : TableDef → ℕ → ℕ → List ℕ × ℕ
insert_text def key x = onto (insert_front def) (and_then (values_from def.key key 0 def.columns x) (λ y. (codes ")", y)))

abbrev pub select_text : TableDef → ℕ → List ℕ
select_text def key = codes "SELECT * FROM " ++ (name_text def.name ++ where_key def (codes " = ") key)

abbrev pub is_bigint : Kind → Bool
is_bigint BigInt = true
is_bigint (VarChar most) = false

-- the name of the first BIGINT column from a place on that isn't the key
abbrev pub counter_from : ℕ → ℕ → List ColumnDef → Option (List ℕ)
counter_from key_place place [] = None
counter_from key_place place (column ∷ columns) =
    if not (place == key_place) && is_bigint column.kind then Some column.name else counter_from key_place (place + 1) columns

abbrev pub counter_of : TableDef → Option (List ℕ)
counter_of def = counter_from def.key 0 def.columns

-- adds 1 to a column
abbrev pub count_up : List ℕ → List ℕ
count_up column = name_text column ++ (codes " = " ++ (name_text column ++ codes " + 1"))

-- adds 1 to this column, or reads where there is none
abbrev pub update_text : TableDef → ℕ → Option (List ℕ) → List ℕ
update_text def key None = select_text def key
update_text def key (Some column) = codes "UPDATE " ++ (name_text def.name ++ (codes " SET " ++ (count_up column ++ where_key def (codes " = ") key)))

abbrev pub delete_text : TableDef → ℕ → List ℕ
delete_text def key = codes "DELETE FROM " ++ (name_text def.name ++ where_key def (codes " = ") key)

abbrev pub count_text : TableDef → ℕ → List ℕ
count_text def key = codes "SELECT COUNT(*) FROM " ++ (name_text def.name ++ where_key def (codes " < ") key)

-- those that draw nothing, by the kind
abbrev pub plain_text : TableDef → ℕ → ℕ → List ℕ
plain_text def key kind =
    if nat_lt kind 6 then select_text def key
    else if nat_lt kind 8 then update_text def key (counter_of def)
    else if kind == 8 then delete_text def key
    else count_text def key

abbrev pub statement_text : TableDef → ℕ → ℕ → ℕ → List ℕ × ℕ
statement_text def key kind x = if nat_lt kind 4 then insert_text def key x else (plain_text def key kind, x)

-- LINES

-- what is drawn for a line, in this order
pub record Drawn : Type 0 where
  pub session : ℕ
  pub table : ℕ
  pub key : ℕ
  pub kind : ℕ
  -- the state after it
  pub state : ℕ

-- by the states that its four draws left
abbrev pub drawn_by : ℕ → ℕ → ℕ → ℕ → ℕ → Drawn
drawn_by tables a b c d = record { session = 1 + drawn 8 a; table = drawn tables b; key = drawn 1000 c; kind = drawn 10 d; state = d }

abbrev pub draws_of : ℕ → ℕ → Drawn
draws_of tables x =
    drawn_by tables (next_state x) (next_state (next_state x)) (next_state (next_state (next_state x))) (next_state (next_state (next_state (next_state x))))

-- the session's client sends a statement on the table
abbrev pub line_on : Drawn → Option Table → List ℕ × ℕ
line_on d None = ([], d.state)
line_on d (Some table) =
    onto (codes "client " ++ (decimal d.session ++ codes " ")) (and_then (statement_text table.def d.key d.kind d.state) (λ y. (codes "\n", y)))

-- the next line, from a state on
abbrev pub line_by : List Table → Drawn → List ℕ × ℕ
line_by tables d = line_on d (slice_get tables d.table)

unfoldable pub next_line : List Table → ℕ → List ℕ × ℕ
next_line tables x = line_by tables (draws_of (length tables) x)

-- so many lines, from a state on
unfoldable pub lines_from : List Table → ℕ → ℕ → List ℕ
lines_from tables zero x = []
lines_from tables (suc count) x = (next_line tables x).0 ++ lines_from tables count (next_line tables x).1

-- how many lines are played: none where there is no table
abbrev pub played_count : List Table → ℕ → ℕ
played_count [] count = 0
played_count (table ∷ tables) count = count

-- the schedule of the lines that a seed generates
unfoldable pub workload_schedule : View → ℕ → ℕ → List ℕ
workload_schedule catalog seed count = lines_from catalog.tables (played_count catalog.tables count) seed

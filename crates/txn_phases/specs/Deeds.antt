-- What a statement does with the rows that its scans found.
use Rattle.std.specs.Prelude.{ℕ, ◌==◌, ℤ, pos, Bool, ◌||◌, List, [], ◌∷◌, Option, Some, None, Result, map, length, sum_by, nat_lt, slice_get, unwrap_or, if◌then◌else◌}
use Rattle.std.specs.List.{filter, list_any}
use Rattle.std.specs.Option.{option_map_or}
use Rattle.std.specs.BTreeMap.{insert_entry}
use Rattle.std.specs.Ordering.{int_cmp, int_eq}
use Rattle.sql_values.specs.declared.table.TableDef.{TableDef}
use Rattle.sql_values.specs.declared.value.Value.{Value}
use Rattle.sql_values.specs.Expressions.{number_of}
use Rattle.sql_values.specs.Storing.{row_size}
use Rattle.part_rules.specs.declared.rule.Rule.{Rule}
use Rattle.part_rules.specs.Placing.{part}
use Rattle.stmt_plan.specs.declared.fault.RowFault.{RowFault}
use Rattle.stmt_plan.specs.Inserts.{row_key}
use Rattle.sql_text.specs.declared.link.LinkAnswer.{LinkAnswer}
use Rattle.front_rows.specs.declared.aggregate.Aggregate.{Aggregate}
use Rattle.front_rows.specs.declared.order.Sort.{Sort}
use Rattle.front_rows.specs.Aggregates.{can_merge, merged_cells}
use Rattle.front_rows.specs.Cells.{Cell}
use Rattle.front_rows.specs.Gathering.{all_rows}
use Rattle.front_rows.specs.Merging.{is_too_large, key_order, merged_rows}
use Rattle.plain_tables.specs.Inserts.{first_taken}
use Rattle.plain_tables.specs.Updates.{changed, map_ok, set_rows}
use Rattle.txn_phases.specs.declared.changing.Changing.{Changing}
use Rattle.txn_phases.specs.declared.deed.PlacedRow.{PlacedRow}
use Rattle.txn_phases.specs.declared.phase.Target.{Target}
use Rattle.txn_phases.specs.declared.partitions.PlacedKey.{PlacedKey}

abbrev pub Row : Type 0
Row = List Value

-- the number in that column of a row
abbrev pub key_at : ℕ → Row → ℤ
key_at place row = option_map_or number_of (slice_get row place) (pos 0)

-- WHAT WAS FOUND

-- the rows, where they are no more than an answer may have
abbrev pub within : List Row → Option (List Row)
within rows = if is_too_large rows then None else Some rows

-- those that the answers have, in this order and cut so
abbrev pub merged_within : List Sort → ℕ → Option ℕ → List LinkAnswer → Option (List Row)
merged_within order skip most parts = within (merged_rows order skip most parts)

-- all of them, in the order of their keys
abbrev pub found_within : ℕ → List LinkAnswer → Option (List Row)
found_within place parts = merged_within (key_order place) 0 None parts

-- the aggregates over all rows, where each sum stays within 128 bits
abbrev pub cells_within : List Aggregate → List LinkAnswer → Option (List Cell)
cells_within aggregates parts = if can_merge aggregates parts then Some (merged_cells aggregates parts) else None

-- WHERE ROWS LIE

-- the partition of a key, or the first where the rule has none for it, as it has for each row of a table
abbrev pub part_in : Rule → ℤ → ℕ
part_in rule key = unwrap_or (part rule key) 0

-- a row with its key and its partition
abbrev pub placed : TableDef → Rule → Row → PlacedRow
placed def rule row = record { part = part_in rule (row_key def.key row); key = row_key def.key row; row = row }

abbrev pub placed_key : Rule → ℤ → PlacedKey
placed_key rule key = record { part = part_in rule key; key = key }

-- the keys in that column of rows
abbrev pub placed_keys : Rule → ℕ → List Row → List PlacedKey
placed_keys rule place rows = map (λ row. placed_key rule (key_at place row)) rows

-- WHAT AN INSERT ADDS

-- a row with the key was found
abbrev pub is_found : ℕ → List LinkAnswer → ℤ → Bool
is_found place found key = list_any (λ row. int_eq (key_at place row) key) (all_rows found)

-- the first new key that a found row has, or an earlier new row
abbrev pub taken_key : ℕ → List LinkAnswer → List PlacedRow → Option ℤ
taken_key place found news = first_taken (is_found place found) (map (λ (new : PlacedRow). new.key) news)

-- the new rows of a partition, as they come
abbrev pub news_at : List PlacedRow → ℕ → List PlacedRow
news_at news p = filter (λ (new : PlacedRow). new.part == p) news

-- these rows put under their keys, one after the other
abbrev pub put_by_key : List PlacedRow → List (ℤ × Row) → List (ℤ × Row)
put_by_key [] entries = entries
put_by_key (new ∷ news) entries = put_by_key news (insert_entry int_cmp entries new.key new.row)

-- in the order of their keys
abbrev pub news_in : List PlacedRow → ℕ → List Row
news_in news p = map (λ (entry : ℤ × Row). entry.1) (put_by_key (news_at news p) [])

-- WHAT AN UPDATE CHANGES, AND A DELETE TAKES AWAY

-- of rows, counted from this number on, those that change, as they are afterwards; or why the first that can't be changed can't
abbrev pub changes_from : Changing → ℕ → List Row → Result (List PlacedRow) RowFault
changes_from c number rows = map_ok (λ news. map (placed c.table c.rule) (changed rows news)) (set_rows c.table c.sets number rows)

abbrev pub changes_of : Changing → List Row → Result (List PlacedRow) RowFault
changes_of c rows = changes_from c 1 rows

-- the keys of a partition, as they come
abbrev pub keys_at : List PlacedKey → ℕ → List PlacedKey
keys_at keys p = filter (λ (k : PlacedKey). k.part == p) keys

abbrev pub keys_in : List PlacedKey → ℕ → List ℤ
keys_in keys p = map (λ (k : PlacedKey). k.key) (keys_at keys p)

-- HOW MUCH IS WRITTEN

-- so many rows a link gets, and so many bytes of them
abbrev pub rows_at : List PlacedRow → Target → ℕ
rows_at news t = length (news_at news t.part)

abbrev pub bytes_at : List PlacedRow → Target → ℕ
bytes_at news t = sum_by (λ (new : PlacedRow). row_size new.row) (news_at news t.part)

-- so much all links at a server get
abbrev pub written : (Target → ℕ) → List Target → ℕ → ℕ
written amount targets server = sum_by (λ (t : Target). if t.server == server then amount t else 0) targets

-- so much at all servers that more than 10,000 rows, or more than 4 MiB of them, would be written at one
abbrev pub is_long_write : (Target → ℕ) → (Target → ℕ) → List Target → ℕ → Bool
is_long_write rows bytes targets server = nat_lt 10000 (written rows targets server) || nat_lt 4194304 (written bytes targets server)

abbrev pub is_any_long : (Target → ℕ) → (Target → ℕ) → List Target → Bool
is_any_long rows bytes targets = list_any (λ (t : Target). is_long_write rows bytes targets t.server) targets

abbrev pub writes_too_much : List Target → List PlacedRow → Bool
writes_too_much targets news = is_any_long (rows_at news) (bytes_at news) targets

-- a key counts one row, and no bytes
abbrev pub deletes_too_much : List Target → List PlacedKey → Bool
deletes_too_much targets keys = is_any_long (λ t. length (keys_at keys t.part)) (λ t. 0) targets

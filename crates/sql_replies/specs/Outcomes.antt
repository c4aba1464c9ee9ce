-- What a client is answered for a statement that was at work.
use Rattle.std.specs.Prelude.{◌≡◌, ℕ, ◌<◌, ◌≤◌, ◌==◌, ◌&&◌, Bool, true, List, [], Option, Some, length, drop, codes, nat_eq, nat_le, slice_get, if◌then◌else◌}
use Rattle.std.specs.List.{list_all, starts_with}
use Rattle.std.specs.Option.{option_map_or}
use Rattle.my_messages.specs.declared.reply.Reply.{Reply}
use Rattle.conf_file.specs.declared.entries.HostEntry.{HostEntry}
use Rattle.sql_values.specs.declared.table.Kind.{Kind}
use Rattle.sql_values.specs.declared.table.TableDef.{TableDef}
use Rattle.sql_values.specs.declared.value.Value.{Value}
use Rattle.stmt_plan.specs.declared.fault.RowFault.{RowFault}
use Rattle.stmt_plan.specs.declared.fault.RowFault.TheVariants as row_fault
use Rattle.stmt_plan.specs.declared.planned.AnswerColumns.{AnswerColumns}
use Rattle.stmt_plan.specs.declared.planned.AnswerColumns.TheVariants as columns
use Rattle.stmt_plan.specs.declared.planned.CellColumn.{CellColumn}
use Rattle.stmt_plan.specs.declared.planned.Picks.{Picks}
use Rattle.txn_phases.specs.declared.deed.Outcome.{Outcome}
use Rattle.txn_phases.specs.declared.deed.Outcome.TheVariants as outcome
use Rattle.txn_phases.specs.declared.deed.Refusal.{Refusal}
use Rattle.txn_phases.specs.Phases.{is_short, is_shaped}
use Rattle.sql_replies.specs.Errors.{shown, ok_reply, no_memory_reply, duplicate_reply, arithmetic_reply, range_reply, too_long_reply, refused_reply, limit_reply}
use Rattle.front_rows.specs.Cells.{Cell}
use Rattle.sql_replies.specs.Results.{rows_reply, cells_reply}

-- the limit that a backend's message names: what follows `Limit: `, or nothing where the message begins otherwise or more than 64 bytes follow
abbrev pub limit_in : List ℕ → List ℕ
limit_in message = if starts_with nat_eq message (codes "Limit: ") then shown (drop 7 message) else []

-- a server's name, by its place
abbrev pub server_name : List HostEntry → ℕ → List ℕ
server_name servers server = option_map_or (λ (host : HostEntry). host.name) (slice_get servers server) []

-- want of memory at a backend is the client's answer too, and so is a limit that a scan passes
abbrev pub refusal_reply : List HostEntry → Refusal → Reply
refusal_reply servers refusal =
    if refusal.number == 1037 then no_memory_reply
    else if refusal.scanning && refusal.number == 14010 then limit_reply (limit_in refusal.message)
    else refused_reply (server_name servers refusal.server) refusal.number

-- rows that were found, reduced to the columns that the statement asks for. One that asks for none, as INSERT, finds none
abbrev pub found_reply : TableDef → Option AnswerColumns → List (List Value) → Reply
found_reply table (Some (columns.Picks picks)) rows = rows_reply table picks rows
found_reply table _ rows = ok_reply 0

-- aggregates, under the names that the statement asks for
abbrev pub counted_reply : Option AnswerColumns → List Cell → Reply
counted_reply (Some (columns.Cells list)) cells = cells_reply list cells
counted_reply _ cells = ok_reply 0

-- a row that an UPDATE can't change
abbrev pub row_reply : RowFault → Reply
row_reply row_fault.Arithmetic = arithmetic_reply
row_reply (row_fault.OutOfRange column row) = range_reply column row
row_reply (row_fault.TooLong column row) = too_long_reply column row

-- the reply to a statement on this table that asks for these columns
abbrev pub outcome_reply : TableDef → Option AnswerColumns → List HostEntry → Outcome → Reply
outcome_reply table picks servers (outcome.Found rows) = found_reply table picks rows
outcome_reply table picks servers (outcome.Cells cells) = counted_reply picks cells
outcome_reply table picks servers (outcome.Done count) = ok_reply count
outcome_reply table picks servers (outcome.Duplicate key) = duplicate_reply key
outcome_reply table picks servers (outcome.RowRefused fault) = row_reply fault
outcome_reply table picks servers outcome.AnswerLimit = limit_reply (codes "answer")
outcome_reply table picks servers outcome.WriteSetLimit = limit_reply (codes "write set")
outcome_reply table picks servers (outcome.Refused refusal) = refusal_reply servers refusal

-- no text of these rows is longer than a column may hold
abbrev pub are_short_rows : List (List Value) → Bool
are_short_rows rows = list_all (list_all is_short) rows

-- the answer's columns are 1 to 900
abbrev pub AreFewPicks : Picks → Type 0
AreFewPicks picks = (0 < length picks.picks) × (length picks.picks ≤ 900)

-- no cell is longer than a column may hold
abbrev pub is_short_cell : Cell → Bool
is_short_cell cell = option_map_or (λ (text : List ℕ). nat_le (length text) 1024) cell true

-- a cell for each of 1 to 900 aggregates
pub record AreFewCells (list : List CellColumn) (cells : List Cell) : Type 0 where
  pub some : 0 < length list
  pub few : length list ≤ 900
  pub each : length cells ≡ length list
  pub short : list_all is_short_cell cells ≡ true

-- rows that were found fit packets: 900 cells of 1,024 bytes with their lengths are 924,300 bytes
abbrev pub IsShowable : Option AnswerColumns → Outcome → Type 0
IsShowable (Some (columns.Picks picks)) (outcome.Found rows) = AreFewPicks picks × (are_short_rows rows ≡ true)
IsShowable (Some (columns.Cells list)) (outcome.Cells cells) = AreFewCells list cells
IsShowable _ _ = Unit {0}

-- rows with a value of each of these kinds, as servers answer them, have no longer text
abbrev pub RowsOfATableAreShort : Type 0
RowsOfATableAreShort = (kinds : List Kind) (rows : List (List Value)) → list_all (is_shaped kinds) rows ≡ true → are_short_rows rows ≡ true

-- A SELECT's answer as a text resultset: MySQL Client/Server Protocol, "Protocol::ColumnDefinition41" and "ProtocolText::ResultsetRow".
use Rattle.std.specs.Prelude.{ℕ, ◌*◌, ◌-◌, ◌^◌, ◌==◌, List, [], ◌∷◌, Option, length, map, min, nat_lt, codes, slice_get, if◌then◌else◌}
use Rattle.std.specs.Fmt.{signed_decimal}
use Rattle.std.specs.Option.{option_map, option_map_or}
use Rattle.my_messages.specs.declared.reply.Column.{Column}
use Rattle.my_messages.specs.declared.reply.Reply.{Reply}
use Rattle.my_messages.specs.declared.reply.Reply.TheVariants as reply
use Rattle.sql_values.specs.declared.table.ColumnDef.{ColumnDef}
use Rattle.sql_values.specs.declared.table.Kind.{Kind}
use Rattle.sql_values.specs.declared.table.Kind.TheVariants.{BigInt, VarChar}
use Rattle.sql_values.specs.declared.table.TableDef.{TableDef}
use Rattle.sql_values.specs.declared.value.Value.{Value}
use Rattle.sql_values.specs.declared.value.Value.TheVariants as value
use Rattle.front_rows.specs.declared.aggregate.AggFun.{AggFun}
use Rattle.front_rows.specs.declared.aggregate.AggFun.TheVariants.{Count, Sum, Min, Max}
use Rattle.front_rows.specs.Cells.{Cell}
use Rattle.stmt_plan.specs.declared.planned.CellColumn.{CellColumn}
use Rattle.stmt_plan.specs.declared.planned.Pick.{Pick}
use Rattle.stmt_plan.specs.declared.planned.Picks.{Picks}
use Rattle.sql_replies.specs.Errors.{shown}

-- the character set of a kind: 45 is UTF-8, 63 is binary, as numbers have
abbrev pub charset_of : Kind → ℕ
charset_of BigInt = 63
charset_of (VarChar most) = 45

-- the most bytes of a kind's texts: a BIGINT has 20, a character 4
abbrev pub length_of : Kind → ℕ
length_of BigInt = 20
length_of (VarChar most) = min (most * 4) (2 ^ 32 - 1)

-- the kind's type (`enum_field_types`): MYSQL_TYPE_LONGLONG or MYSQL_TYPE_VAR_STRING
abbrev pub type_of : Kind → ℕ
type_of BigInt = 8
type_of (VarChar most) = 253

-- no column holds NULL (NOT_NULL_FLAG, 1), and the key column is the primary key (PRI_KEY_FLAG, 2)
abbrev pub flags_of : TableDef → ℕ → ℕ
flags_of table place = if place == table.key then 3 else 1

-- the column at a place of the table. No pick has a place behind the last
abbrev pub kind_at : List ColumnDef → ℕ → Kind
kind_at columns place = option_map_or (λ (column : ColumnDef). column.kind) (slice_get columns place) BigInt

abbrev pub name_at : List ColumnDef → ℕ → List ℕ
name_at columns place = option_map_or (λ (column : ColumnDef). shown column.name) (slice_get columns place) []

-- a column of the answer, of a table that the statement knows by this name
abbrev pub column_of : TableDef → List ℕ → Pick → Column
column_of table known pick = record {
  schema = codes "spider";
  table = shown known;
  org_table = shown table.name;
  name = shown pick.name;
  org_name = name_at table.columns pick.column;
  charset = charset_of (kind_at table.columns pick.column);
  length = length_of (kind_at table.columns pick.column);
  kind = type_of (kind_at table.columns pick.column);
  flags = flags_of table pick.column;
}

-- a value as the text of a cell: a number in decimal, a text as it is
abbrev pub text_of : Value → List ℕ
text_of (value.Number number) = signed_decimal number
text_of (value.Text text) = text

-- a cell of a row, for a column of the answer
abbrev pub cell_of : List Value → Pick → Option (List ℕ)
cell_of row pick = option_map text_of (slice_get row pick.column)

abbrev pub cells_of : List Pick → List Value → List (Option (List ℕ))
cells_of picks row = map (cell_of row) picks

-- these columns of these rows of the table
abbrev pub rows_reply : TableDef → Picks → List (List Value) → Reply
rows_reply table picks rows = reply.Rows (map (column_of table picks.table) picks.picks) (map (cells_of picks.picks) rows) 2

-- AGGREGATES

-- a call's text of at most 134 bytes, as each is of two names of 64; nothing in place of a longer one
abbrev pub shown_call : List ℕ → List ℕ
shown_call text = if nat_lt (length text) 135 then text else []

-- a count is a BIGINT; a sum is a number of any length (MYSQL_TYPE_NEWDECIMAL), and the least and the greatest value are as their column
abbrev pub result_type : AggFun → Kind → ℕ
result_type Count kind = 8
result_type Sum kind = 246
result_type Min kind = type_of kind
result_type Max kind = type_of kind

abbrev pub result_charset : AggFun → Kind → ℕ
result_charset Count kind = 63
result_charset Sum kind = 63
result_charset Min kind = charset_of kind
result_charset Max kind = charset_of kind

abbrev pub result_length : AggFun → Kind → ℕ
result_length Count kind = 20
result_length Sum kind = 41
result_length Min kind = length_of kind
result_length Max kind = length_of kind

-- only a count is never NULL
abbrev pub result_flags : AggFun → ℕ
result_flags Count = 1
result_flags Sum = 0
result_flags Min = 0
result_flags Max = 0

-- a column of the answer that is no column of a table
abbrev pub cell_column_of : CellColumn → Column
cell_column_of c = record {
  schema = [];
  table = [];
  org_table = [];
  name = shown_call c.name;
  org_name = [];
  charset = result_charset c.aggregate.fun c.aggregate.kind;
  length = result_length c.aggregate.fun c.aggregate.kind;
  kind = result_type c.aggregate.fun c.aggregate.kind;
  flags = result_flags c.aggregate.fun;
}

-- one row, of these cells
abbrev pub cells_reply : List CellColumn → List Cell → Reply
cells_reply columns cells = reply.Rows (map cell_column_of columns) (cells ∷ []) 2

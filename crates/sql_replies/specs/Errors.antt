-- Refusals: the numbers below 2,000 and their SQLSTATEs are those of the MySQL Server Error Message Reference, the rest is the front's own.
use Rattle.std.specs.Prelude.{ℕ, ℤ, List, [], ◌++◌, length, nat_lt, codes, if◌then◌else◌}
use Rattle.std.specs.Fmt.{decimal, signed_decimal}
use Rattle.my_messages.specs.declared.reply.Reply.{Reply}
use Rattle.my_messages.specs.declared.reply.Reply.TheVariants as reply
use Rattle.sql_text.specs.declared.fault.ParseFault.{ParseFault}
use Rattle.sql_text.specs.declared.fault.ParseFault.TheVariants as parse
use Rattle.stmt_plan.specs.declared.fault.StmtFault.{StmtFault}
use Rattle.stmt_plan.specs.declared.fault.StmtFault.TheVariants as stmt

-- a text of at most 64 bytes, as each name is; nothing in place of a longer one
abbrev pub shown : List ℕ → List ℕ
shown text = if nat_lt (length text) 65 then text else []

-- done, with so many rows changed. Status 2 says that each statement is a transaction of its own
abbrev pub ok_reply : ℕ → Reply
ok_reply affected = reply.Ok affected 2 0

-- a refusal with a number of the front's own
abbrev pub own_error : ℕ → List ℕ → Reply
own_error number message = reply.Err number (codes "HY000") message

-- want of memory
abbrev pub no_memory_reply : Reply
no_memory_reply = reply.Err 1037 (codes "HY001") (codes "Out of memory")

-- NULL for a column
abbrev pub null_reply : List ℕ → Reply
null_reply column = reply.Err 1048 (codes "23000") (codes "Column '" ++ (shown column ++ codes "' cannot be null"))

-- a name that means more than one column
abbrev pub ambiguous_reply : List ℕ → Reply
ambiguous_reply column = reply.Err 1052 (codes "23000") (codes "Column '" ++ (shown column ++ codes "' is ambiguous"))

-- a name that means no column
abbrev pub unknown_column_reply : List ℕ → Reply
unknown_column_reply column = reply.Err 1054 (codes "42S22") (codes "Unknown column '" ++ (shown column ++ codes "'"))

-- a key that is there already
abbrev pub duplicate_reply : ℤ → Reply
duplicate_reply key = reply.Err 1062 (codes "23000") (codes "Duplicate entry '" ++ (signed_decimal key ++ codes "' for key 'PRIMARY'"))

-- a text that is no statement, with its first byte that can't stand there
abbrev pub syntax_reply : ℕ → Reply
syntax_reply place = reply.Err 1064 (codes "42000") (codes "Syntax error at byte " ++ decimal place)

-- a row with another number of values than columns
abbrev pub count_reply : ℕ → Reply
count_reply row = reply.Err 1136 (codes "21S01") (codes "Column count doesn't match value count at row " ++ decimal row)

-- a table that isn't there
abbrev pub no_table_reply : List ℕ → Reply
no_table_reply table = reply.Err 1146 (codes "42S02") (codes "Table '" ++ (shown table ++ codes "' doesn't exist"))

-- a number outside the range of a BIGINT
abbrev pub range_reply : List ℕ → ℕ → Reply
range_reply column row = reply.Err 1264 (codes "22003") (codes "Out of range value for column '" ++ (shown column ++ (codes "' at row " ++ decimal row)))

-- a text that is longer than its column allows
abbrev pub too_long_reply : List ℕ → ℕ → Reply
too_long_reply column row = reply.Err 1406 (codes "22001") (codes "Data too long for column '" ++ (shown column ++ (codes "' at row " ++ decimal row)))

-- a key that no partition takes
abbrev pub no_partition_reply : ℤ → Reply
no_partition_reply key = reply.Err 1526 (codes "HY000") (codes "Table has no partition for value " ++ signed_decimal key)

-- a literal or a partial result of an expression that is no BIGINT
abbrev pub arithmetic_reply : Reply
arithmetic_reply = reply.Err 1690 (codes "22003") (codes "BIGINT value is out of range")

-- a backend refused a request, with this number
abbrev pub refused_reply : List ℕ → ℕ → Reply
refused_reply server number = own_error 14006 (codes "Backend " ++ (shown server ++ (codes " refused: " ++ decimal number)))

-- the key column is set
abbrev pub key_changed_reply : Reply
key_changed_reply = own_error 14009 (codes "The key column can't be changed")

-- a limit that is passed, by its name
abbrev pub limit_reply : List ℕ → Reply
limit_reply name = own_error 14010 (codes "Limit: " ++ name)

-- no transaction can be numbered or decided any more
abbrev pub log_full_reply : Reply
log_full_reply = own_error 14013 (codes "Log full")

-- values of kinds that don't go together
abbrev pub mismatch_reply : Reply
mismatch_reply = own_error 14020 (codes "Type mismatch")

-- the reply to a text that is no statement
abbrev pub parse_reply : ParseFault → Reply
parse_reply (parse.Syntax place) = syntax_reply place
parse_reply (parse.Deep place) = limit_reply (codes "nesting")
parse_reply parse.NoMemory = no_memory_reply

-- the reply to a statement that has no plan
abbrev pub plan_reply : StmtFault → Reply
plan_reply (stmt.NoColumn name) = unknown_column_reply name
plan_reply (stmt.Ambiguous name) = ambiguous_reply name
plan_reply stmt.KeyChanged = key_changed_reply
plan_reply (stmt.ColumnCount row) = count_reply row
plan_reply (stmt.IsNull name) = null_reply name
plan_reply stmt.TypeMismatch = mismatch_reply
plan_reply (stmt.OutOfRange column row) = range_reply column row
plan_reply (stmt.TooLong column row) = too_long_reply column row
plan_reply (stmt.NoPartition key) = no_partition_reply key
plan_reply stmt.NoMemory = no_memory_reply

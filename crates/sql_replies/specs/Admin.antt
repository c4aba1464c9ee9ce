-- What a client is answered for a question about the server: one column of texts that are of no table.
use Rattle.std.specs.Prelude.{ℕ, List, [], ◌∷◌, Option, Some, map, codes}
use Rattle.my_messages.specs.declared.reply.Column.{Column}
use Rattle.my_messages.specs.declared.reply.Reply.{Reply}
use Rattle.my_messages.specs.declared.reply.Reply.TheVariants as reply
use Rattle.sql_text.specs.declared.statement.Admin.{Admin}
use Rattle.sql_text.specs.declared.statement.Admin.TheVariants.{ShowTables, ShowDatabases, VersionComment, Database}
use Rattle.sql_replies.specs.Errors.{shown}

-- its column: a text (MYSQL_TYPE_VAR_STRING) in UTF-8 that is never NULL
abbrev pub system_column : List ℕ → Column
system_column name = record { schema = []; table = []; org_table = []; name = name; org_name = []; charset = 45; length = 4096; kind = 253; flags = 1 }

-- a text in a row of its own
abbrev pub system_row : List ℕ → List (Option (List ℕ))
system_row text = Some text ∷ []

abbrev pub system_reply : List ℕ → List (List ℕ) → Reply
system_reply name texts = reply.Rows (system_column name ∷ []) (map system_row texts) 2

-- the answer of a front that has these tables, in this order. They are the tables of its one database, `spider`
abbrev pub admin_reply : List (List ℕ) → Admin → Reply
admin_reply tables ShowTables = system_reply (codes "Tables_in_spider") (map shown tables)
admin_reply tables ShowDatabases = system_reply (codes "Database") (codes "spider" ∷ [])
admin_reply tables VersionComment = system_reply (codes "@@version_comment") (codes "spider front" ∷ [])
admin_reply tables Database = system_reply (codes "DATABASE()") (codes "spider" ∷ [])

-- The transcript's text.
use Rattle.std.specs.Prelude.{ℕ, ◌+◌, ◌++◌, ◌==◌, ℤ, Bool, true, false, List, [], ◌∷◌, Option, Some, None, if◌then◌else◌, codes, length, slice_get}
use Rattle.std.specs.Fmt.{decimal, signed_decimal}
use Rattle.std.specs.List.{flat_map}
use Rattle.std.specs.Option.{option_map_or}
use Rattle.sql_values.specs.declared.value.Value.{Value}
use Rattle.sql_values.specs.declared.value.Value.TheVariants as value
use Rattle.conf_file.specs.declared.entries.HostEntry.{HostEntry}
use Rattle.catalog.specs.declared.link.Link.{Link}
use Rattle.catalog.specs.declared.tables.Part.{Part}
use Rattle.catalog.specs.declared.tables.Table.{Table}
use Rattle.catalog.specs.Views.{View}
use Rattle.conf_check.specs.Links.{link_front, server_text, status_text}
use Rattle.sql_text.specs.Printing.{quoted}
use Rattle.sql_text.specs.LinkPrinting.{link_printed}
use Rattle.branch_store.specs.Store.{Store, viewed}
use Rattle.my_messages.specs.declared.reply.Column.{Column}
use Rattle.my_messages.specs.declared.reply.Reply.{Reply}
use Rattle.my_messages.specs.declared.reply.Reply.TheVariants as reply
use Rattle.front_core.specs.declared.event.TxNo.{TxNo}
use Rattle.front_core.specs.declared.event.Output.{Output}
use Rattle.front_core.specs.declared.event.Output.TheVariants.{Send, Await, Decided, Acked, Answer}

-- a line's end
abbrev pub line_end : List ℕ
line_end = 10 ∷ []

-- NUMBERS OF TRANSACTIONS

abbrev pub tx_text : TxNo → List ℕ
tx_text tx = decimal tx.boot ++ (46 ∷ decimal tx.number)

abbrev pub tx_or_none : Option TxNo → List ℕ
tx_or_none None = codes "-"
tx_or_none (Some tx) = tx_text tx

-- ROWS

-- a cell of a column: a text as a literal, a number as it is
abbrev pub cell_text : Column → Option (List ℕ) → List ℕ
cell_text column None = codes "NULL"
cell_text column (Some text) = if column.kind == 253 then quoted text else text

-- a comma, where more columns follow
abbrev pub comma_before : List Column → List ℕ
comma_before columns = if length columns == 0 then [] else codes ","

abbrev pub cells_text : List Column → List (Option (List ℕ)) → List ℕ
cells_text [] cells = []
cells_text (column ∷ columns) [] = []
cells_text (column ∷ columns) (cell ∷ cells) = cell_text column cell ++ (comma_before columns ++ cells_text columns cells)

abbrev pub row_line : List Column → List (Option (List ℕ)) → List ℕ
row_line columns cells = codes "row " ++ (cells_text columns cells ++ line_end)

-- a value of a backend's row: a number, or a text as a literal
abbrev pub value_text : Value → List ℕ
value_text (value.Number number) = signed_decimal number
value_text (value.Text text) = quoted text

-- a value that is not the first
abbrev pub next_value : Value → List ℕ
next_value v = 44 ∷ value_text v

abbrev pub values_text : List Value → List ℕ
values_text [] = []
values_text (first ∷ others) = value_text first ++ flat_map next_value others

abbrev pub has_line : List Value → List ℕ
has_line row = codes "has " ++ (values_text row ++ line_end)

-- ANSWERS

abbrev pub reply_text : Reply → List ℕ
reply_text (reply.Ok affected status warnings) = codes "ok " ++ (decimal affected ++ line_end)
reply_text (reply.Err number state message) = codes "err " ++ (decimal number ++ (32 ∷ (state ++ (32 ∷ (message ++ line_end)))))
reply_text (reply.Rows columns rows status) = codes "rows " ++ (decimal (length rows) ++ (line_end ++ flat_map (row_line columns) rows))
reply_text (reply.Switch plugin nonce) = []

-- what a front of this configuration gives out for session n is shown so, requests only where they are traced
abbrev pub Shown : Type 0
Shown = List HostEntry × Bool × ℕ

abbrev pub sent_text : Shown → ℕ → List ℕ → List ℕ
sent_text (servers, false, n) server text = []
sent_text (servers, true, n) server text = codes "sent " ++ (decimal n ++ (32 ∷ (server_text servers server ++ (32 ∷ (text ++ line_end)))))

-- the lines of one output
unfoldable pub output_text : Shown → Output → List ℕ
output_text shown (Send server request) = sent_text shown server (link_printed request)
output_text shown (Await server) = []
output_text shown (Decided tx) = codes "decided " ++ (tx_text tx ++ line_end)
output_text shown (Acked tx) = codes "ack " ++ (decimal shown.2 ++ (32 ∷ (tx_text tx ++ line_end)))
output_text shown (Answer tx reply) = codes "answer " ++ (decimal shown.2 ++ (32 ∷ (tx_or_none tx ++ (32 ∷ reply_text reply))))

-- the lines of what was given out, in order
abbrev pub outputs_text : Shown → List Output → List ℕ
outputs_text shown outputs = flat_map (output_text shown) outputs

-- THE END

-- the rows of a link at its server, in the order of their keys
abbrev pub link_rows : List Store → Link → List (List Value)
link_rows stores link = option_map_or (λ store. viewed store link.remote []) (slice_get stores link.server) []

abbrev pub rows_text : List (List Value) → List ℕ
rows_text rows = decimal (length rows) ++ (line_end ++ flat_map has_line rows)

-- what a link is good for, its epoch, and its rows
abbrev pub link_end : List HostEntry → List Store → Link → List ℕ
link_end servers stores link = 32 ∷ (server_text servers link.server ++ (32 ∷ (status_text link.first ++ (codes " 0 rows " ++ rows_text (link_rows stores link)))))

-- the links of a partition, numbered on from this one
abbrev pub links_end : List HostEntry → List Store → List ℕ → Option (List ℕ) → ℕ → List Link → List ℕ
links_end servers stores table part number [] = []
links_end servers stores table part number (link ∷ links) = link_front table part number ++ (link_end servers stores link ++ links_end servers stores table part (number + 1) links)

abbrev pub part_end : List HostEntry → List Store → List ℕ → Part → List ℕ
part_end servers stores table part = links_end servers stores table part.name 0 part.links

abbrev pub table_end : List HostEntry → List Store → Table → List ℕ
table_end servers stores table = flat_map (part_end servers stores table.def.name) table.parts

-- the schedule's end: each link in catalog order, with the rows of its remote table
unfoldable pub end_text : View → List Store → List ℕ
end_text catalog stores = codes "end\n" ++ flat_map (table_end catalog.servers stores) catalog.tables

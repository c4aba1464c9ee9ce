-- What a server answers: Generic Response Packets, Protocol::AuthSwitchRequest, COM_QUERY Response and Text Resultset.
use Rattle.std.specs.Prelude.{◌≡◌, ℕ, ◌^◌, ◌<◌, ◌≤◌, List, [], ◌∷◌, ◌++◌, length, map, Option, Some, None, codes, IsUtf8}
use Rattle.std.specs.List.{AllByRecursion}
use Rattle.byteorder.specs.Endian.{little_bytes}
use Rattle.my_wire.specs.Grammar.{◌▷◌, IsEnd, IsExactly}
use Rattle.my_wire.specs.Lenenc.{lenenc}
use Rattle.my_wire.specs.Packets.{most}
use Rattle.my_messages.specs.Fields.{IsInt, IsNumber, IsUtf8Of, IsText, HasNoNul, IsNulText, IsFixed, IsAny, text_bytes}
use Rattle.my_messages.specs.declared.reply.Column.{Column}
use Rattle.my_messages.specs.declared.reply.Reply.{Reply}
use Rattle.my_messages.specs.declared.reply.Reply.TheVariants as replies

-- ---- payloads

-- OK_Packet: header, affected rows, last insert number (always 0), status flags, warnings
abbrev pub IsOkPacket : ℕ → ℕ → ℕ → List ℕ → Type 0
IsOkPacket affected status warnings = IsExactly (0 ∷ []) ▷ IsNumber affected ▷ IsNumber 0 ▷ IsInt 2 status ▷ IsInt 2 warnings ▷ IsEnd

-- ERR_Packet: header, the error's number, `#`, the SQLSTATE, the text
abbrev pub IsErrPacket : ℕ → List ℕ → List ℕ → List ℕ → Type 0
IsErrPacket number state message = IsExactly (0xFF ∷ []) ▷ IsInt 2 number ▷ IsExactly (codes "#") ▷ IsFixed 5 state ▷ IsUtf8Of message

-- EOF_Packet: header, warnings, status flags
abbrev pub IsEofPacket : ℕ → List ℕ → Type 0
IsEofPacket status = IsExactly (0xFE ∷ []) ▷ IsAny 2 ▷ IsInt 2 status ▷ IsEnd

-- Protocol::AuthSwitchRequest: header, the plugin, the nonce and NUL
abbrev pub IsSwitchRequest : List ℕ → List ℕ → List ℕ → Type 0
IsSwitchRequest plugin nonce = IsExactly (0xFE ∷ []) ▷ IsNulText plugin ▷ IsFixed 20 nonce ▷ IsExactly (0 ∷ []) ▷ IsEnd

-- the number of columns, which is not 0
abbrev pub IsColumnCount : ℕ → List ℕ → Type 0
IsColumnCount n bytes = IsNumber n bytes × (0 < n)

-- Protocol::ColumnDefinition41: catalog, schema, table, org_table, name, org_name, the length of what follows, character set, column length, type, flags, decimals, filler
abbrev pub IsDefinition : Column → List ℕ → Type 0
IsDefinition c =
    IsText (codes "def") ▷ IsText c.schema ▷ IsText c.table ▷ IsText c.org_table ▷ IsText c.name ▷ IsText c.org_name
    ▷ IsExactly (0x0C ∷ []) ▷ IsInt 2 c.charset ▷ IsInt 4 c.length ▷ IsInt 1 c.kind ▷ IsInt 2 c.flags ▷ IsExactly (0 ∷ 0 ∷ 0 ∷ []) ▷ IsEnd

-- ProtocolText::ResultsetRow, one value: `FB` for NULL, else a text
abbrev pub IsCell : Option (List ℕ) → List ℕ → Type 0
IsCell None = IsExactly (0xFB ∷ [])
IsCell (Some text) = IsText text

-- ProtocolText::ResultsetRow: the values, one after the other
abbrev pub IsRow : List (Option (List ℕ)) → List ℕ → Type 0
IsRow [] = IsEnd
IsRow (cell ∷ cells) = IsCell cell ▷ IsRow cells

-- ---- replies

-- each of these has the bytes beside it
abbrev pub Each : {X : Type 0} → (X → List ℕ → Type 0) → List X → List (List ℕ) → Type 0
Each Spells [] [] = Unit {0}
Each Spells (x ∷ xs) (payload ∷ payloads) = Spells x payload × Each Spells xs payloads
Each Spells [] (payload ∷ payloads) = ⊥
Each Spells (x ∷ xs) [] = ⊥

-- a row with so many values
abbrev pub IsRowOf : ℕ → List (Option (List ℕ)) → List ℕ → Type 0
IsRowOf width cells payload = (length cells ≡ width) × IsRow cells payload

-- Text Resultset: the number of columns, a definition of each, EOF, the rows, EOF with the status
pub record IsResultset (columns : List Column) (rows : List (List (Option (List ℕ)))) (status : ℕ) (payloads : List (List ℕ)) : Type 0 where
  pub count : List ℕ
  pub definitions : List (List ℕ)
  pub first_end : List ℕ
  pub row_payloads : List (List ℕ)
  pub last_end : List ℕ
  pub first_status : ℕ
  pub whole : payloads ≡ count ∷ (definitions ++ first_end ∷ (row_payloads ++ last_end ∷ []))
  pub counted : IsColumnCount (length columns) count
  pub defined : Each IsDefinition columns definitions
  pub definitions_end : IsEofPacket first_status first_end
  pub rows_are : Each (IsRowOf (length columns)) rows row_payloads
  pub rows_end : IsEofPacket status last_end

-- these payloads, in order, are that reply
abbrev pub IsReply : Reply → List (List ℕ) → Type 0
IsReply (replies.Ok affected status warnings) payloads = (payload : List ℕ) × (payloads ≡ payload ∷ []) × IsOkPacket affected status warnings payload
IsReply (replies.Err number state message) payloads = (payload : List ℕ) × (payloads ≡ payload ∷ []) × IsErrPacket number state message payload
IsReply (replies.Rows columns rows status) payloads = IsResultset columns rows status payloads
IsReply (replies.Switch plugin nonce) payloads = (payload : List ℕ) × (payloads ≡ payload ∷ []) × IsSwitchRequest plugin nonce payload

-- ---- what is written

abbrev pub ok_bytes : ℕ → ℕ → ℕ → List ℕ
ok_bytes affected status warnings = (0 ∷ []) ++ (lenenc affected ++ ((0 ∷ []) ++ (little_bytes 2 status ++ little_bytes 2 warnings)))

abbrev pub err_bytes : ℕ → List ℕ → List ℕ → List ℕ
err_bytes number state message = (0xFF ∷ []) ++ (little_bytes 2 number ++ (codes "#" ++ (state ++ message)))

abbrev pub eof_bytes : ℕ → List ℕ
eof_bytes status = (0xFE ∷ []) ++ ((0 ∷ 0 ∷ []) ++ little_bytes 2 status)

abbrev pub switch_bytes : List ℕ → List ℕ → List ℕ
switch_bytes plugin nonce = (0xFE ∷ []) ++ ((plugin ++ 0 ∷ []) ++ (nonce ++ 0 ∷ []))

abbrev pub names_bytes : Column → List ℕ
names_bytes c = text_bytes (codes "def") ++ (text_bytes c.schema ++ (text_bytes c.table ++ (text_bytes c.org_table ++ (text_bytes c.name ++ text_bytes c.org_name))))

abbrev pub traits_bytes : Column → List ℕ
traits_bytes c = (0x0C ∷ []) ++ (little_bytes 2 c.charset ++ (little_bytes 4 c.length ++ ((c.kind ∷ []) ++ (little_bytes 2 c.flags ++ (0 ∷ 0 ∷ 0 ∷ [])))))

abbrev pub definition_bytes : Column → List ℕ
definition_bytes c = names_bytes c ++ traits_bytes c

abbrev pub cell_bytes : Option (List ℕ) → List ℕ
cell_bytes None = 0xFB ∷ []
cell_bytes (Some text) = text_bytes text

abbrev pub row_bytes : List (Option (List ℕ)) → List ℕ
row_bytes [] = []
row_bytes (cell ∷ cells) = cell_bytes cell ++ row_bytes cells

-- the payloads that are written of a result
abbrev pub result_payloads : List Column → List (List (Option (List ℕ))) → ℕ → List (List ℕ)
result_payloads columns rows status = lenenc (length columns) ∷ (map definition_bytes columns ++ (eof_bytes status ∷ (map row_bytes rows ++ eof_bytes status ∷ [])))

-- the payloads that are written of a reply
abbrev pub payloads_of : Reply → List (List ℕ)
payloads_of (replies.Ok affected status warnings) = ok_bytes affected status warnings ∷ []
payloads_of (replies.Err number state message) = err_bytes number state message ∷ []
payloads_of (replies.Rows columns rows status) = result_payloads columns rows status
payloads_of (replies.Switch plugin nonce) = switch_bytes plugin nonce ∷ []

-- a definition that fits a packet
abbrev pub DefinitionFits : Column → Type 0
DefinitionFits c = length (definition_bytes c) ≤ most

-- a row of so many values that fits a packet
abbrev pub RowFits : ℕ → List (Option (List ℕ)) → Type 0
RowFits width cells = (length cells ≡ width) × (length (row_bytes cells) ≤ most)

-- a reply that has bytes: a result has a column, and each row a value for each column; a plugin's name has no NUL; each payload fits a packet
abbrev pub HasBytes : Reply → Type 0
HasBytes (replies.Ok affected status warnings) = Unit {0}
HasBytes (replies.Err number state message) = length (err_bytes number state message) ≤ most
HasBytes (replies.Rows columns rows status) = (0 < length columns) × AllByRecursion DefinitionFits columns × AllByRecursion (RowFits (length columns)) rows
HasBytes (replies.Switch plugin nonce) = HasNoNul plugin × (length (switch_bytes plugin nonce) ≤ most)

-- a text as a program holds it
abbrev pub IsTextValue : List ℕ → Type 0
IsTextValue text = IsUtf8 text × (length text < 2 ^ 64)

-- a column as a program holds it
pub record IsColumnValue (c : Column) : Type 0 where
  pub schema : IsTextValue c.schema
  pub table : IsTextValue c.table
  pub org_table : IsTextValue c.org_table
  pub name : IsTextValue c.name
  pub org_name : IsTextValue c.org_name
  pub charset : c.charset < 2 ^ 16
  pub width : c.length < 2 ^ 32
  pub kind : c.kind < 2 ^ 8
  pub flags : c.flags < 2 ^ 16

abbrev pub IsCellValue : Option (List ℕ) → Type 0
IsCellValue None = Unit {0}
IsCellValue (Some text) = IsTextValue text

-- a reply as a program holds it
abbrev pub IsReplyValue : Reply → Type 0
IsReplyValue (replies.Ok affected status warnings) = (affected < 2 ^ 64) × (status < 2 ^ 16) × (warnings < 2 ^ 16)
IsReplyValue (replies.Err number state message) = (number < 2 ^ 16) × (length state ≡ 5) × IsUtf8 message
IsReplyValue (replies.Rows columns rows status) = (length columns < 2 ^ 64) × AllByRecursion IsColumnValue columns × AllByRecursion (AllByRecursion IsCellValue) rows × (status < 2 ^ 16)
IsReplyValue (replies.Switch plugin nonce) = IsUtf8 plugin × (length nonce ≡ 20)

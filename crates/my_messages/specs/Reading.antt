-- Reading messages from left to right. What can't be read tells how many bytes are left from the first bad one on.
use Rattle.std.specs.Prelude.{◌≡◌, ℕ, zero, suc, ◌-◌, min, List, [], ◌∷◌, length, take, drop, Option, Some, None, Result, Ok, Err, nat_lt, ◌==◌, if◌then◌else◌, codes}
use Rattle.byteorder.specs.Endian.{little_number}
use Rattle.my_wire.specs.Grammar.{◌>>=◌}
use Rattle.my_wire.specs.Lenenc.{lenenc_at}
use Rattle.my_wire.specs.declared.lenenc.Lenenc.{Lenenc}
use Rattle.my_wire.specs.declared.lenenc.Lenenc.TheVariants.{Number, Null, Short, Bad}
use Rattle.my_messages.specs.Utf8.{sized_after, nul_after, all_after}
use Rattle.my_messages.specs.declared.fault.BadBytes.{BadBytes}
use Rattle.my_messages.specs.declared.fault.ReadFault.{ReadFault}
use Rattle.my_messages.specs.declared.fault.ReadFault.TheVariants as faults
use Rattle.my_messages.specs.declared.reply.Column.{Column}
use Rattle.my_messages.specs.declared.reply.Reply.{Reply}
use Rattle.my_messages.specs.declared.reply.Reply.TheVariants as replies

-- what a function returned, seen by view, is what reading gives
abbrev pub Reads : {X Y : Type 0} → (X → Y) → Result X BadBytes → Result Y ℕ → Type 0
Reads view (Ok x) read = read ≡ Ok (view x)
Reads view (Err bad) read = read ≡ Err bad.left

abbrev pub Fails : {Y : Type 0} → ReadFault → Result Y ℕ → Type 0
Fails faults.NoMemory read = Unit {0}
Fails (faults.Bad bad) read = read ≡ Err bad.left

-- the same, unless memory ran out
abbrev pub Gives : {X Y : Type 0} → (X → Y) → Result X ReadFault → Result Y ℕ → Type 0
Gives view (Ok x) read = read ≡ Ok (view x)
Gives view (Err e) read = Fails e read

-- ---- fields: a value and the bytes after it

abbrev pub literal_at : List ℕ → List ℕ → Result (Unit {0} × List ℕ) ℕ
literal_at [] bytes = Ok (tt, bytes)
literal_at (c ∷ expected) [] = Err 0
literal_at (c ∷ expected) (b ∷ bytes) = if b == c then literal_at expected bytes else Err (length (b ∷ bytes))

abbrev pub int_at : ℕ → List ℕ → Result (ℕ × List ℕ) ℕ
int_at width bytes = if nat_lt (length bytes) width then Err 0 else Ok (little_number width (take width bytes), drop width bytes)

abbrev pub fixed_at : ℕ → List ℕ → Result (List ℕ × List ℕ) ℕ
fixed_at width bytes = if nat_lt (length bytes) width then Err 0 else Ok (take width bytes, drop width bytes)

abbrev pub number_from : List ℕ → Lenenc → Result (ℕ × List ℕ) ℕ
number_from bytes (Number value used) = Ok (value, drop used bytes)
number_from bytes Null = Err (length bytes)
number_from bytes Short = Err 0
number_from bytes Bad = Err (length bytes)

abbrev pub number_at : List ℕ → Result (ℕ × List ℕ) ℕ
number_at bytes = number_from bytes (lenenc_at bytes)

unfoldable pub text_at : List ℕ → Result (List ℕ × List ℕ) ℕ
text_at bytes = number_at bytes >>= λ n. sized_after 0 0 0 n.0 n.1

-- the first of two forms, else the second; where neither goes on, the later of the two places
abbrev pub or_else : {A : Type 0} → Result A ℕ → Result A ℕ → Result A ℕ
or_else (Ok x) other = Ok x
or_else (Err left) (Ok y) = Ok y
or_else (Err left) (Err other) = Err (min left other)

-- one of four literals
abbrev pub any_at : List ℕ → List ℕ → List ℕ → List ℕ → List ℕ → Result (Unit {0} × List ℕ) ℕ
any_at one two three four bytes = or_else (literal_at one bytes) (or_else (literal_at two bytes) (or_else (literal_at three bytes) (literal_at four bytes)))

-- the number n below 251, in each of its forms, and then that tail
unfoldable pub small_at : ℕ → List ℕ → List ℕ → Result (Unit {0} × List ℕ) ℕ
small_at n tail bytes = any_at (n ∷ tail) (0xFC ∷ n ∷ 0 ∷ tail) (0xFD ∷ n ∷ 0 ∷ 0 ∷ tail) (0xFE ∷ n ∷ 0 ∷ 0 ∷ 0 ∷ 0 ∷ 0 ∷ 0 ∷ 0 ∷ tail) bytes

-- ---- payloads

-- the value, where no byte follows
abbrev pub end_at : {X : Type 0} → X → List ℕ → Result X ℕ
end_at x [] = Ok x
end_at x (b ∷ bytes) = Err (length (b ∷ bytes))

unfoldable pub ok_at : List ℕ → Result Reply ℕ
ok_at bytes = do
  header ← literal_at (0 ∷ []) bytes
  affected ← number_at header.1
  last ← small_at 0 [] affected.1
  status ← int_at 2 last.1
  warnings ← int_at 2 status.1
  end_at (replies.Ok affected.0 status.0 warnings.0) warnings.1

unfoldable pub err_at : List ℕ → Result Reply ℕ
err_at bytes = do
  header ← literal_at (0xFF ∷ []) bytes
  number ← int_at 2 header.1
  mark ← literal_at (codes "#") number.1
  state ← fixed_at 5 mark.1
  message ← all_after 0 0 0 state.1
  Ok (replies.Err number.0 state.0 message)

unfoldable pub switch_at : List ℕ → Result Reply ℕ
switch_at bytes = do
  header ← literal_at (0xFE ∷ []) bytes
  plugin ← nul_after 0 0 0 header.1
  nonce ← fixed_at 20 plugin.1
  nul ← literal_at (0 ∷ []) nonce.1
  end_at (replies.Switch plugin.0 nonce.0) nul.1

unfoldable pub eof_at : List ℕ → Result ℕ ℕ
eof_at bytes = do
  header ← literal_at (0xFE ∷ []) bytes
  warnings ← fixed_at 2 header.1
  status ← int_at 2 warnings.1
  end_at status.0 status.1

-- a count that is told by so many bytes: not 0, and nothing follows
abbrev pub counted : ℕ → ℕ → List ℕ → Result ℕ ℕ
counted value used bytes = if value == 0 then Err (length (drop (used - 1) bytes)) else end_at value (drop used bytes)

abbrev pub count_from : List ℕ → Lenenc → Result ℕ ℕ
count_from bytes (Number value used) = counted value used bytes
count_from bytes Null = Err (length bytes)
count_from bytes Short = Err 0
count_from bytes Bad = Err (length bytes)

abbrev pub count_at : List ℕ → Result ℕ ℕ
count_at bytes = count_from bytes (lenenc_at bytes)

unfoldable pub definition_at : List ℕ → Result Column ℕ
definition_at bytes = do
  catalog ← small_at 3 (codes "def") bytes
  schema ← text_at catalog.1
  table ← text_at schema.1
  org_table ← text_at table.1
  name ← text_at org_table.1
  org_name ← text_at name.1
  size ← literal_at (0x0C ∷ []) org_name.1
  charset ← int_at 2 size.1
  width ← int_at 4 charset.1
  kind ← int_at 1 width.1
  flags ← int_at 2 kind.1
  filler ← literal_at (0 ∷ 0 ∷ 0 ∷ []) flags.1
  end_at (record { schema = schema.0; table = table.0; org_table = org_table.0; name = name.0; org_name = org_name.0; charset = charset.0; length = width.0; kind = kind.0; flags = flags.0 }) filler.1

-- a value of a row
unfoldable pub cell_at : List ℕ → Result (Option (List ℕ) × List ℕ) ℕ
cell_at [] = Err 0
cell_at (b ∷ bytes) = if b == 0xFB then Ok (None, bytes) else (text_at (b ∷ bytes) >>= λ t. Ok (Some t.0, t.1))

-- so many values of a row
unfoldable pub cells_at : ℕ → List ℕ → Result (List (Option (List ℕ))) ℕ
cells_at zero bytes = end_at [] bytes
cells_at (suc n) bytes = cell_at bytes >>= λ c. cells_at n c.1 >>= λ cells. Ok (c.0 ∷ cells)

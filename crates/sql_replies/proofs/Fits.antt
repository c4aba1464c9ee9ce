-- How long the parts of replies are.
use Rattle.std.proofs.Common.{◌≡◌, ◌+◌, ◌*◌, ◌^◌, ◌<◌, ◌≤◌, ℕ, ℤ, List, [], ◌∷◌, ◌++◌, length, Option, arith, ap, true, false}
use Rattle.std.specs.Prelude.{nat_lt, if◌then◌else◌, codes}
use Rattle.std.specs.Int.Signed.{mag}
use Rattle.std.specs.Fmt.{decimal, signed_decimal}
use Rattle.std.proofs.lemmas.Fmt.{length-decimal-le, length_signed_le}
use Rattle.std.proofs.lemmas.List.{length-append}
use Rattle.byteorder.specs.Endian.{little_bytes}
use Rattle.my_wire.specs.Lenenc.{lenenc}
use Rattle.my_messages.specs.declared.reply.Column.{Column}
use Rattle.my_messages.specs.Fields.{text_bytes}
use Rattle.my_messages.specs.Reply.{DefinitionFits, cell_bytes, row_bytes, names_bytes, traits_bytes}

pub decimal_is_short : (n : ℕ) → n < 2 ^ 64 → length (decimal n) ≤ 20
decimal_is_short n h = length-decimal-le 20 n (omega arith) (omega arith) h

pub signed_is_short : (z : ℤ) → mag z < 2 ^ 63 → length (signed_decimal z) ≤ 20
signed_is_short z h = length_signed_le 19 z (omega arith) h

-- the length of a text in parts
pub length-two : (text a b : List ℕ) → text ≡ a ++ b → length text ≡ length a + length b
length-two text a b e = omega (arith, ap length e, length-append a b)

pub length-three : (text a b c : List ℕ) → text ≡ a ++ (b ++ c) → length text ≡ length a + length b + length c
length-three text a b c e = omega (arith, ap length e, length-append a (b ++ c), length-append b c)

pub length-four : (text a b c d : List ℕ) → text ≡ a ++ (b ++ (c ++ d)) → length text ≡ length a + length b + length c + length d
length-four text a b c d e = omega (arith, ap length e, length-append a (b ++ (c ++ d)), length-append b (c ++ d), length-append c d)

-- the length of a short text takes at most three bytes
pub lenenc_is_short : (n : ℕ) → n ≤ 1024 → length (lenenc n) ≤ 3
lenenc_is_short n h =
    elim (nat_lt n 251) as (λ b. length (if b then n ∷ [] else if nat_lt n (2 ^ 16) then 0xFC ∷ little_bytes 2 n else if nat_lt n (2 ^ 24) then 0xFD ∷ little_bytes 3 n else 0xFE ∷ little_bytes 8 n) ≤ 3) [
      | true ↦ omega arith
      | false ↦ grind arith
    ]

pub text_is_short : (t : List ℕ) → length t ≤ 1024 → length (text_bytes t) ≤ length t + 3
text_is_short t h = omega (arith, length-append (lenenc (length t)) t, lenenc_is_short (length t) h)

pub names_are_short : (c : Column) → length c.schema ≤ 64 → length c.table ≤ 64 → length c.org_table ≤ 64 → length c.name ≤ 64 → length c.org_name ≤ 64 → length (names_bytes c) ≤ 400
names_are_short c s t o n m =
    let a = text_bytes c.schema in
    let b = text_bytes c.table in
    let d = text_bytes c.org_table in
    let e = text_bytes c.name in
    let f = text_bytes c.org_name in
    omega (
      arith,
      text_is_short c.schema (omega arith),
      text_is_short c.table (omega arith),
      text_is_short c.org_table (omega arith),
      text_is_short c.name (omega arith),
      text_is_short c.org_name (omega arith),
      length-append (text_bytes (codes "def")) (a ++ (b ++ (d ++ (e ++ f)))),
      length-append a (b ++ (d ++ (e ++ f))),
      length-append b (d ++ (e ++ f)),
      length-append d (e ++ f),
      length-append e f,
    )

pub definition_fits : (c : Column) → length c.schema ≤ 64 → length c.table ≤ 64 → length c.org_table ≤ 64 → length c.name ≤ 64 → length c.org_name ≤ 64 → DefinitionFits c
definition_fits c s t o n m = omega (arith, names_are_short c s t o n m, length-append (names_bytes c) (traits_bytes c))

pub length-row-push : (cells : List (Option (List ℕ))) (cell : Option (List ℕ)) → length (row_bytes (cells ++ cell ∷ [])) ≡ length (row_bytes cells) + length (cell_bytes cell)
length-row-push [] cell = grind (arith, length-append (cell_bytes cell) [])
length-row-push (c ∷ cells) cell =
    omega (arith, length-append (cell_bytes c) (row_bytes (cells ++ cell ∷ [])), length-append (cell_bytes c) (row_bytes cells), length-row-push cells cell)

-- a cell of at most 1,027 bytes more
pub row_grows : (cells : List (Option (List ℕ))) (cell : Option (List ℕ)) (n : ℕ) → length (row_bytes cells) ≤ 1027 * n → length (cell_bytes cell) ≤ 1027 → length (row_bytes (cells ++ cell ∷ [])) ≤ 1027 * (n + 1)
row_grows cells cell n h k = omega (arith, length-row-push cells cell)

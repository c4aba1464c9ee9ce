-- Protocol::LengthEncodedInteger: a number in one, three, four or nine bytes, the lowest byte first.
use Rattle.std.specs.Prelude.{◌≡◌, ℕ, ◌+◌, ◌^◌, ◌<◌, ◌⊎◌, List, [], ◌∷◌, length, Option, Some, None, nat_lt, ◌==◌, if◌then◌else◌}
use Rattle.byteorder.specs.Endian.{little_number, little_bytes}
use Rattle.my_wire.specs.declared.lenenc.Lenenc.{Lenenc}
use Rattle.my_wire.specs.declared.lenenc.Lenenc.TheVariants.{Number, Null, Short, Bad}

-- how many bytes of the number follow a first byte that isn't the number itself
abbrev pub width_of : ℕ → Option ℕ
width_of first = if first == 0xFC then Some 2 else if first == 0xFD then Some 3 else if first == 0xFE then Some 8 else None

-- these bytes, all of them, are that number, in a form that has room for it
abbrev pub IsLenenc : List ℕ → ℕ → Type 0
IsLenenc [] n = ⊥
IsLenenc (first ∷ more) n = ((first < 251) × (more ≡ []) × (n ≡ first)) ⊎ ((width_of first ≡ Some (length more)) × (n ≡ little_number (length more) more))

-- the shortest form of a number
abbrev pub lenenc : ℕ → List ℕ
lenenc n = if nat_lt n 251 then n ∷ [] else if nat_lt n (2 ^ 16) then 0xFC ∷ little_bytes 2 n else if nat_lt n (2 ^ 24) then 0xFD ∷ little_bytes 3 n else 0xFE ∷ little_bytes 8 n

-- what stands behind a first byte with so many bytes of the number after it
abbrev pub wide_at : Option ℕ → List ℕ → Lenenc
wide_at None more = Bad
wide_at (Some width) more = if nat_lt (length more) width then Short else Number (little_number width more) (width + 1)

-- what stands at the front of these bytes
abbrev pub lenenc_at : List ℕ → Lenenc
lenenc_at [] = Short
lenenc_at (first ∷ more) = if nat_lt first 251 then Number first 1 else if first == 0xFB then Null else wide_at (width_of first) more

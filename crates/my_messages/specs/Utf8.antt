-- UTF-8 byte by byte (The Unicode Standard, Table 3-7, Well-Formed UTF-8 Byte Sequences), after the last three bytes x, y, z.
use Rattle.std.specs.Prelude.{ℕ, zero, suc, Bool, List, [], ◌∷◌, length, Option, Some, None, Result, Ok, Err, nat_lt, nat_le, ◌==◌, ◌&&◌, ◌||◌, if◌then◌else◌}
use Rattle.simdutf8.specs.Steps.{least_after, most_after}

-- how many bytes of a character are still due
abbrev pub owed : ℕ → ℕ → ℕ → ℕ
owed x y z =
    if nat_le 0xF0 x then 1 else if nat_le 0xF0 y then 2 else if nat_le 0xE0 y then 1
    else if nat_lt z 0xC0 then 0 else if nat_lt z 0xE0 then 1 else if nat_lt z 0xF0 then 2 else 3

-- whether some text goes on with the byte b
abbrev pub may_follow : ℕ → ℕ → ℕ → ℕ → Bool
may_follow x y z b =
    if nat_le 0xC0 z then nat_le (least_after z) b && nat_le b (most_after z)
    else if owed x y z == 0 then nat_lt b 0x80 || (nat_le 0xC2 b && nat_le b 0xF4)
    else nat_le 0x80 b && nat_lt b 0xC0

-- a byte, and then what is read
abbrev pub and_then : ℕ → Result (List ℕ × List ℕ) ℕ → Result (List ℕ × List ℕ) ℕ
and_then b (Ok read) = Ok (b ∷ read.0, read.1)
and_then b (Err left) = Err left

-- where reading stops
abbrev pub bad_of : {A : Type 0} → Result A ℕ → Option ℕ
bad_of (Ok read) = None
bad_of (Err left) = Some left

-- reading the rest of a text of n bytes
abbrev pub sized_after : ℕ → ℕ → ℕ → ℕ → List ℕ → Result (List ℕ × List ℕ) ℕ
sized_after x y z zero bytes = Ok ([], bytes)
sized_after x y z (suc n) [] = Err 0
sized_after x y z (suc n) (b ∷ bytes) =
    if may_follow x y z b && nat_le (owed y z b) n then and_then b (sized_after y z b n bytes) else Err (length (b ∷ bytes))

-- reading the rest of a text that ends with NUL
abbrev pub nul_after : ℕ → ℕ → ℕ → List ℕ → Result (List ℕ × List ℕ) ℕ
nul_after x y z [] = Err 0
nul_after x y z (b ∷ bytes) =
    if may_follow x y z b then (if b == 0 then Ok ([], bytes) else and_then b (nul_after y z b bytes)) else Err (length (b ∷ bytes))

-- the same where nothing follows
abbrev pub and_all : ℕ → Result (List ℕ) ℕ → Result (List ℕ) ℕ
and_all b (Ok text) = Ok (b ∷ text)
and_all b (Err left) = Err left

-- reading the rest of a text that ends with the bytes
abbrev pub all_after : ℕ → ℕ → ℕ → List ℕ → Result (List ℕ) ℕ
all_after x y z [] = if owed x y z == 0 then Ok [] else Err 0
all_after x y z (b ∷ bytes) = if may_follow x y z b then and_all b (all_after y z b bytes) else Err (length (b ∷ bytes))

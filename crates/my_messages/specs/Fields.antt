-- Protocol Basics, Data Types: the fields that messages are made of.
use Rattle.std.specs.Prelude.{◌≡◌, ◌≢◌, ℕ, List, [], ◌∷◌, ◌++◌, length, IsUtf8}
use Rattle.byteorder.specs.Endian.{little_number}
use Rattle.my_wire.specs.Grammar.{◌▷◌}
use Rattle.my_wire.specs.Lenenc.{IsLenenc, lenenc}

-- Protocol::FixedLengthInteger: a number in so many bytes, the lowest first
abbrev pub IsInt : ℕ → ℕ → List ℕ → Type 0
IsInt width n bytes = (length bytes ≡ width) × (n ≡ little_number width bytes)

-- Protocol::LengthEncodedInteger
abbrev pub IsNumber : ℕ → List ℕ → Type 0
IsNumber n bytes = IsLenenc bytes n

-- a text in UTF-8, without its length
abbrev pub IsUtf8Of : List ℕ → List ℕ → Type 0
IsUtf8Of text bytes = (bytes ≡ text) × IsUtf8 text

-- Protocol::LengthEncodedString, in UTF-8
abbrev pub IsText : List ℕ → List ℕ → Type 0
IsText text = IsNumber (length text) ▷ IsUtf8Of text

-- no byte is NUL
abbrev pub HasNoNul : List ℕ → Type 0
HasNoNul [] = Unit {0}
HasNoNul (b ∷ bytes) = (b ≢ 0) × HasNoNul bytes

-- Protocol::NullTerminatedString, in UTF-8
pub record IsNulText (text : List ℕ) (bytes : List ℕ) : Type 0 where
  pub whole : bytes ≡ text ++ 0 ∷ []
  pub no_nul : HasNoNul text
  pub utf8 : IsUtf8 text

-- Protocol::FixedLengthString
abbrev pub IsFixed : ℕ → List ℕ → List ℕ → Type 0
IsFixed width text bytes = (bytes ≡ text) × (length text ≡ width)

-- so many bytes, which are passed over
abbrev pub IsAny : ℕ → List ℕ → Type 0
IsAny width bytes = length bytes ≡ width

-- the bytes of a text with its length, in the shortest form
abbrev pub text_bytes : List ℕ → List ℕ
text_bytes text = lenenc (length text) ++ text

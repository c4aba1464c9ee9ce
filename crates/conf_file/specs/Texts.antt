-- What the texts of a configuration file have to be.
use Rattle.std.specs.Prelude.{ℕ, Bool, false, ◌==◌, ◌&&◌, ◌||◌, ◌++◌, ◌-◌, nat_eq, nat_lt, nat_le, if◌then◌else◌, List, [], ◌∷◌, length, take, drop, Option, Some, None}
use Rattle.std.specs.Char.{is_ascii_digit, is_ascii_hexdigit}
use Rattle.std.specs.Cmp.Lexicographic.{pointwise}
use Rattle.std.specs.List.{list_all}
use Rattle.std.specs.Option.{is_some}
use Rattle.std.specs.Str.Parse.{digits_value}
use Rattle.sql_values.specs.Names.{is_name}

-- the two texts have the same bytes
abbrev pub is_same : List ℕ → List ℕ → Bool
is_same a b = pointwise nat_eq a b

-- the number that decimal digits write, one digit at least, where it lies between these bounds
abbrev pub number_within : ℕ → ℕ → List ℕ → Option ℕ
number_within low high digits =
    if (nat_lt 0 (length digits) && list_all is_ascii_digit digits) && (nat_le low (digits_value 10 digits) && nat_le (digits_value 10 digits) high)
    then Some (digits_value 10 digits) else None

-- the port of an address: a decimal number of at most 65535
abbrev pub is_port : List ℕ → Bool
is_port digits = is_some (number_within 0 65535 digits)

-- the text ends with `:` and a port
abbrev pub is_address : List ℕ → Bool
is_address [] = false
is_address (b ∷ bytes) = (b == 58 && is_port bytes) || is_address bytes

-- `*` and 40 hexadecimal digits
abbrev pub is_starred : List ℕ → Bool
is_starred [] = false
is_starred (b ∷ digits) = b == 42 && (length digits == 40 && list_all is_ascii_hexdigit digits)

-- the stored form of a password: nothing, or `*` and 40 hexadecimal digits (MySQL Reference Manual, "PASSWORD()")
abbrev pub is_stored_form : List ℕ → Bool
is_stored_form text = length text == 0 || is_starred text

-- a name of a front, a server or a monitor: 16 bytes at most
abbrev pub is_short_name : List ℕ → Bool
is_short_name name = is_name name && nat_le (length name) 16

-- what stands between this beginning and this end of a text
abbrev pub between : List ℕ → List ℕ → List ℕ → Option (List ℕ)
between front back text =
    let middle = take (length text - length front - length back) (drop (length front) text) in
    if is_same text (front ++ (middle ++ back)) then Some middle else None

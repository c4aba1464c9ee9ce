use Rattle.std.specs.Prelude.{◌≡◌, ℕ, ◌==◌, ◌&&◌, ◌||◌, Bool, true, false, List, [], ◌∷◌, length, nat_lt}
use Rattle.std.specs.List.{list_all}
use Rattle.std.specs.Char.{is_ascii_alphabetic, is_ascii_digit}

-- a byte that may begin a name: a letter or `_`
abbrev pub begins_name : ℕ → Bool
begins_name b = b == 95 || is_ascii_alphabetic b

-- a byte that may follow in a name: a letter, a digit or `_`
abbrev pub continues_name : ℕ → Bool
continues_name b = begins_name b || is_ascii_digit b

-- the bytes are a name: 1 to 64 of them
abbrev pub is_name : List ℕ → Bool
is_name [] = false
is_name (b ∷ bytes) = begins_name b && (nat_lt (length bytes) 64 && list_all continues_name bytes)

abbrev pub IsName : List ℕ → Type 0
IsName bytes = is_name bytes ≡ true

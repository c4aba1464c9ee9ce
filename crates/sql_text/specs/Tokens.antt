-- The tokens of a text.
use Rattle.std.specs.Prelude.{ℕ, zero, suc, ◌+◌, ◌-◌, ◌*◌, ◌^◌, ◌==◌, ◌&&◌, ◌||◌, not, Bool, true, false, pos, neg_ℤ, List, [], ◌∷◌, ◌++◌, length, map, Option, Some, None, if◌then◌else◌, nat_lt, nat_le, nat_eq, codes}
use Rattle.std.specs.Cmp.Lexicographic.{pointwise}
use Rattle.std.specs.Char.{is_ascii_digit, to_ascii_uppercase}
use Rattle.std.specs.Str.Lossy.{utf8_lossy}
use Rattle.sql_values.specs.Names.{is_name, begins_name, continues_name}
use Rattle.sql_text.specs.declared.token.Fixed.{Fixed}
use Rattle.sql_text.specs.declared.token.Fixed.TheVariants.{And, As, Asc, Between, By, Count, Database, Databases, Delete, Desc, For, From, In, Inner, Insert, Into, Join, Limit, Lock, Max, Min, Mode, Not, Null, Offset, On, Or, Order, Select, Set, Share, Show, Sum, Tables, Update, Values, Where, VersionComment, Commit, End, Prepare, Recover, Replace, Rollback, Start, Xa, Open, Close, Comma, Dot, Star, Plus, Minus, Semicolon, Equal, NotEqual, Less, AtMost, Greater, AtLeast}
use Rattle.sql_text.specs.declared.token.Before.{Before}
use Rattle.sql_text.specs.declared.token.Dialect.{Dialect}
use Rattle.sql_text.specs.declared.token.Dialect.TheVariants.{Statements, Links}
use Rattle.sql_text.specs.declared.token.Token.{Token}
use Rattle.sql_text.specs.declared.token.Token.TheVariants as tokens

-- WORDS

-- the bytes are this word, in capitals or small letters
abbrev pub is_word : List ℕ → List ℕ → Bool
is_word word bytes = pointwise nat_eq (map to_ascii_uppercase bytes) word

-- the keywords of INSERT, SELECT and conditions
abbrev pub basic_word : List ℕ → Option Fixed
basic_word bytes =
    if is_word (codes "AND") bytes then Some And
    else (if is_word (codes "AS") bytes then Some As
    else (if is_word (codes "BETWEEN") bytes then Some Between
    else (if is_word (codes "FROM") bytes then Some From
    else (if is_word (codes "IN") bytes then Some In
    else (if is_word (codes "INSERT") bytes then Some Insert
    else (if is_word (codes "INTO") bytes then Some Into
    else (if is_word (codes "NOT") bytes then Some Not
    else (if is_word (codes "NULL") bytes then Some Null
    else (if is_word (codes "OR") bytes then Some Or
    else (if is_word (codes "SELECT") bytes then Some Select
    else (if is_word (codes "VALUES") bytes then Some Values
    else (if is_word (codes "WHERE") bytes then Some Where
    else None))))))))))))

-- those of UPDATE, DELETE and the words of locks
abbrev pub change_word : List ℕ → Option Fixed
change_word bytes =
    if is_word (codes "UPDATE") bytes then Some Update
    else (if is_word (codes "SET") bytes then Some Set
    else (if is_word (codes "DELETE") bytes then Some Delete
    else (if is_word (codes "FOR") bytes then Some For
    else (if is_word (codes "LOCK") bytes then Some Lock
    else (if is_word (codes "SHARE") bytes then Some Share
    else (if is_word (codes "MODE") bytes then Some Mode
    else None))))))

-- those of ORDER BY and LIMIT
abbrev pub order_word : List ℕ → Option Fixed
order_word bytes =
    if is_word (codes "ORDER") bytes then Some Order
    else (if is_word (codes "BY") bytes then Some By
    else (if is_word (codes "ASC") bytes then Some Asc
    else (if is_word (codes "DESC") bytes then Some Desc
    else (if is_word (codes "LIMIT") bytes then Some Limit
    else (if is_word (codes "OFFSET") bytes then Some Offset
    else None)))))

-- those of aggregates
abbrev pub aggregate_word : List ℕ → Option Fixed
aggregate_word bytes =
    if is_word (codes "COUNT") bytes then Some Count
    else (if is_word (codes "SUM") bytes then Some Sum
    else (if is_word (codes "MIN") bytes then Some Min
    else (if is_word (codes "MAX") bytes then Some Max
    else None)))

-- those of joins and of administration
abbrev pub join_word : List ℕ → Option Fixed
join_word bytes =
    if is_word (codes "INNER") bytes then Some Inner
    else (if is_word (codes "JOIN") bytes then Some Join
    else (if is_word (codes "ON") bytes then Some On
    else (if is_word (codes "SHOW") bytes then Some Show
    else (if is_word (codes "TABLES") bytes then Some Tables
    else (if is_word (codes "DATABASES") bytes then Some Databases
    else (if is_word (codes "DATABASE") bytes then Some Database
    else None))))))

abbrev pub first_word : Option Fixed → Option Fixed → Option Fixed
first_word None other = other
first_word (Some f) other = Some f

abbrev pub keyword_of : List ℕ → Option Fixed
keyword_of bytes = first_word (basic_word bytes) (first_word (change_word bytes) (first_word (order_word bytes) (first_word (aggregate_word bytes) (join_word bytes))))

-- a keyword, or a name of at most 64 bytes
abbrev pub word_token : Option Fixed → List ℕ → Token
word_token (Some f) bytes = tokens.Fixed f
word_token None bytes = if is_name bytes then tokens.Bare bytes else tokens.Bad

-- the bytes at the front that pass a test, and the others
abbrev pub run : (ℕ → Bool) → List ℕ → List ℕ × List ℕ
run passes [] = ([], [])
run passes (b ∷ bytes) = if passes b then (b ∷ (run passes bytes).0, (run passes bytes).1) else ([], b ∷ bytes)

abbrev pub word_at : List ℕ → Token × List ℕ
word_at bytes = let r = run continues_name bytes in (word_token (keyword_of r.0) r.0, r.1)

-- VARIABLES

-- a variable of the server, which is a keyword
abbrev pub variable_token : List ℕ → Token
variable_token bytes = if is_word (codes "VERSION_COMMENT") bytes then tokens.Fixed VersionComment else tokens.Bad

-- a variable, behind the first of the two `@` before its name
abbrev pub variable_at : List ℕ → Token × List ℕ
variable_at [] = (tokens.Bad, [])
variable_at (b ∷ bytes) = if b == 64 then (let r = run continues_name bytes in (variable_token r.0, r.1)) else (tokens.Bad, b ∷ bytes)

-- NUMBERS

-- the number that decimal digits stand for, after digits that stand for n
abbrev pub value_after : ℕ → List ℕ → ℕ
value_after n [] = n
value_after n (d ∷ digits) = value_after (10 * n + (d - 48)) digits

-- a number of 128 bits with its sign
abbrev pub digits_token : ℕ → Token
digits_token n = if nat_lt n (2 ^ 127) then tokens.Digits (pos n) else tokens.Bad

abbrev pub signed_token : Bool → ℕ → Token
signed_token true n = if nat_le n (2 ^ 127) then tokens.Signed (neg_ℤ (pos n)) else tokens.Bad
signed_token false n = if nat_lt n (2 ^ 127) then tokens.Signed (pos n) else tokens.Bad

abbrev pub digits_at : List ℕ → Token × List ℕ
digits_at bytes = let r = run is_ascii_digit bytes in (digits_token (value_after 0 r.0), r.1)

-- a sign alone
abbrev pub sign_token : Bool → Token
sign_token true = tokens.Fixed Minus
sign_token false = tokens.Fixed Plus

-- a sign, with what stands behind it. Digits directly behind it are one token with it, except where an operand ends before it: there it is an operator
abbrev pub signed_at : Bool → Bool → List ℕ → Token × List ℕ
signed_at operand minus [] = (sign_token minus, [])
signed_at operand minus (b ∷ bytes) =
    if is_ascii_digit b && not operand then (let r = run is_ascii_digit (b ∷ bytes) in (signed_token minus (value_after 0 r.0), r.1))
    else (sign_token minus, b ∷ bytes)

-- TEXTS

-- what has been read of a text: plain bytes, or a quote that may close it, or a backslash
pub data TextMode : Type 0 where
  Plain : TextMode
  Quote : TextMode
  Escape : TextMode

-- the byte that a backslash and this byte stand for
abbrev pub escape_of : ℕ → Option ℕ
escape_of b =
    if b == 48 then Some 0
    else (if b == 39 then Some 39
    else (if b == 34 then Some 34
    else (if b == 98 then Some 8
    else (if b == 110 then Some 10
    else (if b == 114 then Some 13
    else (if b == 116 then Some 9
    else (if b == 90 then Some 26
    else (if b == 92 then Some 92
    else None))))))))

-- with this byte in front
abbrev pub onto : ℕ → Option (List ℕ × List ℕ) → Option (List ℕ × List ℕ)
onto b None = None
onto b (Some r) = Some (b ∷ r.0, r.1)

abbrev pub onto_some : Option ℕ → Option (List ℕ × List ℕ) → Option (List ℕ × List ℕ)
onto_some None r = None
onto_some (Some b) r = onto b r

-- the text up to the quote that closes it, which isn't doubled and stands behind no backslash, and what stands behind that
abbrev pub text_from : ℕ → TextMode → List ℕ → Option (List ℕ × List ℕ)
text_from quote Plain [] = None
text_from quote Plain (b ∷ bytes) =
    if b == quote then text_from quote Quote bytes
    else (if b == 92 then text_from quote Escape bytes else onto b (text_from quote Plain bytes))
text_from quote Quote [] = Some ([], [])
text_from quote Quote (b ∷ bytes) = if b == quote then onto b (text_from quote Plain bytes) else Some ([], b ∷ bytes)
text_from quote Escape [] = None
text_from quote Escape (b ∷ bytes) = onto_some (escape_of b) (text_from quote Plain bytes)

-- A text is UTF-8; one that isn't stands in bytes that are refused anyway, and counts with each wrong byte replaced.
abbrev pub text_at : Option (List ℕ × List ℕ) → Token × List ℕ
text_at None = (tokens.Bad, [])
text_at (Some r) = (tokens.Text (utf8_lossy r.0), r.1)

-- NAMES IN BACKQUOTES

-- the bytes up to this one, and what stands behind it
abbrev pub up_to : ℕ → List ℕ → Option (List ℕ × List ℕ)
up_to stop [] = None
up_to stop (b ∷ bytes) = if b == stop then Some ([], bytes) else onto b (up_to stop bytes)

abbrev pub quoted_at : Option (List ℕ × List ℕ) → Token × List ℕ
quoted_at None = (tokens.Bad, [])
quoted_at (Some r) = (if is_name r.0 then tokens.Quoted r.0 else tokens.Bad, r.1)

-- SYMBOLS

abbrev pub starts : ℕ → List ℕ → Bool
starts b [] = false
starts b (c ∷ bytes) = c == b

abbrev pub rest_of : List ℕ → List ℕ
rest_of [] = []
rest_of (b ∷ bytes) = bytes

-- a symbol that begins with this byte, before these
abbrev pub symbol_at : ℕ → List ℕ → Token × List ℕ
symbol_at b bytes =
    if b == 40 then (tokens.Fixed Open, bytes)
    else (if b == 41 then (tokens.Fixed Close, bytes)
    else (if b == 44 then (tokens.Fixed Comma, bytes)
    else (if b == 46 then (tokens.Fixed Dot, bytes)
    else (if b == 42 then (tokens.Fixed Star, bytes)
    else (if b == 59 then (tokens.Fixed Semicolon, bytes)
    else (if b == 61 then (tokens.Fixed Equal, bytes)
    else (if b == 60 then (if starts 61 bytes then (tokens.Fixed AtMost, rest_of bytes) else (if starts 62 bytes then (tokens.Fixed NotEqual, rest_of bytes) else (tokens.Fixed Less, bytes)))
    else (if b == 62 then (if starts 61 bytes then (tokens.Fixed AtLeast, rest_of bytes) else (tokens.Fixed Greater, bytes))
    else (if b == 33 && starts 61 bytes then (tokens.Fixed NotEqual, rest_of bytes)
    else (tokens.Bad, bytes))))))))))

-- BLANKS

-- space, tab, CR or LF
abbrev pub is_blank : ℕ → Bool
is_blank b = b == 32 || (b == 9 || (b == 13 || b == 10))

-- what stands behind the first `*/`, or behind a first `/` where a `*` stands before these bytes
abbrev pub comment_end : Bool → List ℕ → Option (List ℕ)
comment_end star [] = None
comment_end star (b ∷ bytes) = if star && b == 47 then Some bytes else comment_end (b == 42) bytes

-- behind `/*`: no comment begins with `/*!`
abbrev pub comment_at : List ℕ → Option (List ℕ)
comment_at bytes = if starts 33 bytes then None else comment_end false bytes

-- TOKENS

abbrev pub skipped : Option (List ℕ) → Option Token × List ℕ
skipped None = (Some tokens.Bad, [])
skipped (Some rest) = (None, rest)

abbrev pub seen : Token × List ℕ → Option Token × List ℕ
seen r = (Some r.0, r.1)

-- a token that is no word and begins with this byte, behind what ends an operand or not
abbrev pub other_at : Bool → ℕ → List ℕ → Token × List ℕ
other_at operand b bytes =
    if b == 43 then signed_at operand false bytes
    else (if b == 45 then signed_at operand true bytes
    else (if b == 39 || b == 34 then text_at (text_from b Plain bytes)
    else (if b == 96 then quoted_at (up_to 96 bytes)
    else (if b == 64 then variable_at bytes
    else symbol_at b bytes))))

-- a token at the front, or nothing where blanks stand there, and what is behind it
abbrev pub lexeme_at : Bool → List ℕ → Option Token × List ℕ
lexeme_at operand [] = (None, [])
lexeme_at operand (b ∷ bytes) =
    if is_blank b then (None, bytes)
    else (if b == 47 && starts 42 bytes then skipped (comment_at (rest_of bytes))
    else (if begins_name b then seen (word_at (b ∷ bytes))
    else (if is_ascii_digit b then seen (digits_at (b ∷ bytes))
    else seen (other_at operand b bytes))))

abbrev pub is_bad : Token → Bool
is_bad tokens.Bad = true
is_bad _ = false

-- a token that ends an operand: a name, digits, a text, NULL or `)`
abbrev pub ends_operand : Token → Bool
ends_operand (tokens.Fixed Null) = true
ends_operand (tokens.Fixed Close) = true
ends_operand (tokens.Fixed f) = false
ends_operand tokens.Bad = false
ends_operand t = true

-- a token, and how many bytes are left from its first one on
abbrev pub Placed : Type 0
Placed = Token × ℕ

-- what one step finds, and, unless it is the last one, what stands before what is left, and that
abbrev pub Step : Type 0
Step = List Placed × Option (Before × List ℕ)

-- blanks between a token and a sign don't change what the sign is
abbrev pub placed : ℕ → Before → Option Token × List ℕ → Step
placed left before (None, rest) = ([], Some (before, rest))
placed left before (Some token, rest) = ((token, left) ∷ [], if is_bad token then None else Some (record { touching = before.touching; operand = ends_operand token }, rest))

-- a byte with which a word, digits or a variable begin
abbrev pub begins_word : ℕ → Bool
begins_word b = continues_name b || b == 64

-- between two tokens that are each a word, digits or a variable stands a blank
abbrev pub step_at : Before → List ℕ → Step
step_at before [] = ([], None)
step_at before (b ∷ bytes) =
    if before.touching && begins_word b then ((tokens.Bad, length (b ∷ bytes)) ∷ [], None)
    else placed (length (b ∷ bytes)) (record { touching = begins_word b; operand = before.operand }) (lexeme_at before.operand (b ∷ bytes))

abbrev pub onward : (Before → List ℕ → List Placed) → Step → List Placed
onward again (found, None) = found
onward again (found, Some next) = found ++ again next.0 next.1

-- the tokens of the bytes, in so many steps; each takes a byte at least
abbrev pub tokens_within : ℕ → Before → List ℕ → List Placed
tokens_within zero before bytes = []
tokens_within (suc count) before bytes = onward (tokens_within count) (step_at before bytes)

-- nothing stands before a text
abbrev pub at_start : Before
at_start = record { touching = false; operand = false }

-- the tokens of a text, up to the first that is none
unfoldable pub placed_tokens : List ℕ → List Placed
placed_tokens text = tokens_within (length text) at_start text

-- without their places
unfoldable pub tokens_of : List ℕ → List Token
tokens_of text = map (λ (p : Placed). p.0) (placed_tokens text)

-- LINK TEXT

-- the keywords of link text alone
abbrev pub link_word : List ℕ → Option Fixed
link_word bytes =
    if is_word (codes "XA") bytes then Some Xa
    else (if is_word (codes "START") bytes then Some Start
    else (if is_word (codes "END") bytes then Some End
    else (if is_word (codes "PREPARE") bytes then Some Prepare
    else (if is_word (codes "COMMIT") bytes then Some Commit
    else (if is_word (codes "ROLLBACK") bytes then Some Rollback
    else (if is_word (codes "RECOVER") bytes then Some Recover
    else (if is_word (codes "REPLACE") bytes then Some Replace
    else None)))))))

abbrev pub worded : Option Fixed → List ℕ → Token
worded None n = tokens.Bare n
worded (Some f) n = tokens.Fixed f

-- a token as it stands in link text, where more words are keywords
abbrev pub as_link : Token → Token
as_link (tokens.Bare n) = worded (link_word n) n
as_link t = t

-- the tokens of a link text
unfoldable pub link_tokens_of : List ℕ → List Token
link_tokens_of text = map (λ (p : Placed). as_link p.0) (placed_tokens text)

-- a token as it stands in a text of this kind
abbrev pub in_dialect : Dialect → Token → Token
in_dialect Statements t = t
in_dialect Links t = as_link t

-- the tokens of a text of this kind
abbrev pub dialect_tokens : Dialect → List ℕ → List Token
dialect_tokens Statements text = tokens_of text
dialect_tokens Links text = link_tokens_of text

-- Names, literals and fixed texts as they are written, and their tokens.
use Rattle.std.proofs.Common.{◌≡◌, ℕ, ℤ, pos, negsuc, suc, ◌<◌, ◌≤◌, ◌^◌, List, [], ◌∷◌, ◌++◌, length, Bool, true, false, cond, Option, Some, None, refl, sym, ap, subst, ◌∙◌, append_assoc, arith, codes}
use Rattle.std.specs.Prelude.{◌==◌, ◌&&◌, ◌||◌, not, nat_lt, nat_le}
use Rattle.std.specs.List.{list_all, flat_map}
use Rattle.std.specs.Str.{IsAscii, IsUtf8, all_ascii_digits}
use Rattle.std.specs.Char.{is_ascii_digit}
use Rattle.std.specs.Fmt.{decimal, signed_decimal}
use Rattle.std.proofs.lemmas.Str.{IsUtf8-append, IsUtf8-from_ascii, utf8_lossy-IsUtf8}
use Rattle.std.proofs.lemmas.Str.Ascii.{IsAscii-nil, IsAscii-cons}
use Rattle.std.proofs.lemmas.Str.Parse.{IsNumeralModel, numerals_by_fold}
use Rattle.std.proofs.lemmas.Fmt.{decimal_is_IsNumeral_wide, IsAscii-decimal_wide}
use Rattle.std.proofs.lemmas.Bool.Decides.{nat_tests}
use Rattle.std.proofs.Common.{rules}
use Rattle.sql_values.specs.Names.{is_name, begins_name, continues_name}
use Rattle.sql_text.specs.declared.token.Fixed.{Fixed}
use Rattle.sql_text.specs.declared.token.Fixed.TheVariants.{And, As, Between, By, Count, Database, Databases, Delete, Desc, For, From, In, Insert, Into, Limit, Lock, Max, Min, Mode, Not, Null, Offset, Or, Order, Select, Set, Share, Show, Sum, Tables, Update, Values, Where, VersionComment, Open, Close, Comma, Dot, Star, Plus, Minus, Equal, NotEqual, Less, AtMost, Greater, AtLeast}
use Rattle.sql_values.specs.declared.tree.Comparison.{Comparison}
use Rattle.sql_values.specs.declared.tree.Comparison.TheVariants as comparisons
use Rattle.sql_text.specs.Grammar.{comparison_of}
use Rattle.sql_text.specs.declared.token.Token.{Token}
use Rattle.sql_text.specs.declared.token.Token.TheVariants as tokens
use Rattle.sql_text.specs.Tokens.{run, value_after, digits_token, signed_token, Plain, onto, text_from, up_to, lexeme_at, is_bad, is_blank, starts, rest_of, comment_at, skipped, seen, word_at, word_token, keyword_of, variable_token, begins_word, digits_at, other_at, ends_operand}
use Rattle.sql_text.specs.Printing.{escaped, quoted, name_text, comparison_text}
use Rattle.sql_text.proofs.Fields.{and_true}
use Rattle.sql_text.proofs.Bytes.{name_utf8}
use Rattle.sql_text.proofs.Written.{Has, has_token, has_symbol, has_blank, apart_from, behind_token, Stops, AtomAt, Atom, Suffix, PrefixAt, Prefix, SeparatorAt, Separator, prefix_atom, prefix_prefix, separator_alone, separator_atom, separator_prefix}

-- NAMES

-- a byte of a name is no backquote
no_backquote : (b : ℕ) → continues_name b ≡ true → (b == 96) ≡ false
no_backquote b h = grind (arith, nat_tests)

up_to_end : (n rest : List ℕ) → list_all continues_name n ≡ true → up_to 96 (n ++ (96 ∷ rest)) ≡ Some (n, rest)
up_to_end [] rest h = refl
up_to_end (b ∷ n) rest h =
    let p = and_true (continues_name b) (list_all continues_name n) h in
    let other : (b == 96) ≡ false = no_backquote b p.0 in
    rw other (ap (onto b) (up_to_end n rest p.1))

begins_continues : (b : ℕ) → begins_name b ≡ true → continues_name b ≡ true
begins_continues b h = grind (arith, nat_tests)

both_true : (b c : Bool) → b ≡ true → c ≡ true → (b && c) ≡ true
both_true true c h k = k
both_true false c h k = absurd cc

name_continues : (n : List ℕ) → is_name n ≡ true → list_all continues_name n ≡ true
name_continues [] h = absurd cc
name_continues (b ∷ n) h =
    let p = and_true (begins_name b) (nat_lt (length n) 64 && list_all continues_name n) h in
    let q = and_true (nat_lt (length n) 64) (list_all continues_name n) p.1 in
    both_true (continues_name b) (list_all continues_name n) (begins_continues b p.0) q.1

quoted_name_at : (operand : Bool) (n rest : List ℕ) → is_name n ≡ true → lexeme_at operand (96 ∷ (n ++ (96 ∷ rest))) ≡ (Some (tokens.Quoted n), rest)
quoted_name_at operand n rest h = rw (up_to_end n rest (name_continues n h), h) refl

length_behind : (a b : List ℕ) (c : ℕ) → length b ≤ length (a ++ (c ∷ b))
length_behind [] b c = omega arith
length_behind (x ∷ a) b c = omega (arith, length_behind a b c)

ascii_utf8_one : (b : ℕ) → b < 128 → IsUtf8 (b ∷ [])
ascii_utf8_one b h = IsUtf8-from_ascii (b ∷ []) (IsAscii-cons b [] h IsAscii-nil)

-- bytes between two others, which are below 128, as text
enclosed_utf8 : (a b : ℕ) (bytes : List ℕ) → a < 128 → b < 128 → IsUtf8 bytes → IsUtf8 (a ∷ (bytes ++ (b ∷ [])))
enclosed_utf8 a b bytes p q h = IsUtf8-append (a ∷ []) (bytes ++ (b ∷ [])) (ascii_utf8_one a p) (IsUtf8-append bytes (b ∷ []) h (ascii_utf8_one b q))

-- TEXTS

-- what is read of a byte as it is written
escaped_case : (b : ℕ) (bytes : List ℕ) (p0 p10 p13 p26 p39 p92 : Bool) → (b == 0) ≡ p0 → (b == 10) ≡ p10 → (b == 13) ≡ p13 → (b == 26) ≡ p26 → (b == 39) ≡ p39 → (b == 92) ≡ p92
    → text_from 39 Plain (cond p0 (92 ∷ 48 ∷ []) (cond p10 (92 ∷ 110 ∷ []) (cond p13 (92 ∷ 114 ∷ []) (cond p26 (92 ∷ 90 ∷ []) (cond p39 (39 ∷ 39 ∷ []) (cond p92 (92 ∷ 92 ∷ []) (b ∷ [])))))) ++ bytes) ≡ onto b (text_from 39 Plain bytes)
escaped_case b bytes true p10 p13 p26 p39 p92 e0 e10 e13 e26 e39 e92 = let e : b ≡ 0 = grind (arith, nat_tests) in ap (λ c. onto c (text_from 39 Plain bytes)) (sym e)
escaped_case b bytes false true p13 p26 p39 p92 e0 e10 e13 e26 e39 e92 = let e : b ≡ 10 = grind (arith, nat_tests) in ap (λ c. onto c (text_from 39 Plain bytes)) (sym e)
escaped_case b bytes false false true p26 p39 p92 e0 e10 e13 e26 e39 e92 = let e : b ≡ 13 = grind (arith, nat_tests) in ap (λ c. onto c (text_from 39 Plain bytes)) (sym e)
escaped_case b bytes false false false true p39 p92 e0 e10 e13 e26 e39 e92 = let e : b ≡ 26 = grind (arith, nat_tests) in ap (λ c. onto c (text_from 39 Plain bytes)) (sym e)
escaped_case b bytes false false false false true p92 e0 e10 e13 e26 e39 e92 = let e : b ≡ 39 = grind (arith, nat_tests) in ap (λ c. onto c (text_from 39 Plain bytes)) (sym e)
escaped_case b bytes false false false false false true e0 e10 e13 e26 e39 e92 = let e : b ≡ 92 = grind (arith, nat_tests) in ap (λ c. onto c (text_from 39 Plain bytes)) (sym e)
escaped_case b bytes false false false false false false e0 e10 e13 e26 e39 e92 = rw (e39, e92) refl

escaped_is : (b : ℕ) (bytes : List ℕ) → text_from 39 Plain (escaped b ++ bytes) ≡ onto b (text_from 39 Plain bytes)
escaped_is b bytes = escaped_case b bytes (b == 0) (b == 10) (b == 13) (b == 26) (b == 39) (b == 92) refl refl refl refl refl refl

or_false_right : (b c : Bool) → (b || c) ≡ false → c ≡ false
or_false_right true c h = absurd cc
or_false_right false c h = h

closed_text : (rest : List ℕ) → Stops rest → text_from 39 Plain (39 ∷ rest) ≡ Some ([], rest)
closed_text [] h = refl
closed_text (c ∷ rest) h = let other : (c == 39) ≡ false = or_false_right (continues_name c) (c == 39) h in rw other refl

text_read : (t rest : List ℕ) → Stops rest → text_from 39 Plain (flat_map escaped t ++ (39 ∷ rest)) ≡ Some (t, rest)
text_read [] rest h = closed_text rest h
text_read (b ∷ t) rest h =
    ap (text_from 39 Plain) (append_assoc (escaped b) (flat_map escaped t) (39 ∷ rest))
    ∙ escaped_is b (flat_map escaped t ++ (39 ∷ rest))
    ∙ ap (onto b) (text_read t rest h)

-- NUMBERS

-- the digits of a number
own : IsNumeralModel (λ ds. all_ascii_digits ds ≡ true) (value_after 0)
own = numerals_by_fold (λ ds. all_ascii_digits ds ≡ true) (search rules) value_after (search rules)

no_digit : (c : ℕ) → (continues_name c || c == 39) ≡ false → is_ascii_digit c ≡ false
no_digit c h = grind (arith, nat_tests)

digits_run : (ds rest : List ℕ) → all_ascii_digits ds ≡ true → Stops rest → run is_ascii_digit (ds ++ rest) ≡ (ds, rest)
digits_run [] [] h s = refl
digits_run [] (c ∷ rest) h s = rw (no_digit c s) refl
digits_run (d ∷ ds) rest h s =
    let p = and_true (is_ascii_digit d) (all_ascii_digits ds) h in
    rw p.0 (ap (λ (r : List ℕ × List ℕ). (d ∷ r.0, r.1)) (digits_run ds rest p.1 s))

pub record Numeral (n : ℕ) : Type 0 where
  pub first : ℕ
  pub others : List ℕ
  pub is : decimal n ≡ first ∷ others
  pub digits : all_ascii_digits (first ∷ others) ≡ true
  pub value : value_after 0 (first ∷ others) ≡ n
  pub utf8 : IsUtf8 (decimal n)

cut_numeral : (n : ℕ) (ds : List ℕ) → decimal n ≡ ds → 0 < length ds → all_ascii_digits ds ≡ true → value_after 0 ds ≡ n → IsUtf8 (decimal n) → Numeral n
cut_numeral n [] e some digits value utf8 = absurd (omega arith)
cut_numeral n (d ∷ ds) e some digits value utf8 = record { first = d; others = ds; is = e; digits = digits; value = value; utf8 = utf8 }

numeral : (n : ℕ) → n < 10 ^ 64 → Numeral n
numeral n h =
    let k = decimal_is_IsNumeral_wide n h in
    cut_numeral n (decimal n) refl k.0.0 (own.from (decimal n) k.0.1) (own.same (decimal n) k.0.1 ∙ k.1) (IsUtf8-from_ascii (decimal n) (IsAscii-decimal_wide n h))

digit_is : (d : ℕ) → is_ascii_digit d ≡ true → (is_blank d ≡ false) × ((d == 47) ≡ false) × (begins_name d ≡ false)
digit_is d h = (grind (arith, nat_tests), grind (arith, nat_tests), grind (arith, nat_tests))

third_false : {A : Type 0} (p q r s : Bool) (v w x y z : A) → p ≡ false → q ≡ false → r ≡ false → s ≡ true → cond p v (cond q w (cond r x (cond s y z))) ≡ y
third_false false false false true v w x y z a b c d = refl
third_false true q r s v w x y z a b c d = absurd cc
third_false false true r s v w x y z a b c d = absurd cc
third_false false false true s v w x y z a b c d = absurd cc
third_false false false false false v w x y z a b c d = absurd cc

chosen_first : {A : Type 0} (s : Bool) (y z : A) → s ≡ true → cond s y z ≡ y
chosen_first true y z h = refl
chosen_first false y z h = absurd cc

and_left_false : (b c : Bool) → b ≡ false → (b && c) ≡ false
and_left_false true c h = absurd cc
and_left_false false c h = refl

pub length_later : (a b : List ℕ) → length b ≤ length (a ++ b)
length_later [] b = omega arith
length_later (x ∷ a) b = omega (arith, length_later a b)

-- what begins with a digit is read as digits
digit_lexeme : (operand : Bool) (d : ℕ) (bytes : List ℕ) (t : Token) (rest : List ℕ) → is_blank d ≡ false → (d == 47) ≡ false → begins_name d ≡ false → is_ascii_digit d ≡ true
    → ◌≡◌ {A = Token × List ℕ} (digits_token (value_after 0 (run is_ascii_digit (d ∷ bytes)).0), (run is_ascii_digit (d ∷ bytes)).1) (t, rest) → lexeme_at operand (d ∷ bytes) ≡ (Some t, rest)
digit_lexeme operand d bytes t rest blank slash letter digit e =
    third_false (is_blank d) ((d == 47) && starts 42 bytes) (begins_name d) (is_ascii_digit d) (None, bytes) (skipped (comment_at (rest_of bytes))) (seen (word_at (d ∷ bytes))) (seen (digits_at (d ∷ bytes))) (seen (other_at operand d bytes))
    blank (and_left_false (d == 47) (starts 42 bytes) slash) letter digit
    ∙ ap seen e

-- what begins with a minus before a digit, where no operand ends before it, is read as digits with a sign
signed_lexeme : (d : ℕ) (bytes : List ℕ) (t : Token) (rest : List ℕ) → is_ascii_digit d ≡ true
    → ◌≡◌ {A = Option Token × List ℕ} (Some (signed_token true (value_after 0 (run is_ascii_digit (d ∷ bytes)).0)), (run is_ascii_digit (d ∷ bytes)).1) (Some t, rest) → lexeme_at false (45 ∷ (d ∷ bytes)) ≡ (Some t, rest)
signed_lexeme d bytes t rest digit e =
    ap seen (chosen_first (is_ascii_digit d && true) (signed_token true (value_after 0 (run is_ascii_digit (d ∷ bytes)).0), (run is_ascii_digit (d ∷ bytes)).1) (tokens.Fixed Minus, d ∷ bytes) (both_true (is_ascii_digit d) true digit refl)) ∙ e

-- digits before what doesn't go on with them
digits_lexeme : (operand : Bool) (n : ℕ) (d : ℕ) (ds rest : List ℕ) → all_ascii_digits (d ∷ ds) ≡ true → value_after 0 (d ∷ ds) ≡ n → n < 2 ^ 127 → Stops rest → lexeme_at operand (d ∷ (ds ++ rest)) ≡ (Some (tokens.Digits (pos n)), rest)
digits_lexeme operand n d ds rest h v small stops =
    let p = and_true (is_ascii_digit d) (all_ascii_digits ds) h in
    let q = digit_is d p.0 in
    let r : run is_ascii_digit (d ∷ (ds ++ rest)) ≡ (d ∷ ds, rest) = digits_run (d ∷ ds) rest h stops in
    let fits : nat_lt n (2 ^ 127) ≡ true = grind (arith, nat_tests) in
    let token : digits_token (value_after 0 (d ∷ ds)) ≡ tokens.Digits (pos n) = ap digits_token v ∙ (rw fits refl) in
    let read : ◌≡◌ {A = Token × List ℕ} (digits_token (value_after 0 (run is_ascii_digit (d ∷ (ds ++ rest))).0), (run is_ascii_digit (d ∷ (ds ++ rest))).1) (tokens.Digits (pos n), rest) =
    ap (λ (x : List ℕ × List ℕ). (digits_token (value_after 0 x.0), x.1)) r ∙ ap (λ (t : Token). (t, rest)) token in
    digit_lexeme operand d (ds ++ rest) (tokens.Digits (pos n)) rest q.0 q.1 q.2 p.0 read

minus_lexeme : (n : ℕ) (d : ℕ) (ds rest : List ℕ) → all_ascii_digits (d ∷ ds) ≡ true → value_after 0 (d ∷ ds) ≡ suc n → n < 2 ^ 127 → Stops rest → lexeme_at false (45 ∷ (d ∷ (ds ++ rest))) ≡ (Some (tokens.Signed (negsuc n)), rest)
minus_lexeme n d ds rest h v small stops =
    let p = and_true (is_ascii_digit d) (all_ascii_digits ds) h in
    let r : run is_ascii_digit (d ∷ (ds ++ rest)) ≡ (d ∷ ds, rest) = digits_run (d ∷ ds) rest h stops in
    let fits : nat_le (suc n) (2 ^ 127) ≡ true = grind (arith, nat_tests) in
    let token : signed_token true (value_after 0 (d ∷ ds)) ≡ tokens.Signed (negsuc n) = ap (signed_token true) v ∙ (rw fits refl) in
    let read : ◌≡◌ {A = Option Token × List ℕ} (Some (signed_token true (value_after 0 (run is_ascii_digit (d ∷ (ds ++ rest))).0)), (run is_ascii_digit (d ∷ (ds ++ rest))).1) (Some (tokens.Signed (negsuc n)), rest) =
    ap (λ (x : List ℕ × List ℕ). (Some (signed_token true (value_after 0 x.0)), x.1)) r ∙ ap (λ (t : Token). (Some t, rest)) token in
    signed_lexeme d (ds ++ rest) (tokens.Signed (negsuc n)) rest p.0 read

-- KEYWORDS AND SYMBOLS

-- each byte is below 128
abbrev pub is_plain : List ℕ → Bool
is_plain bytes = list_all (λ b. nat_lt b 128) bytes

plain_ascii : (bytes : List ℕ) → is_plain bytes ≡ true → IsAscii bytes
plain_ascii [] h = IsAscii-nil
plain_ascii (b ∷ bytes) h =
    let p = and_true (nat_lt b 128) (is_plain bytes) h in
    let below : b < 128 = grind (arith, nat_tests) in
    IsAscii-cons b bytes below (plain_ascii bytes p.1)

pub plain_utf8 : (bytes : List ℕ) → is_plain bytes ≡ true → IsUtf8 bytes
plain_utf8 bytes h = IsUtf8-from_ascii bytes (plain_ascii bytes h)

no_letter : (c : ℕ) → (continues_name c || c == 39) ≡ false → continues_name c ≡ false
no_letter c h = grind (arith, nat_tests)

word_run : (w rest : List ℕ) → list_all continues_name w ≡ true → Stops rest → run continues_name (w ++ rest) ≡ (w, rest)
word_run [] [] h s = refl
word_run [] (c ∷ rest) h s = rw (no_letter c s) refl
word_run (c ∷ w) rest h s =
    let p = and_true (continues_name c) (list_all continues_name w) h in
    rw p.0 (ap (λ (r : List ℕ × List ℕ). (c ∷ r.0, r.1)) (word_run w rest p.1 s))

-- a keyword before what doesn't go on with it
keyword_at : (w rest : List ℕ) (f : Fixed) → list_all continues_name w ≡ true → keyword_of w ≡ Some f → Stops rest → word_at (w ++ rest) ≡ (tokens.Fixed f, rest)
keyword_at w rest f h k s =
    ap (λ (r : List ℕ × List ℕ). (word_token (keyword_of r.0) r.0, r.1)) (word_run w rest h s) ∙ ap (λ (o : Option Fixed). (word_token o w, rest)) k

-- a word that is no keyword before what doesn't go on with it
pub bare_at : (w rest : List ℕ) → list_all continues_name w ≡ true → keyword_of w ≡ None → is_name w ≡ true → Stops rest → word_at (w ++ rest) ≡ (tokens.Bare w, rest)
bare_at w rest h k n s =
    ap (λ (r : List ℕ × List ℕ). (word_token (keyword_of r.0) r.0, r.1)) (word_run w rest h s) ∙ ap (λ (o : Option Fixed). (word_token o w, rest)) k ∙ (rw n refl)

-- the variable before what doesn't go on with it
variable_lexeme : (operand : Bool) (rest : List ℕ) → Stops rest → lexeme_at operand (64 ∷ (codes "@version_comment" ++ rest)) ≡ (Some (tokens.Fixed VersionComment), rest)
variable_lexeme operand rest stops = ap (λ (r : List ℕ × List ℕ). seen (variable_token r.0, r.1)) (word_run (codes "version_comment") rest refl stops)

-- PARTS OF A TEXT

-- a token that is no bad one
abbrev pub is_good : Token → Bool
is_good t = not (is_bad t)

good_case : (b : Bool) → not b ≡ true → b ≡ false
good_case true h = absurd cc
good_case false h = refl

pub good_is : (t : Token) → is_good t ≡ true → is_bad t ≡ false
good_is t h = good_case (is_bad t) h

-- a change that leaves all but bare names as they are
pub record Fixes (change : Token → Token) : Type 0 where
  pub fixed : (f : Fixed) → change (tokens.Fixed f) ≡ tokens.Fixed f
  pub quoted : (n : List ℕ) → change (tokens.Quoted n) ≡ tokens.Quoted n
  pub digits : (z : ℤ) → change (tokens.Digits z) ≡ tokens.Digits z
  pub signed : (z : ℤ) → change (tokens.Signed z) ≡ tokens.Signed z
  pub text : (t : List ℕ) → change (tokens.Text t) ≡ tokens.Text t

module _ (change : Token → Token) (fixes : Fixes change) where
  pub name_atom : (operand : Bool) (n : List ℕ) → is_name n ≡ true → (AtomAt change) operand (name_text n) (tokens.Quoted n ∷ [])
  name_atom operand n h = record {
    reads = λ rest more stops again.
        let e : lexeme_at operand (96 ∷ ((n ++ (96 ∷ [])) ++ rest)) ≡ (Some (tokens.Quoted n), rest) = ap (λ (l : List ℕ). lexeme_at operand (96 ∷ l)) (append_assoc n (96 ∷ []) rest) ∙ quoted_name_at operand n rest h in
        let l : length rest ≤ length ((n ++ (96 ∷ [])) ++ rest) = subst (λ (s : List ℕ). length rest ≤ length s) (sym (append_assoc n (96 ∷ []) rest)) (length_behind n rest 96) in
        has_symbol change (apart_from operand) 96 ((n ++ (96 ∷ [])) ++ rest) (tokens.Quoted n) (tokens.Quoted n) true rest more (fixes.quoted n) refl e refl refl l (again (apart_from true));
    utf8 = enclosed_utf8 96 96 n (omega arith) (omega arith) (name_utf8 n h);
  }

  pub text_atom : (operand : Bool) (t : List ℕ) → IsUtf8 t → IsUtf8 (flat_map escaped t) → (AtomAt change) operand (quoted t) (tokens.Text t ∷ [])
  text_atom operand t u v = record {
    reads = λ rest more stops again.
        let e : lexeme_at operand (39 ∷ ((flat_map escaped t ++ (39 ∷ [])) ++ rest)) ≡ (Some (tokens.Text t), rest) =
        ap (λ (l : List ℕ). lexeme_at operand (39 ∷ l)) (append_assoc (flat_map escaped t) (39 ∷ []) rest) ∙ (rw (text_read t rest stops, utf8_lossy-IsUtf8 t u) refl) in
        let l : length rest ≤ length ((flat_map escaped t ++ (39 ∷ [])) ++ rest) = subst (λ (s : List ℕ). length rest ≤ length s) (sym (append_assoc (flat_map escaped t) (39 ∷ []) rest)) (length_behind (flat_map escaped t) rest 39) in
        has_symbol change (apart_from operand) 39 ((flat_map escaped t ++ (39 ∷ [])) ++ rest) (tokens.Text t) (tokens.Text t) true rest more (fixes.text t) refl e refl refl l (again (apart_from true));
    utf8 = enclosed_utf8 39 39 (flat_map escaped t) (omega arith) (omega arith) v;
  }

  pub digits_atom : (operand : Bool) (n : ℕ) → n < 2 ^ 127 → (AtomAt change) operand (signed_decimal (pos n)) (tokens.Digits (pos n) ∷ [])
  digits_atom operand n small =
      let k = numeral n (omega arith) in
      record {
        reads = λ rest more stops again.
            let e = digits_lexeme operand n k.first k.others rest k.digits k.value small stops in
            subst (λ (l : List ℕ). Has change (apart_from operand) (l ++ rest) (tokens.Digits (pos n) ∷ more)) (sym k.is)
            (has_token change (apart_from operand) k.first (k.others ++ rest) (tokens.Digits (pos n)) (tokens.Digits (pos n)) true rest more (fixes.digits (pos n)) refl e refl refl (length_later k.others rest)
            (again (behind_token k.first true)));
        utf8 = k.utf8;
      }

  pub minus_atom : (n : ℕ) → n < 2 ^ 127 → (Atom change) (signed_decimal (negsuc n)) (tokens.Signed (negsuc n) ∷ [])
  minus_atom n small =
      let k = numeral (suc n) (omega arith) in
      record {
        reads = λ rest more stops again.
            let e = minus_lexeme n k.first k.others rest k.digits k.value small stops in
            subst (λ (l : List ℕ). Has change (apart_from false) (45 ∷ (l ++ rest)) (tokens.Signed (negsuc n) ∷ more)) (sym k.is)
            (has_symbol change (apart_from false) 45 (k.first ∷ (k.others ++ rest)) (tokens.Signed (negsuc n)) (tokens.Signed (negsuc n)) true rest more (fixes.signed (negsuc n)) refl e refl refl (omega (arith, length_later k.others rest))
            (again (apart_from true)));
        utf8 = IsUtf8-append (45 ∷ []) (decimal (suc n)) (ascii_utf8_one 45 (omega arith)) k.utf8;
      }

  -- a keyword before what doesn't go on with it
  pub word_atom : (operand : Bool) (c : ℕ) (cs : List ℕ) (f : Fixed) → ((rest : List ℕ) → Stops rest → lexeme_at operand (c ∷ (cs ++ rest)) ≡ (Some (tokens.Fixed f), rest)) → is_plain (c ∷ cs) ≡ true
      → (AtomAt change) operand (c ∷ cs) (tokens.Fixed f ∷ [])
  word_atom operand c cs f e u = record {
    reads = λ rest more stops again.
        has_token change (apart_from operand) c (cs ++ rest) (tokens.Fixed f) (tokens.Fixed f) (ends_operand (tokens.Fixed f)) rest more (fixes.fixed f) refl (e rest stops) refl refl (length_later cs rest)
        (again (behind_token c (ends_operand (tokens.Fixed f))));
    utf8 = plain_utf8 (c ∷ cs) u;
  }

  pub null_atom : (Atom change) (codes "NULL") (tokens.Fixed Null ∷ [])
  null_atom = word_atom false 78 (codes "ULL") Null (λ rest stops. ap seen (keyword_at (codes "NULL") rest Null refl refl stops)) refl

  pub negation_suffix : (Suffix change) (codes " NOT") (tokens.Fixed Not ∷ [])
  negation_suffix = record {
    reads = λ before rest more stops again.
        has_blank change before (78 ∷ 79 ∷ 84 ∷ rest) (tokens.Fixed Not ∷ more)
        ((word_atom before.operand 78 (codes "OT") Not (λ rest stops. ap seen (keyword_at (codes "NOT") rest Not refl refl stops)) refl).reads rest more stops again);
    stops = λ rest h. refl;
    utf8 = plain_utf8 (codes " NOT") refl;
  }

  -- a keyword or symbol with a blank on each side
  pub spaced : (c : ℕ) (cs : List ℕ) (f : Fixed) → ((operand : Bool) (rest : List ℕ) → lexeme_at operand (c ∷ (cs ++ (32 ∷ rest))) ≡ (Some (tokens.Fixed f), 32 ∷ rest)) → ends_operand (tokens.Fixed f) ≡ false
      → is_plain (32 ∷ (c ∷ (cs ++ (32 ∷ [])))) ≡ true → (Separator change) (32 ∷ (c ∷ (cs ++ (32 ∷ [])))) (tokens.Fixed f ∷ [])
  spaced c cs f e ends u = record {
    reads = λ before rest more again.
        subst (λ (l : List ℕ). Has change before (32 ∷ (c ∷ l)) (tokens.Fixed f ∷ more)) (sym (append_assoc cs (32 ∷ []) rest))
        (has_blank change before (c ∷ (cs ++ (32 ∷ rest))) (tokens.Fixed f ∷ more)
        (has_token change (apart_from before.operand) c (cs ++ (32 ∷ rest)) (tokens.Fixed f) (tokens.Fixed f) false (32 ∷ rest) more (fixes.fixed f) refl (e before.operand rest) refl ends (length_later cs (32 ∷ rest))
        (has_blank change (behind_token c false) rest more again)));
    stops = λ rest. refl;
    utf8 = plain_utf8 (32 ∷ (c ∷ (cs ++ (32 ∷ [])))) u;
  }

  -- one symbol
  pub symbol : (c : ℕ) (f : Fixed) (ends : Bool) → begins_word c ≡ false → (continues_name c || c == 39) ≡ false → ((operand : Bool) (rest : List ℕ) → lexeme_at operand (c ∷ rest) ≡ (Some (tokens.Fixed f), rest)) → ends_operand (tokens.Fixed f) ≡ ends
      → is_plain (c ∷ []) ≡ true → (SeparatorAt change) ends (c ∷ []) (tokens.Fixed f ∷ [])
  symbol c f ends other stops e is u = record {
    reads = λ before rest more again. has_symbol change before c rest (tokens.Fixed f) (tokens.Fixed f) ends rest more (fixes.fixed f) other (e before.operand rest) refl is (omega arith) again;
    stops = λ rest. stops;
    utf8 = plain_utf8 (c ∷ []) u;
  }

  pub open_symbol : (Separator change) (codes "(") (tokens.Fixed Open ∷ [])
  open_symbol = symbol 40 Open false refl refl (λ operand rest. refl) refl refl

  pub close_symbol : (SeparatorAt change) true (codes ")") (tokens.Fixed Close ∷ [])
  close_symbol = symbol 41 Close true refl refl (λ operand rest. refl) refl refl

  pub comma_symbol : (Separator change) (codes ",") (tokens.Fixed Comma ∷ [])
  comma_symbol = symbol 44 Comma false refl refl (λ operand rest. refl) refl refl

  pub dot_symbol : (Separator change) (codes ".") (tokens.Fixed Dot ∷ [])
  dot_symbol = symbol 46 Dot false refl refl (λ operand rest. refl) refl refl

  pub star_symbol : (Separator change) (codes "*") (tokens.Fixed Star ∷ [])
  star_symbol = symbol 42 Star false refl refl (λ operand rest. refl) refl refl

  -- a symbol and a blank behind it, and a symbol and a blank before it
  pub spaced_comma : (Separator change) (codes ", ") (tokens.Fixed Comma ∷ [])
  spaced_comma = record {
    reads = λ before rest more again.
        has_symbol change before 44 (32 ∷ rest) (tokens.Fixed Comma) (tokens.Fixed Comma) false (32 ∷ rest) more (fixes.fixed Comma) refl refl refl refl (omega arith) (has_blank change (apart_from false) rest more again);
    stops = λ rest. refl;
    utf8 = plain_utf8 (codes ", ") refl;
  }

  pub spaced_open : (Separator change) (codes " (") (tokens.Fixed Open ∷ [])
  spaced_open = record {
    reads = λ before rest more again. has_blank change before (40 ∷ rest) (tokens.Fixed Open ∷ more) (open_symbol.reads (apart_from before.operand) rest more again);
    stops = λ rest. refl;
    utf8 = plain_utf8 (codes " (") refl;
  }

  pub in_text : (Separator change) (codes " IN (") (tokens.Fixed In ∷ tokens.Fixed Open ∷ [])
  in_text = record {
    reads = λ before rest more again.
        has_blank change before (73 ∷ 78 ∷ 32 ∷ 40 ∷ rest) (tokens.Fixed In ∷ tokens.Fixed Open ∷ more)
        (has_token change (apart_from before.operand) 73 (78 ∷ 32 ∷ 40 ∷ rest) (tokens.Fixed In) (tokens.Fixed In) false (32 ∷ 40 ∷ rest) (tokens.Fixed Open ∷ more) (fixes.fixed In) refl refl refl refl (omega arith)
        (spaced_open.reads (behind_token 73 false) rest more again));
    stops = λ rest. refl;
    utf8 = plain_utf8 (codes " IN (") refl;
  }

  -- a keyword and a blank behind it
  pub leading : {operand : Bool} (c : ℕ) (cs : List ℕ) (f : Fixed) → ((operand : Bool) (rest : List ℕ) → lexeme_at operand (c ∷ (cs ++ (32 ∷ rest))) ≡ (Some (tokens.Fixed f), 32 ∷ rest)) → ends_operand (tokens.Fixed f) ≡ false
      → is_plain (c ∷ (cs ++ (32 ∷ []))) ≡ true → (PrefixAt change) operand false (c ∷ (cs ++ (32 ∷ []))) (tokens.Fixed f ∷ [])
  leading {operand} c cs f e ends u = record {
    reads = λ rest more again.
        subst (λ (l : List ℕ). Has change (apart_from operand) (c ∷ l) (tokens.Fixed f ∷ more)) (sym (append_assoc cs (32 ∷ []) rest))
        (has_token change (apart_from operand) c (cs ++ (32 ∷ rest)) (tokens.Fixed f) (tokens.Fixed f) false (32 ∷ rest) more (fixes.fixed f) refl (e operand rest) refl ends (length_later cs (32 ∷ rest))
        (has_blank change (behind_token c false) rest more again));
    utf8 = plain_utf8 (c ∷ (cs ++ (32 ∷ []))) u;
  }

  pub not_prefix : (Prefix change) (codes "NOT ") (tokens.Fixed Not ∷ [])
  not_prefix = leading 78 (79 ∷ 84 ∷ []) Not (λ operand rest. refl) refl refl

  pub select_prefix : (Prefix change) (codes "SELECT ") (tokens.Fixed Select ∷ [])
  select_prefix = leading 83 (codes "ELECT") Select (λ operand rest. refl) refl refl

  pub into_prefix : (operand : Bool) → (PrefixAt change) operand false (codes "INTO ") (tokens.Fixed Into ∷ [])
  into_prefix operand = leading {operand = operand} 73 (codes "NTO") Into (λ _ rest. refl) refl refl

  pub insert_prefix : (Prefix change) (codes "INSERT INTO ") (tokens.Fixed Insert ∷ tokens.Fixed Into ∷ [])
  insert_prefix =
      (prefix_prefix change) (codes "INSERT ") (codes "INTO ") (tokens.Fixed Insert ∷ []) (tokens.Fixed Into ∷ [])
      (leading {operand = false} 73 (codes "NSERT") Insert (λ operand rest. refl) refl refl) (into_prefix false)

  pub delete_prefix : (Prefix change) (codes "DELETE FROM ") (tokens.Fixed Delete ∷ tokens.Fixed From ∷ [])
  delete_prefix =
      (prefix_prefix change) (codes "DELETE ") (codes "FROM ") (tokens.Fixed Delete ∷ []) (tokens.Fixed From ∷ [])
      (leading {operand = false} 68 (codes "ELETE") Delete (λ operand rest. refl) refl refl) (leading {operand = false} 70 (codes "ROM") From (λ operand rest. refl) refl refl)

  pub update_prefix : (Prefix change) (codes "UPDATE ") (tokens.Fixed Update ∷ [])
  update_prefix = leading 85 (codes "PDATE") Update (λ operand rest. refl) refl refl

  pub minus_prefix : (Prefix change) (codes "- ") (tokens.Fixed Minus ∷ [])
  minus_prefix = leading 45 [] Minus (λ operand rest. refl) refl refl

  pub and_text : (Separator change) (codes " AND ") (tokens.Fixed And ∷ [])
  and_text = spaced 65 (codes "ND") And (λ operand rest. refl) refl refl

  pub or_text : (Separator change) (codes " OR ") (tokens.Fixed Or ∷ [])
  or_text = spaced 79 (codes "R") Or (λ operand rest. refl) refl refl

  pub between_text : (Separator change) (codes " BETWEEN ") (tokens.Fixed Between ∷ [])
  between_text = spaced 66 (codes "ETWEEN") Between (λ operand rest. refl) refl refl

  pub as_text : (Separator change) (codes " AS ") (tokens.Fixed As ∷ [])
  as_text = spaced 65 (codes "S") As (λ operand rest. refl) refl refl

  pub where_text : (Separator change) (codes " WHERE ") (tokens.Fixed Where ∷ [])
  where_text = spaced 87 (codes "HERE") Where (λ operand rest. refl) refl refl

  pub values_text : (Separator change) (codes " VALUES ") (tokens.Fixed Values ∷ [])
  values_text = spaced 86 (codes "ALUES") Values (λ operand rest. refl) refl refl

  pub from_text : (Separator change) (codes " FROM ") (tokens.Fixed From ∷ [])
  from_text = spaced 70 (codes "ROM") From (λ operand rest. refl) refl refl

  pub set_text : (Separator change) (codes " SET ") (tokens.Fixed Set ∷ [])
  set_text = spaced 83 (codes "ET") Set (λ operand rest. refl) refl refl

  pub equal_text : (Separator change) (codes " = ") (tokens.Fixed Equal ∷ [])
  equal_text = spaced 61 [] Equal (λ operand rest. refl) refl refl

  pub plus_text : (Separator change) (codes " + ") (tokens.Fixed Plus ∷ [])
  plus_text = spaced 43 [] Plus (λ operand rest. refl) refl refl

  pub minus_text : (Separator change) (codes " - ") (tokens.Fixed Minus ∷ [])
  minus_text = spaced 45 [] Minus (λ operand rest. refl) refl refl

  pub times_text : (Separator change) (codes " * ") (tokens.Fixed Star ∷ [])
  times_text = spaced 42 [] Star (λ operand rest. refl) refl refl

  pub comparison_sign : (c : Comparison) → (f : Fixed) × (comparison_of (tokens.Fixed f) ≡ Some c) × (Separator change) (comparison_text c) (tokens.Fixed f ∷ [])
  comparison_sign comparisons.Equal = (Equal, refl, equal_text)
  comparison_sign comparisons.NotEqual = (NotEqual, refl, spaced 60 (62 ∷ []) NotEqual (λ operand rest. refl) refl refl)
  comparison_sign comparisons.Less = (Less, refl, spaced 60 [] Less (λ operand rest. refl) refl refl)
  comparison_sign comparisons.AtMost = (AtMost, refl, spaced 60 (61 ∷ []) AtMost (λ operand rest. refl) refl refl)
  comparison_sign comparisons.Greater = (Greater, refl, spaced 62 [] Greater (λ operand rest. refl) refl refl)
  comparison_sign comparisons.AtLeast = (AtLeast, refl, spaced 62 (61 ∷ []) AtLeast (λ operand rest. refl) refl refl)

  -- THE WORDS OF ORDER BY AND LIMIT

  pub order_by : (Separator change) (codes " ORDER BY ") (tokens.Fixed Order ∷ tokens.Fixed By ∷ [])
  order_by =
      (separator_prefix change) (codes " ORDER ") (codes "BY ") (tokens.Fixed Order ∷ []) (tokens.Fixed By ∷ [])
      (spaced 79 (codes "RDER") Order (λ operand rest. refl) refl refl)
      (leading {operand = false} 66 (codes "Y") By (λ operand rest. refl) refl refl)

  pub falling : (Suffix change) (codes " DESC") (tokens.Fixed Desc ∷ [])
  falling = record {
    reads = λ before rest more stops again.
        has_blank change before (68 ∷ 69 ∷ 83 ∷ 67 ∷ rest) (tokens.Fixed Desc ∷ more)
        ((word_atom before.operand 68 (codes "ESC") Desc (λ rest stops. ap seen (keyword_at (codes "DESC") rest Desc refl refl stops)) refl).reads rest more stops again);
    stops = λ rest h. refl;
    utf8 = plain_utf8 (codes " DESC") refl;
  }

  pub limit_word : (Separator change) (codes " LIMIT ") (tokens.Fixed Limit ∷ [])
  limit_word = spaced 76 (codes "IMIT") Limit (λ operand rest. refl) refl refl

  pub offset_word : (Separator change) (codes " OFFSET ") (tokens.Fixed Offset ∷ [])
  offset_word = spaced 79 (codes "FFSET") Offset (λ operand rest. refl) refl refl

  -- THE WORDS OF AGGREGATES

  -- a word and the parenthesis behind it
  opened_word : (c : ℕ) (cs : List ℕ) (f : Fixed) → ((rest : List ℕ) → lexeme_at false (c ∷ (cs ++ (40 ∷ rest))) ≡ (Some (tokens.Fixed f), 40 ∷ rest)) → ends_operand (tokens.Fixed f) ≡ false → is_plain (c ∷ (cs ++ (40 ∷ []))) ≡ true
      → (Prefix change) (c ∷ (cs ++ (40 ∷ []))) (tokens.Fixed f ∷ tokens.Fixed Open ∷ [])
  opened_word c cs f e ends u = record {
    reads = λ rest more again.
        let opened : Has change (behind_token c false) (40 ∷ rest) (tokens.Fixed Open ∷ more) = open_symbol.reads (behind_token c false) rest more again in
        subst (λ (l : List ℕ). Has change (apart_from false) (c ∷ l) (tokens.Fixed f ∷ tokens.Fixed Open ∷ more)) (sym (append_assoc cs (40 ∷ []) rest))
        (has_token change (apart_from false) c (cs ++ (40 ∷ rest)) (tokens.Fixed f) (tokens.Fixed f) false (40 ∷ rest) (tokens.Fixed Open ∷ more) (fixes.fixed f) refl (e rest) refl ends (length_later cs (40 ∷ rest)) opened);
    utf8 = plain_utf8 (c ∷ (cs ++ (40 ∷ []))) u;
  }

  pub count_open : (Prefix change) (codes "COUNT(") (tokens.Fixed Count ∷ tokens.Fixed Open ∷ [])
  count_open = opened_word 67 (codes "OUNT") Count (λ rest. refl) refl refl

  pub sum_open : (Prefix change) (codes "SUM(") (tokens.Fixed Sum ∷ tokens.Fixed Open ∷ [])
  sum_open = opened_word 83 (codes "UM") Sum (λ rest. refl) refl refl

  pub min_open : (Prefix change) (codes "MIN(") (tokens.Fixed Min ∷ tokens.Fixed Open ∷ [])
  min_open = opened_word 77 (codes "IN") Min (λ rest. refl) refl refl

  pub max_open : (Prefix change) (codes "MAX(") (tokens.Fixed Max ∷ tokens.Fixed Open ∷ [])
  max_open = opened_word 77 (codes "AX") Max (λ rest. refl) refl refl

  -- THE WORDS OF ADMINISTRATION

  show_prefix : (Prefix change) (codes "SHOW ") (tokens.Fixed Show ∷ [])
  show_prefix = leading 83 (codes "HOW") Show (λ operand rest. refl) refl refl

  pub show_tables : (Atom change) (codes "SHOW TABLES") (tokens.Fixed Show ∷ tokens.Fixed Tables ∷ [])
  show_tables =
      (prefix_atom change) (codes "SHOW ") (codes "TABLES") (tokens.Fixed Show ∷ []) (tokens.Fixed Tables ∷ []) show_prefix
      (word_atom false 84 (codes "ABLES") Tables (λ rest stops. ap seen (keyword_at (codes "TABLES") rest Tables refl refl stops)) refl)

  pub show_databases : (Atom change) (codes "SHOW DATABASES") (tokens.Fixed Show ∷ tokens.Fixed Databases ∷ [])
  show_databases =
      (prefix_atom change) (codes "SHOW ") (codes "DATABASES") (tokens.Fixed Show ∷ []) (tokens.Fixed Databases ∷ []) show_prefix
      (word_atom false 68 (codes "ATABASES") Databases (λ rest stops. ap seen (keyword_at (codes "DATABASES") rest Databases refl refl stops)) refl)

  pub version_comment : (Atom change) (codes "SELECT @@version_comment") (tokens.Fixed Select ∷ tokens.Fixed VersionComment ∷ [])
  version_comment =
      (prefix_atom change) (codes "SELECT ") (codes "@@version_comment") (tokens.Fixed Select ∷ []) (tokens.Fixed VersionComment ∷ []) select_prefix
      (word_atom false 64 (codes "@version_comment") VersionComment (λ rest stops. variable_lexeme false rest stops) refl)

  pub database_call : (Atom change) (codes "SELECT DATABASE()") (tokens.Fixed Select ∷ tokens.Fixed Database ∷ tokens.Fixed Open ∷ tokens.Fixed Close ∷ [])
  database_call =
      (prefix_atom change) (codes "SELECT ") (codes "DATABASE()") (tokens.Fixed Select ∷ []) (tokens.Fixed Database ∷ tokens.Fixed Open ∷ tokens.Fixed Close ∷ []) select_prefix
      ((prefix_atom change) (codes "DATABASE(") (codes ")") (tokens.Fixed Database ∷ tokens.Fixed Open ∷ []) (tokens.Fixed Close ∷ [])
      (opened_word 68 (codes "ATABASE") Database (λ rest. refl) refl refl)
      ((separator_alone change) (codes ")") (tokens.Fixed Close ∷ []) close_symbol))

  -- THE WORDS OF LOCKS

  pub share_mode : (Suffix change) (codes " LOCK IN SHARE MODE") (tokens.Fixed Lock ∷ tokens.Fixed In ∷ tokens.Fixed Share ∷ tokens.Fixed Mode ∷ [])
  share_mode =
      (separator_atom change) (codes " LOCK ") (codes "IN SHARE MODE") (tokens.Fixed Lock ∷ []) (tokens.Fixed In ∷ tokens.Fixed Share ∷ tokens.Fixed Mode ∷ [])
      (spaced 76 (codes "OCK") Lock (λ operand rest. refl) refl refl)
      ((prefix_atom change) (codes "IN ") (codes "SHARE MODE") (tokens.Fixed In ∷ []) (tokens.Fixed Share ∷ tokens.Fixed Mode ∷ [])
      (leading {operand = false} 73 (codes "N") In (λ operand rest. refl) refl refl)
      ((prefix_atom change) (codes "SHARE ") (codes "MODE") (tokens.Fixed Share ∷ []) (tokens.Fixed Mode ∷ [])
      (leading {operand = false} 83 (codes "HARE") Share (λ operand rest. refl) refl refl)
      (word_atom false 77 (codes "ODE") Mode (λ rest stops. ap seen (keyword_at (codes "MODE") rest Mode refl refl stops)) refl)))

  pub for_update : (Suffix change) (codes " FOR UPDATE") (tokens.Fixed For ∷ tokens.Fixed Update ∷ [])
  for_update =
      (separator_atom change) (codes " FOR ") (codes "UPDATE") (tokens.Fixed For ∷ []) (tokens.Fixed Update ∷ [])
      (spaced 70 (codes "OR") For (λ operand rest. refl) refl refl)
      (word_atom false 85 (codes "PDATE") Update (λ rest stops. ap seen (keyword_at (codes "UPDATE") rest Update refl refl stops)) refl)

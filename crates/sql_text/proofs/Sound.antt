-- The tokens of a text have values that have a text: names are names, numbers fit, texts are UTF-8.
use Rattle.std.proofs.Common.{◌≡◌, ℕ, ℤ, pos, negsuc, neg_ℤ, zero, suc, ◌+◌, ◌<◌, ◌≤◌, ◌^◌, map, List, [], ◌∷◌, ◌++◌, length, take, drop, slice_index, length-drop, get_or, Bool, true, false, cond, Option, Some, None, refl, sym, ap, subst, ◌∙◌, append-nil, arith, inl, inr, codes}
use Rattle.std.specs.Prelude.{◌==◌, ◌&&◌, ◌||◌, not, nat_lt, nat_le}
use Rattle.std.specs.Int.{is_in_range}
use Rattle.std.specs.Option.{unwrap_or}
use Rattle.std.specs.List.{flat_map}
use Rattle.std.specs.Str.{IsUtf8, is_utf8}
use Rattle.std.specs.Str.Lossy.{utf8_lossy, utf8_valid_len, valid_len_up_to, after_first_chunk, replacement_bytes, utf8_error_len, utf8_invalid_len, error_len_of_some, error_len_after_one, error_len_after_two, second_byte_min, second_byte_max}
use Rattle.std.specs.Char.{is_ascii_digit}
use Rattle.std.proofs.lemmas.List.{map-append}
use Rattle.std.proofs.lemmas.Grind.{flat_map-append}
use Rattle.std.proofs.lemmas.Bool.{and_parts, cases_lt, cases_eq}
use Rattle.std.proofs.lemmas.Bool.Decides.{nat_tests}
use Rattle.std.proofs.lemmas.Str.{IsUtf8-append, IsUtf8-nil, IsUtf8-encode, IsUtf8-from_is_utf8, encode_ascii, inside_one, utf8_lossy-IsUtf8, utf8_lossy_step, utf8_valid_len_le}
use lib.Utf8.{scalar, scalars, encode, encodes}
use Rattle.sql_values.specs.Names.{is_name, begins_name, continues_name}
use Rattle.sql_text.specs.declared.token.Fixed.{Fixed}
use Rattle.sql_text.specs.declared.token.Fixed.TheVariants.{VersionComment, Open, Close, Comma, Dot, Star, Semicolon, Equal, NotEqual, Less, AtMost, Greater, AtLeast}
use Rattle.sql_text.specs.declared.token.Before.{Before}
use Rattle.sql_text.specs.declared.token.Token.{Token}
use Rattle.sql_text.specs.declared.token.Token.TheVariants as tokens
use Rattle.sql_text.specs.Tokens.{run, value_after, word_token, keyword_of, word_at, digits_token, signed_token, sign_token, digits_at, signed_at, Plain, text_from, text_at, up_to, quoted_at, variable_token, variable_at, is_word, begins_word, starts, rest_of, symbol_at, is_blank, comment_at, skipped, seen, other_at, lexeme_at, Placed, Step, placed, step_at, onward, tokens_within, at_start, placed_tokens, tokens_of}
use Rattle.sql_text.specs.Printing.{escaped}
use Rattle.sql_text.proofs.Lexemes.{is_plain, plain_utf8}

-- ESCAPES ARE UTF-8

-- the escapes of the bytes below n are below 128
abbrev escapes_below : ℕ → Bool
escapes_below zero = true
escapes_below (suc n) = is_plain (escaped n) && escapes_below n

escape_below : (n : ℕ) → escapes_below n ≡ true → (x : ℕ) → x < n → is_plain (escaped x) ≡ true
escape_below zero e x h = absurd (omega arith)
escape_below (suc n) e x h =
    let p = and_parts _ _ e in
    elim (cases_eq x n) [ inl same ↦ rw same p.0 | inr other ↦ escape_below n p.1 x (omega arith) ]

all_below : escapes_below 128 ≡ true
all_below = refl

escaped_high : (b : ℕ) → 128 ≤ b → escaped b ≡ b ∷ []
escaped_high b h = grind (arith, nat_tests)

escape_high : (xs : List ℕ) → ((k : ℕ) → k < length xs → 128 ≤ get_or xs k 0) → flat_map escaped xs ≡ xs
escape_high [] h = refl
escape_high (x ∷ xs) h =
    let high : 128 ≤ x = h 0 (omega arith) in
    ap (λ (a : List ℕ). a ++ flat_map escaped xs) (escaped_high x high) ∙ ap (λ (b : List ℕ). x ∷ b) (escape_high xs (λ k below. h (suc k) (omega arith)))

one_char : (c : ℕ) → scalar c ≡ true → IsUtf8 (flat_map escaped (encode c))
one_char c ok = elim (cases_lt c 128) [
  | inl small ↦ rw (encode_ascii c small, append-nil) (plain_utf8 (escaped c) (escape_below 128 all_below c small))
  | inr big ↦
      let high : (k : ℕ) → k < length (encode c) → 128 ≤ get_or (encode c) k 0 = λ k below. elim (cases_lt (get_or (encode c) k 0) 128) [
        | inl low ↦ absurd (omega (arith, inside_one c [] (encode c) k (sym (append-nil _)) below low))
        | inr h ↦ h
      ] in
      subst IsUtf8 (sym (escape_high (encode c) high)) (IsUtf8-encode c ok)
]

all_chars : (cs : List ℕ) → scalars cs ≡ true → IsUtf8 (flat_map escaped (encodes cs))
all_chars [] e = IsUtf8-nil
all_chars (c ∷ cs) e =
    let p = and_parts _ _ e in
    subst IsUtf8 (sym (flat_map-append escaped (encode c) (encodes cs))) (IsUtf8-append _ _ (one_char c p.0) (all_chars cs p.1))

-- a text with its escapes is text
pub escapes_utf8 : (t : List ℕ) → IsUtf8 t → IsUtf8 (flat_map escaped t)
escapes_utf8 t u = subst (λ (l : List ℕ). IsUtf8 (flat_map escaped l)) u.1.1 (all_chars u.0 u.1.0)

-- WITH WRONG BYTES REPLACED IT IS TEXT

valid_front : (bs : List ℕ) (m : ℕ) → IsUtf8 (take (valid_len_up_to bs m) bs)
valid_front bs zero = IsUtf8-nil
valid_front bs (suc m) =
    (elim (is_utf8 (take (suc m) bs)) as (λ v. is_utf8 (take (suc m) bs) ≡ v → IsUtf8 (take (cond v (suc m) (valid_len_up_to bs m)) bs)) [
      | true ↦ λ e. IsUtf8-from_is_utf8 (take (suc m) bs) e
      | false ↦ λ e. valid_front bs m
    ]) refl

front_utf8 : (bs : List ℕ) → IsUtf8 (take (utf8_valid_len bs) bs)
unfolding utf8_valid_len
front_utf8 bs = valid_front bs (length bs)

take_all : (bs : List ℕ) → take (length bs) bs ≡ bs
take_all [] = refl
take_all (b ∷ bs) = ap (λ (l : List ℕ). b ∷ l) (take_all bs)

either : {A : Type 0} (P : A → Type 0) (b : Bool) (x y : A) → P x → P y → P (cond b x y)
either P true x y h k = h
either P false x y h k = k

-- wrong bytes are some, where there are any
some_wrong : (bs : List ℕ) → 0 < length bs → 0 < utf8_invalid_len bs
unfolding utf8_error_len
some_wrong bs some =
    let P : Option ℕ → Type 0 = λ o. 0 < unwrap_or o (length bs) in
    let one : P (Some 1) = omega arith in
    let two : P (Some 2) = omega arith in
    let three : P (Some 3) = omega arith in
    let x = slice_index bs 0 in
    let third = is_in_range 0x80 0xBF (slice_index bs 2) in
    let after_three = either P (nat_lt (length bs) 4) None (Some 3) some three in
    let after_two : P (error_len_after_two bs) =
    either P (nat_lt (length bs) 3) None (cond third (cond (nat_lt (length bs) 4) None (Some 3)) (Some 2)) some
    (either P third (cond (nat_lt (length bs) 4) None (Some 3)) (Some 2) after_three two) in
    let second = is_in_range (second_byte_min x) (second_byte_max x) (slice_index bs 1) in
    let after_one : P (error_len_after_one bs) =
    either P (nat_lt (length bs) 2) None (cond second (error_len_after_two bs) (Some 1)) some
    (either P second (error_len_after_two bs) (Some 1) after_two one) in
    either P (length bs == 0) None (error_len_of_some bs) some (either P (is_in_range 0xC2 0xF4 x) (error_len_after_one bs) (Some 1) after_one one)

chunk_shorter : (bs : List ℕ) → (utf8_valid_len bs ≡ length bs → ⊥) → length (after_first_chunk bs) < length bs
chunk_shorter bs faulty =
    let n = utf8_valid_len bs in
    let within = utf8_valid_len_le bs in
    let wrong = some_wrong (drop n bs) (omega (arith, length-drop n bs)) in
    omega (arith, length-drop (n + utf8_invalid_len (drop n bs)) bs)

replacement_utf8 : IsUtf8 replacement_bytes
unfolding encode
replacement_utf8 = IsUtf8-encode 0xFFFD refl

pub lossy_utf8 : (k : ℕ) (bs : List ℕ) → length bs ≤ k → IsUtf8 (utf8_lossy bs)
lossy_utf8 zero bs l =
    let within : utf8_valid_len bs ≤ length bs = utf8_valid_len_le bs in
    let same : utf8_valid_len bs ≡ length bs = omega arith in
    let text : IsUtf8 bs = subst IsUtf8 (ap (λ (n : ℕ). take n bs) same ∙ take_all bs) (front_utf8 bs) in
    subst IsUtf8 (sym (utf8_lossy-IsUtf8 bs text)) text
lossy_utf8 (suc k) bs l =
    let within : utf8_valid_len bs ≤ length bs = utf8_valid_len_le bs in
    elim (cases_lt (utf8_valid_len bs) (length bs)) [
      | inl less ↦
          let faulty : (utf8_valid_len bs ≡ length bs) → ⊥ = λ e. omega arith in
          let shorter : length (after_first_chunk bs) < length bs = chunk_shorter bs faulty in
          subst IsUtf8 (sym (utf8_lossy_step bs faulty))
          (IsUtf8-append (take (utf8_valid_len bs) bs) (replacement_bytes ++ utf8_lossy (after_first_chunk bs)) (front_utf8 bs)
          (IsUtf8-append replacement_bytes (utf8_lossy (after_first_chunk bs)) replacement_utf8 (lossy_utf8 k (after_first_chunk bs) (omega arith))))
      | inr whole ↦
          let same : utf8_valid_len bs ≡ length bs = omega arith in
          let text : IsUtf8 bs = subst IsUtf8 (ap (λ (n : ℕ). take n bs) same ∙ take_all bs) (front_utf8 bs) in
          subst IsUtf8 (sym (utf8_lossy-IsUtf8 bs text)) text
    ]

-- TOKENS

abbrev pub InRange : ℤ → Type 0
InRange (pos n) = n < 2 ^ 127
InRange (negsuc n) = n < 2 ^ 127

abbrev pub Sound : Token → Type 0
Sound (tokens.Bare n) = is_name n ≡ true
Sound (tokens.Quoted n) = is_name n ≡ true
Sound (tokens.Digits z) = InRange z
Sound (tokens.Signed z) = InRange z
Sound (tokens.Text t) = IsUtf8 t
Sound (tokens.Fixed f) = Unit {0}
Sound tokens.Bad = Unit {0}

abbrev pub Sounds : List Token → Type 0
Sounds [] = Unit {0}
Sounds (t ∷ ts) = Sound t × Sounds ts

pub sounds_both : (ts us : List Token) → Sounds ts → Sounds us → Sounds (ts ++ us)
sounds_both [] us h k = k
sounds_both (t ∷ ts) us h k = (h.0, sounds_both ts us h.1 k)

pub sounds_front : (ts us : List Token) → Sounds (ts ++ us) → Sounds ts
sounds_front [] us h = tt
sounds_front (t ∷ ts) us h = (h.0, sounds_front ts us h.1)

pub sounds_rest : (ts us : List Token) → Sounds (ts ++ us) → Sounds us
sounds_rest [] us h = h
sounds_rest (t ∷ ts) us h = sounds_rest ts us h.1

-- a token that stands at the front, or none
abbrev Found : Option Token → Type 0
Found None = Unit {0}
Found (Some t) = Sound t

bare_sound : (b : Bool) (n : List ℕ) → is_name n ≡ b → Sound (cond b (tokens.Bare n) tokens.Bad)
bare_sound true n h = h
bare_sound false n h = tt

word_sound : (o : Option Fixed) (n : List ℕ) → Sound (word_token o n)
word_sound None n = bare_sound (is_name n) n refl
word_sound (Some f) n = tt

name_sound : (b : Bool) (n : List ℕ) → is_name n ≡ b → Sound (cond b (tokens.Quoted n) tokens.Bad)
name_sound true n h = h
name_sound false n h = tt

quoted_sound : (o : Option (List ℕ × List ℕ)) → Sound (quoted_at o).0
quoted_sound None = tt
quoted_sound (Some r) = name_sound (is_name r.0) r.0 refl

variable_token_sound : (bytes : List ℕ) → Sound (variable_token bytes)
variable_token_sound bytes = either (λ (t : Token). Sound t) (is_word (codes "VERSION_COMMENT") bytes) (tokens.Fixed VersionComment) tokens.Bad tt tt

variable_sound : (bytes : List ℕ) → Sound (variable_at bytes).0
variable_sound [] = tt
variable_sound (b ∷ bytes) =
    let named = run continues_name bytes in
    either (λ (r : Token × List ℕ). Sound r.0) (b == 64) (variable_token named.0, named.1) (tokens.Bad, b ∷ bytes) (variable_token_sound named.0) tt

text_sound : (o : Option (List ℕ × List ℕ)) → Sound (text_at o).0
text_sound None = tt
text_sound (Some r) = lossy_utf8 (length r.0) r.0 (omega arith)

digits_case : (n : ℕ) (b : Bool) → nat_lt n (2 ^ 127) ≡ b → Sound (cond b (tokens.Digits (pos n)) tokens.Bad)
digits_case n true h = let l : n < 2 ^ 127 = grind (arith, nat_tests) in l
digits_case n false h = tt

digits_sound : (n : ℕ) → Sound (digits_token n)
digits_sound n = digits_case n (nat_lt n (2 ^ 127)) refl

plus_case : (n : ℕ) (b : Bool) → nat_lt n (2 ^ 127) ≡ b → Sound (cond b (tokens.Signed (pos n)) tokens.Bad)
plus_case n true h = let l : n < 2 ^ 127 = grind (arith, nat_tests) in l
plus_case n false h = tt

minus_case : (n : ℕ) (b : Bool) → nat_le n (2 ^ 127) ≡ b → Sound (cond b (tokens.Signed (neg_ℤ (pos n))) tokens.Bad)
minus_case zero true h = omega arith
minus_case (suc n) true h = let l : suc n ≤ 2 ^ 127 = grind (arith, nat_tests) in let k : n < 2 ^ 127 = omega arith in k
minus_case n false h = tt

number_sound : (minus : Bool) (n : ℕ) → Sound (signed_token minus n)
number_sound true n = minus_case n (nat_le n (2 ^ 127)) refl
number_sound false n = plus_case n (nat_lt n (2 ^ 127)) refl

sign_sound : (minus : Bool) → Sound (sign_token minus)
sign_sound true = tt
sign_sound false = tt

signed_sound : (operand minus : Bool) (bytes : List ℕ) → Sound (signed_at operand minus bytes).0
signed_sound operand minus [] = sign_sound minus
signed_sound operand minus (b ∷ bytes) =
    either (λ (r : Token × List ℕ). Sound r.0) (is_ascii_digit b && not operand) (signed_token minus (value_after 0 (run is_ascii_digit (b ∷ bytes)).0), (run is_ascii_digit (b ∷ bytes)).1) (sign_token minus, b ∷ bytes)
    (number_sound minus (value_after 0 (run is_ascii_digit (b ∷ bytes)).0)) (sign_sound minus)

-- a symbol has no value
ten_cases : {A : Type 0} (P : A → Type 0) (a b c d e f g h i j : Bool) (q r s t u v w x y z k : A) → P q → P r → P s → P t → P u → P v → P w → P x → P y → P z → P k
    → P (cond a q (cond b r (cond c s (cond d t (cond e u (cond f v (cond g w (cond h x (cond i y (cond j z k))))))))))
ten_cases P a b c d e f g h i j q r s t u v w x y z k pq pr ps pt pu pv pw px py pz pk =
    either P a _ _ pq (either P b _ _ pr (either P c _ _ ps (either P d _ _ pt (either P e _ _ pu (either P f _ _ pv (either P g _ _ pw (either P h _ _ px (either P i _ _ py (either P j _ _ pz pk)))))))))

symbol_sound : (b : ℕ) (bytes : List ℕ) → Sound (symbol_at b bytes).0
symbol_sound b bytes =
    ten_cases (λ (r : Token × List ℕ). Sound r.0) (b == 40) (b == 41) (b == 44) (b == 46) (b == 42) (b == 59) (b == 61) (b == 60) (b == 62) (b == 33 && starts 61 bytes)
    (tokens.Fixed Open, bytes) (tokens.Fixed Close, bytes) (tokens.Fixed Comma, bytes) (tokens.Fixed Dot, bytes) (tokens.Fixed Star, bytes) (tokens.Fixed Semicolon, bytes) (tokens.Fixed Equal, bytes)
    (cond (starts 61 bytes) (tokens.Fixed AtMost, rest_of bytes) (cond (starts 62 bytes) (tokens.Fixed NotEqual, rest_of bytes) (tokens.Fixed Less, bytes)))
    (cond (starts 61 bytes) (tokens.Fixed AtLeast, rest_of bytes) (tokens.Fixed Greater, bytes))
    (tokens.Fixed NotEqual, rest_of bytes) (tokens.Bad, bytes)
    tt tt tt tt tt tt tt
    (either (λ (r : Token × List ℕ). Sound r.0) (starts 61 bytes) (tokens.Fixed AtMost, rest_of bytes) (cond (starts 62 bytes) (tokens.Fixed NotEqual, rest_of bytes) (tokens.Fixed Less, bytes)) tt
    (either (λ (r : Token × List ℕ). Sound r.0) (starts 62 bytes) (tokens.Fixed NotEqual, rest_of bytes) (tokens.Fixed Less, bytes) tt tt))
    (either (λ (r : Token × List ℕ). Sound r.0) (starts 61 bytes) (tokens.Fixed AtLeast, rest_of bytes) (tokens.Fixed Greater, bytes) tt tt)
    tt tt

other_sound : (operand : Bool) (b : ℕ) (bytes : List ℕ) → Sound (other_at operand b bytes).0
other_sound operand b bytes =
    let P : Token × List ℕ → Type 0 = λ r. Sound r.0 in
    either P (b == 43) (signed_at operand false bytes) (cond (b == 45) (signed_at operand true bytes) (cond (b == 39 || b == 34) (text_at (text_from b Plain bytes)) (cond (b == 96) (quoted_at (up_to 96 bytes)) (cond (b == 64) (variable_at bytes) (symbol_at b bytes))))) (signed_sound operand false bytes)
    (either P (b == 45) (signed_at operand true bytes) (cond (b == 39 || b == 34) (text_at (text_from b Plain bytes)) (cond (b == 96) (quoted_at (up_to 96 bytes)) (cond (b == 64) (variable_at bytes) (symbol_at b bytes)))) (signed_sound operand true bytes)
    (either P (b == 39 || b == 34) (text_at (text_from b Plain bytes)) (cond (b == 96) (quoted_at (up_to 96 bytes)) (cond (b == 64) (variable_at bytes) (symbol_at b bytes))) (text_sound (text_from b Plain bytes))
    (either P (b == 96) (quoted_at (up_to 96 bytes)) (cond (b == 64) (variable_at bytes) (symbol_at b bytes)) (quoted_sound (up_to 96 bytes))
    (either P (b == 64) (variable_at bytes) (symbol_at b bytes) (variable_sound bytes) (symbol_sound b bytes)))))

skipped_sound : (o : Option (List ℕ)) → Found (skipped o).0
skipped_sound None = tt
skipped_sound (Some rest) = tt

lexeme_sound : (operand : Bool) (bytes : List ℕ) → Found (lexeme_at operand bytes).0
lexeme_sound operand [] = tt
lexeme_sound operand (b ∷ bytes) =
    let P : Option Token × List ℕ → Type 0 = λ r. Found r.0 in
    either P (is_blank b) (None, bytes) (cond (b == 47 && starts 42 bytes) (skipped (comment_at (rest_of bytes))) (cond (begins_name b) (seen (word_at (b ∷ bytes))) (cond (is_ascii_digit b) (seen (digits_at (b ∷ bytes))) (seen (other_at operand b bytes))))) tt
    (either P (b == 47 && starts 42 bytes) (skipped (comment_at (rest_of bytes))) (cond (begins_name b) (seen (word_at (b ∷ bytes))) (cond (is_ascii_digit b) (seen (digits_at (b ∷ bytes))) (seen (other_at operand b bytes)))) (skipped_sound (comment_at (rest_of bytes)))
    (either P (begins_name b) (seen (word_at (b ∷ bytes))) (cond (is_ascii_digit b) (seen (digits_at (b ∷ bytes))) (seen (other_at operand b bytes))) (word_sound (keyword_of (run continues_name (b ∷ bytes)).0) (run continues_name (b ∷ bytes)).0)
    (either P (is_ascii_digit b) (seen (digits_at (b ∷ bytes))) (seen (other_at operand b bytes)) (digits_sound (value_after 0 (run is_ascii_digit (b ∷ bytes)).0)) (other_sound operand b bytes))))

-- STEPS

abbrev values : List Placed → List Token
values found = map (λ (p : Placed). p.0) found

placed_sound : (left : ℕ) (before : Before) (o : Option Token) (rest : List ℕ) → Found o → Sounds (values (placed left before (o, rest)).0)
placed_sound left before None rest h = tt
placed_sound left before (Some t) rest h = (h, tt)

step_sound : (before : Before) (bytes : List ℕ) → Sounds (values (step_at before bytes).0)
step_sound before [] = tt
step_sound before (b ∷ bytes) =
    let next : Before = record { touching = begins_word b; operand = before.operand } in
    let found : Option Token × List ℕ = lexeme_at before.operand (b ∷ bytes) in
    either (λ (s : Step). Sounds (values s.0)) (before.touching && begins_word b) ((tokens.Bad, length (b ∷ bytes)) ∷ [], None) (placed (length (b ∷ bytes)) next found) (tt, tt)
    (placed_sound (length (b ∷ bytes)) next found.0 found.1 (lexeme_sound before.operand (b ∷ bytes)))

onward_sound : (again : Before → List ℕ → List Placed) (s : Step) → Sounds (values s.0) → ((before : Before) (bytes : List ℕ) → Sounds (values (again before bytes))) → Sounds (values (onward again s))
onward_sound again (found, None) h k = h
onward_sound again (found, Some next) h k =
    subst Sounds (sym (map-append (λ (p : Placed). p.0) found (again next.0 next.1))) (sounds_both (values found) (values (again next.0 next.1)) h (k next.0 next.1))

within_sound : (n : ℕ) (before : Before) (bytes : List ℕ) → Sounds (values (tokens_within n before bytes))
within_sound zero before bytes = tt
within_sound (suc n) before bytes = onward_sound (tokens_within n) (step_at before bytes) (step_sound before bytes) (within_sound n)

pub tokens_sound : (text : List ℕ) → Sounds (tokens_of text)
unfolding tokens_of placed_tokens
tokens_sound text = within_sound (length text) at_start text

-- Bytes and the numbers and texts that they stand for.
use Rattle.std.proofs.Common.{◌≡◌, ℕ, suc, ◌+◌, ◌-◌, ◌*◌, ◌<◌, ◌≤◌, inl, inr, min, map, List, [], ◌∷◌, ◌++◌, length, Bool, true, false, cond, Option, Some, None, refl, sym, ap, subst, ◌∙◌, append_assoc, arith}
use Rattle.std.specs.Prelude.{◌==◌, ◌&&◌, nat_lt, option_map}
use Rattle.std.specs.List.{list_all}
use Rattle.std.specs.Str.{IsAscii, IsUtf8}
use Rattle.std.proofs.lemmas.List.{map-append}
use Rattle.std.proofs.lemmas.Str.{IsUtf8-from_ascii}
use Rattle.std.proofs.lemmas.Str.Ascii.{IsAscii-nil, IsAscii-cons}
use Rattle.std.proofs.lemmas.Bool.Decides.{nat_tests, leb_tells}
use Rattle.sql_values.specs.Names.{is_name, begins_name, continues_name}
use Rattle.sql_text.specs.Tokens.{value_after, digits_token, signed_token, Plain, Quote, Escape, text_from, onto, onto_some, escape_of, starts, rest_of, Placed, Step, step_at, onward, tokens_within, at_start, placed_tokens, tokens_of, link_tokens_of, in_dialect, dialect_tokens}
use Rattle.sql_text.specs.declared.token.Before.{Before}
use Rattle.sql_text.specs.declared.token.Dialect.{Dialect}
use Rattle.sql_text.specs.declared.token.Dialect.TheVariants.{Statements, Links}
use Rattle.sql_text.specs.Lexing.{cap, onto_all, Piece, piece_at, escape_at, escaped_piece, text_by}
use Rattle.sql_text.proofs.Fields.{and_true}

-- NAMES

continues_below : (b : ℕ) → continues_name b ≡ true → b < 128
continues_below b h = grind (arith, nat_tests)

all_ascii : (bytes : List ℕ) → list_all continues_name bytes ≡ true → IsAscii bytes
all_ascii [] h = IsAscii-nil
all_ascii (b ∷ bytes) h =
    let p = and_true (continues_name b) (list_all continues_name bytes) h in
    IsAscii-cons b bytes (continues_below b p.0) (all_ascii bytes p.1)

begins_continues : (b : ℕ) → begins_name b ≡ true → continues_name b ≡ true
begins_continues b h = grind (arith, nat_tests)

-- a name is text
pub name_utf8 : (bytes : List ℕ) → is_name bytes ≡ true → IsUtf8 bytes
name_utf8 [] h = absurd cc
name_utf8 (b ∷ bytes) h =
    let p = and_true (begins_name b) (nat_lt (length bytes) 64 && list_all continues_name bytes) h in
    let q = and_true (nat_lt (length bytes) 64) (list_all continues_name bytes) p.1 in
    IsUtf8-from_ascii (b ∷ bytes) (IsAscii-cons b bytes (continues_below b (begins_continues b p.0)) (all_ascii bytes q.1))

name_found_at : (text name : List ℕ) (b : Bool) → name ≡ text → ((b ≡ true → ⊥) → ⊥) → Some name ≡ cond b (Some text) None
name_found_at text name true e h = ap Some e
name_found_at text name false e h = absurd (h (λ f. cc))

name_missed_at : (text : List ℕ) (b : Bool) → (b ≡ true → ⊥) → (let none : Option (List ℕ) = None in none ≡ cond b (Some text) None)
name_missed_at text true h = absurd (h refl)
name_missed_at text false h = refl

pub name_found : (text name : List ℕ) → name ≡ text → ((is_name text ≡ true → ⊥) → ⊥) → Some name ≡ cond (is_name text) (Some text) None
name_found text name e h = name_found_at text name (is_name text) e h

pub name_missed : (text : List ℕ) → (is_name text ≡ true → ⊥) → (let none : Option (List ℕ) = None in none ≡ cond (is_name text) (Some text) None)
name_missed text h = name_missed_at text (is_name text) h

-- NUMBERS

value_above : (n : ℕ) (digits : List ℕ) → n ≤ value_after n digits
value_above n [] = omega arith
value_above n (d ∷ digits) = let l = value_above (10 * n + (d - 48)) digits in omega arith

-- digits behind a number above the cap change nothing below it
pub capped_value : (n : ℕ) (digits : List ℕ) → min (value_after (min n cap) digits) cap ≡ min (value_after n digits) cap
capped_value n digits =
    elim (leb_tells n cap) [
      | inl l ↦ let small : n ≤ cap = l.1 in let e : min n cap ≡ n = omega arith in ap (λ m. min (value_after m digits) cap) e
      | inr l ↦
          let large : cap < n = l.1 in
          let c : min n cap ≡ cap = omega arith in
          let one : cap ≤ value_after (min n cap) digits = subst (λ m. m ≤ value_after (min n cap) digits) c (value_above (min n cap) digits) in
          let other : n ≤ value_after n digits = value_above n digits in
          let left : min (value_after (min n cap) digits) cap ≡ cap = omega arith in
          let right : min (value_after n digits) cap ≡ cap = omega arith in
          left ∙ sym right
    ]

pub capped_digits : (n : ℕ) → digits_token (min n cap) ≡ digits_token n
capped_digits n = grind (arith, nat_tests)

pub capped_signed : (minus : Bool) (n : ℕ) → signed_token minus (min n cap) ≡ signed_token minus n
capped_signed true n = grind (arith, nat_tests)
capped_signed false n = grind (arith, nat_tests)

-- TEXTS

quote_at : (quote c : ℕ) (bytes : List ℕ) (same : Bool) → (c == quote) ≡ same
    → cond same (onto c (text_from quote Plain bytes)) (Some ([], c ∷ bytes)) ≡ text_by (cond same (Some (Some quote, bytes)) (Some (None, c ∷ bytes))) (text_from quote Plain)
quote_at quote c bytes true e = let is : c ≡ quote = grind (arith, nat_tests) in ap (λ b. onto b (text_from quote Plain bytes)) is
quote_at quote c bytes false e = refl

quote_is : (quote : ℕ) (bytes : List ℕ) → text_from quote Quote bytes ≡ text_by (cond (starts quote bytes) (Some (Some quote, rest_of bytes)) (Some (None, bytes))) (text_from quote Plain)
quote_is quote [] = refl
quote_is quote (c ∷ bytes) = quote_at quote c bytes (c == quote) refl

escape_by : (quote : ℕ) (bytes : List ℕ) (o : Option ℕ) → onto_some o (text_from quote Plain bytes) ≡ text_by (escaped_piece o bytes) (text_from quote Plain)
escape_by quote bytes None = refl
escape_by quote bytes (Some b) = refl

escape_is : (quote : ℕ) (bytes : List ℕ) → text_from quote Escape bytes ≡ text_by (escape_at bytes) (text_from quote Plain)
escape_is quote [] = refl
escape_is quote (c ∷ bytes) = escape_by quote bytes (escape_of c)

one_of_three : {A B : Type 0} (f : A → B) (p q : Bool) (x y z : B) (u v w : A) → x ≡ f u → y ≡ f v → z ≡ f w → cond p x (cond q y z) ≡ f (cond p u (cond q v w))
one_of_three f true q x y z u v w a b c = a
one_of_three f false true x y z u v w a b c = b
one_of_three f false false x y z u v w a b c = c

-- a text begins with its next piece
pub text_is : (quote : ℕ) (bytes : List ℕ) → text_from quote Plain bytes ≡ text_by (piece_at quote bytes) (text_from quote Plain)
text_is quote [] = refl
text_is quote (b ∷ bytes) =
    one_of_three (λ (o : Option Piece). text_by o (text_from quote Plain)) (b == quote) (b == 92) (text_from quote Quote bytes) (text_from quote Escape bytes) (onto b (text_from quote Plain bytes))
    (cond (starts quote bytes) (Some (Some quote, rest_of bytes)) (Some (None, bytes))) (escape_at bytes) (Some (Some b, bytes)) (quote_is quote bytes) (escape_is quote bytes) refl

pub onto_again : (front : List ℕ) (b : ℕ) (r : Option (List ℕ × List ℕ)) → onto_all (front ++ b ∷ []) r ≡ onto_all front (onto b r)
onto_again front b None = refl
onto_again front b (Some r) = ap (λ (l : List ℕ). Some (l, r.1)) (append_assoc front (b ∷ []) r.0)

-- TOKENS

some_is : {A : Type 0} (x y : A) → Some x ≡ Some y → x ≡ y
some_is x y h = cc

onward_none : (again : Before → List ℕ → List Placed) (s : Step) → s.1 ≡ None → onward again s ≡ s.0
onward_none again (found, None) h = refl
onward_none again (found, Some next) h = absurd cc

onward_some : (again : Before → List ℕ → List Placed) (s : Step) (before : Before) (rest : List ℕ) → s.1 ≡ Some (before, rest) → onward again s ≡ s.0 ++ again before rest
onward_some again (found, None) before rest h = absurd cc
onward_some again (found, Some next) before rest h = ap (λ (p : Before × List ℕ). found ++ again p.0 p.1) (some_is next (before, rest) h)

-- the last step
pub last_step : {B : Type 0} (g : Placed → B) (n : ℕ) (before : Before) (bytes : List ℕ) (out : List B) → (step_at before bytes).1 ≡ None
    → out ++ map g (step_at before bytes).0 ≡ out ++ map g (tokens_within (suc n) before bytes)
last_step g n before bytes out h = ap (λ (l : List Placed). out ++ map g l) (sym (onward_none (tokens_within n) (step_at before bytes) h))

-- a step, and those behind it
pub more_steps : {B : Type 0} (g : Placed → B) (n : ℕ) (before next : Before) (bytes rest : List ℕ) (out : List B) → (step_at before bytes).1 ≡ Some (next, rest)
    → (out ++ map g (step_at before bytes).0) ++ map g (tokens_within n next rest) ≡ out ++ map g (tokens_within (suc n) before bytes)
more_steps {B} g n before next bytes rest out h =
    append_assoc out (map g (step_at before bytes).0) (map g (tokens_within n next rest))
    ∙ ap (λ (l : List B). out ++ l) (sym (map-append g (step_at before bytes).0 (tokens_within n next rest)))
    ∙ ap (λ (l : List Placed). out ++ map g l) (sym (onward_some (tokens_within n) (step_at before bytes) next rest h))

-- what the code's answer says of the step
pub no_step : {A B : Type 0} (f : A → B) (o : Option A) (found : Option B) → option_map f o ≡ found → o ≡ None → found ≡ None
no_step f None found h e = sym h
no_step f (Some x) found h e = absurd cc

pub some_step : {A B : Type 0} (f : A → B) (o : Option A) (x : A) (found : Option B) → option_map f o ≡ found → o ≡ Some x → found ≡ Some (f x)
some_step f None x found h e = absurd cc
some_step f (Some y) x found h e = sym h ∙ ap (λ v. Some (f v)) (some_is y x e)

-- the tokens of a text of a kind
pub in_dialect_is : (dialect : Dialect) (text : List ℕ) → map (λ (p : Placed). in_dialect dialect p.0) (tokens_within (length text) at_start text) ≡ dialect_tokens dialect text
unfolding placed_tokens tokens_of link_tokens_of
in_dialect_is Statements text = refl
in_dialect_is Links text = refl

-- What is answered of a text is what its tokens spell, and a refusal tells the first fault.
use Rattle.std.proofs.Common.{◌≡◌, ℕ, ◌<◌, ◌≤◌, Bool, true, false, cond, List, Option, Some, None, Result, Ok, Err, refl, sym, ap, subst, ◌∙◌, arith, inl, inr, ◌⊎◌}
use Rattle.std.specs.Prelude.{nat_lt, IfOk, IfErr}
use Rattle.std.specs.Str.{IsUtf8, is_utf8}
use Rattle.std.specs.Str.Lossy.{utf8_valid_len}
use Rattle.std.proofs.lemmas.Str.{IsUtf8-from_is_utf8, is_utf8-from_IsUtf8}
use Rattle.std.proofs.lemmas.Bool.Decides.{nat_tests}
use Rattle.sql_text.specs.declared.token.Token.{Token}
use Rattle.sql_text.specs.declared.fault.Stop.{Stop}
use Rattle.sql_text.specs.declared.fault.ParseFault.{ParseFault}
use Rattle.sql_text.specs.declared.fault.ParseFault.TheVariants.{Syntax, Deep, NoMemory}
use Rattle.sql_text.specs.Places.{IsFirstBad}
use Rattle.sql_text.specs.Parsing.{place_of, wrong_byte, token_fault, first_fault, with_bytes, IsParsed, IsBehind, IsRefused}
use Rattle.sql_text.proofs.Fields.{Rules}

-- ---- wrong bytes

no_wrong_at : (text : List ℕ) (b : Bool) → is_utf8 text ≡ b → cond b None (Some (utf8_valid_len text)) ≡ None → IsUtf8 text
no_wrong_at text true e h = IsUtf8-from_is_utf8 text e
no_wrong_at text false e h = absurd cc

pub no_wrong : (text : List ℕ) → wrong_byte text ≡ None → IsUtf8 text
no_wrong text h = no_wrong_at text (is_utf8 text) refl h

some_wrong_at : (text : List ℕ) (wrong : ℕ) (b : Bool) → is_utf8 text ≡ b → cond b None (Some (utf8_valid_len text)) ≡ Some wrong → (IsUtf8 text → ⊥) × (wrong ≡ utf8_valid_len text)
some_wrong_at text wrong true e h = absurd cc
some_wrong_at text wrong false e h = ((λ u. let yes : is_utf8 text ≡ true = is_utf8-from_IsUtf8 text u in cc), cc)

some_wrong : (text : List ℕ) (wrong : ℕ) → wrong_byte text ≡ Some wrong → (IsUtf8 text → ⊥) × (wrong ≡ utf8_valid_len text)
some_wrong text wrong h = some_wrong_at text wrong (is_utf8 text) refl h

pub utf8_none : (text : List ℕ) → IsUtf8 text → wrong_byte text ≡ None
utf8_none text u = rw (is_utf8-from_IsUtf8 text u) refl

not_utf8_at : (text : List ℕ) → (IsUtf8 text → ⊥) → (b : Bool) → is_utf8 text ≡ b → cond b None (Some (utf8_valid_len text)) ≡ Some (utf8_valid_len text)
not_utf8_at text is_none true e = absurd (is_none (IsUtf8-from_is_utf8 text e))
not_utf8_at text is_none false e = refl

pub not_utf8_some : (text : List ℕ) → (IsUtf8 text → ⊥) → wrong_byte text ≡ Some (utf8_valid_len text)
not_utf8_some text is_none = not_utf8_at text is_none (is_utf8 text) refl

-- ---- what is answered

bytes_ok : {X : Type 0} (text : List ℕ) (wrong : Option ℕ) (read : Result X Stop) (x : X) → with_bytes text wrong read ≡ Ok x → (wrong ≡ None) × (read ≡ Ok x)
bytes_ok text None (Ok y) x h = (refl, (let e : y ≡ x = cc in ap Ok e))
bytes_ok text (Some w) (Ok y) x h = absurd cc
bytes_ok text None (Err stop) x h = absurd cc
bytes_ok text (Some w) (Err stop) x h = absurd cc

-- the tokens of a text, which are read as they spell a value
module _ {X : Type 0} (A : Rules X) (most : ℕ) (ts : List Token) (read : Result X Stop) (text : List ℕ) (is_read : (x : X) → read ≡ Ok x → A most x ts) (reads : (x : X) → A most x ts → read ≡ Ok x)
    (stops : (stop : Stop) → read ≡ Err stop → IsFirstBad A most stop.deep ts stop.left) where
  abbrev answered : Result X ParseFault
  answered = with_bytes text (wrong_byte text) read

  answered_found : (x : X) → answered ≡ Ok x → IsUtf8 text × A most x ts
  answered_found x h =
      let p = bytes_ok text (wrong_byte text) read x h in
      (no_wrong text p.0, is_read x p.1)

  pub answered_again : (x : X) → IsUtf8 text → A most x ts → answered ≡ Ok x
  answered_again x u h = ap (λ w. with_bytes text w read) (utf8_none text u) ∙ ap (with_bytes text None) (reads x h)

  pub found : (r : Result X ParseFault) → IsParsed r answered → IfOk r (λ x. IsUtf8 text × A most x ts)
  found (Ok x) h = answered_found x h
  found (Err e) h = tt

  pub only : (r : Result X ParseFault) (x : X) → IsParsed r answered → IsUtf8 text → A most x ts → (r ≡ Err NoMemory) ⊎ (r ≡ Ok x)
  only (Ok y) x h u i = inr (let e : Ok y ≡ Ok x = sym h ∙ answered_again x u i in e)
  only (Err NoMemory) x h u i = inl refl
  only (Err (Syntax place)) x h u i = absurd (let e : Err (Syntax place) ≡ Ok x = sym h ∙ answered_again x u i in cc)
  only (Err (Deep place)) x h u i = absurd (let e : Err (Deep place) ≡ Ok x = sym h ∙ answered_again x u i in cc)

  -- ---- refusals

  token_refused : (left : ℕ) (deep : Bool) → IsFirstBad A most deep ts left → IsUtf8 text ⊎ (place_of text left < utf8_valid_len text)
      → IsRefused A most ts text (cond deep (Deep (place_of text left)) (Syntax (place_of text left)))
  token_refused left true first bytes = record { left = left; place_is = refl; first = first; bytes = bytes }
  token_refused left false first bytes = inl (record { left = left; place_is = refl; first = first; bytes = bytes })

  byte_refused : (wrong : ℕ) → wrong_byte text ≡ Some wrong → ((x : X) × A most x ts) ⊎ IsBehind A most ts text wrong → IsRefused A most ts text (Syntax wrong)
  byte_refused wrong h before = let w = some_wrong text wrong h in inr (record { no_text = w.0; place_is = w.1; before = before })

  fault_refused : (wrong : Option ℕ) (stop : Stop) → wrong_byte text ≡ wrong → IsFirstBad A most stop.deep ts stop.left → IsRefused A most ts text (first_fault text wrong stop)
  fault_refused None stop h first = token_refused stop.left stop.deep first (inl (no_wrong text h))
  fault_refused (Some wrong) stop h first =
      let place : ℕ = place_of text stop.left in
      let w = some_wrong text wrong h in
      (elim (nat_lt place wrong) as (λ b. nat_lt place wrong ≡ b → IsRefused A most ts text (cond b (token_fault text stop) (Syntax wrong))) [
        | true ↦ λ e. token_refused stop.left stop.deep first (inr (let l : place < wrong = grind (arith, nat_tests) in subst (λ n. place < n) w.1 l))
        | false ↦ λ e. byte_refused wrong h (inr (record { deep = stop.deep; left = stop.left; first = first; behind = (let l : wrong ≤ place = grind (arith, nat_tests) in l) }))
      ]) refl

  read_refused : (wrong : Option ℕ) (got : Result X Stop) (e : ParseFault) → wrong_byte text ≡ wrong → read ≡ got → with_bytes text wrong got ≡ Err e → IsRefused A most ts text e
  read_refused wrong (Err stop) e w r h =
      let same : first_fault text wrong stop ≡ e = (let g : Err (first_fault text wrong stop) ≡ Err e = h in cc) in
      subst (IsRefused A most ts text) same (fault_refused wrong stop w (stops stop r))
  read_refused None (Ok x) e w r h = absurd cc
  read_refused (Some wrong) (Ok x) e w r h =
      let same : Syntax wrong ≡ e = (let g : Err (Syntax wrong) ≡ Err e = h in cc) in
      subst (IsRefused A most ts text) same (byte_refused wrong w (inl (x, is_read x r)))

  answered_refused : (e : ParseFault) → answered ≡ Err e → IsRefused A most ts text e
  answered_refused e h = read_refused (wrong_byte text) read e refl refl h

  pub refused : (r : Result X ParseFault) → IsParsed r answered → IfErr r (λ e. IsRefused A most ts text e)
  refused (Ok x) h = tt
  refused (Err NoMemory) h = tt
  refused (Err (Syntax place)) h = answered_refused (Syntax place) h
  refused (Err (Deep place)) h = answered_refused (Deep place) h

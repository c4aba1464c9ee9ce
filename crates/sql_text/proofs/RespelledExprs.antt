-- What is printed of an expression has tokens that spell it, with parentheses where it needs them.
use Rattle.std.proofs.Common.{◌≡◌, ℕ, zero, suc, map, List, [], ◌∷◌, ◌++◌, Bool, true, false, Some, refl, sym, ap, subst, ◌∙◌, append-nil, arith, inl, inr, codes}
use Rattle.std.specs.Prelude.{nat_lt}
use Rattle.std.specs.List.{flat_map}
use Rattle.std.proofs.lemmas.List.Folds.{flat_map-map}
use Rattle.sql_values.specs.declared.literal.Literal.{Literal}
use Rattle.sql_values.specs.declared.tree.ColumnName.{ColumnName}
use Rattle.sql_values.specs.declared.tree.Expr.{Expr}
use Rattle.sql_values.specs.declared.tree.Expr.TheVariants as exprs
use Rattle.sql_values.specs.declared.tree.Expr.TheOpen as layers
use Rattle.sql_values.specs.declared.tree.Expr.TheFolds.{fold-roll-Expr}
use Rattle.sql_values.specs.declared.tree.Addend.{Addend, fold-roll-Addend}
use Rattle.sql_text.specs.declared.token.Fixed.TheVariants.{Minus, Plus, Star, Open, Close}
use Rattle.sql_text.specs.declared.token.Token.{Token}
use Rattle.sql_text.specs.declared.token.Token.TheVariants as tokens
use Rattle.sql_text.specs.Rules.{Rule, is, series, many}
use Rattle.sql_text.specs.Grammar.{sign_of, literal, column, joined, plain_expr, term_over, addend, addend_over, summed, expr_over, factor, expr}
use Rattle.sql_text.specs.Printing.{literal_text, column_text, joined_text, Shown, opening, closing, at_level, sign_text, part_text, sum_text, expr_layer_text, addend_layer_text, shown_expr, shown_addend, expr_text}
use Rattle.sql_text.specs.Reading.{factor_at, term_by, expr_by}
use Rattle.sql_text.proofs.ExprRules.{factor_kinds, any_factor, to_factor, from_factor, factor_field, term_field, expr_over_field}
use Rattle.sql_text.proofs.Written.{Atom, Suffix, Separator, prefix_of, closing_of, atom_suffix, prefix_atom, separator_atom}
use Rattle.sql_text.proofs.Lexemes as lexemes
use Rattle.sql_text.proofs.Sound.{Sounds}
use Rattle.sql_text.proofs.Told.{Told, Respells, first_sound, second_sound, mapped, unmapped}
use Rattle.sql_text.proofs.Respelled.{column_told, literal_told, many_told, series_told}
use Rattle.sql_text.proofs.RespelledConds.{alone, parts_of, deeper, lower_level}

-- ---- the texts of layers

shown_literal : (l : Literal) → shown_expr (exprs.Literal l) ≡ (0, literal_text l)
shown_literal l = ap shown_expr (sym (exprs.rolls-Literal l)) ∙ fold-roll-Expr Shown (Bool × Shown) expr_layer_text addend_layer_text (layers.Literal l)

shown_column : (c : ColumnName) → shown_expr (exprs.Column c) ≡ (0, column_text c)
shown_column c = ap shown_expr (sym (exprs.rolls-Column c)) ∙ fold-roll-Expr Shown (Bool × Shown) expr_layer_text addend_layer_text (layers.Column c)

shown_negated : (part : Expr) → shown_expr (exprs.Negated part) ≡ (0, codes "- " ++ at_level 0 (shown_expr part))
shown_negated part = ap shown_expr (sym (exprs.rolls-Negated part)) ∙ fold-roll-Expr Shown (Bool × Shown) expr_layer_text addend_layer_text (layers.Negated part)

shown_product : (parts : List Expr) → shown_expr (exprs.Product parts) ≡ (1, joined_text (codes " * ") (map (at_level 0) (map shown_expr parts)))
shown_product parts = ap shown_expr (sym (exprs.rolls-Product parts)) ∙ fold-roll-Expr Shown (Bool × Shown) expr_layer_text addend_layer_text (layers.Product parts)

shown_sum : (parts : List Addend) → shown_expr (exprs.Sum parts) ≡ (2, sum_text (map shown_addend parts))
shown_sum parts = ap shown_expr (sym (exprs.rolls-Sum parts)) ∙ fold-roll-Expr Shown (Bool × Shown) expr_layer_text addend_layer_text (layers.Sum parts)

shown_part : (subtracted : Bool) (e : Expr) → shown_addend (addend subtracted e) ≡ (subtracted, shown_expr e)
shown_part subtracted e = fold-roll-Addend Shown (Bool × Shown) expr_layer_text addend_layer_text (record { subtracted = subtracted; expr = e })

-- the texts of factors
factor_texts : (parts : List Expr) → map (at_level 0) (map shown_expr parts) ≡ map (λ e. at_level 0 (shown_expr e)) parts
factor_texts [] = refl
factor_texts (e ∷ parts) = ap (λ (l : List (List ℕ)). at_level 0 (shown_expr e) ∷ l) (factor_texts parts)

-- a sum's text, of the texts of its parts
sum_is : (first : Expr) (others : List Addend) → sum_text (map shown_addend (addend false first ∷ others)) ≡ at_level 1 (shown_expr first) ++ flat_map (λ a. part_text true (shown_addend a)) others
sum_is first others =
    ap (λ (s : Bool × Shown). at_level 1 s.1 ++ flat_map (part_text true) (map shown_addend others)) (shown_part false first)
    ∙ ap (λ (l : List ℕ). at_level 1 (shown_expr first) ++ l) (flat_map-map (part_text true) shown_addend others)

-- ---- what binds tighter than a node is no node

not_product : (e x y : Expr) (ys : List Expr) → e ≡ exprs.Product (x ∷ y ∷ ys) → nat_lt 0 (shown_expr e).0 ≡ false → ⊥
not_product e x y ys is h =
    let level : (shown_expr e).0 ≡ 1 = ap (λ (d : Expr). (shown_expr d).0) is ∙ ap (λ (s : Shown). s.0) (shown_product (x ∷ y ∷ ys)) in
    let yes : nat_lt 0 (shown_expr e).0 ≡ true = ap (nat_lt 0) level in
    cc

not_sum : (e : Expr) (parts : List Addend) → e ≡ exprs.Sum parts → nat_lt 1 (shown_expr e).0 ≡ false → ⊥
not_sum e parts is h =
    let level : (shown_expr e).0 ≡ 2 = ap (λ (d : Expr). (shown_expr d).0) is ∙ ap (λ (s : Shown). s.0) (shown_sum parts) in
    let yes : nat_lt 1 (shown_expr e).0 ≡ true = ap (nat_lt 1) level in
    cc

no_product_case : (n : ℕ) (e : Expr) (ts : List Token) (first : Expr) (others : List Expr) → e ≡ joined exprs.Product (first ∷ others) → (others ≡ [] → factor n first ts) → nat_lt 0 (shown_expr e).0 ≡ false → factor n e ts
no_product_case n e ts x [] is single h = subst (λ d. factor n d ts) (sym is) (single refl)
no_product_case n e ts x (y ∷ ys) is single h = absurd (not_product e x y ys is h)

no_product : (n : ℕ) (e : Expr) (ts : List Token) → term_over (factor n) e ts → nat_lt 0 (shown_expr e).0 ≡ false → factor n e ts
no_product n e ts h k = let p = parts_of Star (factor n) exprs.Product e ts h in no_product_case n e ts p.first p.others p.is p.single k

-- the parts of an expression: a term, and further ones
record Summed (n : ℕ) (e : Expr) (ts : List Token) : Type 0 where
  first : Expr
  others : List Addend
  is : e ≡ summed first others
  front : List Token
  rest : List Token
  whole : ts ≡ front ++ rest
  term : term_over (factor n) first front
  further : many (addend_over (term_over (factor n))) others rest

summed_parts : (n : ℕ) (e : Expr) (ts : List Token) → expr_over (factor n) e ts → Summed n e ts
summed_parts n e ts (first, s) =
    let u = unmapped (many (addend_over (term_over (factor n)))) (summed first) e s.rest s.second in
    record { first = first; others = u.0; is = u.1; front = s.front; rest = s.rest; whole = s.whole; term = s.first; further = u.2 }

no_sum_case : (n : ℕ) (e : Expr) (ts : List Token) (first : Expr) (others : List Addend) (front rest : List Token) → e ≡ summed first others → ts ≡ front ++ rest → term_over (factor n) first front
    → many (addend_over (term_over (factor n))) others rest → nat_lt 1 (shown_expr e).0 ≡ false → term_over (factor n) e ts
no_sum_case n e ts first [] front rest is whole h none k =
    subst (λ (l : List Token). term_over (factor n) e l) (sym (whole ∙ ap (λ (l : List Token). front ++ l) none ∙ append-nil front)) (subst (λ d. term_over (factor n) d front) (sym is) h)
no_sum_case n e ts first (a ∷ others) front rest is whole h more k = absurd (not_sum e (addend false first ∷ a ∷ others) is k)

no_sum : (n : ℕ) (e : Expr) (ts : List Token) → expr_over (factor n) e ts → nat_lt 1 (shown_expr e).0 ≡ false → term_over (factor n) e ts
no_sum n e ts h k = let p = summed_parts n e ts h in no_sum_case n e ts p.first p.others p.front p.rest p.is p.whole p.term p.further k

-- one part alone
alone_sum : (n : ℕ) (e : Expr) (ts : List Token) → term_over (factor n) e ts → expr_over (factor n) e ts
alone_sum n e ts h = (e, record { front = ts; rest = []; whole = sym (append-nil ts); first = h; second = ([], record { front = []; rest = []; whole = refl; first = refl; second = (refl, refl) }) })

-- with one opening more
deeper_factor : (n : ℕ) (e : Expr) (ts : List Token) → factor n e ts → factor (suc n) e ts
deeper_factor n e ts h = deeper factor n (factor_at n) false factor_kinds (16 ∷ []) (factor_field n) (suc n) e ts (omega arith) h

deeper_term : (n : ℕ) (e : Expr) (ts : List Token) → term_over (factor n) e ts → term_over (factor (suc n)) e ts
deeper_term n e ts h = deeper (λ m. term_over (factor m)) n (term_by (factor_at n)) false factor_kinds (17 ∷ 16 ∷ []) (term_field n (factor_field n)) (suc n) e ts (omega arith) h

deeper_expr : (n : ℕ) (e : Expr) (ts : List Token) → expr_over (factor n) e ts → expr_over (factor (suc n)) e ts
deeper_expr n e ts h = deeper (λ m. expr_over (factor m)) n (expr_by (factor_at n)) false factor_kinds (47 ∷ 48 ∷ 17 ∷ 16 ∷ []) (expr_over_field n (factor_field n)) (suc n) e ts (omega arith) h

module _ (change : Token → Token) (fixes : lexemes.Fixes change) where
  -- ---- a text at a level, without parentheses and with them

  unenclosed : (A : Rule Expr) (e : Expr) (level : ℕ) (s : Shown) → nat_lt level s.0 ≡ false → Told (Atom change) A e s.1 → Told (Atom change) A e (at_level level s)
  unenclosed A e level s k h =
      subst (λ b. Told (Atom change) A e (opening b ++ (s.1 ++ closing b))) (sym k) (subst (λ (l : List ℕ). Told (Atom change) A e l) (sym (append-nil s.1)) h)

  bare_text : (A : Rule Expr) (e : Expr) (level : ℕ) (s : Shown) → nat_lt level s.0 ≡ false → Told (Atom change) A e (at_level level s) → Told (Atom change) A e s.1
  bare_text A e level s k h =
      let plain : Told (Atom change) A e (s.1 ++ []) = subst (λ b. Told (Atom change) A e (opening b ++ (s.1 ++ closing b))) k h in
      subst (λ (l : List ℕ). Told (Atom change) A e l) (append-nil s.1) plain

  parenthesized_told : (n : ℕ) (e : Expr) (level : ℕ) (s : Shown) → nat_lt level s.0 ≡ true → Told (Atom change) (expr_over (factor n)) e s.1 → Told (Atom change) (factor (suc n)) e (at_level level s)
  unfolding factor
  parenthesized_told n e level s k h =
      subst (λ b. Told (Atom change) (factor (suc n)) e (opening b ++ (s.1 ++ closing b))) (sym k) (
        tokens.Fixed Open ∷ (h.0 ++ (tokens.Fixed Close ∷ [])),
        inr (inl (h.0 ++ (tokens.Fixed Close ∷ []), refl, (e, record { front = h.0; rest = tokens.Fixed Close ∷ []; whole = refl; first = h.1; second = ([], refl, (refl, refl)) }))),
        (prefix_atom change) (codes "(") (s.1 ++ codes ")") (tokens.Fixed Open ∷ []) (h.0 ++ (tokens.Fixed Close ∷ [])) ((prefix_of change) (codes "(") (tokens.Fixed Open ∷ []) (lexemes.open_symbol change fixes))
            ((atom_suffix change) s.1 (codes ")") h.0 (tokens.Fixed Close ∷ []) h.2 ((closing_of change) (codes ")") (tokens.Fixed Close ∷ []) (lexemes.close_symbol change fixes))),
      )

  -- what is printed of an expression at each level spells it there
  record Canonical (n : ℕ) (e : Expr) : Type 0 where
    low : nat_lt 2 (shown_expr e).0 ≡ false
    tight : Told (Atom change) (factor n) e (at_level 0 (shown_expr e))
    middle : Told (Atom change) (term_over (factor n)) e (at_level 1 (shown_expr e))
    loose : Told (Atom change) (expr_over (factor n)) e (at_level 2 (shown_expr e))

  -- the same of what binds no tighter than a product, and of what binds as a sum
  record Multiplied (n : ℕ) (e : Expr) : Type 0 where
    low : nat_lt 2 (shown_expr e).0 ≡ false
    middle : Told (Atom change) (term_over (factor n)) e (at_level 1 (shown_expr e))
    loose : Told (Atom change) (expr_over (factor n)) e (at_level 2 (shown_expr e))

  record Added (n : ℕ) (e : Expr) : Type 0 where
    low : nat_lt 2 (shown_expr e).0 ≡ false
    loose : Told (Atom change) (expr_over (factor n)) e (at_level 2 (shown_expr e))

  multiplied : (n : ℕ) (e : Expr) (text : List ℕ) → Told (Atom change) (factor n) e text → Told (Atom change) (term_over (factor n)) e text
  multiplied n e text h = (h.0, alone Star (factor n) exprs.Product e h.0 h.1, h.2)

  added : (n : ℕ) (e : Expr) (text : List ℕ) → Told (Atom change) (term_over (factor n)) e text → Told (Atom change) (expr_over (factor n)) e text
  added n e text h = (h.0, alone_sum n e h.0 h.1, h.2)

  -- what needs no parentheses anywhere
  canonical_factor : (n : ℕ) (e : Expr) → nat_lt 0 (shown_expr e).0 ≡ false → Told (Atom change) (factor n) e (shown_expr e).1 → Canonical n e
  canonical_factor n e k h =
      let l = lower_level (shown_expr e).0 k in
      let m : Told (Atom change) (term_over (factor n)) e (shown_expr e).1 = multiplied n e (shown_expr e).1 h in
      record {
        low = l.1;
        tight = unenclosed (factor n) e 0 (shown_expr e) k h;
        middle = unenclosed (term_over (factor n)) e 1 (shown_expr e) l.0 m;
        loose = unenclosed (expr_over (factor n)) e 2 (shown_expr e) l.1 (added n e (shown_expr e).1 m);
      }

  -- ---- products

  product_told : (n : ℕ) (x y : Expr) (ys : List Expr) → Told (Atom change) (series Star (factor n)) (x ∷ y ∷ ys) (joined_text (codes " * ") (map (λ e. at_level 0 (shown_expr e)) (x ∷ y ∷ ys))) → Multiplied n (exprs.Product (x ∷ y ∷ ys))
  product_told n x y ys h =
      let parts : List Expr = x ∷ y ∷ ys in
      let e : Expr = exprs.Product parts in
      let text : List ℕ = joined_text (codes " * ") (map (at_level 0) (map shown_expr parts)) in
      let told : Told (Atom change) (term_over (factor n)) e text =
      subst (λ (l : List (List ℕ)). Told (Atom change) (term_over (factor n)) e (joined_text (codes " * ") l)) (sym (factor_texts parts))
      (h.0, mapped (series Star (factor n)) (λ ps. is (joined exprs.Product ps)) parts e h.0 h.1 (refl, refl), h.2) in
      record {
        low = ap (λ (s : Shown). nat_lt 2 s.0) (shown_product parts);
        middle = subst (λ (s : Shown). Told (Atom change) (term_over (factor n)) e (at_level 1 s)) (sym (shown_product parts)) (unenclosed (term_over (factor n)) e 1 (1, text) refl told);
        loose = subst (λ (s : Shown). Told (Atom change) (expr_over (factor n)) e (at_level 2 s)) (sym (shown_product parts)) (unenclosed (expr_over (factor n)) e 2 (1, text) refl (added n e text told));
      }

  term_case : (n : ℕ) → ((e : Expr) (ts : List Token) → factor n e ts → Sounds ts → Canonical n e) → (e : Expr) (ts : List Token) (first : Expr) (others : List Expr) → e ≡ joined exprs.Product (first ∷ others)
      → series Star (factor n) (first ∷ others) ts → (others ≡ [] → factor n first ts) → Sounds ts → Multiplied n e
  term_case n each e ts x [] is h single sound =
      let k = each x ts (single refl) sound in
      subst (Multiplied n) (sym is) (record { low = k.low; middle = k.middle; loose = k.loose })
  term_case n each e ts x (y ∷ ys) is h single sound =
      subst (Multiplied n) (sym is)
      (product_told n x y ys ((series_told change fixes) Star (factor n) (λ d. at_level 0 (shown_expr d)) (codes " * ") (lexemes.times_text change fixes) (λ d us k s. (each d us k s).tight) (x ∷ y ∷ ys) ts h sound))

  -- factors, where each is printed so that it spells itself
  term_told : (n : ℕ) → ((e : Expr) (ts : List Token) → factor n e ts → Sounds ts → Canonical n e) → (e : Expr) (ts : List Token) → term_over (factor n) e ts → Sounds ts → Multiplied n e
  term_told n each e ts h sound =
      let p = parts_of Star (factor n) exprs.Product e ts h in
      term_case n each e ts p.first p.others p.is p.spells p.single sound

  -- ---- sums

  sign_separator : (subtracted : Bool) → (t : Token) × (sign_of t ≡ Some subtracted) × (Separator change) (sign_text subtracted) (t ∷ [])
  sign_separator true = (tokens.Fixed Minus, refl, lexemes.minus_text change fixes)
  sign_separator false = (tokens.Fixed Plus, refl, lexemes.plus_text change fixes)

  -- a further part of a sum
  part_told : (n : ℕ) → ((e : Expr) (ts : List Token) → factor n e ts → Sounds ts → Canonical n e) → Respells (Suffix change) (addend_over (term_over (factor n))) (λ a. part_text true (shown_addend a))
  part_told n each a ts (subtracted, s) sound =
      let u = unmapped (term_over (factor n)) (addend subtracted) a s.rest s.second in
      let m = (term_told n each u.0 s.rest u.2 (second_sound s sound)).middle in
      let sign = sign_separator subtracted in
      let text : part_text true (shown_addend (addend subtracted u.0)) ≡ sign_text subtracted ++ at_level 1 (shown_expr u.0) = ap (part_text true) (shown_part subtracted u.0) in
      subst (λ (b : Addend). Told (Suffix change) (addend_over (term_over (factor n))) b (part_text true (shown_addend b))) (sym u.1)
      (subst (λ (l : List ℕ). Told (Suffix change) (addend_over (term_over (factor n))) (addend subtracted u.0) l) (sym text) (
        sign.0 ∷ m.0,
        (subtracted, record { front = sign.0 ∷ []; rest = m.0; whole = refl; first = (sign.0, refl, sign.1); second = mapped (term_over (factor n)) (λ d. is (addend subtracted d)) u.0 (addend subtracted u.0) m.0 m.1 (refl, refl) }),
        (separator_atom change) (sign_text subtracted) (at_level 1 (shown_expr u.0)) (sign.0 ∷ []) m.0 sign.2 m.2,
      ))

  sum_case : (n : ℕ) → ((e : Expr) (ts : List Token) → factor n e ts → Sounds ts → Canonical n e) → (e : Expr) (first : Expr) (others : List Addend) (front rest : List Token) → e ≡ summed first others
      → term_over (factor n) first front → many (addend_over (term_over (factor n))) others rest → Sounds front → Sounds rest → Added n e
  sum_case n each e first [] front rest same h more in_front in_rest =
      let k = term_told n each first front h in_front in
      subst (Added n) (sym same) (record { low = k.low; loose = k.loose })
  sum_case n each e first (a ∷ others) front rest same h more in_front in_rest =
      let all : List Addend = a ∷ others in
      let parts : List Addend = addend false first ∷ all in
      let k = (term_told n each first front h in_front).middle in
      let l = (many_told change fixes) (addend_over (term_over (factor n))) (λ b. part_text true (shown_addend b)) (part_told n each) all rest more in_rest in
      let text : List ℕ = at_level 1 (shown_expr first) ++ flat_map (λ b. part_text true (shown_addend b)) all in
      let told : Told (Atom change) (expr_over (factor n)) (exprs.Sum parts) text = (
        k.0 ++ l.0,
        (first, record { front = k.0; rest = l.0; whole = refl; first = k.1; second = mapped (many (addend_over (term_over (factor n)))) (λ os. is (summed first os)) all (exprs.Sum parts) l.0 l.1 (refl, refl) }),
        (atom_suffix change) (at_level 1 (shown_expr first)) (flat_map (λ b. part_text true (shown_addend b)) all) k.0 l.0 k.2 l.2,
      ) in
      let shown : shown_expr (exprs.Sum parts) ≡ (2, text) = shown_sum parts ∙ ap (λ (t : List ℕ). (2, t)) (sum_is first all) in
      subst (Added n) (sym same)
      (record {
        low = ap (λ (s : Shown). nat_lt 2 s.0) shown;
        loose = subst (λ (s : Shown). Told (Atom change) (expr_over (factor n)) (exprs.Sum parts) (at_level 2 s)) (sym shown) (unenclosed (expr_over (factor n)) (exprs.Sum parts) 2 (2, text) refl told);
      })

  expr_told_by : (n : ℕ) → ((e : Expr) (ts : List Token) → factor n e ts → Sounds ts → Canonical n e) → (e : Expr) (ts : List Token) → expr_over (factor n) e ts → Sounds ts → Added n e
  expr_told_by n each e ts (first, s) sound =
      let u = unmapped (many (addend_over (term_over (factor n)))) (summed first) e s.rest s.second in
      sum_case n each e first u.0 s.front s.rest u.1 s.first u.2 (first_sound s sound) (second_sound s sound)

  -- ---- parentheses

  tight_inside : (n : ℕ) (e : Expr) → Told (Atom change) (expr_over (factor n)) e (shown_expr e).1 → (b : Bool) → nat_lt 0 (shown_expr e).0 ≡ b → Told (Atom change) (factor (suc n)) e (at_level 0 (shown_expr e))
  tight_inside n e h true k = parenthesized_told n e 0 (shown_expr e) k h
  tight_inside n e h false k =
      let l = lower_level (shown_expr e).0 k in
      unenclosed (factor (suc n)) e 0 (shown_expr e) k (h.0, deeper_factor n e h.0 (no_product n e h.0 (no_sum n e h.0 h.1 l.0) k), h.2)

  middle_inside : (n : ℕ) (e : Expr) → Told (Atom change) (expr_over (factor n)) e (shown_expr e).1 → (b : Bool) → nat_lt 1 (shown_expr e).0 ≡ b → Told (Atom change) (term_over (factor (suc n))) e (at_level 1 (shown_expr e))
  middle_inside n e h true k = multiplied (suc n) e (at_level 1 (shown_expr e)) (parenthesized_told n e 1 (shown_expr e) k h)
  middle_inside n e h false k = unenclosed (term_over (factor (suc n))) e 1 (shown_expr e) k (h.0, deeper_term n e h.0 (no_sum n e h.0 h.1 k), h.2)

  inside_told : (n : ℕ) (e : Expr) → Added n e → Canonical (suc n) e
  inside_told n e d =
      let h : Told (Atom change) (expr_over (factor n)) e (shown_expr e).1 = bare_text (expr_over (factor n)) e 2 (shown_expr e) d.low d.loose in
      record {
        low = d.low;
        tight = tight_inside n e h (nat_lt 0 (shown_expr e).0) refl;
        middle = middle_inside n e h (nat_lt 1 (shown_expr e).0) refl;
        loose = unenclosed (expr_over (factor (suc n))) e 2 (shown_expr e) d.low (h.0, deeper_expr n e h.0 h.1, h.2);
      }

  -- ---- factors, and all together

  negated_told : (n : ℕ) (part : Expr) → Canonical n part → Canonical (suc n) (exprs.Negated part)
  unfolding factor
  negated_told n part p =
      let h : Told (Atom change) (factor (suc n)) (exprs.Negated part) (codes "- " ++ at_level 0 (shown_expr part)) = (
        tokens.Fixed Minus ∷ p.tight.0,
        inl (p.tight.0, refl, mapped (factor n) (λ k. is (exprs.Negated k)) part (exprs.Negated part) p.tight.0 p.tight.1 (refl, refl)),
        (prefix_atom change) (codes "- ") (at_level 0 (shown_expr part)) (tokens.Fixed Minus ∷ []) p.tight.0 (lexemes.minus_prefix change fixes) p.tight.2,
      ) in
      let text : (shown_expr (exprs.Negated part)).1 ≡ codes "- " ++ at_level 0 (shown_expr part) = ap (λ (s : Shown). s.1) (shown_negated part) in
      canonical_factor (suc n) (exprs.Negated part) (ap (λ (s : Shown). nat_lt 0 s.0) (shown_negated part)) (subst (λ (l : List ℕ). Told (Atom change) (factor (suc n)) (exprs.Negated part) l) (sym text) h)

  -- a literal or a column at each level
  plain_of : (n : ℕ) (e : Expr) (text : List ℕ) → shown_expr e ≡ (0, text) → Told (Atom change) plain_expr e text → Canonical n e
  plain_of n e text shown h =
      canonical_factor n e (ap (λ (s : Shown). nat_lt 0 s.0) shown)
      (subst (λ (s : Shown). Told (Atom change) (factor n) e s.1) (sym shown) (h.0, to_factor n e h.0 (inr (inr h.1)), h.2))

  plain_told : (n : ℕ) (e : Expr) (ts : List Token) → plain_expr e ts → Sounds ts → Canonical n e
  plain_told n e ts (inl h) sound =
      let u = unmapped literal exprs.Literal e ts h in
      let a = (literal_told change fixes) u.0 ts u.2 sound in
      subst (Canonical n) (sym u.1) (plain_of n (exprs.Literal u.0) (literal_text u.0) (shown_literal u.0) (a.0, inl (mapped literal (λ l. is (exprs.Literal l)) u.0 (exprs.Literal u.0) a.0 a.1 (refl, refl)), a.2))
  plain_told n e ts (inr h) sound =
      let u = unmapped column exprs.Column e ts h in
      let a = (column_told change fixes) u.0 ts u.2 sound in
      subst (Canonical n) (sym u.1) (plain_of n (exprs.Column u.0) (column_text u.0) (shown_column u.0) (a.0, inr (mapped column (λ c. is (exprs.Column c)) u.0 (exprs.Column u.0) a.0 a.1 (refl, refl)), a.2))

  factor_case : (n : ℕ) → ((m : ℕ) → suc m ≡ n → (e : Expr) (ts : List Token) → factor m e ts → Sounds ts → Canonical m e) → (e : Expr) (ts : List Token) → any_factor n e ts → Sounds ts → Canonical n e
  factor_case zero each e ts (inl h) sound = absurd h
  factor_case zero each e ts (inr (inl h)) sound = absurd h
  factor_case (suc n) each e ts (inl h) sound =
      let inner : Sounds h.0 = (let k : Sounds (tokens.Fixed Minus ∷ h.0) = subst Sounds h.1 sound in k.1) in
      let u = unmapped (factor n) exprs.Negated e h.0 h.2 in
      subst (Canonical (suc n)) (sym u.1) (negated_told n u.0 (each n refl u.0 h.0 u.2 inner))
  factor_case (suc n) each e ts (inr (inl h)) sound =
      let inner : Sounds h.0 = (let k : Sounds (tokens.Fixed Open ∷ h.0) = subst Sounds h.1 sound in k.1) in
      let s = h.2.1 in
      let same : e ≡ h.2.0 = s.second.2.0 in
      subst (Canonical (suc n)) (sym same) (inside_told n h.2.0 (expr_told_by n (each n refl) h.2.0 s.front s.first (first_sound s inner)))
  factor_case n each e ts (inr (inr h)) sound = plain_told n e ts h sound

  factor_told : (n : ℕ) (e : Expr) (ts : List Token) → factor n e ts → Sounds ts → Canonical n e
  factor_told zero e ts h sound = factor_case zero (λ m k. absurd (omega arith)) e ts (from_factor zero e ts h) sound
  factor_told (suc n) e ts h sound =
      factor_case (suc n) (λ m k. let same : m ≡ n = omega arith in subst (λ j. (d : Expr) (us : List Token) → factor j d us → Sounds us → Canonical j d) (sym same) (factor_told n)) e ts (from_factor (suc n) e ts h) sound

  pub expr_told : (depth : ℕ) → Respells (Atom change) (expr depth) expr_text
  expr_told depth e ts h sound = (expr_told_by depth (factor_told depth) e ts h sound).loose

-- What is printed of a condition has tokens that spell it, with parentheses where it needs them.
use Rattle.std.proofs.Common.{◌≡◌, ℕ, zero, suc, ◌<◌, ◌≤◌, map, List, [], ◌∷◌, ◌++◌, Bool, true, false, Ok, Err, refl, sym, ap, subst, ◌∙◌, append-nil, arith, inl, inr, codes}
use Rattle.std.specs.Prelude.{nat_lt}
use Rattle.sql_values.specs.declared.tree.Cond.{Cond}
use Rattle.sql_values.specs.declared.tree.Cond.TheVariants as conds
use Rattle.sql_values.specs.declared.tree.Cond.TheOpen as layers
use Rattle.sql_values.specs.declared.tree.Cond.TheFolds.{fold-roll-Cond}
use Rattle.sql_text.specs.declared.token.Fixed.{Fixed}
use Rattle.sql_text.specs.declared.token.Fixed.TheVariants.{And, Not, Or, Open, Close}
use Rattle.sql_text.specs.declared.token.Token.{Token}
use Rattle.sql_text.specs.declared.token.Token.TheVariants as tokens
use Rattle.sql_text.specs.Rules.{Rule, is, ◌▷◌, series, further}
use Rattle.sql_text.specs.Grammar.{comparison, joined, conj_over, cond_over, neg, cond as cond_rule}
use Rattle.sql_text.specs.Printing.{joined_text, Shown, opening, closing, at_level, layer_text, shown_cond, cond_text}
use Rattle.std.proofs.lemmas.Bool.Decides.{nat_tests}
use Rattle.sql_text.specs.Reading.{neg_at, conj_by, cond_by}
use Rattle.sql_text.proofs.Fields.{Reads, Rules, Reach, IsField}
use Rattle.sql_text.proofs.ReadRules.{neg_kinds, any_neg, to_neg, from_neg, neg_field, conj_field, cond_over_field}
use Rattle.sql_text.proofs.Written.{Atom, prefix_of, closing_of, atom_suffix, prefix_atom}
use Rattle.sql_text.proofs.Lexemes as lexemes
use Rattle.sql_text.proofs.Sound.{Sounds}
use Rattle.sql_text.proofs.Told.{Told, Respells, first_sound, mapped, unmapped}
use Rattle.sql_text.proofs.Respelled.{series_told}
use Rattle.sql_text.proofs.RespelledTests.{test_told}

shown_not : (part : Cond) → shown_cond (conds.Not part) ≡ (0, codes "NOT " ++ at_level 0 (shown_cond part))
shown_not part = ap shown_cond (sym (conds.rolls-Not part)) ∙ fold-roll-Cond Shown layer_text (layers.Not part)

shown_all : (parts : List Cond) → shown_cond (conds.All parts) ≡ (1, joined_text (codes " AND ") (map (at_level 0) (map shown_cond parts)))
shown_all parts = ap shown_cond (sym (conds.rolls-All parts)) ∙ fold-roll-Cond Shown layer_text (layers.All parts)

shown_any : (parts : List Cond) → shown_cond (conds.Any parts) ≡ (2, joined_text (codes " OR ") (map (at_level 1) (map shown_cond parts)))
shown_any parts = ap shown_cond (sym (conds.rolls-Any parts)) ∙ fold-roll-Cond Shown layer_text (layers.Any parts)

-- one part alone
pub alone : {X : Type 0} (f : Fixed) (A : Rule X) (node : List X → X) (c : X) (ts : List Token) → A c ts → (series f A ▷ λ parts. is (joined node parts)) c ts
alone f A node c ts h =
    mapped (series f A) (λ parts. is (joined node parts)) (c ∷ []) c ts
    (c, record { front = ts; rest = []; whole = sym (append-nil ts); first = h; second = ([], record { front = []; rest = []; whole = refl; first = refl; second = (refl, refl) }) })
    (refl, refl)

-- the parts of a value, which is one of them or a node
pub record Parts {X : Type 0} (f : Fixed) (A : Rule X) (node : List X → X) (c : X) (ts : List Token) : Type 0 where
  pub first : X
  pub others : List X
  pub is : c ≡ joined node (first ∷ others)
  pub spells : series f A (first ∷ others) ts
  pub single : others ≡ [] → A first ts

pub parts_of : {X : Type 0} (f : Fixed) (A : Rule X) (node : List X → X) (c : X) (ts : List Token) → (series f A ▷ λ parts. is (joined node parts)) c ts → Parts f A node c ts
parts_of {X} f A node c ts h =
    let u = unmapped (series f A) (joined node) c ts h in
    let s = u.2.1 in
    let r = s.second.1 in
    let all : u.0 ≡ u.2.0 ∷ s.second.0 = r.second.0 in
    let behind : s.rest ≡ r.front = r.whole ∙ ap (λ (l : List Token). r.front ++ l) r.second.1 ∙ append-nil r.front in
    record {
      first = u.2.0;
      others = s.second.0;
      is = u.1 ∙ ap (joined node) all;
      spells = subst (λ (l : List X). series f A l ts) all u.2;
      single = λ none.
          let nothing : r.front ≡ [] = subst (λ (l : List X). further f A l r.front) none r.first in
          subst (A u.2.0) (sym (s.whole ∙ ap (λ (l : List Token). s.front ++ l) (behind ∙ nothing) ∙ append-nil s.front)) s.first;
    }

-- what is read with some openings is read with more
pub deeper : {X : Type 0} (A : Rules X) (n : ℕ) (read : Reads X) (empty : Bool) (first further : List ℕ) → IsField A n read empty first further → (m : ℕ) (x : X) (ts : List Token) → n ≤ m → A n x ts → A m x ts
deeper {X} A n read empty first further field m x ts l h =
    let near : Reach n n x [] (read ts) = subst (λ (k : List Token). Reach n n x [] (read k)) (append-nil ts) (field.again n x ts [] h tt) in
    (elim (read ts) as (λ r. read ts ≡ r → Reach n n x [] r → A m x ts) [
      | Ok p ↦ λ e near_ok.
          let t = field.took ts x [] (e ∙ ap (λ (q : X × List Token). Ok q) near_ok) in
          subst (A m x) (sym (t.split ∙ append-nil t.front)) (t.spells m l)
      | Err stop ↦ λ e far. absurd (let less : n < n = far.1 in omega arith)
    ]) refl near

pub lower_level : (k : ℕ) → nat_lt 0 k ≡ false → (nat_lt 1 k ≡ false) × (nat_lt 2 k ≡ false)
lower_level k h = (grind (arith, nat_tests), grind (arith, nat_tests))

-- the texts of parts, at a level
texts_at : (level : ℕ) (parts : List Cond) → map (at_level level) (map shown_cond parts) ≡ map (λ c. at_level level (shown_cond c)) parts
texts_at level [] = refl
texts_at level (c ∷ parts) = ap (λ (l : List (List ℕ)). at_level level (shown_cond c) ∷ l) (texts_at level parts)

not_any : (c x y : Cond) (ys : List Cond) → c ≡ conds.Any (x ∷ y ∷ ys) → nat_lt 1 (shown_cond c).0 ≡ false → ⊥
not_any c x y ys e h =
    let two : (shown_cond c).0 ≡ 2 = ap (λ (d : Cond). (shown_cond d).0) e ∙ ap (λ (s : Shown). s.0) (shown_any (x ∷ y ∷ ys)) in
    let yes : nat_lt 1 (shown_cond c).0 ≡ true = ap (nat_lt 1) two in
    cc

not_all : (c x y : Cond) (ys : List Cond) → c ≡ conds.All (x ∷ y ∷ ys) → nat_lt 0 (shown_cond c).0 ≡ false → ⊥
not_all c x y ys e h =
    let one_is : (shown_cond c).0 ≡ 1 = ap (λ (d : Cond). (shown_cond d).0) e ∙ ap (λ (s : Shown). s.0) (shown_all (x ∷ y ∷ ys)) in
    let yes : nat_lt 0 (shown_cond c).0 ≡ true = ap (nat_lt 0) one_is in
    cc

no_or_case : (n : ℕ) (c : Cond) (ts : List Token) (first : Cond) (others : List Cond) → c ≡ joined conds.Any (first ∷ others) → (others ≡ [] → conj_over (neg n) first ts) → nat_lt 1 (shown_cond c).0 ≡ false → conj_over (neg n) c ts
no_or_case n c ts x [] e single h = subst (λ d. conj_over (neg n) d ts) (sym e) (single refl)
no_or_case n c ts x (y ∷ ys) e single h = absurd (not_any c x y ys e h)

no_or : (n : ℕ) (c : Cond) (ts : List Token) → cond_over (neg n) c ts → nat_lt 1 (shown_cond c).0 ≡ false → conj_over (neg n) c ts
no_or n c ts h e = let p = parts_of Or (conj_over (neg n)) conds.Any c ts h in no_or_case n c ts p.first p.others p.is p.single e

no_and_case : (n : ℕ) (c : Cond) (ts : List Token) (first : Cond) (others : List Cond) → c ≡ joined conds.All (first ∷ others) → (others ≡ [] → neg n first ts) → nat_lt 0 (shown_cond c).0 ≡ false → neg n c ts
no_and_case n c ts x [] e single h = subst (λ d. neg n d ts) (sym e) (single refl)
no_and_case n c ts x (y ∷ ys) e single h = absurd (not_all c x y ys e h)

no_and : (n : ℕ) (c : Cond) (ts : List Token) → conj_over (neg n) c ts → nat_lt 0 (shown_cond c).0 ≡ false → neg n c ts
no_and n c ts h e = let p = parts_of And (neg n) conds.All c ts h in no_and_case n c ts p.first p.others p.is p.single e

-- with one opening more
deeper_neg : (n : ℕ) (c : Cond) (ts : List Token) → neg n c ts → neg (suc n) c ts
deeper_neg n c ts h = deeper neg n (neg_at n) false neg_kinds (16 ∷ []) (neg_field n) (suc n) c ts (omega arith) h

deeper_conj : (n : ℕ) (c : Cond) (ts : List Token) → conj_over (neg n) c ts → conj_over (neg (suc n)) c ts
deeper_conj n c ts h = deeper (λ m. conj_over (neg m)) n (conj_by (neg_at n)) false neg_kinds (0 ∷ 16 ∷ []) (conj_field n (neg_field n)) (suc n) c ts (omega arith) h

deeper_cond : (n : ℕ) (c : Cond) (ts : List Token) → cond_over (neg n) c ts → cond_over (neg (suc n)) c ts
deeper_cond n c ts h = deeper (λ m. cond_over (neg m)) n (cond_by (neg_at n)) false neg_kinds (9 ∷ 0 ∷ 16 ∷ []) (cond_over_field n (neg_field n)) (suc n) c ts (omega arith) h

module _ (change : Token → Token) (fixes : lexemes.Fixes change) where
  -- ---- conditions

  -- a text at a level, without parentheses and with them

  unenclosed : (A : Rule Cond) (c : Cond) (level : ℕ) (s : Shown) → nat_lt level s.0 ≡ false → Told (Atom change) A c s.1 → Told (Atom change) A c (at_level level s)
  unenclosed A c level s e h =
      subst (λ b. Told (Atom change) A c (opening b ++ (s.1 ++ closing b))) (sym e) (subst (λ (l : List ℕ). Told (Atom change) A c l) (sym (append-nil s.1)) h)

  bare_text : (A : Rule Cond) (c : Cond) (level : ℕ) (s : Shown) → nat_lt level s.0 ≡ false → Told (Atom change) A c (at_level level s) → Told (Atom change) A c s.1
  bare_text A c level s e h =
      let plain : Told (Atom change) A c (s.1 ++ []) = subst (λ b. Told (Atom change) A c (opening b ++ (s.1 ++ closing b))) e h in
      subst (λ (l : List ℕ). Told (Atom change) A c l) (append-nil s.1) plain

  parenthesized_told : (n : ℕ) (c : Cond) (level : ℕ) (s : Shown) → nat_lt level s.0 ≡ true → Told (Atom change) (cond_over (neg n)) c s.1 → Told (Atom change) (neg (suc n)) c (at_level level s)
  unfolding neg
  parenthesized_told n c level s e h =
      subst (λ b. Told (Atom change) (neg (suc n)) c (opening b ++ (s.1 ++ closing b))) (sym e) (
        tokens.Fixed Open ∷ (h.0 ++ (tokens.Fixed Close ∷ [])),
        inr (inl (h.0 ++ (tokens.Fixed Close ∷ []), refl, (c, record { front = h.0; rest = tokens.Fixed Close ∷ []; whole = refl; first = h.1; second = ([], refl, (refl, refl)) }))),
        (prefix_atom change) (codes "(") (s.1 ++ codes ")") (tokens.Fixed Open ∷ []) (h.0 ++ (tokens.Fixed Close ∷ [])) ((prefix_of change) (codes "(") (tokens.Fixed Open ∷ []) (lexemes.open_symbol change fixes))
            ((atom_suffix change) s.1 (codes ")") h.0 (tokens.Fixed Close ∷ []) h.2 ((closing_of change) (codes ")") (tokens.Fixed Close ∷ []) (lexemes.close_symbol change fixes))),
      )

  -- what is printed of a condition at each level spells it there
  pub record Canonical (n : ℕ) (c : Cond) : Type 0 where
    pub low : nat_lt 2 (shown_cond c).0 ≡ false
    pub tight : Told (Atom change) (neg n) c (at_level 0 (shown_cond c))
    pub middle : Told (Atom change) (conj_over (neg n)) c (at_level 1 (shown_cond c))
    pub loose : Told (Atom change) (cond_over (neg n)) c (at_level 2 (shown_cond c))

  -- the same of what binds no tighter than AND
  record Conjoined (n : ℕ) (c : Cond) : Type 0 where
    low : nat_lt 2 (shown_cond c).0 ≡ false
    middle : Told (Atom change) (conj_over (neg n)) c (at_level 1 (shown_cond c))
    loose : Told (Atom change) (cond_over (neg n)) c (at_level 2 (shown_cond c))

  record Disjoined (n : ℕ) (c : Cond) : Type 0 where
    low : nat_lt 2 (shown_cond c).0 ≡ false
    loose : Told (Atom change) (cond_over (neg n)) c (at_level 2 (shown_cond c))

  conjoined : (n : ℕ) (c : Cond) (text : List ℕ) → Told (Atom change) (neg n) c text → Told (Atom change) (conj_over (neg n)) c text
  conjoined n c text h = (h.0, alone And (neg n) conds.All c h.0 h.1, h.2)

  disjoined : (n : ℕ) (c : Cond) (text : List ℕ) → Told (Atom change) (conj_over (neg n)) c text → Told (Atom change) (cond_over (neg n)) c text
  disjoined n c text h = (h.0, alone Or (conj_over (neg n)) conds.Any c h.0 h.1, h.2)

  -- what needs no parentheses anywhere
  canonical_test : (n : ℕ) (c : Cond) → nat_lt 0 (shown_cond c).0 ≡ false → Told (Atom change) (neg n) c (shown_cond c).1 → Canonical n c
  canonical_test n c e h =
      let l = lower_level (shown_cond c).0 e in
      let m : Told (Atom change) (conj_over (neg n)) c (shown_cond c).1 = conjoined n c (shown_cond c).1 h in
      record {
        low = l.1;
        tight = unenclosed (neg n) c 0 (shown_cond c) e h;
        middle = unenclosed (conj_over (neg n)) c 1 (shown_cond c) l.0 m;
        loose = unenclosed (cond_over (neg n)) c 2 (shown_cond c) l.1 (disjoined n c (shown_cond c).1 m);
      }

  all_told : (n : ℕ) (x y : Cond) (ys : List Cond) → Told (Atom change) (series And (neg n)) (x ∷ y ∷ ys) (joined_text (codes " AND ") (map (λ c. at_level 0 (shown_cond c)) (x ∷ y ∷ ys))) → Conjoined n (conds.All (x ∷ y ∷ ys))
  all_told n x y ys h =
      let parts : List Cond = x ∷ y ∷ ys in
      let c : Cond = conds.All parts in
      let text : List ℕ = joined_text (codes " AND ") (map (at_level 0) (map shown_cond parts)) in
      let told : Told (Atom change) (conj_over (neg n)) c text =
      subst (λ (l : List (List ℕ)). Told (Atom change) (conj_over (neg n)) c (joined_text (codes " AND ") l)) (sym (texts_at 0 parts)) (h.0, mapped (series And (neg n)) (λ ps. is (joined conds.All ps)) parts c h.0 h.1 (refl, refl), h.2) in
      record {
        low = ap (λ (s : Shown). nat_lt 2 s.0) (shown_all parts);
        middle = subst (λ (s : Shown). Told (Atom change) (conj_over (neg n)) c (at_level 1 s)) (sym (shown_all parts)) (unenclosed (conj_over (neg n)) c 1 (1, text) refl told);
        loose = subst (λ (s : Shown). Told (Atom change) (cond_over (neg n)) c (at_level 2 s)) (sym (shown_all parts)) (unenclosed (cond_over (neg n)) c 2 (1, text) refl (disjoined n c text told));
      }

  conj_case : (n : ℕ) → ((c : Cond) (ts : List Token) → neg n c ts → Sounds ts → Canonical n c) → (c : Cond) (ts : List Token) (first : Cond) (others : List Cond) → c ≡ joined conds.All (first ∷ others)
      → series And (neg n) (first ∷ others) ts → (others ≡ [] → neg n first ts) → Sounds ts → Conjoined n c
  conj_case n each c ts x [] e h single sound =
      let k = each x ts (single refl) sound in
      subst (Conjoined n) (sym e) (record { low = k.low; middle = k.middle; loose = k.loose })
  conj_case n each c ts x (y ∷ ys) e h single sound =
      subst (Conjoined n) (sym e)
      (all_told n x y ys ((series_told change fixes) And (neg n) (λ d. at_level 0 (shown_cond d)) (codes " AND ") (lexemes.and_text change fixes) (λ d us k s. (each d us k s).tight) (x ∷ y ∷ ys) ts h sound))

  -- parts joined by AND, where each part is printed so that it spells itself
  conj_told : (n : ℕ) → ((c : Cond) (ts : List Token) → neg n c ts → Sounds ts → Canonical n c) → (c : Cond) (ts : List Token) → conj_over (neg n) c ts → Sounds ts → Conjoined n c
  conj_told n each c ts h sound =
      let p = parts_of And (neg n) conds.All c ts h in
      conj_case n each c ts p.first p.others p.is p.spells p.single sound

  any_told : (n : ℕ) (x y : Cond) (ys : List Cond) → Told (Atom change) (series Or (conj_over (neg n))) (x ∷ y ∷ ys) (joined_text (codes " OR ") (map (λ c. at_level 1 (shown_cond c)) (x ∷ y ∷ ys))) → Disjoined n (conds.Any (x ∷ y ∷ ys))
  any_told n x y ys h =
      let parts : List Cond = x ∷ y ∷ ys in
      let c : Cond = conds.Any parts in
      let text : List ℕ = joined_text (codes " OR ") (map (at_level 1) (map shown_cond parts)) in
      let told : Told (Atom change) (cond_over (neg n)) c text =
      subst (λ (l : List (List ℕ)). Told (Atom change) (cond_over (neg n)) c (joined_text (codes " OR ") l)) (sym (texts_at 1 parts)) (h.0, mapped (series Or (conj_over (neg n))) (λ ps. is (joined conds.Any ps)) parts c h.0 h.1 (refl, refl), h.2) in
      record {
        low = ap (λ (s : Shown). nat_lt 2 s.0) (shown_any parts);
        loose = subst (λ (s : Shown). Told (Atom change) (cond_over (neg n)) c (at_level 2 s)) (sym (shown_any parts)) (unenclosed (cond_over (neg n)) c 2 (2, text) refl told);
      }

  cond_case : (n : ℕ) → ((c : Cond) (ts : List Token) → neg n c ts → Sounds ts → Canonical n c) → (c : Cond) (ts : List Token) (first : Cond) (others : List Cond) → c ≡ joined conds.Any (first ∷ others)
      → series Or (conj_over (neg n)) (first ∷ others) ts → (others ≡ [] → conj_over (neg n) first ts) → Sounds ts → Disjoined n c
  cond_case n each c ts x [] e h single sound =
      let k = conj_told n each x ts (single refl) sound in
      subst (Disjoined n) (sym e) (record { low = k.low; loose = k.loose })
  cond_case n each c ts x (y ∷ ys) e h single sound =
      subst (Disjoined n) (sym e)
      (any_told n x y ys ((series_told change fixes) Or (conj_over (neg n)) (λ d. at_level 1 (shown_cond d)) (codes " OR ") (lexemes.or_text change fixes) (λ d us k s. (conj_told n each d us k s).middle) (x ∷ y ∷ ys) ts h sound))

  -- parts joined by OR
  cond_told_by : (n : ℕ) → ((c : Cond) (ts : List Token) → neg n c ts → Sounds ts → Canonical n c) → (c : Cond) (ts : List Token) → cond_over (neg n) c ts → Sounds ts → Disjoined n c
  cond_told_by n each c ts h sound =
      let p = parts_of Or (conj_over (neg n)) conds.Any c ts h in
      cond_case n each c ts p.first p.others p.is p.spells p.single sound

  -- ---- what binds tighter than a node is no node

  -- ---- parentheses

  tight_inside : (n : ℕ) (c : Cond) → Told (Atom change) (cond_over (neg n)) c (shown_cond c).1 → (b : Bool) → nat_lt 0 (shown_cond c).0 ≡ b → Told (Atom change) (neg (suc n)) c (at_level 0 (shown_cond c))
  tight_inside n c h true e = parenthesized_told n c 0 (shown_cond c) e h
  tight_inside n c h false e =
      let l = lower_level (shown_cond c).0 e in
      unenclosed (neg (suc n)) c 0 (shown_cond c) e (h.0, deeper_neg n c h.0 (no_and n c h.0 (no_or n c h.0 h.1 l.0) e), h.2)

  middle_inside : (n : ℕ) (c : Cond) → Told (Atom change) (cond_over (neg n)) c (shown_cond c).1 → (b : Bool) → nat_lt 1 (shown_cond c).0 ≡ b → Told (Atom change) (conj_over (neg (suc n))) c (at_level 1 (shown_cond c))
  middle_inside n c h true e = conjoined (suc n) c (at_level 1 (shown_cond c)) (parenthesized_told n c 1 (shown_cond c) e h)
  middle_inside n c h false e = unenclosed (conj_over (neg (suc n))) c 1 (shown_cond c) e (h.0, deeper_conj n c h.0 (no_or n c h.0 h.1 e), h.2)

  inside_told : (n : ℕ) (c : Cond) → Disjoined n c → Canonical (suc n) c
  inside_told n c d =
      let h : Told (Atom change) (cond_over (neg n)) c (shown_cond c).1 = bare_text (cond_over (neg n)) c 2 (shown_cond c) d.low d.loose in
      record {
        low = d.low;
        tight = tight_inside n c h (nat_lt 0 (shown_cond c).0) refl;
        middle = middle_inside n c h (nat_lt 1 (shown_cond c).0) refl;
        loose = unenclosed (cond_over (neg (suc n))) c 2 (shown_cond c) d.low (h.0, deeper_cond n c h.0 h.1, h.2);
      }

  -- ---- NOT, and all together

  not_told : (n : ℕ) (part : Cond) → Canonical n part → Canonical (suc n) (conds.Not part)
  unfolding neg
  not_told n part p =
      let h : Told (Atom change) (neg (suc n)) (conds.Not part) (codes "NOT " ++ at_level 0 (shown_cond part)) = (
        tokens.Fixed Not ∷ p.tight.0,
        inl (p.tight.0, refl, mapped (neg n) (λ k. is (conds.Not k)) part (conds.Not part) p.tight.0 p.tight.1 (refl, refl)),
        (prefix_atom change) (codes "NOT ") (at_level 0 (shown_cond part)) (tokens.Fixed Not ∷ []) p.tight.0 (lexemes.not_prefix change fixes) p.tight.2,
      ) in
      let text : (shown_cond (conds.Not part)).1 ≡ codes "NOT " ++ at_level 0 (shown_cond part) = ap (λ (s : Shown). s.1) (shown_not part) in
      canonical_test (suc n) (conds.Not part) (ap (λ (s : Shown). nat_lt 0 s.0) (shown_not part)) (subst (λ (l : List ℕ). Told (Atom change) (neg (suc n)) (conds.Not part) l) (sym text) h)

  neg_test : (n : ℕ) (c : Cond) (ts : List Token) → comparison n c ts → Sounds ts → Canonical n c
  neg_test n c ts h sound = let t = (test_told change fixes) n c ts h sound in canonical_test n c t.1 (t.0.0, to_neg n c t.0.0 (inr (inr t.0.1)), t.0.2)

  neg_case : (n : ℕ) → ((m : ℕ) → suc m ≡ n → (c : Cond) (ts : List Token) → neg m c ts → Sounds ts → Canonical m c) → (c : Cond) (ts : List Token) → any_neg n c ts → Sounds ts → Canonical n c
  neg_case zero each c ts (inl h) sound = absurd h
  neg_case zero each c ts (inr (inl h)) sound = absurd h
  neg_case (suc n) each c ts (inl h) sound =
      let inner : Sounds h.0 = (let k : Sounds (tokens.Fixed Not ∷ h.0) = subst Sounds h.1 sound in k.1) in
      let u = unmapped (neg n) conds.Not c h.0 h.2 in
      subst (Canonical (suc n)) (sym u.1) (not_told n u.0 (each n refl u.0 h.0 u.2 inner))
  neg_case (suc n) each c ts (inr (inl h)) sound =
      let inner : Sounds h.0 = (let k : Sounds (tokens.Fixed Open ∷ h.0) = subst Sounds h.1 sound in k.1) in
      let s = h.2.1 in
      let same : c ≡ h.2.0 = s.second.2.0 in
      subst (Canonical (suc n)) (sym same) (inside_told n h.2.0 (cond_told_by n (each n refl) h.2.0 s.front s.first (first_sound s inner)))
  neg_case n each c ts (inr (inr h)) sound = neg_test n c ts h sound

  pub neg_told : (n : ℕ) (c : Cond) (ts : List Token) → neg n c ts → Sounds ts → Canonical n c
  neg_told zero c ts h sound = neg_case zero (λ m e. absurd (omega arith)) c ts (from_neg zero c ts h) sound
  neg_told (suc n) c ts h sound = neg_case (suc n) (λ m e. let same : m ≡ n = omega arith in subst (λ k. (d : Cond) (us : List Token) → neg k d us → Sounds us → Canonical k d) (sym same) (neg_told n)) c ts (from_neg (suc n) c ts h) sound

  pub cond_told : (depth : ℕ) → Respells (Atom change) (cond_rule depth) cond_text
  cond_told depth c ts h sound = (cond_told_by depth (neg_told depth) c ts h sound).loose

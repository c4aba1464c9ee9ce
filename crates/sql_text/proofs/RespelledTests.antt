-- What is printed of a test has tokens that spell it.
use Rattle.std.proofs.Common.{◌≡◌, ℕ, List, [], ◌∷◌, ◌++◌, Bool, false, refl, sym, ap, subst, ◌∙◌, inl, inr, codes}
use Rattle.std.specs.Prelude.{nat_lt}
use Rattle.sql_values.specs.declared.literal.Literal.{Literal}
use Rattle.sql_values.specs.declared.tree.ColumnName.{ColumnName}
use Rattle.sql_values.specs.declared.tree.Comparison.{Comparison}
use Rattle.sql_values.specs.declared.tree.Operand.{Operand}
use Rattle.sql_values.specs.declared.tree.Cond.{Cond}
use Rattle.sql_values.specs.declared.tree.Cond.TheVariants as conds
use Rattle.sql_values.specs.declared.tree.Cond.TheOpen as layers
use Rattle.sql_values.specs.declared.tree.Cond.TheFolds.{fold-roll-Cond}
use Rattle.sql_text.specs.declared.token.Fixed.TheVariants.{And, Between, In, Open, Close, Comma}
use Rattle.sql_text.specs.declared.token.Token.{Token}
use Rattle.sql_text.specs.declared.token.Token.TheVariants as tokens
use Rattle.sql_text.specs.Rules.{Rule, is, series}
use Rattle.sql_text.specs.Grammar.{literal, operand, literal_list, compared, listed, ranged, comparison}
use Rattle.sql_text.specs.Printing.{literal_text, column_text, operand_text, comparison_text, negation_text, literals_text, Shown, layer_text, shown_cond}
use Rattle.sql_text.proofs.Written.{Atom, atom_suffix, separator_atom, suffix_suffix}
use Rattle.sql_text.proofs.Lexemes as lexemes
use Rattle.sql_text.proofs.Sound.{Sounds}
use Rattle.sql_text.proofs.Told.{Told, first_sound, second_sound, mapped, unmapped}
use Rattle.sql_text.proofs.Respelled.{column_told, enclosed_told, literal_told, negation_told, operand_told, series_told}

shown_compare : (left : Operand) (c : Comparison) (right : Operand) → shown_cond (conds.Compare left c right) ≡ (0, operand_text left ++ (comparison_text c ++ operand_text right))
shown_compare left c right = ap shown_cond (sym (conds.rolls-Compare left c right)) ∙ fold-roll-Cond Shown layer_text (layers.Compare left c right)

shown_in : (c : ColumnName) (negated : Bool) (list : List Literal) → shown_cond (conds.In c negated list) ≡ (0, column_text c ++ (negation_text negated ++ (codes " IN (" ++ (literals_text list ++ codes ")"))))
shown_in c negated list = ap shown_cond (sym (conds.rolls-In c negated list)) ∙ fold-roll-Cond Shown layer_text (layers.In c negated list)

shown_between : (c : ColumnName) (negated : Bool) (low high : Literal) → shown_cond (conds.Between c negated low high) ≡ (0, column_text c ++ (negation_text negated ++ (codes " BETWEEN " ++ (literal_text low ++ (codes " AND " ++ literal_text high)))))
shown_between c negated low high = ap shown_cond (sym (conds.rolls-Between c negated low high)) ∙ fold-roll-Cond Shown layer_text (layers.Between c negated low high)

module _ (change : Token → Token) (fixes : lexemes.Fixes change) where
  -- ---- tests

  -- a test and its text, which needs no parentheses
  abbrev Tested : Rule Cond → Cond → Type 0
  Tested A c = Told (Atom change) A c (shown_cond c).1 × (nat_lt 0 (shown_cond c).0 ≡ false)

  tested_of : (A : Rule Cond) (c : Cond) (text : List ℕ) → shown_cond c ≡ (0, text) → Told (Atom change) A c text → Tested A c
  tested_of A c text e h = subst (λ (s : Shown). Told (Atom change) A c s.1 × (nat_lt 0 s.0 ≡ false)) (sym e) (h, refl)

  tested_as : (A : Rule Cond) (c d : Cond) → c ≡ d → Tested A d → Tested A c
  tested_as A c d e h = subst (Tested A) (sym e) h

  compared_told : (c : Cond) (ts : List Token) → compared c ts → Sounds ts → Tested compared c
  compared_told c ts (left, s) sound =
      let q = s.second in
      let u = unmapped operand (conds.Compare left q.0) c q.1.rest q.1.second in
      let a = (operand_told change fixes) left s.front s.first (first_sound s sound) in
      let b = (operand_told change fixes) u.0 q.1.rest u.2 (second_sound q.1 (second_sound s sound)) in
      let sign = (lexemes.comparison_sign change fixes) q.0 in
      tested_as compared c (conds.Compare left q.0 u.0) u.1
      (tested_of compared (conds.Compare left q.0 u.0) (operand_text left ++ (comparison_text q.0 ++ operand_text u.0)) (shown_compare left q.0 u.0) (
        a.0 ++ (tokens.Fixed sign.0 ∷ b.0),
        (
          left,
          record {
            front = a.0;
            rest = tokens.Fixed sign.0 ∷ b.0;
            whole = refl;
            first = a.1;
            second = (q.0, record { front = tokens.Fixed sign.0 ∷ []; rest = b.0; whole = refl; first = (tokens.Fixed sign.0, refl, sign.1); second = mapped operand (λ r. is (conds.Compare left q.0 r)) u.0 (conds.Compare left q.0 u.0) b.0 b.1 (refl, refl) });
          },
        ),
        (atom_suffix change) (operand_text left) (comparison_text q.0 ++ operand_text u.0) a.0 (tokens.Fixed sign.0 ∷ b.0) a.2
            ((separator_atom change) (comparison_text q.0) (operand_text u.0) (tokens.Fixed sign.0 ∷ []) b.0 sign.2 b.2),
      ))

  listed_told : (depth : ℕ) (c : Cond) (ts : List Token) → listed depth c ts → Sounds ts → Tested (listed depth) c
  listed_told depth c ts (k, s) sound =
      let negated = s.second in
      let inner : Sounds negated.1.rest = second_sound negated.1 (second_sound s sound) in
      let behind = negated.1.second in
      let inside : Sounds behind.0 = (let f : Sounds (tokens.Fixed In ∷ behind.0) = subst Sounds behind.1 inner in f.1) in
      let u = unmapped (literal_list depth) (conds.In k negated.0) c behind.0 behind.2 in
      let a = (column_told change fixes) k s.front s.first (first_sound s sound) in
      let n = (negation_told change fixes) negated.0 in
      let l = (enclosed_told change fixes) (series Comma literal) literals_text ((series_told change fixes) Comma literal literal_text (codes ",") (lexemes.comma_symbol change fixes) (literal_told change fixes)) depth u.0 behind.0 u.2 inside in
      let list : List Token = l.0 ++ (tokens.Fixed Close ∷ []) in
      tested_as (listed depth) c (conds.In k negated.0 u.0) u.1
      (tested_of (listed depth) (conds.In k negated.0 u.0) (column_text k ++ (negation_text negated.0 ++ (codes " IN (" ++ (literals_text u.0 ++ codes ")")))) (shown_in k negated.0 u.0) (
        a.0 ++ (n.0 ++ (tokens.Fixed In ∷ (tokens.Fixed Open ∷ list))),
        (
          k,
          record {
            front = a.0;
            rest = n.0 ++ (tokens.Fixed In ∷ (tokens.Fixed Open ∷ list));
            whole = refl;
            first = a.1;
            second = (
              negated.0,
              record {
                front = n.0;
                rest = tokens.Fixed In ∷ (tokens.Fixed Open ∷ list);
                whole = refl;
                first = n.1;
                second = (tokens.Fixed Open ∷ list, refl, mapped (literal_list depth) (λ v. is (conds.In k negated.0 v)) u.0 (conds.In k negated.0 u.0) (tokens.Fixed Open ∷ list) l.1 (refl, refl));
              },
            );
          },
        ),
        (atom_suffix change) (column_text k) (negation_text negated.0 ++ (codes " IN (" ++ (literals_text u.0 ++ codes ")"))) a.0 (n.0 ++ (tokens.Fixed In ∷ (tokens.Fixed Open ∷ list))) a.2
            ((suffix_suffix change) (negation_text negated.0) (codes " IN (" ++ (literals_text u.0 ++ codes ")")) n.0 (tokens.Fixed In ∷ (tokens.Fixed Open ∷ list)) n.2
            ((separator_atom change) (codes " IN (") (literals_text u.0 ++ codes ")") (tokens.Fixed In ∷ tokens.Fixed Open ∷ []) list (lexemes.in_text change fixes) l.2)),
      ))

  ranged_told : (c : Cond) (ts : List Token) → ranged c ts → Sounds ts → Tested ranged c
  ranged_told c ts (k, s) sound =
      let negated = s.second in
      let inner : Sounds negated.1.rest = second_sound negated.1 (second_sound s sound) in
      let behind = negated.1.second in
      let inside : Sounds behind.0 = (let f : Sounds (tokens.Fixed Between ∷ behind.0) = subst Sounds behind.1 inner in f.1) in
      let low = behind.2 in
      let later = low.1.second in
      let last : Sounds later.0 = (let f : Sounds (tokens.Fixed And ∷ later.0) = subst Sounds later.1 (second_sound low.1 inside) in f.1) in
      let u = unmapped literal (conds.Between k negated.0 low.0) c later.0 later.2 in
      let a = (column_told change fixes) k s.front s.first (first_sound s sound) in
      let n = (negation_told change fixes) negated.0 in
      let p = (literal_told change fixes) low.0 low.1.front low.1.first (first_sound low.1 inside) in
      let q = (literal_told change fixes) u.0 later.0 u.2 last in
      tested_as ranged c (conds.Between k negated.0 low.0 u.0) u.1
      (tested_of ranged (conds.Between k negated.0 low.0 u.0) (column_text k ++ (negation_text negated.0 ++ (codes " BETWEEN " ++ (literal_text low.0 ++ (codes " AND " ++ literal_text u.0))))) (shown_between k negated.0 low.0 u.0) (
        a.0 ++ (n.0 ++ (tokens.Fixed Between ∷ (p.0 ++ (tokens.Fixed And ∷ q.0)))),
        (
          k,
          record {
            front = a.0;
            rest = n.0 ++ (tokens.Fixed Between ∷ (p.0 ++ (tokens.Fixed And ∷ q.0)));
            whole = refl;
            first = a.1;
            second = (
              negated.0,
              record {
                front = n.0;
                rest = tokens.Fixed Between ∷ (p.0 ++ (tokens.Fixed And ∷ q.0));
                whole = refl;
                first = n.1;
                second = (
                  p.0 ++ (tokens.Fixed And ∷ q.0),
                  refl,
                  (
                    low.0,
                    record {
                      front = p.0;
                      rest = tokens.Fixed And ∷ q.0;
                      whole = refl;
                      first = p.1;
                      second = (q.0, refl, mapped literal (λ v. is (conds.Between k negated.0 low.0 v)) u.0 (conds.Between k negated.0 low.0 u.0) q.0 q.1 (refl, refl));
                    },
                  ),
                );
              },
            );
          },
        ),
        (atom_suffix change) (column_text k) (negation_text negated.0 ++ (codes " BETWEEN " ++ (literal_text low.0 ++ (codes " AND " ++ literal_text u.0)))) a.0 (n.0 ++ (tokens.Fixed Between ∷ (p.0 ++ (tokens.Fixed And ∷ q.0)))) a.2
            ((suffix_suffix change) (negation_text negated.0) (codes " BETWEEN " ++ (literal_text low.0 ++ (codes " AND " ++ literal_text u.0))) n.0 (tokens.Fixed Between ∷ (p.0 ++ (tokens.Fixed And ∷ q.0))) n.2
            ((separator_atom change) (codes " BETWEEN ") (literal_text low.0 ++ (codes " AND " ++ literal_text u.0)) (tokens.Fixed Between ∷ []) (p.0 ++ (tokens.Fixed And ∷ q.0)) (lexemes.between_text change fixes)
            ((atom_suffix change) (literal_text low.0) (codes " AND " ++ literal_text u.0) p.0 (tokens.Fixed And ∷ q.0) p.2
            ((separator_atom change) (codes " AND ") (literal_text u.0) (tokens.Fixed And ∷ []) q.0 (lexemes.and_text change fixes) q.2)))),
      ))

  pub test_told : (depth : ℕ) (c : Cond) (ts : List Token) → comparison depth c ts → Sounds ts → Tested (comparison depth) c
  test_told depth c ts (inl h) sound = let t = compared_told c ts h sound in ((t.0.0, inl t.0.1, t.0.2), t.1)
  test_told depth c ts (inr (inl h)) sound = let t = listed_told depth c ts h sound in ((t.0.0, inr (inl t.0.1), t.0.2), t.1)
  test_told depth c ts (inr (inr h)) sound = let t = ranged_told c ts h sound in ((t.0.0, inr (inr t.0.1), t.0.2), t.1)

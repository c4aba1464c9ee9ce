-- What is printed of names, literals and lists has tokens that spell them.
use Rattle.std.proofs.Common.{◌≡◌, ℕ, ℤ, pos, negsuc, zero, suc, map, List, [], ◌∷◌, ◌++◌, Bool, true, false, Some, None, refl, sym, subst, append_assoc, inl, inr, codes}
use Rattle.std.specs.List.{flat_map}
use Rattle.std.specs.Str.{IsUtf8}
use Rattle.sql_values.specs.Names.{is_name}
use Rattle.sql_values.specs.declared.literal.Literal.{Literal}
use Rattle.sql_values.specs.declared.literal.Literal.TheVariants as literals
use Rattle.sql_values.specs.declared.tree.ColumnName.{ColumnName}
use Rattle.sql_values.specs.declared.tree.Operand.TheVariants as operands
use Rattle.sql_text.specs.declared.token.Fixed.{Fixed}
use Rattle.sql_text.specs.declared.token.Fixed.TheVariants.{As, Not, Null, Open, Close, Dot}
use Rattle.sql_text.specs.declared.token.Token.{Token}
use Rattle.sql_text.specs.declared.token.Token.TheVariants as tokens
use Rattle.sql_text.specs.Rules.{Rule, is, series, further, many, at_most_further, parenthesized, optional}
use Rattle.sql_text.specs.Grammar.{name_of, literal_of, name, literal, table, column, alias, operand}
use Rattle.sql_text.specs.Printing.{literal_text, name_text, joined_text, column_text, operand_text, negation_text, alias_text}
use Rattle.sql_text.proofs.Written.{Atom, Suffix, Prefix, Separator, closing_of, nothing_behind, atom_suffix, prefix_atom, separator_atom, suffix_suffix, atom_separator}
use Rattle.sql_text.proofs.Lexemes as lexemes
use Rattle.sql_text.proofs.Sound.{InRange, Sound, Sounds, escapes_utf8}
use Rattle.sql_text.proofs.Told.{Told, Respells, first_sound, second_sound, mapped, unmapped, retold}

name_case : (t : Token) (n : List ℕ) → name_of t ≡ Some n → Sound t → is_name n ≡ true
name_case (tokens.Bare m) n e h = let same : m ≡ n = cc in subst (λ (l : List ℕ). is_name l ≡ true) same h
name_case (tokens.Quoted m) n e h = let same : m ≡ n = cc in subst (λ (l : List ℕ). is_name l ≡ true) same h
name_case (tokens.Fixed f) n e h = absurd cc
name_case (tokens.Digits z) n e h = absurd cc
name_case (tokens.Signed z) n e h = absurd cc
name_case (tokens.Text t) n e h = absurd cc
name_case tokens.Bad n e h = absurd cc

abbrev bare : List ℕ → ColumnName
bare n = record { table = None; column = n }

abbrev qualified : List ℕ → List ℕ → ColumnName
qualified n m = record { table = Some n; column = m }

module _ (change : Token → Token) (fixes : lexemes.Fixes change) where
  -- ---- names and literals

  pub name_told : Respells (Atom change) name name_text
  name_told n ts h sound =
      let s : Sounds (h.0 ∷ []) = subst Sounds h.1 sound in
      (tokens.Quoted n ∷ [], (tokens.Quoted n, refl, refl), (lexemes.name_atom change fixes) false n (name_case h.0 n h.2 s.0))

  number_told : (z : ℤ) → InRange z → Told (Atom change) literal (literals.Number z) (literal_text (literals.Number z))
  number_told (pos n) h = (tokens.Digits (pos n) ∷ [], (tokens.Digits (pos n), refl, refl), (lexemes.digits_atom change fixes) false n h)
  number_told (negsuc n) h = (tokens.Signed (negsuc n) ∷ [], (tokens.Signed (negsuc n), refl, refl), (lexemes.minus_atom change fixes) n h)

  text_told : (t : List ℕ) → IsUtf8 t → Told (Atom change) literal (literals.Text t) (literal_text (literals.Text t))
  text_told t u = (tokens.Text t ∷ [], (tokens.Text t, refl, refl), (lexemes.text_atom change fixes) false t u (escapes_utf8 t u))

  literal_case : (t : Token) (l : Literal) → literal_of t ≡ Some l → Sound t → Told (Atom change) literal l (literal_text l)
  literal_case (tokens.Digits z) l e h = let same : literals.Number z ≡ l = cc in subst (λ (k : Literal). Told (Atom change) literal k (literal_text k)) same (number_told z h)
  literal_case (tokens.Signed z) l e h = let same : literals.Number z ≡ l = cc in subst (λ (k : Literal). Told (Atom change) literal k (literal_text k)) same (number_told z h)
  literal_case (tokens.Text t) l e h = let same : literals.Text t ≡ l = cc in subst (λ (k : Literal). Told (Atom change) literal k (literal_text k)) same (text_told t h)
  literal_case (tokens.Fixed Null) l e h = let same : literals.Null ≡ l = cc in subst (λ (k : Literal). Told (Atom change) literal k (literal_text k)) same (tokens.Fixed Null ∷ [], (tokens.Fixed Null, refl, refl), (lexemes.null_atom change fixes))
  literal_case (tokens.Fixed f) l e h = absurd cc
  literal_case (tokens.Bare n) l e h = absurd cc
  literal_case (tokens.Quoted n) l e h = absurd cc
  literal_case tokens.Bad l e h = absurd cc

  pub literal_told : Respells (Atom change) literal literal_text
  literal_told l ts h sound = let s : Sounds (h.0 ∷ []) = subst Sounds h.1 sound in literal_case h.0 l h.2 s.0

  -- ---- parts

  -- further parts, each behind a separator
  further_told : {X : Type 0} (f : Fixed) (A : Rule X) (text : X → List ℕ) (between : List ℕ) → (Separator change) between (tokens.Fixed f ∷ []) → Respells (Atom change) A text
      → (xs : List X) (ts : List Token) → further f A xs ts → Sounds ts → Told (Suffix change) (further f A) xs (flat_map (λ y. between ++ y) (map text xs))
  further_told f A text between p told [] ts h sound = ([], refl, (nothing_behind change))
  further_told f A text between p told (x ∷ xs) ts h sound =
      let inner : Sounds h.0 = (let s : Sounds (tokens.Fixed f ∷ h.0) = subst Sounds h.1 sound in s.1) in
      let a = told x h.2.front h.2.first (first_sound h.2 inner) in
      let b = further_told f A text between p told xs h.2.rest h.2.second (second_sound h.2 inner) in (
        tokens.Fixed f ∷ (a.0 ++ b.0),
        (a.0 ++ b.0, refl, record { front = a.0; rest = b.0; whole = refl; first = a.1; second = b.1 }),
        (suffix_suffix change) (between ++ text x) (flat_map (λ y. between ++ y) (map text xs)) (tokens.Fixed f ∷ a.0) b.0 ((separator_atom change) between (text x) (tokens.Fixed f ∷ []) a.0 p a.2) b.2,
      )

  pub series_told : {X : Type 0} (f : Fixed) (A : Rule X) (text : X → List ℕ) (between : List ℕ) → (Separator change) between (tokens.Fixed f ∷ []) → Respells (Atom change) A text
      → (xs : List X) (ts : List Token) → series f A xs ts → Sounds ts → Told (Atom change) (series f A) xs (joined_text between (map text xs))
  series_told {X} f A text between p told xs ts (x, s) sound =
      let rest = s.second in
      let a = told x s.front s.first (first_sound s sound) in
      let inner : Sounds s.rest = second_sound s sound in
      let b = further_told f A text between p told rest.0 rest.1.front rest.1.first (first_sound rest.1 inner) in
      subst (λ (l : List X). Told (Atom change) (series f A) l (joined_text between (map text l))) (sym rest.1.second.0) (
        a.0 ++ b.0,
        (x, record { front = a.0; rest = b.0; whole = refl; first = a.1; second = mapped (further f A) (λ ys. is (x ∷ ys)) rest.0 (x ∷ rest.0) b.0 b.1 (refl, refl) }),
        (atom_suffix change) (text x) (flat_map (λ y. between ++ y) (map text rest.0)) a.0 b.0 a.2 b.2,
      )

  -- parts, one behind the other
  pub many_told : {X : Type 0} (A : Rule X) (text : X → List ℕ) → Respells (Suffix change) A text → (xs : List X) (ts : List Token) → many A xs ts → Sounds ts → Told (Suffix change) (many A) xs (flat_map text xs)
  many_told A text told [] ts h sound = ([], refl, (nothing_behind change))
  many_told A text told (x ∷ xs) ts s sound =
      let a = told x s.front s.first (first_sound s sound) in
      let b = many_told A text told xs s.rest s.second (second_sound s sound) in
      (a.0 ++ b.0, record { front = a.0; rest = b.0; whole = refl; first = a.1; second = b.1 }, (suffix_suffix change) (text x) (flat_map text xs) a.0 b.0 a.2 b.2)

  -- in parentheses
  pub enclosed_told : {X : Type 0} (A : Rule X) (text : X → List ℕ) → Respells (Atom change) A text → (depth : ℕ) (x : X) (ts : List Token) → parenthesized A depth x ts → Sounds ts
      → (us : List Token) × parenthesized A depth x (tokens.Fixed Open ∷ (us ++ (tokens.Fixed Close ∷ []))) × (Atom change) (text x ++ codes ")") (us ++ (tokens.Fixed Close ∷ []))
  enclosed_told A text told zero x ts h sound = absurd h
  enclosed_told A text told (suc depth) x ts (rest, e, (y, s)) sound =
      let inner : Sounds rest = (let k : Sounds (tokens.Fixed Open ∷ rest) = subst Sounds e sound in k.1) in
      let a = told y s.front s.first (first_sound s inner) in
      let same : x ≡ y = s.second.2.0 in
      subst (λ z. (us : List Token) × parenthesized A (suc depth) z (tokens.Fixed Open ∷ (us ++ (tokens.Fixed Close ∷ []))) × (Atom change) (text z ++ codes ")") (us ++ (tokens.Fixed Close ∷ []))) (sym same) (
        a.0,
        (a.0 ++ (tokens.Fixed Close ∷ []), refl, (y, record { front = a.0; rest = tokens.Fixed Close ∷ []; whole = refl; first = a.1; second = ([], refl, (refl, refl)) })),
        (atom_suffix change) (text y) (codes ")") a.0 (tokens.Fixed Close ∷ []) a.2 ((closing_of change) (codes ")") (tokens.Fixed Close ∷ []) (lexemes.close_symbol change fixes)),
      )

  -- ---- tables, columns and aliases

  pub table_told : Respells (Atom change) table name_text
  table_told n ts (inl (v, s)) sound =
      let inner : Sounds s.second.0 = (let k : Sounds (tokens.Fixed Dot ∷ s.second.0) = subst Sounds s.second.1 (second_sound s sound) in k.1) in
      let a = name_told n s.second.0 s.second.2 inner in
      (a.0, inr a.1, a.2)
  table_told n ts (inr h) sound = let a = name_told n ts h sound in (a.0, inr a.1, a.2)

  qualified_told : (n m : List ℕ) → Told (Atom change) name n (name_text n) → Told (Atom change) name m (name_text m) → Told (Atom change) column (qualified n m) (column_text (qualified n m))
  qualified_told n m a b =
      let dotted : (Prefix change) (name_text n ++ codes ".") (a.0 ++ (tokens.Fixed Dot ∷ [])) = (atom_separator change) (name_text n) (codes ".") a.0 (tokens.Fixed Dot ∷ []) a.2 (lexemes.dot_symbol change fixes) in (
        (a.0 ++ (tokens.Fixed Dot ∷ [])) ++ b.0,
        inl (n, record { front = a.0; rest = tokens.Fixed Dot ∷ b.0; whole = append_assoc a.0 (tokens.Fixed Dot ∷ []) b.0; first = a.1; second = (b.0, refl, mapped name (λ k. is (qualified n k)) m (qualified n m) b.0 b.1 (refl, refl)) }),
        (prefix_atom change) (name_text n ++ codes ".") (name_text m) (a.0 ++ (tokens.Fixed Dot ∷ [])) b.0 dotted b.2,
      )

  pub column_told : Respells (Atom change) column column_text
  column_told c ts (inl (n, s)) sound =
      let inner : Sounds s.second.0 = (let k : Sounds (tokens.Fixed Dot ∷ s.second.0) = subst Sounds s.second.1 (second_sound s sound) in k.1) in
      let u = unmapped name (qualified n) c s.second.0 s.second.2 in
      retold (Atom change) column column_text c (qualified n u.0) u.1 (qualified_told n u.0 (name_told n s.front s.first (first_sound s sound)) (name_told u.0 s.second.0 u.2 inner))
  column_told c ts (inr h) sound =
      let u = unmapped name bare c ts h in
      let a = name_told u.0 ts u.2 sound in
      retold (Atom change) column column_text c (bare u.0) u.1 (a.0, inr (mapped name (λ k. is (bare k)) u.0 (bare u.0) a.0 a.1 (refl, refl)), a.2)

  alias_some : (n : List ℕ) (ts : List Token) → name n ts → Sounds ts → Told (Suffix change) alias (Some n) (alias_text (Some n))
  alias_some n ts h sound =
      let a = name_told n ts h sound in (
        tokens.Fixed As ∷ a.0,
        inl (a.0, refl, mapped name (λ k. is (Some k)) n (Some n) a.0 a.1 (refl, refl)),
        (separator_atom change) (codes " AS ") (name_text n) (tokens.Fixed As ∷ []) a.0 (lexemes.as_text change fixes) a.2,
      )

  pub alias_told : Respells (Suffix change) alias alias_text
  alias_told a ts (inl (rest, e, h)) sound =
      let inner : Sounds rest = (let k : Sounds (tokens.Fixed As ∷ rest) = subst Sounds e sound in k.1) in
      let u = unmapped name Some a rest h in
      retold (Suffix change) alias alias_text a (Some u.0) u.1 (alias_some u.0 rest u.2 inner)
  alias_told a ts (inr (inl h)) sound =
      let u = unmapped name Some a ts h in
      retold (Suffix change) alias alias_text a (Some u.0) u.1 (alias_some u.0 ts u.2 sound)
  alias_told a ts (inr (inr h)) sound = retold (Suffix change) alias alias_text a None h.0 ([], inr (inr (refl, refl)), (nothing_behind change))

  pub operand_told : Respells (Atom change) operand operand_text
  operand_told o ts (inl h) sound =
      let u = unmapped literal operands.Literal o ts h in
      let a = literal_told u.0 ts u.2 sound in
      retold (Atom change) operand operand_text o (operands.Literal u.0) u.1 (a.0, inl (mapped literal (λ k. is (operands.Literal k)) u.0 (operands.Literal u.0) a.0 a.1 (refl, refl)), a.2)
  operand_told o ts (inr h) sound =
      let u = unmapped column operands.Column o ts h in
      let a = column_told u.0 ts u.2 sound in
      retold (Atom change) operand operand_text o (operands.Column u.0) u.1 (a.0, inr (mapped column (λ k. is (operands.Column k)) u.0 (operands.Column u.0) a.0 a.1 (refl, refl)), a.2)

  pub negation_told : (b : Bool) → Told (Suffix change) (optional Not) b (negation_text b)
  negation_told true = (tokens.Fixed Not ∷ [], inl ([], refl, (refl, refl)), (lexemes.negation_suffix change fixes))
  negation_told false = ([], inr (refl, refl), (nothing_behind change))

  -- at most so many further parts
  pub few_told : {X : Type 0} (count : ℕ) (f : Fixed) (A : Rule X) (text : X → List ℕ) (between : List ℕ) → (Separator change) between (tokens.Fixed f ∷ []) → Respells (Atom change) A text
      → (xs : List X) (ts : List Token) → at_most_further count f A xs ts → Sounds ts → Told (Suffix change) (at_most_further count f A) xs (flat_map (λ y. between ++ y) (map text xs))
  few_told zero f A text between p told xs ts h sound = retold (Suffix change) (at_most_further zero f A) (λ l. flat_map (λ y. between ++ y) (map text l)) xs [] h.0 ([], (refl, refl), (nothing_behind change))
  few_told {X} (suc count) f A text between p told xs ts (inl (rest, e, (x, s))) sound =
      let inner : Sounds rest = (let k : Sounds (tokens.Fixed f ∷ rest) = subst Sounds e sound in k.1) in
      let u = unmapped (at_most_further count f A) (λ (ys : List X). x ∷ ys) xs s.rest s.second in
      let a = told x s.front s.first (first_sound s inner) in
      let b = few_told count f A text between p told u.0 s.rest u.2 (second_sound s inner) in
      retold (Suffix change) (at_most_further (suc count) f A) (λ l. flat_map (λ y. between ++ y) (map text l)) xs (x ∷ u.0) u.1 (
        tokens.Fixed f ∷ (a.0 ++ b.0),
        inl (a.0 ++ b.0, refl, (x, record { front = a.0; rest = b.0; whole = refl; first = a.1; second = mapped (at_most_further count f A) (λ ys. is (x ∷ ys)) u.0 (x ∷ u.0) b.0 b.1 (refl, refl) })),
        (suffix_suffix change) (between ++ text x) (flat_map (λ y. between ++ y) (map text u.0)) (tokens.Fixed f ∷ a.0) b.0 ((separator_atom change) between (text x) (tokens.Fixed f ∷ []) a.0 p a.2) b.2,
      )
  few_told (suc count) f A text between p told xs ts (inr h) sound =
      retold (Suffix change) (at_most_further (suc count) f A) (λ l. flat_map (λ y. between ++ y) (map text l)) xs [] h.0 ([], inr (refl, refl), (nothing_behind change))

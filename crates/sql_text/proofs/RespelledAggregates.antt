-- What is printed of aggregates has tokens that spell them.
use Rattle.std.proofs.Common.{◌≡◌, ℕ, zero, suc, List, [], ◌∷◌, ◌++◌, refl, subst, ◌∙◌, inl, inr, codes}
use Rattle.sql_values.specs.declared.tree.ColumnName.{ColumnName}
use Rattle.sql_text.specs.declared.link.AggregateCall.{AggregateCall}
use Rattle.sql_text.specs.declared.link.AggregateCall.TheVariants as calls
use Rattle.sql_text.specs.declared.statement.AggregateItem.{AggregateItem}
use Rattle.sql_text.specs.declared.token.Fixed.{Fixed}
use Rattle.sql_text.specs.declared.token.Fixed.TheVariants.{Count, Max, Min, Sum, Open, Close, Star}
use Rattle.sql_text.specs.declared.token.Token.{Token}
use Rattle.sql_text.specs.declared.token.Token.TheVariants as tokens
use Rattle.sql_text.specs.Rules.{is, ◌⊳◌, parenthesized}
use Rattle.sql_text.specs.Grammar.{column, alias, of_column, aggregate, aggregate_item}
use Rattle.sql_text.specs.Printing.{column_text, alias_text, call_text, aggregate_item_text}
use Rattle.sql_text.proofs.Written.{Atom, Prefix, closing_of, atom_suffix, prefix_atom, separator_alone}
use Rattle.sql_text.proofs.Lexemes as lexemes
use Rattle.sql_text.proofs.Sound.{Sounds}
use Rattle.sql_text.proofs.Told.{Told, Respells, first_sound, second_sound, mapped, unmapped, retold}
use Rattle.sql_text.proofs.Respelled.{alias_told, column_told, enclosed_told}

module _ (change : Token → Token) (fixes : lexemes.Fixes change) where
  -- a column in parentheses, behind a word
  called_told : (f : Fixed) (of : ColumnName → AggregateCall) (word : List ℕ) (depth : ℕ) → (Prefix change) word (tokens.Fixed f ∷ tokens.Fixed Open ∷ []) → (a : AggregateCall) (ts : List Token) → (f ⊳ of_column of depth) a ts → Sounds ts
      → (c : ColumnName) × (a ≡ of c) × Told (Atom change) (f ⊳ of_column of depth) (of c) (word ++ (column_text c ++ codes ")"))
  called_told f of word depth p a ts (rest, e, h) sound =
      let inner : Sounds rest = (let k : Sounds (tokens.Fixed f ∷ rest) = subst Sounds e sound in k.1) in
      let u = unmapped (parenthesized column depth) of a rest h in
      let c = (enclosed_told change fixes) column column_text (column_told change fixes) depth u.0 rest u.2 inner in
      let list : List Token = c.0 ++ (tokens.Fixed Close ∷ []) in (
        u.0,
        u.1,
        (
          tokens.Fixed f ∷ tokens.Fixed Open ∷ list,
          (tokens.Fixed Open ∷ list, refl, mapped (parenthesized column depth) (λ k. is (of k)) u.0 (of u.0) (tokens.Fixed Open ∷ list) c.1 (refl, refl)),
          (prefix_atom change) word (column_text u.0 ++ codes ")") (tokens.Fixed f ∷ tokens.Fixed Open ∷ []) list p c.2,
        ),
      )

  star_close : (Atom change) (codes "*)") (tokens.Fixed Star ∷ tokens.Fixed Close ∷ [])
  star_close =
      (atom_suffix change) (codes "*") (codes ")") (tokens.Fixed Star ∷ []) (tokens.Fixed Close ∷ []) ((separator_alone change) (codes "*") (tokens.Fixed Star ∷ []) (lexemes.star_symbol change fixes))
      ((closing_of change) (codes ")") (tokens.Fixed Close ∷ []) (lexemes.close_symbol change fixes))

  counted_told : (depth : ℕ) (a : AggregateCall) (ts : List Token) → parenthesized (Star ⊳ is calls.Count) depth a ts → Told (Atom change) (Count ⊳ parenthesized (Star ⊳ is calls.Count) depth) a (call_text a)
  counted_told zero a ts h = absurd h
  counted_told (suc depth) a ts (rest, e, (b, s)) =
      let same : a ≡ calls.Count = s.second.2.0 ∙ s.first.2.0 in
      retold (Atom change) (Count ⊳ parenthesized (Star ⊳ is calls.Count) (suc depth)) call_text a calls.Count same (
        tokens.Fixed Count ∷ tokens.Fixed Open ∷ tokens.Fixed Star ∷ tokens.Fixed Close ∷ [],
        (
          tokens.Fixed Open ∷ tokens.Fixed Star ∷ tokens.Fixed Close ∷ [],
          refl,
          (tokens.Fixed Star ∷ tokens.Fixed Close ∷ [], refl, (calls.Count, record { front = tokens.Fixed Star ∷ []; rest = tokens.Fixed Close ∷ []; whole = refl; first = ([], refl, (refl, refl)); second = ([], refl, (refl, refl)) })),
        ),
        (prefix_atom change) (codes "COUNT(") (codes "*)") (tokens.Fixed Count ∷ tokens.Fixed Open ∷ []) (tokens.Fixed Star ∷ tokens.Fixed Close ∷ []) (lexemes.count_open change fixes) star_close,
      )

  pub aggregate_told : (depth : ℕ) → Respells (Atom change) (aggregate depth) call_text
  aggregate_told depth a ts (inl h) sound = let c = counted_told depth a h.0 h.2 in (c.0, inl c.1, c.2)
  aggregate_told depth a ts (inr (inl h)) sound =
      let c = called_told Sum calls.Sum (codes "SUM(") depth (lexemes.sum_open change fixes) a ts h sound in
      retold (Atom change) (aggregate depth) call_text a (calls.Sum c.0) c.1 (c.2.0, inr (inl c.2.1), c.2.2)
  aggregate_told depth a ts (inr (inr (inl h))) sound =
      let c = called_told Min calls.Min (codes "MIN(") depth (lexemes.min_open change fixes) a ts h sound in
      retold (Atom change) (aggregate depth) call_text a (calls.Min c.0) c.1 (c.2.0, inr (inr (inl c.2.1)), c.2.2)
  aggregate_told depth a ts (inr (inr (inr h))) sound =
      let c = called_told Max calls.Max (codes "MAX(") depth (lexemes.max_open change fixes) a ts h sound in
      retold (Atom change) (aggregate depth) call_text a (calls.Max c.0) c.1 (c.2.0, inr (inr (inr c.2.1)), c.2.2)

  pub aggregate_item_told : (depth : ℕ) → Respells (Atom change) (aggregate_item depth) aggregate_item_text
  aggregate_item_told depth i ts (c, s) sound =
      let u = unmapped alias (λ a. record { call = c; alias = a }) i s.rest s.second in
      let a = aggregate_told depth c s.front s.first (first_sound s sound) in
      let b = (alias_told change fixes) u.0 s.rest u.2 (second_sound s sound) in
      let value : AggregateItem = record { call = c; alias = u.0 } in
      retold (Atom change) (aggregate_item depth) aggregate_item_text i value u.1 (
        a.0 ++ b.0,
        (c, record { front = a.0; rest = b.0; whole = refl; first = a.1; second = mapped alias (λ k. is (record { call = c; alias = k })) u.0 value b.0 b.1 (refl, refl) }),
        (atom_suffix change) (call_text c) (alias_text u.0) a.0 b.0 a.2 b.2,
      )

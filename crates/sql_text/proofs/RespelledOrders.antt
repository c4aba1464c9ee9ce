-- What is printed of ORDER BY and LIMIT has tokens that spell them.
use Rattle.std.proofs.Common.{◌≡◌, ℕ, pos, negsuc, ◌<◌, ◌^◌, map, List, [], ◌∷◌, ◌++◌, Bool, true, false, cond, Some, None, refl, sym, ap, subst, arith, inl, inr, codes}
use Rattle.std.specs.Prelude.{◌==◌, nat_lt}
use Rattle.std.specs.Fmt.{signed_decimal}
use Rattle.std.proofs.lemmas.Bool.Decides.{nat_tests}
use Rattle.sql_text.specs.declared.statement.SelectItems.{SelectItems}
use Rattle.sql_text.specs.declared.statement.SelectItems.TheVariants as items
use Rattle.sql_text.specs.declared.statement.SortItem.{SortItem}
use Rattle.sql_text.specs.declared.statement.Limit.{Limit as RowLimit}
use Rattle.sql_text.specs.declared.token.Fixed.TheVariants.{By, Desc, Limit, Offset, Order, Comma}
use Rattle.sql_text.specs.declared.token.Token.{Token}
use Rattle.sql_text.specs.declared.token.Token.TheVariants as tokens
use Rattle.sql_text.specs.Rules.{is, one, series}
use Rattle.sql_text.specs.Grammar.{count_of, direction, sort, sorts, order, behind_count, limits, limit}
use Rattle.sql_text.specs.Printing.{joined_text, column_text, direction_text, sort_text, order_text, offset_text, limit_text}
use Rattle.sql_text.proofs.Written.{Atom, Suffix, nothing_behind, atom_suffix, separator_atom}
use Rattle.sql_text.proofs.Lexemes as lexemes
use Rattle.sql_text.proofs.Sound.{Sounds}
use Rattle.sql_text.proofs.Told.{Told, Respells, first_sound, second_sound, mapped, unmapped, retold}
use Rattle.sql_text.proofs.Respelled.{column_told, series_told}

abbrev with_offset : ℕ → ℕ → RowLimit
with_offset n m = record { count = n; offset = m }

count_case : (k n : ℕ) (b : Bool) → nat_lt k (2 ^ 64) ≡ b → cond b (Some k) None ≡ Some n → (k ≡ n) × (nat_lt k (2 ^ 64) ≡ true)
count_case k n true e h = (cc, e)
count_case k n false e h = absurd cc

module _ (change : Token → Token) (fixes : lexemes.Fixes change) where
  -- ---- ORDER BY

  direction_told : Respells (Suffix change) direction direction_text
  direction_told d ts (inl (rest, e, h)) sound = retold (Suffix change) direction direction_text d true h.0 ([], inr (inr (refl, refl)), nothing_behind change)
  direction_told d ts (inr (inl (rest, e, h))) sound = retold (Suffix change) direction direction_text d false h.0 (tokens.Fixed Desc ∷ [], inr (inl ([], refl, (refl, refl))), lexemes.falling change fixes)
  direction_told d ts (inr (inr h)) sound = retold (Suffix change) direction direction_text d true h.0 ([], inr (inr (refl, refl)), nothing_behind change)

  sort_told : Respells (Atom change) sort sort_text
  sort_told x ts (c, s) sound =
      let u = unmapped direction (λ d. record { column = c; rising = d }) x s.rest s.second in
      let a = (column_told change fixes) c s.front s.first (first_sound s sound) in
      let b = direction_told u.0 s.rest u.2 (second_sound s sound) in
      let value : SortItem = record { column = c; rising = u.0 } in
      retold (Atom change) sort sort_text x value u.1 (
        a.0 ++ b.0,
        (c, record { front = a.0; rest = b.0; whole = refl; first = a.1; second = mapped direction (λ d. is (record { column = c; rising = d })) u.0 value b.0 b.1 (refl, refl) }),
        (atom_suffix change) (column_text c) (direction_text u.0) a.0 b.0 a.2 b.2,
      )

  sorts_told : Respells (Suffix change) sorts order_text
  sorts_told l ts (inl (rest, e, (more, f, (x, s)))) sound =
      let outer : Sounds rest = (let k : Sounds (tokens.Fixed Order ∷ rest) = subst Sounds e sound in k.1) in
      let inner : Sounds more = (let k : Sounds (tokens.Fixed By ∷ more) = subst Sounds f outer in k.1) in
      let xs : List SortItem = s.second.0 in
      let same : l ≡ x ∷ xs = s.second.1.second.0 in
      let h : series Comma sort l more = (x, s) in
      let a = (series_told change fixes) Comma sort sort_text (codes ", ") (lexemes.spaced_comma change fixes) sort_told (x ∷ xs) more (subst (λ (v : List SortItem). series Comma sort v more) same h) inner in
      retold (Suffix change) sorts order_text l (x ∷ xs) same (
        tokens.Fixed Order ∷ tokens.Fixed By ∷ a.0,
        inl (tokens.Fixed By ∷ a.0, refl, (a.0, refl, a.1)),
        (separator_atom change) (codes " ORDER BY ") (joined_text (codes ", ") (map sort_text (x ∷ xs))) (tokens.Fixed Order ∷ tokens.Fixed By ∷ []) a.0 (lexemes.order_by change fixes) a.2,
      )
  sorts_told l ts (inr h) sound = retold (Suffix change) sorts order_text l [] h.0 ([], inr (refl, refl), nothing_behind change)

  pub order_told : (i : SelectItems) → Respells (Suffix change) (order i) order_text
  order_told items.All l ts h sound = sorts_told l ts h sound
  order_told (items.Columns c) l ts h sound = sorts_told l ts h sound
  order_told (items.Aggregates c) l ts h sound = retold (Suffix change) (order (items.Aggregates c)) order_text l [] h.0 ([], (refl, refl), nothing_behind change)

  -- ---- LIMIT

  counts : (n : ℕ) → nat_lt n (2 ^ 64) ≡ true → Told (Atom change) (one count_of) n (signed_decimal (pos n))
  counts n h =
      let small : n < 2 ^ 64 = grind (arith, nat_tests) in
      (tokens.Digits (pos n) ∷ [], (tokens.Digits (pos n), refl, rw h refl), (lexemes.digits_atom change fixes) false n (omega arith))

  count_by : (t : Token) (n : ℕ) → count_of t ≡ Some n → Told (Atom change) (one count_of) n (signed_decimal (pos n))
  count_by (tokens.Digits (pos k)) n h = let c = count_case k n (nat_lt k (2 ^ 64)) refl h in subst (λ m. Told (Atom change) (one count_of) m (signed_decimal (pos m))) c.0 (counts k c.1)
  count_by (tokens.Digits (negsuc k)) n h = absurd cc
  count_by (tokens.Text t) n h = absurd cc
  count_by (tokens.Fixed f) n h = absurd cc
  count_by (tokens.Bare m) n h = absurd cc
  count_by (tokens.Quoted m) n h = absurd cc
  count_by (tokens.Signed m) n h = absurd cc
  count_by tokens.Bad n h = absurd cc

  pub count_told : (n : ℕ) (ts : List Token) → one count_of n ts → Told (Atom change) (one count_of) n (signed_decimal (pos n))
  count_told n ts (t, e, h) = count_by t n h

  offset_by : (n m : ℕ) (none : Bool) → (m == 0) ≡ none → Told (Atom change) (one count_of) m (signed_decimal (pos m))
      → Told (Suffix change) (behind_count n) (with_offset n m) (cond none [] (codes " OFFSET " ++ signed_decimal (pos m)))
  offset_by n m true e b = let zero : m ≡ 0 = grind (arith, nat_tests) in ([], inr (inr (ap (λ k. with_offset n k) zero, refl)), nothing_behind change)
  offset_by n m false e b = (
    tokens.Fixed Offset ∷ b.0,
    inl (b.0, refl, mapped (one count_of) (λ k. is (with_offset n k)) m (with_offset n m) b.0 b.1 (refl, refl)),
    (separator_atom change) (codes " OFFSET ") (signed_decimal (pos m)) (tokens.Fixed Offset ∷ []) b.0 (lexemes.offset_word change fixes) b.2,
  )

  offset_told : (n m : ℕ) → Told (Atom change) (one count_of) m (signed_decimal (pos m)) → Told (Suffix change) (behind_count n) (with_offset n m) (offset_text m)
  offset_told n m b = offset_by n m (m == 0) refl b

  some_told : (n m : ℕ) → Told (Atom change) (one count_of) n (signed_decimal (pos n)) → Told (Atom change) (one count_of) m (signed_decimal (pos m))
      → Told (Suffix change) limits (Some (with_offset n m)) (limit_text (Some (with_offset n m)))
  some_told n m a b =
      let c = offset_told n m b in (
        tokens.Fixed Limit ∷ (a.0 ++ c.0),
        inl (a.0 ++ c.0, refl, (n, record { front = a.0; rest = c.0; whole = refl; first = a.1; second = mapped (behind_count n) (λ l. is (Some l)) (with_offset n m) (Some (with_offset n m)) c.0 c.1 (refl, refl) })),
        (separator_atom change) (codes " LIMIT ") (signed_decimal (pos n) ++ offset_text m) (tokens.Fixed Limit ∷ []) (a.0 ++ c.0) (lexemes.limit_word change fixes)
            ((atom_suffix change) (signed_decimal (pos n)) (offset_text m) a.0 c.0 a.2 c.2),
      )

  -- behind the first count
  behind_told : (n : ℕ) (l : RowLimit) (ts : List Token) → Told (Atom change) (one count_of) n (signed_decimal (pos n)) → behind_count n l ts → Told (Suffix change) limits (Some l) (limit_text (Some l))
  behind_told n l ts a (inl (rest, e, h)) =
      let u = unmapped (one count_of) (λ m. with_offset n m) l rest h in
      subst (λ (v : RowLimit). Told (Suffix change) limits (Some v) (limit_text (Some v))) (sym u.1) (some_told n u.0 a (count_told u.0 rest u.2))
  behind_told n l ts a (inr (inl (rest, e, h))) =
      let u = unmapped (one count_of) (λ m. with_offset m n) l rest h in
      subst (λ (v : RowLimit). Told (Suffix change) limits (Some v) (limit_text (Some v))) (sym u.1) (some_told u.0 n (count_told u.0 rest u.2) a)
  behind_told n l ts a (inr (inr h)) =
      subst (λ (v : RowLimit). Told (Suffix change) limits (Some v) (limit_text (Some v))) (sym h.0) (some_told n 0 a (counts 0 refl))

  limits_told : Respells (Suffix change) limits limit_text
  limits_told l ts (inl (rest, e, (n, s))) sound =
      let u = unmapped (behind_count n) Some l s.rest s.second in
      retold (Suffix change) limits limit_text l (Some u.0) u.1 (behind_told n u.0 s.rest (count_told n s.front s.first) u.2)
  limits_told l ts (inr h) sound = retold (Suffix change) limits limit_text l None h.0 ([], inr (refl, refl), nothing_behind change)

  pub limit_told : (i : SelectItems) → Respells (Suffix change) (limit i) limit_text
  limit_told items.All l ts h sound = limits_told l ts h sound
  limit_told (items.Columns c) l ts h sound = limits_told l ts h sound
  limit_told (items.Aggregates c) l ts h sound = retold (Suffix change) (limit (items.Aggregates c)) limit_text l None h.0 ([], (refl, refl), nothing_behind change)

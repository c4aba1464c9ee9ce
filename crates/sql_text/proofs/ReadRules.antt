-- Each reading function reads its rule.
use Rattle.std.proofs.Common.{◌≡◌, ℕ, pos, zero, suc, Bool, true, false, cond, List, [], ◌∷◌, ◌++◌, Option, Some, None, Result, Ok, Err, refl, sym, ap, subst, ◌∙◌, append-nil, arith, inl, inr}
use Rattle.std.specs.Prelude.{◌&&◌, ◌||◌, ◌==◌, is_some, option_map, ◌⊎◌}
use Rattle.std.proofs.lemmas.Bool.Decides.{nat_tests}
use Rattle.sql_values.specs.declared.literal.Literal.TheVariants as literals
use Rattle.sql_values.specs.declared.tree.ColumnName.{ColumnName}
use Rattle.sql_values.specs.declared.tree.Comparison.TheVariants as comparisons
use Rattle.sql_values.specs.declared.tree.Operand.{Operand}
use Rattle.sql_values.specs.declared.tree.Operand.TheVariants as operands
use Rattle.sql_values.specs.declared.tree.Cond.{Cond}
use Rattle.sql_values.specs.declared.tree.Cond.TheVariants as conds
use Rattle.sql_values.specs.declared.places.LockMode.TheVariants as locks
use Rattle.sql_text.specs.declared.statement.Statement.TheVariants as statements
use Rattle.sql_text.specs.declared.statement.TableStatement.TheVariants as table_statements
use Rattle.sql_text.specs.declared.statement.SelectItems.{SelectItems}
use Rattle.sql_text.specs.declared.statement.SelectItems.TheVariants as items
use Rattle.sql_text.specs.declared.statement.Item.{Item}
use Rattle.sql_text.specs.declared.statement.AggregateItem.{AggregateItem}
use Rattle.sql_text.specs.declared.statement.Limit.{Limit as RowLimit}
use Rattle.sql_text.specs.declared.link.AggregateCall.{AggregateCall}
use Rattle.sql_text.specs.declared.link.AggregateCall.TheVariants as calls
use Rattle.sql_text.specs.declared.token.Fixed.{Fixed}
use Rattle.sql_text.specs.declared.token.Fixed.TheVariants.{And, As, Asc, Between, By, Count, Database, Databases, Delete, Desc, For, From, In, Inner, Insert, Into, Join, Limit, Lock, Max, Min, Mode, Not, Null, Offset, On, Or, Order, Select, Set, Share, Show, Sum, Tables, Update, Values, Where, VersionComment, Commit, End, Prepare, Recover, Replace, Rollback, Start, Xa, Open, Close, Comma, Dot, Star, Plus, Minus, Semicolon, Equal, NotEqual, Less, AtMost, Greater, AtLeast}
use Rattle.sql_text.specs.declared.token.Token.{Token}
use Rattle.sql_text.specs.declared.token.Token.TheVariants as tokens
use Rattle.sql_text.specs.declared.fault.Stop.{Stop}
use Rattle.sql_text.specs.Rules.{Rule, is, one, ◌⊳◌, ◌▷◌, ◌∣◌, opens, series, parenthesized, optional}
use Rattle.sql_text.specs.Grammar.{name_of, literal_of, comparison_of, count_of, name, literal, table, column, alias, operand, literal_list, comparison, joined, conj_over, cond_over, neg, is_spider, spider_of}
use Rattle.sql_text.specs.Grammar.{cond as cond_rule, of_column, aggregate, tuple, column_list, insert, item, column_items, aggregate_item, aggregate_items, select_items, tab, where_cond, direction, sort, sorts, order, behind_count, limits, limit, lock, locked, delete}
use Rattle.sql_text.specs.Reading.{◌>>=◌, number_of, stands, begins, behind, expect, open_at, too_deep, syntax, one_at, name_at, literal_at, head_of, behind_head_at, table_at, column_at, some_name_at, alias_at, operand_at, literal_list_at, compared_at, listed_at, ranged_at, behind_not_at, behind_column_at, comparison_at, conj_by, cond_by, closed_by, neg_at, cond_at, column_list_at, insert_at, star_at, count_at, of_column_at, aggregate_at, item_at, column_items_at, aggregate_item_at, aggregate_items_at, select_items_at, tab_at, where_at, direction_at, sort_at, sort_list_at, sorts_at, order_at, behind_count_at, counts_at, limits_at, limit_at, share_at, for_update_at, lock_at, locked_at, delete_at, series_at, parenthesized_at, further_at, with_front}
use Rattle.sql_text.proofs.Fields.{Reads, Rules, kind_of, member, apart, Clear, Some_text, IsField, or_true, and_true, both_false, is_field, one_field, fixed_field, then_field}
use Rattle.sql_text.proofs.Choices.{Tells, begins_tells, either_tells, same_reader, same_rule, either_field, fixed_or, optional_field, looked}
use Rattle.sql_text.proofs.Nested.{zero_field, suc_field, parenthesized_field, few_field, series_field}

-- ---- the same, with what is known of a field left to its type

pub both : {X Y : Type 0} {A : Rules X} {a : Reads X} {B : X → Rules Y} {b : X → Reads Y} {depth : ℕ} {empty_a empty_b : Bool} {first_a further_a first_b further_b : List ℕ}
    → IsField A depth a empty_a first_a further_a → ((x : X) → IsField (B x) depth (b x) empty_b first_b further_b) → apart first_b further_a ≡ true
    → IsField (λ n. A n ▷ λ x. B x n) depth (λ ts. a ts >>= λ p. b p.0 p.1) (empty_a && empty_b) (first_a ++ cond empty_a first_b []) (further_b ++ cond empty_b further_a [])
both {X} {Y} {A} {a} {B} {b} {depth} {empty_a} {empty_b} {first_a} {further_a} {first_b} {further_b} fa fb away = then_field A a B b depth empty_a empty_b first_a further_a first_b further_b fa fb away

pub behind_fixed : {X : Type 0} (f : Fixed) {A : Rules X} {depth : ℕ} {read : Reads X} {empty : Bool} {first further : List ℕ} → IsField A depth read empty first further
    → IsField (λ n. f ⊳ A n) depth (λ ts. expect f ts >>= read) false (number_of f ∷ []) further
behind_fixed f {A} {depth} {read} {empty} {first} {further} field = fixed_field f A depth read empty first further field

-- these kinds are among those
abbrev pub subset : List ℕ → List ℕ → Bool
subset [] t = true
subset (x ∷ s) t = member x t && subset s t

among : (k : ℕ) (s t : List ℕ) → subset s t ≡ true → member k s ≡ true → member k t ≡ true
among k [] t h e = absurd cc
among k (x ∷ s) t h e =
    let p = and_true (member x t) (subset s t) h in
    elim (or_true (k == x) (member k s) e) [
      | inl f ↦ let same : x ≡ k = grind (arith, nat_tests) in subst (λ j. member j t ≡ true) same p.0
      | inr f ↦ among k s t p.1 f
    ]

not_among : (k : ℕ) (s t : List ℕ) → subset s t ≡ true → member k t ≡ false → member k s ≡ false
not_among k [] t h e = refl
not_among k (x ∷ s) t h e =
    let p = and_true (member x t) (subset s t) h in
    let head : (k == x) ≡ false = (elim (k == x) as (λ v. (k == x) ≡ v → v ≡ false) [
      | true ↦ λ f. absurd (let same : x ≡ k = grind (arith, nat_tests) in let m : member k t ≡ true = subst (λ j. member j t ≡ true) same p.0 in cc)
      | false ↦ λ f. refl
    ]) refl in
    both_false (k == x) (member k s) head (not_among k s t p.1 e)

clear_subset : (s t : List ℕ) (ts : List Token) → subset s t ≡ true → Clear t ts → Clear s ts
clear_subset s t [] h e = tt
clear_subset s t (c ∷ ts) h e = not_among (kind_of c) s t h e

-- with these kinds, of which there may be more
pub known_as : {X : Type 0} {A : Rules X} {depth : ℕ} {read : Reads X} {empty : Bool} {first further : List ℕ} (wide_first wide_further : List ℕ) → subset first wide_first ≡ true → subset further wide_further ≡ true
    → IsField A depth read empty first further → IsField A depth read empty wide_first wide_further
known_as {X} {A} {depth} {read} {empty} {first} {further} wide_first wide_further h k field = record {
  took = field.took;
  stuck = field.stuck;
  some = field.some;
  again = λ n x front rest spells clear. field.again n x front rest spells (clear_subset further wide_further rest k clear);
  begins = λ n x c cs spells. among (kind_of c) first wide_first h (field.begins n x c cs spells);
  solid = field.solid;
}

-- ---- single tokens

name_covers : (t : Token) (x : List ℕ) → name_of t ≡ Some x → member (kind_of t) (100 ∷ []) ≡ true
name_covers (tokens.Bare n) x h = refl
name_covers (tokens.Quoted n) x h = refl
name_covers (tokens.Fixed f) x h = absurd cc
name_covers (tokens.Digits n) x h = absurd cc
name_covers (tokens.Signed n) x h = absurd cc
name_covers (tokens.Text t) x h = absurd cc
name_covers tokens.Bad x h = absurd cc

pub name_field : (depth : ℕ) → IsField (λ _. name) depth name_at false (100 ∷ []) []
unfolding name_at
name_field depth = one_field name_of (100 ∷ []) depth (record { cover = name_covers; token = tokens.Bare (97 ∷ []); example = 97 ∷ []; known = refl })

head_covers : (t : Token) (x : Bool × List ℕ) → head_of t ≡ Some x → member (kind_of t) (100 ∷ []) ≡ true
head_covers (tokens.Bare n) x h = refl
head_covers (tokens.Quoted n) x h = refl
head_covers (tokens.Fixed f) x h = absurd cc
head_covers (tokens.Digits n) x h = absurd cc
head_covers (tokens.Signed n) x h = absurd cc
head_covers (tokens.Text t) x h = absurd cc
head_covers tokens.Bad x h = absurd cc

head_field : (depth : ℕ) → IsField (λ _. one head_of) depth (one_at head_of) false (100 ∷ []) []
head_field depth = one_field head_of (100 ∷ []) depth (record { cover = head_covers; token = tokens.Quoted (97 ∷ []); example = (false, 97 ∷ []); known = refl })

abbrev pub literal_kinds : List ℕ
literal_kinds = 101 ∷ 102 ∷ 103 ∷ 8 ∷ []

literal_tells_fixed : (f : Fixed) → is_some (literal_of (tokens.Fixed f)) ≡ member (number_of f) literal_kinds
literal_tells_fixed And = refl
literal_tells_fixed As = refl
literal_tells_fixed Asc = refl
literal_tells_fixed Desc = refl
literal_tells_fixed Offset = refl
literal_tells_fixed Database = refl
literal_tells_fixed Databases = refl
literal_tells_fixed Inner = refl
literal_tells_fixed Join = refl
literal_tells_fixed On = refl
literal_tells_fixed Show = refl
literal_tells_fixed Tables = refl
literal_tells_fixed VersionComment = refl
literal_tells_fixed Between = refl
literal_tells_fixed From = refl
literal_tells_fixed In = refl
literal_tells_fixed Insert = refl
literal_tells_fixed Into = refl
literal_tells_fixed Not = refl
literal_tells_fixed Null = refl
literal_tells_fixed Or = refl
literal_tells_fixed Select = refl
literal_tells_fixed Values = refl
literal_tells_fixed Where = refl
literal_tells_fixed Open = refl
literal_tells_fixed Close = refl
literal_tells_fixed Comma = refl
literal_tells_fixed Dot = refl
literal_tells_fixed Star = refl
literal_tells_fixed Semicolon = refl
literal_tells_fixed Equal = refl
literal_tells_fixed NotEqual = refl
literal_tells_fixed Less = refl
literal_tells_fixed AtMost = refl
literal_tells_fixed Greater = refl
literal_tells_fixed AtLeast = refl
literal_tells_fixed By = refl
literal_tells_fixed Commit = refl
literal_tells_fixed Count = refl
literal_tells_fixed Delete = refl
literal_tells_fixed End = refl
literal_tells_fixed For = refl
literal_tells_fixed Limit = refl
literal_tells_fixed Lock = refl
literal_tells_fixed Max = refl
literal_tells_fixed Min = refl
literal_tells_fixed Mode = refl
literal_tells_fixed Order = refl
literal_tells_fixed Prepare = refl
literal_tells_fixed Recover = refl
literal_tells_fixed Replace = refl
literal_tells_fixed Rollback = refl
literal_tells_fixed Share = refl
literal_tells_fixed Start = refl
literal_tells_fixed Sum = refl
literal_tells_fixed Update = refl
literal_tells_fixed Xa = refl
literal_tells_fixed Set = refl
literal_tells_fixed Plus = refl
literal_tells_fixed Minus = refl

literal_head : (t : Token) (ts : List Token) → stands literal_of (t ∷ ts) ≡ member (kind_of t) literal_kinds
literal_head (tokens.Fixed f) ts = literal_tells_fixed f
literal_head (tokens.Bare n) ts = refl
literal_head (tokens.Quoted n) ts = refl
literal_head (tokens.Digits n) ts = refl
literal_head (tokens.Signed n) ts = refl
literal_head (tokens.Text t) ts = refl
literal_head tokens.Bad ts = refl

pub literal_tells : Tells (stands literal_of) literal_kinds
literal_tells = record { none = refl; head = literal_head }

name_head_fixed : (f : Fixed) → false ≡ member (number_of f) (100 ∷ [])
name_head_fixed And = refl
name_head_fixed As = refl
name_head_fixed Asc = refl
name_head_fixed Desc = refl
name_head_fixed Offset = refl
name_head_fixed Database = refl
name_head_fixed Databases = refl
name_head_fixed Inner = refl
name_head_fixed Join = refl
name_head_fixed On = refl
name_head_fixed Show = refl
name_head_fixed Tables = refl
name_head_fixed VersionComment = refl
name_head_fixed Between = refl
name_head_fixed From = refl
name_head_fixed In = refl
name_head_fixed Insert = refl
name_head_fixed Into = refl
name_head_fixed Not = refl
name_head_fixed Null = refl
name_head_fixed Or = refl
name_head_fixed Select = refl
name_head_fixed Values = refl
name_head_fixed Where = refl
name_head_fixed Open = refl
name_head_fixed Close = refl
name_head_fixed Comma = refl
name_head_fixed Dot = refl
name_head_fixed Star = refl
name_head_fixed Semicolon = refl
name_head_fixed Equal = refl
name_head_fixed NotEqual = refl
name_head_fixed Less = refl
name_head_fixed AtMost = refl
name_head_fixed Greater = refl
name_head_fixed AtLeast = refl
name_head_fixed By = refl
name_head_fixed Commit = refl
name_head_fixed Count = refl
name_head_fixed Delete = refl
name_head_fixed End = refl
name_head_fixed For = refl
name_head_fixed Limit = refl
name_head_fixed Lock = refl
name_head_fixed Max = refl
name_head_fixed Min = refl
name_head_fixed Mode = refl
name_head_fixed Order = refl
name_head_fixed Prepare = refl
name_head_fixed Recover = refl
name_head_fixed Replace = refl
name_head_fixed Rollback = refl
name_head_fixed Share = refl
name_head_fixed Start = refl
name_head_fixed Sum = refl
name_head_fixed Update = refl
name_head_fixed Xa = refl
name_head_fixed Set = refl
name_head_fixed Plus = refl
name_head_fixed Minus = refl

name_head : (t : Token) (ts : List Token) → stands name_of (t ∷ ts) ≡ member (kind_of t) (100 ∷ [])
name_head (tokens.Fixed f) ts = name_head_fixed f
name_head (tokens.Bare n) ts = refl
name_head (tokens.Quoted n) ts = refl
name_head (tokens.Digits n) ts = refl
name_head (tokens.Signed n) ts = refl
name_head (tokens.Text t) ts = refl
name_head tokens.Bad ts = refl

pub name_tells : Tells (stands name_of) (100 ∷ [])
name_tells = record { none = refl; head = name_head }

abbrev comparison_kinds : List ℕ
comparison_kinds = 19 ∷ 20 ∷ 21 ∷ 22 ∷ 23 ∷ 24 ∷ []

comparison_tells_fixed : (f : Fixed) → is_some (comparison_of (tokens.Fixed f)) ≡ member (number_of f) comparison_kinds
comparison_tells_fixed And = refl
comparison_tells_fixed As = refl
comparison_tells_fixed Asc = refl
comparison_tells_fixed Desc = refl
comparison_tells_fixed Offset = refl
comparison_tells_fixed Database = refl
comparison_tells_fixed Databases = refl
comparison_tells_fixed Inner = refl
comparison_tells_fixed Join = refl
comparison_tells_fixed On = refl
comparison_tells_fixed Show = refl
comparison_tells_fixed Tables = refl
comparison_tells_fixed VersionComment = refl
comparison_tells_fixed Between = refl
comparison_tells_fixed From = refl
comparison_tells_fixed In = refl
comparison_tells_fixed Insert = refl
comparison_tells_fixed Into = refl
comparison_tells_fixed Not = refl
comparison_tells_fixed Null = refl
comparison_tells_fixed Or = refl
comparison_tells_fixed Select = refl
comparison_tells_fixed Values = refl
comparison_tells_fixed Where = refl
comparison_tells_fixed Open = refl
comparison_tells_fixed Close = refl
comparison_tells_fixed Comma = refl
comparison_tells_fixed Dot = refl
comparison_tells_fixed Star = refl
comparison_tells_fixed Semicolon = refl
comparison_tells_fixed Equal = refl
comparison_tells_fixed NotEqual = refl
comparison_tells_fixed Less = refl
comparison_tells_fixed AtMost = refl
comparison_tells_fixed Greater = refl
comparison_tells_fixed AtLeast = refl
comparison_tells_fixed By = refl
comparison_tells_fixed Commit = refl
comparison_tells_fixed Count = refl
comparison_tells_fixed Delete = refl
comparison_tells_fixed End = refl
comparison_tells_fixed For = refl
comparison_tells_fixed Limit = refl
comparison_tells_fixed Lock = refl
comparison_tells_fixed Max = refl
comparison_tells_fixed Min = refl
comparison_tells_fixed Mode = refl
comparison_tells_fixed Order = refl
comparison_tells_fixed Prepare = refl
comparison_tells_fixed Recover = refl
comparison_tells_fixed Replace = refl
comparison_tells_fixed Rollback = refl
comparison_tells_fixed Share = refl
comparison_tells_fixed Start = refl
comparison_tells_fixed Sum = refl
comparison_tells_fixed Update = refl
comparison_tells_fixed Xa = refl
comparison_tells_fixed Set = refl
comparison_tells_fixed Plus = refl
comparison_tells_fixed Minus = refl

comparison_head : (t : Token) (ts : List Token) → stands comparison_of (t ∷ ts) ≡ member (kind_of t) comparison_kinds
comparison_head (tokens.Fixed f) ts = comparison_tells_fixed f
comparison_head (tokens.Bare n) ts = refl
comparison_head (tokens.Quoted n) ts = refl
comparison_head (tokens.Digits n) ts = refl
comparison_head (tokens.Signed n) ts = refl
comparison_head (tokens.Text t) ts = refl
comparison_head tokens.Bad ts = refl

comparison_tells : Tells (stands comparison_of) comparison_kinds
comparison_tells = record { none = refl; head = comparison_head }

-- a token with a value is one of the kinds that the test tells
pub told_covers : {X : Type 0} (value : Token → Option X) (kinds : List ℕ) → Tells (stands value) kinds → (t : Token) (x : X) → value t ≡ Some x → member (kind_of t) kinds ≡ true
told_covers value kinds tells t x h = sym (tells.head t []) ∙ ap is_some h

pub literal_field : (depth : ℕ) → IsField (λ _. literal) depth literal_at false literal_kinds []
unfolding literal_at
literal_field depth = one_field literal_of literal_kinds depth (record { cover = told_covers literal_of literal_kinds literal_tells; token = tokens.Fixed Null; example = literals.Null; known = refl })

comparison_sign_field : (depth : ℕ) → IsField (λ _. one comparison_of) depth (one_at comparison_of) false comparison_kinds []
comparison_sign_field depth = one_field comparison_of comparison_kinds depth (record { cover = told_covers comparison_of comparison_kinds comparison_tells; token = tokens.Fixed Equal; example = comparisons.Equal; known = refl })

count_covers : (t : Token) (x : ℕ) → count_of t ≡ Some x → member (kind_of t) (101 ∷ []) ≡ true
count_covers (tokens.Digits n) x h = refl
count_covers (tokens.Signed n) x h = absurd cc
count_covers (tokens.Text t) x h = absurd cc
count_covers (tokens.Bare n) x h = absurd cc
count_covers (tokens.Quoted n) x h = absurd cc
count_covers (tokens.Fixed f) x h = absurd cc
count_covers tokens.Bad x h = absurd cc

pub count_field : (depth : ℕ) → IsField (λ _. one count_of) depth (one_at count_of) false (101 ∷ []) []
count_field depth = one_field count_of (101 ∷ []) depth (record { cover = count_covers; token = tokens.Digits (pos 1); example = 1; known = refl })

-- ---- names and literals

-- what stands behind a name that may stand before a table's
abbrev behind_head : Bool × List ℕ → Rule (List ℕ)
behind_head (true, n) = (Dot ⊳ name) ∣ is n
behind_head (false, n) = is n

behind_head_field : (h : Bool × List ℕ) (depth : ℕ) → IsField (λ _. behind_head h) depth (behind_head_at h) true (16 ∷ []) (16 ∷ [])
behind_head_field (true, n) depth = known_as (16 ∷ []) (16 ∷ []) refl refl (fixed_or Dot (λ _. name) name_at (λ _. is n) (λ ts. Ok (n, ts)) depth false true (100 ∷ []) [] [] [] (name_field depth) (is_field n depth) refl)
behind_head_field (false, n) depth = known_as (16 ∷ []) (16 ∷ []) refl refl (is_field n depth)

head_is : (t : Token) (h : Bool × List ℕ) → head_of t ≡ Some h → (is_spider t ≡ h.0) × (name_of t ≡ Some h.1)
head_is (tokens.Bare n) h e = let s : (is_spider (tokens.Bare n), n) ≡ h = cc in (ap (λ (p : Bool × List ℕ). p.0) s, ap (λ (p : Bool × List ℕ). Some p.1) s)
head_is (tokens.Quoted n) h e = let s : (false, n) ≡ h = cc in (ap (λ (p : Bool × List ℕ). p.0) s, ap (λ (p : Bool × List ℕ). Some p.1) s)
head_is (tokens.Fixed f) h e = absurd cc
head_is (tokens.Digits n) h e = absurd cc
head_is (tokens.Signed n) h e = absurd cc
head_is (tokens.Text t) h e = absurd cc
head_is tokens.Bad h e = absurd cc

spider_head_at : (t : Token) (b v : Bool) → is_spider t ≡ b → cond b (Some true) None ≡ Some v → is_spider t ≡ true
spider_head_at t true v e h = e
spider_head_at t false v e h = absurd cc

spider_is : (t : Token) (v : Bool) → spider_of t ≡ Some v → is_spider t ≡ true
spider_is t v h = spider_head_at t (is_spider t) v refl h

spider_name : (t : Token) → is_spider t ≡ true → (n : List ℕ) × (head_of t ≡ Some (true, n))
spider_name (tokens.Bare n) e = (n, ap (λ b. Some (b, n)) e)
spider_name (tokens.Quoted n) e = absurd cc
spider_name (tokens.Fixed f) e = absurd cc
spider_name (tokens.Digits n) e = absurd cc
spider_name (tokens.Signed n) e = absurd cc
spider_name (tokens.Text t) e = absurd cc
spider_name tokens.Bad e = absurd cc

-- the rule of tables as it is read
abbrev head_table : Rule (List ℕ)
head_table = one head_of ▷ λ h. behind_head h

-- a value and its tokens, with none behind them
alone : {X : Type 0} (A : Rule X) (x : X) (ts front rest : List Token) → ts ≡ front ++ rest → rest ≡ [] → A x front → A x ts
alone A x ts front rest whole none h = subst (A x) (sym (whole ∙ ap (λ (l : List Token). front ++ l) none ∙ append-nil front)) h

to_table : (n : List ℕ) (ts : List Token) → head_table n ts → table n ts
to_table n ts ((true, m), s) =
    let q = head_is s.first.0 (true, m) s.first.2 in
    let second : ((Dot ⊳ name) ∣ is m) n s.rest = s.second in
    elim second [
      | inl k ↦ inl (true, record { front = s.front; rest = s.rest; whole = s.whole; first = (s.first.0, s.first.1, (rw q.0 refl)); second = k })
      | inr k ↦ inr (alone name n ts s.front s.rest s.whole k.1 (s.first.0, s.first.1, q.1 ∙ ap Some (sym k.0)))
    ]
to_table n ts ((false, m), s) =
    let q = head_is s.first.0 (false, m) s.first.2 in
    let k : is m n s.rest = s.second in
    inr (alone name n ts s.front s.rest s.whole k.1 (s.first.0, s.first.1, q.1 ∙ ap Some (sym k.0)))

behind_any : (b : Bool) (n : List ℕ) → behind_head (b, n) n []
behind_any true n = inr (refl, refl)
behind_any false n = (refl, refl)

from_table : (n : List ℕ) (ts : List Token) → table n ts → head_table n ts
from_table n ts (inl (v, s)) =
    let h = spider_name s.first.0 (spider_is s.first.0 v s.first.2) in
    ((true, h.0), record { front = s.front; rest = s.rest; whole = s.whole; first = (s.first.0, s.first.1, h.1); second = inl s.second })
from_table n ts (inr k) =
    ((is_spider k.0, n), record { front = k.0 ∷ []; rest = []; whole = k.1; first = (k.0, refl, ap (option_map (λ (m : List ℕ). (is_spider k.0, m))) k.2); second = behind_any (is_spider k.0) n })

pub table_field : (depth : ℕ) → IsField (λ _. table) depth table_at false (100 ∷ []) (16 ∷ [])
unfolding table_at
table_field depth =
    same_rule (λ _. head_table) (λ _. table) depth table_at false (100 ∷ []) (16 ∷ []) (λ _. to_table) (λ _. from_table)
    (known_as (100 ∷ []) (16 ∷ []) refl refl (both (head_field depth) (λ h. behind_head_field h depth) refl))

abbrev bare : List ℕ → ColumnName
bare n = record { table = None; column = n }

abbrev qualified : List ℕ → List ℕ → ColumnName
qualified n m = record { table = Some n; column = m }

-- the rule of columns as it is read
abbrev first_column : Rule ColumnName
first_column = name ▷ λ n. (Dot ⊳ (name ▷ λ m. is (qualified n m))) ∣ is (bare n)

to_column : (c : ColumnName) (ts : List Token) → first_column c ts → column c ts
to_column c ts (n, s) =
    elim s.second [
      | inl k ↦ inl (n, record { front = s.front; rest = s.rest; whole = s.whole; first = s.first; second = k })
      | inr k ↦ inr (n, record { front = s.front; rest = s.rest; whole = s.whole; first = s.first; second = k })
    ]

from_column : (c : ColumnName) (ts : List Token) → column c ts → first_column c ts
from_column c ts (inl (n, s)) = (n, record { front = s.front; rest = s.rest; whole = s.whole; first = s.first; second = inl s.second })
from_column c ts (inr (n, s)) = (n, record { front = s.front; rest = s.rest; whole = s.whole; first = s.first; second = inr s.second })

pub column_field : (depth : ℕ) → IsField (λ _. column) depth column_at false (100 ∷ []) (16 ∷ [])
unfolding column_at
column_field depth =
    same_rule (λ _. first_column) (λ _. column) depth column_at false (100 ∷ []) (16 ∷ []) (λ _. to_column) (λ _. from_column)
    (known_as (100 ∷ []) (16 ∷ []) refl refl
    (both (name_field depth) (λ n. fixed_or Dot (λ _. name ▷ λ m. is (qualified n m)) (λ ts. name_at ts >>= λ m. Ok (qualified n m.0, m.1)) (λ _. is (bare n)) (λ ts. Ok (bare n, ts)) depth false true (100 ∷ []) [] [] []
    (both (name_field depth) (λ m. is_field (qualified n m) depth) refl) (is_field (bare n) depth) refl) refl))

some_name_field : (depth : ℕ) → IsField (λ _. name ▷ λ n. is (Some n)) depth some_name_at false (100 ∷ []) []
some_name_field depth = both (name_field depth) (λ n. is_field (Some n) depth) refl

alias_field : (depth : ℕ) → IsField (λ _. alias) depth alias_at true (1 ∷ 100 ∷ []) (1 ∷ 100 ∷ [])
unfolding alias_at
alias_field depth = known_as (1 ∷ 100 ∷ []) (1 ∷ 100 ∷ []) refl refl
    (fixed_or As (λ _. name ▷ λ n. is (Some n)) some_name_at (λ _. (name ▷ λ n. is (Some n)) ∣ is None) (λ ts. cond (stands name_of ts) (some_name_at ts) (Ok (None, ts))) depth false true (100 ∷ []) [] (100 ∷ []) (100 ∷ [])
    (some_name_field depth)
    (known_as (100 ∷ []) (100 ∷ []) refl refl
    (either_field (λ _. name ▷ λ n. is (Some n)) some_name_at (λ _. is None) (λ ts. Ok (None, ts)) (stands name_of) depth true (100 ∷ []) [] [] [] (some_name_field depth) (is_field None depth) name_tells refl))
    refl)

literal_list_field : (depth : ℕ) → IsField literal_list depth (literal_list_at depth) false (13 ∷ []) []
unfolding literal_list_at
literal_list_field depth = parenthesized_field (series Comma literal) depth (series_at Comma literal_at) false literal_kinds (15 ∷ [])
    (λ n. known_as literal_kinds (15 ∷ []) refl refl (series_field Comma (λ _. literal) literal_at n literal_kinds [] (literal_field n) refl)) refl

-- ---- tests

abbrev pub operand_kinds : List ℕ
operand_kinds = 100 ∷ literal_kinds

operand_field : (depth : ℕ) → IsField (λ _. operand) depth operand_at false operand_kinds (16 ∷ [])
unfolding operand_at
operand_field depth = known_as operand_kinds (16 ∷ []) refl refl
    (either_field (λ _. literal ▷ λ l. is (operands.Literal l)) (λ ts. literal_at ts >>= λ l. Ok (operands.Literal l.0, l.1)) (λ _. column ▷ λ c. is (operands.Column c)) (λ ts. column_at ts >>= λ c. Ok (operands.Column c.0, c.1))
    (stands literal_of) depth false literal_kinds [] (100 ∷ []) (16 ∷ [])
    (both (literal_field depth) (λ l. is_field (operands.Literal l) depth) refl)
    (both (column_field depth) (λ c. is_field (operands.Column c) depth) refl)
    literal_tells refl)

-- what stands behind the first operand of a test
abbrev behind_operand : Operand → Rule Cond
behind_operand left = one comparison_of ▷ λ c. operand ▷ λ right. is (conds.Compare left c right)

abbrev in_list : ℕ → ColumnName → Bool → Rule Cond
in_list depth c negated = In ⊳ (literal_list depth ▷ λ l. is (conds.In c negated l))

abbrev in_range : ColumnName → Bool → Rule Cond
in_range c negated = Between ⊳ (literal ▷ λ low. And ⊳ (literal ▷ λ high. is (conds.Between c negated low high)))

abbrev behind_column : ℕ → ColumnName → Rule Cond
behind_column depth c = behind_operand (operands.Column c) ∣ (Not ⊳ (in_list depth c true ∣ in_range c true)) ∣ in_list depth c false ∣ in_range c false

-- the rule of tests as it is read
abbrev operand_test : ℕ → Rule Cond
operand_test depth = (literal ▷ λ l. behind_operand (operands.Literal l)) ∣ (column ▷ λ c. behind_column depth c)

compared_field : (left : Operand) (depth : ℕ) → IsField (λ _. behind_operand left) depth (compared_at left) false comparison_kinds (16 ∷ [])
unfolding compared_at
compared_field left depth = known_as comparison_kinds (16 ∷ []) refl refl
    (both (comparison_sign_field depth) (λ c. both (operand_field depth) (λ right. is_field (conds.Compare left c right) depth) refl) refl)

listed_field : (c : ColumnName) (negated : Bool) (depth : ℕ) → IsField (λ n. in_list n c negated) depth (listed_at depth c negated) false (4 ∷ []) []
unfolding listed_at
listed_field c negated depth = behind_fixed In (both (literal_list_field depth) (λ l. is_field (conds.In c negated l) depth) refl)

ranged_field : (c : ColumnName) (negated : Bool) (depth : ℕ) → IsField (λ _. in_range c negated) depth (ranged_at c negated) false (2 ∷ []) []
unfolding ranged_at
ranged_field c negated depth = behind_fixed Between
    (both (literal_field depth) (λ low. behind_fixed And (both (literal_field depth) (λ high. is_field (conds.Between c negated low high) depth) refl)) refl)

behind_not_field : (c : ColumnName) (negated : Bool) (depth : ℕ) → IsField (λ n. in_list n c negated ∣ in_range c negated) depth (behind_not_at depth c negated) false (4 ∷ 2 ∷ []) []
unfolding behind_not_at
behind_not_field c negated depth =
    either_field (λ n. in_list n c negated) (listed_at depth c negated) (λ _. in_range c negated) (ranged_at c negated) (begins In) depth false (4 ∷ []) [] (2 ∷ []) [] (listed_field c negated depth) (ranged_field c negated depth) (begins_tells In) refl

behind_column_field : (c : ColumnName) (depth : ℕ) → IsField (λ n. behind_column n c) depth (behind_column_at depth c) false (7 ∷ 4 ∷ 2 ∷ comparison_kinds) (16 ∷ [])
unfolding behind_column_at
behind_column_field c depth = known_as (7 ∷ 4 ∷ 2 ∷ comparison_kinds) (16 ∷ []) refl refl
    (either_field (λ _. behind_operand (operands.Column c)) (compared_at (operands.Column c)) (λ n. (Not ⊳ (in_list n c true ∣ in_range c true)) ∣ in_list n c false ∣ in_range c false)
    (λ ts. cond (begins Not ts) (behind_not_at depth c true (behind ts)) (behind_not_at depth c false ts)) (stands comparison_of) depth false comparison_kinds (16 ∷ []) (7 ∷ 4 ∷ 2 ∷ []) []
    (compared_field (operands.Column c) depth)
    (fixed_or Not (λ n. in_list n c true ∣ in_range c true) (behind_not_at depth c true) (λ n. in_list n c false ∣ in_range c false) (behind_not_at depth c false) depth false false (4 ∷ 2 ∷ []) [] (4 ∷ 2 ∷ []) []
    (behind_not_field c true depth) (behind_not_field c false depth) refl)
    comparison_tells refl)

literal_compared : (depth : ℕ) → IsField (λ _. literal ▷ λ l. behind_operand (operands.Literal l)) depth (λ ts. literal_at ts >>= λ l. compared_at (operands.Literal l.0) l.1) false literal_kinds (16 ∷ [])
literal_compared depth = known_as literal_kinds (16 ∷ []) refl refl (both (literal_field depth) (λ l. compared_field (operands.Literal l) depth) refl)

-- the two ways to state the tests

with_not : {X : Type 0} (A : Bool → Rule X) (x : X) (ts rest : List Token) → ts ≡ tokens.Fixed Not ∷ rest → A true x rest → (optional Not ▷ λ n. A n) x ts
with_not A x ts rest e h = (true, record { front = tokens.Fixed Not ∷ []; rest = rest; whole = e; first = inl ([], refl, (refl, refl)); second = h })

without_not : {X : Type 0} (A : Bool → Rule X) (x : X) (ts : List Token) → A false x ts → (optional Not ▷ λ n. A n) x ts
without_not A x ts h = (false, record { front = []; rest = ts; whole = refl; first = inr (refl, refl); second = h })

operand_alone : {X : Type 0} (A : Rule X) (f : X → Operand) (x : X) (ts : List Token) → A x ts → (A ▷ λ y. is (f y)) (f x) ts
operand_alone A f x ts h = (x, record { front = ts; rest = []; whole = sym (append-nil ts); first = h; second = (refl, refl) })

to_test : (depth : ℕ) (c : Cond) (ts : List Token) → operand_test depth c ts → comparison depth c ts
to_test depth c ts (inl (l, s)) =
    inl (operands.Literal l, record { front = s.front; rest = s.rest; whole = s.whole; first = inl (operand_alone literal operands.Literal l s.front s.first); second = s.second })
to_test depth c ts (inr (k, s)) =
    elim s.second [
      | inl h ↦ inl (operands.Column k, record { front = s.front; rest = s.rest; whole = s.whole; first = inr (operand_alone column operands.Column k s.front s.first); second = h })
      | inr h ↦ elim h [
        | inl n ↦ elim n.2 [
          | inl i ↦ inr (inl (k, record { front = s.front; rest = s.rest; whole = s.whole; first = s.first; second = with_not (λ b. in_list depth k b) c s.rest n.0 n.1 i }))
          | inr i ↦ inr (inr (k, record { front = s.front; rest = s.rest; whole = s.whole; first = s.first; second = with_not (λ b. in_range k b) c s.rest n.0 n.1 i }))
        ]
        | inr p ↦ elim p [
          | inl i ↦ inr (inl (k, record { front = s.front; rest = s.rest; whole = s.whole; first = s.first; second = without_not (λ b. in_list depth k b) c s.rest i }))
          | inr i ↦ inr (inr (k, record { front = s.front; rest = s.rest; whole = s.whole; first = s.first; second = without_not (λ b. in_range k b) c s.rest i }))
        ]
      ]
    ]

-- NOT or none, and then that
split_not : {X : Type 0} (A : Bool → Rule X) (x : X) (ts : List Token) → (optional Not ▷ λ n. A n) x ts → ((rest : List Token) × (ts ≡ tokens.Fixed Not ∷ rest) × A true x rest) ⊎ A false x ts
split_not A x ts (n, s) =
    elim s.first [
      | inl k ↦
          let whole : ts ≡ tokens.Fixed Not ∷ s.rest = s.whole ∙ ap (λ (l : List Token). l ++ s.rest) (k.1 ∙ ap (λ (l : List Token). tokens.Fixed Not ∷ l) k.2.1) in
          inl (s.rest, whole, subst (λ b. A b x s.rest) k.2.0 s.second)
      | inr k ↦
          let whole : ts ≡ s.rest = s.whole ∙ ap (λ (l : List Token). l ++ s.rest) k.1 in
          inr (subst (A false x) (sym whole) (subst (λ b. A b x s.rest) k.0 s.second))
    ]

-- the operand that this is
operand_front : {X : Type 0} (A : Rule X) (f : X → Operand) (left : Operand) (ts : List Token) → (A ▷ λ y. is (f y)) left ts → (x : X) × (left ≡ f x) × A x ts
operand_front A f left ts (x, s) = (x, s.second.0, alone A x ts s.front s.rest s.whole s.second.1 s.first)

from_test : (depth : ℕ) (c : Cond) (ts : List Token) → comparison depth c ts → operand_test depth c ts
from_test depth c ts (inl (left, s)) =
    elim s.first [
      | inl h ↦
          let o = operand_front literal operands.Literal left s.front h in
          inl (o.0, record { front = s.front; rest = s.rest; whole = s.whole; first = o.2; second = subst (λ v. behind_operand v c s.rest) o.1 s.second })
      | inr h ↦
          let o = operand_front column operands.Column left s.front h in
          inr (o.0, record { front = s.front; rest = s.rest; whole = s.whole; first = o.2; second = inl (subst (λ v. behind_operand v c s.rest) o.1 s.second) })
    ]
from_test depth c ts (inr (inl (k, s))) =
    elim (split_not (λ b. in_list depth k b) c s.rest s.second) [
      | inl n ↦ inr (k, record { front = s.front; rest = s.rest; whole = s.whole; first = s.first; second = inr (inl (n.0, n.1, inl n.2)) })
      | inr i ↦ inr (k, record { front = s.front; rest = s.rest; whole = s.whole; first = s.first; second = inr (inr (inl i)) })
    ]
from_test depth c ts (inr (inr (k, s))) =
    elim (split_not (λ b. in_range k b) c s.rest s.second) [
      | inl n ↦ inr (k, record { front = s.front; rest = s.rest; whole = s.whole; first = s.first; second = inr (inl (n.0, n.1, inr n.2)) })
      | inr i ↦ inr (k, record { front = s.front; rest = s.rest; whole = s.whole; first = s.first; second = inr (inr (inr i)) })
    ]

pub comparison_field : (depth : ℕ) → IsField comparison depth (comparison_at depth) false operand_kinds (16 ∷ [])
unfolding comparison_at
comparison_field depth =
    same_rule operand_test comparison depth (comparison_at depth) false operand_kinds (16 ∷ []) to_test from_test
    (known_as operand_kinds (16 ∷ []) refl refl
    (either_field (λ _. literal ▷ λ l. behind_operand (operands.Literal l)) (λ ts. literal_at ts >>= λ l. compared_at (operands.Literal l.0) l.1) (λ n. column ▷ λ c. behind_column n c) (λ ts. column_at ts >>= λ c. behind_column_at depth c.0 c.1)
    (stands literal_of) depth false literal_kinds (16 ∷ []) (100 ∷ []) (16 ∷ [])
    (literal_compared depth)
    (known_as (100 ∷ []) (16 ∷ []) refl refl (both (column_field depth) (λ c. behind_column_field c depth) refl))
    literal_tells refl))

-- ---- conditions

-- the shortest texts
some_compared : (n : ℕ) → Some_text (comparison n)
some_compared n = let s = (literal_compared 0).some 0 in record { value = s.value; text = s.text; spells = to_test n s.value s.text (inl s.spells) }

some_neg : (n : ℕ) → Some_text (neg n)
unfolding neg
some_neg zero = some_compared zero
some_neg (suc n) = let s = some_compared (suc n) in record { value = s.value; text = s.text; spells = inr (inr s.spells) }

abbrev pub neg_kinds : List ℕ
neg_kinds = 7 ∷ 13 ∷ operand_kinds

pub conj_field : (depth : ℕ) → IsField neg depth (neg_at depth) false neg_kinds (16 ∷ []) → IsField (λ n. conj_over (neg n)) depth (conj_by (neg_at depth)) false neg_kinds (0 ∷ 16 ∷ [])
conj_field depth field = known_as neg_kinds (0 ∷ 16 ∷ []) refl refl
    (both (series_field And neg (neg_at depth) depth neg_kinds (16 ∷ []) field refl) (λ parts. is_field (joined conds.All parts) depth) refl)

pub cond_over_field : (depth : ℕ) → IsField neg depth (neg_at depth) false neg_kinds (16 ∷ []) → IsField (λ n. cond_over (neg n)) depth (cond_by (neg_at depth)) false neg_kinds (9 ∷ 0 ∷ 16 ∷ [])
cond_over_field depth field = known_as neg_kinds (9 ∷ 0 ∷ 16 ∷ []) refl refl
    (both (series_field Or (λ n. conj_over (neg n)) (conj_by (neg_at depth)) depth neg_kinds (0 ∷ 16 ∷ []) (conj_field depth field) refl) (λ parts. is_field (joined conds.Any parts) depth) refl)

-- what stands behind NOT and behind an opening parenthesis
abbrev pub negated : Rules Cond
negated n = neg n ▷ λ part. is (conds.Not part)

abbrev pub enclosed : Rules Cond
enclosed n = cond_over (neg n) ▷ λ part. Close ⊳ is part

abbrev negated_at : ℕ → Reads Cond
negated_at depth ts = neg_at depth ts >>= λ part. Ok (conds.Not part.0, part.1)

negated_field : (depth : ℕ) → IsField neg depth (neg_at depth) false neg_kinds (16 ∷ []) → IsField negated depth (negated_at depth) false neg_kinds (16 ∷ [])
negated_field depth field = known_as neg_kinds (16 ∷ []) refl refl (both field (λ part. is_field (conds.Not part) depth) refl)

enclosed_field : (depth : ℕ) → IsField neg depth (neg_at depth) false neg_kinds (16 ∷ []) → IsField enclosed depth (closed_by (neg_at depth)) false neg_kinds []
enclosed_field depth field = known_as neg_kinds [] refl refl (both (cond_over_field depth field) (λ part. behind_fixed Close (is_field part depth)) refl)

some_negated : (n : ℕ) → Some_text (negated n)
some_negated n = let s = some_neg n in record { value = conds.Not s.value; text = s.text ++ []; spells = (s.value, record { front = s.text; rest = []; whole = refl; first = s.spells; second = (refl, refl) }) }

pub some_series : {X : Type 0} (f : Fixed) (A : Rule X) → Some_text A → Some_text (series f A)
some_series f A s = record {
  value = s.value ∷ [];
  text = s.text ++ [];
  spells = (s.value, record { front = s.text; rest = []; whole = refl; first = s.spells; second = ([], record { front = []; rest = []; whole = refl; first = refl; second = (refl, refl) }) });
}

pub some_mapped : {X Y : Type 0} (A : Rule X) (f : X → Y) → Some_text A → Some_text (A ▷ λ x. is (f x))
some_mapped A f s = record { value = f s.value; text = s.text ++ []; spells = (s.value, record { front = s.text; rest = []; whole = refl; first = s.spells; second = (refl, refl) }) }

some_cond : (n : ℕ) → Some_text (cond_over (neg n))
some_cond n =
    some_mapped (series Or (conj_over (neg n))) (joined conds.Any)
    (some_series Or (conj_over (neg n)) (some_mapped (series And (neg n)) (joined conds.All) (some_series And (neg n) (some_neg n))))

some_enclosed : (n : ℕ) → Some_text (enclosed n)
some_enclosed n = let s = some_cond n in record { value = s.value; text = s.text ++ (tokens.Fixed Close ∷ []); spells = (s.value, record { front = s.text; rest = tokens.Fixed Close ∷ []; whole = refl; first = s.spells; second = ([], refl, (refl, refl)) }) }

-- the rule, without its cases
abbrev pub any_neg : Rules Cond
any_neg n = opens Not negated n ∣ opens Open enclosed n ∣ comparison n

pub to_neg : (n : ℕ) (c : Cond) (ts : List Token) → any_neg n c ts → neg n c ts
unfolding neg
to_neg zero c ts (inl h) = absurd h
to_neg zero c ts (inr (inl h)) = absurd h
to_neg zero c ts (inr (inr h)) = h
to_neg (suc n) c ts h = h

pub from_neg : (n : ℕ) (c : Cond) (ts : List Token) → neg n c ts → any_neg n c ts
unfolding neg
from_neg zero c ts h = inr (inr h)
from_neg (suc n) c ts h = h

any_field : (depth : ℕ) (not_at open_at_ : Reads Cond) → IsField (opens Not negated) depth not_at false (7 ∷ []) (16 ∷ []) → IsField (opens Open enclosed) depth open_at_ false (13 ∷ []) []
    → IsField neg depth (λ ts. cond (begins Not ts) (not_at ts) (cond (begins Open ts) (open_at_ ts) (comparison_at depth ts))) false neg_kinds (16 ∷ [])
any_field depth not_at open_at_ fn fo =
    same_rule any_neg neg depth (λ ts. cond (begins Not ts) (not_at ts) (cond (begins Open ts) (open_at_ ts) (comparison_at depth ts))) false neg_kinds (16 ∷ []) to_neg from_neg
    (known_as neg_kinds (16 ∷ []) refl refl
    (either_field (opens Not negated) not_at (λ n. opens Open enclosed n ∣ comparison n) (λ ts. cond (begins Open ts) (open_at_ ts) (comparison_at depth ts)) (begins Not) depth false (7 ∷ []) (16 ∷ []) (13 ∷ operand_kinds) (16 ∷ [])
    fn
    (known_as (13 ∷ operand_kinds) (16 ∷ []) refl refl
    (either_field (opens Open enclosed) open_at_ comparison (comparison_at depth) (begins Open) depth false (13 ∷ []) [] operand_kinds (16 ∷ []) fo (comparison_field depth) (begins_tells Open) refl))
    (begins_tells Not) refl))

-- an opening too many is told at once
pub too_deep_at : {X : Type 0} (f : Fixed) (read : Reads X) (ts : List Token) (z : Result (X × List Token) Stop) → cond (begins f ts) (open_at f zero ts >>= read) z ≡ cond (begins f ts) (too_deep ts) z
unfolding open_at
too_deep_at f read ts z = elim (begins f ts) as (λ b. cond b (cond b (too_deep ts) (syntax ts) >>= read) z ≡ cond b (too_deep ts) z) [ true ↦ refl | false ↦ refl ]

zero_neg : (ts : List Token) → cond (begins Not ts) (open_at Not zero ts >>= negated_at zero) (cond (begins Open ts) (open_at Open zero ts >>= closed_by (neg_at zero)) (comparison_at zero ts)) ≡ neg_at zero ts
unfolding neg_at
zero_neg ts =
    too_deep_at Not (negated_at zero) ts (cond (begins Open ts) (open_at Open zero ts >>= closed_by (neg_at zero)) (comparison_at zero ts))
    ∙ ap (cond (begins Not ts) (too_deep ts)) (too_deep_at Open (closed_by (neg_at zero)) ts (comparison_at zero ts))

pub opened_is : {X : Type 0} (f : Fixed) (depth : ℕ) (read : Reads X) (ts : List Token) (z : Result (X × List Token) Stop) → cond (begins f ts) (open_at f (suc depth) ts >>= read) z ≡ cond (begins f ts) (read (behind ts)) z
unfolding open_at
opened_is f depth read ts z = looked f ts read z

suc_neg : (depth : ℕ) (ts : List Token)
    → cond (begins Not ts) (open_at Not (suc depth) ts >>= negated_at depth) (cond (begins Open ts) (open_at Open (suc depth) ts >>= closed_by (neg_at depth)) (comparison_at (suc depth) ts)) ≡ neg_at (suc depth) ts
unfolding neg_at
suc_neg depth ts =
    opened_is Not depth (negated_at depth) ts (cond (begins Open ts) (open_at Open (suc depth) ts >>= closed_by (neg_at depth)) (comparison_at (suc depth) ts))
    ∙ ap (cond (begins Not ts) (negated_at depth (behind ts))) (opened_is Open depth (closed_by (neg_at depth)) ts (comparison_at (suc depth) ts))

pub neg_field : (depth : ℕ) → IsField neg depth (neg_at depth) false neg_kinds (16 ∷ [])
neg_field zero =
    same_reader neg zero (λ ts. cond (begins Not ts) (open_at Not zero ts >>= negated_at zero) (cond (begins Open ts) (open_at Open zero ts >>= closed_by (neg_at zero)) (comparison_at zero ts))) (neg_at zero) false neg_kinds (16 ∷ [])
    (any_field zero (λ ts. open_at Not zero ts >>= negated_at zero) (λ ts. open_at Open zero ts >>= closed_by (neg_at zero))
    (zero_field Not negated (negated_at zero) (16 ∷ []) refl some_negated) (zero_field Open enclosed (closed_by (neg_at zero)) [] refl some_enclosed))
    zero_neg
neg_field (suc depth) =
    same_reader neg (suc depth)
    (λ ts. cond (begins Not ts) (open_at Not (suc depth) ts >>= negated_at depth) (cond (begins Open ts) (open_at Open (suc depth) ts >>= closed_by (neg_at depth)) (comparison_at (suc depth) ts))) (neg_at (suc depth)) false neg_kinds (16 ∷ [])
    (any_field (suc depth) (λ ts. open_at Not (suc depth) ts >>= negated_at depth) (λ ts. open_at Open (suc depth) ts >>= closed_by (neg_at depth))
    (suc_field Not negated depth (negated_at depth) false neg_kinds (16 ∷ []) some_negated (negated_field depth (neg_field depth)))
    (suc_field Open enclosed depth (closed_by (neg_at depth)) false neg_kinds [] some_enclosed (enclosed_field depth (neg_field depth))))
    (suc_neg depth)

pub cond_field : (depth : ℕ) → IsField cond_rule depth (cond_at depth) false neg_kinds (9 ∷ 0 ∷ 16 ∷ [])
unfolding cond_at
cond_field depth = cond_over_field depth (neg_field depth)

-- ---- aggregates

star_field : (depth : ℕ) → IsField (λ _. Star ⊳ is calls.Count) depth star_at false (17 ∷ []) []
unfolding star_at
star_field depth = behind_fixed Star (is_field calls.Count depth)

counted_field : (depth : ℕ) → IsField (parenthesized (Star ⊳ is calls.Count)) depth (count_at depth) false (13 ∷ []) []
unfolding count_at
counted_field depth = parenthesized_field (Star ⊳ is calls.Count) depth star_at false (17 ∷ []) [] star_field refl

of_column_field : (call : ColumnName → AggregateCall) (depth : ℕ) → IsField (of_column call) depth (of_column_at call depth) false (13 ∷ []) []
of_column_field call depth = known_as (13 ∷ []) [] refl refl (both (parenthesized_field column depth column_at false (100 ∷ []) (16 ∷ []) column_field refl) (λ c. is_field (call c) depth) refl)

abbrev pub aggregate_kinds : List ℕ
aggregate_kinds = 27 ∷ 43 ∷ 34 ∷ 33 ∷ []

pub aggregate_field : (depth : ℕ) → IsField aggregate depth (aggregate_at depth) false aggregate_kinds []
unfolding aggregate_at
aggregate_field depth =
    fixed_or Count (parenthesized (Star ⊳ is calls.Count)) (count_at depth) _ _ depth false false (13 ∷ []) [] (43 ∷ 34 ∷ 33 ∷ []) [] (counted_field depth)
    (fixed_or Sum (of_column calls.Sum) (of_column_at calls.Sum depth) _ _ depth false false (13 ∷ []) [] (34 ∷ 33 ∷ []) [] (of_column_field calls.Sum depth)
    (fixed_or Min (of_column calls.Min) (of_column_at calls.Min depth) (λ n. Max ⊳ of_column calls.Max n) (λ ts. expect Max ts >>= of_column_at calls.Max depth) depth false false (13 ∷ []) [] (33 ∷ []) [] (of_column_field calls.Min depth)
    (behind_fixed Max (of_column_field calls.Max depth)) refl) refl) refl

-- ---- statements

name_list_field : (depth : ℕ) → IsField (λ _. series Comma name) depth (series_at Comma name_at) false (100 ∷ []) (15 ∷ [])
name_list_field depth = known_as (100 ∷ []) (15 ∷ []) refl refl (series_field Comma (λ _. name) name_at depth (100 ∷ []) [] (name_field depth) refl)

column_list_field : (depth : ℕ) → IsField column_list depth (column_list_at depth) true (13 ∷ []) (13 ∷ [])
unfolding column_list_at
column_list_field depth = known_as (13 ∷ []) (13 ∷ []) refl refl
    (either_field (λ n. parenthesized (series Comma name) n ▷ λ l. is (Some l)) (λ ts. parenthesized_at (series_at Comma name_at) depth ts >>= λ l. Ok (Some l.0, l.1)) (λ _. is None) (λ ts. Ok (None, ts)) (begins Open) depth true (13 ∷ []) [] [] []
    (both (parenthesized_field (series Comma name) depth (series_at Comma name_at) false (100 ∷ []) (15 ∷ []) name_list_field refl) (λ l. is_field (Some l) depth) refl)
    (is_field None depth) (begins_tells Open) refl)

tuples_field : (depth : ℕ) → IsField (λ n. series Comma (tuple n)) depth (series_at Comma (literal_list_at depth)) false (13 ∷ []) (15 ∷ [])
tuples_field depth = known_as (13 ∷ []) (15 ∷ []) refl refl (series_field Comma tuple (literal_list_at depth) depth (13 ∷ []) [] (literal_list_field depth) refl)

pub insert_field : (depth : ℕ) → IsField insert depth (insert_at depth) false (5 ∷ []) (15 ∷ [])
unfolding insert_at
insert_field depth =
    behind_fixed Insert
    (both (optional_field Into depth) (λ _. both (table_field depth) (λ t. both (column_list_field depth) (λ c. behind_fixed Values
    (both (tuples_field depth) (λ r. is_field (statements.Table (table_statements.Insert (record { table = t; columns = c; rows = r }))) depth) refl)) refl) refl) refl)

item_field : (depth : ℕ) → IsField (λ _. item) depth item_at false (100 ∷ []) (1 ∷ 100 ∷ 16 ∷ [])
unfolding item_at
item_field depth = known_as (100 ∷ []) (1 ∷ 100 ∷ 16 ∷ []) refl refl
    (both (column_field depth) (λ c. both (alias_field depth) (λ a. is_field (record { column = c; alias = a }) depth) refl) refl)

-- the reader puts the first item in front of the others before it makes the list
abbrev columns_of : List Item × List Token → Result (SelectItems × List Token) Stop
columns_of l = Ok (items.Columns l.0, l.1)

abbrev columns_behind : Item → List Item × List Token → Result (SelectItems × List Token) Stop
columns_behind i l = Ok (items.Columns (i ∷ l.0), l.1)

items_again : (i : Item) (r : Result (List Item × List Token) Stop) → (r >>= columns_behind i) ≡ (with_front (i ∷ []) r >>= columns_of)
items_again i (Ok l) = refl
items_again i (Err stop) = refl

abbrev columns_read : Item × List Token → Result (SelectItems × List Token) Stop
columns_read i = with_front (i.0 ∷ []) (further_at 899 Comma item_at i.1) >>= columns_of

abbrev columns_put : Item × List Token → Result (SelectItems × List Token) Stop
columns_put i = further_at 899 Comma item_at i.1 >>= columns_behind i.0

items_read : (r : Result (Item × List Token) Stop) → (r >>= columns_put) ≡ (r >>= columns_read)
items_read (Ok i) = items_again i.0 (further_at 899 Comma item_at i.1)
items_read (Err stop) = refl

column_items_field : (depth : ℕ) → IsField (λ _. column_items) depth column_items_at false (100 ∷ []) (15 ∷ 1 ∷ 100 ∷ 16 ∷ [])
unfolding column_items_at
column_items_field depth =
    same_reader (λ _. column_items) depth (λ ts. item_at ts >>= columns_put)
    (λ ts. item_at ts >>= columns_read) false (100 ∷ []) (15 ∷ 1 ∷ 100 ∷ 16 ∷ [])
    (known_as (100 ∷ []) (15 ∷ 1 ∷ 100 ∷ 16 ∷ []) refl refl
    (both (item_field depth) (λ i. both (few_field 899 Comma (λ _. item) item_at depth (100 ∷ []) (1 ∷ 100 ∷ 16 ∷ []) (item_field depth) refl) (λ l. is_field (items.Columns (i ∷ l)) depth) refl) refl))
    (λ ts. items_read (item_at ts))

aggregate_item_field : (depth : ℕ) → IsField aggregate_item depth (aggregate_item_at depth) false aggregate_kinds (1 ∷ 100 ∷ [])
unfolding aggregate_item_at
aggregate_item_field depth = known_as aggregate_kinds (1 ∷ 100 ∷ []) refl refl
    (both (aggregate_field depth) (λ c. both (alias_field depth) (λ a. is_field (record { call = c; alias = a }) depth) refl) refl)

abbrev aggregates_of : List AggregateItem × List Token → Result (SelectItems × List Token) Stop
aggregates_of l = Ok (items.Aggregates l.0, l.1)

abbrev aggregates_behind : AggregateItem → List AggregateItem × List Token → Result (SelectItems × List Token) Stop
aggregates_behind i l = Ok (items.Aggregates (i ∷ l.0), l.1)

aggregates_again : (i : AggregateItem) (r : Result (List AggregateItem × List Token) Stop) → (r >>= aggregates_behind i) ≡ (with_front (i ∷ []) r >>= aggregates_of)
aggregates_again i (Ok l) = refl
aggregates_again i (Err stop) = refl

abbrev aggregates_read : ℕ → AggregateItem × List Token → Result (SelectItems × List Token) Stop
aggregates_read depth i = with_front (i.0 ∷ []) (further_at 899 Comma (aggregate_item_at depth) i.1) >>= aggregates_of

abbrev aggregates_put : ℕ → AggregateItem × List Token → Result (SelectItems × List Token) Stop
aggregates_put depth i = further_at 899 Comma (aggregate_item_at depth) i.1 >>= aggregates_behind i.0

aggregates_are : (depth : ℕ) (r : Result (AggregateItem × List Token) Stop) → (r >>= aggregates_put depth) ≡ (r >>= aggregates_read depth)
aggregates_are depth (Ok i) = aggregates_again i.0 (further_at 899 Comma (aggregate_item_at depth) i.1)
aggregates_are depth (Err stop) = refl

aggregate_items_field : (depth : ℕ) → IsField aggregate_items depth (aggregate_items_at depth) false aggregate_kinds (15 ∷ 1 ∷ 100 ∷ [])
unfolding aggregate_items_at
aggregate_items_field depth =
    same_reader aggregate_items depth (λ ts. aggregate_item_at depth ts >>= aggregates_put depth) (λ ts. aggregate_item_at depth ts >>= aggregates_read depth) false aggregate_kinds (15 ∷ 1 ∷ 100 ∷ [])
    (known_as aggregate_kinds (15 ∷ 1 ∷ 100 ∷ []) refl refl
    (both (aggregate_item_field depth) (λ i. both (few_field 899 Comma aggregate_item (aggregate_item_at depth) depth aggregate_kinds (1 ∷ 100 ∷ []) (aggregate_item_field depth) refl) (λ l. is_field (items.Aggregates (i ∷ l)) depth) refl) refl))
    (λ ts. aggregates_are depth (aggregate_item_at depth ts))

-- a name begins columns
some_items_field : (depth : ℕ) → IsField (λ n. column_items ∣ aggregate_items n) depth (λ ts. cond (stands name_of ts) (column_items_at ts) (aggregate_items_at depth ts)) false (100 ∷ aggregate_kinds) (15 ∷ 1 ∷ 100 ∷ 16 ∷ [])
some_items_field depth = known_as (100 ∷ aggregate_kinds) (15 ∷ 1 ∷ 100 ∷ 16 ∷ []) refl refl
    (either_field (λ _. column_items) column_items_at aggregate_items (aggregate_items_at depth) (stands name_of) depth false (100 ∷ []) (15 ∷ 1 ∷ 100 ∷ 16 ∷ []) aggregate_kinds (15 ∷ 1 ∷ 100 ∷ [])
    (column_items_field depth) (aggregate_items_field depth) name_tells refl)

pub select_items_field : (depth : ℕ) → IsField select_items depth (select_items_at depth) false (17 ∷ 100 ∷ aggregate_kinds) (15 ∷ 1 ∷ 100 ∷ 16 ∷ [])
unfolding select_items_at
select_items_field depth = known_as (17 ∷ 100 ∷ aggregate_kinds) (15 ∷ 1 ∷ 100 ∷ 16 ∷ []) refl refl
    (fixed_or Star (λ _. is items.All) (λ ts. Ok (items.All, ts)) (λ n. column_items ∣ aggregate_items n)
    (λ ts. cond (stands name_of ts) (column_items_at ts) (aggregate_items_at depth ts)) depth true false [] [] (100 ∷ aggregate_kinds) (15 ∷ 1 ∷ 100 ∷ 16 ∷ [])
    (is_field items.All depth)
    (some_items_field depth)
    refl)

pub tab_field : (depth : ℕ) → IsField (λ _. tab) depth tab_at false (100 ∷ []) (1 ∷ 100 ∷ 16 ∷ [])
unfolding tab_at
tab_field depth = known_as (100 ∷ []) (1 ∷ 100 ∷ 16 ∷ []) refl refl
    (both (table_field depth) (λ t. both (alias_field depth) (λ a. is_field (record { table = t; alias = a }) depth) refl) refl)

pub where_field : (depth : ℕ) → IsField where_cond depth (where_at depth) true (12 ∷ []) (12 ∷ 9 ∷ 0 ∷ 16 ∷ [])
unfolding where_at
where_field depth = known_as (12 ∷ []) (12 ∷ 9 ∷ 0 ∷ 16 ∷ []) refl refl
    (fixed_or Where (λ n. cond_rule n ▷ λ c. is (Some c)) (λ ts. cond_at depth ts >>= λ c. Ok (Some c.0, c.1)) (λ _. is None) (λ ts. Ok (None, ts)) depth false true neg_kinds (9 ∷ 0 ∷ 16 ∷ []) [] []
    (known_as neg_kinds (9 ∷ 0 ∷ 16 ∷ []) refl refl (both (cond_field depth) (λ c. is_field (Some c) depth) refl))
    (is_field None depth) refl)

direction_field : (depth : ℕ) → IsField (λ _. direction) depth direction_at true (49 ∷ 50 ∷ []) (49 ∷ 50 ∷ [])
unfolding direction_at
direction_field depth = known_as (49 ∷ 50 ∷ []) (49 ∷ 50 ∷ []) refl refl
    (fixed_or Asc (λ _. is true) (λ ts. Ok (true, ts)) (λ _. (Desc ⊳ is false) ∣ is true) (λ ts. cond (begins Desc ts) (Ok (false, behind ts)) (Ok (true, ts))) depth true true [] [] (50 ∷ []) (50 ∷ [])
    (is_field true depth)
    (known_as (50 ∷ []) (50 ∷ []) refl refl
    (fixed_or Desc (λ _. is false) (λ ts. Ok (false, ts)) (λ _. is true) (λ ts. Ok (true, ts)) depth true true [] [] [] [] (is_field false depth) (is_field true depth) refl))
    refl)

sort_field : (depth : ℕ) → IsField (λ _. sort) depth sort_at false (100 ∷ []) (49 ∷ 50 ∷ 16 ∷ [])
unfolding sort_at
sort_field depth = known_as (100 ∷ []) (49 ∷ 50 ∷ 16 ∷ []) refl refl
    (both (column_field depth) (λ c. both (direction_field depth) (λ d. is_field (record { column = c; rising = d }) depth) refl) refl)

-- the kinds with which an order and a limit go on
abbrev order_kinds : List ℕ
order_kinds = 36 ∷ 15 ∷ 49 ∷ 50 ∷ 16 ∷ []

abbrev limit_kinds : List ℕ
limit_kinds = 31 ∷ 51 ∷ 15 ∷ []

sort_list_field : (depth : ℕ) → IsField (λ _. By ⊳ series Comma sort) depth sort_list_at false (25 ∷ []) (15 ∷ 49 ∷ 50 ∷ 16 ∷ [])
unfolding sort_list_at
sort_list_field depth = behind_fixed By (known_as (100 ∷ []) (15 ∷ 49 ∷ 50 ∷ 16 ∷ []) refl refl (series_field Comma (λ _. sort) sort_at depth (100 ∷ []) (49 ∷ 50 ∷ 16 ∷ []) (sort_field depth) refl))

sorts_field : (depth : ℕ) → IsField (λ _. sorts) depth sorts_at true (36 ∷ []) order_kinds
unfolding sorts_at
sorts_field depth = known_as (36 ∷ []) order_kinds refl refl
    (fixed_or Order (λ _. By ⊳ series Comma sort) sort_list_at (λ _. is []) (λ ts. Ok ([], ts)) depth false true (25 ∷ []) (15 ∷ 49 ∷ 50 ∷ 16 ∷ []) [] [] (sort_list_field depth) (is_field [] depth) refl)

pub order_field : (i : SelectItems) (depth : ℕ) → IsField (λ _. order i) depth (order_at i) true (36 ∷ []) order_kinds
unfolding order_at
order_field items.All depth = sorts_field depth
order_field (items.Columns l) depth = sorts_field depth
order_field (items.Aggregates l) depth = known_as (36 ∷ []) order_kinds refl refl (is_field [] depth)

abbrev with_offset : ℕ → ℕ → RowLimit
with_offset n m = record { count = n; offset = m }

-- a count, and the limit that it makes
count_made_field : (make : ℕ → RowLimit) (depth : ℕ) → IsField (λ _. one count_of ▷ λ m. is (make m)) depth (λ ts. one_at count_of ts >>= λ m. Ok (make m.0, m.1)) false (101 ∷ []) []
count_made_field make depth = known_as (101 ∷ []) [] refl refl (both (count_field depth) (λ m. is_field (make m) depth) refl)

behind_count_field : (n depth : ℕ) → IsField (λ _. behind_count n) depth (behind_count_at n) true (51 ∷ 15 ∷ []) (51 ∷ 15 ∷ [])
unfolding behind_count_at
behind_count_field n depth = known_as (51 ∷ 15 ∷ []) (51 ∷ 15 ∷ []) refl refl
    (fixed_or Offset (λ _. one count_of ▷ λ m. is (with_offset n m)) (λ ts. one_at count_of ts >>= λ m. Ok (with_offset n m.0, m.1)) (λ _. (Comma ⊳ (one count_of ▷ λ m. is (with_offset m n))) ∣ is (with_offset n 0))
    (λ ts. cond (begins Comma ts) (one_at count_of (behind ts) >>= λ m. Ok (with_offset m.0 n, m.1)) (Ok (with_offset n 0, ts))) depth false true (101 ∷ []) [] (15 ∷ []) (15 ∷ [])
    (count_made_field (λ m. with_offset n m) depth)
    (known_as (15 ∷ []) (15 ∷ []) refl refl
    (fixed_or Comma (λ _. one count_of ▷ λ m. is (with_offset m n)) (λ ts. one_at count_of ts >>= λ m. Ok (with_offset m.0 n, m.1)) (λ _. is (with_offset n 0)) (λ ts. Ok (with_offset n 0, ts)) depth false true (101 ∷ []) [] [] []
    (count_made_field (λ m. with_offset m n) depth) (is_field (with_offset n 0) depth) refl))
    refl)

counts_field : (depth : ℕ) → IsField (λ _. one count_of ▷ λ n. behind_count n ▷ λ l. is (Some l)) depth counts_at false (101 ∷ []) (51 ∷ 15 ∷ [])
unfolding counts_at
counts_field depth = known_as (101 ∷ []) (51 ∷ 15 ∷ []) refl refl
    (both (count_field depth) (λ n. both (behind_count_field n depth) (λ l. is_field (Some l) depth) refl) refl)

limits_field : (depth : ℕ) → IsField (λ _. limits) depth limits_at true (31 ∷ []) limit_kinds
unfolding limits_at
limits_field depth = known_as (31 ∷ []) limit_kinds refl refl
    (fixed_or Limit (λ _. one count_of ▷ λ n. behind_count n ▷ λ l. is (Some l)) counts_at (λ _. is None) (λ ts. Ok (None, ts)) depth false true (101 ∷ []) (51 ∷ 15 ∷ []) [] [] (counts_field depth) (is_field None depth) refl)

pub limit_field : (i : SelectItems) (depth : ℕ) → IsField (λ _. limit i) depth (limit_at i) true (31 ∷ []) limit_kinds
unfolding limit_at
limit_field items.All depth = limits_field depth
limit_field (items.Columns l) depth = limits_field depth
limit_field (items.Aggregates l) depth = known_as (31 ∷ []) limit_kinds refl refl (is_field None depth)

share_field : (depth : ℕ) → IsField (λ _. In ⊳ (Share ⊳ (Mode ⊳ is locks.Shared))) depth share_at false (4 ∷ []) []
unfolding share_at
share_field depth = behind_fixed In (behind_fixed Share (behind_fixed Mode (is_field locks.Shared depth)))

for_update_field : (depth : ℕ) → IsField (λ _. For ⊳ (Update ⊳ is locks.Exclusive)) depth for_update_at false (30 ∷ []) []
unfolding for_update_at
for_update_field depth = behind_fixed For (behind_fixed Update (is_field locks.Exclusive depth))

pub lock_field : (depth : ℕ) → IsField (λ _. lock) depth lock_at false (32 ∷ 30 ∷ []) []
unfolding lock_at
lock_field depth = fixed_or Lock (λ _. In ⊳ (Share ⊳ (Mode ⊳ is locks.Shared))) share_at (λ _. For ⊳ (Update ⊳ is locks.Exclusive)) for_update_at depth false false (4 ∷ []) [] (30 ∷ []) [] (share_field depth) (for_update_field depth) refl

pub locked_field : (depth : ℕ) → IsField (λ _. locked) depth locked_at true (32 ∷ 30 ∷ []) (32 ∷ 30 ∷ [])
unfolding locked_at
locked_field depth = known_as (32 ∷ 30 ∷ []) (32 ∷ 30 ∷ []) refl refl
    (either_field (λ _. lock ▷ λ m. is (Some m)) (λ ts. lock_at ts >>= λ m. Ok (Some m.0, m.1)) (λ _. is None) (λ ts. Ok (None, ts)) (λ ts. begins Lock ts || begins For ts) depth true (32 ∷ 30 ∷ []) [] [] []
    (known_as (32 ∷ 30 ∷ []) [] refl refl (both (lock_field depth) (λ m. is_field (Some m) depth) refl))
    (is_field None depth) (either_tells Lock For) refl)

pub delete_field : (depth : ℕ) → IsField delete depth (delete_at depth) false (28 ∷ []) (12 ∷ 9 ∷ 0 ∷ 16 ∷ [])
unfolding delete_at
delete_field depth = known_as (28 ∷ []) (12 ∷ 9 ∷ 0 ∷ 16 ∷ []) refl refl
    (behind_fixed Delete (behind_fixed From
    (both (table_field depth) (λ t. both (where_field depth) (λ c. is_field (statements.Table (table_statements.Delete (record { table = t; cond = c }))) depth) refl) refl)))

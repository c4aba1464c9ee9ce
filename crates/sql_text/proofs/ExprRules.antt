-- Each reading function of expressions reads its rule.
use Rattle.std.proofs.Common.{◌≡◌, ℕ, zero, suc, Bool, true, false, cond, List, [], ◌∷◌, ◌++◌, length, Result, Ok, Err, refl, ap, ◌∙◌, inl, inr}
use Rattle.std.specs.Prelude.{is_some}
use Rattle.sql_values.specs.declared.tree.Expr.{Expr}
use Rattle.sql_values.specs.declared.tree.Expr.TheVariants as exprs
use Rattle.sql_values.specs.declared.tree.Addend.{Addend}
use Rattle.sql_text.specs.declared.token.Fixed.{Fixed}
use Rattle.sql_text.specs.declared.token.Fixed.TheVariants.{And, As, Asc, Between, By, Count, Database, Databases, Delete, Desc, For, From, In, Inner, Insert, Into, Join, Limit, Lock, Max, Min, Mode, Not, Null, Offset, On, Or, Order, Select, Set, Share, Show, Sum, Tables, Update, Values, Where, VersionComment, Commit, End, Prepare, Recover, Replace, Rollback, Start, Xa, Open, Close, Comma, Dot, Star, Plus, Minus, Semicolon, Equal, NotEqual, Less, AtMost, Greater, AtLeast}
use Rattle.sql_text.specs.declared.token.Token.{Token}
use Rattle.sql_text.specs.declared.token.Token.TheVariants as tokens
use Rattle.sql_text.specs.declared.fault.Stop.{Stop}
use Rattle.sql_text.specs.Rules.{is, one, ◌⊳◌, ◌▷◌, ◌∣◌, opens, many, series}
use Rattle.sql_text.specs.Grammar.{literal_of, sign_of, literal, column, joined, plain_expr, term_over, addend, addend_over, summed, expr_over, factor, expr}
use Rattle.sql_text.specs.Reading.{◌>>=◌, number_of, stands, begins, behind, open_at, too_deep, one_at, literal_at, column_at, with_front, many_at, plain_at, term_by, addend_by, sum_by, expr_by, closed_expr_by, factor_at, expr_at}
use Rattle.sql_text.proofs.Fields.{Reads, Rules, kind_of, member, Some_text, IsField, is_field, one_field}
use Rattle.sql_text.proofs.Choices.{Tells, begins_tells, same_reader, same_rule, either_field}
use Rattle.sql_text.proofs.Nested.{zero_field, suc_field, many_field, series_field}
use Rattle.sql_text.proofs.ReadRules.{both, behind_fixed, known_as, literal_kinds, operand_kinds, literal_tells, told_covers, literal_field, column_field, some_series, some_mapped, too_deep_at, opened_is}

-- ---- signs

abbrev sign_kinds : List ℕ
sign_kinds = 47 ∷ 48 ∷ []

sign_tells_fixed : (f : Fixed) → is_some (sign_of (tokens.Fixed f)) ≡ member (number_of f) sign_kinds
sign_tells_fixed And = refl
sign_tells_fixed As = refl
sign_tells_fixed Asc = refl
sign_tells_fixed Desc = refl
sign_tells_fixed Offset = refl
sign_tells_fixed Database = refl
sign_tells_fixed Databases = refl
sign_tells_fixed Inner = refl
sign_tells_fixed Join = refl
sign_tells_fixed On = refl
sign_tells_fixed Show = refl
sign_tells_fixed Tables = refl
sign_tells_fixed VersionComment = refl
sign_tells_fixed Between = refl
sign_tells_fixed Delete = refl
sign_tells_fixed For = refl
sign_tells_fixed From = refl
sign_tells_fixed In = refl
sign_tells_fixed Insert = refl
sign_tells_fixed Into = refl
sign_tells_fixed Lock = refl
sign_tells_fixed Mode = refl
sign_tells_fixed Not = refl
sign_tells_fixed Null = refl
sign_tells_fixed Or = refl
sign_tells_fixed Select = refl
sign_tells_fixed Set = refl
sign_tells_fixed Share = refl
sign_tells_fixed Update = refl
sign_tells_fixed Values = refl
sign_tells_fixed Where = refl
sign_tells_fixed By = refl
sign_tells_fixed Commit = refl
sign_tells_fixed Count = refl
sign_tells_fixed End = refl
sign_tells_fixed Limit = refl
sign_tells_fixed Max = refl
sign_tells_fixed Min = refl
sign_tells_fixed Order = refl
sign_tells_fixed Prepare = refl
sign_tells_fixed Recover = refl
sign_tells_fixed Replace = refl
sign_tells_fixed Rollback = refl
sign_tells_fixed Start = refl
sign_tells_fixed Sum = refl
sign_tells_fixed Xa = refl
sign_tells_fixed Open = refl
sign_tells_fixed Close = refl
sign_tells_fixed Comma = refl
sign_tells_fixed Dot = refl
sign_tells_fixed Star = refl
sign_tells_fixed Plus = refl
sign_tells_fixed Minus = refl
sign_tells_fixed Semicolon = refl
sign_tells_fixed Equal = refl
sign_tells_fixed NotEqual = refl
sign_tells_fixed Less = refl
sign_tells_fixed AtMost = refl
sign_tells_fixed Greater = refl
sign_tells_fixed AtLeast = refl

sign_head : (t : Token) (ts : List Token) → stands sign_of (t ∷ ts) ≡ member (kind_of t) sign_kinds
sign_head (tokens.Fixed f) ts = sign_tells_fixed f
sign_head (tokens.Bare n) ts = refl
sign_head (tokens.Quoted n) ts = refl
sign_head (tokens.Digits n) ts = refl
sign_head (tokens.Signed n) ts = refl
sign_head (tokens.Text t) ts = refl
sign_head tokens.Bad ts = refl

sign_tells : Tells (stands sign_of) sign_kinds
sign_tells = record { none = refl; head = sign_head }

sign_field : (depth : ℕ) → IsField (λ _. one sign_of) depth (one_at sign_of) false sign_kinds []
sign_field depth = one_field sign_of sign_kinds depth (record { cover = told_covers sign_of sign_kinds sign_tells; token = tokens.Fixed Plus; example = false; known = refl })

-- ---- literals and columns

plain_literal : (depth : ℕ) → IsField (λ _. literal ▷ λ l. is (exprs.Literal l)) depth (λ ts. literal_at ts >>= λ l. Ok (exprs.Literal l.0, l.1)) false literal_kinds []
plain_literal depth = known_as literal_kinds [] refl refl (both (literal_field depth) (λ l. is_field (exprs.Literal l) depth) refl)

plain_field : (depth : ℕ) → IsField (λ _. plain_expr) depth plain_at false operand_kinds (16 ∷ [])
unfolding plain_at
plain_field depth = known_as operand_kinds (16 ∷ []) refl refl
    (either_field (λ _. literal ▷ λ l. is (exprs.Literal l)) (λ ts. literal_at ts >>= λ l. Ok (exprs.Literal l.0, l.1)) (λ _. column ▷ λ c. is (exprs.Column c)) (λ ts. column_at ts >>= λ c. Ok (exprs.Column c.0, c.1))
    (stands literal_of) depth false literal_kinds [] (100 ∷ []) (16 ∷ [])
    (plain_literal depth)
    (known_as (100 ∷ []) (16 ∷ []) refl refl (both (column_field depth) (λ c. is_field (exprs.Column c) depth) refl))
    literal_tells refl)

-- ---- terms and sums

abbrev pub factor_kinds : List ℕ
factor_kinds = 48 ∷ 13 ∷ operand_kinds

-- what is read of a rule's factors at this depth
abbrev pub Factors : ℕ → Type 0
Factors depth = IsField factor depth (factor_at depth) false factor_kinds (16 ∷ [])

pub term_field : (depth : ℕ) → Factors depth → IsField (λ n. term_over (factor n)) depth (term_by (factor_at depth)) false factor_kinds (17 ∷ 16 ∷ [])
term_field depth field = known_as factor_kinds (17 ∷ 16 ∷ []) refl refl
    (both (series_field Star factor (factor_at depth) depth factor_kinds (16 ∷ []) field refl) (λ parts. is_field (joined exprs.Product parts) depth) refl)

addend_field : (depth : ℕ) → Factors depth → IsField (λ n. addend_over (term_over (factor n))) depth (addend_by (factor_at depth)) false sign_kinds (17 ∷ 16 ∷ [])
addend_field depth field = known_as sign_kinds (17 ∷ 16 ∷ []) refl refl
    (both (sign_field depth) (λ s. both (term_field depth field) (λ e. is_field (addend s e) depth) refl) refl)

addends_field : (depth : ℕ) → Factors depth
    → IsField (λ n. many (addend_over (term_over (factor n)))) depth (λ ts. many_at (length ts) (stands sign_of) (addend_by (factor_at depth)) ts) true sign_kinds (47 ∷ 48 ∷ 17 ∷ 16 ∷ [])
addends_field depth field = many_field (λ n. addend_over (term_over (factor n))) (addend_by (factor_at depth)) depth (stands sign_of) 47 48 (17 ∷ 16 ∷ []) (addend_field depth field) sign_tells refl

-- a sum as the rule has it: the parts behind the first, and then all of them
abbrev summed_of : Expr → List Addend × List Token → Result (Expr × List Token) Stop
summed_of first others = Ok (summed first others.0, others.1)

abbrev behind_first : (List Token → Result (Expr × List Token) Stop) → Expr × List Token → Result (Expr × List Token) Stop
behind_first factor first = many_at (length first.1) (stands sign_of) (addend_by factor) first.1 >>= summed_of first.0

abbrev with_sign : (List Token → Result (Expr × List Token) Stop) → Expr × List Token → Result (Expr × List Token) Stop
with_sign factor first = cond (stands sign_of first.1) (sum_by factor first.0 first.1) (Ok (first.0, first.1))

-- behind a part at least stand others
others_are : (first : Expr) (a : Addend) (r : Result (List Addend × List Token) Stop)
    → (with_front (a ∷ []) r >>= summed_of first) ≡ (with_front (addend false first ∷ []) (with_front (a ∷ []) r) >>= λ parts. Ok (exprs.Sum parts.0, parts.1))
others_are first a (Ok l) = refl
others_are first a (Err stop) = refl

some_others : (factor : List Token → Result (Expr × List Token) Stop) (n : ℕ) (first : Expr) (r : Result (Addend × List Token) Stop)
    → (r >>= (λ x. with_front (x.0 ∷ []) (many_at n (stands sign_of) (addend_by factor) x.1)) >>= summed_of first)
    ≡ (with_front (addend false first ∷ []) (r >>= λ x. with_front (x.0 ∷ []) (many_at n (stands sign_of) (addend_by factor) x.1)) >>= λ parts. Ok (exprs.Sum parts.0, parts.1))
some_others factor n first (Ok x) = others_are first x.0 (many_at n (stands sign_of) (addend_by factor) x.1)
some_others factor n first (Err stop) = refl

sign_case : (factor : List Token → Result (Expr × List Token) Stop) (n : ℕ) (first : Expr) (ts : List Token) (b : Bool)
    → (cond b (addend_by factor ts >>= λ x. with_front (x.0 ∷ []) (many_at n (stands sign_of) (addend_by factor) x.1)) (Ok ([], ts)) >>= summed_of first)
    ≡ cond b (with_front (addend false first ∷ []) (cond b (addend_by factor ts >>= λ x. with_front (x.0 ∷ []) (many_at n (stands sign_of) (addend_by factor) x.1)) (Ok ([], ts))) >>= λ parts. Ok (exprs.Sum parts.0, parts.1)) (Ok (first, ts))
sign_case factor n first ts true = some_others factor n first (addend_by factor ts)
sign_case factor n first ts false = refl

first_case : (factor : List Token → Result (Expr × List Token) Stop) (first : Expr) (ts : List Token) → behind_first factor (first, ts) ≡ with_sign factor (first, ts)
first_case factor first [] = refl
first_case factor first (t ∷ ts) = sign_case factor (length ts) first (t ∷ ts) (stands sign_of (t ∷ ts))

sums_are : (factor : List Token → Result (Expr × List Token) Stop) (r : Result (Expr × List Token) Stop) → (r >>= behind_first factor) ≡ (r >>= with_sign factor)
sums_are factor (Ok first) = first_case factor first.0 first.1
sums_are factor (Err stop) = refl

pub expr_over_field : (depth : ℕ) → Factors depth → IsField (λ n. expr_over (factor n)) depth (expr_by (factor_at depth)) false factor_kinds (47 ∷ 48 ∷ 17 ∷ 16 ∷ [])
expr_over_field depth field =
    same_reader (λ n. expr_over (factor n)) depth (λ ts. term_by (factor_at depth) ts >>= behind_first (factor_at depth)) (expr_by (factor_at depth)) false factor_kinds (47 ∷ 48 ∷ 17 ∷ 16 ∷ [])
    (known_as factor_kinds (47 ∷ 48 ∷ 17 ∷ 16 ∷ []) refl refl
    (both (term_field depth field) (λ first. both (addends_field depth field) (λ others. is_field (summed first others) depth) refl) refl))
    (λ ts. sums_are (factor_at depth) (term_by (factor_at depth) ts))

-- ---- factors

-- what stands behind a minus and behind an opening parenthesis
abbrev pub negated : Rules Expr
negated n = factor n ▷ λ part. is (exprs.Negated part)

abbrev pub enclosed : Rules Expr
enclosed n = expr_over (factor n) ▷ λ part. Close ⊳ is part

abbrev negated_at : ℕ → Reads Expr
negated_at depth ts = factor_at depth ts >>= λ part. Ok (exprs.Negated part.0, part.1)

negated_field : (depth : ℕ) → Factors depth → IsField negated depth (negated_at depth) false factor_kinds (16 ∷ [])
negated_field depth field = known_as factor_kinds (16 ∷ []) refl refl (both field (λ part. is_field (exprs.Negated part) depth) refl)

enclosed_field : (depth : ℕ) → Factors depth → IsField enclosed depth (closed_expr_by (factor_at depth)) false factor_kinds []
enclosed_field depth field = known_as factor_kinds [] refl refl (both (expr_over_field depth field) (λ part. behind_fixed Close (is_field part depth)) refl)

-- the shortest texts
some_factor : (n : ℕ) → Some_text (factor n)
unfolding factor
some_factor zero = let s = (plain_literal 0).some 0 in record { value = s.value; text = s.text; spells = inl s.spells }
some_factor (suc n) = let s = (plain_literal 0).some 0 in record { value = s.value; text = s.text; spells = inr (inr (inl s.spells)) }

some_negated : (n : ℕ) → Some_text (negated n)
some_negated n = some_mapped (factor n) exprs.Negated (some_factor n)

some_expr : (n : ℕ) → Some_text (expr_over (factor n))
some_expr n =
    let s = some_mapped (series Star (factor n)) (joined exprs.Product) (some_series Star (factor n) (some_factor n)) in
    record { value = s.value; text = s.text ++ []; spells = (s.value, record { front = s.text; rest = []; whole = refl; first = s.spells; second = ([], record { front = []; rest = []; whole = refl; first = refl; second = (refl, refl) }) }) }

some_enclosed : (n : ℕ) → Some_text (enclosed n)
some_enclosed n = let s = some_expr n in record { value = s.value; text = s.text ++ (tokens.Fixed Close ∷ []); spells = (s.value, record { front = s.text; rest = tokens.Fixed Close ∷ []; whole = refl; first = s.spells; second = ([], refl, (refl, refl)) }) }

-- the rule, without its cases
abbrev pub any_factor : Rules Expr
any_factor n = opens Minus negated n ∣ opens Open enclosed n ∣ plain_expr

pub to_factor : (n : ℕ) (e : Expr) (ts : List Token) → any_factor n e ts → factor n e ts
unfolding factor
to_factor zero e ts (inl h) = absurd h
to_factor zero e ts (inr (inl h)) = absurd h
to_factor zero e ts (inr (inr h)) = h
to_factor (suc n) e ts h = h

pub from_factor : (n : ℕ) (e : Expr) (ts : List Token) → factor n e ts → any_factor n e ts
unfolding factor
from_factor zero e ts h = inr (inr h)
from_factor (suc n) e ts h = h

any_field : (depth : ℕ) (minus_at open_at_ : Reads Expr) → IsField (opens Minus negated) depth minus_at false (48 ∷ []) (16 ∷ []) → IsField (opens Open enclosed) depth open_at_ false (13 ∷ []) []
    → IsField factor depth (λ ts. cond (begins Minus ts) (minus_at ts) (cond (begins Open ts) (open_at_ ts) (plain_at ts))) false factor_kinds (16 ∷ [])
any_field depth minus_at open_at_ fn fo =
    same_rule any_factor factor depth (λ ts. cond (begins Minus ts) (minus_at ts) (cond (begins Open ts) (open_at_ ts) (plain_at ts))) false factor_kinds (16 ∷ []) to_factor from_factor
    (known_as factor_kinds (16 ∷ []) refl refl
    (either_field (opens Minus negated) minus_at (λ n. opens Open enclosed n ∣ plain_expr) (λ ts. cond (begins Open ts) (open_at_ ts) (plain_at ts)) (begins Minus) depth false (48 ∷ []) (16 ∷ []) (13 ∷ operand_kinds) (16 ∷ [])
    fn
    (known_as (13 ∷ operand_kinds) (16 ∷ []) refl refl
    (either_field (opens Open enclosed) open_at_ (λ _. plain_expr) plain_at (begins Open) depth false (13 ∷ []) [] operand_kinds (16 ∷ []) fo (plain_field depth) (begins_tells Open) refl))
    (begins_tells Minus) refl))

zero_factor : (ts : List Token) → cond (begins Minus ts) (open_at Minus zero ts >>= negated_at zero) (cond (begins Open ts) (open_at Open zero ts >>= closed_expr_by (factor_at zero)) (plain_at ts)) ≡ factor_at zero ts
unfolding factor_at
zero_factor ts =
    too_deep_at Minus (negated_at zero) ts (cond (begins Open ts) (open_at Open zero ts >>= closed_expr_by (factor_at zero)) (plain_at ts))
    ∙ ap (cond (begins Minus ts) (too_deep ts)) (too_deep_at Open (closed_expr_by (factor_at zero)) ts (plain_at ts))

suc_factor : (depth : ℕ) (ts : List Token)
    → cond (begins Minus ts) (open_at Minus (suc depth) ts >>= negated_at depth) (cond (begins Open ts) (open_at Open (suc depth) ts >>= closed_expr_by (factor_at depth)) (plain_at ts)) ≡ factor_at (suc depth) ts
unfolding factor_at
suc_factor depth ts =
    opened_is Minus depth (negated_at depth) ts (cond (begins Open ts) (open_at Open (suc depth) ts >>= closed_expr_by (factor_at depth)) (plain_at ts))
    ∙ ap (cond (begins Minus ts) (negated_at depth (behind ts))) (opened_is Open depth (closed_expr_by (factor_at depth)) ts (plain_at ts))

pub factor_field : (depth : ℕ) → Factors depth
factor_field zero =
    same_reader factor zero (λ ts. cond (begins Minus ts) (open_at Minus zero ts >>= negated_at zero) (cond (begins Open ts) (open_at Open zero ts >>= closed_expr_by (factor_at zero)) (plain_at ts))) (factor_at zero) false factor_kinds (16 ∷ [])
    (any_field zero (λ ts. open_at Minus zero ts >>= negated_at zero) (λ ts. open_at Open zero ts >>= closed_expr_by (factor_at zero))
    (zero_field Minus negated (negated_at zero) (16 ∷ []) refl some_negated) (zero_field Open enclosed (closed_expr_by (factor_at zero)) [] refl some_enclosed))
    zero_factor
factor_field (suc depth) =
    same_reader factor (suc depth)
    (λ ts. cond (begins Minus ts) (open_at Minus (suc depth) ts >>= negated_at depth) (cond (begins Open ts) (open_at Open (suc depth) ts >>= closed_expr_by (factor_at depth)) (plain_at ts))) (factor_at (suc depth)) false factor_kinds (16 ∷ [])
    (any_field (suc depth) (λ ts. open_at Minus (suc depth) ts >>= negated_at depth) (λ ts. open_at Open (suc depth) ts >>= closed_expr_by (factor_at depth))
    (suc_field Minus negated depth (negated_at depth) false factor_kinds (16 ∷ []) some_negated (negated_field depth (factor_field depth)))
    (suc_field Open enclosed depth (closed_expr_by (factor_at depth)) false factor_kinds [] some_enclosed (enclosed_field depth (factor_field depth))))
    (suc_factor depth)

pub expr_field : (depth : ℕ) → IsField expr depth (expr_at depth) false factor_kinds (47 ∷ 48 ∷ 17 ∷ 16 ∷ [])
unfolding expr_at
expr_field depth = expr_over_field depth (factor_field depth)

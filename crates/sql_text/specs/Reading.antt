-- Reading tokens from left to right: what stands at the front, and the tokens behind it, or where reading stops.
use Rattle.std.specs.Prelude.{◌≡◌, ◌++◌, ℕ, zero, suc, ◌==◌, ◌||◌, Bool, true, false, List, [], ◌∷◌, length, Option, Some, None, Result, Ok, Err, is_some, option_map, if◌then◌else◌}
use Rattle.sql_values.specs.declared.literal.Literal.{Literal}
use Rattle.sql_values.specs.declared.tree.ColumnName.{ColumnName}
use Rattle.sql_values.specs.declared.tree.Operand.{Operand}
use Rattle.sql_values.specs.declared.tree.Operand.TheVariants as operands
use Rattle.sql_values.specs.declared.tree.Cond.{Cond}
use Rattle.sql_values.specs.declared.tree.Cond.TheVariants as conds
use Rattle.sql_values.specs.declared.tree.Expr.{Expr}
use Rattle.sql_values.specs.declared.tree.Expr.TheVariants as exprs
use Rattle.sql_values.specs.declared.tree.Addend.{Addend}
use Rattle.sql_values.specs.declared.places.LockMode.{LockMode}
use Rattle.sql_values.specs.declared.places.LockMode.TheVariants as locks
use Rattle.sql_text.specs.declared.statement.Statement.{Statement}
use Rattle.sql_text.specs.declared.statement.Statement.TheVariants as statements
use Rattle.sql_text.specs.declared.statement.TableStatement.TheVariants as table_statements
use Rattle.sql_text.specs.declared.statement.SelectItems.{SelectItems}
use Rattle.sql_text.specs.declared.statement.SelectItems.TheVariants as items
use Rattle.sql_text.specs.declared.statement.Item.{Item}
use Rattle.sql_text.specs.declared.statement.AggregateItem.{AggregateItem}
use Rattle.sql_text.specs.declared.statement.SortItem.{SortItem}
use Rattle.sql_text.specs.declared.statement.Limit.{Limit as RowLimit}
use Rattle.sql_text.specs.declared.statement.Tab.{Tab}
use Rattle.sql_text.specs.declared.statement.Admin.{Admin}
use Rattle.sql_text.specs.declared.statement.Admin.TheVariants as admins
use Rattle.sql_text.specs.declared.statement.Assignment.{Assignment}
use Rattle.sql_text.specs.declared.link.AggregateCall.{AggregateCall}
use Rattle.sql_text.specs.declared.link.AggregateCall.TheVariants as calls
use Rattle.sql_text.specs.declared.token.Fixed.{Fixed}
use Rattle.sql_text.specs.declared.token.Fixed.TheVariants.{And, As, Asc, Between, By, Count, Database, Databases, Delete, Desc, For, From, In, Inner, Insert, Into, Join, Limit, Lock, Max, Min, Mode, Not, Null, Offset, On, Or, Order, Select, Set, Share, Show, Sum, Tables, Update, Values, Where, VersionComment, Commit, End, Prepare, Recover, Replace, Rollback, Start, Xa, Open, Close, Comma, Dot, Star, Plus, Minus, Semicolon, Equal, NotEqual, Less, AtMost, Greater, AtLeast}
use Rattle.sql_text.specs.declared.token.Token.{Token}
use Rattle.sql_text.specs.declared.token.Token.TheVariants as tokens
use Rattle.sql_text.specs.declared.fault.Stop.{Stop}
use Rattle.sql_text.specs.declared.fault.ReadError.{ReadError}
use Rattle.sql_text.specs.declared.fault.ReadError.TheVariants as errors
use Rattle.sql_text.specs.Grammar.{name_of, literal_of, comparison_of, sign_of, count_of, one_row_of, is_spider, joined, addend}

-- FAULTS AND STEPS

abbrev pub syntax : {X : Type 0} → List Token → Result X Stop
syntax ts = Err (record { deep = false; left = length ts })

abbrev pub too_deep : {X : Type 0} → List Token → Result X Stop
too_deep ts = Err (record { deep = true; left = length ts })

infixl 10 ◌>>=◌
abbrev pub ◌>>=◌ : {A B : Type 0} → Result A Stop → (A → Result B Stop) → Result B Stop
(Ok x) >>= f = f x
(Err e) >>= f = Err e

-- reading stops so, unless memory ran out
abbrev pub Fails : {Y : Type 0} → ReadError → Result Y Stop → Type 0
Fails errors.Memory read = Unit {0}
Fails (errors.Stopped stop) read = read ≡ Err stop

-- what a function answered, seen by view, is what reading gives, unless memory ran out
abbrev pub Gives : {X Y : Type 0} → (X → Y) → Result X ReadError → Result Y Stop → Type 0
Gives view (Ok x) read = read ≡ Ok (view x)
Gives view (Err e) read = Fails e read

-- a number of each keyword and symbol
abbrev pub number_of : Fixed → ℕ
number_of And = 0
number_of As = 1
number_of Between = 2
number_of From = 3
number_of In = 4
number_of Insert = 5
number_of Into = 6
number_of Not = 7
number_of Null = 8
number_of Or = 9
number_of Select = 10
number_of Values = 11
number_of Where = 12
number_of Open = 13
number_of Close = 14
number_of Comma = 15
number_of Dot = 16
number_of Star = 17
number_of Semicolon = 18
number_of Equal = 19
number_of NotEqual = 20
number_of Less = 21
number_of AtMost = 22
number_of Greater = 23
number_of AtLeast = 24
number_of By = 25
number_of Commit = 26
number_of Count = 27
number_of Delete = 28
number_of End = 29
number_of For = 30
number_of Limit = 31
number_of Lock = 32
number_of Max = 33
number_of Min = 34
number_of Mode = 35
number_of Order = 36
number_of Prepare = 37
number_of Recover = 38
number_of Replace = 39
number_of Rollback = 40
number_of Share = 41
number_of Start = 42
number_of Sum = 43
number_of Update = 44
number_of Xa = 45
number_of Set = 46
number_of Plus = 47
number_of Minus = 48
number_of Asc = 49
number_of Desc = 50
number_of Offset = 51
number_of Database = 52
number_of Databases = 53
number_of Inner = 54
number_of Join = 55
number_of On = 56
number_of Show = 57
number_of Tables = 58
number_of VersionComment = 59

abbrev pub is_fixed : Fixed → Token → Bool
is_fixed f (tokens.Fixed g) = number_of g == number_of f
is_fixed f _ = false

-- this keyword or symbol stands at the front
abbrev pub begins : Fixed → List Token → Bool
begins f [] = false
begins f (t ∷ ts) = is_fixed f t

-- a token with a value stands at the front
abbrev pub stands : {X : Type 0} → (Token → Option X) → List Token → Bool
stands value [] = false
stands value (t ∷ ts) = is_some (value t)

abbrev pub behind : List Token → List Token
behind [] = []
behind (t ∷ ts) = ts

-- what stands behind this keyword or symbol
unfoldable pub expect : Fixed → List Token → Result (List Token) Stop
expect f ts = if begins f ts then Ok (behind ts) else syntax ts

abbrev pub value_before : {X : Type 0} → Option X → Token → List Token → Result (X × List Token) Stop
value_before (Some x) t ts = Ok (x, ts)
value_before None t ts = syntax (t ∷ ts)

abbrev pub one_at : {X : Type 0} → (Token → Option X) → List Token → Result (X × List Token) Stop
one_at value [] = syntax []
one_at value (t ∷ ts) = value_before (value t) t ts

-- what stands behind this keyword or symbol, which opens, with so many openings left
unfoldable pub open_at : Fixed → ℕ → List Token → Result (List Token) Stop
open_at f zero ts = if begins f ts then too_deep ts else syntax ts
open_at f (suc depth) ts = expect f ts

unfoldable pub optional_at : Fixed → List Token → Result (Bool × List Token) Stop
optional_at f ts = if begins f ts then Ok (true, behind ts) else Ok (false, ts)

-- these values in front
abbrev pub with_front : {X : Type 0} → List X → Result (List X × List Token) Stop → Result (List X × List Token) Stop
with_front front read = read >>= λ x. Ok (front ++ x.0, x.1)

-- at most so many parts, one behind the other, each where the test finds that one begins
abbrev pub many_at : {X : Type 0} → ℕ → (List Token → Bool) → (List Token → Result (X × List Token) Stop) → List Token → Result (List X × List Token) Stop
many_at zero test part ts = Ok ([], ts)
many_at (suc count) test part ts = if test ts then (part ts >>= λ x. with_front (x.0 ∷ []) (many_at count test part x.1)) else Ok ([], ts)

-- at most so many further parts, each behind this symbol or keyword
abbrev pub further_at : {X : Type 0} → ℕ → Fixed → (List Token → Result (X × List Token) Stop) → List Token → Result (List X × List Token) Stop
further_at count f part ts = many_at count (begins f) (λ rest. part (behind rest)) ts

-- parts, with this between them; there are at most as many as tokens
abbrev pub series_at : {X : Type 0} → Fixed → (List Token → Result (X × List Token) Stop) → List Token → Result (List X × List Token) Stop
series_at f part ts = part ts >>= λ x. with_front (x.0 ∷ []) (further_at (length x.1) f part x.1)

abbrev pub parenthesized_at : {X : Type 0} → (List Token → Result (X × List Token) Stop) → ℕ → List Token → Result (X × List Token) Stop
parenthesized_at read depth ts = open_at Open depth ts >>= λ inside. read inside >>= λ x. expect Close x.1 >>= λ rest. Ok (x.0, rest)

-- NAMES AND LITERALS

unfoldable pub name_at : List Token → Result (List ℕ × List Token) Stop
name_at ts = one_at name_of ts

unfoldable pub literal_at : List Token → Result (Literal × List Token) Stop
literal_at ts = one_at literal_of ts

-- a name, and whether it may stand before a table's
abbrev pub head_of : Token → Option (Bool × List ℕ)
head_of t = option_map (λ n. (is_spider t, n)) (name_of t)

abbrev pub behind_head_at : Bool × List ℕ → List Token → Result (List ℕ × List Token) Stop
behind_head_at (true, n) ts = if begins Dot ts then name_at (behind ts) else Ok (n, ts)
behind_head_at (false, n) ts = Ok (n, ts)

unfoldable pub table_at : List Token → Result (List ℕ × List Token) Stop
table_at ts = one_at head_of ts >>= λ h. behind_head_at h.0 h.1

unfoldable pub column_at : List Token → Result (ColumnName × List Token) Stop
column_at ts = name_at ts >>= λ n.
    if begins Dot n.1 then (name_at (behind n.1) >>= λ m. Ok (record { table = Some n.0; column = m.0 }, m.1))
    else Ok (record { table = None; column = n.0 }, n.1)

abbrev pub some_name_at : List Token → Result (Option (List ℕ) × List Token) Stop
some_name_at ts = name_at ts >>= λ n. Ok (Some n.0, n.1)

unfoldable pub alias_at : List Token → Result (Option (List ℕ) × List Token) Stop
alias_at ts = if begins As ts then some_name_at (behind ts) else (if stands name_of ts then some_name_at ts else Ok (None, ts))

-- CONDITIONS

unfoldable pub operand_at : List Token → Result (Operand × List Token) Stop
operand_at ts =
    if stands literal_of ts then (literal_at ts >>= λ l. Ok (operands.Literal l.0, l.1))
    else (column_at ts >>= λ c. Ok (operands.Column c.0, c.1))

unfoldable pub literal_list_at : ℕ → List Token → Result (List Literal × List Token) Stop
literal_list_at depth ts = parenthesized_at (series_at Comma literal_at) depth ts

unfoldable pub compared_at : Operand → List Token → Result (Cond × List Token) Stop
compared_at left ts = one_at comparison_of ts >>= λ c. operand_at c.1 >>= λ right. Ok (conds.Compare left c.0 right.0, right.1)

unfoldable pub listed_at : ℕ → ColumnName → Bool → List Token → Result (Cond × List Token) Stop
listed_at depth c negated ts = expect In ts >>= λ rest. literal_list_at depth rest >>= λ l. Ok (conds.In c negated l.0, l.1)

unfoldable pub ranged_at : ColumnName → Bool → List Token → Result (Cond × List Token) Stop
ranged_at c negated ts = expect Between ts >>= λ rest. literal_at rest >>= λ low. expect And low.1 >>= λ rest. literal_at rest >>= λ high.
    Ok (conds.Between c negated low.0 high.0, high.1)

unfoldable pub behind_not_at : ℕ → ColumnName → Bool → List Token → Result (Cond × List Token) Stop
behind_not_at depth c negated ts = if begins In ts then listed_at depth c negated ts else ranged_at c negated ts

unfoldable pub behind_column_at : ℕ → ColumnName → List Token → Result (Cond × List Token) Stop
behind_column_at depth c ts =
    if stands comparison_of ts then compared_at (operands.Column c) ts
    else (if begins Not ts then behind_not_at depth c true (behind ts) else behind_not_at depth c false ts)

unfoldable pub comparison_at : ℕ → List Token → Result (Cond × List Token) Stop
comparison_at depth ts =
    if stands literal_of ts then (literal_at ts >>= λ l. compared_at (operands.Literal l.0) l.1)
    else (column_at ts >>= λ c. behind_column_at depth c.0 c.1)

abbrev pub conj_by : (List Token → Result (Cond × List Token) Stop) → List Token → Result (Cond × List Token) Stop
conj_by neg ts = series_at And neg ts >>= λ parts. Ok (joined conds.All parts.0, parts.1)

abbrev pub cond_by : (List Token → Result (Cond × List Token) Stop) → List Token → Result (Cond × List Token) Stop
cond_by neg ts = series_at Or (conj_by neg) ts >>= λ parts. Ok (joined conds.Any parts.0, parts.1)

-- a condition in parentheses, behind the first
abbrev pub closed_by : (List Token → Result (Cond × List Token) Stop) → List Token → Result (Cond × List Token) Stop
closed_by neg ts = cond_by neg ts >>= λ part. expect Close part.1 >>= λ rest. Ok (part.0, rest)

unfoldable pub neg_at : ℕ → List Token → Result (Cond × List Token) Stop
neg_at zero ts = if begins Not ts then too_deep ts else (if begins Open ts then too_deep ts else comparison_at zero ts)
neg_at (suc depth) ts =
    if begins Not ts then (neg_at depth (behind ts) >>= λ part. Ok (conds.Not part.0, part.1))
    else (if begins Open ts then closed_by (neg_at depth) (behind ts)
    else comparison_at (suc depth) ts)

unfoldable pub cond_at : ℕ → List Token → Result (Cond × List Token) Stop
cond_at depth ts = cond_by (neg_at depth) ts

-- EXPRESSIONS

unfoldable pub plain_at : List Token → Result (Expr × List Token) Stop
plain_at ts =
    if stands literal_of ts then (literal_at ts >>= λ l. Ok (exprs.Literal l.0, l.1))
    else (column_at ts >>= λ c. Ok (exprs.Column c.0, c.1))

abbrev pub term_by : (List Token → Result (Expr × List Token) Stop) → List Token → Result (Expr × List Token) Stop
term_by factor ts = series_at Star factor ts >>= λ parts. Ok (joined exprs.Product parts.0, parts.1)

abbrev pub addend_by : (List Token → Result (Expr × List Token) Stop) → List Token → Result (Addend × List Token) Stop
addend_by factor ts = one_at sign_of ts >>= λ s. term_by factor s.1 >>= λ e. Ok (addend s.0 e.0, e.1)

-- a sum, behind its first part
abbrev pub sum_by : (List Token → Result (Expr × List Token) Stop) → Expr → List Token → Result (Expr × List Token) Stop
sum_by factor first ts =
    with_front (addend false first ∷ []) (many_at (length ts) (stands sign_of) (addend_by factor) ts) >>= λ parts. Ok (exprs.Sum parts.0, parts.1)

abbrev pub expr_by : (List Token → Result (Expr × List Token) Stop) → List Token → Result (Expr × List Token) Stop
expr_by factor ts = term_by factor ts >>= λ first. if stands sign_of first.1 then sum_by factor first.0 first.1 else Ok (first.0, first.1)

-- an expression in parentheses, behind the first
abbrev pub closed_expr_by : (List Token → Result (Expr × List Token) Stop) → List Token → Result (Expr × List Token) Stop
closed_expr_by factor ts = expr_by factor ts >>= λ part. expect Close part.1 >>= λ rest. Ok (part.0, rest)

unfoldable pub factor_at : ℕ → List Token → Result (Expr × List Token) Stop
factor_at zero ts = if begins Minus ts then too_deep ts else (if begins Open ts then too_deep ts else plain_at ts)
factor_at (suc depth) ts =
    if begins Minus ts then (factor_at depth (behind ts) >>= λ part. Ok (exprs.Negated part.0, part.1))
    else (if begins Open ts then closed_expr_by (factor_at depth) (behind ts)
    else plain_at ts)

unfoldable pub expr_at : ℕ → List Token → Result (Expr × List Token) Stop
expr_at depth ts = expr_by (factor_at depth) ts

-- AGGREGATES

unfoldable pub star_at : List Token → Result (AggregateCall × List Token) Stop
star_at ts = expect Star ts >>= λ rest. Ok (calls.Count, rest)

unfoldable pub count_at : ℕ → List Token → Result (AggregateCall × List Token) Stop
count_at depth ts = parenthesized_at star_at depth ts

abbrev pub of_column_at : (ColumnName → AggregateCall) → ℕ → List Token → Result (AggregateCall × List Token) Stop
of_column_at call depth ts = parenthesized_at column_at depth ts >>= λ c. Ok (call c.0, c.1)

unfoldable pub aggregate_at : ℕ → List Token → Result (AggregateCall × List Token) Stop
aggregate_at depth ts =
    if begins Count ts then count_at depth (behind ts)
    else (if begins Sum ts then of_column_at calls.Sum depth (behind ts)
    else (if begins Min ts then of_column_at calls.Min depth (behind ts)
    else (expect Max ts >>= of_column_at calls.Max depth)))

-- STATEMENTS

unfoldable pub column_list_at : ℕ → List Token → Result (Option (List (List ℕ)) × List Token) Stop
column_list_at depth ts =
    if begins Open ts then (parenthesized_at (series_at Comma name_at) depth ts >>= λ l. Ok (Some l.0, l.1)) else Ok (None, ts)

unfoldable pub insert_at : ℕ → List Token → Result (Statement × List Token) Stop
insert_at depth ts =
    expect Insert ts >>= λ rest. optional_at Into rest >>= λ into. table_at into.1 >>= λ t. column_list_at depth t.1 >>= λ c.
    expect Values c.1 >>= λ rest. series_at Comma (literal_list_at depth) rest >>= λ r.
    Ok (statements.Table (table_statements.Insert (record { table = t.0; columns = c.0; rows = r.0 })), r.1)

unfoldable pub item_at : List Token → Result (Item × List Token) Stop
item_at ts = column_at ts >>= λ c. alias_at c.1 >>= λ a. Ok (record { column = c.0; alias = a.0 }, a.1)

unfoldable pub column_items_at : List Token → Result (SelectItems × List Token) Stop
column_items_at ts = item_at ts >>= λ i. with_front (i.0 ∷ []) (further_at 899 Comma item_at i.1) >>= λ l. Ok (items.Columns l.0, l.1)

unfoldable pub aggregate_item_at : ℕ → List Token → Result (AggregateItem × List Token) Stop
aggregate_item_at depth ts = aggregate_at depth ts >>= λ c. alias_at c.1 >>= λ a. Ok (record { call = c.0; alias = a.0 }, a.1)

unfoldable pub aggregate_items_at : ℕ → List Token → Result (SelectItems × List Token) Stop
aggregate_items_at depth ts =
    aggregate_item_at depth ts >>= λ i. with_front (i.0 ∷ []) (further_at 899 Comma (aggregate_item_at depth) i.1) >>= λ l. Ok (items.Aggregates l.0, l.1)

unfoldable pub select_items_at : ℕ → List Token → Result (SelectItems × List Token) Stop
select_items_at depth ts =
    if begins Star ts then Ok (items.All, behind ts)
    else (if stands name_of ts then column_items_at ts else aggregate_items_at depth ts)

unfoldable pub tab_at : List Token → Result (Tab × List Token) Stop
tab_at ts = table_at ts >>= λ t. alias_at t.1 >>= λ a. Ok (record { table = t.0; alias = a.0 }, a.1)

unfoldable pub where_at : ℕ → List Token → Result (Option Cond × List Token) Stop
where_at depth ts = if begins Where ts then (cond_at depth (behind ts) >>= λ c. Ok (Some c.0, c.1)) else Ok (None, ts)

unfoldable pub direction_at : List Token → Result (Bool × List Token) Stop
direction_at ts = if begins Asc ts then Ok (true, behind ts) else (if begins Desc ts then Ok (false, behind ts) else Ok (true, ts))

unfoldable pub sort_at : List Token → Result (SortItem × List Token) Stop
sort_at ts = column_at ts >>= λ c. direction_at c.1 >>= λ d. Ok (record { column = c.0; rising = d.0 }, d.1)

-- what stands behind ORDER
unfoldable pub sort_list_at : List Token → Result (List SortItem × List Token) Stop
sort_list_at ts = expect By ts >>= series_at Comma sort_at

unfoldable pub sorts_at : List Token → Result (List SortItem × List Token) Stop
sorts_at ts = if begins Order ts then sort_list_at (behind ts) else Ok ([], ts)

unfoldable pub order_at : SelectItems → List Token → Result (List SortItem × List Token) Stop
order_at items.All ts = sorts_at ts
order_at (items.Columns l) ts = sorts_at ts
order_at (items.Aggregates l) ts = Ok ([], ts)

unfoldable pub behind_count_at : ℕ → List Token → Result (RowLimit × List Token) Stop
behind_count_at n ts =
    if begins Offset ts then (one_at count_of (behind ts) >>= λ m. Ok (record { count = n; offset = m.0 }, m.1))
    else (if begins Comma ts then (one_at count_of (behind ts) >>= λ m. Ok (record { count = m.0; offset = n }, m.1))
    else Ok (record { count = n; offset = 0 }, ts))

-- what stands behind LIMIT
unfoldable pub counts_at : List Token → Result (Option RowLimit × List Token) Stop
counts_at ts = one_at count_of ts >>= λ n. behind_count_at n.0 n.1 >>= λ l. Ok (Some l.0, l.1)

unfoldable pub limits_at : List Token → Result (Option RowLimit × List Token) Stop
limits_at ts = if begins Limit ts then counts_at (behind ts) else Ok (None, ts)

unfoldable pub limit_at : SelectItems → List Token → Result (Option RowLimit × List Token) Stop
limit_at items.All ts = limits_at ts
limit_at (items.Columns l) ts = limits_at ts
limit_at (items.Aggregates l) ts = Ok (None, ts)

unfoldable pub share_at : List Token → Result (LockMode × List Token) Stop
share_at ts = expect In ts >>= λ rest. expect Share rest >>= λ rest. expect Mode rest >>= λ rest. Ok (locks.Shared, rest)

unfoldable pub for_update_at : List Token → Result (LockMode × List Token) Stop
for_update_at ts = expect For ts >>= λ rest. expect Update rest >>= λ rest. Ok (locks.Exclusive, rest)

unfoldable pub lock_at : List Token → Result (LockMode × List Token) Stop
lock_at ts = if begins Lock ts then share_at (behind ts) else for_update_at ts

unfoldable pub locked_at : List Token → Result (Option LockMode × List Token) Stop
locked_at ts = if begins Lock ts || begins For ts then (lock_at ts >>= λ m. Ok (Some m.0, m.1)) else Ok (None, ts)

unfoldable pub rows_at : ℕ → List Token → Result (Statement × List Token) Stop
rows_at depth ts =
    select_items_at depth ts >>= λ i. expect From i.1 >>= λ rest. tab_at rest >>= λ t. where_at depth t.1 >>= λ c.
    order_at i.0 c.1 >>= λ o. limit_at i.0 o.1 >>= λ l. locked_at l.1 >>= λ m.
    Ok (statements.Table (table_statements.Select (record { items = i.0; tab = t.0; cond = c.0; order = o.0; limit = l.0; lock = m.0 })), m.1)

unfoldable pub comment_limit_at : List Token → Result (Admin × List Token) Stop
comment_limit_at ts = if begins Limit ts then (one_at one_row_of (behind ts) >>= λ n. Ok (admins.VersionComment, n.1)) else Ok (admins.VersionComment, ts)

unfoldable pub database_at : ℕ → List Token → Result (Admin × List Token) Stop
database_at depth ts = parenthesized_at (λ inside. Ok (admins.Database, inside)) depth ts

unfoldable pub of_server_at : ℕ → List Token → Result (Admin × List Token) Stop
of_server_at depth ts = if begins VersionComment ts then comment_limit_at (behind ts) else (expect Database ts >>= database_at depth)

-- what stands behind SELECT
unfoldable pub asked_at : ℕ → List Token → Result (Statement × List Token) Stop
asked_at depth ts =
    if begins VersionComment ts || begins Database ts then (of_server_at depth ts >>= λ a. Ok (statements.Admin a.0, a.1)) else rows_at depth ts

unfoldable pub select_at : ℕ → List Token → Result (Statement × List Token) Stop
select_at depth ts = expect Select ts >>= asked_at depth

unfoldable pub shown_at : List Token → Result (Admin × List Token) Stop
shown_at ts = if begins Tables ts then Ok (admins.ShowTables, behind ts) else (expect Databases ts >>= λ rest. Ok (admins.ShowDatabases, rest))

unfoldable pub show_at : List Token → Result (Statement × List Token) Stop
show_at ts = expect Show ts >>= λ rest. shown_at rest >>= λ a. Ok (statements.Admin a.0, a.1)

unfoldable pub assignment_at : ℕ → List Token → Result (Assignment × List Token) Stop
assignment_at depth ts = name_at ts >>= λ n. expect Equal n.1 >>= λ rest. expr_at depth rest >>= λ e. Ok (record { column = n.0; value = e.0 }, e.1)

unfoldable pub update_at : ℕ → List Token → Result (Statement × List Token) Stop
update_at depth ts =
    expect Update ts >>= λ rest. table_at rest >>= λ t. expect Set t.1 >>= λ rest. series_at Comma (assignment_at depth) rest >>= λ l. where_at depth l.1 >>= λ c.
    Ok (statements.Table (table_statements.Update (record { table = t.0; sets = l.0; cond = c.0 })), c.1)

unfoldable pub delete_at : ℕ → List Token → Result (Statement × List Token) Stop
delete_at depth ts =
    expect Delete ts >>= λ rest. expect From rest >>= λ rest. table_at rest >>= λ t. where_at depth t.1 >>= λ c.
    Ok (statements.Table (table_statements.Delete (record { table = t.0; cond = c.0 })), c.1)

unfoldable pub body_at : ℕ → List Token → Result (Statement × List Token) Stop
body_at depth ts =
    if begins Insert ts then insert_at depth ts
    else (if begins Select ts then select_at depth ts
    else (if begins Show ts then show_at ts
    else (if begins Update ts then update_at depth ts
    else delete_at depth ts)))

-- what was read, where nothing stands behind it
abbrev pub ended : {X : Type 0} → X → List Token → Result X Stop
ended x [] = Ok x
ended x (t ∷ ts) = syntax (t ∷ ts)

-- all of the tokens
unfoldable pub statement_at : ℕ → List Token → Result Statement Stop
statement_at depth ts = body_at depth ts >>= λ s. optional_at Semicolon s.1 >>= λ end. ended s.0 end.1

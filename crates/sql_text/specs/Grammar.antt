-- The grammar of statements, rule by rule.
use Rattle.std.specs.Prelude.{if◌then◌else◌, ◌==◌, ℕ, ℤ, pos, negsuc, zero, suc, ◌^◌, Bool, true, false, List, [], ◌∷◌, Option, Some, None, codes}
use Rattle.std.specs.Prelude.{nat_eq, nat_lt}
use Rattle.std.specs.Cmp.Lexicographic.{pointwise}
use Rattle.sql_values.specs.declared.literal.Literal.{Literal}
use Rattle.sql_values.specs.declared.literal.Literal.TheVariants as literals
use Rattle.sql_values.specs.declared.tree.ColumnName.{ColumnName}
use Rattle.sql_values.specs.declared.tree.Comparison.{Comparison}
use Rattle.sql_values.specs.declared.tree.Comparison.TheVariants as comparisons
use Rattle.sql_values.specs.declared.tree.Operand.{Operand}
use Rattle.sql_values.specs.declared.tree.Operand.TheVariants as operands
use Rattle.sql_values.specs.declared.tree.Cond.{Cond}
use Rattle.sql_values.specs.declared.tree.Cond.TheVariants as conds
use Rattle.sql_values.specs.declared.tree.Expr.{Expr}
use Rattle.sql_values.specs.declared.tree.Expr.TheVariants as exprs
use Rattle.sql_values.specs.declared.tree.Addend.{Addend, roll-Addend}
use Rattle.sql_values.specs.declared.places.LockMode.{LockMode}
use Rattle.sql_values.specs.declared.places.LockMode.TheVariants as locks
use Rattle.sql_text.specs.declared.statement.Statement.{Statement}
use Rattle.sql_text.specs.declared.statement.Statement.TheVariants as statements
use Rattle.sql_text.specs.declared.statement.TableStatement.TheVariants as table_statements
use Rattle.sql_text.specs.declared.statement.SelectItems.{SelectItems}
use Rattle.sql_text.specs.declared.statement.SelectItems.TheVariants as items
use Rattle.sql_text.specs.declared.statement.Item.{Item}
use Rattle.sql_text.specs.declared.statement.AggregateItem.{AggregateItem}
use Rattle.sql_text.specs.declared.statement.SortItem.{SortItem}
use Rattle.sql_text.specs.declared.statement.Limit.{Limit as RowLimit}
use Rattle.sql_text.specs.declared.statement.Tab.{Tab}
use Rattle.sql_text.specs.declared.statement.Admin.{Admin}
use Rattle.sql_text.specs.declared.statement.Admin.TheVariants as admins
use Rattle.sql_text.specs.declared.statement.Assignment.{Assignment}
use Rattle.sql_text.specs.declared.link.AggregateCall.{AggregateCall}
use Rattle.sql_text.specs.declared.link.AggregateCall.TheVariants as calls
use Rattle.sql_text.specs.declared.token.Fixed.TheVariants.{And, As, Asc, Between, By, Count, Database, Databases, Delete, Desc, For, From, In, Insert, Into, Limit, Lock, Max, Min, Mode, Not, Null, Offset, Or, Order, Select, Set, Share, Show, Sum, Tables, Update, Values, Where, VersionComment, Open, Close, Comma, Dot, Star, Plus, Minus, Semicolon, Equal, NotEqual, Less, AtMost, Greater, AtLeast}
use Rattle.sql_text.specs.declared.token.Token.{Token}
use Rattle.sql_text.specs.declared.token.Token.TheVariants as tokens
use Rattle.sql_text.specs.Rules.{Rule, is, one, ◌⊳◌, ◌▷◌, ◌∣◌, optional, many, series, at_most_further, parenthesized}

-- THE VALUES OF SINGLE TOKENS

abbrev pub name_of : Token → Option (List ℕ)
name_of (tokens.Bare n) = Some n
name_of (tokens.Quoted n) = Some n
name_of _ = None

abbrev pub literal_of : Token → Option Literal
literal_of (tokens.Digits n) = Some (literals.Number n)
literal_of (tokens.Signed n) = Some (literals.Number n)
literal_of (tokens.Text t) = Some (literals.Text t)
literal_of (tokens.Fixed Null) = Some literals.Null
literal_of _ = None

abbrev pub comparison_of : Token → Option Comparison
comparison_of (tokens.Fixed Equal) = Some comparisons.Equal
comparison_of (tokens.Fixed NotEqual) = Some comparisons.NotEqual
comparison_of (tokens.Fixed Less) = Some comparisons.Less
comparison_of (tokens.Fixed AtMost) = Some comparisons.AtMost
comparison_of (tokens.Fixed Greater) = Some comparisons.Greater
comparison_of (tokens.Fixed AtLeast) = Some comparisons.AtLeast
comparison_of _ = None

-- the sign between two parts of a sum: whether what stands behind it is subtracted
abbrev pub sign_of : Token → Option Bool
sign_of (tokens.Fixed Plus) = Some false
sign_of (tokens.Fixed Minus) = Some true
sign_of _ = None

abbrev pub count : ℤ → Option ℕ
count (pos n) = if nat_lt n (2 ^ 64) then Some n else None
count (negsuc n) = None

-- a count of rows, of 64 bits
abbrev pub count_of : Token → Option ℕ
count_of (tokens.Digits n) = count n
count_of _ = None

-- the count 1
abbrev pub one_row : ℤ → Option ℕ
one_row (pos n) = if n == 1 then Some n else None
one_row (negsuc n) = None

abbrev pub one_row_of : Token → Option ℕ
one_row_of (tokens.Digits n) = one_row n
one_row_of _ = None

-- the word `spider` as it is written
abbrev pub is_spider : Token → Bool
is_spider (tokens.Bare n) = pointwise nat_eq n (codes "spider")
is_spider _ = false

abbrev pub spider_of : Token → Option Bool
spider_of t = if is_spider t then Some true else None

-- NAMES AND LITERALS

abbrev pub name : Rule (List ℕ)
name = one name_of

abbrev pub literal : Rule Literal
literal = one literal_of

-- table = [spider "."] name
abbrev pub table : Rule (List ℕ)
table = (one spider_of ▷ λ _. Dot ⊳ name) ∣ name

-- column = [name "."] name
abbrev pub column : Rule ColumnName
column = (name ▷ λ t. Dot ⊳ (name ▷ λ n. is (record { table = Some t; column = n }))) ∣ (name ▷ λ n. is (record { table = None; column = n }))

-- alias = [[AS] name]
abbrev pub alias : Rule (Option (List ℕ))
alias = (As ⊳ (name ▷ λ n. is (Some n))) ∣ (name ▷ λ n. is (Some n)) ∣ is None

-- CONDITIONS

-- operand = literal | column
abbrev pub operand : Rule Operand
operand = (literal ▷ λ l. is (operands.Literal l)) ∣ (column ▷ λ c. is (operands.Column c))

abbrev pub literal_list : ℕ → Rule (List Literal)
literal_list depth = parenthesized (series Comma literal) depth

-- operand cmp operand
abbrev pub compared : Rule Cond
compared = operand ▷ λ left. one comparison_of ▷ λ c. operand ▷ λ right. is (conds.Compare left c right)

-- column [NOT] IN "(" literal {"," literal} ")"
abbrev pub listed : ℕ → Rule Cond
listed depth = column ▷ λ c. optional Not ▷ λ negated. In ⊳ (literal_list depth ▷ λ l. is (conds.In c negated l))

-- column [NOT] BETWEEN literal AND literal
abbrev pub ranged : Rule Cond
ranged = column ▷ λ c. optional Not ▷ λ negated. Between ⊳ (literal ▷ λ low. And ⊳ (literal ▷ λ high. is (conds.Between c negated low high)))

-- a test without parentheses round it
abbrev pub comparison : ℕ → Rule Cond
comparison depth = compared ∣ listed depth ∣ ranged

-- several parts are one node, one part alone is that part
abbrev pub joined : {X : Type 0} → (List X → X) → List X → X
joined node (c ∷ []) = c
joined node parts = node parts

-- conj = neg {AND neg}
abbrev pub conj_over : Rule Cond → Rule Cond
conj_over neg = series And neg ▷ λ parts. is (joined conds.All parts)

-- cond = conj {OR conj}
abbrev pub cond_over : Rule Cond → Rule Cond
cond_over neg = series Or (conj_over neg) ▷ λ parts. is (joined conds.Any parts)

-- neg = NOT neg | test
-- test = "(" cond ")" | operand cmp operand | column [NOT] IN "(" literal {"," literal} ")" | column [NOT] BETWEEN literal AND literal
-- Each NOT and each parenthesis is an opening, of which at most so many stand inside one another
unfoldable pub neg : ℕ → Rule Cond
neg zero c ts = comparison zero c ts
neg (suc depth) c ts =
    ((Not ⊳ (neg depth ▷ λ part. is (conds.Not part))) ∣ (Open ⊳ (cond_over (neg depth) ▷ λ part. Close ⊳ is part)) ∣ comparison (suc depth)) c ts

abbrev pub cond : ℕ → Rule Cond
cond depth = cond_over (neg depth)

-- EXPRESSIONS

abbrev pub plain_expr : Rule Expr
plain_expr = (literal ▷ λ l. is (exprs.Literal l)) ∣ (column ▷ λ c. is (exprs.Column c))

-- term = factor {"*" factor}
abbrev pub term_over : Rule Expr → Rule Expr
term_over factor = series Star factor ▷ λ parts. is (joined exprs.Product parts)

-- a part of a sum, with its sign
abbrev pub addend : Bool → Expr → Addend
addend subtracted e = roll-Addend (record { subtracted = subtracted; expr = e })

-- a further part of a sum, behind its sign
abbrev pub addend_over : Rule Expr → Rule Addend
addend_over term = one sign_of ▷ λ subtracted. term ▷ λ e. is (addend subtracted e)

-- several parts are one node, of which the first is added; one part alone is that part
abbrev pub summed : Expr → List Addend → Expr
summed first [] = first
summed first others = exprs.Sum (addend false first ∷ others)

-- expr = term {("+" | "-") term}
abbrev pub expr_over : Rule Expr → Rule Expr
expr_over factor = term_over factor ▷ λ first. many (addend_over (term_over factor)) ▷ λ others. is (summed first others)

-- factor = literal | column | "-" factor | "(" expr ")"
-- Each minus of a factor and each parenthesis is an opening, of which at most so many stand inside one another
unfoldable pub factor : ℕ → Rule Expr
factor zero e ts = plain_expr e ts
factor (suc depth) e ts =
    ((Minus ⊳ (factor depth ▷ λ part. is (exprs.Negated part))) ∣ (Open ⊳ (expr_over (factor depth) ▷ λ part. Close ⊳ is part)) ∣ plain_expr) e ts

abbrev pub expr : ℕ → Rule Expr
expr depth = expr_over (factor depth)

-- AGGREGATES

-- a column in parentheses, as an aggregate has it
abbrev pub of_column : (ColumnName → AggregateCall) → ℕ → Rule AggregateCall
of_column call depth = parenthesized column depth ▷ λ c. is (call c)

-- aggregate = COUNT "(" "*" ")" | (SUM | MIN | MAX) "(" column ")"
abbrev pub aggregate : ℕ → Rule AggregateCall
aggregate depth =
    (Count ⊳ parenthesized (Star ⊳ is calls.Count) depth) ∣ (Sum ⊳ of_column calls.Sum depth) ∣ (Min ⊳ of_column calls.Min depth) ∣ (Max ⊳ of_column calls.Max depth)

-- STATEMENTS

-- tuple = "(" literal {"," literal} ")"
abbrev pub tuple : ℕ → Rule (List Literal)
tuple depth = literal_list depth

abbrev pub column_list : ℕ → Rule (Option (List (List ℕ)))
column_list depth = (parenthesized (series Comma name) depth ▷ λ l. is (Some l)) ∣ is None

-- insert = INSERT [INTO] table ["(" name {"," name} ")"] VALUES tuple {"," tuple}
abbrev pub insert : ℕ → Rule Statement
insert depth =
    Insert ⊳ (optional Into ▷ λ _. table ▷ λ t. column_list depth ▷ λ c. Values ⊳ (series Comma (tuple depth) ▷ λ r.
    is (statements.Table (table_statements.Insert (record { table = t; columns = c; rows = r })))))

-- item = column [[AS] name]
abbrev pub item : Rule Item
item = column ▷ λ c. alias ▷ λ a. is (record { column = c; alias = a })

-- item {"," item}, at most 900 of them
abbrev pub column_items : Rule SelectItems
column_items = item ▷ λ i. at_most_further 899 Comma item ▷ λ l. is (items.Columns (i ∷ l))

-- aggregate_item = aggregate [[AS] name]
abbrev pub aggregate_item : ℕ → Rule AggregateItem
aggregate_item depth = aggregate depth ▷ λ c. alias ▷ λ a. is (record { call = c; alias = a })

-- aggregate_item {"," aggregate_item}, at most 900 of them
abbrev pub aggregate_items : ℕ → Rule SelectItems
aggregate_items depth = aggregate_item depth ▷ λ i. at_most_further 899 Comma (aggregate_item depth) ▷ λ l. is (items.Aggregates (i ∷ l))

-- items = "*" | item {"," item} | aggregate_item {"," aggregate_item}
abbrev pub select_items : ℕ → Rule SelectItems
select_items depth = (Star ⊳ is items.All) ∣ column_items ∣ aggregate_items depth

-- tab = table [[AS] name]
abbrev pub tab : Rule Tab
tab = table ▷ λ t. alias ▷ λ a. is (record { table = t; alias = a })

abbrev pub where_cond : ℕ → Rule (Option Cond)
where_cond depth = (Where ⊳ (cond depth ▷ λ c. is (Some c))) ∣ is None

-- [ASC | DESC], and whether rows are sorted rising
abbrev pub direction : Rule Bool
direction = (Asc ⊳ is true) ∣ (Desc ⊳ is false) ∣ is true

-- sort = column [ASC | DESC]
abbrev pub sort : Rule SortItem
sort = column ▷ λ c. direction ▷ λ d. is (record { column = c; rising = d })

-- [ORDER BY sort {"," sort}]
abbrev pub sorts : Rule (List SortItem)
sorts = (Order ⊳ (By ⊳ series Comma sort)) ∣ is []

-- order = [ORDER BY sort {"," sort}], but none where the items are aggregates
abbrev pub order : SelectItems → Rule (List SortItem)
order items.All = sorts
order (items.Columns l) = sorts
order (items.Aggregates l) = is []

-- what stands behind the first count of a limit: OFFSET and the offset, or a comma and the count, where the first one is the offset, or nothing
abbrev pub behind_count : ℕ → Rule RowLimit
behind_count n =
    (Offset ⊳ (one count_of ▷ λ m. is (record { count = n; offset = m }))) ∣ (Comma ⊳ (one count_of ▷ λ m. is (record { count = m; offset = n }))) ∣ is (record { count = n; offset = 0 })

-- [LIMIT digits [OFFSET digits] | LIMIT digits "," digits]
abbrev pub limits : Rule (Option RowLimit)
limits = (Limit ⊳ (one count_of ▷ λ n. behind_count n ▷ λ l. is (Some l))) ∣ is None

-- limit = [LIMIT digits [OFFSET digits] | LIMIT digits "," digits], but none where the items are aggregates
abbrev pub limit : SelectItems → Rule (Option RowLimit)
limit items.All = limits
limit (items.Columns l) = limits
limit (items.Aggregates l) = is None

-- lock = LOCK IN SHARE MODE | FOR UPDATE
abbrev pub lock : Rule LockMode
lock = (Lock ⊳ (In ⊳ (Share ⊳ (Mode ⊳ is locks.Shared)))) ∣ (For ⊳ (Update ⊳ is locks.Exclusive))

abbrev pub locked : Rule (Option LockMode)
locked = (lock ▷ λ m. is (Some m)) ∣ is None

-- items FROM tab [WHERE cond] order limit [lock]
abbrev pub rows : ℕ → Rule Statement
rows depth =
    select_items depth ▷ λ i. From ⊳ (tab ▷ λ t. where_cond depth ▷ λ c. order i ▷ λ o. limit i ▷ λ l. locked ▷ λ m.
    is (statements.Table (table_statements.Select (record { items = i; tab = t; cond = c; order = o; limit = l; lock = m }))))

-- [LIMIT 1], which leaves nothing behind
abbrev pub comment_limit : Rule Admin
comment_limit = (Limit ⊳ (one one_row_of ▷ λ _. is admins.VersionComment)) ∣ is admins.VersionComment

-- @@version_comment [LIMIT 1] | DATABASE "(" ")"
abbrev pub of_server : ℕ → Rule Admin
of_server depth = (VersionComment ⊳ comment_limit) ∣ (Database ⊳ parenthesized (is admins.Database) depth)

-- select = SELECT (@@version_comment [LIMIT 1] | DATABASE "(" ")" | items FROM tab [WHERE cond] order limit [lock])
abbrev pub select : ℕ → Rule Statement
select depth = Select ⊳ ((of_server depth ▷ λ a. is (statements.Admin a)) ∣ rows depth)

abbrev pub shown : Rule Admin
shown = (Tables ⊳ is admins.ShowTables) ∣ (Databases ⊳ is admins.ShowDatabases)

-- show = SHOW (TABLES | DATABASES)
abbrev pub show : Rule Statement
show = Show ⊳ (shown ▷ λ a. is (statements.Admin a))

-- name "=" expr
abbrev pub assignment : ℕ → Rule Assignment
assignment depth = name ▷ λ n. Equal ⊳ (expr depth ▷ λ e. is (record { column = n; value = e }))

-- update = UPDATE table SET name "=" expr {"," name "=" expr} [WHERE cond]
abbrev pub update : ℕ → Rule Statement
update depth =
    Update ⊳ (table ▷ λ t. Set ⊳ (series Comma (assignment depth) ▷ λ l. where_cond depth ▷ λ c.
    is (statements.Table (table_statements.Update (record { table = t; sets = l; cond = c })))))

-- delete = DELETE FROM table [WHERE cond]
abbrev pub delete : ℕ → Rule Statement
delete depth = Delete ⊳ (From ⊳ (table ▷ λ t. where_cond depth ▷ λ c. is (statements.Table (table_statements.Delete (record { table = t; cond = c })))))

abbrev pub body : ℕ → Rule Statement
body depth = insert depth ∣ select depth ∣ show ∣ update depth ∣ delete depth

-- statement = (insert | select | show | update | delete) [";"]
abbrev pub statement : ℕ → Rule Statement
statement depth = body depth ▷ λ s. optional Semicolon ▷ λ _. is s

-- how many openings may stand inside one another
abbrev pub most_openings : ℕ
most_openings = 64

-- the tokens are a statement
abbrev pub IsStatement : List Token → Statement → Type 0
IsStatement ts s = statement most_openings s ts

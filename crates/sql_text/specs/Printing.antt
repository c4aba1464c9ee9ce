-- The canonical text of a statement.
use Rattle.std.specs.Prelude.{ℕ, pos, ◌++◌, ◌==◌, Bool, true, false, List, [], ◌∷◌, map, Option, Some, None, if◌then◌else◌, nat_lt, codes}
use Rattle.std.specs.List.{flat_map}
use Rattle.std.specs.Fmt.{signed_decimal}
use Rattle.sql_values.specs.declared.literal.Literal.{Literal}
use Rattle.sql_values.specs.declared.literal.Literal.TheVariants as literals
use Rattle.sql_values.specs.declared.tree.ColumnName.{ColumnName}
use Rattle.sql_values.specs.declared.tree.Comparison.{Comparison}
use Rattle.sql_values.specs.declared.tree.Comparison.TheVariants.{Equal, NotEqual, Less, AtMost, Greater, AtLeast}
use Rattle.sql_values.specs.declared.tree.Operand.{Operand}
use Rattle.sql_values.specs.declared.tree.Operand.TheVariants as operands
use Rattle.sql_values.specs.declared.tree.Cond.{Cond, Cond-F, fold-Cond}
use Rattle.sql_values.specs.declared.tree.Cond.TheOpen.{All, Any, Not, Compare, In, Between}
use Rattle.sql_values.specs.declared.tree.Expr.{Expr, Expr-F}
use Rattle.sql_values.specs.declared.tree.Expr.TheFolds.{fold-Expr}
use Rattle.sql_values.specs.declared.tree.Expr.TheOpen as exprs
use Rattle.sql_values.specs.declared.tree.Addend.{Addend, Addend-F, fold-Addend}
use Rattle.sql_values.specs.declared.places.LockMode.{LockMode}
use Rattle.sql_values.specs.declared.places.LockMode.TheVariants as locks
use Rattle.sql_text.specs.declared.statement.Statement.{Statement}
use Rattle.sql_text.specs.declared.statement.Statement.TheVariants as statements
use Rattle.sql_text.specs.declared.statement.TableStatement.TheVariants as table_statements
use Rattle.sql_text.specs.declared.statement.Admin.{Admin}
use Rattle.sql_text.specs.declared.statement.Admin.TheVariants as admins
use Rattle.sql_text.specs.declared.statement.SelectItems.{SelectItems}
use Rattle.sql_text.specs.declared.statement.SelectItems.TheVariants as items
use Rattle.sql_text.specs.declared.statement.Item.{Item}
use Rattle.sql_text.specs.declared.statement.AggregateItem.{AggregateItem}
use Rattle.sql_text.specs.declared.statement.SortItem.{SortItem}
use Rattle.sql_text.specs.declared.statement.Limit.{Limit}
use Rattle.sql_text.specs.declared.statement.Assignment.{Assignment}
use Rattle.sql_text.specs.declared.link.AggregateCall.{AggregateCall}
use Rattle.sql_text.specs.declared.link.AggregateCall.TheVariants as calls

-- a byte of a text, as it stands in a literal
abbrev pub escaped : ℕ → List ℕ
escaped b =
    if b == 0 then 92 ∷ 48 ∷ []
    else (if b == 10 then 92 ∷ 110 ∷ []
    else (if b == 13 then 92 ∷ 114 ∷ []
    else (if b == 26 then 92 ∷ 90 ∷ []
    else (if b == 39 then 39 ∷ 39 ∷ []
    else (if b == 92 then 92 ∷ 92 ∷ []
    else b ∷ [])))))

-- a text as a literal
abbrev pub quoted : List ℕ → List ℕ
quoted text = 39 ∷ (flat_map escaped text ++ (39 ∷ []))

abbrev pub literal_text : Literal → List ℕ
literal_text (literals.Number n) = signed_decimal n
literal_text (literals.Text t) = quoted t
literal_text literals.Null = codes "NULL"

-- a name in backquotes
abbrev pub name_text : List ℕ → List ℕ
name_text n = 96 ∷ (n ++ (96 ∷ []))

-- texts with a separator between them
abbrev pub joined_text : List ℕ → List (List ℕ) → List ℕ
joined_text separator [] = []
joined_text separator (x ∷ xs) = x ++ flat_map (λ y. separator ++ y) xs

abbrev pub qualifier_text : Option (List ℕ) → List ℕ
qualifier_text None = []
qualifier_text (Some t) = name_text t ++ (46 ∷ [])

abbrev pub column_text : ColumnName → List ℕ
column_text c = qualifier_text c.table ++ name_text c.column

abbrev pub operand_text : Operand → List ℕ
operand_text (operands.Column c) = column_text c
operand_text (operands.Literal l) = literal_text l

abbrev pub comparison_text : Comparison → List ℕ
comparison_text Equal = codes " = "
comparison_text NotEqual = codes " <> "
comparison_text Less = codes " < "
comparison_text AtMost = codes " <= "
comparison_text Greater = codes " > "
comparison_text AtLeast = codes " >= "

abbrev pub negation_text : Bool → List ℕ
negation_text true = codes " NOT"
negation_text false = []

-- literals with commas between them
abbrev pub literals_text : List Literal → List ℕ
literals_text ls = joined_text (codes ",") (map literal_text ls)

-- how loosely a condition or an expression binds, and its text: 0 a test or a NOT, 1 parts joined by AND, 2 parts joined by OR; 0 a factor, 1 a product, 2 a sum
abbrev pub Shown : Type 0
Shown = ℕ × List ℕ

abbrev pub opening : Bool → List ℕ
opening enclosed = if enclosed then 40 ∷ [] else []

abbrev pub closing : Bool → List ℕ
closing enclosed = if enclosed then 41 ∷ [] else []

-- its text where only what binds at least so tightly stands without parentheses
abbrev pub at_level : ℕ → Shown → List ℕ
at_level level shown = opening (nat_lt level shown.0) ++ (shown.1 ++ closing (nat_lt level shown.0))

abbrev pub layer_text : Cond-F Shown → Shown
layer_text (All parts) = (1, joined_text (codes " AND ") (map (at_level 0) parts))
layer_text (Any parts) = (2, joined_text (codes " OR ") (map (at_level 1) parts))
layer_text (Not part) = (0, codes "NOT " ++ at_level 0 part)
layer_text (Compare left comparison right) = (0, operand_text left ++ (comparison_text comparison ++ operand_text right))
layer_text (In c negated list) = (0, column_text c ++ (negation_text negated ++ (codes " IN (" ++ (literals_text list ++ codes ")"))))
layer_text (Between c negated low high) = (0, column_text c ++ (negation_text negated ++ (codes " BETWEEN " ++ (literal_text low ++ (codes " AND " ++ literal_text high)))))

abbrev pub shown_cond : Cond → Shown
shown_cond = fold-Cond Shown layer_text

abbrev pub cond_text : Cond → List ℕ
cond_text c = at_level 2 (shown_cond c)

-- the sign between two parts of a sum
abbrev pub sign_text : Bool → List ℕ
sign_text true = codes " - "
sign_text false = codes " + "

-- a part of a sum, behind its sign unless it is the first
abbrev pub part_text : Bool → Bool × Shown → List ℕ
part_text false part = at_level 1 part.1
part_text true part = sign_text part.0 ++ at_level 1 part.1

abbrev pub sum_text : List (Bool × Shown) → List ℕ
sum_text [] = []
sum_text (first ∷ others) = part_text false first ++ flat_map (part_text true) others

abbrev pub expr_layer_text : Expr-F Shown (Bool × Shown) → Shown
expr_layer_text (exprs.Literal l) = (0, literal_text l)
expr_layer_text (exprs.Column c) = (0, column_text c)
expr_layer_text (exprs.Negated part) = (0, codes "- " ++ at_level 0 part)
expr_layer_text (exprs.Sum parts) = (2, sum_text parts)
expr_layer_text (exprs.Product parts) = (1, joined_text (codes " * ") (map (at_level 0) parts))

abbrev pub addend_layer_text : Addend-F Shown (Bool × Shown) → Bool × Shown
addend_layer_text part = (part.subtracted, part.expr)

abbrev pub shown_expr : Expr → Shown
shown_expr = fold-Expr Shown (Bool × Shown) expr_layer_text addend_layer_text

abbrev pub shown_addend : Addend → Bool × Shown
shown_addend = fold-Addend Shown (Bool × Shown) expr_layer_text addend_layer_text

abbrev pub expr_text : Expr → List ℕ
expr_text e = at_level 2 (shown_expr e)

abbrev pub alias_text : Option (List ℕ) → List ℕ
alias_text None = []
alias_text (Some n) = codes " AS " ++ name_text n

abbrev pub item_text : Item → List ℕ
item_text i = column_text i.column ++ alias_text i.alias

abbrev pub call_text : AggregateCall → List ℕ
call_text calls.Count = codes "COUNT(*)"
call_text (calls.Sum c) = codes "SUM(" ++ (column_text c ++ codes ")")
call_text (calls.Min c) = codes "MIN(" ++ (column_text c ++ codes ")")
call_text (calls.Max c) = codes "MAX(" ++ (column_text c ++ codes ")")

abbrev pub aggregate_item_text : AggregateItem → List ℕ
aggregate_item_text i = call_text i.call ++ alias_text i.alias

abbrev pub items_text : SelectItems → List ℕ
items_text items.All = codes "*"
items_text (items.Columns l) = joined_text (codes ", ") (map item_text l)
items_text (items.Aggregates l) = joined_text (codes ", ") (map aggregate_item_text l)

abbrev pub where_text : Option Cond → List ℕ
where_text None = []
where_text (Some c) = codes " WHERE " ++ cond_text c

abbrev pub columns_text : Option (List (List ℕ)) → List ℕ
columns_text None = []
columns_text (Some l) = codes " (" ++ (joined_text (codes ", ") (map name_text l) ++ codes ")")

abbrev pub tuple_text : List Literal → List ℕ
tuple_text ls = codes "(" ++ (literals_text ls ++ codes ")")

-- rising is what it is without a word
abbrev pub direction_text : Bool → List ℕ
direction_text true = []
direction_text false = codes " DESC"

abbrev pub sort_text : SortItem → List ℕ
sort_text s = column_text s.column ++ direction_text s.rising

abbrev pub order_text : List SortItem → List ℕ
order_text [] = []
order_text (s ∷ l) = codes " ORDER BY " ++ joined_text (codes ", ") (map sort_text (s ∷ l))

-- an offset of 0 is what it is without OFFSET
abbrev pub offset_text : ℕ → List ℕ
offset_text n = if n == 0 then [] else codes " OFFSET " ++ signed_decimal (pos n)

abbrev pub limit_text : Option Limit → List ℕ
limit_text None = []
limit_text (Some l) = codes " LIMIT " ++ (signed_decimal (pos l.count) ++ offset_text l.offset)

abbrev pub lock_text : LockMode → List ℕ
lock_text locks.Shared = codes " LOCK IN SHARE MODE"
lock_text locks.Exclusive = codes " FOR UPDATE"

abbrev pub locked_text : Option LockMode → List ℕ
locked_text None = []
locked_text (Some m) = lock_text m

abbrev pub assignment_text : Assignment → List ℕ
assignment_text a = name_text a.column ++ (codes " = " ++ expr_text a.value)

abbrev pub admin_text : Admin → List ℕ
admin_text admins.ShowTables = codes "SHOW TABLES"
admin_text admins.ShowDatabases = codes "SHOW DATABASES"
admin_text admins.VersionComment = codes "SELECT @@version_comment"
admin_text admins.Database = codes "SELECT DATABASE()"

-- the canonical text
unfoldable pub printed : Statement → List ℕ
printed (statements.Table (table_statements.Insert i)) = codes "INSERT INTO " ++ (name_text i.table ++ (columns_text i.columns ++ (codes " VALUES " ++ joined_text (codes ",") (map tuple_text i.rows))))
printed (statements.Table (table_statements.Select s)) = codes "SELECT " ++ (items_text s.items ++ (codes " FROM " ++ (name_text s.tab.table ++ (alias_text s.tab.alias ++ (where_text s.cond ++ (order_text s.order ++ (limit_text s.limit ++ locked_text s.lock)))))))
printed (statements.Table (table_statements.Update u)) = codes "UPDATE " ++ (name_text u.table ++ (codes " SET " ++ (joined_text (codes ", ") (map assignment_text u.sets) ++ where_text u.cond)))
printed (statements.Table (table_statements.Delete d)) = codes "DELETE FROM " ++ (name_text d.table ++ where_text d.cond)
printed (statements.Admin a) = admin_text a

-- What a check of a condition or an expression against its tables answers.
use Rattle.std.specs.Prelude.{ℕ, Bool, true, false, ◌&&◌, ◌==◌, ◌++◌, if◌then◌else◌, nat_lt, List, [], ◌∷◌, Option, Some, None, Result, Ok, Err, length}
use Rattle.std.specs.List.{list_all, flat_map, find}
use Rattle.std.specs.Option.{option_map, option_or}
use Rattle.sql_values.specs.declared.checks.CheckFault.{CheckFault}
use Rattle.sql_values.specs.declared.checks.CheckFault.TheVariants.{NoColumn, Ambiguous, TypeMismatch}
use Rattle.sql_values.specs.declared.table.Kind.{Kind}
use Rattle.sql_values.specs.declared.table.Kind.TheVariants.{BigInt, VarChar}
use Rattle.sql_values.specs.declared.table.TableDef.{TableDef}
use Rattle.sql_values.specs.declared.tree.ColumnName.{ColumnName}
use Rattle.sql_values.specs.declared.tree.Operand.{Operand}
use Rattle.sql_values.specs.declared.tree.Operand.TheVariants as operand
use Rattle.sql_values.specs.declared.tree.Cond.{Cond, Cond-F}
use Rattle.sql_values.specs.declared.tree.Cond.TheFolds.{fold-Cond}
use Rattle.sql_values.specs.declared.tree.Cond.TheOpen.{All, Any, Not, Compare, In, Between}
use Rattle.sql_values.specs.declared.tree.Expr.{Expr, Expr-F}
use Rattle.sql_values.specs.declared.tree.Expr.TheFolds.{fold-Expr}
use Rattle.sql_values.specs.declared.tree.Expr.TheOpen.{Literal, Column, Negated, Sum, Product}
use Rattle.sql_values.specs.declared.tree.Addend.{Addend, Addend-F, fold-Addend}
use Rattle.sql_values.specs.Columns.{columns_meant, column_kind}
use Rattle.sql_values.specs.Kinds.{literal_kind, are_comparable}

-- the columns that an operand names
abbrev pub operand_columns : Operand → List ColumnName
operand_columns (operand.Column name) = name ∷ []
operand_columns (operand.Literal l) = []

abbrev pub layer_columns : Cond-F (List ColumnName) → List ColumnName
layer_columns (All parts) = flat_map (λ part. part) parts
layer_columns (Any parts) = flat_map (λ part. part) parts
layer_columns (Not part) = part
layer_columns (Compare left comparison right) = operand_columns left ++ operand_columns right
layer_columns (In column negated list) = column ∷ []
layer_columns (Between column negated low high) = column ∷ []

-- the columns that a condition names, in the order of its text
abbrev pub cond_columns : Cond → List ColumnName
cond_columns = fold-Cond (List ColumnName) layer_columns

abbrev pub expr_layer_columns : Expr-F (List ColumnName) (List ColumnName) → List ColumnName
expr_layer_columns (Literal l) = []
expr_layer_columns (Column name) = name ∷ []
expr_layer_columns (Negated part) = part
expr_layer_columns (Sum parts) = flat_map (λ part. part) parts
expr_layer_columns (Product parts) = flat_map (λ part. part) parts

abbrev pub addend_columns : Addend-F (List ColumnName) (List ColumnName) → List ColumnName
addend_columns part = part.expr

-- the columns that an expression names, in the order of its text
abbrev pub expr_columns : Expr → List ColumnName
expr_columns = fold-Expr (List ColumnName) (List ColumnName) expr_layer_columns addend_columns

-- the columns that a part of a sum names
abbrev pub columns_of_addend : Addend → List ColumnName
columns_of_addend = fold-Addend (List ColumnName) (List ColumnName) expr_layer_columns addend_columns

-- no column may be meant, or more than one
abbrev pub is_unknown : List TableDef → ColumnName → Bool
is_unknown tables name = length (columns_meant name tables) == 0

abbrev pub is_ambiguous : List TableDef → ColumnName → Bool
is_ambiguous tables name = nat_lt 1 (length (columns_meant name tables))

-- the first of these names that passes the test, without its qualifier
unfoldable pub first_column : (ColumnName → Bool) → List ColumnName → Option (List ℕ)
first_column test names = option_map (λ (name : ColumnName). name.column) (find test names)

-- a column that no table has, or else one that several have
abbrev pub named_fault : Option (List ℕ) → Option (List ℕ) → Option CheckFault
named_fault unknown ambiguous = option_or (option_map NoColumn unknown) (option_map Ambiguous ambiguous)

-- the first of these names that means no column; where each means one, the first that may mean several
abbrev pub column_fault : List TableDef → List ColumnName → Option CheckFault
column_fault tables names = named_fault (first_column (is_unknown tables) names) (first_column (is_ambiguous tables) names)

-- the fault of the columns; where they have none, what was found, or else a mismatch of types
abbrev pub after_columns : {T : Type 0} → Option CheckFault → Option T → Result T CheckFault
after_columns (Some fault) found = Err fault
after_columns None (Some x) = Ok x
after_columns None None = Err TypeMismatch

abbrev pub operand_kind : List TableDef → Operand → Option Kind
operand_kind tables (operand.Literal l) = literal_kind l
operand_kind tables (operand.Column name) = column_kind tables name

-- the values that meet in a condition can be compared, where it is known whether those in its parts can
abbrev pub layer_fits : List TableDef → Cond-F Bool → Bool
layer_fits tables (All parts) = list_all (λ part. part) parts
layer_fits tables (Any parts) = list_all (λ part. part) parts
layer_fits tables (Not part) = part
layer_fits tables (Compare left comparison right) = are_comparable (operand_kind tables left) (operand_kind tables right)
layer_fits tables (In column negated list) = list_all (λ l. are_comparable (column_kind tables column) (literal_kind l)) list
layer_fits tables (Between column negated low high) =
    are_comparable (column_kind tables column) (literal_kind low) && are_comparable (column_kind tables column) (literal_kind high)

abbrev pub cond_fits : List TableDef → Cond → Bool
cond_fits tables = fold-Cond Bool (layer_fits tables)

-- what `check_cond` answers
abbrev pub checked_cond : Cond → List TableDef → Result (Unit {0}) CheckFault
checked_cond cond tables = after_columns (column_fault tables (cond_columns cond)) (if cond_fits tables cond then Some tt else None)

abbrev pub is_number : Option Kind → Bool
is_number (Some BigInt) = true
is_number (Some (VarChar n)) = false
is_number None = false

-- the kind of an expression, where it is known which kinds its parts have; only numbers are counted with
abbrev pub layer_kind : List TableDef → Expr-F (Option Kind) (Option Kind) → Option Kind
layer_kind tables (Literal l) = literal_kind l
layer_kind tables (Column name) = column_kind tables name
layer_kind tables (Negated part) = if is_number part then Some BigInt else None
layer_kind tables (Sum parts) = if list_all is_number parts then Some BigInt else None
layer_kind tables (Product parts) = if list_all is_number parts then Some BigInt else None

abbrev pub addend_kind : Addend-F (Option Kind) (Option Kind) → Option Kind
addend_kind part = part.expr

abbrev pub expr_kind : List TableDef → Expr → Option Kind
expr_kind tables = fold-Expr (Option Kind) (Option Kind) (layer_kind tables) addend_kind

abbrev pub kind_of_addend : List TableDef → Addend → Option Kind
kind_of_addend tables = fold-Addend (Option Kind) (Option Kind) (layer_kind tables) addend_kind

-- what `check_expr` answers
abbrev pub checked_expr : Expr → TableDef → Result Kind CheckFault
checked_expr expr table = after_columns (column_fault (table ∷ []) (expr_columns expr)) (expr_kind (table ∷ []) expr)

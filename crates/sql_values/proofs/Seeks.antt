-- The first name of a column that passes a test, part by part.
use Rattle.std.proofs.Common.{◌≡◌, Bool, List, [], ◌++◌, refl, find, sym, ap, ◌∙◌, None}
use Rattle.std.specs.Option.{option_or}
use Rattle.std.proofs.lemmas.Grind.{common_steps}
use Rattle.std.proofs.lemmas.List.Folds.{find-append}
use Rattle.sql_values.specs.declared.tree.ColumnName.{ColumnName}
use Rattle.sql_values.specs.declared.literal.Literal.{Literal as SqlLiteral}
use Rattle.sql_values.specs.declared.tree.Expr.{Expr, Expr-F}
use Rattle.sql_values.specs.declared.tree.Expr.TheFolds.{fold-roll-Expr}
use Rattle.sql_values.specs.declared.tree.Expr.TheVariants.{Literal, rolls-Literal}
use Rattle.sql_values.specs.Checks.{first_column, expr_columns, expr_layer_columns, addend_columns}
use Rattle.sql_values.proofs.Lookups.{map_or}

pub first-append : (test : ColumnName → Bool) (xs ys : List ColumnName) → first_column test (xs ++ ys) ≡ option_or (first_column test xs) (first_column test ys)
unfolding first_column
first-append test xs ys = rw find-append (map_or (λ (name : ColumnName). name.column) (find test xs) (find test ys))

pub first-nil : (test : ColumnName → Bool) → first_column test [] ≡ None
unfolding first_column
first-nil test = refl

pub ruleset seeks = (common_steps, first-append, first-nil)

pub expr_columns-Literal : (expr : Expr) (l : SqlLiteral) → expr ≡ Literal l → expr_columns expr ≡ []
expr_columns-Literal expr l e =
    rw e (ap expr_columns (sym (rolls-Literal l)) ∙ fold-roll-Expr (List ColumnName) (List ColumnName) expr_layer_columns addend_columns (Expr-F.Literal l))

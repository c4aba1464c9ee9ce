use Rattle.std.proofs.Common.{sym, ap, ◌∙◌}
use Rattle.sql_values.specs.Checks.{first_column}
use Rattle.sql_values.specs.Seeking.{has_trouble}
use Rattle.sql_values.proofs.Seeks.{first-nil, expr_columns-Literal}
use Rattle.sql_values.proofs.checks.+seeking_in_expr.Goals as goal

pub seek_in_expr-returns-in-Literal : goal.seek_in_expr-returns-in-Literal
seek_in_expr-returns-in-Literal g c =
    sym (first-nil (has_trouble c.args.trouble c.args.tables.now))
    ∙ ap (first_column (has_trouble c.args.trouble c.args.tables.now)) (sym (expr_columns-Literal c.args.expr.now _ c.in-Literal.is))

-- The definitions on examples.
use Rattle.std.proofs.Common.{◌≡◌, ℕ, List, [], ◌∷◌, Some, None, Ok, Err, pos, negsuc, refl, codes, true, false}
use Rattle.sql_text.specs.declared.token.Fixed.TheVariants.{From, Select, VersionComment, Open, Close, Comma, Dot, Star, Plus, Minus, Equal, NotEqual, Less, AtMost}
use Rattle.sql_text.specs.declared.token.Token.TheVariants as tokens
use Rattle.sql_values.specs.declared.literal.Literal.TheVariants as literals
use Rattle.sql_values.specs.declared.tree.ColumnName.{ColumnName}
use Rattle.sql_values.specs.declared.tree.Comparison.TheVariants as comparisons
use Rattle.sql_values.specs.declared.tree.Operand.TheVariants as operands
use Rattle.sql_values.specs.declared.tree.Cond.{Cond}
use Rattle.sql_values.specs.declared.tree.Cond.TheVariants as conds
use Rattle.sql_values.specs.declared.tree.Expr.{Expr}
use Rattle.sql_values.specs.declared.tree.Expr.TheVariants as exprs
use Rattle.sql_values.specs.declared.places.LockMode.TheVariants as locks
use Rattle.sql_text.specs.Grammar.{addend}
use Rattle.sql_text.specs.declared.statement.Statement.TheVariants as statements
use Rattle.sql_text.specs.declared.statement.TableStatement.TheVariants as table_statements
use Rattle.sql_text.specs.declared.statement.Admin.TheVariants as admins
use Rattle.sql_text.specs.declared.statement.SelectItems.TheVariants as items
use Rattle.sql_text.specs.declared.link.AggregateCall.TheVariants as calls
use Rattle.sql_text.specs.Tokens.{placed_tokens, tokens_of}
use Rattle.sql_text.specs.Reading.{statement_at, body_at, insert_at, expect, optional_at, table_at, column_list_at, literal_list_at, open_at, literal_at, name_at, select_at, asked_at, rows_at, of_server_at, comment_limit_at, database_at, show_at, shown_at, select_items_at, item_at, column_at, alias_at, tab_at, where_at, column_items_at, star_at, count_at, aggregate_at, aggregate_item_at, aggregate_items_at, direction_at, sort_at, sort_list_at, sorts_at, order_at, behind_count_at, counts_at, limits_at, limit_at, locked_at, lock_at, for_update_at, cond_at, neg_at, comparison_at, behind_column_at, compared_at, operand_at, behind_not_at, ranged_at, plain_at, factor_at, expr_at, assignment_at, update_at, delete_at}

words : placed_tokens (codes "Select a_1, `b`.c FROM spider.t") ≡
    ((tokens.Fixed Select, 31) ∷ (tokens.Bare (codes "a_1"), 24) ∷ (tokens.Fixed Comma, 21) ∷ (tokens.Quoted (codes "b"), 19) ∷ (tokens.Fixed Dot, 16) ∷ (tokens.Bare (codes "c"), 15)
    ∷ (tokens.Fixed From, 13) ∷ (tokens.Bare (codes "spider"), 8) ∷ (tokens.Fixed Dot, 2) ∷ (tokens.Bare (codes "t"), 1) ∷ [])
unfolding placed_tokens
words = refl

numbers : tokens_of (codes "-1,+2 3 <>!=<=<") ≡
    (tokens.Signed (negsuc 0) ∷ tokens.Fixed Comma ∷ tokens.Signed (pos 2) ∷ tokens.Digits (pos 3) ∷ tokens.Fixed NotEqual ∷ tokens.Fixed NotEqual ∷ tokens.Fixed AtMost ∷ tokens.Fixed Less ∷ [])
unfolding tokens_of placed_tokens
numbers = refl

-- a sign before digits is an operator behind what ends an operand, also with blanks between, and belongs to the digits elsewhere
operators : tokens_of (codes "v-1 v /* c */ -1 v - 1") ≡
    (tokens.Bare (codes "v") ∷ tokens.Fixed Minus ∷ tokens.Digits (pos 1) ∷ tokens.Bare (codes "v") ∷ tokens.Fixed Minus ∷ tokens.Digits (pos 1) ∷ tokens.Bare (codes "v") ∷ tokens.Fixed Minus ∷ tokens.Digits (pos 1) ∷ [])
unfolding tokens_of placed_tokens
operators = refl

signs : tokens_of (codes "v=-1 - -1)+1(*-1") ≡
    (tokens.Bare (codes "v") ∷ tokens.Fixed Equal ∷ tokens.Signed (negsuc 0) ∷ tokens.Fixed Minus ∷ tokens.Signed (negsuc 0) ∷ tokens.Fixed Close ∷ tokens.Fixed Plus ∷ tokens.Digits (pos 1) ∷ tokens.Fixed Open ∷ tokens.Fixed Star
    ∷ tokens.Signed (negsuc 0) ∷ [])
unfolding tokens_of placed_tokens
signs = refl

touching : placed_tokens (codes "1/* c */a 1a") ≡ ((tokens.Digits (pos 1), 12) ∷ (tokens.Bare (codes "a"), 4) ∷ (tokens.Digits (pos 1), 2) ∷ (tokens.Bad, 1) ∷ [])
unfolding placed_tokens
touching = refl

optional_comment : placed_tokens (codes "a /*!b*/") ≡ ((tokens.Bare (codes "a"), 8) ∷ (tokens.Bad, 6) ∷ [])
unfolding placed_tokens
optional_comment = refl

bare : List ℕ → ColumnName
bare n = record { table = None; column = n }

equal_one : List ℕ → Cond
equal_one n = conds.Compare (operands.Column (bare n)) comparisons.Equal (operands.Literal (literals.Number (pos 1)))

-- NOT binds tighter than AND, and that tighter than OR
precedence : cond_at 2 (tokens_of (codes "a = 1 OR NOT b = 1 AND (c = 1 OR a = 1)")) ≡
    Ok (conds.Any (equal_one (codes "a") ∷ conds.All (conds.Not (equal_one (codes "b")) ∷ conds.Any (equal_one (codes "c") ∷ equal_one (codes "a") ∷ []) ∷ []) ∷ []), [])
unfolding bare equal_one tokens_of placed_tokens cond_at neg_at comparison_at behind_column_at compared_at operand_at expect column_at name_at literal_at
precedence = refl

-- two openings inside one another are one too many
too_deep_at : cond_at 1 (tokens_of (codes "(a = 1 OR NOT b = 1)")) ≡ Err (record { deep = true; left = 5 })
unfolding bare equal_one tokens_of placed_tokens cond_at neg_at comparison_at behind_column_at compared_at operand_at expect column_at name_at literal_at
too_deep_at = refl

inserted : statement_at 1 (tokens_of (codes "insert t (k, v) values (1, +3), (2, NULL);")) ≡
    Ok (statements.Table (table_statements.Insert (record {
      table = codes "t";
      columns = Some (codes "k" ∷ codes "v" ∷ []);
      rows = (literals.Number (pos 1) ∷ literals.Number (pos 3) ∷ []) ∷ (literals.Number (pos 2) ∷ literals.Null ∷ []) ∷ [];
    })))
unfolding tokens_of placed_tokens statement_at body_at insert_at expect optional_at table_at column_list_at literal_list_at open_at literal_at name_at
inserted = refl

selected : statement_at 0 (tokens_of (codes "SELECT a AS x, t.b FROM spider.t u WHERE a NOT BETWEEN -1 AND 2")) ≡
    Ok (statements.Table (table_statements.Select (record {
      items = items.Columns (record { column = bare (codes "a"); alias = Some (codes "x") } ∷ record { column = record { table = Some (codes "t"); column = codes "b" }; alias = None } ∷ []);
      tab = record { table = codes "t"; alias = Some (codes "u") };
      cond = Some (conds.Between (bare (codes "a")) true (literals.Number (negsuc 0)) (literals.Number (pos 2)));
      order = [];
      limit = None;
      lock = None;
    })))
unfolding bare tokens_of placed_tokens statement_at body_at select_at asked_at rows_at select_items_at column_items_at item_at column_at alias_at tab_at where_at order_at sorts_at limit_at limits_at locked_at cond_at neg_at comparison_at behind_column_at behind_not_at ranged_at expect optional_at table_at literal_at name_at
selected = refl

number : ℕ → Expr
number n = exprs.Literal (literals.Number (pos n))

-- minus of a factor binds tighter than `*`, and that tighter than `+` and `-`, which go from the left; parentheses leave nothing else behind
sums : expr_at 1 (tokens_of (codes "a -1*- 2 + (3 - 4)")) ≡
    Ok (exprs.Sum (addend false (exprs.Column (bare (codes "a"))) ∷ addend true (exprs.Product (number 1 ∷ exprs.Negated (number 2) ∷ [])) ∷ addend false (exprs.Sum (addend false (number 3) ∷ addend true (number 4) ∷ [])) ∷ []), [])
unfolding bare number tokens_of placed_tokens expr_at factor_at plain_at column_at name_at literal_at expect
sums = refl

-- the second of two openings inside one another is one too many
too_deep_expr : expr_at 1 (tokens_of (codes "- 1 + -(2)")) ≡ Err (record { deep = true; left = 3 })
unfolding tokens_of placed_tokens expr_at factor_at plain_at literal_at
too_deep_expr = refl

updated : statement_at 0 (tokens_of (codes "update t set v = v+1, w = -2")) ≡
    Ok (statements.Table (table_statements.Update (record {
      table = codes "t";
      sets = record { column = codes "v"; value = exprs.Sum (addend false (exprs.Column (bare (codes "v"))) ∷ addend false (number 1) ∷ []) } ∷ record { column = codes "w"; value = exprs.Literal (literals.Number (negsuc 1)) } ∷ [];
      cond = None;
    })))
unfolding bare number tokens_of placed_tokens statement_at body_at update_at assignment_at expr_at factor_at plain_at column_at where_at expect optional_at table_at literal_at name_at
updated = refl

deleted : statement_at 0 (tokens_of (codes "DELETE FROM spider.t;")) ≡ Ok (statements.Table (table_statements.Delete (record { table = codes "t"; cond = None })))
unfolding tokens_of placed_tokens statement_at body_at delete_at where_at expect optional_at table_at name_at
deleted = refl

locked_for_update : statement_at 0 (tokens_of (codes "select * from t for update")) ≡
    Ok (statements.Table (table_statements.Select (record { items = items.All; tab = record { table = codes "t"; alias = None }; cond = None; order = []; limit = None; lock = Some locks.Exclusive })))
unfolding tokens_of placed_tokens statement_at body_at select_at asked_at rows_at select_items_at alias_at tab_at where_at order_at sorts_at limit_at limits_at locked_at lock_at for_update_at expect optional_at table_at name_at
locked_for_update = refl

-- rows are sorted rising where nothing else stands there; of two counts with a comma the first is the offset
ordered : statement_at 0 (tokens_of (codes "select * from t order by t.v desc, k asc, w limit 5, 2")) ≡
    Ok (statements.Table (table_statements.Select (record {
      items = items.All;
      tab = record { table = codes "t"; alias = None };
      cond = None;
      order = record { column = record { table = Some (codes "t"); column = codes "v" }; rising = false } ∷ record { column = bare (codes "k"); rising = true } ∷ record { column = bare (codes "w"); rising = true } ∷ [];
      limit = Some (record { count = 2; offset = 5 });
      lock = None;
    })))
unfolding bare tokens_of placed_tokens statement_at body_at select_at asked_at rows_at select_items_at column_at alias_at tab_at where_at order_at sorts_at sort_list_at sort_at direction_at limit_at limits_at counts_at behind_count_at locked_at expect optional_at table_at name_at
ordered = refl

counted : statement_at 1 (tokens_of (codes "SELECT count(*) n, Max(t.v) FROM t")) ≡
    Ok (statements.Table (table_statements.Select (record {
      items = items.Aggregates (record { call = calls.Count; alias = Some (codes "n") } ∷ record { call = calls.Max (record { table = Some (codes "t"); column = codes "v" }); alias = None } ∷ []);
      tab = record { table = codes "t"; alias = None };
      cond = None;
      order = [];
      limit = None;
      lock = None;
    })))
unfolding tokens_of placed_tokens statement_at body_at select_at asked_at rows_at select_items_at aggregate_items_at aggregate_item_at aggregate_at count_at star_at open_at column_at alias_at tab_at where_at order_at limit_at locked_at expect optional_at table_at name_at
counted = refl

-- aggregates are neither sorted nor limited
sorted_aggregates : statement_at 1 (tokens_of (codes "SELECT COUNT(*) FROM t ORDER BY v")) ≡ Err (record { deep = false; left = 3 })
unfolding tokens_of placed_tokens statement_at body_at select_at asked_at rows_at select_items_at aggregate_items_at aggregate_item_at aggregate_at count_at star_at open_at alias_at tab_at where_at order_at limit_at locked_at expect optional_at table_at name_at
sorted_aggregates = refl

-- a variable is a word, which touches no other
variables : placed_tokens (codes "Select @@Version_Comment a@@version_comment") ≡
    ((tokens.Fixed Select, 43) ∷ (tokens.Fixed VersionComment, 36) ∷ (tokens.Bare (codes "a"), 18) ∷ (tokens.Bad, 17) ∷ [])
unfolding placed_tokens
variables = refl

-- LIMIT 1 leaves no trace
asked_of_the_server : statement_at 0 (tokens_of (codes "SELECT @@version_comment LIMIT 1")) ≡ Ok (statements.Admin admins.VersionComment)
unfolding tokens_of placed_tokens statement_at body_at select_at asked_at of_server_at comment_limit_at expect optional_at
asked_of_the_server = refl

limited_otherwise : statement_at 0 (tokens_of (codes "SELECT @@version_comment LIMIT 2")) ≡ Err (record { deep = false; left = 1 })
unfolding tokens_of placed_tokens statement_at body_at select_at asked_at of_server_at comment_limit_at expect optional_at
limited_otherwise = refl

-- the parentheses of DATABASE are an opening
of_the_database : statement_at 1 (tokens_of (codes "select database ( )")) ≡ Ok (statements.Admin admins.Database)
unfolding tokens_of placed_tokens statement_at body_at select_at asked_at of_server_at database_at open_at expect optional_at
of_the_database = refl

shown_to_all : statement_at 0 (tokens_of (codes "SHOW TABLES;")) ≡ Ok (statements.Admin admins.ShowTables)
unfolding tokens_of placed_tokens statement_at body_at show_at shown_at expect optional_at
shown_to_all = refl

-- Each reading function of SELECT and SHOW reads its rule.
use Rattle.std.proofs.Common.{◌≡◌, ℕ, pos, true, false, List, [], ◌∷◌, Some, Ok, refl}
use Rattle.std.specs.Prelude.{◌||◌}
use Rattle.sql_text.specs.declared.statement.Statement.TheVariants as statements
use Rattle.sql_text.specs.declared.statement.TableStatement.TheVariants as table_statements
use Rattle.sql_text.specs.declared.statement.Admin.TheVariants as admins
use Rattle.sql_text.specs.declared.token.Fixed.TheVariants.{Database, Databases, From, Limit, Select, Show, Tables, VersionComment}
use Rattle.sql_text.specs.declared.token.Token.{Token}
use Rattle.sql_text.specs.declared.token.Token.TheVariants as tokens
use Rattle.sql_text.specs.Rules.{is, one, ◌⊳◌, ◌▷◌, ◌∣◌, parenthesized}
use Rattle.sql_text.specs.Grammar.{one_row_of, rows, comment_limit, of_server, select, shown, show}
use Rattle.sql_text.specs.Reading.{◌>>=◌, begins, behind, expect, one_at, rows_at, comment_limit_at, database_at, of_server_at, asked_at, select_at, shown_at, show_at}
use Rattle.sql_text.proofs.Fields.{kind_of, member, IsField, is_field, one_field}
use Rattle.sql_text.proofs.Choices.{begins_tells, either_tells, either_field, fixed_or}
use Rattle.sql_text.proofs.Nested.{parenthesized_field}
use Rattle.sql_text.proofs.ReadRules.{both, behind_fixed, known_as, aggregate_kinds, select_items_field, tab_field, where_field, order_field, limit_field, locked_field}

abbrev items_kinds : List ℕ
items_kinds = 17 ∷ 100 ∷ aggregate_kinds

-- the kinds with which a SELECT goes on
abbrev pub select_kinds : List ℕ
select_kinds = 32 ∷ 30 ∷ 31 ∷ 51 ∷ 36 ∷ 15 ∷ 49 ∷ 50 ∷ 12 ∷ 9 ∷ 0 ∷ 1 ∷ 100 ∷ 16 ∷ []

rows_field : (depth : ℕ) → IsField rows depth (rows_at depth) false items_kinds select_kinds
unfolding rows_at
rows_field depth = known_as items_kinds select_kinds refl refl
    (both (select_items_field depth) (λ i. behind_fixed From
    (both (tab_field depth) (λ t. both (where_field depth) (λ c. both (order_field i depth) (λ o. both (limit_field i depth) (λ l. both (locked_field depth) (λ m.
    is_field (statements.Table (table_statements.Select (record { items = i; tab = t; cond = c; order = o; limit = l; lock = m }))) depth) refl) refl) refl) refl) refl)) refl)

one_row_covers : (t : Token) (x : ℕ) → one_row_of t ≡ Some x → member (kind_of t) (101 ∷ []) ≡ true
one_row_covers (tokens.Digits n) x h = refl
one_row_covers (tokens.Signed n) x h = absurd cc
one_row_covers (tokens.Text t) x h = absurd cc
one_row_covers (tokens.Bare n) x h = absurd cc
one_row_covers (tokens.Quoted n) x h = absurd cc
one_row_covers (tokens.Fixed f) x h = absurd cc
one_row_covers tokens.Bad x h = absurd cc

one_row_field : (depth : ℕ) → IsField (λ _. one one_row_of) depth (one_at one_row_of) false (101 ∷ []) []
one_row_field depth = one_field one_row_of (101 ∷ []) depth (record { cover = one_row_covers; token = tokens.Digits (pos 1); example = 1; known = refl })

comment_limit_field : (depth : ℕ) → IsField (λ _. comment_limit) depth comment_limit_at true (31 ∷ []) (31 ∷ [])
unfolding comment_limit_at
comment_limit_field depth = known_as (31 ∷ []) (31 ∷ []) refl refl
    (fixed_or Limit (λ _. one one_row_of ▷ λ _. is admins.VersionComment) (λ ts. one_at one_row_of ts >>= λ n. Ok (admins.VersionComment, n.1)) (λ _. is admins.VersionComment) (λ ts. Ok (admins.VersionComment, ts))
    depth false true (101 ∷ []) [] [] []
    (known_as (101 ∷ []) [] refl refl (both (one_row_field depth) (λ _. is_field admins.VersionComment depth) refl)) (is_field admins.VersionComment depth) refl)

database_field : (depth : ℕ) → IsField (parenthesized (is admins.Database)) depth (database_at depth) false (13 ∷ []) []
unfolding database_at
database_field depth = parenthesized_field (is admins.Database) depth (λ inside. Ok (admins.Database, inside)) true [] [] (λ n. is_field admins.Database n) refl

of_server_field : (depth : ℕ) → IsField of_server depth (of_server_at depth) false (59 ∷ 52 ∷ []) (31 ∷ [])
unfolding of_server_at
of_server_field depth = known_as (59 ∷ 52 ∷ []) (31 ∷ []) refl refl
    (fixed_or VersionComment (λ _. comment_limit) comment_limit_at (λ n. Database ⊳ parenthesized (is admins.Database) n) (λ ts. expect Database ts >>= database_at depth) depth true false (31 ∷ []) (31 ∷ []) (52 ∷ []) []
    (comment_limit_field depth) (behind_fixed Database (database_field depth)) refl)

pub select_field : (depth : ℕ) → IsField select depth (select_at depth) false (10 ∷ []) select_kinds
unfolding select_at asked_at
select_field depth = behind_fixed Select
    (known_as (59 ∷ 52 ∷ items_kinds) select_kinds refl refl
    (either_field (λ n. of_server n ▷ λ a. is (statements.Admin a)) (λ ts. of_server_at depth ts >>= λ a. Ok (statements.Admin a.0, a.1)) rows (rows_at depth) (λ ts. begins VersionComment ts || begins Database ts) depth false
    (59 ∷ 52 ∷ []) (31 ∷ []) items_kinds select_kinds
    (known_as (59 ∷ 52 ∷ []) (31 ∷ []) refl refl (both (of_server_field depth) (λ a. is_field (statements.Admin a) depth) refl))
    (rows_field depth) (either_tells VersionComment Database) refl))

-- ---- SHOW

shown_field : (depth : ℕ) → IsField (λ _. shown) depth shown_at false (58 ∷ 53 ∷ []) []
unfolding shown_at
shown_field depth = known_as (58 ∷ 53 ∷ []) [] refl refl
    (fixed_or Tables (λ _. is admins.ShowTables) (λ ts. Ok (admins.ShowTables, ts)) (λ _. Databases ⊳ is admins.ShowDatabases) (λ ts. expect Databases ts >>= λ rest. Ok (admins.ShowDatabases, rest)) depth true false [] [] (53 ∷ []) []
    (is_field admins.ShowTables depth) (behind_fixed Databases (is_field admins.ShowDatabases depth)) refl)

pub show_field : (depth : ℕ) → IsField (λ _. show) depth show_at false (57 ∷ []) []
unfolding show_at
show_field depth = behind_fixed Show (known_as (58 ∷ 53 ∷ []) [] refl refl (both (shown_field depth) (λ a. is_field (statements.Admin a) depth) refl))

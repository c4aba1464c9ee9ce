-- Each reading function of statements reads its rule.
use Rattle.std.proofs.Common.{ℕ, false, cond, List, [], ◌∷◌, Ok, refl}
use Rattle.sql_text.specs.declared.statement.Statement.TheVariants as statements
use Rattle.sql_text.specs.declared.statement.TableStatement.TheVariants as table_statements
use Rattle.sql_text.specs.declared.token.Fixed.TheVariants.{Insert, Select, Set, Show, Update, Comma, Semicolon, Equal}
use Rattle.sql_text.specs.Rules.{◌∣◌, series}
use Rattle.sql_text.specs.Grammar.{insert, select, show, assignment, update, delete, body, statement}
use Rattle.sql_text.specs.Reading.{◌>>=◌, begins, optional_at, series_at, insert_at, select_at, show_at, assignment_at, update_at, delete_at, body_at}
use Rattle.sql_text.proofs.Fields.{IsField, is_field}
use Rattle.sql_text.proofs.Choices.{begins_tells, either_field, optional_field}
use Rattle.sql_text.proofs.Nested.{series_field}
use Rattle.sql_text.proofs.ReadRules.{both, behind_fixed, known_as, name_field, table_field, where_field, insert_field, delete_field}
use Rattle.sql_text.proofs.SelectRules.{select_kinds, select_field, show_field}
use Rattle.sql_text.proofs.ExprRules.{expr_field}

assignment_field : (depth : ℕ) → IsField assignment depth (assignment_at depth) false (100 ∷ []) (47 ∷ 48 ∷ 17 ∷ 16 ∷ [])
unfolding assignment_at
assignment_field depth = known_as (100 ∷ []) (47 ∷ 48 ∷ 17 ∷ 16 ∷ []) refl refl
    (both (name_field depth) (λ n. behind_fixed Equal (both (expr_field depth) (λ e. is_field (record { column = n; value = e }) depth) refl)) refl)

assignments_field : (depth : ℕ) → IsField (λ n. series Comma (assignment n)) depth (series_at Comma (assignment_at depth)) false (100 ∷ []) (15 ∷ 47 ∷ 48 ∷ 17 ∷ 16 ∷ [])
assignments_field depth = known_as (100 ∷ []) (15 ∷ 47 ∷ 48 ∷ 17 ∷ 16 ∷ []) refl refl
    (series_field Comma assignment (assignment_at depth) depth (100 ∷ []) (47 ∷ 48 ∷ 17 ∷ 16 ∷ []) (assignment_field depth) refl)

update_field : (depth : ℕ) → IsField update depth (update_at depth) false (44 ∷ []) (12 ∷ 9 ∷ 0 ∷ 15 ∷ 47 ∷ 48 ∷ 17 ∷ 16 ∷ [])
unfolding update_at
update_field depth = known_as (44 ∷ []) (12 ∷ 9 ∷ 0 ∷ 15 ∷ 47 ∷ 48 ∷ 17 ∷ 16 ∷ []) refl refl
    (behind_fixed Update
    (both (table_field depth) (λ t. behind_fixed Set
    (both (assignments_field depth) (λ l. both (where_field depth) (λ c. is_field (statements.Table (table_statements.Update (record { table = t; sets = l; cond = c }))) depth) refl) refl)) refl))

-- the kinds of tokens with which statements begin, and with which they go on
abbrev pub firsts : List ℕ
firsts = 5 ∷ 10 ∷ 57 ∷ 44 ∷ 28 ∷ []

abbrev pub furthers : List ℕ
furthers = 32 ∷ 30 ∷ 31 ∷ 51 ∷ 36 ∷ 15 ∷ 49 ∷ 50 ∷ 12 ∷ 9 ∷ 0 ∷ 1 ∷ 100 ∷ 47 ∷ 48 ∷ 17 ∷ 16 ∷ []

update_or_delete : (depth : ℕ) → IsField (λ n. update n ∣ delete n) depth (λ ts. cond (begins Update ts) (update_at depth ts) (delete_at depth ts)) false (44 ∷ 28 ∷ []) furthers
update_or_delete depth = known_as (44 ∷ 28 ∷ []) furthers refl refl
    (either_field update (update_at depth) delete (delete_at depth) (begins Update) depth false (44 ∷ []) (12 ∷ 9 ∷ 0 ∷ 15 ∷ 47 ∷ 48 ∷ 17 ∷ 16 ∷ []) (28 ∷ []) (12 ∷ 9 ∷ 0 ∷ 16 ∷ [])
    (update_field depth) (delete_field depth) (begins_tells Update) refl)

-- all but INSERT and SELECT
others_field : (depth : ℕ) → IsField (λ n. show ∣ update n ∣ delete n) depth (λ ts. cond (begins Show ts) (show_at ts) (cond (begins Update ts) (update_at depth ts) (delete_at depth ts))) false (57 ∷ 44 ∷ 28 ∷ []) furthers
others_field depth = known_as (57 ∷ 44 ∷ 28 ∷ []) furthers refl refl
    (either_field (λ _. show) show_at (λ n. update n ∣ delete n) (λ ts. cond (begins Update ts) (update_at depth ts) (delete_at depth ts)) (begins Show) depth false (57 ∷ []) [] (44 ∷ 28 ∷ []) furthers
    (show_field depth) (update_or_delete depth) (begins_tells Show) refl)

pub body_field : (depth : ℕ) → IsField body depth (body_at depth) false firsts furthers
unfolding body_at
body_field depth = known_as firsts furthers refl refl
    (either_field insert (insert_at depth) (λ n. select n ∣ show ∣ update n ∣ delete n)
    (λ ts. cond (begins Select ts) (select_at depth ts) (cond (begins Show ts) (show_at ts) (cond (begins Update ts) (update_at depth ts) (delete_at depth ts)))) (begins Insert) depth false
    (5 ∷ []) (15 ∷ []) (10 ∷ 57 ∷ 44 ∷ 28 ∷ []) furthers
    (insert_field depth)
    (known_as (10 ∷ 57 ∷ 44 ∷ 28 ∷ []) furthers refl refl
    (either_field select (select_at depth) (λ n. show ∣ update n ∣ delete n) (λ ts. cond (begins Show ts) (show_at ts) (cond (begins Update ts) (update_at depth ts) (delete_at depth ts))) (begins Select) depth false
    (10 ∷ []) select_kinds (57 ∷ 44 ∷ 28 ∷ []) furthers
    (select_field depth) (others_field depth) (begins_tells Select) refl))
    (begins_tells Insert) refl)

-- a statement and its end
pub whole_field : (depth : ℕ) → IsField statement depth (λ ts. body_at depth ts >>= λ s. optional_at Semicolon s.1 >>= λ e. Ok (s.0, e.1)) false firsts (18 ∷ furthers)
whole_field depth = known_as firsts (18 ∷ furthers) refl refl
    (both (body_field depth) (λ s. both (optional_field Semicolon depth) (λ _. is_field s depth) refl) refl)

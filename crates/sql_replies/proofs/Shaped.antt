-- Rows of a table are short.
use Rattle.std.proofs.Common.{◌≡◌, ◌&&◌, Bool, true, false, List, [], ◌∷◌, refl}
use Rattle.std.specs.List.{list_all}
use Rattle.std.specs.Cmp.Lexicographic.{pointwise}
use Rattle.sql_values.specs.declared.table.Kind.{Kind}
use Rattle.sql_values.specs.declared.value.Value.{Value}
use Rattle.sql_values.specs.Laws.{is_of}
use Rattle.txn_phases.specs.Phases.{is_short, is_shaped}
use Rattle.sql_replies.specs.Outcomes.{are_short_rows}

pub left : (a b : Bool) → (a && b) ≡ true → a ≡ true
left true b h = refl
left false b h = h

pub right : (a b : Bool) → (a && b) ≡ true → b ≡ true
right true b h = h
right false b h = cc

both : (a b : Bool) → a ≡ true → b ≡ true → (a && b) ≡ true
both a b p q = rw (p, q) refl

-- rows with a value of each of these kinds, as links answer them
pub shaped_rows_are_short : (kinds : List Kind) (rows : List (List Value)) → list_all (is_shaped kinds) rows ≡ true → are_short_rows rows ≡ true
shaped_rows_are_short kinds [] h = refl
shaped_rows_are_short kinds (row ∷ rows) h =
    both (list_all is_short row) (are_short_rows rows) (right (pointwise is_of kinds row) (list_all is_short row) (left (is_shaped kinds row) (list_all (is_shaped kinds) rows) h))
    (shaped_rows_are_short kinds rows (right (is_shaped kinds row) (list_all (is_shaped kinds) rows) h))

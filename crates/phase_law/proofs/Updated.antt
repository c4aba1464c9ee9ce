-- The rows that an UPDATE puts: each has the key of a row that it found, they may be put, and they are rows of the table.
use Rattle.std.proofs.Common.{◌≡◌, Bool, not, false, List, [], ◌∷◌, map, filter, Option, Ok, ap, subst, inl, inr}
use Rattle.std.specs.Prelude.{IsSome}
use Rattle.std.specs.List.{AllByRecursion, Contains, zip}
use Rattle.sql_values.specs.declared.table.TableDef.{TableDef}
use Rattle.sql_values.specs.declared.tree.Cond.{Cond}
use Rattle.part_rules.specs.declared.rule.Rule.{Rule}
use Rattle.part_rules.specs.Placing.{part}
use Rattle.stmt_plan.specs.declared.planned.SetColumn.{SetColumn}
use Rattle.stmt_plan.specs.Settings.{sets_key}
use Rattle.plain_tables.specs.Inserts.{AreRows}
use Rattle.plain_tables.specs.Partitions.{IsTable}
use Rattle.plain_tables.specs.Rows.{Row, key_of, HasKey, holds_on, kept, FitsColumns}
use Rattle.plain_tables.specs.Updates.{changed, is_same_row, set_rows}
use Rattle.plain_tables.proofs.Changed.{changed_have, updates_keep_keys, updates_are_rows}
use Rattle.plain_tables.proofs.Fitting.{updates_fit_columns}
use Rattle.plain_tables.proofs.Members.{at_front, behind, either, nothing, mapped_from, kept_passes}
use Rattle.phase_law.proofs.Dels.{rest_have}
use Rattle.phase_law.proofs.Lists.{into_map}

-- the second part of a pair is of the second list
second_in : {X Y : Type 0} (xs : List X) (ys : List Y) (p : X × Y) → Contains (zip xs ys) p → Contains ys p.1
second_in [] ys p c = nothing p c
second_in (x ∷ xs) [] p c = nothing p c
second_in (x ∷ xs) (y ∷ ys) p c = elim (either (x, y) p (zip xs ys) c) [
  | inl same ↦ subst (Contains (y ∷ ys)) (ap (λ q. q.1) same) (at_front y ys)
  | inr later ↦ behind y p.1 ys (second_in xs ys p later)
]

-- rows that change are among those that were set
changed_among : (olds news : List Row) (row : Row) → Contains (changed olds news) row → Contains news row
changed_among olds news row c =
    let differs : Row × Row → Bool = λ p. not (is_same_row p.0 p.1) in
    let pair = mapped_from (λ (p : Row × Row). p.1) (filter differs (zip olds news)) row c in
    subst (Contains news) pair.2 (second_in olds news pair.0 (kept_passes differs (zip olds news) pair.0 pair.1).0)

-- each has the key of a row that was there
pub changes_have_keys : (def : TableDef) (sets : List SetColumn) (olds news : List Row) → sets_key def sets ≡ false → set_rows def sets 1 olds ≡ Ok news
    → (new : Row) → Contains (changed olds news) new → Contains (map (key_of def) olds) (key_of def new)
changes_have_keys def sets olds news stays set new c =
    subst (λ ks. Contains ks (key_of def new)) (updates_keep_keys def sets 1 olds news stays set) (into_map (key_of def) news new (changed_among olds news new c))

-- those of rows of a table may be put into it
pub changes_may_be : (def : TableDef) (rule : Rule) (cond : Option Cond) (sets : List SetColumn) (rows news : List Row) → IsTable def rule rows → sets_key def sets ≡ false
    → set_rows def sets 1 (kept def cond rows) ≡ Ok news → AreRows def rule (changed (kept def cond rows) news)
changes_may_be def rule cond sets rows news table stays set =
    updates_are_rows def rule sets 1 (kept def cond rows) news stays set
    (record {
      keyed = rest_have (HasKey def) (holds_on def cond) rows table.keyed;
      placed = rest_have (λ row. IsSome (part rule (key_of def row))) (holds_on def cond) rows table.placed;
    })

-- and are rows of it
pub changes_fit : (def : TableDef) (cond : Option Cond) (sets : List SetColumn) (rows news : List Row) → AllByRecursion (FitsColumns def) rows → set_rows def sets 1 (kept def cond rows) ≡ Ok news
    → AllByRecursion (FitsColumns def) (changed (kept def cond rows) news)
changes_fit def cond sets rows news fit set =
    changed_have (FitsColumns def) (kept def cond rows) news (updates_fit_columns def sets 1 (kept def cond rows) news set (rest_have (FitsColumns def) (holds_on def cond) rows fit))

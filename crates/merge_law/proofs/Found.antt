-- What the partitions of a condition have of a table.
use Rattle.std.proofs.Common.{◌≡◌, ℕ, ◌==◌, Bool, true, false, List, [], ◌∷◌, map, Option, Some, None, refl, arith, sym, ap, subst, cond}
use Rattle.std.specs.List.{AllByRecursion, Contains, filter, flat_map}
use Rattle.std.specs.List.Sorted.{IsPermutation, IsStrictlySortedBy}
use Rattle.std.specs.Option.{option_map_or}
use Rattle.std.specs.declared.cmp.Ordering.TheVariants.{Less}
use Rattle.std.specs.Cmp.{int_ranked}
use Rattle.std.proofs.lemmas.List.Folds.{flat_map-map}
use Rattle.std.proofs.lemmas.List.Kept.{IsStrictlySortedBy-filter}
use Rattle.sql_values.specs.declared.table.TableDef.{TableDef}
use Rattle.sql_values.specs.declared.tree.Cond.{Cond}
use Rattle.part_rules.specs.declared.rule.Rule.{Rule}
use Rattle.part_rules.specs.Placing.{part}
use Rattle.front_rows.specs.Laws.{Rises, RisesFrom}
use Rattle.plain_tables.specs.Rows.{Row, by_key, key_of, HasKey, holds_on, kept}
use Rattle.plain_tables.specs.Rows.{Rises as RisesByKey}
use Rattle.sql_values.specs.declared.places.Interval.{Interval}
use Rattle.sql_values.specs.KeySets.{AreKeys}
use Rattle.part_rules.specs.KeyRows.{HasOwnKeyName}
use Rattle.part_rules.specs.Pruned.{IsPruned}
use Rattle.plain_tables.specs.Partitions.{lies_in, may_keep, rows_in, IsMerged, IsTable}
use Rattle.plain_tables.proofs.Members.{all_of, all_by, kept_passes, in_lists}
use Rattle.plain_tables.proofs.Merged.{partitions_are_merged}
use Rattle.merge_law.proofs.Permuted.{parts_permute}

-- by what the tests say of the first element
tested : {X : Type 0} (p q : X → Bool) (x : X) (xs : List X) (b c : Bool) → p x ≡ b → q x ≡ c → filter p (filter q xs) ≡ filter q (filter p xs)
    → filter p (cond (q x) (x ∷ filter q xs) (filter q xs)) ≡ filter q (cond (p x) (x ∷ filter p xs) (filter p xs))
tested p q x xs true true b c rest = rw (b, c) (rw b (ap (λ l. x ∷ l) rest))
tested p q x xs true false b c rest = rw (b, c) rest
tested p q x xs false true b c rest = rw (b, c) (rw b rest)
tested p q x xs false false b c rest = rw (b, c) rest

-- two tests may be made in either order
either_order : {X : Type 0} (p q : X → Bool) (xs : List X) → filter p (filter q xs) ≡ filter q (filter p xs)
either_order p q [] = refl
either_order p q (x ∷ xs) = tested p q x xs (p x) (q x) refl refl (either_order p q xs)

parts_alike : (def : TableDef) (rule : Rule) (c : Option Cond) (rows : List Row) (parts : List ℕ) → flat_map (λ p. kept def c (rows_in def rule p rows)) parts ≡ flat_map (λ p. filter (lies_in def rule p) (kept def c rows)) parts
parts_alike def rule c rows [] = refl
parts_alike def rule c rows (p ∷ ps) = rw (either_order (holds_on def c) (lies_in def rule p) rows, parts_alike def rule c rows ps) refl

-- a row lies in one partition
one_place : (o : Option ℕ) (q r : ℕ) → option_map_or (λ p. p == q) o false ≡ true → option_map_or (λ p. p == r) o false ≡ true → q ≡ r
one_place None q r first second = cc
one_place (Some p) q r first second = grind (arith, first, second)

-- rows that rise by key do so as front_rows says it
rises_from : (def : TableDef) (row : Row) (rows : List Row) → RisesByKey def (row ∷ rows) → AllByRecursion (HasKey def) rows → RisesFrom def.key (key_of def row) rows
unfolding IsStrictlySortedBy
rises_from def row [] rises keyed = tt
rises_from def row (next ∷ rows) rises keyed =
    (key_of def next, keyed.0.stands, int_ranked (key_of def row) (key_of def next) Less (sym rises.0.0), rises_from def next rows rises.1 keyed.1)

pub rises : (def : TableDef) (rows : List Row) → RisesByKey def rows → AllByRecursion (HasKey def) rows → Rises def.key rows
rises def [] up keyed = tt
rises def (row ∷ rows) up keyed = (key_of def row, keyed.0.stands, rises_from def row rows up keyed.1)

-- what the condition keeps in each partition of its keys is what it keeps of the table, in another order
pub found_permuted : (def : TableDef) (rule : Rule) (rows : List Row) (cond : Option Cond) (keys : List Interval) (parts : List ℕ) → HasOwnKeyName def → IsTable def rule rows → AreKeys keys (may_keep def cond) → IsPruned rule keys parts
    → IsPermutation (flat_map (λ p. kept def cond (rows_in def rule p rows)) parts) (kept def cond rows)
found_permuted def rule rows cond keys parts own table are pruned =
    let found : List Row = kept def cond rows in
    let merged : IsMerged def (map (λ p. kept def cond (rows_in def rule p rows)) parts) found = partitions_are_merged def rule rows cond keys parts own table are pruned in
    let permuted : IsPermutation (flat_map (λ p. filter (lies_in def rule p) found) parts) found =
    parts_permute (lies_in def rule) parts found pruned.rising (λ q r row c first second. one_place (part rule (key_of def row)) q r first second)
    (λ row c.
    let flat = subst (λ l. Contains l row) (flat_map-map (λ (l : List Row). l) (λ p. kept def cond (rows_in def rule p rows)) parts) ((merged.rows row).0 c) in
    let at = in_lists (λ p. kept def cond (rows_in def rule p rows)) parts row flat in
    (at.0, at.1, (kept_passes (lies_in def rule at.0) rows row (kept_passes (holds_on def cond) (rows_in def rule at.0 rows) row at.2).0).1)) in
    subst (λ l. IsPermutation l found) (sym (parts_alike def rule cond rows parts)) permuted

-- what holds of each row holds of those that are kept of it
pub all_kept : {X : Type 0} (P : X → Type 0) (test : X → Bool) (xs : List X) → AllByRecursion P xs → AllByRecursion P (filter test xs)
all_kept P test xs each = all_by P (filter test xs) (λ x c. all_of P xs x each (kept_passes test xs x c).0)

-- the rows of a partition are a table's
pub part_rises : (def : TableDef) (rule : Rule) (p : ℕ) (rows : List Row) → RisesByKey def rows → RisesByKey def (rows_in def rule p rows)
part_rises def rule p rows up = IsStrictlySortedBy-filter (by_key def) (lies_in def rule p) rows up

pub kept_rises : (def : TableDef) (cond : Option Cond) (rows : List Row) → RisesByKey def rows → RisesByKey def (kept def cond rows)
kept_rises def cond rows up = IsStrictlySortedBy-filter (by_key def) (holds_on def cond) rows up

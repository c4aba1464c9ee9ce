-- What partitions have, merged, is what the table has.
use Rattle.std.proofs.Common.{◌≡◌, ℕ, ◌==◌, true, false, List, map, Option, Some, None, refl, arith, sym, ◌∙◌, ap, subst}
use Rattle.std.specs.Prelude.{IsSome}
use Rattle.std.specs.List.{Contains, flat_map}
use Rattle.std.specs.Option.{option_map_or}
use Rattle.std.specs.Cmp.{IsTotalOrder}
use Rattle.std.proofs.lemmas.Cmp.{int_cmp_total, on_total}
use Rattle.std.proofs.lemmas.List.Folds.{flat_map-map}
use Rattle.std.proofs.lemmas.List.Kept.{IsStrictlySortedBy-filter}
use Rattle.sql_values.specs.declared.places.Interval.{Interval}
use Rattle.sql_values.specs.declared.table.TableDef.{TableDef}
use Rattle.sql_values.specs.declared.tree.Cond.{Cond}
use Rattle.sql_values.specs.KeySets.{AreKeys, has_key}
use Rattle.part_rules.specs.declared.rule.Rule.{Rule}
use Rattle.part_rules.specs.KeyRows.{HasOwnKeyName}
use Rattle.part_rules.specs.Placing.{part}
use Rattle.part_rules.specs.Pruned.{IsPruned}
use Rattle.part_rules.proofs.KeptKeys.{conditions_keep_keys}
use Rattle.plain_tables.specs.Rows.{Row, key_of, HasKey, by_key, holds_on, kept}
use Rattle.plain_tables.specs.Partitions.{lies_in, rows_in, may_keep, PartitionsAreMerged, RowsMergeInOneWay}
use Rattle.plain_tables.proofs.Members.{all_of, kept_passes, passes_kept, in_lists, from_list, one_list}

pub keys_in_order : (def : TableDef) → IsTotalOrder (by_key def)
keys_in_order def = on_total (key_of def) int_cmp_total

pub rows_merge_in_one_way : RowsMergeInOneWay
rows_merge_in_one_way def parts a b left right =
    one_list (by_key def) (keys_in_order def) a b left.rises right.rises (λ z c. (right.rows z).1 ((left.rows z).0 c)) (λ z c. (left.rows z).1 ((right.rows z).0 c))

-- a row that a condition keeps has one of the condition's keys
pub key_is_kept : (def : TableDef) (cond : Option Cond) (row : Row) → HasOwnKeyName def → HasKey def row → holds_on def cond row ≡ true → may_keep def cond (key_of def row) ≡ true
key_is_kept def None row own keyed holds = refl
key_is_kept def (Some cond) row own keyed holds = conditions_keep_keys def row (key_of def row) cond own keyed.stands holds

-- and lies in a partition of these
placed : (def : TableDef) (rule : Rule) (cond : Option Cond) (keys : List Interval) (parts : List ℕ) (row : Row) (o : Option ℕ) → part rule (key_of def row) ≡ o → IsSome o → HasOwnKeyName def → HasKey def row → holds_on def cond row ≡ true
    → AreKeys keys (may_keep def cond) → IsPruned rule keys parts → (p : ℕ) × Contains parts p × (lies_in def rule p row ≡ true)
placed def rule cond keys parts row None at has own keyed holds are pruned = cc
placed def rule cond keys parts row (Some p) at has own keyed holds are pruned =
    let inside : has_key keys (key_of def row) ≡ true = are (key_of def row) keyed.fits ∙ key_is_kept def cond row own keyed holds in
    let same : (p == p) ≡ true = grind arith in
    (p, pruned.all p (key_of def row, inside, at), ap (λ (q : Option ℕ). option_map_or (λ (r : ℕ). r == p) q false) at ∙ same)

pub partitions_are_merged : PartitionsAreMerged
partitions_are_merged def rule rows cond keys parts own table are pruned =
    let found : ℕ → List Row = λ p. kept def cond (rows_in def rule p rows) in
    let flat : flat_map (λ (l : List Row). l) (map found parts) ≡ flat_map found parts = flat_map-map (λ (l : List Row). l) found parts in
    record {
      rises = IsStrictlySortedBy-filter (by_key def) (holds_on def cond) rows table.rises;
      rows = λ row. (
        (λ c. let all = kept_passes (holds_on def cond) rows row c in
            let at = placed def rule cond keys parts row (part rule (key_of def row)) refl (all_of (λ r. IsSome (part rule (key_of def r))) rows row table.placed all.0) own (all_of (HasKey def) rows row table.keyed all.0) all.1 are pruned in
            subst (λ l. Contains l row) (sym flat) (from_list found parts at.0 row at.1 (passes_kept (holds_on def cond) (rows_in def rule at.0 rows) row (passes_kept (lies_in def rule at.0) rows row all.0 at.2) all.1))),
        (λ c. let at = in_lists found parts row (subst (λ l. Contains l row) flat c) in
            let here = kept_passes (holds_on def cond) (rows_in def rule at.0 rows) row at.2 in
            passes_kept (holds_on def cond) rows row (kept_passes (lies_in def rule at.0) rows row here.0).0 here.1),
      );
    }

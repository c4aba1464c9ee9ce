-- Keys whose rows go: those of each partition, and what they leave there.
use Rattle.std.proofs.Common.{◌≡◌, ℕ, ◌==◌, ℤ, Bool, true, List, [], ◌∷◌, map, filter, refl, sym, ◌∙◌, ap, inl, inr}
use Rattle.std.specs.Prelude.{IsSome}
use Rattle.std.specs.List.{AllByRecursion, Contains}
use Rattle.std.proofs.lemmas.Bool.{cases_Bool, false≢true}
use Rattle.sql_values.specs.declared.table.TableDef.{TableDef}
use Rattle.part_rules.specs.declared.rule.Rule.{Rule}
use Rattle.part_rules.specs.Placing.{part}
use Rattle.plain_tables.specs.Inserts.{keys_in, without}
use Rattle.plain_tables.specs.Partitions.{rows_in}
use Rattle.plain_tables.specs.Rows.{Row, key_of}
use Rattle.plain_tables.specs.Statements.{Dels}
use Rattle.plain_tables.proofs.Deleted.{deletions_are_placed}
use Rattle.plain_tables.proofs.Members.{all_of, all_by, kept_passes}
use Rattle.txn_phases.specs.Deeds.{part_in, placed_key}
use Rattle.txn_phases.specs.Deeds.{keys_in as placed_in}
use Rattle.front_core.specs.Asked.{lies_at}
use Rattle.phase_law.proofs.Lists.{none_kept}
use Rattle.phase_law.proofs.Puts.{same_part}
use Rattle.phase_law.proofs.Writes.{IsWritten}

-- KEYS OF A PARTITION

-- where each key lies in some partition, those whose partition it is are those that lie in it
keys_placed : (rule : Rule) (p : ℕ) (keys : List ℤ) → AllByRecursion (λ k. IsSome (part rule k)) keys → placed_in (map (placed_key rule) keys) p ≡ keys_in rule p keys
keys_placed rule p [] all = refl
keys_placed rule p (k ∷ keys) all =
    let same : (part_in rule k == p) ≡ lies_at rule p k = same_part (part rule k) p all.0 in
    let rest = keys_placed rule p keys all.1 in
    elim (cases_Bool (lies_at rule p k)) [
      | inl inside ↦ rw (same, inside) (ap (λ l. k ∷ l) rest)
      | inr outside ↦ rw (same, outside) rest
    ]

-- as those of a table's rows do
pub keys_have_parts : (def : TableDef) (rule : Rule) (rows : List Row) → AllByRecursion (λ row. IsSome (part rule (key_of def row))) rows → AllByRecursion (λ k. IsSome (part rule k)) (map (key_of def) rows)
keys_have_parts def rule [] all = tt
keys_have_parts def rule (row ∷ rows) all = (all.0, keys_have_parts def rule rows all.1)

-- ROWS THAT GO

-- what all rows have, those that pass a test have
pub rest_have : (P : Row → Type 0) (test : Row → Bool) (rows : List Row) → AllByRecursion P rows → AllByRecursion P (filter test rows)
rest_have P test rows all = all_by P (filter test rows) (λ row c. all_of P rows row all (kept_passes test rows row c).0)

-- the rows of each partition go there, where these are partitions that are asked
pub dels_are_written : (def : TableDef) (rule : Rule) (asked : ℕ → Bool) (rows : List Row) (keys : List ℤ) → AllByRecursion (λ k. IsSome (part rule k)) keys
    → ((key : ℤ) (p : ℕ) → Contains keys key → lies_at rule p key ≡ true → asked p ≡ true) → IsWritten def rule asked rows (λ p. Dels (placed_in (map (placed_key rule) keys) p)) (without def keys rows)
dels_are_written def rule asked rows keys have within = record {
  fit = λ p. tt;
  leaves = λ p. ap (λ ks. without def ks (rows_in def rule p rows)) (keys_placed rule p keys have) ∙ sym (deletions_are_placed def rule rows keys p);
  elsewhere = λ p out. keys_placed rule p keys have ∙ none_kept (lies_at rule p) keys (λ key c lies. false≢true (sym out ∙ within key p c lies));
}

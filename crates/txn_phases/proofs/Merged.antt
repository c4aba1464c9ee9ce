-- What is merged of the parts.
use Rattle.std.proofs.Common.{◌≡◌, ℕ, Bool, true, false, List, Option, Some, None, cond, refl, sym, ◌∙◌, ap}
use Rattle.sql_text.specs.declared.link.LinkAnswer.{LinkAnswer}
use Rattle.front_rows.specs.declared.order.Sort.{Sort}
use Rattle.front_rows.specs.Merging.{IsMerged, IsTooLarge, is_too_large, merged_rows}
use Rattle.front_rows.proofs.Sorted.{merged_rows_are_sorted}
use Rattle.txn_phases.specs.Deeds as deeds
use Rattle.txn_phases.specs.Deeds.{Row}

-- by whether they are too many
within_by : (b : Bool) (rows : List Row) → b ≡ false → Some rows ≡ cond {A = Option (List Row)} b None (Some rows)
within_by true rows small = cc
within_by false rows small = refl

pub merged_within : (parts : List LinkAnswer) (order : List Sort) (skip : ℕ) (most : Option ℕ) (rows : List Row) → IsMerged parts order skip most rows → is_too_large rows ≡ false
    → Some rows ≡ deeds.merged_within order skip most parts
merged_within parts order skip most rows is small =
    within_by (is_too_large rows) rows small ∙ ap (λ l. cond {A = Option (List Row)} (is_too_large l) None (Some l)) (merged_rows_are_sorted parts order skip most rows is)

pub merged_too_large : (parts : List LinkAnswer) (order : List Sort) (skip : ℕ) (most : Option ℕ) → IsTooLarge parts order skip most → None ≡ deeds.merged_within order skip most parts
merged_too_large parts order skip most large =
    let same = merged_rows_are_sorted parts order skip most large.rows large.merged in
    let too_large : is_too_large (merged_rows order skip most parts) ≡ true = sym (ap is_too_large same) ∙ large.large in
    ap (λ (b : Bool). cond {A = Option (List Row)} b None (Some (merged_rows order skip most parts))) (sym too_large)

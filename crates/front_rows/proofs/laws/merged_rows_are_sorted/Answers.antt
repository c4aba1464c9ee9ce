use Rattle.front_rows.proofs.Sorted.{merged_rows_are_sorted}
use Rattle.front_rows.proofs.laws.merged_rows_are_sorted.Goals as goal

pub returns : goal.returns
returns c = merged_rows_are_sorted

use Rattle.front_rows.proofs.FirstRows.{first_rows_merge}
use Rattle.front_rows.proofs.laws.first_rows_merge.Goals as goal

pub returns : goal.returns
returns c = first_rows_merge

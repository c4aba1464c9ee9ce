use Rattle.plain_tables.proofs.Merged.{rows_merge_in_one_way}
use Rattle.plain_tables.proofs.laws.rows_merge_in_one_way.Goals as goal

pub returns : goal.returns
returns c = rows_merge_in_one_way

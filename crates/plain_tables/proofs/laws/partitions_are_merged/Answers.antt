use Rattle.plain_tables.proofs.Merged.{partitions_are_merged}
use Rattle.plain_tables.proofs.laws.partitions_are_merged.Goals as goal

pub returns : goal.returns
returns c = partitions_are_merged

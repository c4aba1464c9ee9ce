use Rattle.my_wire.proofs.Streams.{one_split}
use Rattle.my_wire.proofs.laws.streams_split_in_one_way.Goals as goal

pub returns : goal.returns
returns c = λ first stream ps qs r t a b. one_split first stream ps qs r t a b

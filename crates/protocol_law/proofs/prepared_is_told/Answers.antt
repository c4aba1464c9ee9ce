use Rattle.commit_protocol.specs.Protocol.{run, start}
use Rattle.protocol_law.proofs.Runs.{sound, told, drawn}
use Rattle.protocol_law.proofs.prepared_is_told.Goals as goal

pub returns-clause-drawn : goal.returns-clause-drawn
returns-clause-drawn a f ms x s b h = drawn f (run f ms start) (sound f ms) x s b h

pub returns-clause-told : goal.returns-clause-told
returns-clause-told a f ms x s undecided ready = told f (run f ms start) (sound f ms) x s undecided ready

use Rattle.commit_protocol.specs.Protocol.{run, start}
use Rattle.protocol_law.proofs.Runs.{sound, view_is}
use Rattle.protocol_law.proofs.servers_are_serial.Goals as goal

pub returns-clause-serial : goal.returns-clause-serial
returns-clause-serial a f ms s = (sound f ms).serial.serial s

pub returns-clause-rows : goal.returns-clause-rows
returns-clause-rows a f ms s k = view_is f (run f ms start) (sound f ms).serial s k

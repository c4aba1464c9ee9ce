use Rattle.std.proofs.Common.{◌≡◌, ◌+◌, drop, length, arith}
use Rattle.std.proofs.lemmas.Grind.{common_steps}
use Rattle.my_wire.specs.Packets.{found, Whole}
use Rattle.my_wire.proofs.packet_reader.PacketReader.next_packet.Goals as goal

pub returns-in_err-payload-in-Ok-Some-clause-memory : goal.returns-in_err-payload-in-Ok-Some-clause-memory
returns-in_err-payload-in-Ok-Some-clause-memory c =
    let stands : found c.args.self.now ≡ Whole c.in-Ok-Some.found.now (drop (length c.in-Ok-Some.found.now + 4) c.args.self.now.held) = grind (arith, common_steps) in
    λ no_memory. (c.in-Ok-Some.found.now, drop (length c.in-Ok-Some.found.now + 4) c.args.self.now.held, stands)

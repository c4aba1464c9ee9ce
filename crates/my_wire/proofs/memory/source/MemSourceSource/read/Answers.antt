use Rattle.std.proofs.Common.{rules, drop}
use Rattle.my_wire.proofs.Fronts.{moved}
use Rattle.my_wire.proofs.memory.source.MemSourceSource.read.Goals as goal

pub returns-clause-given : goal.returns-clause-given
returns-clause-given c =
    moved c.args.self.now.at c.in-Some.n c.args.self.now.bytes.items c.deref-2.result.now (drop c.in-Some.n c.args.into.now) c.copy_from_slice.new.self
    (search rules) c.deref-2.ensures.value c.copy_from_slice.ensures.after

use Rattle.std.proofs.Common.{inr, refl, ◌∙◌, ap, arith}
use Rattle.disk_core.specs.DiskModel.{patched}
use Rattle.disk_core.specs.Memory.{state_of}
use Rattle.disk_core.specs.Stays.{torn_patch}
use Rattle.disk_core.proofs.memory.MemDiskDisk.write_at.Goals as goal

pub returns-in-Some-Stop-clause-torn : goal.returns-in-Some-Stop-clause-torn
returns-in-Some-Stop-clause-torn c =
    let before = state_of c.args.self.now in
    let done = ap state_of c.fault-in-Some-Stop.ensures.same ∙ c.write-in-Some-Stop.ensures.state in (
      state_of c.fault-in-Some-Stop.new.self,
      refl,
      inr (
        patched c.args.at c.args.bytes.now before.seen,
        torn_patch c.args.at _ c.args.bytes.now before.seen (omega arith),
        done,
      ),
    )

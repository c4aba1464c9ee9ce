use Rattle.std.proofs.Common.{List, ℕ, ◌∙◌, ap}
use Rattle.disk_core.specs.DiskModel.{start}
use Rattle.disk_core.specs.Memory.{state_of}
use Rattle.disk_core.proofs.Crashes.{stopped_is_crash}
use Rattle.disk_core.proofs.memory.MemDisk.crashed.Goals as goal

pub returns-clause-crash : goal.returns-clause-crash
returns-clause-crash c =
    stopped_is_crash c.args.image (state_of c.args.self.now) (state_of c.in_ok-disk.disk) (c.in_ok-disk.ensures.state ∙ ap (λ (l : List ℕ). start l) c.in_ok-bytes.ensures)

use Rattle.std.proofs.Common.{List, ℕ, ◌∙◌, ap, sym, take}
use Rattle.disk_core.specs.DiskModel.{CutTo}
use Rattle.disk_core.specs.Recents.{moment_of}
use Rattle.disk_core.specs.declared.image.Image.TheVariants.{Keep}
use Rattle.disk_core.proofs.Changes.{image_changed}
use Rattle.disk_core.proofs.memory.MemDisk.shorten.Goals as goal

pub invariant_of-self : goal.invariant_of-self
invariant_of-self c = record {
  same =
      c.truncate.ensures.items
      ∙ ap (λ (bytes : List ℕ). take c.args.len bytes) c.args.self.now.same
      ∙ sym (image_changed Keep (CutTo c.args.len) (moment_of c.args.self.now.recent) _ c.cut.ensures.moment);
}

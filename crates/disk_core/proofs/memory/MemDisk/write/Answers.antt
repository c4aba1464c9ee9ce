use Rattle.std.proofs.Common.{List, ℕ, ◌∙◌, ap, sym}
use Rattle.disk_core.specs.DiskModel.{Wrote, patched}
use Rattle.disk_core.specs.Recents.{moment_of}
use Rattle.disk_core.specs.declared.image.Image.TheVariants.{Keep}
use Rattle.disk_core.proofs.Changes.{image_changed}
use Rattle.disk_core.proofs.memory.MemDisk.write.Goals as goal

pub invariant_of-self : goal.invariant_of-self
invariant_of-self c = record {
  same =
      c.patch.ensures.items
      ∙ ap (λ (bytes : List ℕ). patched c.args.at c.args.piece.now bytes) c.args.self.now.same
      ∙ sym (image_changed Keep (Wrote c.args.at c.args.piece.now) (moment_of c.args.self.now.recent) _ c.write.ensures.moment);
}

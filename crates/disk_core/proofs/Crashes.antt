-- The disk after a stop holds what a crash may leave.
use Rattle.std.proofs.Common.{◌≡◌, ap, subst, sym}
use Rattle.disk_core.specs.DiskModel.{DiskState, start, MayLeave}
use Rattle.disk_core.specs.declared.image.Image.{Image as Choice}
use Rattle.disk_core.specs.Images.{image_of}
use Rattle.disk_core.specs.Stays.{stop_is_crash}

pub stopped_is_crash : (image : Choice) (s t : DiskState) → t ≡ start (image_of image s.now) → MayLeave s.now t.seen
stopped_is_crash image s t is = subst (MayLeave s.now) (sym (ap (λ (x : DiskState). x.seen) is)) (stop_is_crash image s.now)

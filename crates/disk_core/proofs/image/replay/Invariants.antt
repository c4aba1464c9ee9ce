use Rattle.std.proofs.Common.{◌≡◌, ◌≤◌, length, drop}
use Rattle.disk_core.specs.History.{total, changes}
use Rattle.disk_core.specs.Images.{image_steps}
use Rattle.disk_core.proofs.image.replay.Given as goal

abbrev pub invariant-loop-call : goal.invariant-loop-call
invariant-loop-call l = record {
  whole : total (drop l.call-index l.calls) ≤ length l.rest;
  left : image_steps l.image (changes (drop l.call-index l.calls) l.rest) l.bytes.items ≡ image_steps l.image (changes l.calls l.pieces) l.fn.bytes.items;
}

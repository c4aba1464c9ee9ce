use Rattle.std.proofs.Common.{◌≡◌, ◌≤◌, ◌+◌, length, drop, vec_capacity}
use Rattle.disk_core.specs.History.{total, changes}
use Rattle.disk_core.specs.Images.{image_steps}
use Rattle.disk_core.specs.declared.image.Image.TheVariants.{Keep}
use Rattle.disk_core.proofs.recent.make_all.Given as goal

abbrev pub invariant-loop-call : goal.invariant-loop-call
invariant-loop-call l = record {
  whole : total (drop l.call-index l.calls) ≡ length l.rest;
  room : length l.bytes.items + length l.rest ≤ vec_capacity l.bytes;
  capacity : vec_capacity l.fn.bytes ≤ vec_capacity l.bytes;
  longer : length l.bytes.items + length l.rest ≤ length l.fn.bytes.items + length l.pieces;
  left : image_steps Keep (changes (drop l.call-index l.calls) l.rest) l.bytes.items ≡ image_steps Keep (changes l.calls l.pieces) l.fn.bytes.items;
}

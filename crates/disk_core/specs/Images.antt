-- The four images that a stop of a disk in memory may leave.
use Rattle.std.specs.Prelude.{ℕ, ◌-◌, ◌/◌, List, [], ◌∷◌, ◌++◌, length, take, drop, replicate}
use Rattle.disk_core.specs.declared.image.Image.{Image}
use Rattle.disk_core.specs.declared.image.Image.TheVariants.{Keep, Drop, Half, Junk}
use Rattle.disk_core.specs.DiskModel.{Change, Wrote, CutTo, Moment, patched}

-- What an image puts in the place of a piece that was written over these bytes: `half` the first half of it, rounded down, and then what was there, or 00; `junk` FF.
abbrev pub imaged : Image → List ℕ → List ℕ → List ℕ
imaged Keep piece old = piece
imaged Drop piece old = []
imaged Half piece old =
    take (length piece / 2) piece ++ drop (length piece / 2) (take (length piece) old ++ replicate (length piece - length old) 0)
imaged Junk piece old = replicate (length piece) 255

-- What an image makes of one change.
abbrev pub image_step : Image → Change → List ℕ → List ℕ
image_step image (Wrote at piece) bytes = patched at (imaged image piece (drop at bytes)) bytes
image_step Drop (CutTo n) bytes = bytes
image_step image (CutTo n) bytes = take n bytes

-- What an image makes of these changes, the oldest first.
abbrev pub image_steps : Image → List Change → List ℕ → List ℕ
image_steps image [] bytes = bytes
image_steps image (change ∷ changes) bytes = image_steps image changes (image_step image change bytes)

-- The bytes that a stop at this moment leaves, by an image.
abbrev pub image_of : Image → Moment → List ℕ
image_of image m = image_steps image m.since m.sure

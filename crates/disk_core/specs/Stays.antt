-- What a stop with an image leaves is one of the contents that a crash may leave, and so is what a read gives.
use Rattle.std.specs.Prelude.{◌≡◌, ◌≤◌, ℕ, ◌+◌, ◌-◌, ◌/◌, min, List, [], ◌∷◌, ◌++◌, length, take, drop, replicate, refl}
use Rattle.std.proofs.Common.{⊎_elim, sym, ◌∙◌, ap, subst, arith, length-append, length-drop, length-take}
use Rattle.std.proofs.lemmas.Bool.{cases_lt}
use Rattle.std.proofs.lemmas.List.{take_at, drop_at, drop_all, drop-drop, take_all, take_min, length-replicate}
use Rattle.disk_core.specs.DiskModel.{Change, Wrote, CutTo, Moment, patched, Torn, Cut, TearsAll, MayLeave}
use Rattle.disk_core.specs.declared.image.Image.{Image as Choice}
use Rattle.disk_core.specs.declared.image.Image.TheVariants.{Keep, Drop, Half, Junk}
use Rattle.disk_core.specs.Images.{imaged, image_step, image_steps, image_of}
use Rattle.disk_core.specs.Memory.{state_of}
use Rattle.disk_core.specs.Recents.{moment_of}
use Rattle.disk_core.specs.declared.memory.MemDisk.{MemDisk}

drop_past : (xs ys : List ℕ) (m n : ℕ) → m ≡ length xs + n → drop m (xs ++ ys) ≡ drop n ys
drop_past xs ys m n is =
    ap (λ (k : ℕ). drop k (xs ++ ys)) is ∙ sym (drop-drop n (length xs) (xs ++ ys)) ∙ ap (λ (l : List ℕ). drop n l) (drop_at xs ys (length xs) refl)

torn_within : (at n : ℕ) (piece old : List ℕ) → length piece ≤ n → at ≤ length old → drop (at + n) (patched at piece old) ≡ drop (at + n) old
torn_within at n piece old short fits =
    let rest = drop (at + length piece) old in
    let size : length (take at old) ≡ at = omega (arith, length-take at old) in
    drop_past (take at old) (piece ++ rest) (at + n) n (omega arith)
    ∙ drop_past piece rest n (n - length piece) (omega arith)
    ∙ drop-drop (n - length piece) (at + length piece) old
    ∙ (let same : at + length piece + (n - length piece) ≡ at + n = omega arith in ap (λ (k : ℕ). drop k old) same)

torn_past : (at n : ℕ) (piece old : List ℕ) → length piece ≤ n → length old ≤ at → drop (at + n) (patched at piece old) ≡ drop (at + n) old
torn_past at n piece old short past =
    let rest = drop (at + length piece) old in
    drop_all (at + n) (patched at piece old) (omega (arith, length-append (take at old) (piece ++ rest), length-append piece rest, length-take at old, length-drop (at + length piece) old))
    ∙ sym (drop_all (at + n) old (omega arith))

torn_after : (at n : ℕ) (piece old : List ℕ) → length piece ≤ n → drop (at + n) (patched at piece old) ≡ drop (at + n) old
torn_after at n piece old short = ⊎_elim (λ lt. torn_within at n piece old short (omega (arith, lt))) (torn_past at n piece old short) (cases_lt at (length old))

-- a piece no longer than the range is one of its tears
pub torn_patch : (at n : ℕ) (piece old : List ℕ) → length piece ≤ n → Torn at n old (patched at piece old)
torn_patch at n piece old short =
    let front = take at old in
    let size : length front ≡ min at (length old) = length-take at old in
    let rest = drop (at + length piece) old in
    let size_rest : length rest ≡ length old - (at + length piece) = length-drop (at + length piece) old in
    let size_tail : length (piece ++ rest) ≡ length piece + length rest = length-append piece rest in
    let size_all : length (patched at piece old) ≡ length front + length (piece ++ rest) = length-append front (piece ++ rest) in
    record {
      before = take_at front (piece ++ rest) (min at (length old)) size;
      after = torn_after at n piece old short;
      no_shorter = omega arith;
      no_longer = omega arith;
    }

pub cut_front : (n : ℕ) (bytes : List ℕ) → Cut n bytes (take n bytes)
cut_front n bytes = record { front = ap (λ (k : ℕ). take k bytes) (length-take n bytes) ∙ take_min n bytes; no_shorter = omega (arith, length-take n bytes) }

length_imaged : (image : Choice) (piece old : List ℕ) → length (imaged image piece old) ≤ length piece
length_imaged Keep piece old = omega arith
length_imaged Drop piece old = omega arith
length_imaged Half piece old =
    let h = length piece / 2 in
    let zeros : List ℕ = replicate (length piece - length old) 0 in
    let size_zeros : length zeros ≡ length piece - length old = length-replicate (length piece - length old) (let z : ℕ = 0 in z) in
    let under : List ℕ = take (length piece) old ++ zeros in
    omega (arith, length-append (take h piece) (drop h under), length-take h piece, length-drop h under, length-append (take (length piece) old) zeros, length-take (length piece) old, size_zeros)
length_imaged Junk piece old = let full : List ℕ = replicate (length piece) 255 in let size : length full ≡ length piece = length-replicate (length piece) (let z : ℕ = 255 in z) in omega (arith, size)

is_image : (image : Choice) (changes : List Change) (bytes : List ℕ) → TearsAll changes bytes (image_steps image changes bytes)
is_image image [] bytes = refl
is_image image (Wrote at piece ∷ changes) bytes =
    (image_step image (Wrote at piece) bytes, torn_patch at (length piece) (imaged image piece (drop at bytes)) bytes (length_imaged image piece (drop at bytes)), is_image image changes (image_step image (Wrote at piece) bytes))
is_image Keep (CutTo n ∷ changes) bytes = (take n bytes, cut_front n bytes, is_image Keep changes (take n bytes))
is_image Drop (CutTo n ∷ changes) bytes = (bytes, record { front = take_all (length bytes) bytes (omega arith); no_shorter = omega arith }, is_image Drop changes bytes)
is_image Half (CutTo n ∷ changes) bytes = (take n bytes, cut_front n bytes, is_image Half changes (take n bytes))
is_image Junk (CutTo n ∷ changes) bytes = (take n bytes, cut_front n bytes, is_image Junk changes (take n bytes))

-- a stop's image is one of those that a crash may leave
pub stop_is_crash : (image : Choice) (m : Moment) → MayLeave m (image_of image m)
stop_is_crash image m = is_image image m.since m.sure

-- what is read of a disk in memory is the image that keeps all
pub memory_stays : (d : MemDisk) → MayLeave (state_of d).now (state_of d).seen
memory_stays d = subst (MayLeave (state_of d).now) (sym d.same) (stop_is_crash Keep (moment_of d.recent))

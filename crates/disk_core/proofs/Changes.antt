-- One change more.
use Rattle.std.proofs.Common.{◌≡◌, ℕ, ◌+◌, ◌≤◌, List, [], ◌∷◌, ◌++◌, length, take, drop, refl, ◌∙◌, ap, arith, length-append, length-drop}
use Rattle.std.proofs.lemmas.List.{take-append-le, drop-append-le, take_all}
use Rattle.disk_core.specs.DiskModel.{Change, Moment, Wrote, CutTo, changed_by}
use Rattle.disk_core.specs.declared.image.Image.{Image as Choice}
use Rattle.disk_core.specs.Images.{image_of, image_step, image_steps}
use Rattle.disk_core.specs.declared.recent.Call.{Call}
use Rattle.disk_core.specs.declared.recent.Call.TheVariants.{Write, Cut}
use Rattle.disk_core.specs.History.{changes, total}

pub changes_write : (calls : List Call) (pieces piece : List ℕ) (at : ℕ) → total calls ≡ length pieces
    → changes (calls ++ Write at (length piece) ∷ []) (pieces ++ piece) ≡ changes calls pieces ++ Wrote at piece ∷ []
changes_write [] [] piece at whole = ap (λ (p : List ℕ). Wrote at p ∷ []) (take_all (length piece) piece (omega arith))
changes_write [] (x ∷ pieces) piece at whole = absurd (omega arith)
changes_write (Write to len ∷ calls) pieces piece at whole =
    let fits : len ≤ length pieces = omega arith in
    let rest : total calls ≡ length (drop len pieces) = omega (arith, length-drop len pieces) in
    (λ i. Wrote to (take-append-le len pieces piece fits i) ∷ changes (calls ++ Write at (length piece) ∷ []) (drop-append-le len pieces piece fits i))
    ∙ ap (λ (cs : List Change). Wrote to (take len pieces) ∷ cs) (changes_write calls (drop len pieces) piece at rest)
changes_write (Cut len ∷ calls) pieces piece at whole = ap (λ (cs : List Change). CutTo len ∷ cs) (changes_write calls pieces piece at whole)

pub changes_cut : (calls : List Call) (pieces : List ℕ) (len : ℕ) → changes (calls ++ Cut len ∷ []) pieces ≡ changes calls pieces ++ CutTo len ∷ []
changes_cut [] pieces len = refl
changes_cut (Write to n ∷ calls) pieces len = ap (λ (cs : List Change). Wrote to (take n pieces) ∷ cs) (changes_cut calls (drop n pieces) len)
changes_cut (Cut n ∷ calls) pieces len = ap (λ (cs : List Change). CutTo n ∷ cs) (changes_cut calls pieces len)

pub total_write : (calls : List Call) (at len : ℕ) → total (calls ++ Write at len ∷ []) ≡ total calls + len
total_write [] at len = omega arith
total_write (Write to n ∷ calls) at len = omega (arith, total_write calls at len)
total_write (Cut n ∷ calls) at len = total_write calls at len

pub total_cut : (calls : List Call) (len : ℕ) → total (calls ++ Cut len ∷ []) ≡ total calls
total_cut [] len = refl
total_cut (Write to n ∷ calls) len = ap (λ (m : ℕ). n + m) (total_cut calls len)
total_cut (Cut n ∷ calls) len = total_cut calls len

-- an image of one change more
pub image_more : (image : Choice) (changes : List Change) (change : Change) (bytes : List ℕ) → image_steps image (changes ++ change ∷ []) bytes ≡ image_step image change (image_steps image changes bytes)
image_more image [] change bytes = refl
image_more image (first ∷ changes) change bytes = image_more image changes change (image_step image first bytes)

-- The same, as the code comes to it.
pub changes_written : (calls more : List Call) (pieces longer piece : List ℕ) (at : ℕ) → more ≡ calls ++ Write at (length piece) ∷ [] → longer ≡ pieces ++ piece
    → total calls ≡ length pieces → changes more longer ≡ changes calls pieces ++ Wrote at piece ∷ []
changes_written calls more pieces longer piece at same_calls same_pieces whole = (λ i. changes (same_calls i) (same_pieces i)) ∙ changes_write calls pieces piece at whole

pub total_written : (calls more : List Call) (pieces longer piece : List ℕ) (at : ℕ) → more ≡ calls ++ Write at (length piece) ∷ [] → longer ≡ pieces ++ piece
    → total calls ≡ length pieces → total more ≡ length longer
total_written calls more pieces longer piece at same_calls same_pieces whole =
    omega (arith, ap total same_calls, ap length same_pieces, total_write calls at (length piece), length-append pieces piece)

pub image_changed : (image : Choice) (change : Change) (m n : Moment) → n ≡ changed_by change m → image_of image n ≡ image_step image change (image_of image m)
image_changed image change m n is = ap (λ (x : Moment). image_of image x) is ∙ image_more image m.since change m.sure

-- Reading values one after the other, as a loop does.
use Rattle.std.proofs.Common.{◌≡◌, ℕ, suc, ◌-◌, ◌+◌, ◌≤◌, ◌<◌, List, [], ◌∷◌, ◌++◌, Option, Result, Ok, Err, refl, sym, ap, ◌∙◌, append_assoc, arith}
use Rattle.std.proofs.lemmas.List.{append-nil}
use Rattle.my_wire.specs.Grammar.{◌>>=◌}
use Rattle.my_messages.specs.Reading.{Fails, cell_at, cells_at, end_at}
use Rattle.my_messages.specs.declared.fault.ReadFault.{ReadFault}
use Rattle.my_messages.specs.declared.fault.ReadFault.TheVariants as faults

-- what was read before, and what is still read
abbrev pub after_cells : List (Option (List ℕ)) → Result (List (Option (List ℕ))) ℕ → Result (List (Option (List ℕ))) ℕ
after_cells front read = read >>= λ cells. Ok (front ++ cells)

regroup : (front : List (Option (List ℕ))) (c : Option (List ℕ)) (read : Result (List (Option (List ℕ))) ℕ) → after_cells front (read >>= λ cells. Ok (c ∷ cells)) ≡ after_cells (front ++ c ∷ []) read
regroup front c (Ok cells) = ap (λ (l : List (Option (List ℕ))). Ok l) (sym (append_assoc front (c ∷ []) cells))
regroup front c (Err left) = refl

pub goes_on : (front : List (Option (List ℕ))) (width i : ℕ) (bytes after : List ℕ) (c : Option (List ℕ)) (total : Result (List (Option (List ℕ))) ℕ) → i < width → cell_at bytes ≡ Ok (c, after)
    → after_cells front (cells_at (width - i) bytes) ≡ total → after_cells (front ++ c ∷ []) (cells_at (width - (i + 1)) after) ≡ total
unfolding cells_at
goes_on front width i bytes after c total lt h so_far =
    let k : width - i ≡ suc (width - (i + 1)) = omega arith in
    let one : after_cells front (cells_at (width - i) bytes) ≡ after_cells (front ++ c ∷ []) (cells_at (width - (i + 1)) after) = rw (k, h) (regroup front c (cells_at (width - (i + 1)) after)) in
    sym one ∙ so_far

pub stops : (e : ReadFault) (front : List (Option (List ℕ))) (width i : ℕ) (bytes : List ℕ) (total : Result (List (Option (List ℕ))) ℕ) → i < width → Fails e (cell_at bytes)
    → after_cells front (cells_at (width - i) bytes) ≡ total → Fails e total
unfolding cells_at
stops faults.NoMemory front width i bytes total lt h so_far = tt
stops (faults.Bad bad) front width i bytes total lt h so_far =
    let k : width - i ≡ suc (width - (i + 1)) = omega arith in
    let one : after_cells front (cells_at (width - i) bytes) ≡ Err bad.left = rw (k, h) refl in
    sym so_far ∙ one

at_end : (front : List (Option (List ℕ))) (bytes : List ℕ) → after_cells front (end_at [] bytes) ≡ end_at front bytes
at_end front [] = ap (λ (l : List (Option (List ℕ))). Ok l) (append-nil front)
at_end front (b ∷ bytes) = refl

pub ended : (front : List (Option (List ℕ))) (width i : ℕ) (bytes : List ℕ) (total : Result (List (Option (List ℕ))) ℕ) → width ≤ i → after_cells front (cells_at (width - i) bytes) ≡ total
    → total ≡ end_at front bytes
unfolding cells_at
ended front width i bytes total le so_far =
    let k : width - i ≡ 0 = omega arith in
    let one : after_cells front (cells_at (width - i) bytes) ≡ after_cells front (end_at [] bytes) = rw k refl in
    sym so_far ∙ one ∙ at_end front bytes

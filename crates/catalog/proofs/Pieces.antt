-- The pieces of a comment's text, step by step.
use Rattle.std.proofs.Common.{◌≡◌, ℕ, suc, ◌+◌, ◌-◌, ◌<◌, arith, List, ◌∷◌, Some, length, take, drop, get_or, refl, ap, ◌∙◌}
use Rattle.std.proofs.lemmas.List.{append-nil, drop_more}
use Rattle.catalog.specs.declared.comment.Comment.{Comment}
use Rattle.catalog.specs.Comment.{pairs_at, after_step, step_at}
use Rattle.catalog.specs.CommentText.{closed, behind}

-- the next byte is a quote
pub closed_next : (bytes : List ℕ) (i : ℕ) → i < length bytes → get_or bytes i 0 ≡ 34 → behind (take i bytes) (closed (drop i bytes)) ≡ Some (take i bytes, drop (i + 1) bytes)
closed_next bytes i within quote =
    ap (λ (rest : List ℕ). behind (take i bytes) (closed rest)) (drop_more bytes i 0 within)
    ∙ ap (λ (b : ℕ). behind (take i bytes) (closed (b ∷ drop (i + 1) bytes))) quote
    ∙ ap (λ (t : List ℕ). Some (t, drop (i + 1) bytes)) (append-nil (take i bytes))

-- one pair more
pub pairs_step : (n i : ℕ) (comment : Comment) (bytes : List ℕ) → i < n → pairs_at (n - i) comment bytes ≡ after_step (pairs_at (n - (i + 1))) (step_at comment bytes)
pairs_step n i comment bytes more = let e : n - i ≡ suc (n - (i + 1)) = omega arith in rw e refl

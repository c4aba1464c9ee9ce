-- How a run of disk calls goes on, and what a crash may leave on the way.
use Rattle.std.proofs.Common.{◌≡◌, ◌⊎◌, inl, inr, ⊎_elim, ℕ, List, [], ◌∷◌, ◌++◌, length, drop, refl, sym, ◌∙◌, ap, subst, arith, append_assoc}
use Rattle.std.proofs.lemmas.List.{append-nil, drop_at, drop_all}
use Rattle.disk_core.specs.DiskModel.{Moment, DiskState, MayLeave, LeftAtSome, LeavesOnly, at_moment}

some_split : (xs ys : List Moment) (bytes : List ℕ) → LeftAtSome (xs ++ ys) bytes → LeftAtSome xs bytes ⊎ LeftAtSome ys bytes
some_split [] ys bytes some = inr some
some_split (m ∷ xs) ys bytes (inl here) = inl (inl here)
some_split (m ∷ xs) ys bytes (inr there) = ⊎_elim (λ x. inl (inr x)) (λ y. inr y) (some_split xs ys bytes there)

none_more : (moments : List Moment) (bytes : List ℕ) → LeftAtSome (drop (length moments) moments) bytes → ⊥
none_more moments bytes some = subst (λ ms. LeftAtSome ms bytes) (drop_all (length moments) moments (omega arith)) some

-- before the first call
pub started : (s : DiskState) (P : List ℕ → Type 0) → ((bytes : List ℕ) → MayLeave s.now bytes → P bytes) → LeavesOnly s s P
started s P here = record {
  more = [];
  clock = sym (append-nil s.moments);
  each = λ bytes left. ⊎_elim (here bytes) (λ some. absurd (none_more s.moments bytes some)) left;
}

since : (s t : DiskState) (P : List ℕ → Type 0) → LeavesOnly s t P → (m : Moment) (u : DiskState) → u.moments ≡ t.moments ++ m ∷ [] → (bytes : List ℕ)
    → LeftAtSome (drop (length s.moments) u.moments) bytes → LeftAtSome (drop (length s.moments) t.moments) bytes ⊎ MayLeave m bytes
since s t P so_far m u clock bytes some =
    let more = so_far.more in
    let new : drop (length s.moments) u.moments ≡ more ++ m ∷ [] =
    ap (λ ms. drop (length s.moments) ms) (clock ∙ ap (λ ms. ms ++ m ∷ []) so_far.clock ∙ append_assoc s.moments more (m ∷ [])) ∙ drop_at s.moments (more ++ m ∷ []) (length s.moments) refl in
    let old : drop (length s.moments) t.moments ≡ more = ap (λ ms. drop (length s.moments) ms) so_far.clock ∙ drop_at s.moments more (length s.moments) refl in
    ⊎_elim
    (λ x. inl (subst (λ ms. LeftAtSome ms bytes) (sym old) x))
    (λ y. ⊎_elim (λ is. inr is) (λ none. absurd none) y)
    (some_split more (m ∷ []) bytes (subst (λ ms. LeftAtSome ms bytes) new some))

-- one moment more, whose images have P
pub goes_on : (s t : DiskState) (P : List ℕ → Type 0) (seen : List ℕ) (m : Moment) → LeavesOnly s t P → ((bytes : List ℕ) → MayLeave m bytes → P bytes) → LeavesOnly s (at_moment t seen m) P
goes_on s t P seen m so_far here = record {
  more = so_far.more ++ m ∷ [];
  clock = ap (λ ms. ms ++ m ∷ []) so_far.clock ∙ append_assoc s.moments so_far.more (m ∷ []);
  each = λ bytes left. ⊎_elim
      (λ first. so_far.each bytes (inl first))
      (λ some. ⊎_elim (λ old. so_far.each bytes (inr old)) (here bytes) (since s t P so_far m (at_moment t seen m) refl bytes some))
      left;
}

use Rattle.std.proofs.Common.{◌≡◌, ◌∙◌, cond, true, false, refl, List, [], ◌∷◌, ap, rules}
use Rattle.std.specs.Prelude.{filter, map, Bool}
use Rattle.std.specs.List.{retain_mut}
use Rattle.std.proofs.RetainMut.{retains_is_retain_mut}
use Rattle.disk_core.specs.declared.plan.Pending.{Pending}
use Rattle.disk_core.specs.Trial.{is_later, nearer, later}
use Rattle.disk_core.proofs.plan.pass.Goals as goal

split : (test : Bool) (entry : Pending) (kept kept' : List Pending) → kept ≡ map nearer kept' → cond test (nearer entry ∷ kept) kept ≡ map nearer (cond test (entry ∷ kept') kept')
split true entry kept kept' same = ap (λ (l : List Pending). nearer entry ∷ l) same
split false entry kept kept' same = same

retained : (pending : List Pending) → retain_mut is_later nearer pending ≡ later pending
retained [] = refl
retained (entry ∷ pending) = split (is_later entry) entry (retain_mut is_later nearer pending) (filter is_later pending) (retained pending)

pub returns : goal.returns
returns c = retains_is_retain_mut _ is_later nearer (λ s x b t y called. (search rules, search rules)) _ _ _ c.retain_mut.ensures.filtered ∙ retained c.args.pending.now.items

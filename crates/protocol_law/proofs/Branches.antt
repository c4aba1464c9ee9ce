-- Look-ups in a list of branches.
use Rattle.std.proofs.Common.{◌≡◌, ℕ, Bool, true, false, cond, eqb, List, [], ◌∷◌, Some, None, refl, sym, ap, ◌∙◌, arith, eqb-true}
use Rattle.std.proofs.lemmas.Bool.Decides.{nat_tests}
use Rattle.commit_protocol.specs.Backend.{Branch, find, owned, is_owned, kept, without, put}

-- no two branches of the list have one number
abbrev pub AreDistinct : List Branch → Type 0
AreDistinct [] = Unit {0}
AreDistinct (b ∷ bs) = (find b.xid bs ≡ None) × AreDistinct bs

pub find_xid : (x : ℕ) (b : Branch) (bs : List Branch) → find x bs ≡ Some b → b.xid ≡ x
find_xid x b [] h = cc
find_xid x b (d ∷ bs) h = grind (arith, nat_tests, find_xid x b bs)

pub find_kept_none : (p : Branch → Bool) (x : ℕ) (bs : List Branch) → find x bs ≡ None → find x (kept p bs) ≡ None
find_kept_none p x [] h = refl
find_kept_none p x (d ∷ bs) h = grind (arith, nat_tests, find_kept_none p x bs)

pub find_kept : (p : Branch → Bool) (x : ℕ) (b : Branch) (bs : List Branch) → AreDistinct bs → find x (kept p bs) ≡ Some b → (find x bs ≡ Some b) × (p b ≡ true)
find_kept p x b [] u h = cc
find_kept p x b (d ∷ bs) u h = grind (arith, nat_tests, find_kept p x b bs u.1, find_kept_none p x bs)

pub find_kept_there : (p : Branch → Bool) (x : ℕ) (b : Branch) (bs : List Branch) → find x bs ≡ Some b → p b ≡ true → find x (kept p bs) ≡ Some b
find_kept_there p x b [] h t = cc
find_kept_there p x b (d ∷ bs) h t = grind (arith, nat_tests, find_kept_there p x b bs)

pub distinct_kept : (p : Branch → Bool) (bs : List Branch) → AreDistinct bs → AreDistinct (kept p bs)
distinct_kept p [] u = tt
distinct_kept p (b ∷ bs) u =
    let rest = distinct_kept p bs u.1 in
    elim (p b) as (λ v. AreDistinct (cond v (b ∷ kept p bs) (kept p bs))) [ true ↦ (find_kept_none p b.xid bs u.0, rest) | false ↦ rest ]

pub find_without : (x y : ℕ) (bs : List Branch) → find y (without x bs) ≡ cond (eqb x y) None (find y bs)
find_without x y [] = grind (arith, nat_tests)
find_without x y (b ∷ bs) = grind (arith, nat_tests, find_without x y bs)

pub find_put : (b : Branch) (bs : List Branch) (y : ℕ) → find y (put b bs) ≡ cond (eqb b.xid y) (Some b) (find y bs)
find_put b [] y = refl
find_put b (d ∷ bs) y = grind (arith, nat_tests, find_put b bs y)

pub distinct_put : (b : Branch) (bs : List Branch) → AreDistinct bs → AreDistinct (put b bs)
distinct_put b [] u = (refl, tt)
distinct_put b (d ∷ bs) u = go (eqb d.xid b.xid) refl (distinct_put b bs u.1)
  where
    go : (v : Bool) → eqb d.xid b.xid ≡ v → AreDistinct (put b bs) → AreDistinct (cond v (b ∷ bs) (d ∷ put b bs))
    go true e ih = (ap (λ x. find x bs) (sym (eqb-true _ _ e)) ∙ u.0, u.1)
    go false e ih = (grind (arith, nat_tests, find_put b bs d.xid, u.0), ih)

pub owned_found : (c : ℕ) (b : Branch) (bs : List Branch) → AreDistinct bs → owned c bs ≡ Some b → (find b.xid bs ≡ Some b) × (is_owned c b ≡ true)
owned_found c b [] u h = cc
owned_found c b (d ∷ bs) u h = grind (arith, nat_tests, owned_found c b bs u.1)

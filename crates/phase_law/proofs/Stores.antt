-- The stores of servers, looked up and changed at one server.
use Rattle.std.proofs.Common.{◌≡◌, ◌<◌, ◌≢◌, ℕ, ◌==◌, Bool, true, false, List, [], Some, set, get_or, length, slice_get, cond, refl, sym, ap, ◌∙◌, arith, eqb-true, eq-eqb, length-set, get_or-set_other, get_or-set_same}
use Rattle.std.proofs.lemmas.List.FromFn.{length-map-range_with_len, get_or-map-range_with_len, fill_by_all}
use Rattle.std.proofs.lemmas.Bool.{eqb-false}
use Rattle.std.proofs.lemmas.Option.{slice_get-get_or}
use Rattle.branch_store.specs.declared.branch.Branch as backend
use Rattle.branch_store.specs.Store.{Store}
use Rattle.branch_store.specs.Tables.{Table}
use Rattle.phase_law.proofs.Stages.{stores_as}

-- a store with these tables and branches
abbrev pub store_of : List Table → List backend.Branch → Store
store_of tables branches = record { tables = tables; branches = branches }

-- the same elsewhere, and this at that server
abbrev pub but_at : {X : Type 0} → (ℕ → X) → ℕ → X → ℕ → X
but_at f s x k = cond (k == s) x (f k)

pub but_here : {X : Type 0} (f : ℕ → X) (s : ℕ) (x : X) (k : ℕ) → k ≡ s → but_at f s x k ≡ x
but_here f s x k is = ap (λ b. cond b x (f k)) (eq-eqb k s is)

pub but_elsewhere : {X : Type 0} (f : ℕ → X) (s : ℕ) (x : X) (k : ℕ) → (k == s) ≡ false → but_at f s x k ≡ f k
but_elsewhere f s x k other = ap (λ b. cond b x (f k)) other

-- what is at a server doesn't change a function that has it there already
pub but_same : {X : Type 0} (f : ℕ → X) (s : ℕ) (x : X) → f s ≡ x → (k : ℕ) → but_at f s x k ≡ f k
but_same f s x is k = by (k == s) refl
  where
    by : (b : Bool) → (k == s) ≡ b → but_at f s x k ≡ f k
    by true here = let same : k ≡ s = eqb-true k s here in but_here f s x k same ∙ (sym is ∙ ap f (sym same))
    by false other = but_elsewhere f s x k other

module _ (servers : ℕ) where
  pub length_stores : (tables : ℕ → List Table) (branches : ℕ → List backend.Branch) → length (stores_as servers tables branches) ≡ servers
  length_stores tables branches = length-map-range_with_len (λ s. store_of (tables s) (branches s)) 0 servers

  store_or : (tables : ℕ → List Table) (branches : ℕ → List backend.Branch) (s : ℕ) (d : Store) → s < servers → get_or (stores_as servers tables branches) s d ≡ store_of (tables s) (branches s)
  store_or tables branches s d below = get_or-map-range_with_len (λ k. store_of (tables k) (branches k)) 0 servers s s d below (omega arith)

  -- the store at a server
  pub store_there : (tables : ℕ → List Table) (branches : ℕ → List backend.Branch) (s : ℕ) → s < servers → slice_get (stores_as servers tables branches) s ≡ Some (store_of (tables s) (branches s))
  store_there tables branches s below =
      let d : Store = store_of [] [] in
      slice_get-get_or (stores_as servers tables branches) s d (omega (arith, length_stores tables branches)) ∙ ap (λ (x : Store). Some x) (store_or tables branches s d below)

  filled : (stores : List Store) (tables : ℕ → List Table) (branches : ℕ → List backend.Branch) (d : Store) → length stores ≡ servers → ((k : ℕ) → k < servers → get_or stores k d ≡ store_of (tables k) (branches k)) → stores ≡ stores_as servers tables branches
  filled stores tables branches d so_many each = fill_by_all (λ k. store_of (tables k) (branches k)) stores servers d so_many each

  -- that store in its place
  pub store_set : (tables : ℕ → List Table) (branches : ℕ → List backend.Branch) (s : ℕ) (t : List Table) (bs : List backend.Branch)
      → set (stores_as servers tables branches) s (store_of t bs) ≡ stores_as servers (but_at tables s t) (but_at branches s bs)
  store_set tables branches s t bs =
      let stores : List Store = stores_as servers tables branches in
      filled (set stores s (store_of t bs)) (but_at tables s t) (but_at branches s bs) (store_of [] []) (length-set stores s (store_of t bs) ∙ length_stores tables branches) (λ k below. by k below (k == s) refl)
    where
      by : (k : ℕ) → k < servers → (b : Bool) → (k == s) ≡ b → get_or (set (stores_as servers tables branches) s (store_of t bs)) k (store_of [] []) ≡ store_of (cond b t (tables k)) (cond b bs (branches k))
      by k below true is =
          let same : k ≡ s = eqb-true k s is in
          let inside : s < length (stores_as servers tables branches) = omega (arith, length_stores tables branches) in
          rw same (get_or-set_same (stores_as servers tables branches) s (store_of t bs) (store_of [] []) inside)
      by k below false is =
          let apart : k ≢ s = eqb-false k s is in
          get_or-set_other (stores_as servers tables branches) s k (store_of t bs) (store_of [] []) apart ∙ store_or tables branches k (store_of [] []) below

  -- stores alike
  pub same_stores : (tables more : ℕ → List Table) (branches others : ℕ → List backend.Branch) → ((s : ℕ) → s < servers → tables s ≡ more s) → ((s : ℕ) → s < servers → branches s ≡ others s)
      → stores_as servers tables branches ≡ stores_as servers more others
  same_stores tables more branches others same_tables same_branches =
      let d : Store = store_of [] [] in
      filled (stores_as servers tables branches) more others d (length_stores tables branches)
      (λ k below. store_or tables branches k d below ∙ (ap (λ t. store_of t (branches k)) (same_tables k below) ∙ ap (λ bs. store_of (more k) bs) (same_branches k below)))

-- A word to each branch of a transaction, at servers that are different.
use Rattle.std.proofs.Common.{◌≡◌, ◌<◌, ℕ, ◌==◌, Bool, true, false, ◌||◌, List, [], ◌∷◌, refl, sym, ap, ◌∙◌, subst, eqb-true}
use Rattle.std.specs.List.{AllByRecursion, list_any}
use Rattle.std.proofs.lemmas.Bool.{eqb-false}
use Rattle.sql_values.specs.declared.places.Xid.{Xid}
use Rattle.sql_text.specs.declared.link.LinkAnswer.{LinkAnswer}
use Rattle.sql_text.specs.declared.link.LinkAnswer.TheVariants.{Done}
use Rattle.sql_text.specs.declared.link.LinkRequest.{LinkRequest}
use Rattle.branch_store.specs.declared.branch.Branch as backend
use Rattle.branch_store.specs.Store.{Store, store_step}
use Rattle.branch_store.specs.Tables.{Table}
use Rattle.txn_phases.specs.declared.phase.Branch.{Branch}
use Rattle.txn_phases.specs.declared.requests.Ask.{Ask}
use Rattle.txn_phases.specs.Phases.{to_each}
use Rattle.phase_law.proofs.Noted.{dones}
use Rattle.phase_law.proofs.Stages.{Served, stores_as}
use Rattle.phase_law.proofs.Stores.{but_at, but_here, but_elsewhere, same_stores, store_of, store_set, store_there}

-- BRANCHES AT DIFFERENT SERVERS

-- one of them is at that server
abbrev pub among : ℕ → List Branch → Bool
among s branches = list_any (λ (b : Branch). b.server == s) branches

-- their servers are below this number, and pairwise different
abbrev pub AreApart : ℕ → List Branch → Type 0
AreApart servers [] = Unit {0}
AreApart servers (b ∷ branches) = (b.server < servers) × (among b.server branches ≡ false) × AreApart servers branches

pub or_false : (a b : Bool) → (a || b) ≡ false → (a ≡ false) × (b ≡ false)
or_false true b is = let no : ⊥ = cc in absurd no
or_false false b is = (refl, is)

pub both_false : (a b : Bool) → a ≡ false → b ≡ false → (a || b) ≡ false
both_false a b is also = ap (λ x. x || b) is ∙ also

pub eqb_swapped : (a b : ℕ) → (a == b) ≡ false → (b == a) ≡ false
eqb_swapped a b other = by (b == a) refl
  where
    by : (x : Bool) → (b == a) ≡ x → x ≡ false
    by true is = let no : ⊥ = eqb-false a b other (sym (eqb-true b a is)) in absurd no
    by false is = refl

pub others : (s : ℕ) (branches : List Branch) → among s branches ≡ false → AllByRecursion (λ (b : Branch). (b.server == s) ≡ false) branches
others s [] none = tt
others s (b ∷ branches) none = let each = or_false (b.server == s) (among s branches) none in (each.0, others s branches each.1)

pub joint_all : {X : Type 0} {P Q R : X → Type 0} → ((x : X) → P x → Q x → R x) → (xs : List X) → AllByRecursion P xs → AllByRecursion Q xs → AllByRecursion R xs
joint_all both [] ps qs = tt
joint_all both (x ∷ xs) (p, ps) (q, qs) = (both x p q, joint_all both xs ps qs)

pub each_all : {X : Type 0} {P R : X → Type 0} → ((x : X) → P x → R x) → (xs : List X) → AllByRecursion P xs → AllByRecursion R xs
each_all one [] ps = tt
each_all one (x ∷ xs) (p, ps) = (one x p, each_all one xs ps)

-- A WORD TO EACH

-- the word to each of these branches
abbrev pub to_all : (Xid → LinkRequest) → List Branch → List Ask
to_all word branches = to_each (λ (b : Branch). b.server) (λ (b : Branch). word b.xid) branches

-- what is at the first branch's server is settled, and no other branch is there
settled : {X : Type 0} (f g : ℕ → X) (b : Branch) (branches : List Branch) → ((k : ℕ) → among k (b ∷ branches) ≡ false → g k ≡ f k) → (k : ℕ) → among k branches ≡ false → g k ≡ but_at f b.server (g b.server) k
settled f g b branches same k none = by (k == b.server) refl
  where
    by : (x : Bool) → (k == b.server) ≡ x → g k ≡ but_at f b.server (g b.server) k
    by true is = let here : k ≡ b.server = eqb-true k b.server is in ap g here ∙ sym (but_here f b.server (g b.server) k here)
    by false is = same k (both_false (b.server == k) (among k branches) (eqb_swapped k b.server is) none) ∙ sym (but_elsewhere f b.server (g b.server) k is)

-- the store that a word leaves of one
abbrev pub Steps : (Xid → LinkRequest) → ℕ → (ℕ → List Table) → (ℕ → List backend.Branch) → (ℕ → List Table) → (ℕ → List backend.Branch) → Branch → Type 0
Steps word n tables branches more others b = ◌≡◌ {A = Store × LinkAnswer} (store_step (store_of (tables b.server) (branches b.server)) n (word b.xid)) (store_of (more b.server) (others b.server), Done 0)

pub served_each : (word : Xid → LinkRequest) (n servers : ℕ) (bs : List Branch) (tables more : ℕ → List Table) (branches after : ℕ → List backend.Branch) → AreApart servers bs → AllByRecursion (Steps word n tables branches more after) bs
    → ((k : ℕ) → among k bs ≡ false → more k ≡ tables k) → ((k : ℕ) → among k bs ≡ false → after k ≡ branches k) → Served n (stores_as servers tables branches) (to_all word bs) (dones bs) (stores_as servers more after)
served_each word n servers [] tables more branches after apart steps same_tables same_branches = same_stores servers more tables after branches (λ s below. same_tables s refl) (λ s below. same_branches s refl)
served_each word n servers (b ∷ bs) tables more branches after (below, alone, apart) (step, steps) same_tables same_branches =
    let s : ℕ = b.server in
    let tables1 : ℕ → List Table = but_at tables s (more s) in
    let branches1 : ℕ → List backend.Branch = but_at branches s (after s) in
    let moved_on : (c : Branch) → (c.server == s) ≡ false → Steps word n tables branches more after c → Steps word n tables1 branches1 more after c =
    λ c elsewhere old.
    ap (λ ts. store_step (store_of ts (branches1 c.server)) n (word c.xid)) (but_elsewhere tables s (more s) c.server elsewhere)
    ∙ (ap (λ l. store_step (store_of (tables c.server) l) n (word c.xid)) (but_elsewhere branches s (after s) c.server elsewhere) ∙ old) in
    let rest : Served n (stores_as servers tables1 branches1) (to_all word bs) (dones bs) (stores_as servers more after) =
    served_each word n servers bs tables1 more branches1 after apart (joint_all moved_on bs (others s bs alone) steps) (settled tables more b bs same_tables) (settled branches after b bs same_branches) in (
      store_of (tables s) (branches s),
      store_of (more s) (after s),
      store_there servers tables branches s below,
      step,
      subst (λ stores. Served n stores (to_all word bs) (dones bs) (stores_as servers more after)) (sym (store_set servers tables branches s (more s) (after s))) rest,
    )

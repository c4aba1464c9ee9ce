-- The branches of a statement's transaction: one at each server that has a link of it.
use Rattle.std.proofs.Common.{◌≡◌, ◌<◌, ◌≤◌, ◌+◌, ℕ, zero, suc, ◌==◌, Bool, true, false, ◌||◌, List, [], ◌∷◌, map, length, refl, ap, ◌∙◌, arith, cond, eqb-true, eq-eqb, ne_eqb}
use Rattle.std.specs.List.{filter, list_any, range_with_len}
use Rattle.std.proofs.lemmas.Bool.{eqb-false}
use Rattle.catalog.specs.Views.{View}
use Rattle.txn_phases.specs.declared.phase.Branch.{Branch}
use Rattle.txn_phases.specs.declared.phase.Target.{Target}
use Rattle.front_core.specs.declared.event.TxNo.{TxNo}
use Rattle.front_core.specs.Jobs.{branch_at, branches_of}
use Rattle.phase_law.proofs.Apart.{AreApart, among, both_false}

module _ (catalog : View) (tx : TxNo) (asked : ℕ → Bool) where
  -- those that are asked, of so many servers from one on
  abbrev branches_from : ℕ → ℕ → List Branch
  branches_from a n = map (branch_at catalog tx) (filter asked (range_with_len a n))

  none_by : (s a n : ℕ) (b : Bool) → (b ≡ true → a ≡ s → ⊥) → among s (branches_from (a + 1) n) ≡ false → among s (map (branch_at catalog tx) (cond b (a ∷ filter asked (range_with_len (a + 1) n)) (filter asked (range_with_len (a + 1) n)))) ≡ false
  none_by s a n true other none = both_false (a == s) (among s (branches_from (a + 1) n)) (ne_eqb a s (other refl)) none
  none_by s a n false other none = none

  none_below : (s a n : ℕ) → s < a → among s (branches_from a n) ≡ false
  none_below s a zero below = refl
  none_below s a (suc n) below = none_by s a n (asked a) (λ yes same. let no : ⊥ = omega arith in no) (none_below s (a + 1) n (omega arith))

  none_beyond : (s a n : ℕ) → a + n ≤ s → among s (branches_from a n) ≡ false
  none_beyond s a zero beyond = refl
  none_beyond s a (suc n) beyond = none_by s a n (asked a) (λ yes same. let no : ⊥ = omega arith in no) (none_beyond s (a + 1) n (omega arith))

  none_unasked : (s a n : ℕ) → asked s ≡ false → among s (branches_from a n) ≡ false
  none_unasked s a zero unasked = refl
  none_unasked s a (suc n) unasked = none_by s a n (asked a) (λ is same. let e : asked a ≡ false = ap asked same ∙ unasked in let no : ⊥ = cc in no) (none_unasked s (a + 1) n unasked)

  apart_by : (servers a n : ℕ) (b : Bool) → a < servers → AreApart servers (branches_from (a + 1) n)
      → AreApart servers (map (branch_at catalog tx) (cond b (a ∷ filter asked (range_with_len (a + 1) n)) (filter asked (range_with_len (a + 1) n))))
  apart_by servers a n true below rest = (below, none_below a (a + 1) n (omega arith), rest)
  apart_by servers a n false below rest = rest

  apart_from : (servers a n : ℕ) → a + n ≤ servers → AreApart servers (branches_from a n)
  apart_from servers a zero within = tt
  apart_from servers a (suc n) within = apart_by servers a n (asked a) (omega arith) (apart_from servers (a + 1) n (omega arith))

  here_by : (s a n : ℕ) (b : Bool) → b ≡ true → a ≡ s → among s (map (branch_at catalog tx) (cond b (a ∷ filter asked (range_with_len (a + 1) n)) (filter asked (range_with_len (a + 1) n)))) ≡ true
  here_by s a n true is same = ap (λ x. x || among s (branches_from (a + 1) n)) (eq-eqb a s same)
  here_by s a n false is same = let no : ⊥ = cc in absurd no

  later_by : (s a n : ℕ) (b : Bool) → among s (branches_from (a + 1) n) ≡ true → among s (map (branch_at catalog tx) (cond b (a ∷ filter asked (range_with_len (a + 1) n)) (filter asked (range_with_len (a + 1) n)))) ≡ true
  later_by s a n true later = or_true (a == s) (among s (branches_from (a + 1) n)) later
    where
      or_true : (x y : Bool) → y ≡ true → (x || y) ≡ true
      or_true true y is = refl
      or_true false y is = is
  later_by s a n false later = later

  there_from : (s a n : ℕ) → a ≤ s → s < a + n → asked s ≡ true → among s (branches_from a n) ≡ true
  there_from s a zero low high is = let no : ⊥ = omega arith in absurd no
  there_from s a (suc n) low high is = by (a == s) refl (λ further. there_from s (a + 1) n further (omega arith) is)
    where
      by : (b : Bool) → (a == s) ≡ b → (a + 1 ≤ s → among s (branches_from (a + 1) n) ≡ true) → among s (branches_from a (suc n)) ≡ true
      by true same further = let e : a ≡ s = eqb-true a s same in here_by s a n (asked a) (ap asked e ∙ is) e
      by false other further = let apart : a ≡ s → ⊥ = eqb-false a s other in later_by s a n (asked a) (further (omega arith))

-- the branches' servers are servers, and different
pub branches_apart : (catalog : View) (tx : TxNo) (targets : List Target) → AreApart (length catalog.servers) (branches_of catalog tx targets)
branches_apart catalog tx targets = apart_from catalog tx (λ server. list_any (λ (t : Target). t.server == server) targets) (length catalog.servers) 0 (length catalog.servers) (omega arith)

-- a server of a link has a branch, where it is a server
pub one_among : (catalog : View) (tx : TxNo) (targets : List Target) (s : ℕ) → s < length catalog.servers → list_any (λ (t : Target). t.server == s) targets ≡ true → among s (branches_of catalog tx targets) ≡ true
one_among catalog tx targets s below is = there_from catalog tx (λ server. list_any (λ (t : Target). t.server == server) targets) s 0 (length catalog.servers) (omega arith) (omega arith) is

-- no other has one
pub none_among : (catalog : View) (tx : TxNo) (targets : List Target) (s : ℕ) → list_any (λ (t : Target). t.server == s) targets ≡ false → among s (branches_of catalog tx targets) ≡ false
none_among catalog tx targets s is = none_unasked catalog tx (λ server. list_any (λ (t : Target). t.server == server) targets) s 0 (length catalog.servers) is

pub none_among_beyond : (catalog : View) (tx : TxNo) (targets : List Target) (s : ℕ) → length catalog.servers ≤ s → among s (branches_of catalog tx targets) ≡ false
none_among_beyond catalog tx targets s beyond = none_beyond catalog tx (λ server. list_any (λ (t : Target). t.server == server) targets) s 0 (length catalog.servers) (omega arith)

some_among : (s : ℕ) (bs : List Branch) → among s bs ≡ true → 0 < length bs
some_among s [] is = let no : ⊥ = cc in absurd no
some_among s (b ∷ bs) is = omega arith

-- there is a branch, where there is a link at a server
pub some_branch : (catalog : View) (tx : TxNo) (targets : List Target) (s : ℕ) → s < length catalog.servers → list_any (λ (t : Target). t.server == s) targets ≡ true → 0 < length (branches_of catalog tx targets)
some_branch catalog tx targets s below is = some_among s (branches_of catalog tx targets) (one_among catalog tx targets s below is)

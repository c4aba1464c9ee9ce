-- What is known of the requests and answers on the connections, and of who has a branch.
use Rattle.std.proofs.Common.{◌≡◌, ◌≢◌, ℕ, Bool, true, false, cond, not, ◌&&◌, eqb, List, [], ◌∷◌, Option, Some, None, is_none, refl, sym, subst, arith, eqb-true}
use Rattle.std.proofs.lemmas.Bool.Decides.{nat_tests}
use Rattle.commit_protocol.specs.Backend.{Branch, Request, find, is_prepared}
use Rattle.commit_protocol.specs.Backend.Request.{Start, Scan, Change, End, Prepare, Commit, Rollback, Recover}
use Rattle.commit_protocol.specs.Network.{Topology, Reply, set, no_requests, no_replies}
use Rattle.commit_protocol.specs.Protocol.{World, Transaction, Decision, Phase, is_fresh, is_live, is_writing, is_over, decided_at, has_member, are_ready}
use Rattle.commit_protocol.specs.Views.{done_on}
use Rattle.commit_protocol.specs.Network.Reply.{Refused, Ran, Did, Listed}
use Rattle.commit_protocol.specs.Protocol.Phase.{Fresh, Live, Writing, Over}
use Rattle.protocol_law.proofs.Locks.{IsLocked}

abbrev pub is_settling : Request → Bool
is_settling (Start x) = false
is_settling (Scan fp) = false
is_settling (Change fp rows) = false
is_settling (End x) = false
is_settling Recover = true
is_settling (Prepare x) = false
is_settling (Commit x) = true
is_settling (Rollback x) = true

abbrev pub all_settling : List Request → Bool
all_settling [] = true
all_settling (r ∷ rs) = is_settling r && all_settling rs

abbrev pub is_ran : Reply → Bool
is_ran Refused = false
is_ran (Listed xids) = false
is_ran (Ran op) = true
is_ran Did = false

abbrev pub no_ran : List Reply → Bool
no_ran [] = true
no_ran (r ∷ rs) = not (is_ran r) && no_ran rs

-- what is known of a request that is under way on a connection, with those behind it
abbrev pub IsAllowed : Topology → World → ℕ → List Request → Request → Type 0
IsAllowed f w c rest (Start y) = (y ≡ (w.connection c).xid) × ((w.connection c).begun ≡ false) × ((w.transaction y).uses c ≡ true) × (all_settling rest ≡ true)
IsAllowed f w c rest (Scan fp) = ((w.connection c).begun ≡ true) × ((w.transaction (w.connection c).xid).asked (f.home c) ≢ Some c)
IsAllowed f w c rest (Change fp rows) = ((w.connection c).begun ≡ true) × ((w.transaction (w.connection c).xid).asked (f.home c) ≢ Some c)
IsAllowed f w c rest (End y) = Unit {0}
IsAllowed f w c rest Recover = Unit {0}
IsAllowed f w c rest (Prepare y) = (y ≡ (w.connection c).xid) × ((w.transaction y).asked (f.home c) ≡ Some c) × ((w.transaction y).ready (f.home c) ≡ false) × (all_settling rest ≡ true)
IsAllowed f w c rest (Commit y) = decided_at f w.history y (f.home c) ≡ true
IsAllowed f w c rest (Rollback y) = (is_over (w.transaction y).phase ≡ true) × (decided_at f w.history y (f.home c) ≡ false)

abbrev pub AreAllowed : Topology → World → ℕ → List Request → Type 0
AreAllowed f w c [] = Unit {0}
AreAllowed f w c (r ∷ rest) = IsAllowed f w c rest r × AreAllowed f w c rest

pub record IsOrderly (f : Topology) (w : World) : Type 0 where
  pub locked : (s : ℕ) → IsLocked (w.server s)
  pub sent : (c : ℕ) → AreAllowed f w c (w.connection c).queue
  pub own : (c y : ℕ) (b : Branch) → (w.connection c).begun ≡ true → find y (w.server (f.home c)).branches ≡ Some b → b.owner ≡ c → is_prepared b.stage ≡ false → y ≡ (w.connection c).xid
  pub used : (s x : ℕ) (b : Branch) → find x (w.server s).branches ≡ Some b → (w.transaction x).uses b.owner ≡ true
  pub using : (c : ℕ) → (w.connection c).begun ≡ true → (w.transaction (w.connection c).xid).uses c ≡ true
  pub blank : (x : ℕ) → is_fresh (w.transaction x).phase ≡ true → ((c : ℕ) → (w.transaction x).uses c ≡ false) × ((s : ℕ) → (w.transaction x).ready s ≡ false)
  pub unused : (x c : ℕ) → (w.transaction x).uses c ≡ false → done_on c (w.transaction x).log ≡ []
  pub first : (c : ℕ) → (w.connection c).begun ≡ false → (done_on c (w.transaction (w.connection c).xid).log ≡ []) × (no_ran (w.connection c).unread ≡ true)
  pub quiet : (c : ℕ) → (w.transaction (w.connection c).xid).asked (f.home c) ≡ Some c → no_ran (w.connection c).unread ≡ true
  pub at_home : (x s c : ℕ) → (w.transaction x).asked s ≡ Some c → f.home c ≡ s
  pub unready : (x s : ℕ) → (w.transaction x).asked s ≡ None → (w.transaction x).ready s ≡ false
  pub decided : (x s : ℕ) → decided_at f w.history x s ≡ true → (is_over (w.transaction x).phase ≡ true) × ((w.transaction x).ready s ≡ true)

pub allowed_still : (f : Topology) (w v : World) (c : ℕ) → ((rest : List Request) (r : Request) → IsAllowed f w c rest r → IsAllowed f v c rest r) → (q : List Request) → AreAllowed f w c q → AreAllowed f v c q
allowed_still f w v c h [] a = tt
allowed_still f w v c h (r ∷ q) a = (h q r a.0, allowed_still f w v c h q a.1)

-- a fact of the place that is set, and of the others
pub set_cases : {A : Type 0} (P : ℕ → A → Type 0) (g : ℕ → A) (k : ℕ) (v : A) (n : ℕ) → P k v → (n ≢ k → P n (g n)) → P n (set g k v n)
set_cases P g k v n here other = elim (eqb n k) as (λ t. eqb n k ≡ t → P n (cond t v (g n))) [
  | true ↦ λ e. subst (λ m. P m v) (sym (eqb-true n k e)) here
  | false ↦ λ e. other (grind (arith, nat_tests))
] refl

pub none_asked : (q : List Request) → no_requests q ≡ true → q ≡ []
none_asked [] h = refl
none_asked (r ∷ q) h = cc

pub none_told : (q : List Reply) → no_replies q ≡ true → q ≡ []
none_told [] h = refl
none_told (r ∷ q) h = cc

pub is_none_from : {A : Type 0} (o : Option A) → is_none o ≡ true → o ≡ None
is_none_from None h = refl
is_none_from (Some a) h = cc

pub ready_member : (f : Topology) (t : Transaction) (ms : List ℕ) (s : ℕ) → are_ready f t ms ≡ true → has_member f s ms ≡ true → t.ready s ≡ true
ready_member f t [] s h g = cc
ready_member f t (m ∷ ms) s h g = grind (arith, nat_tests, ready_member f t ms s)

-- a guard that doesn't hold leaves the world
pub guarded : (P : World → Type 0) (b : Bool) (v w : World) → P w → (b ≡ true → P v) → P (cond b v w)
guarded P b v w old new = elim b as (λ t. (t ≡ true → P v) → P (cond t v w)) [ true ↦ λ k. k refl | false ↦ λ k. old ] new

pub unless : (P : World → Type 0) (b : Bool) (v w : World) → P w → (b ≡ false → P v) → P (cond b w v)
unless P b v w old new = elim b as (λ t. (t ≡ false → P v) → P (cond t w v)) [ true ↦ λ k. old | false ↦ λ k. k refl ] new

pub live_or_over : (p : Phase) → is_live p ≡ true → is_over p ≡ true → ⊥
live_or_over Fresh h o = cc
live_or_over Live h o = cc
live_or_over Writing h o = cc
live_or_over Over h o = cc

pub fresh_or_over : (p : Phase) → is_fresh p ≡ true → is_over p ≡ true → ⊥
fresh_or_over Fresh h o = cc
fresh_or_over Live h o = cc
fresh_or_over Writing h o = cc
fresh_or_over Over h o = cc

-- the record in progress: its transaction waits for it, with ready members
abbrev pub IsWaiting : Topology → World → Decision → Type 0
IsWaiting f w d = (is_writing (w.transaction d.number).phase ≡ true) × ((w.transaction d.number).log ≡ d.log) × (are_ready f (w.transaction d.number) d.members ≡ true)

abbrev pub Waits : Topology → World → Type 0
Waits f w = (d : Decision) → w.pending ≡ Some d → IsWaiting f w d

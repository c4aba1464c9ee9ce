-- It stays so where one component of the world changes: a phase, a queue, fewer branches, connections of which less is known.
use Rattle.std.proofs.Common.{◌≡◌, ◌≢◌, ℕ, Bool, true, false, cond, not, ◌||◌, eqb, List, [], ◌∷◌, Option, Some, refl, sym, ap, ◌∙◌, subst, arith, ◌⊎◌, inl, inr, ⊎_elim}
use Rattle.std.proofs.lemmas.Bool.Decides.{nat_tests}
use Rattle.commit_protocol.specs.Backend.{Branch, Server, Request, find, is_prepared, kept}
use Rattle.commit_protocol.specs.Backend.Request.{Start, Scan, Change, End, Prepare, Commit, Rollback, Recover}
use Rattle.commit_protocol.specs.Network.{Topology, Connection, Reply, set, no_replies, is_empty, is_idle, dialled_now, broken, ended}
use Rattle.commit_protocol.specs.Protocol.{World, Transaction, Decision, Phase, is_fresh, is_live, is_writing, is_over, is_undecided, are_ready, recorded, dead, uses_connection, with_phase, stops}
use Rattle.commit_protocol.specs.Views.{done_on}
use Rattle.commit_protocol.specs.Protocol.Phase.{Fresh, Live, Writing, Over}
use Rattle.protocol_law.proofs.Branches.{find_kept}
use Rattle.protocol_law.proofs.Locks.{IsLocked, locked_kept}
use Rattle.protocol_law.proofs.Traffic.{no_ran, IsAllowed, AreAllowed, IsOrderly, allowed_still, set_cases, none_asked, none_told, ready_member}

-- a new phase of one transaction
phase_allowed : (f : Topology) (w : World) (x : ℕ) (p : Phase) (c : ℕ) → (is_over (w.transaction x).phase ≡ true → is_over p ≡ true) → (rest : List Request) (r : Request) → IsAllowed f w c rest r → IsAllowed f (with_phase w x p) c rest r
phase_allowed f w x p c over rest (Start y) a = grind (arith, nat_tests)
phase_allowed f w x p c over rest (Scan fp) a = grind (arith, nat_tests)
phase_allowed f w x p c over rest (Change fp rows) a = grind (arith, nat_tests)
phase_allowed f w x p c over rest (End y) a = tt
phase_allowed f w x p c over rest Recover a = tt
phase_allowed f w x p c over rest (Prepare y) a = grind (arith, nat_tests)
phase_allowed f w x p c over rest (Commit y) a = a
phase_allowed f w x p c over rest (Rollback y) a = grind (arith, nat_tests)

pub orderly_phase : (f : Topology) (w : World) (x : ℕ) (p : Phase) → (is_over (w.transaction x).phase ≡ true → is_over p ≡ true) → (is_fresh p ≡ false) → IsOrderly f w → IsOrderly f (with_phase w x p)
orderly_phase f w x p over fresh i = record {
  locked = i.locked;
  sent = λ c. allowed_still f w (with_phase w x p) c (phase_allowed f w x p c over) (w.connection c).queue (i.sent c);
  own = i.own;
  used = λ s y b h. grind (arith, nat_tests, i.used s y b h);
  using = λ c h. grind (arith, nat_tests, i.using c h);
  blank = λ y h. (λ c. grind (arith, nat_tests, i.blank y), λ s. grind (arith, nat_tests, i.blank y));
  unused = λ y c h. grind (arith, nat_tests, i.unused y c);
  first = λ c h. grind (arith, nat_tests, i.first c h);
  quiet = λ c h. grind (arith, nat_tests, i.quiet c);
  at_home = λ y s c h. grind (arith, nat_tests, i.at_home y s c);
  unready = λ y s h. grind (arith, nat_tests, i.unready y s);
  decided = λ y s h. grind (arith, nat_tests, i.decided y s h);
}

uses_allowed : (f : Topology) (w : World) (c x d : ℕ) → d ≢ c → (rest : List Request) (r : Request) → IsAllowed f w d rest r → IsAllowed f (uses_connection w c x) d rest r
uses_allowed f w c x d ne rest (Start y) a = grind (arith, nat_tests)
uses_allowed f w c x d ne rest (Scan fp) a = grind (arith, nat_tests)
uses_allowed f w c x d ne rest (Change fp rows) a = grind (arith, nat_tests)
uses_allowed f w c x d ne rest (End y) a = tt
uses_allowed f w c x d ne rest Recover a = tt
uses_allowed f w c x d ne rest (Prepare y) a = grind (arith, nat_tests)
uses_allowed f w c x d ne rest (Commit y) a = a
uses_allowed f w c x d ne rest (Rollback y) a = grind (arith, nat_tests)

pub orderly_uses : (f : Topology) (w : World) (c x : ℕ) → is_idle (w.connection c) ≡ true → is_live (w.transaction x).phase ≡ true → (w.transaction x).uses c ≡ false → IsOrderly f w → IsOrderly f (uses_connection w c x)
orderly_uses f w c x idle live new i =
    let asked : (w.connection c).queue ≡ [] = none_asked (w.connection c).queue (grind arith) in
    let silent : (w.connection c).unread ≡ [] = none_told (w.connection c).unread (grind arith) in
    record {
      locked = i.locked;
      sent = λ d. set_cases (λ e ch. AreAllowed f (uses_connection w c x) e ch.queue) w.connection c _ d
          (subst (λ q. AreAllowed f (uses_connection w c x) c q) (sym asked) tt)
          (λ ne. allowed_still f w (uses_connection w c x) d (uses_allowed f w c x d ne) (w.connection d).queue (i.sent d));
      own = λ d y b h g e p. grind (arith, nat_tests, i.own d y b);
      used = λ s y b h. grind (arith, nat_tests, i.used s y b h);
      using = λ d h. grind (arith, nat_tests, i.using d);
      blank = λ y h. (λ d. grind (arith, nat_tests, i.blank y), λ s. grind (arith, nat_tests, i.blank y));
      unused = λ y d h. grind (arith, nat_tests, i.unused y d);
      first = λ d h. grind (arith, nat_tests, i.first d, i.unused x c new, ap no_ran silent);
      quiet = λ d h. grind (arith, nat_tests, i.quiet d, ap no_ran silent);
      at_home = λ y s d h. grind (arith, nat_tests, i.at_home y s d);
      unready = λ y s h. grind (arith, nat_tests, i.unready y s);
      decided = λ y s h. grind (arith, nat_tests, i.decided y s h);
    }

-- another queue of one connection
abbrev pub with_queue : World → ℕ → List Request → World
with_queue w c q = record w { connection = set w.connection c (record (w.connection c) { queue = q }) }

queue_allowed : (f : Topology) (w : World) (c d : ℕ) (q rest : List Request) (r : Request) → IsAllowed f w d rest r → IsAllowed f (with_queue w c q) d rest r
queue_allowed f w c d q rest (Start y) a = grind (arith, nat_tests)
queue_allowed f w c d q rest (Scan fp) a = grind (arith, nat_tests)
queue_allowed f w c d q rest (Change fp rows) a = grind (arith, nat_tests)
queue_allowed f w c d q rest (End y) a = tt
queue_allowed f w c d q rest Recover a = tt
queue_allowed f w c d q rest (Prepare y) a = grind (arith, nat_tests)
queue_allowed f w c d q rest (Commit y) a = a
queue_allowed f w c d q rest (Rollback y) a = a

pub orderly_queue : (f : Topology) (w : World) (c : ℕ) (q : List Request) → AreAllowed f w c q → IsOrderly f w → IsOrderly f (with_queue w c q)
orderly_queue f w c q new i = record {
  locked = i.locked;
  sent = λ d. set_cases (λ e ch. AreAllowed f (with_queue w c q) e ch.queue) w.connection c _ d
      (allowed_still f w (with_queue w c q) c (λ rest r a. queue_allowed f w c c q rest r a) q new)
      (λ ne. allowed_still f w (with_queue w c q) d (λ rest r a. queue_allowed f w c d q rest r a) (w.connection d).queue (i.sent d));
  own = λ d y b h g e p. grind (arith, nat_tests, i.own d y b, i.own c y b);
  used = i.used;
  using = λ d h. grind (arith, nat_tests, i.using d, i.using c);
  blank = i.blank;
  unused = i.unused;
  first = λ d h. grind (arith, nat_tests, i.first d, i.first c);
  quiet = λ d h. grind (arith, nat_tests, i.quiet d, i.quiet c);
  at_home = i.at_home;
  unready = i.unready;
  decided = i.decided;
}

-- one server's branches are fewer
abbrev pub with_server : World → ℕ → Server → World
with_server w s v = record w { server = set w.server s v }

server_allowed : (f : Topology) (w : World) (s : ℕ) (v : Server) (d : ℕ) (rest : List Request) (r : Request) → IsAllowed f w d rest r → IsAllowed f (with_server w s v) d rest r
server_allowed f w s v d rest (Start y) a = a
server_allowed f w s v d rest (Scan fp) a = a
server_allowed f w s v d rest (Change fp rows) a = a
server_allowed f w s v d rest (End y) a = tt
server_allowed f w s v d rest Recover a = tt
server_allowed f w s v d rest (Prepare y) a = a
server_allowed f w s v d rest (Commit y) a = a
server_allowed f w s v d rest (Rollback y) a = a

pub orderly_fewer : (f : Topology) (w : World) (s : ℕ) (p : Branch → Bool) → IsOrderly f w → IsOrderly f (with_server w s (record (w.server s) { branches = kept p (w.server s).branches }))
orderly_fewer f w s p i =
    let v = record (w.server s) { branches = kept p (w.server s).branches } in
    record {
      locked = λ t. set_cases (λ u (x : Server). IsLocked x) w.server s _ t (locked_kept (w.server s) p (w.server s).rows (i.locked s)) (λ ne. i.locked t);
      sent = λ d. allowed_still f w (with_server w s v) d (server_allowed f w s v d) (w.connection d).queue (i.sent d);
      own = λ d y b h g1 e1 q1. set_cases (λ u (x : Server). find y x.branches ≡ Some b → b.owner ≡ d → is_prepared b.stage ≡ false → u ≡ f.home d → y ≡ (w.connection d).xid) w.server s v (f.home d)
          (λ g e q same. i.own d y b h (subst (λ u. find y (w.server u).branches ≡ Some b) same (find_kept p y b (w.server s).branches (i.locked s).distinct g).0) e q)
          (λ ne g e q same. i.own d y b h g e q)
          g1 e1 q1 refl;
      used = λ t y b. set_cases (λ u (x : Server). find y x.branches ≡ Some b → (w.transaction y).uses b.owner ≡ true) w.server s v t
          (λ g. i.used s y b (find_kept p y b (w.server s).branches (i.locked s).distinct g).0)
          (λ ne g. i.used t y b g);
      using = i.using;
      blank = i.blank;
      unused = i.unused;
      first = i.first;
      quiet = i.quiet;
      at_home = i.at_home;
      unready = i.unready;
      decided = i.decided;
    }

recorded_allowed : (f : Topology) (w : World) (n : Decision) (d : ℕ) → is_writing (w.transaction n.number).phase ≡ true → (rest : List Request) (r : Request) → IsAllowed f w d rest r → IsAllowed f (recorded w (Some n)) d rest r
recorded_allowed f w n d waits rest (Start y) a = grind (arith, nat_tests)
recorded_allowed f w n d waits rest (Scan fp) a = grind (arith, nat_tests)
recorded_allowed f w n d waits rest (Change fp rows) a = grind (arith, nat_tests)
recorded_allowed f w n d waits rest (End y) a = tt
recorded_allowed f w n d waits rest Recover a = tt
recorded_allowed f w n d waits rest (Prepare y) a = grind (arith, nat_tests)
recorded_allowed f w n d waits rest (Commit y) a = grind (arith, nat_tests)
recorded_allowed f w n d waits rest (Rollback y) a = grind (arith, nat_tests)

pub orderly_recorded : (f : Topology) (w : World) (n : Decision) → is_writing (w.transaction n.number).phase ≡ true → are_ready f (w.transaction n.number) n.members ≡ true → IsOrderly f w → IsOrderly f (recorded w (Some n))
orderly_recorded f w n waits all_ready i = record {
  locked = i.locked;
  sent = λ d. allowed_still f w (recorded w (Some n)) d (recorded_allowed f w n d waits) (w.connection d).queue (i.sent d);
  own = i.own;
  used = λ s y b h. grind (arith, nat_tests, i.used s y b h);
  using = λ c h. grind (arith, nat_tests, i.using c h);
  blank = λ y h. ((λ c. grind (arith, nat_tests, i.blank y)), λ s. grind (arith, nat_tests, i.blank y));
  unused = λ y c h. grind (arith, nat_tests, i.unused y c);
  first = λ c h. grind (arith, nat_tests, i.first c h);
  quiet = λ c h. grind (arith, nat_tests, i.quiet c);
  at_home = λ y s c h. grind (arith, nat_tests, i.at_home y s c);
  unready = λ y s h. grind (arith, nat_tests, i.unready y s);
  decided = λ y s h. grind (arith, nat_tests, i.decided y s, ready_member f (w.transaction n.number) n.members s);
}

-- another record in progress, or none
abbrev pub with_progress : World → Option Decision → World
with_progress w p = record w { pending = p }

progress_allowed : (f : Topology) (w : World) (p : Option Decision) (d : ℕ) (rest : List Request) (r : Request) → IsAllowed f w d rest r → IsAllowed f (with_progress w p) d rest r
progress_allowed f w p d rest (Start y) a = a
progress_allowed f w p d rest (Scan fp) a = a
progress_allowed f w p d rest (Change fp rows) a = a
progress_allowed f w p d rest (End y) a = tt
progress_allowed f w p d rest Recover a = tt
progress_allowed f w p d rest (Prepare y) a = a
progress_allowed f w p d rest (Commit y) a = a
progress_allowed f w p d rest (Rollback y) a = a

pub orderly_progress : (f : Topology) (w : World) (p : Option Decision) → IsOrderly f w → IsOrderly f (with_progress w p)
orderly_progress f w p i = record {
  locked = i.locked;
  sent = λ d. allowed_still f w (with_progress w p) d (progress_allowed f w p d) (w.connection d).queue (i.sent d);
  own = i.own;
  used = i.used;
  using = i.using;
  blank = i.blank;
  unused = i.unused;
  first = i.first;
  quiet = i.quiet;
  at_home = i.at_home;
  unready = i.unready;
  decided = i.decided;
}

-- connections of which less is known
pub record IsLess (a b : Connection) : Type 0 where
  pub xid : a.xid ≡ b.xid
  pub begun : a.begun ≡ b.begun
  pub queue : (a.queue ≡ b.queue) ⊎ (a.queue ≡ [])
  pub unread : (a.unread ≡ b.unread) ⊎ ((a.unread ≡ []) × (a.missed ≡ true))
  pub missed : a.missed ≡ false → b.missed ≡ false
  pub kept : a.missed ≡ false → a.queue ≡ b.queue

abbrev pub with_connections : World → (ℕ → Connection) → World
with_connections w g = record w { connection = g }

less_allowed : (f : Topology) (w : World) (g : ℕ → Connection) (c : ℕ) → IsLess (g c) (w.connection c) → (rest : List Request) (r : Request) → IsAllowed f w c rest r → IsAllowed f (with_connections w g) c rest r
less_allowed f w g c l rest (Start y) a = (a.0 ∙ sym l.xid, l.begun ∙ a.1, a.2, a.3)
less_allowed f w g c l rest (Scan fp) a = (l.begun ∙ a.0, λ e. a.1 (ap (λ x. (w.transaction x).asked (f.home c)) (sym l.xid) ∙ e))
less_allowed f w g c l rest (Change fp rows) a = (l.begun ∙ a.0, λ e. a.1 (ap (λ x. (w.transaction x).asked (f.home c)) (sym l.xid) ∙ e))
less_allowed f w g c l rest (End y) a = tt
less_allowed f w g c l rest Recover a = tt
less_allowed f w g c l rest (Prepare y) a = (a.0 ∙ sym l.xid, a.1, a.2, a.3)
less_allowed f w g c l rest (Commit y) a = a
less_allowed f w g c l rest (Rollback y) a = a

pub orderly_less : (f : Topology) (w : World) (g : ℕ → Connection) → ((c : ℕ) → IsLess (g c) (w.connection c)) → IsOrderly f w → IsOrderly f (with_connections w g)
orderly_less f w g l i = record {
  locked = i.locked;
  sent = λ c. ⊎_elim
      (λ (e : (g c).queue ≡ (w.connection c).queue). subst (λ q. AreAllowed f (with_connections w g) c q) (sym e) (allowed_still f w (with_connections w g) c (less_allowed f w g c (l c)) (w.connection c).queue (i.sent c)))
      (λ (e : (g c).queue ≡ []). subst (λ q. AreAllowed f (with_connections w g) c q) (sym e) tt)
      (l c).queue;
  own = λ c y b h k e p. i.own c y b (sym (l c).begun ∙ h) k e p ∙ sym (l c).xid;
  used = i.used;
  using = λ c h. ap (λ x. (w.transaction x).uses c) (l c).xid ∙ i.using c (sym (l c).begun ∙ h);
  blank = i.blank;
  unused = i.unused;
  first = λ c h. let k = i.first c (sym (l c).begun ∙ h) in (ap (λ x. done_on c (w.transaction x).log) (l c).xid ∙ k.0, grind (arith, (l c).unread, k.1));
  quiet = λ c h. let k = i.quiet c (ap (λ x. (w.transaction x).asked (f.home c)) (sym (l c).xid) ∙ h) in grind (arith, (l c).unread, k);
  at_home = i.at_home;
  unready = i.unready;
  decided = i.decided;
}

none_left : (c : Connection) (rs : List Reply) → c.unread ≡ rs → ([] ≡ c.unread) ⊎ ((◌≡◌ {A = List Reply} [] []) × ((c.missed || not (is_empty c)) ≡ true))
none_left c [] e = inl (sym e)
none_left c (r ∷ rs) e = inr (refl, let some : no_replies c.unread ≡ false = ap no_replies e in grind arith)

pub less_broken : (c : Connection) → IsLess (broken c) c
less_broken c = record { xid = refl; begun = refl; queue = inl refl; unread = none_left c c.unread refl; missed = λ h. grind arith; kept = λ h. refl }

pub less_ended : (c : Connection) → IsLess (ended c) c
less_ended c = record { xid = refl; begun = refl; queue = inr refl; unread = none_left c c.unread refl; missed = λ h. grind arith; kept = λ h. sym (none_asked c.queue (grind arith)) }

pub less_dialled : (c : Connection) → IsLess (dialled_now c) c
less_dialled c = record { xid = refl; begun = refl; queue = inl refl; unread = inl refl; missed = λ h. h; kept = λ h. refl }

pub less_same : (c : Connection) → IsLess c c
less_same c = record { xid = refl; begun = refl; queue = inl refl; unread = inl refl; missed = λ h. h; kept = λ h. refl }

-- one connection of which less is known
pub less_at : (w : World) (c : ℕ) (n : Connection) → IsLess n (w.connection c) → (d : ℕ) → IsLess (set w.connection c n d) (w.connection d)
less_at w c n l d = set_cases (λ e (m : Connection). IsLess m (w.connection e)) w.connection c n d l (λ ne. less_same (w.connection d))

pub stops_less : (f : Topology) (w : World) (s c : ℕ) → IsLess ((stops f w s).connection c) (w.connection c)
stops_less f w s c = elim (eqb (f.home c) s) as (λ v. IsLess (cond v (ended (w.connection c)) (w.connection c)) (w.connection c)) [
  | true ↦ less_ended (w.connection c)
  | false ↦ less_same (w.connection c)
]

-- each live transaction is over
abbrev pub ends_all : World → World
ends_all w = record w { transaction = λ x. dead (w.transaction x) }

still_over : (t : Transaction) → is_over t.phase ≡ true → is_over (dead t).phase ≡ true
still_over t h = grind arith

pub not_fresh_then : (p : Phase) → is_fresh (cond (is_undecided p) Over p) ≡ true → is_fresh p ≡ true
not_fresh_then Fresh h = refl
not_fresh_then Live h = cc
not_fresh_then Writing h = cc
not_fresh_then Over h = cc

pub none_undecided_then : (p : Phase) → is_undecided (cond (is_undecided p) Over p) ≡ true → ⊥
none_undecided_then Fresh h = cc
none_undecided_then Live h = cc
none_undecided_then Writing h = cc
none_undecided_then Over h = cc

ends_allowed : (f : Topology) (w : World) (c : ℕ) (rest : List Request) (r : Request) → IsAllowed f w c rest r → IsAllowed f (ends_all w) c rest r
ends_allowed f w c rest (Start y) a = a
ends_allowed f w c rest (Scan fp) a = a
ends_allowed f w c rest (Change fp rows) a = a
ends_allowed f w c rest (End y) a = tt
ends_allowed f w c rest Recover a = tt
ends_allowed f w c rest (Prepare y) a = a
ends_allowed f w c rest (Commit y) a = a
ends_allowed f w c rest (Rollback y) a = (still_over (w.transaction y) a.0, a.1)

pub orderly_ends : (f : Topology) (w : World) → IsOrderly f w → IsOrderly f (ends_all w)
orderly_ends f w i = record {
  locked = i.locked;
  sent = λ c. allowed_still f w (ends_all w) c (ends_allowed f w c) (w.connection c).queue (i.sent c);
  own = i.own;
  used = i.used;
  using = i.using;
  blank = λ x h. i.blank x (not_fresh_then (w.transaction x).phase h);
  unused = i.unused;
  first = i.first;
  quiet = i.quiet;
  at_home = i.at_home;
  unready = i.unready;
  decided = λ x s h. (still_over (w.transaction x) (i.decided x s h).0, (i.decided x s h).1);
}

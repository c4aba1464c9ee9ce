-- It stays so as a request is sent.
use Rattle.std.proofs.Common.{◌≡◌, ◌≢◌, ℕ, Bool, true, false, List, [], ◌∷◌, ◌++◌, Some, None, refl, sym, ap, subst, arith, ◌⊎◌, inl, inr}
use Rattle.std.proofs.lemmas.Bool.Decides.{nat_tests}
use Rattle.commit_protocol.specs.Backend.{Request}
use Rattle.commit_protocol.specs.Backend.Request.{Start, Scan, Change, End, Prepare, Commit, Rollback, Recover}
use Rattle.commit_protocol.specs.Network.{Topology, Connection, is_idle}
use Rattle.commit_protocol.specs.Protocol.{World, may_ask, asks, asking}
use Rattle.protocol_law.proofs.Traffic.{is_settling, all_settling, no_ran, IsAllowed, AreAllowed, IsOrderly, allowed_still, set_cases, none_asked, none_told, is_none_from}
use Rattle.protocol_law.proofs.Frames.{orderly_queue}

settling_more : (q : List Request) (r : Request) → all_settling q ≡ true → is_settling r ≡ true → all_settling (q ++ r ∷ []) ≡ true
settling_more [] r h g = grind arith
settling_more (a ∷ q) r h g = grind (arith, settling_more q r)

-- a request behind which restricted settling ones may come
abbrev pub is_last : Request → Bool
is_last (Start x) = true
is_last (Scan fp) = false
is_last (Change fp rows) = false
is_last (End x) = false
is_last Recover = false
is_last (Prepare x) = true
is_last (Commit x) = false
is_last (Rollback x) = false

still_last : (f : Topology) (w : World) (c : ℕ) (q : List Request) (a r : Request) → IsAllowed f w c q a → (is_settling r ≡ true) ⊎ (is_last a ≡ false) → IsAllowed f w c (q ++ r ∷ []) a
still_last f w c q (Start y) r a (inl g) = (a.0, a.1, a.2, settling_more q r a.3 g)
still_last f w c q (Start y) r a (inr g) = cc
still_last f w c q (Scan fp) r a g = a
still_last f w c q (Change fp rows) r a g = a
still_last f w c q (End y) r a g = tt
still_last f w c q Recover r a g = tt
still_last f w c q (Prepare y) r a (inl g) = (a.0, a.1, a.2, settling_more q r a.3 g)
still_last f w c q (Prepare y) r a (inr g) = cc
still_last f w c q (Commit y) r a g = a
still_last f w c q (Rollback y) r a g = a

pub allowed_push : (f : Topology) (w : World) (c : ℕ) (r : Request) → ((rest : List Request) (a : Request) → IsAllowed f w c rest a → (is_settling r ≡ true) ⊎ (is_last a ≡ false)) → IsAllowed f w c [] r
    → (q : List Request) → AreAllowed f w c q → AreAllowed f w c (q ++ r ∷ [])
allowed_push f w c r h new [] a = (new, tt)
allowed_push f w c r h new (b ∷ q) a = (still_last f w c q b r a.0 (h q b a.0), allowed_push f w c r h new q a.1)

not_last : (f : Topology) (w : World) (c : ℕ) → (w.connection c).begun ≡ true → (w.transaction (w.connection c).xid).asked (f.home c) ≡ None → (rest : List Request) (a : Request) → IsAllowed f w c rest a → is_last a ≡ false
not_last f w c b n rest (Start y) a = cc (a.1, b)
not_last f w c b n rest (Scan fp) a = refl
not_last f w c b n rest (Change fp rows) a = refl
not_last f w c b n rest (End y) a = refl
not_last f w c b n rest Recover a = refl
not_last f w c b n rest (Prepare y) a = let e : (w.transaction (w.connection c).xid).asked (f.home c) ≡ Some c = subst (λ z. (w.transaction z).asked (f.home c) ≡ Some c) a.0 a.1 in cc
not_last f w c b n rest (Commit y) a = refl
not_last f w c b n rest (Rollback y) a = refl

-- the connection on which a server is asked to prepare is noted
abbrev pub notes_asked : Topology → World → ℕ → ℕ → World
notes_asked f w c y = record w { transaction = asking f w c (Prepare y) }

asked_allowed : (f : Topology) (w : World) (c y d : ℕ) → (w.transaction y).asked (f.home c) ≡ None → d ≢ c → (rest : List Request) (r : Request) → IsAllowed f w d rest r → IsAllowed f (notes_asked f w c y) d rest r
asked_allowed f w c y d n ne rest (Start z) a = grind (arith, nat_tests)
asked_allowed f w c y d n ne rest (Scan fp) a = (a.0, λ e. grind (arith, nat_tests))
asked_allowed f w c y d n ne rest (Change fp rows) a = (a.0, λ e. grind (arith, nat_tests))
asked_allowed f w c y d n ne rest (End z) a = tt
asked_allowed f w c y d n ne rest Recover a = tt
asked_allowed f w c y d n ne rest (Prepare z) a = grind (arith, nat_tests)
asked_allowed f w c y d n ne rest (Commit z) a = a
asked_allowed f w c y d n ne rest (Rollback z) a = grind (arith, nat_tests)

pub orderly_asked : (f : Topology) (w : World) (c y : ℕ) → is_idle (w.connection c) ≡ true → (w.transaction y).asked (f.home c) ≡ None → IsOrderly f w → IsOrderly f (notes_asked f w c y)
orderly_asked f w c y idle n i =
    let asked : (w.connection c).queue ≡ [] = none_asked (w.connection c).queue (grind arith) in
    let silent : (w.connection c).unread ≡ [] = none_told (w.connection c).unread (grind arith) in
    record {
      locked = i.locked;
      sent = λ d. set_cases (λ e (ch : Connection). AreAllowed f (notes_asked f w c y) e (w.connection e).queue) w.connection c (w.connection c) d
          (subst (λ q. AreAllowed f (notes_asked f w c y) c q) (sym asked) tt)
          (λ ne. allowed_still f w (notes_asked f w c y) d (asked_allowed f w c y d n ne) (w.connection d).queue (i.sent d));
      own = i.own;
      used = λ s z b h. grind (arith, nat_tests, i.used s z b h);
      using = λ d h. grind (arith, nat_tests, i.using d h);
      blank = λ z h. grind (arith, nat_tests, i.blank z);
      unused = λ z d h. grind (arith, nat_tests, i.unused z d);
      first = λ d h. grind (arith, nat_tests, i.first d h);
      quiet = λ d h. grind (arith, nat_tests, i.quiet d, ap no_ran silent);
      at_home = λ z s d h. grind (arith, nat_tests, i.at_home z s d);
      unready = λ z s h. grind (arith, nat_tests, i.unready z s);
      decided = λ z s h. grind (arith, nat_tests, i.decided z s h);
    }

pub orderly_sends : (f : Topology) (w : World) (c : ℕ) (r : Request) → may_ask f w c r ≡ true → IsOrderly f w → IsOrderly f (asks f w c r)
orderly_sends f w c (Start y) m i =
    let asked : (w.connection c).queue ≡ [] = none_asked (w.connection c).queue (grind arith) in
    orderly_queue f w c _ (rw asked ((grind (arith, nat_tests), grind (arith, nat_tests), grind (arith, nat_tests), refl), tt)) i
orderly_sends f w c (Scan fp) m i =
    let n : (w.transaction (w.connection c).xid).asked (f.home c) ≡ None = is_none_from _ (grind arith) in
    let b : (w.connection c).begun ≡ true = grind arith in
    orderly_queue f w c _ (allowed_push f w c (Scan fp) (λ rest a h. inr (not_last f w c b n rest a h)) (b, λ e. cc) (w.connection c).queue (i.sent c)) i
orderly_sends f w c (Change fp rows) m i =
    let n : (w.transaction (w.connection c).xid).asked (f.home c) ≡ None = is_none_from _ (grind arith) in
    let b : (w.connection c).begun ≡ true = grind arith in
    orderly_queue f w c _ (allowed_push f w c (Change fp rows) (λ rest a h. inr (not_last f w c b n rest a h)) (b, λ e. cc) (w.connection c).queue (i.sent c)) i
orderly_sends f w c (End y) m i =
    let asked : (w.connection c).queue ≡ [] = none_asked (w.connection c).queue (grind arith) in
    orderly_queue f w c _ (rw asked (tt, tt)) i
orderly_sends f w c Recover m i = orderly_queue f w c _ (allowed_push f w c Recover (λ rest a h. inl refl) tt (w.connection c).queue (i.sent c)) i
orderly_sends f w c (Prepare y) m i =
    let asked : (w.connection c).queue ≡ [] = none_asked (w.connection c).queue (grind arith) in
    let n : (w.transaction y).asked (f.home c) ≡ None = is_none_from _ (grind arith) in
    orderly_queue f (notes_asked f w c y) c _ (rw asked ((grind (arith, nat_tests), grind (arith, nat_tests), grind (arith, nat_tests, i.unready y (f.home c) n), refl), tt)) (orderly_asked f w c y (grind arith) n i)
orderly_sends f w c (Commit y) m i = orderly_queue f w c _ (allowed_push f w c (Commit y) (λ rest a h. inl refl) (grind arith) (w.connection c).queue (i.sent c)) i
orderly_sends f w c (Rollback y) m i = orderly_queue f w c _ (allowed_push f w c (Rollback y) (λ rest a h. inl refl) (grind arith) (w.connection c).queue (i.sent c)) i

-- What went to a link in its present epoch went by the transaction's present connection, and by the one that was asked to prepare.
use Rattle.std.proofs.Common.{◌≡◌, ℕ, Bool, true, false, cond, ◌&&◌, ◌+◌, eqb, leb, List, [], ◌∷◌, Option, Some, None, refl, sym, ap, ◌∙◌, subst, arith, ◌⊎◌, inl, inr, ⊎_elim, eqb-true}
use Rattle.std.proofs.lemmas.Bool.Decides.{nat_tests}
use Rattle.std.proofs.lemmas.Bool.{cases_Bool}
use Rattle.commit_protocol.specs.Backend.{Request, effect}
use Rattle.commit_protocol.specs.Backend.Request.{Start, Scan, Change, End, Prepare, Commit, Rollback, Recover}
use Rattle.commit_protocol.specs.Network.{set, Topology, Reply, dialled_now}
use Rattle.commit_protocol.specs.Protocol.{World, Transaction, Decision, Move, has_member, is_fresh, is_live, may_ask, may_use, may_decide, asks, delivers, refuses, left_of, faults, reads, recorded, new_boot, writes, with_phase, with_connection, uses_connection, sees_hangup, happens}
use Rattle.commit_protocol.specs.Protocol.Phase.{Live, Over}
use Rattle.commit_protocol.specs.Protocol.Move.{Draws, Dials, Uses, Sends, Delivers, Refuses, Faults, Reads, Breaks, Hangup_seen, Writes, Recorded, Gives_up, Stops, Front_stops, Reopens}
use Rattle.commit_protocol.specs.Links.{Placement, Link, is_ok}
use Rattle.commit_protocol.specs.Notes.{Went, went_to, went_in, was_sent, all_sent, IsAmong}
use Rattle.commit_protocol.specs.Replicas.{protects, one_protects, all_past}
use Rattle.protocol_law.proofs.Traffic.{set_cases, guarded, unless}
use Rattle.protocol_law.proofs.Serving.{served_rest}

-- ---- the invariant of one transaction

-- epoch is the link's; line and asked are the transaction's, by server
pub record IsPresent (p : Placement) (epoch : ℕ) (line asked : ℕ → Option ℕ) (g : Went) : Type 0 where
  pub past : leb g.epoch epoch ≡ true
  pub on_line : g.epoch ≡ epoch → line (p.link_server g.link) ≡ Some g.connection
  pub asked_on : g.epoch ≡ epoch → (c : ℕ) → asked (p.link_server g.link) ≡ Some c → c ≡ g.connection

abbrev pub ArePresent : Placement → (ℕ → Link) → (ℕ → Option ℕ) → (ℕ → Option ℕ) → List Went → Type 0
ArePresent p link line asked [] = Unit {0}
ArePresent p link line asked (g ∷ gs) = IsPresent p (link g.link).epoch line asked g × ArePresent p link line asked gs

-- other servers asked, or the connection in use
present_asked : (p : Placement) (link : ℕ → Link) (line asked new : ℕ → Option ℕ) (gs : List Went)
    → ((g : Went) → IsPresent p (link g.link).epoch line asked g → g.epoch ≡ (link g.link).epoch → (c : ℕ) → new (p.link_server g.link) ≡ Some c → c ≡ g.connection) → ArePresent p link line asked gs → ArePresent p link line new gs
present_asked p link line asked new [] h i = tt
present_asked p link line asked new (g ∷ gs) h i = (record { past = i.0.past; on_line = i.0.on_line; asked_on = h g i.0 }, present_asked p link line asked new gs h i.1)

pub present_same : (p : Placement) (link : ℕ → Link) (line asked new : ℕ → Option ℕ) (gs : List Went) → ((s : ℕ) → new s ≡ asked s) → ArePresent p link line asked gs → ArePresent p link line new gs
present_same p link line asked new gs same i = present_asked p link line asked new gs (λ g j e c h. j.asked_on e c (sym (same (p.link_server g.link)) ∙ h)) i

-- PREPARE goes out on the present connection
pub present_prepares : (p : Placement) (link : ℕ → Link) (line asked : ℕ → Option ℕ) (s c : ℕ) (gs : List Went) → line s ≡ Some c → ArePresent p link line asked gs → ArePresent p link line (set asked s (Some c)) gs
present_prepares p link line asked s c gs here i = present_asked p link line asked (set asked s (Some c)) gs (λ g j e d h. now g j e d h (cases_Bool (eqb (p.link_server g.link) s))) i
  where
    now : (g : Went) → IsPresent p (link g.link).epoch line asked g → g.epoch ≡ (link g.link).epoch → (d : ℕ) → set asked s (Some c) (p.link_server g.link) ≡ Some d → (eqb (p.link_server g.link) s ≡ true) ⊎ (eqb (p.link_server g.link) s ≡ false) → d ≡ g.connection
    now g j e d h (inl q) =
        let there : line s ≡ Some g.connection = ap line (sym (eqb-true _ _ q)) ∙ j.on_line e in
        let one : ◌≡◌ {A = Option ℕ} (Some c) (Some d) = sym (ap (λ b. cond b (Some c) (asked (p.link_server g.link))) q) ∙ h in
        let two : ◌≡◌ {A = Option ℕ} (Some c) (Some g.connection) = sym here ∙ there in
        cc (one, two)
    now g j e d h (inr q) = j.asked_on e d (sym (ap (λ b. cond b (Some c) (asked (p.link_server g.link))) q) ∙ h)

-- another connection is taken into use: what went to the server went in epochs that are past
pub present_opens : (p : Placement) (link : ℕ → Link) (line asked : ℕ → Option ℕ) (s c : ℕ) (gs : List Went) → all_past p link s gs ≡ true → ArePresent p link line asked gs → ArePresent p link (set line s (Some c)) asked gs
present_opens p link line asked s c [] a i = tt
present_opens p link line asked s c (g ∷ gs) a i = (
  record { past = i.0.past; on_line = λ e. grind (arith, nat_tests, i.0.on_line e); asked_on = i.0.asked_on },
  present_opens p link line asked s c gs (grind arith) i.1,
)

-- something goes to a link now
pub present_sends : (p : Placement) (link : ℕ → Link) (line asked : ℕ → Option ℕ) (l c : ℕ) (gs : List Went) → line (p.link_server l) ≡ Some c → asked (p.link_server l) ≡ None → ArePresent p link line asked gs
    → ArePresent p link line asked (record { link = l; connection = c; epoch = (link l).epoch } ∷ gs)
present_sends p link line asked l c gs here none i = (record { past = grind (arith, nat_tests); on_line = λ e. here; asked_on = λ e d h. cc (none, h) }, i)

-- a link's epoch stays, or rises
later : (p : Placement) (e e' : ℕ) (line asked : ℕ → Option ℕ) (g : Went) → (e' ≡ e) ⊎ (e' ≡ e + 1) → IsPresent p e line asked g → IsPresent p e' line asked g
later p e e' line asked g (inl q) i = subst (λ n. IsPresent p n line asked g) (sym q) i
later p e e' line asked g (inr q) i = record { past = grind (arith, nat_tests, i.past); on_line = λ h. absurd (above h); asked_on = λ h. absurd (above h) }
  where
    above : g.epoch ≡ e' → ⊥
    above h = grind (arith, nat_tests, i.past)

pub present_link : (p : Placement) (link : ℕ → Link) (line asked : ℕ → Option ℕ) (l : ℕ) (n : Link) (gs : List Went) → (n.epoch ≡ (link l).epoch) ⊎ (n.epoch ≡ (link l).epoch + 1) → ArePresent p link line asked gs → ArePresent p (set link l n) line asked gs
present_link p link line asked l n [] e i = tt
present_link p link line asked l n (g ∷ gs) e i = (
  later p (link g.link).epoch (set link l n g.link).epoch line asked g (set_cases (λ j (m : Link). (m.epoch ≡ (link j).epoch) ⊎ (m.epoch ≡ (link j).epoch + 1)) link l n g.link e (λ ne. inl refl)) i.0,
  present_link p link line asked l n gs e i.1,
)

-- ---- which connection it was

-- what was sent in the link's present epoch went on the connection that was asked to prepare
sent_there : (p : Placement) (link : ℕ → Link) (line asked : ℕ → Option ℕ) (g : Went) (hs : List Went) (c : ℕ) → was_sent g hs ≡ true → g.epoch ≡ (link g.link).epoch → asked (p.link_server g.link) ≡ Some c → ArePresent p link line asked hs → c ≡ g.connection
sent_there p link line asked g [] c w e a i = cc
sent_there p link line asked g (h ∷ hs) c w e a i = ⊎_elim
    (λ (t : (eqb g.link h.link && (eqb g.connection h.connection && leb g.epoch h.epoch)) ≡ true). here t)
    (λ (t : (eqb g.link h.link && (eqb g.connection h.connection && leb g.epoch h.epoch)) ≡ false). sent_there p link line asked g hs c (grind arith) e a i.1)
    (cases_Bool (eqb g.link h.link && (eqb g.connection h.connection && leb g.epoch h.epoch)))
  where
    here : (eqb g.link h.link && (eqb g.connection h.connection && leb g.epoch h.epoch)) ≡ true → c ≡ g.connection
    here t =
        let same : g.link ≡ h.link = grind (arith, nat_tests) in
        let line : g.connection ≡ h.connection = grind (arith, nat_tests) in
        let epoch : (link g.link).epoch ≡ (link h.link).epoch = ap (λ z. (link z).epoch) same in
        let equal : h.epoch ≡ (link h.link).epoch = grind (arith, nat_tests, i.0.past) in
        i.0.asked_on equal c (ap (λ z. asked (p.link_server z)) (sym same) ∙ a) ∙ sym line

pub present_went : (p : Placement) (link : ℕ → Link) (line asked : ℕ → Option ℕ) (l c : ℕ) (gs hs : List Went) → went_in l (link l).epoch gs ≡ true → all_sent gs hs ≡ true → asked (p.link_server l) ≡ Some c → ArePresent p link line asked hs → went_to l c gs ≡ true
present_went p link line asked l c [] hs w s a i = cc
present_went p link line asked l c (g ∷ gs) hs w s a i = ⊎_elim
    (λ (t : (eqb g.link l && eqb g.epoch (link l).epoch) ≡ true).
    let same : g.link ≡ l = grind (arith, nat_tests) in
    let now : g.epoch ≡ (link g.link).epoch = grind (arith, nat_tests) ∙ ap (λ z. (link z).epoch) (sym same) in
    let one : c ≡ g.connection = sent_there p link line asked g hs c (grind arith) now (ap (λ z. asked (p.link_server z)) same ∙ a) i in
    grind (arith, nat_tests, one, same))
    (λ (t : (eqb g.link l && eqb g.epoch (link l).epoch) ≡ false).
    let rest : went_to l c gs ≡ true = present_went p link line asked l c gs hs (grind arith) (grind arith) a i in
    grind (arith, rest))
    (cases_Bool (eqb g.link l && eqb g.epoch (link l).epoch))

-- a link that protects a read did so on the connection that was asked to prepare
pub present_protects : (f : Topology) (p : Placement) (link : ℕ → Link) (ms : List ℕ) (q : ℕ) (gs : List Went) → one_protects f p link ms q gs ≡ true
    → (l : ℕ) × (is_ok (link l).status ≡ true) × (p.link_partition l ≡ q) × (has_member f (p.link_server l) ms ≡ true) × (went_in l (link l).epoch gs ≡ true)
present_protects f p link ms q [] h = cc
present_protects f p link ms q (g ∷ gs) h = ⊎_elim
    (λ (t : protects f p link ms q g ≡ true). (g.link, grind arith, grind (arith, nat_tests), grind arith, grind (arith, nat_tests)))
    (λ (t : protects f p link ms q g ≡ false). let k = present_protects f p link ms q gs (grind arith) in (k.0, k.1, k.2, k.3, grind (arith, k.4)))
    (cases_Bool (protects f p link ms q g))

-- ---- which servers were asked

abbrev pub asks_prepare : Move → Bool
asks_prepare (Draws x) = false
asks_prepare (Dials c) = false
asks_prepare (Uses c x) = false
asks_prepare (Sends c r) = is_prepare r
  where
    is_prepare : Request → Bool
    is_prepare (Start x) = false
    is_prepare (Scan fp) = false
    is_prepare (Change fp rows) = false
    is_prepare (End x) = false
    is_prepare Recover = false
    is_prepare (Prepare x) = true
    is_prepare (Commit x) = false
    is_prepare (Rollback x) = false
asks_prepare (Delivers c) = false
asks_prepare (Refuses c) = false
asks_prepare (Faults c found) = false
asks_prepare (Reads c) = false
asks_prepare (Breaks c) = false
asks_prepare (Hangup_seen c) = false
asks_prepare (Writes x ms) = false
asks_prepare Recorded = false
asks_prepare (Gives_up x) = false
asks_prepare (Stops s) = false
asks_prepare Front_stops = false
asks_prepare (Reopens found) = false

-- no server is asked more than was
abbrev pub SameAsked : World → World → Type 0
SameAsked w v = (x s : ℕ) → (v.transaction x).asked s ≡ (w.transaction x).asked s

asked_at : (w : World) (y : ℕ) (t : Transaction) → t.asked ≡ (w.transaction y).asked → (x s : ℕ) → (set w.transaction y t x).asked s ≡ (w.transaction x).asked s
asked_at w y t e x s = set_cases (λ z (u : Transaction). u.asked s ≡ (w.transaction z).asked s) w.transaction y t x (ap (λ (h : ℕ → Option ℕ). h s) e) (λ ne. refl)

asked_recorded : (w : World) (p : Option Decision) → SameAsked w (recorded w p)
asked_recorded w None x s = refl
asked_recorded w (Some d) x s = asked_at w d.number _ refl x s

pub same_asked : (f : Topology) (w : World) (m : Move) → asks_prepare m ≡ false → SameAsked w (happens f w m)
same_asked f w (Draws y) h = guarded (SameAsked w) (is_fresh (w.transaction y).phase) (with_phase w y Live) w (λ x s. refl) (λ t. asked_at w y _ refl)
same_asked f w (Dials c) h = unless (SameAsked w) (w.connection c).dialled (with_connection w c (dialled_now (w.connection c))) w (λ x s. refl) (λ t x s. refl)
same_asked f w (Uses c y) h = guarded (SameAsked w) (may_use w c y) (uses_connection w c y) w (λ x s. refl) (λ t. asked_at w y _ refl)
same_asked f w (Sends c (Start y)) h = guarded (SameAsked w) (may_ask f w c (Start y)) (asks f w c (Start y)) w (λ x s. refl) (λ t x s. refl)
same_asked f w (Sends c (Scan fp)) h = guarded (SameAsked w) (may_ask f w c (Scan fp)) (asks f w c (Scan fp)) w (λ x s. refl) (λ t x s. refl)
same_asked f w (Sends c (Change fp rows)) h = guarded (SameAsked w) (may_ask f w c (Change fp rows)) (asks f w c (Change fp rows)) w (λ x s. refl) (λ t x s. refl)
same_asked f w (Sends c (End y)) h = guarded (SameAsked w) (may_ask f w c (End y)) (asks f w c (End y)) w (λ x s. refl) (λ t x s. refl)
same_asked f w (Sends c Recover) h = guarded (SameAsked w) (may_ask f w c Recover) (asks f w c Recover) w (λ x s. refl) (λ t x s. refl)
same_asked f w (Sends c (Prepare y)) h = cc
same_asked f w (Sends c (Commit y)) h = guarded (SameAsked w) (may_ask f w c (Commit y)) (asks f w c (Commit y)) w (λ x s. refl) (λ t x s. refl)
same_asked f w (Sends c (Rollback y)) h = guarded (SameAsked w) (may_ask f w c (Rollback y)) (asks f w c (Rollback y)) w (λ x s. refl) (λ t x s. refl)
same_asked f w (Delivers c) h = go (w.connection c).queue
  where
    go : (q : List Request) → SameAsked w (delivers f w c q)
    go [] = λ x s. refl
    go (r ∷ q) = λ x s. ap (λ (h : ℕ → Option ℕ). h s) (served_rest f w c (effect (w.server (f.home c)) c r) x).2
same_asked f w (Refuses c) h = go (w.connection c).queue
  where
    go : (q : List Request) → SameAsked w (refuses f w c q)
    go [] = λ x s. refl
    go (r ∷ q) = λ x s. refl
same_asked f w (Faults c found) h = go (w.connection c).queue
  where
    go : (q : List Request) → SameAsked w (faults f w c found q)
    go [] = λ x s. refl
    go (r ∷ q) = λ x s. ap (λ (h : ℕ → Option ℕ). h s) (served_rest f w c (left_of found (effect (w.server (f.home c)) c r)) x).2
same_asked f w (Reads c) h = go (w.connection c).unread
  where
    go : (q : List Reply) → SameAsked w (reads w c q)
    go [] = λ x s. refl
    go (r ∷ q) = asked_at w (w.connection c).xid _ refl
same_asked f w (Breaks c) h = λ x s. refl
same_asked f w (Hangup_seen c) h = unless (SameAsked w) (w.connection c).stands (sees_hangup f w c) w (λ x s. refl) (λ t x s. refl)
same_asked f w (Writes y ms) h = guarded (SameAsked w) (may_decide f w y ms) (writes w y ms) w (λ x s. refl) (λ t. asked_at w y _ refl)
same_asked f w Recorded h = asked_recorded w w.pending
same_asked f w (Gives_up y) h = guarded (SameAsked w) (is_live (w.transaction y).phase) (with_phase w y Over) w (λ x s. refl) (λ t. asked_at w y _ refl)
same_asked f w (Stops t) h = λ x s. refl
same_asked f w Front_stops h = λ x s. refl
same_asked f w (Reopens found) h = either found
  where
    either : (b : Bool) → SameAsked w (new_boot (cond b (recorded w w.pending) w))
    either true = asked_recorded w w.pending
    either false = λ x s. refl

-- ---- the law

pub names_connection : (p : Placement) (link : ℕ → Link) (line asked : ℕ → Option ℕ) (gs : List Went) (g : Went) (c : ℕ) → ArePresent p link line asked gs → IsAmong g gs → g.epoch ≡ (link g.link).epoch → asked (p.link_server g.link) ≡ Some c → g.connection ≡ c
names_connection p link line asked [] g c i a e h = absurd a
names_connection p link line asked (n ∷ gs) g c i (inl q) e h = let here : IsPresent p (link g.link).epoch line asked g = subst (λ (z : Went). IsPresent p (link z.link).epoch line asked z) q i.0 in sym (here.asked_on e c h)
names_connection p link line asked (n ∷ gs) g c i (inr a) e h = names_connection p link line asked gs g c i.1 a e h

-- Each link that counts has the plain tables' rows, and the decided transactions are a run of the plain tables: what a decision has to
-- show, for statements and for a copy's batch.
use Rattle.std.proofs.Common.{◌≡◌, ◌≢◌, ℕ, Bool, true, false, cond, ◌&&◌, ◌||◌, eqb, leb, List, [], ◌∷◌, Option, Some, None, refl, sym, ap, ◌∙◌, subst, arith, ◌⊎◌, inl, inr, ⊎_elim, eqb-true}
use Rattle.std.proofs.lemmas.Bool.Decides.{nat_tests}
use Rattle.std.proofs.lemmas.Bool.{cases_Bool, cases_eq}
use Rattle.commit_protocol.specs.Rows.{Interval, Operation, Table, is_within, is_in_one, after, AreRight}
use Rattle.commit_protocol.specs.Network.{Topology}
use Rattle.commit_protocol.specs.Protocol.{Transaction, Decision, has_member, is_member, are_ready}
use Rattle.commit_protocol.specs.Views.{done_on, done_at, decided_rows}
use Rattle.commit_protocol.specs.Links.{Plain, Placement, Link, Status, Cursor, Mark, at_link, lies, is_ok, is_recovery, is_ng, reaches_key, is_below, is_copied, comes_to, has_by}
use Rattle.commit_protocol.specs.Notes.{Went, Note, seen_in, plain_after, plain, IsPlainRun, IsPlainSerial, went_to, went_in, notes_sent, Follows, ReadsFollow, IsTold}
use Rattle.commit_protocol.specs.Copies.{CopyBatch, EndsAt, is_put, puts_onto, copy_notes, batch_notes, batch_mark}
use Rattle.commit_protocol.specs.Replicas.{AreWritten, protects, are_protected}
use Rattle.commit_protocol.specs.Notes.Note.{Read, Write}
use Rattle.commit_protocol.specs.Links.Status.{OK, RECOVERY, NG}
use Rattle.commit_protocol.specs.Links.Cursor.{Nothing, Up_to, All}
use Rattle.protocol_law.proofs.Serial.{member_of, none_at}
use Rattle.replica_law.proofs.Present.{ArePresent, present_went, present_protects}
use Rattle.replica_law.proofs.Notes.{AllWent, NoneWent, NoneOf, same_plain, of_went, none_of_after, follows_after, follows_none, found_there}

-- ---- what holds of links, marks, history and book

-- fresh: no batch is marked with an epoch that is still to come
pub record Holds (f : Topology) (p : Placement) (link : ℕ → Link) (marks : List Mark) (history : List Decision) (book : List (List Note)) : Type 0 where
  pub good : (l k : ℕ) → has_by marks l (link l) (link l).status k ≡ true → p.key_partition k ≡ p.link_partition l → decided_rows f (p.link_server l) history (at_link l k) ≡ plain p book k
  pub serial : IsPlainSerial p book
  pub fresh : (l e k : ℕ) → leb e (link l).epoch ≡ false → is_copied marks l e k ≡ false

pub ok_has : (ms : List Mark) (l : ℕ) (n : Link) (s : Status) (k : ℕ) → is_ok s ≡ true → has_by ms l n s k ≡ true
ok_has ms l n OK k h = refl
ok_has ms l n RECOVERY k h = cc
ok_has ms l n NG k h = cc

pub recovery_has : (ms : List Mark) (l : ℕ) (n : Link) (s : Status) (k : ℕ) → is_recovery s ≡ true → has_by ms l n s k ≡ is_copied ms l n.epoch k
recovery_has ms l n OK k h = cc
recovery_has ms l n RECOVERY k h = refl
recovery_has ms l n NG k h = cc

has_not_ng : (ms : List Mark) (l : ℕ) (n : Link) (s : Status) (k : ℕ) → has_by ms l n s k ≡ true → is_ng s ≡ false
has_not_ng ms l n OK k h = refl
has_not_ng ms l n RECOVERY k h = refl
has_not_ng ms l n NG k h = cc

ok_not_ng : (s : Status) → is_ok s ≡ true → is_ng s ≡ false
ok_not_ng OK h = refl
ok_not_ng RECOVERY h = cc
ok_not_ng NG h = cc

-- ---- the writes of a transaction that may be decided

all_went : (f : Topology) (p : Placement) (link : ℕ → Link) (ms : List ℕ) (line asked : ℕ → Option ℕ) (l c : ℕ) (hs : List Went) (notes : List Note) → AreWritten f p link ms notes → notes_sent notes hs ≡ true → ArePresent p link line asked hs
    → is_ng (link l).status ≡ false → asked (p.link_server l) ≡ Some c → AllWent p l c notes
all_went f p link ms line asked l c hs [] w s i n a = tt
all_went f p link ms line asked l c hs (Read q keys look found links ∷ older) w s i n a = all_went f p link ms line asked l c hs older w (grind arith) i n a
all_went f p link ms line asked l c hs (Write q keys rows links ∷ older) w s i n a = (
  (λ e. present_went p link line asked l c links hs (w.1 l e n).0 (grind arith) a i),
  (λ t. of_went p l c q links w.0 t),
  all_went f p link ms line asked l c hs older w.2 (grind arith) i n a,
)

none_of : (f : Topology) (p : Placement) (link : ℕ → Link) (ms : List ℕ) (l : ℕ) (notes : List Note) → AreWritten f p link ms notes → is_ng (link l).status ≡ false → has_member f (p.link_server l) ms ≡ false → NoneOf p l notes
none_of f p link ms l [] w n m = tt
none_of f p link ms l (Read q keys look found links ∷ older) w n m = none_of f p link ms l older w n m
none_of f p link ms l (Write q keys rows links ∷ older) w n m = ((λ e. let yes : has_member f (p.link_server l) ms ≡ true = (w.1 l e n).1 in cc (yes, m)), none_of f p link ms l older w.2 n m)

-- ---- its reads

-- what was done at an OK link on a member's connection, with the reads of these notes among it
pub record DoneThere (f : Topology) (p : Placement) (table : ℕ → Table) (asked : ℕ → Option ℕ) (l : ℕ) (notes : List Note) : Type 0 where
  pub on : ℕ
  pub asked_on : asked (p.link_server l) ≡ Some on
  pub ops : List Operation
  pub right : AreRight (table l) ops
  pub reads : ReadsFollow p l on notes ops

plain_run : (f : Topology) (p : Placement) (link : ℕ → Link) (ms : List ℕ) (line asked : ℕ → Option ℕ) (hs : List Went) (u : Plain) (table : ℕ → Table) (notes : List Note)
    → ((l k : ℕ) → is_ok (link l).status ≡ true → p.key_partition k ≡ p.link_partition l → table l (at_link l k) ≡ u k)
    → ((l : ℕ) → is_ok (link l).status ≡ true → has_member f (p.link_server l) ms ≡ true → DoneThere f p table asked l notes)
    → ArePresent p link line asked hs → AreWritten f p link ms notes → notes_sent notes hs ≡ true → are_protected f p link ms notes ≡ true → IsPlainRun p u notes
plain_run f p link ms line asked hs u table [] good there i w s r = tt
plain_run f p link ms line asked hs u table (Write q keys rows links ∷ older) good there i w s r =
    plain_run f p link ms line asked hs u table older good (λ l ok m. let d = there l ok m in record { on = d.on; asked_on = d.asked_on; ops = d.ops; right = d.right; reads = d.reads }) i w.2 (grind arith) r
plain_run f p link ms line asked hs u table (Read q keys look found links ∷ older) good there i w s r =
    let g = present_protects f p link ms q links (grind arith) in
    (one g.0 g.1 g.2 g.4 (there g.0 g.1 g.3), plain_run f p link ms line asked hs u table older good (λ l ok m. let d = there l ok m in record { on = d.on; asked_on = d.asked_on; ops = d.ops; right = d.right; reads = d.reads.1 }) i w (grind arith) (grind arith))
  where
    same : (l : ℕ) → is_ok (link l).status ≡ true → p.link_partition l ≡ q → (c : ℕ) → asked (p.link_server l) ≡ Some c → (ops : List Operation) → Follows p l c older ops → (n : ℕ) (v : Bool) → lies p q keys n ≡ v
        → cond (lies p q keys n) (after (table l) ops (at_link l n)) None ≡ cond (lies p q keys n) (plain_after p u older n) None
    same l ok of c a ops b n true e =
        let placed : p.key_partition n ≡ p.link_partition l = eqb-true (p.key_partition n) q (grind arith) ∙ sym of in
        ap (λ z. cond (lies p q keys n) z None) (follows_after p l c (table l) u older ops n b (all_went f p link ms line asked l c hs older w (grind arith) i (ok_not_ng _ ok) a) placed (good l n ok placed))
    same l ok of c a ops b n false e = ap (λ v. cond v (after (table l) ops (at_link l n)) None) e ∙ sym (ap (λ v. cond v (plain_after p u older n) None) e)

    one : (l : ℕ) → is_ok (link l).status ≡ true → p.link_partition l ≡ q → went_in l (link l).epoch links ≡ true → DoneThere f p table asked l (Read q keys look found links ∷ older) → found ≡ look (seen_in p q keys (plain_after p u older))
    one l ok of went d =
        let here : went_to l d.on links ≡ true = present_went p link line asked l d.on links hs went (grind arith) d.asked_on i in
        let k = found_there p l d.on (table l) q keys look found older d.ops (d.reads.0 here) d.right in
        k.is ∙ ap look (same_plain _ _ (λ n. same l ok of d.on d.asked_on k.older k.follows n (lies p q keys n) refl))

-- ---- what a decision shows

-- what is known of a transaction whose members are ready, as its record is written
pub record Standing (f : Topology) (p : Placement) (link : ℕ → Link) (line : ℕ → Option ℕ) (t : Transaction) (hs : List Went) (history : List Decision) (d : Decision) (notes : List Note) : Type 0 where
  pub ready : are_ready f t d.members ≡ true
  pub present : ArePresent p link line t.asked hs
  pub right : (s : ℕ) → AreRight (decided_rows f s history) (done_at f s d.members d.log)
  pub sent : notes_sent notes hs ≡ true
  pub told : (l c : ℕ) → is_member c d.members ≡ true → f.home c ≡ p.link_server l → IsTold p l c notes (done_on c d.log)

-- what it did at a link on a member
pub there : (f : Topology) (p : Placement) (link : ℕ → Link) (line : ℕ → Option ℕ) (t : Transaction) (hs : List Went) (history : List Decision) (d : Decision) (notes : List Note) → Standing f p link line t hs history d notes
    → (l : ℕ) → has_member f (p.link_server l) d.members ≡ true → (c : ℕ) × (t.asked (p.link_server l) ≡ Some c) × (done_at f (p.link_server l) d.members d.log ≡ done_on c d.log) × IsTold p l c notes (done_on c d.log) × AreRight (decided_rows f (p.link_server l) history) (done_on c d.log)
there f p link line t hs history d notes i l m =
    let c = member_of f t d.members (p.link_server l) d.log i.ready m in
    (c.0, c.2, c.3, i.told l c.0 c.4 c.1, subst (λ z. AreRight (decided_rows f (p.link_server l) history) z) c.3 (i.right (p.link_server l)))

pub statements_hold : (f : Topology) (p : Placement) (link : ℕ → Link) (line : ℕ → Option ℕ) (t : Transaction) (hs : List Went) (history : List Decision) (d : Decision) (notes : List Note) (marks : List Mark) (book : List (List Note)) → Standing f p link line t hs history d notes
    → AreWritten f p link d.members notes → are_protected f p link d.members notes ≡ true → Holds f p link marks history book → Holds f p link marks (d ∷ history) (notes ∷ book)
statements_hold f p link line t hs history d notes marks book i writes reads h = record { good = good; serial = (run, h.serial); fresh = h.fresh }
  where
    good : (l k : ℕ) → has_by marks l (link l) (link l).status k ≡ true → p.key_partition k ≡ p.link_partition l → after (decided_rows f (p.link_server l) history) (done_at f (p.link_server l) d.members d.log) (at_link l k) ≡ plain_after p (plain p book) notes k
    good l k has e = ⊎_elim
        (λ (m : has_member f (p.link_server l) d.members ≡ true).
        let c = there f p link line t hs history d notes i l m in
        ap (λ z. after (decided_rows f (p.link_server l) history) z (at_link l k)) c.2
        ∙ follows_after p l c.0 (decided_rows f (p.link_server l) history) (plain p book) notes (done_on c.0 d.log) k c.3.changes
        (all_went f p link d.members line t.asked l c.0 hs notes writes i.sent i.present (has_not_ng marks l (link l) _ k has) c.1) e (h.good l k has e))
        (λ (m : has_member f (p.link_server l) d.members ≡ false).
        ap (λ z. after (decided_rows f (p.link_server l) history) z (at_link l k)) (none_at f d.members (p.link_server l) d.log m)
        ∙ h.good l k has e ∙ sym (none_of_after p l (plain p book) notes k (none_of f p link d.members l notes writes (has_not_ng marks l (link l) _ k has) m) e))
        (cases_Bool (has_member f (p.link_server l) d.members))

    run : IsPlainRun p (plain p book) notes
    run = plain_run f p link d.members line t.asked hs (plain p book) (λ l. decided_rows f (p.link_server l) history) notes
        (λ l k ok e. h.good l k (ok_has marks l (link l) _ k ok) e)
        (λ l ok m. let c = there f p link line t hs history d notes i l m in record { on = c.0; asked_on = c.1; ops = done_on c.0 d.log; right = c.4; reads = c.3.reads })
        i.present writes i.sent reads

-- ---- copies

below_reaches : (u : Cursor) (from k : ℕ) → is_below from u ≡ true → leb from k ≡ false → reaches_key u k ≡ true
below_reaches Nothing from k b h = cc
below_reaches (Up_to c) from k b h = grind (arith, nat_tests)
below_reaches All from k b h = refl

-- the keys below a batch's first were copied by earlier ones
comes_copied : (ms : List Mark) (l e from k : ℕ) → comes_to ms l e from ≡ true → leb from k ≡ false → is_copied ms l e k ≡ true
comes_copied [] l e from k c h = cc
comes_copied (m ∷ ms) l e from k c h = ⊎_elim
    (λ (t : (eqb m.link l && (eqb m.epoch e && is_below from m.upto)) ≡ true). let r : reaches_key m.upto k ≡ true = below_reaches m.upto from k (grind arith) h in grind (arith, r))
    (λ (t : (eqb m.link l && (eqb m.epoch e && is_below from m.upto)) ≡ false). let r : is_copied ms l e k ≡ true = comes_copied ms l e from k (grind arith) h in grind (arith, r))
    (cases_Bool (eqb m.link l && (eqb m.epoch e && is_below from m.upto)))

ends_at : (p : Placement) (b : CopyBatch) (u : Cursor) (k : ℕ) → EndsAt p b u → reaches_key u k ≡ true → p.key_partition k ≡ p.link_partition b.target.link → leb k b.keys.to ≡ true
ends_at p b Nothing k e r h = cc
ends_at p b (Up_to c) k e r h = ap (leb k) (sym e) ∙ r
ends_at p b All k e r h = e k h

-- what its marks reach a batch has copied itself, or earlier ones have
pub reached : (p : Placement) (b : CopyBatch) (ms : List Mark) (k : ℕ) → (eqb b.keys.from 0 || comes_to ms b.target.link b.target.epoch b.keys.from) ≡ true → EndsAt p b b.upto → p.key_partition k ≡ p.link_partition b.target.link → reaches_key b.upto k ≡ true
    → (is_within b.keys k ≡ true) ⊎ ((is_within b.keys k ≡ false) × (is_copied ms b.target.link b.target.epoch k ≡ true))
reached p b ms k begins ends e r = ⊎_elim
    (λ (t : leb b.keys.from k ≡ true). let u : leb k b.keys.to ≡ true = ends_at p b b.upto k ends r e in inl (grind (arith, u)))
    (λ (t : leb b.keys.from k ≡ false). inr (grind arith, comes_copied ms b.target.link b.target.epoch b.keys.from k (grind (arith, nat_tests)) t))
    (cases_Bool (leb b.keys.from k))

-- puts make their keys the batch's rows
puts_after : (p : Placement) (b : CopyBatch) (u : Plain) (puts : List (List Interval)) (notes : List Note) (k : ℕ) → p.key_partition k ≡ p.link_partition b.target.link → plain_after p u (puts_onto p b puts notes) k ≡ cond (is_put puts k) (b.rows k) (plain_after p u notes k)
puts_after p b u [] notes k e = refl
puts_after p b u (keys ∷ more) notes k e = go (is_in_one keys k) refl (puts_after p b u more notes k e)
  where
    placed : eqb (p.key_partition k) (p.link_partition b.target.link) ≡ true
    placed = grind (arith, nat_tests)

    go : (v : Bool) → is_in_one keys k ≡ v → plain_after p u (puts_onto p b more notes) k ≡ cond (is_put more k) (b.rows k) (plain_after p u notes k)
        → cond (eqb (p.key_partition k) (p.link_partition b.target.link) && is_in_one keys k) (b.rows k) (plain_after p u (puts_onto p b more notes) k) ≡ cond (is_in_one keys k || is_put more k) (b.rows k) (plain_after p u notes k)
    go true m ih = grind arith
    go false m ih = grind (arith, ih)

-- a batch's notes make its keys its rows
batch_after : (p : Placement) (b : CopyBatch) (u : Plain) (k : ℕ) → ((n : ℕ) → is_put b.puts n ≡ false → is_within b.keys n ≡ true → b.rows n ≡ None) → ((n : ℕ) → is_put b.puts n ≡ true → is_within b.keys n ≡ true)
    → p.key_partition k ≡ p.link_partition b.target.link → plain_after p u (batch_notes p b) k ≡ cond (is_within b.keys k) (b.rows k) (u k)
batch_after p b u k put within e = puts_after p b u b.puts (copy_notes p b) k e ∙ go (is_put b.puts k) (is_within b.keys k) refl refl
  where
    placed : eqb (p.key_partition k) (p.link_partition b.target.link) ≡ true
    placed = grind (arith, nat_tests)

    go : (v w : Bool) → is_put b.puts k ≡ v → is_within b.keys k ≡ w
        → cond (is_put b.puts k) (b.rows k) (cond (eqb (p.key_partition k) (p.link_partition b.target.link) && is_in_one (b.keys ∷ []) k) None (u k)) ≡ cond (is_within b.keys k) (b.rows k) (u k)
    go true true m n = grind arith
    go true false m n = let bad : is_within b.keys k ≡ true = within k m in cc (bad, n)
    go false true m n = let gap : b.rows k ≡ None = put k m n in grind (arith, gap)
    go false false m n = grind arith

-- puts went to the destination alone
puts_went : (p : Placement) (b : CopyBatch) (c : ℕ) (puts : List (List Interval)) (notes : List Note) → went_to b.target.link c (b.target ∷ []) ≡ true → AllWent p b.target.link c notes → AllWent p b.target.link c (puts_onto p b puts notes)
puts_went p b c [] notes t w = w
puts_went p b c (keys ∷ more) notes t w = ((λ q. t), (λ q. refl), puts_went p b c more notes t w)

puts_none : (p : Placement) (b : CopyBatch) (l c : ℕ) (puts : List (List Interval)) (notes : List Note) → went_to l c (b.target ∷ []) ≡ false → NoneWent l c notes → NoneWent l c (puts_onto p b puts notes)
puts_none p b l c [] notes t w = w
puts_none p b l c (keys ∷ more) notes t w = (t, puts_none p b l c more notes t w)

puts_sent : (p : Placement) (b : CopyBatch) (hs : List Went) (puts : List (List Interval)) (notes : List Note) → notes_sent (puts_onto p b puts notes) hs ≡ true → notes_sent notes hs ≡ true
puts_sent p b hs [] notes s = s
puts_sent p b hs (keys ∷ more) notes s = puts_sent p b hs more notes (grind (arith, s))

puts_read : (p : Placement) (b : CopyBatch) (l c : ℕ) (puts : List (List Interval)) (notes : List Note) (ops : List Operation) → ReadsFollow p l c (puts_onto p b puts notes) ops → ReadsFollow p l c notes ops
puts_read p b l c [] notes ops r = r
puts_read p b l c (keys ∷ more) notes ops r = puts_read p b l c more notes ops r

-- what is known of a batch as its record is written
pub record CopyStands (f : Topology) (p : Placement) (link : ℕ → Link) (marks : List Mark) (d : Decision) (b : CopyBatch) : Type 0 where
  pub same : p.link_partition b.source.link ≡ p.link_partition b.target.link
  pub source : protects f p link d.members (p.link_partition b.source.link) b.source ≡ true
  pub target : (is_recovery (link b.target.link).status && (eqb b.target.epoch (link b.target.link).epoch && has_member f (p.link_server b.target.link) d.members)) ≡ true
  pub begins : (eqb b.keys.from 0 || comes_to marks b.target.link b.target.epoch b.keys.from) ≡ true
  pub ends : EndsAt p b b.upto
  pub put : (k : ℕ) → is_put b.puts k ≡ false → is_within b.keys k ≡ true → b.rows k ≡ None
  pub within : (k : ℕ) → is_put b.puts k ≡ true → is_within b.keys k ≡ true

pub batch_holds : (f : Topology) (p : Placement) (link : ℕ → Link) (line : ℕ → Option ℕ) (t : Transaction) (hs : List Went) (history : List Decision) (d : Decision) (b : CopyBatch) (marks : List Mark) (book : List (List Note)) → Standing f p link line t hs history d (batch_notes p b)
    → CopyStands f p link marks d b → Holds f p link marks history book → Holds f p link (batch_mark b ∷ marks) (d ∷ history) ([] ∷ book)
batch_holds f p link line t hs history d b marks book i c h = record { good = good; serial = (tt, h.serial); fresh = fresh }
  where
    table : ℕ → Table
    table l = decided_rows f (p.link_server l) history

    went_there : went_in b.target.link (link b.target.link).epoch (b.target ∷ []) ≡ true
    went_there = grind (arith, nat_tests, c.target)

    at_target : (q : ℕ) × (t.asked (p.link_server b.target.link) ≡ Some q) × (done_at f (p.link_server b.target.link) d.members d.log ≡ done_on q d.log) × IsTold p b.target.link q (batch_notes p b) (done_on q d.log) × AreRight (table b.target.link) (done_on q d.log)
    at_target = there f p link line t hs history d (batch_notes p b) i b.target.link (grind (arith, c.target))

    at_source : (q : ℕ) × (t.asked (p.link_server b.source.link) ≡ Some q) × (done_at f (p.link_server b.source.link) d.members d.log ≡ done_on q d.log) × IsTold p b.source.link q (batch_notes p b) (done_on q d.log) × AreRight (table b.source.link) (done_on q d.log)
    at_source = there f p link line t hs history d (batch_notes p b) i b.source.link (grind (arith, c.source))

    noted : notes_sent (copy_notes p b) hs ≡ true
    noted = puts_sent p b hs b.puts (copy_notes p b) i.sent

    to_target : went_to b.target.link at_target.0 (b.target ∷ []) ≡ true
    to_target = present_went p link line t.asked b.target.link at_target.0 (b.target ∷ []) hs went_there (grind (arith, noted)) at_target.1 i.present

    to_source : went_to b.source.link at_source.0 (b.source ∷ []) ≡ true
    to_source = present_went p link line t.asked b.source.link at_source.0 (b.source ∷ []) hs (grind (arith, nat_tests, c.source)) (grind (arith, noted)) at_source.1 i.present

    -- the source's rows are the plain tables'
    rows_are : (k : ℕ) → is_within b.keys k ≡ true → p.key_partition k ≡ p.link_partition b.source.link → b.rows k ≡ plain p book k
    rows_are k w e =
        let reads : ReadsFollow p b.source.link at_source.0 (copy_notes p b) (done_on at_source.0 d.log) = puts_read p b b.source.link at_source.0 b.puts (copy_notes p b) (done_on at_source.0 d.log) at_source.3.reads in
        let read = found_there p b.source.link at_source.0 (table b.source.link) (p.link_partition b.source.link) (b.keys ∷ []) (λ z. z) b.rows [] (done_on at_source.0 d.log) (reads.0 to_source) at_source.4 in
        let inside : lies p (p.link_partition b.source.link) (b.keys ∷ []) k ≡ true = grind (arith, nat_tests) in
        ap (λ (z : Plain). z k) read.is
        ∙ ap (λ v. cond v (after (table b.source.link) read.older (at_link b.source.link k)) None) inside
        ∙ follows_none p b.source.link at_source.0 (table b.source.link) [] read.older k read.follows tt
        ∙ h.good b.source.link k (ok_has marks b.source.link (link b.source.link) _ k (grind (arith, c.source))) e

    -- what the destination has then
    target_after : (k : ℕ) → p.key_partition k ≡ p.link_partition b.target.link → after (table b.target.link) (done_at f (p.link_server b.target.link) d.members d.log) (at_link b.target.link k) ≡ cond (is_within b.keys k) (b.rows k) (table b.target.link (at_link b.target.link k))
    target_after k e =
        ap (λ z. after (table b.target.link) z (at_link b.target.link k)) at_target.2
        ∙ follows_after p b.target.link at_target.0 (table b.target.link) (λ n. table b.target.link (at_link b.target.link n)) (batch_notes p b) (done_on at_target.0 d.log) k at_target.3.changes
        (puts_went p b at_target.0 b.puts (copy_notes p b) to_target ((λ q. to_target), (λ q. refl), tt)) e refl
        ∙ batch_after p b (λ n. table b.target.link (at_link b.target.link n)) k c.put c.within e

    -- what is kept there was copied before
    target_good : (k : ℕ) → has_by (batch_mark b ∷ marks) b.target.link (link b.target.link) (link b.target.link).status k ≡ true → p.key_partition k ≡ p.link_partition b.target.link
        → after (table b.target.link) (done_at f (p.link_server b.target.link) d.members d.log) (at_link b.target.link k) ≡ plain p book k
    target_good k has e = target_after k e ∙ go (is_within b.keys k) refl
      where
        recovering : is_recovery (link b.target.link).status ≡ true
        recovering = grind (arith, c.target)

        now : b.target.epoch ≡ (link b.target.link).epoch
        now = eqb-true _ _ (grind (arith, c.target))

        copied : is_copied (batch_mark b ∷ marks) b.target.link (link b.target.link).epoch k ≡ true
        copied = sym (recovery_has (batch_mark b ∷ marks) b.target.link (link b.target.link) _ k recovering) ∙ has

        before : is_within b.keys k ≡ false → is_copied marks b.target.link (link b.target.link).epoch k ≡ true
        before n = ⊎_elim
            (λ (r : reaches_key b.upto k ≡ true). ⊎_elim
            (λ (w : is_within b.keys k ≡ true). cc (w, n))
            (λ (w : (is_within b.keys k ≡ false) × (is_copied marks b.target.link b.target.epoch k ≡ true)). ap (λ z. is_copied marks b.target.link z k) (sym now) ∙ w.1)
            (reached p b marks k c.begins c.ends e r))
            (λ (r : reaches_key b.upto k ≡ false). grind (arith, copied))
            (cases_Bool (reaches_key b.upto k))

        go : (v : Bool) → is_within b.keys k ≡ v → cond v (b.rows k) (table b.target.link (at_link b.target.link k)) ≡ plain p book k
        go true w = rows_are k w (e ∙ sym c.same)
        go false w = h.good b.target.link k (recovery_has marks b.target.link (link b.target.link) _ k recovering ∙ before w) e

    -- other links are left
    else_after : (l k : ℕ) → l ≢ b.target.link → after (table l) (done_at f (p.link_server l) d.members d.log) (at_link l k) ≡ table l (at_link l k)
    else_after l k ne = ⊎_elim
        (λ (m : has_member f (p.link_server l) d.members ≡ true).
        let q = there f p link line t hs history d (batch_notes p b) i l m in
        let away : went_to l q.0 (b.target ∷ []) ≡ false = grind (arith, nat_tests) in
        ap (λ z. after (table l) z (at_link l k)) q.2 ∙ follows_none p l q.0 (table l) (batch_notes p b) (done_on q.0 d.log) k q.3.changes (puts_none p b l q.0 b.puts (copy_notes p b) away (away, tt)))
        (λ (m : has_member f (p.link_server l) d.members ≡ false). ap (λ z. after (table l) z (at_link l k)) (none_at f d.members (p.link_server l) d.log m))
        (cases_Bool (has_member f (p.link_server l) d.members))

    has_else : (l k : ℕ) (s : Status) → l ≢ b.target.link → has_by (batch_mark b ∷ marks) l (link l) s k ≡ true → has_by marks l (link l) s k ≡ true
    has_else l k OK ne has = refl
    has_else l k RECOVERY ne has = grind (arith, nat_tests)
    has_else l k NG ne has = cc

    good : (l k : ℕ) → has_by (batch_mark b ∷ marks) l (link l) (link l).status k ≡ true → p.key_partition k ≡ p.link_partition l → after (table l) (done_at f (p.link_server l) d.members d.log) (at_link l k) ≡ plain p book k
    good l k has e = ⊎_elim
        (λ (q : l ≡ b.target.link). subst (λ n. has_by (batch_mark b ∷ marks) n (link n) (link n).status k ≡ true → p.key_partition k ≡ p.link_partition n → after (table n) (done_at f (p.link_server n) d.members d.log) (at_link n k) ≡ plain p book k) (sym q) (target_good k) has e)
        (λ (ne : l ≡ b.target.link → ⊥). else_after l k ne ∙ h.good l k (has_else l k _ ne has) e)
        (cases_eq l b.target.link)

    fresh : (l e k : ℕ) → leb e (link l).epoch ≡ false → is_copied (batch_mark b ∷ marks) l e k ≡ false
    fresh l e k above = ⊎_elim
        (λ (q : b.target.link ≡ l).
        let now : b.target.epoch ≡ (link l).epoch = eqb-true _ _ (grind (arith, c.target)) ∙ ap (λ z. (link z).epoch) q in
        let old : is_copied marks l e k ≡ false = h.fresh l e k above in
        grind (arith, nat_tests, now, old))
        (λ (ne : b.target.link ≡ l → ⊥). let old : is_copied marks l e k ≡ false = h.fresh l e k above in grind (arith, nat_tests, old))
        (cases_eq b.target.link l)

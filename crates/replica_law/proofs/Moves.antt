-- The links and the plain tables agree after each move of the front, and so over every run.
use Rattle.std.proofs.Common.{◌≡◌, ℕ, Bool, true, false, cond, ◌+◌, leb, List, [], ◌∷◌, Option, Some, None, refl, sym, ap, ◌∙◌, subst, arith, ◌⊎◌, inl, inr, eqb-true}
use Rattle.std.proofs.lemmas.Bool.Decides.{nat_tests}
use Rattle.commit_protocol.specs.Rows.{Table, Footprint}
use Rattle.commit_protocol.specs.Backend.{Request}
use Rattle.commit_protocol.specs.Backend.Request.{Start, Scan, Change, End, Prepare, Commit, Rollback, Recover}
use Rattle.commit_protocol.specs.Network.{set, Topology, Reply, dialled_now}
use Rattle.commit_protocol.specs.Protocol.{World, Transaction, Decision, Move, is_fresh, is_live, is_member, may_ask, may_use, may_decide, asks, asking, delivers, refuses, faults, reads, writes, recorded, with_phase, with_connection, uses_connection, sees_hangup, happens}
use Rattle.commit_protocol.specs.Views.{done_on, decided_rows, view}
use Rattle.commit_protocol.specs.Protocol.Phase.{Live, Over}
use Rattle.commit_protocol.specs.Protocol.Move.{Draws, Dials, Uses, Sends, Delivers, Refuses, Faults, Reads, Breaks, Hangup_seen, Writes, Recorded, Gives_up, Stops, Front_stops, Reopens}
use Rattle.commit_protocol.specs.Links.{Placement, Link, Status, Cursor, Mark, at_link, is_recovery, reaches_key, is_copied, has_by, recorded_by, raised, IsMark}
use Rattle.commit_protocol.specs.Notes.{Went, Note, plain, notes_sent, IsTold}
use Rattle.commit_protocol.specs.Copies.{CopyBatch, batch_notes, batch_mark}
use Rattle.commit_protocol.specs.Replicas.{Matter, Front, has_key, has_recorded, MayDecide, MayCopy, is_free, all_past, is_line, sends_to, booked, reopened, with_link, Next, Run, new_front}
use Rattle.commit_protocol.specs.Replicas.Matter.{Statements, Batch}
use Rattle.commit_protocol.specs.Links.Status.{OK, RECOVERY, NG}
use Rattle.commit_protocol.specs.Links.Cursor.{Nothing, All}
use Rattle.commit_protocol.specs.Replicas.Next.{Goes, Opens, Scans, Changes, Prepares, Decides, Copies, Is_recorded, Is_reopened, Falls, Rises, Moves_cursor, Completes}
use Rattle.commit_protocol.specs.Replicas.Run.{Stays, Steps}
use Rattle.protocol_law.proofs.Traffic.{set_cases, guarded, unless, is_none_from}
use Rattle.protocol_law.proofs.Serial.{is_at_from}
use Rattle.protocol_law.proofs.Runs.{IsSound, sound, sound_happens, view_is}
use Rattle.replica_law.proofs.Present.{ArePresent, present_same, present_prepares, present_opens, present_sends, present_link, asks_prepare, SameAsked, same_asked}
use Rattle.replica_law.proofs.Agree.{Holds, Standing, recovery_has, statements_hold, batch_holds}

-- ---- the invariant

-- the marks, and what the book gets, once the record in progress is durable
abbrev pub marks_of : Matter → List Mark → List Mark
marks_of (Statements notes) ms = ms
marks_of (Batch notes mark) ms = mark ∷ ms

abbrev pub notes_of : Matter → List Note
notes_of (Statements notes) = notes
notes_of (Batch notes mark) = []

-- the record in progress is the core's, and what it is about would hold
abbrev pub WouldHold : Topology → Placement → Front → Matter → Type 0
WouldHold f p v m = (d : Decision) × (v.core.pending ≡ Some d) × Holds f p v.link (marks_of m v.marks) (d ∷ v.core.history) (notes_of m ∷ v.book)

pub record IsAgreed (f : Topology) (p : Placement) (v : Front) : Type 0 where
  pub sound : IsSound f v.core
  pub present : (x : ℕ) → ArePresent p v.link (v.line x) (v.core.transaction x).asked (v.sent x)
  pub holds : Holds f p v.link v.marks v.core.history v.book
  pub cursor : (l k : ℕ) → has_recorded v l k ≡ true → has_key v l k ≡ true
  pub idle : v.writing ≡ None → v.core.pending ≡ None
  pub next : (m : Matter) → v.writing ≡ Some m → WouldHold f p v m

-- ---- moves of the core

-- the move writes no record and opens no log
abbrev pub is_plain : Move → Bool
is_plain (Draws x) = true
is_plain (Dials c) = true
is_plain (Uses c x) = true
is_plain (Sends c r) = true
is_plain (Delivers c) = true
is_plain (Refuses c) = true
is_plain (Faults c found) = true
is_plain (Reads c) = true
is_plain (Breaks c) = true
is_plain (Hangup_seen c) = true
is_plain (Writes x ms) = false
is_plain Recorded = false
is_plain (Gives_up x) = true
is_plain (Stops s) = true
is_plain Front_stops = true
is_plain (Reopens found) = false

abbrev pub SameBook : World → World → Type 0
SameBook w v = (v.history ≡ w.history) × (v.pending ≡ w.pending)

pub same_book : (f : Topology) (w : World) (m : Move) → is_plain m ≡ true → SameBook w (happens f w m)
same_book f w (Draws x) h = guarded (SameBook w) (is_fresh (w.transaction x).phase) (with_phase w x Live) w (refl, refl) (λ t. (refl, refl))
same_book f w (Dials c) h = unless (SameBook w) (w.connection c).dialled (with_connection w c (dialled_now (w.connection c))) w (refl, refl) (λ t. (refl, refl))
same_book f w (Uses c x) h = guarded (SameBook w) (may_use w c x) (uses_connection w c x) w (refl, refl) (λ t. (refl, refl))
same_book f w (Sends c r) h = guarded (SameBook w) (may_ask f w c r) (asks f w c r) w (refl, refl) (λ t. (refl, refl))
same_book f w (Delivers c) h = go (w.connection c).queue
  where
    go : (q : List Request) → SameBook w (delivers f w c q)
    go [] = (refl, refl)
    go (r ∷ q) = (refl, refl)
same_book f w (Refuses c) h = go (w.connection c).queue
  where
    go : (q : List Request) → SameBook w (refuses f w c q)
    go [] = (refl, refl)
    go (r ∷ q) = (refl, refl)
same_book f w (Faults c found) h = go (w.connection c).queue
  where
    go : (q : List Request) → SameBook w (faults f w c found q)
    go [] = (refl, refl)
    go (r ∷ q) = (refl, refl)
same_book f w (Reads c) h = go (w.connection c).unread
  where
    go : (q : List Reply) → SameBook w (reads w c q)
    go [] = (refl, refl)
    go (r ∷ q) = (refl, refl)
same_book f w (Breaks c) h = (refl, refl)
same_book f w (Hangup_seen c) h = unless (SameBook w) (w.connection c).stands (sees_hangup f w c) w (refl, refl) (λ t. (refl, refl))
same_book f w (Writes x ms) h = cc
same_book f w Recorded h = cc
same_book f w (Gives_up x) h = guarded (SameBook w) (is_live (w.transaction x).phase) (with_phase w x Over) w (refl, refl) (λ t. (refl, refl))
same_book f w (Stops s) h = (refl, refl)
same_book f w Front_stops h = (refl, refl)
same_book f w (Reopens found) h = cc

-- another core with the same history and the same record in progress, and what was sent is present in it
agreed_core : (f : Topology) (p : Placement) (v : Front) (w : World) (line : ℕ → ℕ → Option ℕ) (sent : ℕ → List Went) → IsSound f w → SameBook v.core w → ((x : ℕ) → ArePresent p v.link (line x) (w.transaction x).asked (sent x)) → IsAgreed f p v
    → IsAgreed f p (record v { core = w; line = line; sent = sent })
agreed_core f p v w line sent s b present i = record {
  sound = s;
  present = present;
  holds = subst (λ h. Holds f p v.link v.marks h v.book) (sym b.0) i.holds;
  cursor = i.cursor;
  idle = λ e. b.1 ∙ i.idle e;
  next = λ m e. let k = i.next m e in (k.0, b.1 ∙ k.1, subst (λ h. Holds f p v.link (marks_of m v.marks) (k.0 ∷ h) (notes_of m ∷ v.book)) (sym b.0) k.2);
}

pub free_plain : (m : Move) → is_free m ≡ true → (is_plain m ≡ true) × (asks_prepare m ≡ false)
free_plain (Draws x) h = (refl, refl)
free_plain (Dials c) h = (refl, refl)
free_plain (Uses c x) h = cc
free_plain (Sends c (Start x)) h = (refl, refl)
free_plain (Sends c (Scan fp)) h = cc
free_plain (Sends c (Change fp rows)) h = cc
free_plain (Sends c (End x)) h = (refl, refl)
free_plain (Sends c Recover) h = (refl, refl)
free_plain (Sends c (Prepare x)) h = cc
free_plain (Sends c (Commit x)) h = (refl, refl)
free_plain (Sends c (Rollback x)) h = (refl, refl)
free_plain (Delivers c) h = (refl, refl)
free_plain (Refuses c) h = (refl, refl)
free_plain (Faults c found) h = (refl, refl)
free_plain (Reads c) h = (refl, refl)
free_plain (Breaks c) h = (refl, refl)
free_plain (Hangup_seen c) h = (refl, refl)
free_plain (Writes x ms) h = cc
free_plain Recorded h = cc
free_plain (Gives_up x) h = (refl, refl)
free_plain (Stops s) h = (refl, refl)
free_plain Front_stops h = (refl, refl)
free_plain (Reopens found) h = cc

-- what was sent stays present where no server is asked more
still_present : (p : Placement) (v : Front) (w : World) → SameAsked v.core w → ((x : ℕ) → ArePresent p v.link (v.line x) (v.core.transaction x).asked (v.sent x)) → (x : ℕ) → ArePresent p v.link (v.line x) (w.transaction x).asked (v.sent x)
still_present p v w a i x = present_same p v.link (v.line x) (v.core.transaction x).asked (w.transaction x).asked (v.sent x) (a x) (i x)

agreed_goes : (f : Topology) (p : Placement) (v : Front) (m : Move) → is_free m ≡ true → IsAgreed f p v → IsAgreed f p (record v { core = happens f v.core m })
agreed_goes f p v m free i =
    let k = free_plain m free in
    agreed_core f p v (happens f v.core m) v.line v.sent (sound_happens f v.core m i.sound) (same_book f v.core m k.0) (still_present p v (happens f v.core m) (same_asked f v.core m k.1) i.present) i

-- ---- a connection is taken into use, something is sent

agreed_opens : (f : Topology) (p : Placement) (v : Front) (c x : ℕ) → all_past p v.link (f.home c) (v.sent x) ≡ true → IsAgreed f p v
    → IsAgreed f p (record v { core = happens f v.core (Uses c x); line = set v.line x (set (v.line x) (f.home c) (Some c)) })
agreed_opens f p v c x past i = agreed_core f p v w (set v.line x (set (v.line x) (f.home c) (Some c))) v.sent (sound_happens f v.core (Uses c x) i.sound) (same_book f v.core (Uses c x) refl)
    (λ y. set_cases (λ z (g : ℕ → Option ℕ). ArePresent p v.link g (w.transaction z).asked (v.sent z)) v.line x (set (v.line x) (f.home c) (Some c)) y
    (present_opens p v.link (v.line x) (w.transaction x).asked (f.home c) c (v.sent x) past (now x))
    (λ ne. now y))
    i
  where
    w : World
    w = happens f v.core (Uses c x)

    now : (y : ℕ) → ArePresent p v.link (v.line y) (w.transaction y).asked (v.sent y)
    now = still_present p v w (same_asked f v.core (Uses c x) refl) i.present

agreed_sends : (f : Topology) (p : Placement) (v : Front) (c l : ℕ) (r : Request) → asks_prepare (Sends c r) ≡ false → is_line f v c ≡ true → p.link_server l ≡ f.home c → (v.core.transaction (v.core.connection c).xid).asked (f.home c) ≡ None → IsAgreed f p v
    → IsAgreed f p (sends_to f v c r l)
agreed_sends f p v c l r other line here none i = agreed_core f p v w v.line (set v.sent x _) (sound_happens f v.core (Sends c r) i.sound) (same_book f v.core (Sends c r) refl)
    (λ y. set_cases (λ z (gs : List Went). ArePresent p v.link (v.line z) (w.transaction z).asked gs) v.sent x _ y
    (present_sends p v.link (v.line x) (w.transaction x).asked l c (v.sent x) on_line unasked (now x))
    (λ ne. now y))
    i
  where
    w : World
    w = happens f v.core (Sends c r)

    x : ℕ
    x = (v.core.connection c).xid

    now : (y : ℕ) → ArePresent p v.link (v.line y) (w.transaction y).asked (v.sent y)
    now = still_present p v w (same_asked f v.core (Sends c r) other) i.present

    on_line : v.line x (p.link_server l) ≡ Some c
    on_line = ap (v.line x) here ∙ is_at_from (v.line x (f.home c)) c line

    unasked : (w.transaction x).asked (p.link_server l) ≡ None
    unasked = same_asked f v.core (Sends c r) other x (p.link_server l) ∙ ap (v.core.transaction x).asked here ∙ none

agreed_prepares : (f : Topology) (p : Placement) (v : Front) (c x : ℕ) → may_ask f v.core c (Prepare x) ≡ true → is_line f v c ≡ true → IsAgreed f p v → IsAgreed f p (record v { core = happens f v.core (Sends c (Prepare x)) })
agreed_prepares f p v c x may line i = agreed_core f p v w v.line v.sent (sound_happens f v.core (Sends c (Prepare x)) i.sound) (same_book f v.core (Sends c (Prepare x)) refl) present i
  where
    w : World
    w = happens f v.core (Sends c (Prepare x))

    sent : asks f v.core c (Prepare x) ≡ w
    sent = sym (ap (λ b. cond b (asks f v.core c (Prepare x)) v.core) may)

    same : x ≡ (v.core.connection c).xid
    same = eqb-true x _ (grind arith)

    on_line : v.line x (f.home c) ≡ Some c
    on_line = ap (λ z. v.line z (f.home c)) same ∙ is_at_from (v.line (v.core.connection c).xid (f.home c)) c line

    asked : (y : ℕ) → ArePresent p v.link (v.line y) (asking f v.core c (Prepare x) y).asked (v.sent y)
    asked y = set_cases (λ z (t : Transaction). ArePresent p v.link (v.line z) t.asked (v.sent z)) v.core.transaction x (record (v.core.transaction x) { asked = set (v.core.transaction x).asked (f.home c) (Some c) }) y
        (present_prepares p v.link (v.line x) (v.core.transaction x).asked (f.home c) c (v.sent x) on_line (i.present x))
        (λ ne. i.present y)

    present : (y : ℕ) → ArePresent p v.link (v.line y) (w.transaction y).asked (v.sent y)
    present y = subst (λ (u : World). ArePresent p v.link (v.line y) (u.transaction y).asked (v.sent y)) sent (asked y)

-- ---- a record is written

-- the decision that is written
abbrev pub written_now : World → ℕ → List ℕ → Decision
written_now w x ms = record { number = x; log = (w.transaction x).log; members = ms }

-- who may be decided stands as a decision needs it
standing : (f : Topology) (p : Placement) (v : Front) (x : ℕ) (ms : List ℕ) (notes : List Note) → may_decide f v.core x ms ≡ true → notes_sent notes (v.sent x) ≡ true
    → ((l c : ℕ) → is_member c ms ≡ true → f.home c ≡ p.link_server l → IsTold p l c notes (done_on c (v.core.transaction x).log)) → IsAgreed f p v
    → Standing f p v.link (v.line x) (v.core.transaction x) (v.sent x) v.core.history (written_now v.core x ms) notes
standing f p v x ms notes may sent told i = record {
  ready = grind (arith, may);
  present = i.present x;
  right = λ s. (later.serial.serial s).0;
  sent = sent;
  told = told;
}
  where
    writing : IsSound f (writes v.core x ms)
    writing = subst (λ u. IsSound f u) (ap (λ b. cond b (writes v.core x ms) v.core) may) (sound_happens f v.core (Writes x ms) i.sound)

    later : IsSound f (recorded (writes v.core x ms) (Some (written_now v.core x ms)))
    later = sound_happens f (writes v.core x ms) Recorded writing

-- the front writes a record
agreed_writes : (f : Topology) (p : Placement) (v : Front) (x : ℕ) (ms : List ℕ) (m : Matter) → may_decide f v.core x ms ≡ true → Holds f p v.link (marks_of m v.marks) (written_now v.core x ms ∷ v.core.history) (notes_of m ∷ v.book) → IsAgreed f p v
    → IsAgreed f p (record v { core = happens f v.core (Writes x ms); writing = Some m })
agreed_writes f p v x ms m may would i = subst (λ u. IsAgreed f p (record v { core = u; writing = Some m })) now (record {
  sound = subst (λ u. IsSound f u) (sym now) (sound_happens f v.core (Writes x ms) i.sound);
  present = λ y. still_present p v (writes v.core x ms) (subst (λ u. SameAsked v.core u) (sym now) (same_asked f v.core (Writes x ms) refl)) i.present y;
  holds = i.holds;
  cursor = i.cursor;
  idle = λ e. cc;
  next = λ n e. let same : m ≡ n = cc in subst (λ z. WouldHold f p (record v { core = writes v.core x ms; writing = Some m }) z) same (written_now v.core x ms, refl, would);
})
  where
    now : writes v.core x ms ≡ happens f v.core (Writes x ms)
    now = sym (ap (λ b. cond b (writes v.core x ms) v.core) may)

agreed_decides : (f : Topology) (p : Placement) (v : Front) (x : ℕ) (ms : List ℕ) (notes : List Note) → MayDecide f p v x ms notes → IsAgreed f p v → IsAgreed f p (record v { core = happens f v.core (Writes x ms); writing = Some (Statements notes) })
agreed_decides f p v x ms notes m i = agreed_writes f p v x ms (Statements notes) m.ready
    (statements_hold f p v.link (v.line x) (v.core.transaction x) (v.sent x) v.core.history (written_now v.core x ms) notes v.marks v.book (standing f p v x ms notes m.ready m.noted.sent m.noted.told i) m.writes m.reads i.holds)
    i

agreed_copies : (f : Topology) (p : Placement) (v : Front) (x : ℕ) (ms : List ℕ) (b : CopyBatch) → MayCopy f p v x ms b → IsAgreed f p v
    → IsAgreed f p (record v { core = happens f v.core (Writes x ms); writing = Some (Batch (batch_notes p b) (batch_mark b)) })
agreed_copies f p v x ms b m i = agreed_writes f p v x ms (Batch (batch_notes p b) (batch_mark b)) m.ready
    (batch_holds f p v.link (v.line x) (v.core.transaction x) (v.sent x) v.core.history (written_now v.core x ms) b v.marks v.book (standing f p v x ms (batch_notes p b) m.ready m.noted.sent m.noted.told i)
    (record { same = m.same; source = m.source; target = m.target; begins = m.begins; ends = m.ends; put = m.put; within = m.within }) i.holds)
    i

-- ---- a record is durable, or the log is opened

pub recorded_history : (w : World) (q : Option Decision) (d : Decision) → q ≡ Some d → (recorded w q).history ≡ d ∷ w.history
recorded_history w None d e = cc
recorded_history w (Some n) d e = let same : n ≡ d = cc in ap (λ z. z ∷ w.history) same

recorded_none : (w : World) (q : Option Decision) → w.pending ≡ q → (recorded w q).pending ≡ None
recorded_none w None e = e
recorded_none w (Some n) e = refl

pub nothing_recorded : (w : World) (q : Option Decision) → q ≡ None → (recorded w q).history ≡ w.history
nothing_recorded w None e = refl
nothing_recorded w (Some n) e = cc

-- more keys count once a batch's mark stands
has_more : (mark : Mark) (ms : List Mark) (l : ℕ) (n : Link) (s : Status) (k : ℕ) → has_by ms l n s k ≡ true → has_by (mark ∷ ms) l n s k ≡ true
has_more mark ms l n OK k h = refl
has_more mark ms l n RECOVERY k h = grind (arith, h)
has_more mark ms l n NG k h = cc

-- the book grows by what the record was about
agreed_booked : (f : Topology) (p : Placement) (v : Front) (w : World) (o : Option Matter) → v.writing ≡ o → IsSound f w → SameAsked v.core w → w.pending ≡ None
    → ((d : Decision) → v.core.pending ≡ Some d → w.history ≡ d ∷ v.core.history) → (v.core.pending ≡ None → w.history ≡ v.core.history) → IsAgreed f p v → IsAgreed f p (booked v w o)
agreed_booked f p v w None e s a none grown same i = record {
  sound = s;
  present = still_present p v w a i.present;
  holds = subst (λ h. Holds f p v.link v.marks h v.book) (sym (same (i.idle e))) i.holds;
  cursor = i.cursor;
  idle = λ q. none;
  next = λ m q. let bad : ◌≡◌ {A = Option Matter} None (Some m) = sym e ∙ q in cc;
}
agreed_booked f p v w (Some (Statements notes)) e s a none grown same i =
    let k = i.next (Statements notes) e in
    record {
      sound = s;
      present = still_present p v w a i.present;
      holds = subst (λ h. Holds f p v.link v.marks h (notes ∷ v.book)) (sym (grown k.0 k.1)) k.2;
      cursor = i.cursor;
      idle = λ q. none;
      next = λ m q. cc;
    }
agreed_booked f p v w (Some (Batch notes mark)) e s a none grown same i =
    let k = i.next (Batch notes mark) e in
    record {
      sound = s;
      present = still_present p v w a i.present;
      holds = subst (λ h. Holds f p v.link (mark ∷ v.marks) h ([] ∷ v.book)) (sym (grown k.0 k.1)) k.2;
      cursor = λ l n h. has_more mark v.marks l (v.link l) (v.link l).status n (i.cursor l n h);
      idle = λ q. none;
      next = λ m q. cc;
    }

agreed_recorded : (f : Topology) (p : Placement) (v : Front) → IsAgreed f p v → IsAgreed f p (booked v (happens f v.core Recorded) v.writing)
agreed_recorded f p v i = agreed_booked f p v (happens f v.core Recorded) v.writing refl (sound_happens f v.core Recorded i.sound) (same_asked f v.core Recorded refl)
    (recorded_none v.core v.core.pending refl) (λ d e. recorded_history v.core v.core.pending d e) (λ e. nothing_recorded v.core v.core.pending e) i

agreed_reopened : (f : Topology) (p : Placement) (v : Front) (found : Bool) → IsAgreed f p v → IsAgreed f p (reopened v (happens f v.core (Reopens found)) found)
agreed_reopened f p v true i = agreed_booked f p v (happens f v.core (Reopens true)) v.writing refl (sound_happens f v.core (Reopens true) i.sound) (same_asked f v.core (Reopens true) refl)
    refl (λ d e. recorded_history v.core v.core.pending d e) (λ e. nothing_recorded v.core v.core.pending e) i
agreed_reopened f p v false i = record {
  sound = sound_happens f v.core (Reopens false) i.sound;
  present = still_present p v (happens f v.core (Reopens false)) (same_asked f v.core (Reopens false) refl) i.present;
  holds = i.holds;
  cursor = i.cursor;
  idle = λ q. refl;
  next = λ m q. cc;
}

-- ---- statuses and cursors

agreed_link : (f : Topology) (p : Placement) (v : Front) (l : ℕ) (n : Link) → v.writing ≡ None → (n.epoch ≡ (v.link l).epoch) ⊎ (n.epoch ≡ (v.link l).epoch + 1)
    → ((k : ℕ) → has_by v.marks l n n.status k ≡ true → has_by v.marks l (v.link l) (v.link l).status k ≡ true)
    → ((k : ℕ) → recorded_by n n.status k ≡ true → has_by v.marks l n n.status k ≡ true) → IsAgreed f p v → IsAgreed f p (with_link v l n)
agreed_link f p v l n none epoch less kept i = record {
  sound = i.sound;
  present = λ x. present_link p v.link (v.line x) (v.core.transaction x).asked l n (v.sent x) epoch (i.present x);
  holds = record {
    good = λ j k. set_cases (λ g (m : Link). has_by v.marks g m m.status k ≡ true → p.key_partition k ≡ p.link_partition g → decided_rows f (p.link_server g) v.core.history (at_link g k) ≡ plain p v.book k) v.link l n j
        (λ h e. i.holds.good l k (less k h) e)
        (λ ne. i.holds.good j k);
    serial = i.holds.serial;
    fresh = λ j e k. set_cases (λ g (m : Link). leb e m.epoch ≡ false → is_copied v.marks g e k ≡ false) v.link l n j
        (λ h. i.holds.fresh l e k (above e epoch h))
        (λ ne. i.holds.fresh j e k);
  };
  cursor = λ j k. set_cases (λ g (m : Link). recorded_by m m.status k ≡ true → has_by v.marks g m m.status k ≡ true) v.link l n j (kept k) (λ ne. i.cursor j k);
  idle = i.idle;
  next = λ m q. let bad : ◌≡◌ {A = Option Matter} None (Some m) = sym none ∙ q in cc;
}
  where
    above : (e : ℕ) → (n.epoch ≡ (v.link l).epoch) ⊎ (n.epoch ≡ (v.link l).epoch + 1) → leb e n.epoch ≡ false → leb e (v.link l).epoch ≡ false
    above e (inl q) h = ap (leb e) (sym q) ∙ h
    above e (inr q) h = grind (arith, nat_tests)

mark_copied : (l e : ℕ) (u : Cursor) (ms : List Mark) (k : ℕ) → IsMark (record { link = l; epoch = e; upto = u }) ms → reaches_key u k ≡ true → is_copied ms l e k ≡ true
mark_copied l e u [] k m r = absurd m
mark_copied l e u (n ∷ ns) k (inl q) r =
    let link : n.link ≡ l = ap (λ (z : Mark). z.link) q in
    let epoch : n.epoch ≡ e = ap (λ (z : Mark). z.epoch) q in
    let upto : reaches_key n.upto k ≡ true = ap (λ (z : Mark). reaches_key z.upto k) q ∙ r in
    grind (arith, nat_tests, link, epoch, upto)
mark_copied l e u (n ∷ ns) k (inr m) r = grind (arith, mark_copied l e u ns k m r)

agreed_falls : (f : Topology) (p : Placement) (v : Front) (l : ℕ) → v.writing ≡ None → IsAgreed f p v → IsAgreed f p (with_link v l (raised (v.link l) NG))
agreed_falls f p v l none i = agreed_link f p v l (raised (v.link l) NG) none (inr refl) (λ k h. cc) (λ k h. cc) i

agreed_rises : (f : Topology) (p : Placement) (v : Front) (l : ℕ) → v.writing ≡ None → IsAgreed f p v → IsAgreed f p (with_link v l (raised (v.link l) RECOVERY))
agreed_rises f p v l none i = agreed_link f p v l (raised (v.link l) RECOVERY) none (inr refl) (λ k h. let new : is_copied v.marks l ((v.link l).epoch + 1) k ≡ false = i.holds.fresh l ((v.link l).epoch + 1) k (grind (arith, nat_tests)) in cc (new, h)) (λ k h. cc) i

agreed_cursor : (f : Topology) (p : Placement) (v : Front) (l : ℕ) (u : Cursor) → v.writing ≡ None → is_recovery (v.link l).status ≡ true → IsMark (record { link = l; epoch = (v.link l).epoch; upto = u }) v.marks → IsAgreed f p v
    → IsAgreed f p (with_link v l (record (v.link l) { cursor = u }))
agreed_cursor f p v l u none recovering m i = agreed_link f p v l (record (v.link l) { cursor = u }) none (inl refl) (λ k h. less (v.link l).status k h) (λ k h. kept (v.link l).status recovering k h) i
  where
    less : (s : Status) (k : ℕ) → has_by v.marks l (record (v.link l) { cursor = u }) s k ≡ true → has_by v.marks l (v.link l) s k ≡ true
    less OK k h = refl
    less RECOVERY k h = h
    less NG k h = cc

    kept : (s : Status) → is_recovery s ≡ true → (k : ℕ) → recorded_by (record (v.link l) { cursor = u }) s k ≡ true → has_by v.marks l (record (v.link l) { cursor = u }) s k ≡ true
    kept OK r k h = cc
    kept RECOVERY r k h = mark_copied l (v.link l).epoch u v.marks k m h
    kept NG r k h = cc

agreed_completes : (f : Topology) (p : Placement) (v : Front) (l : ℕ) → v.writing ≡ None → is_recovery (v.link l).status ≡ true → IsMark (record { link = l; epoch = (v.link l).epoch; upto = All }) v.marks → IsAgreed f p v
    → IsAgreed f p (with_link v l (record (v.link l) { status = OK }))
agreed_completes f p v l none recovering m i = agreed_link f p v l (record (v.link l) { status = OK }) none (inl refl)
    (λ k h. recovery_has v.marks l (v.link l) _ k recovering ∙ mark_copied l (v.link l).epoch All v.marks k m refl) (λ k h. refl) i

-- ---- every move, every run

unasked_scan : (f : Topology) (w : World) (c : ℕ) (fp : Footprint) → may_ask f w c (Scan fp) ≡ true → (w.transaction (w.connection c).xid).asked (f.home c) ≡ None
unasked_scan f w c fp m = is_none_from _ (grind (arith, m))

unasked_change : (f : Topology) (w : World) (c : ℕ) (fp : Footprint) (rows : Table) → may_ask f w c (Change fp rows) ≡ true → (w.transaction (w.connection c).xid).asked (f.home c) ≡ None
unasked_change f w c fp rows m = is_none_from _ (grind (arith, m))

pub agreed_next : (f : Topology) (p : Placement) (v w : Front) → Next f p v w → IsAgreed f p v → IsAgreed f p w
agreed_next f p v w (Goes m free) i = agreed_goes f p v m free i
agreed_next f p v w (Opens c x may past) i = agreed_opens f p v c x past i
agreed_next f p v w (Scans c fp may line here) i = agreed_sends f p v c fp.table (Scan fp) refl line here (unasked_scan f v.core c fp may) i
agreed_next f p v w (Changes c fp rows may line here) i = agreed_sends f p v c fp.table (Change fp rows) refl line here (unasked_change f v.core c fp rows may) i
agreed_next f p v w (Prepares c x may line) i = agreed_prepares f p v c x may line i
agreed_next f p v w (Decides x ms notes m) i = agreed_decides f p v x ms notes m i
agreed_next f p v w (Copies x ms b m) i = agreed_copies f p v x ms b m i
agreed_next f p v w Is_recorded i = agreed_recorded f p v i
agreed_next f p v w (Is_reopened found) i = agreed_reopened f p v found i
agreed_next f p v w (Falls l none other) i = agreed_falls f p v l none i
agreed_next f p v w (Rises l none ng) i = agreed_rises f p v l none i
agreed_next f p v w (Moves_cursor l u none recovering m) i = agreed_cursor f p v l u none recovering m i
agreed_next f p v w (Completes l none recovering m) i = agreed_completes f p v l none recovering m i

pub agreed_run : (f : Topology) (p : Placement) (v w : Front) → Run f p v w → IsAgreed f p v → IsAgreed f p w
agreed_run f p v w Stays i = i
agreed_run f p v w (Steps {v = u} r n) i = agreed_next f p u w n (agreed_run f p v u r i)

pub agreed_start : (f : Topology) (p : Placement) (status : ℕ → Status) → IsAgreed f p (new_front status)
agreed_start f p status = record {
  sound = sound f [];
  present = λ x. tt;
  holds = record { good = λ l k h e. refl; serial = tt; fresh = λ l e k h. refl };
  cursor = λ l k h. first l k (status l) h;
  idle = λ e. refl;
  next = λ m e. cc;
}
  where
    first : (l k : ℕ) (s : Status) → recorded_by (record { status = status l; epoch = 0; cursor = Nothing }) s k ≡ true → has_by [] l (record { status = status l; epoch = 0; cursor = Nothing }) s k ≡ true
    first l k OK h = refl
    first l k RECOVERY h = cc
    first l k NG h = cc

pub agreed : (f : Topology) (p : Placement) (status : ℕ → Status) (v : Front) → Run f p (new_front status) v → IsAgreed f p v
agreed f p status v r = agreed_run f p (new_front status) v r (agreed_start f p status)

-- what counts of a link is the plain tables' rows
pub link_view : (f : Topology) (p : Placement) (v : Front) → IsAgreed f p v → (l k : ℕ) → has_key v l k ≡ true → p.key_partition k ≡ p.link_partition l → view f v.core (p.link_server l) (at_link l k) ≡ plain p v.book k
link_view f p v i l k h e = view_is f v.core i.sound.serial (p.link_server l) (at_link l k) ∙ i.holds.good l k h e

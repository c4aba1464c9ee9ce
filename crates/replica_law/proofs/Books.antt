-- The book has one entry for each decision, and a recorded cursor is that of a decided batch of the link's present epoch.
use Rattle.std.proofs.Common.{◌≡◌, ℕ, true, false, List, ◌∷◌, length, suc, Option, Some, None, refl, sym, ap, ◌∙◌, ◌⊎◌, inl, inr, ⊎_elim}
use Rattle.commit_protocol.specs.Backend.Request.{Scan, Change, Prepare}
use Rattle.commit_protocol.specs.Network.{Topology}
use Rattle.commit_protocol.specs.Protocol.{World, Decision, happens, recorded}
use Rattle.commit_protocol.specs.Protocol.Move.{Uses, Sends, Writes, Recorded, Reopens}
use Rattle.commit_protocol.specs.Links.{Placement, Link, Status, Mark, is_recovery, raised, IsMark}
use Rattle.commit_protocol.specs.Notes.{Went}
use Rattle.commit_protocol.specs.Replicas.{Matter, Front, booked, with_link, Next, Run, new_front}
use Rattle.commit_protocol.specs.Replicas.Matter.{Statements, Batch}
use Rattle.commit_protocol.specs.Links.Status.{OK, RECOVERY, NG}
use Rattle.commit_protocol.specs.Links.Cursor.{Nothing}
use Rattle.commit_protocol.specs.Replicas.Next.{Goes, Opens, Scans, Changes, Prepares, Decides, Copies, Is_recorded, Is_reopened, Falls, Rises, Moves_cursor, Completes}
use Rattle.commit_protocol.specs.Replicas.Run.{Stays, Steps}
use Rattle.protocol_law.proofs.Traffic.{set_cases}
use Rattle.protocol_law.proofs.Runs.{same_history}
use Rattle.replica_law.proofs.Moves.{IsAgreed, agreed_next, agreed_start, same_book, free_plain, recorded_history, nothing_recorded}

abbrev pub IsMarked : List Mark → ℕ → Link → Type 0
IsMarked marks l n = is_recovery n.status ≡ true → (n.cursor ≡ Nothing) ⊎ IsMark (record { link = l; epoch = n.epoch; upto = n.cursor }) marks

pub record IsKept (v : Front) : Type 0 where
  pub same : length v.book ≡ length v.core.history
  pub marked : (l : ℕ) → IsMarked v.marks l (v.link l)

-- another core with the same history
kept_core : (v : Front) (w : World) (line : ℕ → ℕ → Option ℕ) (sent : ℕ → List Went) (writing : Option Matter) → w.history ≡ v.core.history → IsKept v → IsKept (record v { core = w; line = line; sent = sent; writing = writing })
kept_core v w line sent writing e i = record { same = i.same ∙ ap length (sym e); marked = i.marked }

-- a decision more, and what it is about
kept_booked : (v : Front) (w : World) (o : Option Matter) → (o ≡ None → w.history ≡ v.core.history) → ((m : Matter) → o ≡ Some m → (d : Decision) × (w.history ≡ d ∷ v.core.history)) → IsKept v → IsKept (booked v w o)
kept_booked v w None same grown i = kept_core v w v.line v.sent v.writing (same refl) i
kept_booked v w (Some (Statements notes)) same grown i =
    let k = grown (Statements notes) refl in
    record { same = ap (λ (n : ℕ). suc n) i.same ∙ ap length (sym k.1); marked = i.marked }
kept_booked v w (Some (Batch notes mark)) same grown i =
    let k = grown (Batch notes mark) refl in
    record {
      same = ap (λ (n : ℕ). suc n) i.same ∙ ap length (sym k.1);
      marked = λ l h. ⊎_elim (λ (e : (v.link l).cursor ≡ Nothing). inl e) (λ (m : IsMark (record { link = l; epoch = (v.link l).epoch; upto = (v.link l).cursor }) v.marks). inr (inr m)) (i.marked l h);
    }

kept_link : (v : Front) (l : ℕ) (n : Link) → IsMarked v.marks l n → IsKept v → IsKept (with_link v l n)
kept_link v l n new i = record { same = i.same; marked = λ j. set_cases (λ k (m : Link). IsMarked v.marks k m) v.link l n j new (λ ne. i.marked j) }

-- the record in progress is decided where it is durable or found
recorded_grows : (f : Topology) (p : Placement) (v : Front) → IsAgreed f p v → (m : Matter) → v.writing ≡ Some m → (d : Decision) × ((recorded v.core v.core.pending).history ≡ d ∷ v.core.history)
recorded_grows f p v a m e = let k = a.next m e in (k.0, recorded_history v.core v.core.pending k.0 k.1)

recorded_same : (f : Topology) (p : Placement) (v : Front) → IsAgreed f p v → v.writing ≡ None → (recorded v.core v.core.pending).history ≡ v.core.history
recorded_same f p v a e = nothing_recorded v.core v.core.pending (a.idle e)

kept_next : (f : Topology) (p : Placement) (v w : Front) → Next f p v w → IsAgreed f p v → IsKept v → IsKept w
kept_next f p v w (Goes m free) a i = kept_core v (happens f v.core m) v.line v.sent v.writing (same_book f v.core m (free_plain m free).0).0 i
kept_next f p v w (Opens c x may past) a i = kept_core v (happens f v.core (Uses c x)) _ v.sent v.writing (same_book f v.core (Uses c x) refl).0 i
kept_next f p v w (Scans c fp may line here) a i = kept_core v (happens f v.core (Sends c (Scan fp))) v.line _ v.writing (same_book f v.core (Sends c (Scan fp)) refl).0 i
kept_next f p v w (Changes c fp rows may line here) a i = kept_core v (happens f v.core (Sends c (Change fp rows))) v.line _ v.writing (same_book f v.core (Sends c (Change fp rows)) refl).0 i
kept_next f p v w (Prepares c x may line) a i = kept_core v (happens f v.core (Sends c (Prepare x))) v.line v.sent v.writing (same_book f v.core (Sends c (Prepare x)) refl).0 i
kept_next f p v w (Decides x ms notes m) a i = kept_core v (happens f v.core (Writes x ms)) v.line v.sent _ (same_history f v.core (Writes x ms) refl) i
kept_next f p v w (Copies x ms b m) a i = kept_core v (happens f v.core (Writes x ms)) v.line v.sent _ (same_history f v.core (Writes x ms) refl) i
kept_next f p v w Is_recorded a i = kept_booked v (happens f v.core Recorded) v.writing (recorded_same f p v a) (recorded_grows f p v a) i
kept_next f p v w (Is_reopened true) a i = kept_booked v (happens f v.core (Reopens true)) v.writing (recorded_same f p v a) (recorded_grows f p v a) i
kept_next f p v w (Is_reopened false) a i = kept_core v (happens f v.core (Reopens false)) v.line v.sent None refl i
kept_next f p v w (Falls l none other) a i = kept_link v l (raised (v.link l) NG) (λ h. cc) i
kept_next f p v w (Rises l none ng) a i = kept_link v l (raised (v.link l) RECOVERY) (λ h. inl refl) i
kept_next f p v w (Moves_cursor l u none recovering m) a i = kept_link v l (record (v.link l) { cursor = u }) (λ h. inr m) i
kept_next f p v w (Completes l none recovering m) a i = kept_link v l (record (v.link l) { status = OK }) (λ h. cc) i

kept_run : (f : Topology) (p : Placement) (u v : Front) → Run f p u v → IsAgreed f p u → IsKept u → IsAgreed f p v × IsKept v
kept_run f p u v Stays a i = (a, i)
kept_run f p u w (Steps {v = v} r n) a i = let k = kept_run f p u v r a i in (agreed_next f p v w n k.0, kept_next f p v w n k.0 k.1)

pub kept : (f : Topology) (p : Placement) (status : ℕ → Status) (v : Front) → Run f p (new_front status) v → IsKept v
kept f p status v r = (kept_run f p (new_front status) v r (agreed_start f p status) (record { same = refl; marked = λ l h. inl refl })).1

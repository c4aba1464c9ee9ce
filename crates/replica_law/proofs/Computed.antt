-- Computed runs are runs, and the example is one.
use Rattle.std.proofs.Common.{◌≡◌, ℕ, Bool, true, false, cond, ◌||◌, eqb, List, [], ◌∷◌, Option, Some, None, refl, sym, ap, subst, arith, ◌⊎◌, inl, ⊎_elim, eqb-true}
use Rattle.std.proofs.lemmas.Bool.Decides.{nat_tests}
use Rattle.commit_protocol.specs.Rows.{Row, row, is_within, is_in_one}
use Rattle.commit_protocol.specs.Network.{Topology}
use Rattle.commit_protocol.specs.Backend.Request.{Commit}
use Rattle.commit_protocol.specs.Protocol.{is_member, has_member, happens}
use Rattle.commit_protocol.specs.Views.{done_on}
use Rattle.commit_protocol.specs.Protocol.Move.{Writes}
use Rattle.commit_protocol.specs.Links.{Placement, Link, Status, is_ng}
use Rattle.commit_protocol.specs.Notes.{went_in, IsTold}
use Rattle.commit_protocol.specs.Copies.{is_put, batch_notes}
use Rattle.commit_protocol.specs.Replicas.{Front, AreWritten, MayDecide, MayCopy, Next, Run, new_front}
use Rattle.commit_protocol.specs.Notes.Follows.{Ends, Reads_pass, Writes_pass, Writes_here, Scans_pass}
use Rattle.commit_protocol.specs.Notes.IsReadAt.{Here, Earlier}
use Rattle.commit_protocol.specs.Replicas.Next.{Goes, Opens, Scans, Changes, Prepares, Decides, Copies, Is_recorded, Is_reopened, Falls, Rises, Moves_cursor, Completes}
use Rattle.commit_protocol.specs.Replicas.Run.{Stays, Steps}
use Rattle.commit_protocol.specs.Links.Cursor.{Nothing, All}
use Rattle.commit_protocol.specs.Replicas.Matter.{Statements}
use Rattle.commit_protocol.specs.Links.Status.{OK, NG}
use Rattle.protocol_law.proofs.Traffic.{is_none_from}
use Rattle.replica_law.specs.Actions.{Action, may, acted, may_all, acted_all}
use Rattle.replica_law.specs.Actions.Action.{Core, Open, Scan_on, Change_on, Prepare_on, Record_done, Reopen, Fall, Rise}
use Rattle.replica_law.specs.Examples.{wires, places, configured, one_key, all_keys, writes_both, front_ready, went_first, first_notes, front_writing, copies_over, front_copied, rows_copied, done_at_source, done_at_target, one_batch, front_copying, front_booked, front_whole, front_reopened, asks_both, loses_server, front_alone, went_alone, alone_notes, front_decided_alone}

-- ---- computed moves are moves

next_acted : (f : Topology) (p : Placement) (v : Front) (a : Action) → may f p v a ≡ true → Next f p v (acted f v a)
next_acted f p v (Core m) h = Goes m h
next_acted f p v (Open c x) h = Opens c x (grind arith) (grind arith)
next_acted f p v (Scan_on c fp) h = Scans c fp (grind arith) (grind arith) (eqb-true _ _ (grind arith))
next_acted f p v (Change_on c fp rows) h = Changes c fp rows (grind arith) (grind arith) (eqb-true _ _ (grind arith))
next_acted f p v (Prepare_on c x) h = Prepares c x (grind arith) (grind arith)
next_acted f p v Record_done h = Is_recorded
next_acted f p v (Reopen found) h = Is_reopened found
next_acted f p v (Fall l) h = Falls l (is_none_from v.writing (grind arith)) (grind arith)
next_acted f p v (Rise l) h = Rises l (is_none_from v.writing (grind arith)) (grind arith)

pub run_acted : (f : Topology) (p : Placement) (u v : Front) (more : List Action) → may_all f p v more ≡ true → Run f p u v → Run f p u (acted_all f v more)
run_acted f p u v [] h r = r
run_acted f p u v (a ∷ more) h r = run_acted f p u (acted f v a) more (grind arith) (Steps r (next_acted f p v a (grind arith)))

-- ---- the example

one_or_two : (c : ℕ) → is_member c (1 ∷ 2 ∷ []) ≡ true → (c ≡ 1) ⊎ (c ≡ 2)
one_or_two c h = grind (arith, nat_tests)

-- links of partition 0 that aren't NG are 0 and 1
zero_or_one : (l : ℕ) (s t : Status) → is_ng (cond (eqb l 0) s (cond (eqb l 1) t NG)) ≡ false → (l ≡ 0) ⊎ (l ≡ 1)
zero_or_one l s t h = grind (arith, nat_tests)

pub ready_run : Run wires places (new_front configured) front_ready
ready_run = run_acted wires places (new_front configured) (new_front configured) writes_both refl Stays

-- what holds of connection 1 at link 0 and of connection 2 at link 1 holds of each member at its link
both_told : (P : ℕ → ℕ → Type 0) → P 0 1 → P 1 2 → (l c : ℕ) → is_member c (1 ∷ 2 ∷ []) ≡ true → wires.home c ≡ l → P l c
both_told P zero_one one_two l c m h = ⊎_elim
    (λ (e : c ≡ 1). subst (λ d. wires.home d ≡ l → P l d) (sym e) (λ (q : 0 ≡ l). subst (λ n. P n 1) q zero_one) h)
    (λ (e : c ≡ 2). subst (λ d. wires.home d ≡ l → P l d) (sym e) (λ (q : 1 ≡ l). subst (λ n. P n 2) q one_two) h)
    (one_or_two c m)

first_told : (l c : ℕ) → is_member c (1 ∷ 2 ∷ []) ≡ true → wires.home c ≡ l → IsTold places l c first_notes (done_on c (front_ready.core.transaction 7).log)
first_told = both_told (λ l c. IsTold places l c first_notes (done_on c (front_ready.core.transaction 7).log))
    (record { changes = Writes_here refl (λ k. (refl, λ h. refl)) (Reads_pass (Scans_pass Ends)); reads = ((λ w. Earlier (Here ((λ k h. h), refl) Ends)), tt) })
    (record { changes = Writes_here refl (λ k. (refl, λ h. refl)) (Reads_pass (Scans_pass Ends)); reads = ((λ w. Earlier (Here ((λ k h. h), refl) Ends)), tt) })

first_written : AreWritten wires places front_ready.link (1 ∷ 2 ∷ []) first_notes
first_written = (
  refl,
  (λ l e n. ⊎_elim
      (λ (q : l ≡ 0). subst (λ m. (went_in m (front_ready.link m).epoch went_first ≡ true) × (has_member wires (places.link_server m) (1 ∷ 2 ∷ []) ≡ true)) (sym q) (refl, refl))
      (λ (q : l ≡ 1). subst (λ m. (went_in m (front_ready.link m).epoch went_first ≡ true) × (has_member wires (places.link_server m) (1 ∷ 2 ∷ []) ≡ true)) (sym q) (refl, refl))
      (zero_or_one l OK OK n)),
  tt,
)

first_decides : MayDecide wires places front_ready 7 (1 ∷ 2 ∷ []) first_notes
first_decides = record { ready = refl; noted = record { sent = refl; told = first_told }; writes = first_written; reads = refl }

copied_run : Run wires places (new_front configured) front_copied
copied_run = run_acted wires places (new_front configured) front_writing copies_over refl (Steps ready_run (Decides 7 (1 ∷ 2 ∷ []) first_notes first_decides))

at_three : (k : ℕ) → is_in_one one_key k ≡ true → Some (row 5) ≡ rows_copied k
at_three k h = let e : k ≡ 3 = grind (arith, nat_tests, h) in subst (λ n. Some (row 5) ≡ rows_copied n) (sym e) refl

source_told : IsTold places 0 1 (batch_notes places one_batch) done_at_source
source_told = record { changes = Writes_pass refl (Writes_pass refl (Reads_pass (Scans_pass Ends))); reads = ((λ w. Here ((λ k h. h), refl) Ends), tt) }

target_told : IsTold places 1 2 (batch_notes places one_batch) done_at_target
target_told = record { changes = Writes_here refl (λ k. (refl, λ h. at_three k h)) (Writes_here refl (λ k. (refl, λ h. refl)) (Reads_pass Ends)); reads = ((λ w. cc), tt) }

at_source : done_at_source ≡ done_on 1 (front_copied.core.transaction 8).log
at_source = refl

at_target : done_at_target ≡ done_on 2 (front_copied.core.transaction 8).log
at_target = refl

batch_told : (l c : ℕ) → is_member c (1 ∷ 2 ∷ []) ≡ true → wires.home c ≡ l → IsTold places l c (batch_notes places one_batch) (done_on c (front_copied.core.transaction 8).log)
batch_told = both_told (λ l c. IsTold places l c (batch_notes places one_batch) (done_on c (front_copied.core.transaction 8).log))
    (subst (λ ops. IsTold places 0 1 (batch_notes places one_batch) ops) at_source source_told)
    (subst (λ ops. IsTold places 1 2 (batch_notes places one_batch) ops) at_target target_told)

-- where no row is put, there is none
not_three : (b : Bool) (k : ℕ) → is_in_one one_key k ≡ b → b ≡ false → cond {A = Option Row} (is_in_one one_key k) (Some (row 5)) None ≡ None
not_three true k e h = cc
not_three false k e h = ap (λ v. cond {A = Option Row} v (Some (row 5)) None) e

cond_none : (a b : Bool) (o : Option Row) → o ≡ None → cond a (cond b o None) None ≡ None
cond_none true true o h = h
cond_none true false o h = refl
cond_none false b o h = refl

not_put : (b : Bool) → (b || false) ≡ false → b ≡ false
not_put true h = h
not_put false h = refl

none_else : (k : ℕ) → is_put (one_key ∷ []) k ≡ false → is_within all_keys k ≡ true → rows_copied k ≡ None
none_else k h w = cond_none _ _ _ (not_three _ k refl (not_put (is_in_one one_key k) h))

one_copies : MayCopy wires places front_copied 8 (1 ∷ 2 ∷ []) one_batch
one_copies = record {
  ready = refl;
  noted = record { sent = refl; told = batch_told };
  same = refl;
  source = refl;
  target = refl;
  begins = refl;
  ends = λ k h. grind (arith, nat_tests, h);
  put = none_else;
  within = λ k h. grind (arith, nat_tests, h);
}

pub booked_run : Run wires places (new_front configured) front_booked
booked_run = run_acted wires places (new_front configured) front_copying (Record_done ∷ asks_both (Commit 8)) refl (Steps copied_run (Copies 8 (1 ∷ 2 ∷ []) one_batch one_copies))

pub whole_run : Run wires places (new_front configured) front_whole
whole_run = Steps (Steps booked_run (Moves_cursor 1 All refl refl (inl refl))) (Completes 1 refl refl (inl refl))

pub reopened_run : (found : Bool) → Run wires places (new_front configured) (front_reopened found)
reopened_run found = run_acted wires places (new_front configured) front_writing (Reopen found ∷ []) refl (Steps ready_run (Decides 7 (1 ∷ 2 ∷ []) first_notes first_decides))

-- ---- a session that goes on after it lost a server

just_one : (c : ℕ) → is_member c (1 ∷ []) ≡ true → c ≡ 1
just_one c h = grind (arith, nat_tests)

alone_told : (l c : ℕ) → is_member c (1 ∷ []) ≡ true → wires.home c ≡ l → IsTold places l c alone_notes (done_on c (front_alone.core.transaction 7).log)
alone_told l c m h = subst (λ d. wires.home d ≡ l → IsTold places l d alone_notes (done_on d (front_alone.core.transaction 7).log)) (sym (just_one c m))
    (λ (q : 0 ≡ l). subst (λ n. IsTold places n 1 alone_notes (done_on 1 (front_alone.core.transaction 7).log)) q
    (record { changes = Writes_here refl (λ k. (refl, λ h. refl)) (Reads_pass (Scans_pass Ends)); reads = ((λ w. Earlier (Here ((λ k h. h), refl) Ends)), tt) })) h

only_zero : (l : ℕ) → is_ng (front_alone.link l).status ≡ false → l ≡ 0
only_zero l h = go (eqb l 1) (eqb l 0) refl refl h
  where
    go : (a b : Bool) → eqb l 1 ≡ a → eqb l 0 ≡ b → is_ng (cond {A = Link} a (record { status = NG; epoch = 1; cursor = Nothing }) (record { status = cond b OK (cond a OK NG); epoch = 0; cursor = Nothing })).status ≡ false → l ≡ 0
    go true b e g n = cc
    go false true e g n = eqb-true l 0 g
    go false false e g n = cc

alone_written : AreWritten wires places front_alone.link (1 ∷ []) alone_notes
alone_written = (refl, (λ l e n. subst (λ m. (went_in m (front_alone.link m).epoch went_alone ≡ true) × (has_member wires (places.link_server m) (1 ∷ []) ≡ true)) (sym (only_zero l n)) (refl, refl)), tt)

pub alone_run : Run wires places (new_front configured) front_decided_alone
alone_run = run_acted wires places (new_front configured) (record front_alone { core = happens wires front_alone.core (Writes 7 (1 ∷ [])); writing = Some (Statements alone_notes) }) (Record_done ∷ []) refl
    (Steps (run_acted wires places (new_front configured) (new_front configured) loses_server refl Stays)
    (Decides 7 (1 ∷ []) alone_notes (record { ready = refl; noted = record { sent = refl; told = alone_told }; writes = alone_written; reads = refl })))

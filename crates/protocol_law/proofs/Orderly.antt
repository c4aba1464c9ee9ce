-- It stays so as an answer is read, and after every move.
use Rattle.std.proofs.Common.{◌≡◌, ◌≢◌, ℕ, Bool, true, false, cond, List, [], ◌∷◌, Option, Some, None, refl, ap, arith}
use Rattle.std.proofs.lemmas.Bool.Decides.{nat_tests}
use Rattle.std.proofs.lemmas.Bool.{cases_Bool}
use Rattle.commit_protocol.specs.Backend.{Request}
use Rattle.commit_protocol.specs.Backend.Request.{Start, Scan, Change, End, Prepare, Commit, Rollback, Recover}
use Rattle.commit_protocol.specs.Network.{Topology, Connection, Reply}
use Rattle.commit_protocol.specs.Protocol.{World, Decision, Step, Move, is_fresh, is_live, may_ask, asks, reads, noting, may_decide, writes, recorded, uses_connection, with_phase, sees_hangup, stops, happens, start}
use Rattle.commit_protocol.specs.Views.{done_on}
use Rattle.commit_protocol.specs.Network.Reply.{Refused, Ran, Did, Listed}
use Rattle.commit_protocol.specs.Protocol.Phase.{Live, Writing, Over}
use Rattle.protocol_law.proofs.Locks.{locked_new}
use Rattle.commit_protocol.specs.Protocol.Move.{Draws, Dials, Uses, Sends, Delivers, Refuses, Faults, Reads, Breaks, Hangup_seen, Writes, Recorded, Gives_up, Stops, Front_stops, Reopens}
use Rattle.protocol_law.proofs.Traffic.{is_ran, no_ran, IsAllowed, AreAllowed, IsOrderly, allowed_still, set_cases, guarded, unless, live_or_over, fresh_or_over, Waits}
use Rattle.protocol_law.proofs.Frames.{orderly_phase, orderly_uses, orderly_fewer, orderly_recorded, orderly_progress, orderly_less, less_broken, less_ended, less_dialled, less_at, stops_less, ends_all, orderly_ends}
use Rattle.protocol_law.proofs.Sending.{orderly_sends}
use Rattle.protocol_law.proofs.Serving.{orderly_delivers, orderly_refuses, orderly_faults}

pub done_on_other : (c d : ℕ) (r : Reply) (log : List Step) → d ≢ c → done_on d (noting c r log) ≡ done_on d log
done_on_other c d Refused log ne = refl
done_on_other c d (Listed xids) log ne = refl
done_on_other c d (Ran op) log ne = grind (arith, nat_tests)
done_on_other c d Did log ne = refl

pub done_on_quiet : (c d : ℕ) (r : Reply) (log : List Step) → is_ran r ≡ false → done_on d (noting c r log) ≡ done_on d log
done_on_quiet c d Refused log h = refl
done_on_quiet c d (Listed xids) log h = refl
done_on_quiet c d (Ran op) log h = cc
done_on_quiet c d Did log h = refl

reads_allowed : (f : Topology) (w : World) (c : ℕ) (r0 : Reply) (q : List Reply) (d : ℕ) (rest : List Request) (r : Request) → IsAllowed f w d rest r → IsAllowed f (reads w c (r0 ∷ q)) d rest r
reads_allowed f w c r0 q d rest (Start y) a = grind (arith, nat_tests)
reads_allowed f w c r0 q d rest (Scan fp) a = grind (arith, nat_tests)
reads_allowed f w c r0 q d rest (Change fp rows) a = grind (arith, nat_tests)
reads_allowed f w c r0 q d rest (End y) a = tt
reads_allowed f w c r0 q d rest Recover a = tt
reads_allowed f w c r0 q d rest (Prepare y) a = grind (arith, nat_tests)
reads_allowed f w c r0 q d rest (Commit y) a = a
reads_allowed f w c r0 q d rest (Rollback y) a = grind (arith, nat_tests)

pub orderly_reads : (f : Topology) (w : World) (c : ℕ) (r : Reply) (q : List Reply) → (w.connection c).unread ≡ r ∷ q → IsOrderly f w → IsOrderly f (reads w c (r ∷ q))
orderly_reads f w c r q u i = record {
  locked = i.locked;
  sent = λ d. set_cases (λ e (ch : Connection). AreAllowed f (reads w c (r ∷ q)) e ch.queue) w.connection c _ d
      (allowed_still f w (reads w c (r ∷ q)) c (reads_allowed f w c r q c) (w.connection c).queue (i.sent c))
      (λ ne. allowed_still f w (reads w c (r ∷ q)) d (reads_allowed f w c r q d) (w.connection d).queue (i.sent d));
  own = λ d y b h g e p. grind (arith, nat_tests, i.own d y b);
  used = λ s y b h. grind (arith, nat_tests, i.used s y b h);
  using = λ d h. grind (arith, nat_tests, i.using d);
  blank = λ y h. ((λ d. grind (arith, nat_tests, i.blank y)), λ s. grind (arith, nat_tests, i.blank y));
  unused = λ y d h. grind (arith, nat_tests, i.unused y d, i.first c, i.using c, ap no_ran u, done_on_other c d r (w.transaction y).log, done_on_quiet c d r (w.transaction y).log, cases_Bool (is_ran r));
  first = λ d h. grind (arith, nat_tests, i.first d, ap no_ran u, done_on_other c d r (w.transaction (w.connection c).xid).log, done_on_quiet c d r (w.transaction (w.connection c).xid).log);
  quiet = λ d h. grind (arith, nat_tests, i.quiet d, ap no_ran u);
  at_home = λ y s d h. grind (arith, nat_tests, i.at_home y s d);
  unready = λ y s h. grind (arith, nat_tests, i.unready y s);
  decided = λ y s h. grind (arith, nat_tests, i.decided y s h);
}

pub orderly_recording : (f : Topology) (w : World) (p : Option Decision) → w.pending ≡ p → Waits f w → IsOrderly f w → IsOrderly f (recorded w p)
orderly_recording f w None e k i = i
orderly_recording f w (Some d) e k i = orderly_recorded f w d (k d e).0 (k d e).2 i

pub orderly_happens : (f : Topology) (w : World) (m : Move) → Waits f w → IsOrderly f w → IsOrderly f (happens f w m)
orderly_happens f w (Draws x) k i = guarded (IsOrderly f) (is_fresh (w.transaction x).phase) (with_phase w x Live) w i (λ h. orderly_phase f w x Live (λ o. absurd (fresh_or_over _ h o)) refl i)
orderly_happens f w (Dials c) k i = unless (IsOrderly f) (w.connection c).dialled _ w i (λ h. orderly_less f w _ (less_at w c _ (less_dialled (w.connection c))) i)
orderly_happens f w (Uses c x) k i = guarded (IsOrderly f) _ (uses_connection w c x) w i (λ h. orderly_uses f w c x (grind arith) (grind arith) (grind arith) i)
orderly_happens f w (Sends c r) k i = guarded (IsOrderly f) (may_ask f w c r) (asks f w c r) w i (λ h. orderly_sends f w c r h i)
orderly_happens f w (Delivers c) k i = orderly_delivers f w c (w.connection c).queue refl i
orderly_happens f w (Refuses c) k i = orderly_refuses f w c (w.connection c).queue refl i
orderly_happens f w (Faults c found) k i = orderly_faults f w c found (w.connection c).queue refl i
orderly_happens f w (Reads c) k i = go (w.connection c).unread refl
  where
    go : (q : List Reply) → (w.connection c).unread ≡ q → IsOrderly f (reads w c q)
    go [] e = i
    go (r ∷ q) e = orderly_reads f w c r q e i
orderly_happens f w (Breaks c) k i = orderly_less f w _ (less_at w c _ (less_broken (w.connection c))) i
orderly_happens f w (Hangup_seen c) k i = unless (IsOrderly f) (w.connection c).stands (sees_hangup f w c) w i (λ h. orderly_less f _ _ (less_at w c _ (less_ended (w.connection c))) (orderly_fewer f w (f.home c) _ i))
orderly_happens f w (Writes x ms) k i = guarded (IsOrderly f) (may_decide f w x ms) (writes w x ms) w i (λ h. orderly_progress f (with_phase w x Writing) _ (orderly_phase f w x Writing (λ o. absurd (live_or_over _ (grind arith) o)) refl i))
orderly_happens f w Recorded k i = orderly_recording f w w.pending refl k i
orderly_happens f w (Gives_up x) k i = guarded (IsOrderly f) (is_live (w.transaction x).phase) (with_phase w x Over) w i (λ h. orderly_phase f w x Over (λ o. refl) refl i)
orderly_happens f w (Stops s) k i = orderly_less f _ (stops f w s).connection (stops_less f w s) (orderly_fewer f w s _ i)
orderly_happens f w Front_stops k i = orderly_less f w _ (λ c. less_broken (w.connection c)) i
orderly_happens f w (Reopens found) k i = orderly_progress f (ends_all (cond found (recorded w w.pending) w)) None (orderly_ends f _ (either found))
  where
    either : (b : Bool) → IsOrderly f (cond b (recorded w w.pending) w)
    either true = orderly_recording f w w.pending refl k i
    either false = i

pub orderly_start : (f : Topology) → IsOrderly f start
orderly_start f = record {
  locked = λ s. locked_new;
  sent = λ c. tt;
  own = λ c y b h. cc;
  used = λ s x b h. cc;
  using = λ c h. cc;
  blank = λ x h. ((λ c. refl), λ s. refl);
  unused = λ x c h. refl;
  first = λ c h. (refl, refl);
  quiet = λ c h. cc;
  at_home = λ x s c h. cc;
  unready = λ x s h. refl;
  decided = λ x s h. cc;
}

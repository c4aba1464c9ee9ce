-- A front's sessions by number.
use Rattle.std.proofs.Common.{◌≡◌, ℕ, List, [], ◌∷◌, Bool, true, false, cond, Option, Some, None, refl, sym, ap, ◌∙◌, subst, arith, Ordering, Less, Equal, Greater}
use Rattle.std.specs.Prelude.{is_some, is_none}
use Rattle.std.proofs.lemmas.Cmp.{tied_itself, nat_cmp_total}
use Rattle.std.specs.BTreeMap.{is_at, insert_entry}
use Rattle.std.specs.List.{AllByRecursion}
use Rattle.std.specs.Map.{lookup, set_value}
use Rattle.std.specs.Ordering.{nat_cmp, match_ordering, is_eq}
use Rattle.std.proofs.lemmas.Bool.{false≢true}
use Rattle.front_core.specs.declared.work.Work.{Work}
use Rattle.front_core.specs.declared.work.Work.TheVariants.{Idle}

-- sessions by number
abbrev pub Sessions : Type 0
Sessions = List (ℕ × Work)

-- no statement is at work, and none owes anything
abbrev pub AreIdle : Sessions → Type 0
AreIdle sessions = AllByRecursion (λ (e : ℕ × Work). e.1 ≡ Idle) sessions

nat_cmp_same : (n : ℕ) → is_eq (nat_cmp n n) ≡ true
nat_cmp_same n = ap is_eq (tied_itself nat_cmp_total n)

module _ (test : ℕ → Bool) where
  there_by : (e : ℕ × Work) (es : Sessions) (v w : Work) (b : Bool) → test e.0 ≡ b → (lookup test es ≡ Some v → lookup test (set_value test es w) ≡ Some w)
      → cond b (Some e.1) (lookup test es) ≡ Some v → lookup test (cond b ((e.0, w) ∷ es) (e ∷ set_value test es w)) ≡ Some w
  there_by e es v w true is more k = rw is refl
  there_by e es v w false is more k = rw is (more k)

  -- what is written is found
  pub set_there : (es : Sessions) (v w : Work) → lookup test es ≡ Some v → lookup test (set_value test es w) ≡ Some w
  set_there [] v w h = absurd (cc)
  set_there (e ∷ es) v w h = there_by e es v w (test e.0) refl (set_there es v w) h

  again_by : (e : ℕ × Work) (es : Sessions) (v w : Work) (b : Bool) → test e.0 ≡ b → set_value test (set_value test es v) w ≡ set_value test es w
      → set_value test (cond b ((e.0, v) ∷ es) (e ∷ set_value test es v)) w ≡ cond b ((e.0, w) ∷ es) (e ∷ set_value test es w)
  again_by e es v w true is more = rw is refl
  again_by e es v w false is more = rw is (ap (λ l. e ∷ l) more)

  -- what is written twice was written once
  pub set_again : (es : Sessions) (v w : Work) → set_value test (set_value test es v) w ≡ set_value test es w
  set_again [] v w = refl
  set_again (e ∷ es) v w = again_by e es v w (test e.0) refl (set_again es v w)

  -- a session that is found is idle
  found_by : (e : ℕ × Work) (es : Sessions) (w : Work) (b : Bool) → e.1 ≡ Idle → (lookup test es ≡ Some w → lookup test es ≡ Some Idle)
      → cond b (Some e.1) (lookup test es) ≡ Some w → cond b (Some e.1) (lookup test es) ≡ Some Idle
  found_by e es w true is more k = ap (λ x. Some x) is
  found_by e es w false is more k = more k

  pub found_idle : (es : Sessions) (w : Work) → AreIdle es → lookup test es ≡ Some w → lookup test es ≡ Some Idle
  found_idle [] w all h = absurd (cc)
  found_idle (e ∷ es) w all h = found_by e es w (test e.0) all.0 (found_idle es w all.1) h

module _ (n : ℕ) where
  own : is_eq (nat_cmp n n) ≡ true
  own = nat_cmp_same n

  opened_by : (e : ℕ × Work) (es : Sessions) (o : Ordering) → nat_cmp n e.0 ≡ o → lookup (is_at (nat_cmp n)) (insert_entry nat_cmp es n Idle) ≡ Some Idle
      → lookup (is_at (nat_cmp n)) (match_ordering o ((n, Idle) ∷ e ∷ es) ((e.0, Idle) ∷ es) (e ∷ insert_entry nat_cmp es n Idle)) ≡ Some Idle
  opened_by e es Less is more = rw own refl
  opened_by e es Equal is more = rw is refl
  opened_by e es Greater is more = rw is more

  -- a session that is opened is idle
  pub opened_there : (es : Sessions) → lookup (is_at (nat_cmp n)) (insert_entry nat_cmp es n Idle) ≡ Some Idle
  opened_there [] = rw own refl
  opened_there (e ∷ es) = opened_by e es (nat_cmp n e.0) refl (opened_there es)

  idle_by : (e : ℕ × Work) (es : Sessions) (o : Ordering) → e.1 ≡ Idle → AreIdle es → AreIdle (insert_entry nat_cmp es n Idle)
      → AreIdle (match_ordering o ((n, Idle) ∷ e ∷ es) ((e.0, Idle) ∷ es) (e ∷ insert_entry nat_cmp es n Idle))
  idle_by e es Less is all more = (refl, (is, all))
  idle_by e es Equal is all more = (refl, all)
  idle_by e es Greater is all more = (is, more)

  pub opened_idle : (es : Sessions) → AreIdle es → AreIdle (insert_entry nat_cmp es n Idle)
  opened_idle [] all = (refl, tt)
  opened_idle (e ∷ es) all = idle_by e es (nat_cmp n e.0) all.0 all.1 (opened_idle es all.1)

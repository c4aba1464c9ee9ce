-- The session of packets stays open.
use Rattle.std.proofs.Common.{◌≡◌, ℕ, zero, suc, List, [], ◌∷◌, Bool, true, false, cond, Option, Some, None, refl, sym, ap, ◌∙◌, subst}
use Rattle.std.specs.Prelude.{is_some, ◌||◌}
use Rattle.std.specs.Ordering.{nat_cmp}
use Rattle.std.specs.BTreeMap.{is_at}
use Rattle.std.specs.Map.{lookup, set_value}
use Rattle.sql_text.specs.declared.link.LinkAnswer.{LinkAnswer}
use Rattle.branch_store.specs.Store.{Store}
use Rattle.front_core.specs.declared.work.Work.{Work}
use Rattle.front_core.specs.declared.event.Event.{Event}
use Rattle.front_core.specs.declared.event.Event.TheVariants.{Statement as Asked, Got}
use Rattle.front_core.specs.declared.event.Output.{Output}
use Rattle.front_core.specs.declared.event.Outputs.{Outputs}
use Rattle.front_core.specs.declared.event.Outputs.TheVariants.{Given, NoRoom}
use Rattle.front_core.specs.Core.{Front, IsStep, StarvesAt, comes_to, comes, got_by, got, fits, work_of, rests, most_turns}
use Rattle.front_core.specs.Outputs.{sends, outputs_of}
use Rattle.world_runs.proofs.Sessions.{Sessions}
use Rattle.front_node.specs.Asking.{Busy, Node, Turns, GoesOn, Runs, is_none_left}
use Rattle.wire_law.specs.Backing.{asks_store}

-- the servers' stores
abbrev pub Stores : Type 0
Stores = List Store

-- whether a number is the session's
abbrev pub own : ℕ → Bool
own = is_at (nat_cmp 1)

kept_first : (test : ℕ → Bool) (e : ℕ × Work) (es : Sessions) (w : Work) (b : Bool) → test e.0 ≡ b → is_some (lookup test (set_value test es w)) ≡ is_some (lookup test es)
    → is_some (lookup test (cond b ((e.0, w) ∷ es) (e ∷ set_value test es w))) ≡ is_some (cond b (Some e.1) (lookup test es))
kept_first test e es w true is more = rw is refl
kept_first test e es w false is more = rw is more

-- what is set stays there
kept : (test : ℕ → Bool) (es : Sessions) (w : Work) → is_some (lookup test (set_value test es w)) ≡ is_some (lookup test es)
kept test [] w = refl
kept test (e ∷ es) w = kept_first test e es w (test e.0) refl (kept test es w)

-- the session is open
abbrev pub IsOpen : Front → Type 0
IsOpen f = is_some (work_of f 1) ≡ true

set_open : (f : Front) (drawn : ℕ) (w : Work) → IsOpen f → IsOpen (record { catalog = f.catalog; drawn = drawn; sessions = set_value own f.sessions w })
set_open f drawn w h = kept own f.sessions w ∙ h

came_open : (f : Front) (text : List ℕ) (b : Bool) (found : Option Work) → IsOpen f → IsOpen (cond b (comes_to f 1 text found) (f, [])).0
came_open f text false found h = h
came_open f text true None h = h
came_open f text true (Some work) h = set_open f (comes f.catalog f.drawn text work).0 (comes f.catalog f.drawn text work).1 h

got_open : (f : Front) (answer : LinkAnswer) (b : Bool) (found : Option Work) → IsOpen f → IsOpen (cond b (got_by f 1 answer found) (f, [])).0
got_open f answer false found h = h
got_open f answer true None h = h
got_open f answer true (Some work) h = set_open f (got f.catalog f.drawn work answer).0 (got f.catalog f.drawn work answer).1 h

starved_open : (f g : Front) (e : Event) (found : Option Work) → StarvesAt f 1 e found g → IsOpen f → IsOpen g
starved_open f g e None s h = absurd s
starved_open f g e (Some work) s h = subst IsOpen (sym s.2) (set_open f f.drawn s.0 h)

asked_keeps : (f g : Front) (text : List ℕ) (given : Outputs) → IsStep f (Asked 1 text) given g → IsOpen f → IsOpen g
asked_keeps f g text (Given outputs) s h = subst IsOpen (sym (ap (λ (r : Front × List Output). r.0) s)) (came_open f text (fits f (Asked 1 text)) (work_of f 1) h)
asked_keeps f g text NoRoom s h = starved_open f g (Asked 1 text) (work_of f 1) s.1 h

got_keeps : (f g : Front) (server : ℕ) (answer : LinkAnswer) (given : Outputs) → IsStep f (Got 1 server answer) given g → IsOpen f → IsOpen g
got_keeps f g server answer (Given outputs) s h = subst IsOpen (sym (ap (λ (r : Front × List Output). r.0) s)) (got_open f answer (fits f (Got 1 server answer)) (work_of f 1) h)
got_keeps f g server answer NoRoom s h = starved_open f g (Got 1 server answer) (work_of f 1) s.1 h

goes_keeps : (b : Bool) (most : ℕ) (old new : Busy Stores) (outputs : List Output)
    → ((middle : Busy Stores) (more : List Output) → Turns asks_store 1 most middle more new → IsOpen middle.front → IsOpen new.front)
    → GoesOn asks_store 1 b (Turns asks_store 1 most) old outputs new → IsOpen old.front → IsOpen new.front
goes_keeps true most old new outputs again g h = subst (λ (b : Busy Stores). IsOpen b.front) (sym g.1) h
goes_keeps false most old new outputs again g h =
    let t = g.3 in
    again g.0 g.2 g.5 (got_keeps old.front g.0.front t.server t.answer t.given t.step h)

turns_keep : (most : ℕ) (old new : Busy Stores) (outputs : List Output) → Turns asks_store 1 most old outputs new → IsOpen old.front → IsOpen new.front
unfolding Turns
turns_keep zero old new outputs t h = subst (λ (b : Busy Stores). IsOpen b.front) (sym t.1) h
turns_keep (suc most) old new outputs t h =
    goes_keeps (rests (work_of old.front 1) || is_none_left old.requests) most old new outputs (λ middle more u k. turns_keep most middle new more u k) t h

-- a statement that is run leaves the session open
pub runs_keep : (old new : Node Stores) (text : List ℕ) (outputs : List Output) → Runs asks_store 1 old text outputs new → IsOpen old.front → IsOpen new.front
runs_keep old new text outputs r h =
    subst (λ (m : Node Stores). IsOpen m.front) (sym r.new_is)
    (turns_keep most_turns (record { front = r.begun; requests = sends (outputs_of r.given); backs = old.backs }) r.end r.more r.turns (asked_keeps old.front r.begun text r.given r.step h))

-- What a statement of the session asks of the stores is what a client's line asks of the world.
use Rattle.std.proofs.Common.{◌≡◌, ◌≢◌, ℕ, zero, suc, ◌++◌, List, [], ◌∷◌, Bool, true, false, cond, Option, Some, None, refl, sym, ap, ◌∙◌, subst}
use Rattle.std.specs.Prelude.{◌||◌, ◌&&◌, slice_get}
use Rattle.std.specs.Option.{option_or}
use Rattle.catalog.specs.Views.{View}
use Rattle.sql_text.specs.declared.link.LinkRequest.{LinkRequest}
use Rattle.sql_text.specs.declared.link.LinkAnswer.{LinkAnswer}
use Rattle.branch_store.specs.Store.{Store, store_step}
use Rattle.sql_replies.specs.Errors.{no_memory_reply}
use Rattle.txn_phases.specs.declared.owed.Owed.{Owed}
use Rattle.front_core.specs.declared.work.Work.{Work}
use Rattle.front_core.specs.declared.work.Work.TheVariants.{Idle, Owing, Clearing, Runs as AtWork}
use Rattle.front_core.specs.declared.event.Event.{Event}
use Rattle.front_core.specs.declared.event.Event.TheVariants.{Open, Statement as Asked, Got, Closed}
use Rattle.front_core.specs.declared.event.Output.{Output}
use Rattle.front_core.specs.declared.event.Output.TheVariants.{Answer}
use Rattle.front_core.specs.declared.event.Outputs.{Outputs}
use Rattle.front_core.specs.declared.event.Outputs.TheVariants.{Given, NoRoom}
use Rattle.front_core.specs.Core.{Front, IsStep, Starves, StarvesAt, front_step, work_of, rests, is_idle, is_settled, most_turns}
use Rattle.front_core.specs.Outputs.{sends, outputs_of}
use Rattle.world_runs.specs.World.{World, after_outputs, turn, turns, runs, is_none}
use Rattle.world_runs.proofs.Sessions.{set_there}
use Rattle.front_node.specs.Asking.{Busy, Node, Turn, Turns, GoesOn, Runs, is_none_left, reply_in}
use Rattle.front_node.proofs.RepliesIn.{reply_in-append}
use Rattle.wire_law.specs.Backing.{stored_at, asks_store}
use Rattle.wire_law.proofs.Kept.{Stores, own}

-- the world of a front in the middle of a statement
abbrev world_of : Busy Stores → World
world_of b = record { front = b.front; stores = b.backs; requests = b.requests; answers = [] }

-- NO WANT OF MEMORY

-- the answer among the outputs isn't that memory is wanting
abbrev pub NotStarved : List Output → Type 0
NotStarved outputs = reply_in outputs ≢ Some no_memory_reply

owing_by : (owed : Owed) (b : Bool) → is_idle (cond b Idle (Owing owed)) ≡ true
owing_by owed true = refl
owing_by owed false = refl

starved_idle : (catalog : View) (work left : Work) (e : Event) → Starves catalog work e left → is_idle left ≡ true
starved_idle catalog Idle left e s = ap is_idle s
starved_idle catalog (Owing owed) left e s = ap is_idle s ∙ owing_by owed (is_settled owed)
starved_idle catalog (Clearing owed text) left (Got n server answer) s = ap is_idle s ∙ owing_by _ _
starved_idle catalog (Clearing owed text) left (Open n) s = absurd s
starved_idle catalog (Clearing owed text) left (Asked n other) s = absurd s
starved_idle catalog (Clearing owed text) left (Closed n) s = absurd s
starved_idle catalog (AtWork run) left (Got n server answer) s = ap is_idle s ∙ owing_by _ _
starved_idle catalog (AtWork run) left (Open n) s = absurd s
starved_idle catalog (AtWork run) left (Asked n other) s = absurd s
starved_idle catalog (AtWork run) left (Closed n) s = absurd s

-- after an event for which there was no memory the session rests
starved_rests : (f g : Front) (e : Event) (found : Option Work) → work_of f 1 ≡ found → StarvesAt f 1 e found g → rests (work_of g 1) ≡ true
starved_rests f g e None is s = absurd s
starved_rests f g e (Some work) is s =
    subst (λ (x : Front). rests (work_of x 1) ≡ true) (sym s.2) (ap rests (set_there own f.sessions work s.0 is) ∙ starved_idle f.catalog work s.0 e s.1)

-- TURNS

-- a request reaches its server's store, and its answer is read
turn_on : (f g : Front) (stores left : Stores) (server : ℕ) (request : LinkRequest) (others : List (ℕ × LinkRequest)) (answer : LinkAnswer) (given : List Output) (store : Store)
    → slice_get stores server ≡ Some store → (left, answer) ≡ stored_at stores server (store_step store 1 request) → (g, given) ≡ front_step f (Got 1 server answer)
    → turn (record { front = f; stores = stores; requests = (server, request) ∷ others; answers = [] }) 1
    ≡ (record { front = g; stores = left; requests = others ++ sends given; answers = [] }, given)
turn_on f g stores left server request others answer given store there h k =
    let reads : Stores × LinkAnswer → World × List Output =
    λ (p : Stores × LinkAnswer). (let s = front_step f (Got 1 server p.1) in (record { front = s.0; stores = p.0; requests = others ++ sends s.1; answers = [] }, s.1)) in
    let now : turn (record { front = f; stores = stores; requests = (server, request) ∷ others; answers = [] }) 1 ≡ reads (stored_at stores server (store_step store 1 request)) = rw there refl in
    now ∙ ap reads (sym h) ∙ ap (λ (s : Front × List Output). (record { front = s.0; stores = left; requests = others ++ sends s.1; answers = [] }, s.1)) (sym k)

-- a turn of the front over the stores is a turn of the world
turn_is : (old new : Busy Stores) (outputs : List Output) (t : Turn asks_store 1 old outputs new) (given : List Output) → t.given ≡ Given given → turn (world_of old) 1 ≡ (world_of new, outputs)
turn_is old new outputs t given e =
    let step : (new.front, given) ≡ front_step old.front (Got 1 t.server t.answer) = subst (λ o. IsStep old.front (Got 1 t.server t.answer) o new.front) e t.step in
    let said : outputs ≡ given = t.outputs_are ∙ ap outputs_of e in
    ap (λ rs. turn (record { front = old.front; stores = old.backs; requests = rs; answers = [] }) 1) t.oldest
    ∙ turn_on old.front new.front old.backs new.backs t.server t.request t.others t.answer given t.asked.0 t.asked.1 t.asked.2 step
    ∙ ap (λ os. (record { front = new.front; stores = new.backs; requests = t.others ++ sends os; answers = [] }, os)) (sym said)
    ∙ ap (λ rs. (record { front = new.front; stores = new.backs; requests = rs; answers = [] }, outputs)) (sym t.requests_are)

-- a session that rests has nothing more to say
says_nothing : (most : ℕ) (old new : Busy Stores) (outputs : List Output) → rests (work_of old.front 1) ≡ true → Turns asks_store 1 most old outputs new → outputs ≡ []
unfolding Turns
says_nothing zero old new outputs h t = t.0
says_nothing (suc most) old new outputs h t = (subst (λ b. GoesOn asks_store 1 (b || is_none_left old.requests) (Turns asks_store 1 most) old outputs new) h t).0

-- what follows a turn isn't starved, where the whole isn't
not_after : (first more : List Output) → NotStarved (first ++ more) → NotStarved more
not_after first more h e = h (reply_in-append first more ∙ ap (λ o. option_or o (reply_in first)) e)

given_turn : (most : ℕ) (old middle new : Busy Stores) (first more : List Output) (t : Turn asks_store 1 old first middle) → Turns asks_store 1 most middle more new → NotStarved (first ++ more)
    → (given : List Output) × (t.given ≡ Given given)
given_turn most old middle new first more t rest h = by_given t.given refl where
  by_given : (o : Outputs) → t.given ≡ o → (given : List Output) × (t.given ≡ Given given)
  by_given (Given given) e = (given, e)
  by_given NoRoom e =
      let starved = subst (λ o. IsStep old.front (Got 1 t.server t.answer) o middle.front) e t.step in
      let rests_now = starved_rests old.front middle.front (Got 1 t.server t.answer) (work_of old.front 1) refl starved.1 in
      let none : more ≡ [] = says_nothing most middle new more rests_now rest in
      let one : first ≡ Answer None no_memory_reply ∷ [] = t.outputs_are ∙ ap outputs_of e in
      absurd (h (ap reply_in (ap (λ os. os ++ more) one ∙ ap (λ os. (Answer None no_memory_reply ∷ []) ++ os) none)))

turns_end : (old new : Busy Stores) (outputs : List Output) → outputs ≡ [] → new ≡ old → ◌≡◌ {A = World × List Output} (world_of old, []) (world_of new, outputs)
turns_end old new outputs n e = ap (λ (b : Busy Stores). (world_of b, [])) (sym e) ∙ ap (λ os. (world_of new, os)) (sym n)

turns_first : (b : Bool) (rs : List (ℕ × LinkRequest)) (most : ℕ) (old new : Busy Stores) (outputs : List Output) → old.requests ≡ rs
    → ((middle : Busy Stores) (more : List Output) → Turns asks_store 1 most middle more new → NotStarved more → turns most (world_of middle) 1 ≡ (world_of new, more))
    → GoesOn asks_store 1 (b || is_none_left rs) (Turns asks_store 1 most) old outputs new → NotStarved outputs
    → (let r : World × List Output = cond (b || (is_none rs && true)) (world_of old, []) (let t = turn (world_of old) 1 in after_outputs t.1 (turns most t.0 1)) in r ≡ (world_of new, outputs))
turns_first true rs most old new outputs f again g h = turns_end old new outputs g.0 g.1
turns_first false [] most old new outputs f again g h = turns_end old new outputs g.0 g.1
turns_first false (r ∷ rs) most old new outputs f again g h =
    let middle = g.0 in let first = g.1 in let more = g.2 in
    let whole : NotStarved (first ++ more) = subst NotStarved g.4 h in
    let given = given_turn most old middle new first more g.3 g.5 whole in
    ap (λ (t : World × List Output). after_outputs t.1 (turns most t.0 1)) (turn_is old middle first g.3 given.0 given.1)
    ∙ ap (after_outputs first) (again middle more g.5 (not_after first more whole))
    ∙ ap (λ os. (world_of new, os)) (sym g.4)

-- turns of the front over the stores are turns of the world
turns_are : (most : ℕ) (old new : Busy Stores) (outputs : List Output) → Turns asks_store 1 most old outputs new → NotStarved outputs → turns most (world_of old) 1 ≡ (world_of new, outputs)
unfolding turns Turns
turns_are zero old new outputs t h = turns_end old new outputs t.0 t.1
turns_are (suc most) old new outputs t h =
    turns_first (rests (work_of old.front 1)) old.requests most old new outputs refl (λ middle more u k. turns_are most middle new more u k) t h

-- STATEMENTS

-- a statement that is run over the stores is a client's line of the world
pub runs_are : (old new : Node Stores) (text : List ℕ) (outputs : List Output) → Runs asks_store 1 old text outputs new → NotStarved outputs
    → (requests : List (ℕ × LinkRequest))
    × (runs (record { front = old.front; stores = old.backs; requests = []; answers = [] }) 1 text ≡ (record { front = new.front; stores = new.backs; requests = requests; answers = [] }, outputs))
runs_are old new text outputs r h = by_given r.given refl where
  whole : NotStarved (outputs_of r.given ++ r.more)
  whole = subst NotStarved r.outputs_are h

  by_given : (o : Outputs) → r.given ≡ o → (requests : List (ℕ × LinkRequest))
      × (runs (record { front = old.front; stores = old.backs; requests = []; answers = [] }) 1 text ≡ (record { front = new.front; stores = new.backs; requests = requests; answers = [] }, outputs))
  by_given NoRoom e =
      let starved = subst (λ o. IsStep old.front (Asked 1 text) o r.begun) e r.step in
      let rests_now = starved_rests old.front r.begun (Asked 1 text) (work_of old.front 1) refl starved.1 in
      let none : r.more ≡ [] = says_nothing most_turns _ r.end r.more rests_now r.turns in
      absurd (whole (ap reply_in (ap (λ o. outputs_of o ++ r.more) e ∙ ap (λ os. (Answer None no_memory_reply ∷ []) ++ os) none)))
  by_given (Given given) e =
      let step : (r.begun, given) ≡ front_step old.front (Asked 1 text) = subst (λ o. IsStep old.front (Asked 1 text) o r.begun) e r.step in
      let said : outputs_of r.given ≡ given = ap outputs_of e in
      let busy : List Output → Busy Stores = λ os. record { front = r.begun; requests = sends os; backs = old.backs } in
      let on : Turns asks_store 1 most_turns (busy given) r.more r.end = subst (λ os. Turns asks_store 1 most_turns (busy os) r.more r.end) said r.turns in
      let runs_on : Front × List Output → World × List Output =
      λ (s : Front × List Output). after_outputs s.1 (turns most_turns (record { front = s.0; stores = old.backs; requests = sends s.1; answers = [] }) 1) in
      let now : runs (record { front = old.front; stores = old.backs; requests = []; answers = [] }) 1 text ≡ runs_on (front_step old.front (Asked 1 text)) = refl in
      let node : (world_of r.end, outputs_of r.given ++ r.more) ≡ (record { front = new.front; stores = new.backs; requests = r.end.requests; answers = [] }, outputs) =
      ap (λ (m : Node Stores). (record { front = m.front; stores = m.backs; requests = r.end.requests; answers = [] }, outputs_of r.given ++ r.more)) (sym r.new_is)
      ∙ ap (λ os. (record { front = new.front; stores = new.backs; requests = r.end.requests; answers = [] }, os)) (sym r.outputs_are) in (
        r.end.requests,
        now ∙ ap runs_on (sym step) ∙ ap (after_outputs given) (turns_are most_turns (busy given) r.end r.more on (not_after (outputs_of r.given) r.more whole))
            ∙ ap (λ os. (world_of r.end, os ++ r.more)) (sym said) ∙ node,
      )

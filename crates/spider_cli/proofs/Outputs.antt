use Rattle.std.proofs.Common.{◌≡◌, ℕ, zero, suc, ◌+◌, ◌-◌, ◌<◌, ◌++◌, List, [], ◌∷◌, Bool, true, false, cond, Option, Some, None, refl, sym, ap, ◌∙◌, append_assoc, arith}
use Rattle.std.proofs.lemmas.List.{append-nil}
use Rattle.sql_text.specs.declared.link.LinkRequest.{LinkRequest}
use Rattle.front_core.specs.declared.event.Event.{Event}
use Rattle.front_core.specs.declared.event.Event.TheVariants.{Open, Statement, Got, Closed}
use Rattle.front_core.specs.declared.event.Output.{Output}
use Rattle.front_core.specs.declared.event.Output.TheVariants.{Send, Await, Decided, Acked, Answer}
use Rattle.front_core.specs.declared.work.Work.{Work}
use Rattle.front_core.specs.Core.{Front, front_step, fits, does, work_of, comes_to, got_by}
use Rattle.front_core.specs.Outputs.{sends}
use Rattle.world_runs.specs.Transcript.{Shown, output_text, outputs_text}
use Rattle.world_runs.specs.World.{World, after_outputs, turn, turns, is_over}
use Rattle.spider_cli.specs.Shown.{style_of, told_as}

-- WHAT IS GIVEN OUT, ONE LIST AFTER THE OTHER

pub sends-append : (xs ys : List Output) → sends (xs ++ ys) ≡ sends xs ++ sends ys
sends-append [] ys = refl
sends-append (Send server request ∷ xs) ys = ap (λ rs. (server, request) ∷ rs) (sends-append xs ys)
sends-append (Await server ∷ xs) ys = sends-append xs ys
sends-append (Decided tx ∷ xs) ys = sends-append xs ys
sends-append (Acked tx ∷ xs) ys = sends-append xs ys
sends-append (Answer tx reply ∷ xs) ys = sends-append xs ys

pub outputs_text-append : (shown : Shown) (xs ys : List Output) → outputs_text shown (xs ++ ys) ≡ outputs_text shown xs ++ outputs_text shown ys
outputs_text-append shown [] ys = refl
outputs_text-append shown (x ∷ xs) ys =
    ap (λ t. output_text shown x ++ t) (outputs_text-append shown xs ys) ∙ sym (append_assoc (output_text shown x) (outputs_text shown xs) (outputs_text shown ys))

-- one more output is passed on
pub sent_more : (first now next : List (ℕ × LinkRequest)) (given : List Output) (output : Output) (request : List (ℕ × LinkRequest))
    → now ≡ first ++ sends given → request ≡ sends (output ∷ []) → next ≡ now ++ request → next ≡ first ++ sends (given ++ output ∷ [])
sent_more first now next given output request e f g =
    g ∙ ap (λ rs. rs ++ request) e ∙ append_assoc first (sends given) request ∙ ap (λ rs. first ++ (sends given ++ rs)) f
    ∙ ap (λ rs. first ++ rs) (sym (sends-append given (output ∷ [])))

pub told_more : (shown : Shown) (first now next : List ℕ) (given : List Output) (output : Output)
    → now ≡ first ++ outputs_text shown given → next ≡ now ++ output_text shown output → next ≡ first ++ outputs_text shown (given ++ output ∷ [])
told_more shown first now next given output e f =
    f ∙ ap (λ t. t ++ output_text shown output) e ∙ append_assoc first (outputs_text shown given) (output_text shown output)
    ∙ ap (λ t. first ++ (outputs_text shown given ++ t)) (sym (append-nil (output_text shown output)))
    ∙ ap (λ t. first ++ t) (sym (outputs_text-append shown given (output ∷ [])))

-- what was told before is text before
pub told_as-after : (shown : Shown) (text : List ℕ) (outputs : List Output) (r : World × List Output)
    → told_as shown text (after_outputs outputs r) ≡ told_as shown (text ++ outputs_text shown outputs) r
told_as-after shown text outputs r = ap (λ t. (r.0, t)) (ap (λ t. text ++ t) (outputs_text-append shown outputs r.1) ∙ sym (append_assoc text (outputs_text shown outputs) (outputs_text shown r.1)))

-- nothing is told
pub told_as-nothing : (shown : Shown) (text : List ℕ) (w : World) → told_as shown text (w, []) ≡ (w, text)
told_as-nothing shown text w = ap (λ t. (w, t)) (append-nil text)

-- THE CONFIGURATION STAYS

comes_to-catalog : (front : Front) (n : ℕ) (text : List ℕ) (work : Option Work) → (comes_to front n text work).0.catalog ≡ front.catalog
comes_to-catalog front n text None = refl
comes_to-catalog front n text (Some work) = refl

got_by-catalog : (front : Front) (n : ℕ) (answer : _) (work : Option Work) → (got_by front n answer work).0.catalog ≡ front.catalog
got_by-catalog front n answer None = refl
got_by-catalog front n answer (Some work) = refl

does-catalog : (front : Front) (event : Event) → (does front event).0.catalog ≡ front.catalog
does-catalog front (Open n) = refl
does-catalog front (Statement n text) = comes_to-catalog front n text (work_of front n)
does-catalog front (Got n server answer) = got_by-catalog front n answer (work_of front n)
does-catalog front (Closed n) = refl

step_by : (b : Bool) (front : Front) (event : Event) → (cond b (does front event) (front, [])).0.catalog ≡ front.catalog
step_by true front event = does-catalog front event
step_by false front event = refl

-- no step of a front changes its configuration
pub front_step-catalog : (front : Front) (event : Event) → (front_step front event).0.catalog ≡ front.catalog
front_step-catalog front event = step_by (fits front event) front event

-- ONE AFTER THE OTHER

-- the world between is of the same configuration, so what comes second is shown alike
pub then : (old mid new : World) (traced : Bool) (n : ℕ) (text told all : List ℕ) (a : World × List Output) (f : World → World × List Output) → mid.front.catalog ≡ old.front.catalog
    → (mid, told) ≡ told_as (style_of old traced n) text a → (new, all) ≡ told_as (style_of mid traced n) told (f mid)
    → (new, all) ≡ told_as (style_of old traced n) text (after_outputs a.1 (f a.0))
then old mid new traced n text told all a f c e g =
    g ∙ ap (λ catalog. told_as (catalog.servers, traced, n) told (f mid)) c
    ∙ ap (λ (p : World × List ℕ). told_as (style_of old traced n) p.1 (f p.0)) e
    ∙ sym (told_as-after (style_of old traced n) text a.1 (f a.0))

-- TURNS

turns-over : (most : ℕ) (w : World) (n : ℕ) → is_over w n ≡ true → turns most w n ≡ (w, [])
unfolding turns
turns-over zero w n h = refl
turns-over (suc most) w n h = rw h refl

turns-suc : (most : ℕ) (w : World) (n : ℕ) → is_over w n ≡ false → turns (suc most) w n ≡ (let t = turn w n in after_outputs t.1 (turns most t.0 n))
unfolding turns
turns-suc most w n h = rw h refl

-- one more turn
turns-more : (most count : ℕ) (w : World) (n : ℕ) → count < most → is_over w n ≡ false → turns (most - count) w n ≡ (let t = turn w n in after_outputs t.1 (turns (most - (count + 1)) t.0 n))
turns-more most count w n l h =
    let e : most - count ≡ suc (most - (count + 1)) = omega arith in
    ap (λ m. turns m w n) e ∙ turns-suc (most - (count + 1)) w n h

turns-none : (most count : ℕ) (w : World) (n : ℕ) → count ≡ most → turns (most - count) w n ≡ (w, [])
turns-none most count w n e = let z : most - count ≡ 0 = omega arith in ap (λ m. turns m w n) z ∙ none w where
  none : (w : World) → turns 0 w n ≡ (w, [])
  none w = unfold turns in refl

-- the loop over turns
pub turn_goes_on : (most count : ℕ) (v w : World) (n : ℕ) (shown : Shown) (text now : List ℕ) (all : World × List ℕ) → count < most → is_over w n ≡ false → (v, now) ≡ told_as shown text (turn w n)
    → told_as shown text (turns (most - count) w n) ≡ all → told_as shown now (turns (most - (count + 1)) v n) ≡ all
turn_goes_on most count v w n shown text now all l h e f =
    let t = turn w n in
    let same : told_as shown now (turns (most - (count + 1)) v n) ≡ told_as shown (text ++ outputs_text shown t.1) (turns (most - (count + 1)) t.0 n) =
    ap (λ (p : World × List ℕ). told_as shown p.1 (turns (most - (count + 1)) p.0 n)) e in
    same ∙ sym (told_as-after shown text t.1 (turns (most - (count + 1)) t.0 n)) ∙ ap (told_as shown text) (sym (turns-more most count w n l h)) ∙ f

-- where all is over the loop ends
pub turns_end : (most count : ℕ) (w : World) (n : ℕ) (shown : Shown) (text : List ℕ) (all : World × List ℕ) → is_over w n ≡ true → told_as shown text (turns (most - count) w n) ≡ all → (w, text) ≡ all
turns_end most count w n shown text all h e = sym (told_as-nothing shown text w) ∙ ap (told_as shown text) (sym (turns-over (most - count) w n h)) ∙ e

-- so does the last turn
pub turns_over : (most count : ℕ) (w : World) (n : ℕ) (shown : Shown) (text : List ℕ) (all : World × List ℕ) → count ≡ most → told_as shown text (turns (most - count) w n) ≡ all → (w, text) ≡ all
turns_over most count w n shown text all h e = sym (told_as-nothing shown text w) ∙ ap (told_as shown text) (sym (turns-none most count w n h)) ∙ e

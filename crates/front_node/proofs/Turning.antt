use Rattle.std.proofs.Common.{◌≡◌, ℕ, zero, suc, ◌+◌, ◌-◌, ◌<◌, ◌++◌, List, [], ◌∷◌, Bool, true, false, Option, None, refl, sym, ap, ◌∙◌, subst, arith}
use Rattle.std.specs.Prelude.{◌||◌}
use Rattle.std.specs.Option.{option_or}
use Rattle.my_messages.specs.declared.reply.Reply.{Reply}
use Rattle.sql_text.specs.declared.link.LinkRequest.{LinkRequest}
use Rattle.sql_text.specs.declared.link.LinkAnswer.{LinkAnswer}
use Rattle.front_core.specs.declared.event.Output.{Output}
use Rattle.front_core.specs.declared.event.Event.TheVariants.{Statement as Asked}
use Rattle.front_core.specs.declared.event.Outputs.{Outputs}
use Rattle.front_core.specs.Core.{Front, IsStep, work_of, rests, most_turns}
use Rattle.front_core.specs.Outputs.{sends, outputs_of}
use Rattle.front_node.specs.Asking.{Busy, Node, Turn, GoesOn, Turns, Runs, node_of, is_over, is_none_left, reply_in}
use Rattle.front_node.proofs.RepliesIn.{reply_in-append, or_assoc, or_none}

-- the code's number of turns
pub max_is_most : 18446744073709551615 ≡ most_turns
unfolding most_turns
max_is_most = refl

module _ {B : Type 0} (asks : B → ℕ → LinkRequest → LinkAnswer → B → Type 0) (n : ℕ) where
  -- nothing is done where all is over
  pub turns_over : (most : ℕ) (b : Busy B) → is_over asks n b ≡ true → Turns asks n most b [] b
  unfolding Turns
  turns_over zero b h = (refl, refl)
  turns_over (suc most) b h = subst (λ o. GoesOn asks n o (Turns asks n most) b [] b) (sym h) (refl, refl)

  turns_first : (most : ℕ) (old middle new : Busy B) (first more : List Output) → is_over asks n old ≡ false → Turn asks n old first middle → Turns asks n most middle more new
      → Turns asks n (suc most) old (first ++ more) new
  unfolding Turns
  turns_first most old middle new first more h t r = subst (λ o. GoesOn asks n o (Turns asks n most) old (first ++ more) new) (sym h) (middle, first, more, t, refl, r)

  -- the turns so far: however they go on, with that reply until now
  abbrev pub Continues : ℕ → Busy B → ℕ → Busy B → Option Reply → Type 0
  Continues most start count now reply =
      (more : List Output) (new : Busy B) → Turns asks n (most - count) now more new → (outputs : List Output) × Turns asks n most start outputs new × (option_or (reply_in more) reply ≡ reply_in outputs)

  pub continues_from : (most : ℕ) (start : Busy B) → Continues most start 0 start None
  continues_from most start more new t = (more, subst (λ k. Turns asks n k start more new) (omega arith) t, or_none (reply_in more))

  pub continues_more : (most : ℕ) (start : Busy B) (count : ℕ) (now middle : Busy B) (reply told : Option Reply) (first : List Output) → count < most → is_over asks n now ≡ false
      → Turn asks n now first middle → told ≡ reply_in first → Continues most start count now reply → Continues most start (count + 1) middle (option_or told reply)
  continues_more most start count now middle reply told first less busy t e h more new r =
      let one : suc (most - (count + 1)) ≡ most - count = omega arith in
      let all = h (first ++ more) new (subst (λ k. Turns asks n k now (first ++ more) new) one (turns_first (most - (count + 1)) now middle new first more busy t r)) in
      let same : option_or (reply_in more) (option_or told reply) ≡ option_or (reply_in (first ++ more)) reply =
      ap (λ o. option_or (reply_in more) (option_or o reply)) e ∙ sym (or_assoc (reply_in more) (reply_in first) reply) ∙ ap (λ o. option_or o reply) (sym (reply_in-append first more)) in
      (all.0, all.1, same ∙ all.2)

  pub continues_to : (most : ℕ) (start : Busy B) (count : ℕ) (now : Busy B) (reply : Option Reply) → Turns asks n (most - count) now [] now → Continues most start count now reply
      → (outputs : List Output) × (reply ≡ reply_in outputs) × Turns asks n most start outputs now
  continues_to most start count now reply t h = let all = h [] now t in (all.0, all.2, all.1)

  pub turns_last : (most count : ℕ) (now : Busy B) → count ≡ most → Turns asks n (most - count) now [] now
  turns_last most count now e = let z : 0 ≡ most - count = omega arith in subst (λ k. Turns asks n k now [] now) z none where
    none : Turns asks n 0 now [] now
    none = unfold Turns in (refl, refl)

  -- all is over where the session rests, or no request is left
  pub rest_is_over : (b : Busy B) → rests (work_of b.front n) ≡ true → is_over asks n b ≡ true
  rest_is_over b h = ap (λ r. r || is_none_left b.requests) h

  pub none_is_over : (b : Busy B) → b.requests ≡ [] → is_over asks n b ≡ true
  none_is_over b h = ap (λ rs. rests (work_of b.front n) || is_none_left rs) h ∙ or_true (rests (work_of b.front n)) where
    or_true : (x : Bool) → (x || true) ≡ true
    or_true true = refl
    or_true false = refl

  pub one_is_left : (b : Busy B) (request : ℕ × LinkRequest) (others : List (ℕ × LinkRequest)) → rests (work_of b.front n) ≡ false → b.requests ≡ request ∷ others → is_over asks n b ≡ false
  one_is_left b request others h e = ap (λ r. r || is_none_left b.requests) h ∙ ap is_none_left e

  -- a statement's step, and the turns after it
  pub runs_from : (old : Node B) (text : List ℕ) (given : Outputs) (begun : Front) (most : ℕ) (requests : List (ℕ × LinkRequest)) (end : Busy B) (reply told : Option Reply)
      → IsStep old.front (Asked n text) given begun → most ≡ most_turns → requests ≡ sends (outputs_of given) → reply ≡ reply_in (outputs_of given)
      → (more : List Output) × (told ≡ reply_in more) × Turns asks n most (record { front = begun; requests = requests; backs = old.backs }) more end
      → (outputs : List Output) × (option_or told reply ≡ reply_in outputs) × Runs asks n old text outputs (node_of end)
  runs_from old text given begun most requests end reply told step awaited sent e t =
      let more = t.0 in
      let turns : Turns asks n most_turns (record { front = begun; requests = sends (outputs_of given); backs = old.backs }) more end =
      subst (λ rs. Turns asks n most_turns (record { front = begun; requests = rs; backs = old.backs }) more end) sent
      (subst (λ k. Turns asks n k (record { front = begun; requests = requests; backs = old.backs }) more end) awaited t.2) in (
        outputs_of given ++ more,
        ap (λ o. option_or o reply) t.1 ∙ ap (λ o. option_or (reply_in more) o) e ∙ sym (reply_in-append (outputs_of given) more),
        record { given = given; begun = begun; more = more; end = end; step = step; turns = turns; outputs_are = refl; new_is = refl },
      )

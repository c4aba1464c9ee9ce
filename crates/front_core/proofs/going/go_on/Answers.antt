use Rattle.std.proofs.Common.{◌≡◌, ◌++◌, ◌∷◌, [], ◌∙◌, ap, sym, subst}
use Rattle.front_core.specs.declared.event.Output.TheVariants.{Await, Decided}
use Rattle.front_core.specs.Core.{asked}
use Rattle.front_core.specs.Outputs.{AnswersHaveBytes}
use Rattle.front_core.proofs.Telling.{asked_bytes}
use Rattle.front_core.proofs.going.go_on.Goals as goal
use Rattle.front_core.proofs.going.go_on.Goals.{in-Waits, in-Asks, in-Decides}

pub returns-clause-bytes : goal.returns-clause-bytes
returns-clause-bytes c = elim c.match-progress.branch [
  | in-Waits w ↦
      let is : c.from_vec.result ≡ Await w.in-Waits.server ∷ [] =
      c.from_vec.ensures ∙ (ap (λ v. v.items) w.outputs-is ∙ (w.push_reserved.ensures.items ∙ ap (λ l. l ++ Await w.in-Waits.server ∷ []) c.requires.empty)) in
      subst AnswersHaveBytes (sym is) tt
  | in-Asks w ↦
      let is : c.from_vec.result ≡ asked w.in-Asks.asks =
      c.from_vec.ensures ∙ (ap (λ v. v.items) w.outputs-is ∙ (w.push_asks.ensures ∙ ap (λ l. l ++ asked w.in-Asks.asks) c.requires.empty)) in
      subst AnswersHaveBytes (sym is) (asked_bytes w.in-Asks.asks)
  | in-Decides w ↦
      let first = w.push_reserved-in-Decides.ensures.items ∙ ap (λ l. l ++ Decided c.args.run.tx ∷ []) c.requires.empty in
      let is : c.from_vec.result ≡ Decided c.args.run.tx ∷ asked w.in-Decides.asks =
      c.from_vec.ensures ∙ (ap (λ v. v.items) w.outputs-is ∙ (w.push_asks-in-Decides.ensures ∙ ap (λ l. l ++ asked w.in-Decides.asks) first)) in
      subst AnswersHaveBytes (sym is) (asked_bytes w.in-Decides.asks)
]

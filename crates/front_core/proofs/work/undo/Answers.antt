use Rattle.std.proofs.Common.{◌≡◌, ◌++◌, ◌∙◌, ap, sym, subst}
use Rattle.front_core.specs.Core.{asked}
use Rattle.front_core.specs.Outputs.{AnswersHaveBytes}
use Rattle.front_core.proofs.Telling.{asked_bytes}
use Rattle.front_core.proofs.work.undo.Goals as goal

pub returns-clause-bytes : goal.returns-clause-bytes
returns-clause-bytes c =
    let is : c.from_vec.result ≡ asked c.in-Ok-undo.asks =
    c.from_vec.ensures ∙ (c.push_asks.ensures ∙ ap (λ l. l ++ asked c.in-Ok-undo.asks) c.in-Ok-room.ensures.empty) in
    subst AnswersHaveBytes (sym is) (asked_bytes c.in-Ok-undo.asks)

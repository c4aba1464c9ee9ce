-- Answers among outputs.
use Rattle.std.proofs.Common.{◌≡◌, ◌++◌, List, [], ◌∷◌, refl, sym, ◌∙◌, subst}
use Rattle.std.specs.List.{AllByRecursion}
use Rattle.my_messages.specs.declared.reply.Reply.{Reply}
use Rattle.my_messages.specs.Reply.{HasBytes}
use Rattle.txn_phases.specs.declared.phase.Ending.{Ending}
use Rattle.txn_phases.specs.declared.phase.Ending.TheVariants.{Committed, Alone, RolledBack}
use Rattle.txn_phases.specs.declared.requests.Ask.{Ask}
use Rattle.front_core.specs.declared.event.TxNo.{TxNo}
use Rattle.front_core.specs.declared.event.Output.{Output}
use Rattle.front_core.specs.Core.{sent, first_awaited, asked, ended}
use Rattle.front_core.specs.Outputs.{answers_in, AnswersHaveBytes}

sent_answers : (asks : List Ask) (more : List Output) → answers_in (sent asks ++ more) ≡ answers_in more
sent_answers [] more = refl
sent_answers (a ∷ asks) more = sent_answers asks more

no_answer : (asks : List Ask) → answers_in (first_awaited asks) ≡ []
no_answer [] = refl
no_answer (a ∷ asks) = refl

-- requests are no answers
pub asked_bytes : (asks : List Ask) → AnswersHaveBytes (asked asks)
asked_bytes asks = subst (λ (replies : List Reply). AllByRecursion HasBytes replies) (sym (sent_answers asks (first_awaited asks) ∙ no_answer asks)) tt

-- one answer, that fits packets
pub ended_bytes : (tx : TxNo) (ending : Ending) (reply : Reply) → HasBytes reply → AnswersHaveBytes (ended tx ending reply)
ended_bytes tx Committed reply fits = (fits, tt)
ended_bytes tx Alone reply fits = (fits, tt)
ended_bytes tx RolledBack reply fits = (fits, tt)

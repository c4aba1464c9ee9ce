-- What is told in a list of outputs.
use Rattle.std.specs.Prelude.{ℕ, List, [], ◌∷◌, None}
use Rattle.std.specs.List.{AllByRecursion}
use Rattle.sql_text.specs.declared.link.LinkRequest.{LinkRequest}
use Rattle.my_messages.specs.declared.reply.Reply.{Reply}
use Rattle.my_messages.specs.Reply.{HasBytes}
use Rattle.sql_replies.specs.Errors.{no_memory_reply}
use Rattle.front_core.specs.declared.event.TxNo.{TxNo}
use Rattle.front_core.specs.declared.event.Output.{Output}
use Rattle.front_core.specs.declared.event.Output.TheVariants.{Send, Await, Decided, Acked, Answer}
use Rattle.front_core.specs.declared.event.Outputs.{Outputs}
use Rattle.front_core.specs.declared.event.Outputs.TheVariants.{Given, NoRoom}

-- the requests, each with its server
abbrev pub sends : List Output → List (ℕ × LinkRequest)
sends [] = []
sends (Send server request ∷ outputs) = (server, request) ∷ sends outputs
sends (Await server ∷ outputs) = sends outputs
sends (Decided tx ∷ outputs) = sends outputs
sends (Acked tx ∷ outputs) = sends outputs
sends (Answer tx reply ∷ outputs) = sends outputs

-- the answers to statements
abbrev pub answers_in : List Output → List Reply
answers_in [] = []
answers_in (Answer tx reply ∷ outputs) = reply ∷ answers_in outputs
answers_in (Send server request ∷ outputs) = answers_in outputs
answers_in (Await server ∷ outputs) = answers_in outputs
answers_in (Decided tx ∷ outputs) = answers_in outputs
answers_in (Acked tx ∷ outputs) = answers_in outputs

-- the decided transactions
abbrev pub decided_in : List Output → List TxNo
decided_in [] = []
decided_in (Decided tx ∷ outputs) = tx ∷ decided_in outputs
decided_in (Send server request ∷ outputs) = decided_in outputs
decided_in (Await server ∷ outputs) = decided_in outputs
decided_in (Acked tx ∷ outputs) = decided_in outputs
decided_in (Answer tx reply ∷ outputs) = decided_in outputs

-- the transactions whose commit is acknowledged
abbrev pub acked_in : List Output → List TxNo
acked_in [] = []
acked_in (Acked tx ∷ outputs) = tx ∷ acked_in outputs
acked_in (Send server request ∷ outputs) = acked_in outputs
acked_in (Await server ∷ outputs) = acked_in outputs
acked_in (Decided tx ∷ outputs) = acked_in outputs
acked_in (Answer tx reply ∷ outputs) = acked_in outputs

-- what outputs stand for: want of memory stands for one answer
abbrev pub outputs_of : Outputs → List Output
outputs_of (Given outputs) = outputs
outputs_of NoRoom = Answer None no_memory_reply ∷ []

-- each answer fits packets
abbrev pub AnswersHaveBytes : List Output → Type 0
AnswersHaveBytes outputs = AllByRecursion HasBytes (answers_in outputs)

-- What is told in outputs, one list after the other.
use Rattle.std.proofs.Common.{◌≡◌, ℕ, ◌++◌, List, [], ◌∷◌, Bool, true, false, cond, Option, Some, None, map, refl, sym, ap, ◌∙◌, append_assoc}
use Rattle.std.specs.Prelude.{if◌then◌else◌}
use Rattle.my_messages.specs.declared.reply.Reply.{Reply}
use Rattle.sql_text.specs.declared.link.LinkRequest.{LinkRequest}
use Rattle.txn_phases.specs.declared.requests.Ask.{Ask}
use Rattle.front_core.specs.declared.event.TxNo.{TxNo}
use Rattle.front_core.specs.declared.event.Output.{Output}
use Rattle.front_core.specs.declared.event.Output.TheVariants.{Send, Await, Decided, Acked, Answer}
use Rattle.front_core.specs.Core.{asked, sent, first_awaited}
use Rattle.front_core.specs.Outputs.{sends, answers_in, decided_in, acked_in}
use Rattle.plain_sessions.specs.Serial.{Entry}
use Rattle.world_runs.specs.History.{entries_with, is_same_tx}

pub sends-append : (xs ys : List Output) → sends (xs ++ ys) ≡ sends xs ++ sends ys
sends-append [] ys = refl
sends-append (Send server request ∷ xs) ys = ap (λ l. (server, request) ∷ l) (sends-append xs ys)
sends-append (Await server ∷ xs) ys = sends-append xs ys
sends-append (Decided tx ∷ xs) ys = sends-append xs ys
sends-append (Acked tx ∷ xs) ys = sends-append xs ys
sends-append (Answer tx reply ∷ xs) ys = sends-append xs ys

pub answers-append : (xs ys : List Output) → answers_in (xs ++ ys) ≡ answers_in xs ++ answers_in ys
answers-append [] ys = refl
answers-append (Send server request ∷ xs) ys = answers-append xs ys
answers-append (Await server ∷ xs) ys = answers-append xs ys
answers-append (Decided tx ∷ xs) ys = answers-append xs ys
answers-append (Acked tx ∷ xs) ys = answers-append xs ys
answers-append (Answer tx reply ∷ xs) ys = ap (λ l. reply ∷ l) (answers-append xs ys)

pub decided-append : (xs ys : List Output) → decided_in (xs ++ ys) ≡ decided_in xs ++ decided_in ys
decided-append [] ys = refl
decided-append (Send server request ∷ xs) ys = decided-append xs ys
decided-append (Await server ∷ xs) ys = decided-append xs ys
decided-append (Decided tx ∷ xs) ys = ap (λ l. tx ∷ l) (decided-append xs ys)
decided-append (Acked tx ∷ xs) ys = decided-append xs ys
decided-append (Answer tx reply ∷ xs) ys = decided-append xs ys

pub acked-append : (xs ys : List Output) → acked_in (xs ++ ys) ≡ acked_in xs ++ acked_in ys
acked-append [] ys = refl
acked-append (Send server request ∷ xs) ys = acked-append xs ys
acked-append (Await server ∷ xs) ys = acked-append xs ys
acked-append (Decided tx ∷ xs) ys = acked-append xs ys
acked-append (Acked tx ∷ xs) ys = ap (λ l. tx ∷ l) (acked-append xs ys)
acked-append (Answer tx reply ∷ xs) ys = acked-append xs ys

one_more : (one : Entry) (xs ys both : List Entry) (b : Bool) → both ≡ xs ++ ys → cond b (one ∷ both) both ≡ cond b (one ∷ xs) xs ++ ys
one_more one xs ys both true e = ap (λ l. one ∷ l) e
one_more one xs ys both false e = e

pub entries-append : (tx : TxNo) (text : List ℕ) (xs ys : List Output) → entries_with tx text (xs ++ ys) ≡ entries_with tx text xs ++ entries_with tx text ys
entries-append tx text [] ys = refl
entries-append tx text (Send server request ∷ xs) ys = entries-append tx text xs ys
entries-append tx text (Await server ∷ xs) ys = entries-append tx text xs ys
entries-append tx text (Decided other ∷ xs) ys = entries-append tx text xs ys
entries-append tx text (Acked other ∷ xs) ys = entries-append tx text xs ys
entries-append tx text (Answer None reply ∷ xs) ys = entries-append tx text xs ys
entries-append tx text (Answer (Some other) reply ∷ xs) ys =
    one_more (record { text = text; answer = reply }) (entries_with tx text xs) (entries_with tx text ys) (entries_with tx text (xs ++ ys)) (is_same_tx tx other) (entries-append tx text xs ys)

-- REQUESTS ALONE

-- requests with their servers
abbrev pub pairs : List Ask → List (ℕ × LinkRequest)
pairs asks = map (λ (a : Ask). (a.server, a.request)) asks

-- outputs that tell nothing but requests
pub record TellsNothing (outputs : List Output) : Type 0 where
  pub answers : answers_in outputs ≡ []
  pub decided : decided_in outputs ≡ []
  pub acked : acked_in outputs ≡ []
  pub entries : (tx : TxNo) (text : List ℕ) → entries_with tx text outputs ≡ []

nothing_more : (o : Output) (xs : List Output) → TellsNothing (o ∷ []) → TellsNothing xs → TellsNothing (o ∷ xs)
nothing_more o xs h k = record {
  answers = answers-append (o ∷ []) xs ∙ ap (λ l. l ++ answers_in xs) h.answers ∙ k.answers;
  decided = decided-append (o ∷ []) xs ∙ ap (λ l. l ++ decided_in xs) h.decided ∙ k.decided;
  acked = acked-append (o ∷ []) xs ∙ ap (λ l. l ++ acked_in xs) h.acked ∙ k.acked;
  entries = λ tx text. entries-append tx text (o ∷ []) xs ∙ ap (λ l. l ++ entries_with tx text xs) (h.entries tx text) ∙ k.entries tx text;
}

one_sent : (server : ℕ) (request : LinkRequest) → TellsNothing (Send server request ∷ [])
one_sent server request = record { answers = refl; decided = refl; acked = refl; entries = λ tx text. refl }

awaits_nothing : (asks : List Ask) → TellsNothing (first_awaited asks)
awaits_nothing [] = record { answers = refl; decided = refl; acked = refl; entries = λ tx text. refl }
awaits_nothing (a ∷ asks) = record { answers = refl; decided = refl; acked = refl; entries = λ tx text. refl }

asks_tell : (asks : List Ask) (more : List Output) → TellsNothing more → TellsNothing (sent asks ++ more)
asks_tell [] more h = h
asks_tell (a ∷ asks) more h = nothing_more (Send a.server a.request) (sent asks ++ more) (one_sent a.server a.request) (asks_tell asks more h)

pub asked_nothing : (asks : List Ask) → TellsNothing (asked asks)
asked_nothing asks = asks_tell asks (first_awaited asks) (awaits_nothing asks)

sends_sent : (asks : List Ask) → sends (sent asks) ≡ pairs asks
sends_sent [] = refl
sends_sent (a ∷ asks) = ap (λ l. (a.server, a.request) ∷ l) (sends_sent asks)

sends_awaited : (asks : List Ask) → sends (first_awaited asks) ≡ []
sends_awaited [] = refl
sends_awaited (a ∷ asks) = refl

append-none : {A : Type 0} (xs ys : List A) → ys ≡ [] → xs ++ ys ≡ xs
append-none [] ys h = h
append-none (x ∷ xs) ys h = ap (λ l. x ∷ l) (append-none xs ys h)

pub sends_asked : (asks : List Ask) → sends (asked asks) ≡ pairs asks
sends_asked asks = sends-append (sent asks) (first_awaited asks) ∙ append-none (sends (sent asks)) (sends (first_awaited asks)) (sends_awaited asks) ∙ sends_sent asks

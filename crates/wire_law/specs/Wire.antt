-- The statements of a session of packets, and a plain session.
use Rattle.std.specs.Prelude.{◌≡◌, ◌≢◌, ℕ, ◌^◌, ◌<◌, List, [], ◌∷◌, Option, Some, length, map}
use Rattle.std.specs.List.{flat_map, AllByRecursion}
use Rattle.my_messages.specs.declared.command.Command.{Command}
use Rattle.my_messages.specs.declared.command.Command.TheVariants.{Quit, InitDb, Query, Ping, Unknown}
use Rattle.my_messages.specs.declared.reply.Reply.{Reply}
use Rattle.catalog.specs.Views.{View}
use Rattle.branch_store.specs.Store.{Store}
use Rattle.sql_replies.specs.Errors.{no_memory_reply}
use Rattle.front_core.specs.declared.event.Event.TheVariants.{Open}
use Rattle.front_core.specs.declared.event.Output.{Output}
use Rattle.front_core.specs.declared.event.Outputs.TheVariants.{Given}
use Rattle.front_core.specs.Core.{Front, IsStep, new_front}
use Rattle.plain_sessions.specs.Exec.{no_rows}
use Rattle.plain_sessions.specs.Held.{CanBeServed}
use Rattle.plain_sessions.specs.Solo.{solo_answers}
use Rattle.world_runs.specs.World.{new_stores}
use Rattle.front_node.specs.Asking.{Node}
use Rattle.front_node.specs.Session.{Exchange, Served}
use Rattle.wire_law.specs.Backing.{asks_store}

-- the statements that a client sent, and what each was answered

abbrev pub text_in : Command → List (List ℕ)
text_in (Query text) = text ∷ []
text_in Quit = []
text_in (InitDb name) = []
text_in Ping = []
text_in (Unknown first) = []

abbrev pub answer_in : Command → Option Reply → List (Option Reply)
answer_in (Query text) answer = answer ∷ []
answer_in Quit answer = []
answer_in (InitDb name) answer = []
answer_in Ping answer = []
answer_in (Unknown first) answer = []

abbrev pub texts_of : List Exchange → List (List ℕ)
texts_of exchanges = flat_map (λ (x : Exchange). text_in x.command) exchanges

abbrev pub answers_to : List Exchange → List (Option Reply)
answers_to exchanges = flat_map (λ (x : Exchange). answer_in x.command x.answer) exchanges

-- no statement was answered that memory is wanting
abbrev pub NoneStarved : List Exchange → Type 0
NoneStarved exchanges = AllByRecursion (λ answer. answer ≢ Some no_memory_reply) (answers_to exchanges)

-- each statement's answer is a plain session's, where no answer says that memory is wanting, and no number passes its limit
abbrev pub AreSolo : View → List Exchange → Type 0
AreSolo catalog exchanges = length exchanges < 2 ^ 63 → NoneStarved exchanges → answers_to exchanges ≡ map Some (solo_answers catalog no_rows (texts_of exchanges))

-- A session of packets on the new front of a configuration, whose servers are stores without rows, is answered as a plain session is.
abbrev pub WiresAreSolo : Type 0
WiresAreSolo =
    (catalog : View) (opening : List Output) (opened : Front) (exchanges : List Exchange) (last : Node (List Store)) → CanBeServed catalog →
    IsStep (new_front catalog) (Open 1) (Given opening) opened → Served asks_store 1 (record { front = opened; backs = new_stores catalog }) exchanges last → AreSolo catalog exchanges

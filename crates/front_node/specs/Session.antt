-- What a client of a session is sent ("Command Phase").
use Rattle.std.specs.Prelude.{◌≡◌, ◌≢◌, ℕ, ◌++◌, List, [], ◌∷◌, Option, Some, None, if◌then◌else◌, codes}
use Rattle.std.specs.List.{flat_map, AllByRecursion}
use Rattle.std.specs.Fmt.{decimal}
use Rattle.std.specs.Str.{bytes_eq}
use Rattle.my_wire.specs.Counts.{IsFront}
use Rattle.my_wire.specs.Packets.{Found, Wanting, Whole, Refused, packet, packets, first_packet, AllFit}
use Rattle.my_wire.specs.declared.packet.WireFault.{WireFault}
use Rattle.my_wire.specs.declared.packet.WireFault.TheVariants.{TooLarge, OutOfOrder, NoMemory}
use Rattle.my_messages.specs.Command.{IsCommand}
use Rattle.my_messages.specs.Reply.{payloads_of, Each}
use Rattle.my_messages.specs.declared.command.Command.{Command}
use Rattle.my_messages.specs.declared.command.Command.TheVariants.{Quit, InitDb, Query, Ping, Unknown}
use Rattle.my_messages.specs.declared.reply.Reply.{Reply}
use Rattle.my_messages.specs.declared.reply.Reply.TheVariants as replies
use Rattle.my_messages.specs.declared.session_end.SessionEnd.{SessionEnd}
use Rattle.my_messages.specs.declared.session_end.SessionEnd.TheVariants as ends
use Rattle.sql_text.specs.declared.link.LinkRequest.{LinkRequest}
use Rattle.sql_text.specs.declared.link.LinkAnswer.{LinkAnswer}
use Rattle.front_core.specs.declared.event.Event.TheVariants.{Open, Closed}
use Rattle.front_core.specs.declared.event.Output.{Output}
use Rattle.front_core.specs.declared.event.Outputs.{Outputs}
use Rattle.front_core.specs.declared.event.Outputs.TheVariants.{Given}
use Rattle.front_core.specs.Core.{Front, IsStep}
use Rattle.front_node.specs.Asking.{Node, Runs, reply_in}

-- REPLIES

-- the name of the one database
abbrev pub database : List ℕ
database = codes "spider"

-- done, with this status
abbrev pub done_reply : ℕ → Reply
done_reply status = replies.Ok 0 status 0

-- a command that isn't served (ER_UNKNOWN_COM_ERROR)
abbrev pub unknown_command_reply : Reply
unknown_command_reply = replies.Err 1047 (codes "08S01") (codes "Unknown command")

-- another database than the one (ER_BAD_DB_ERROR)
abbrev pub unknown_database_reply : List ℕ → Reply
unknown_database_reply name = replies.Err 1049 (codes "42000") (codes "Unknown database '" ++ (name ++ codes "'"))

-- a database is chosen
abbrev pub database_reply : ℕ → List ℕ → Reply
database_reply status name = if bytes_eq name database then done_reply status else unknown_database_reply name

-- a packet's payload is too large (ER_NET_PACKET_TOO_LARGE)
abbrev pub too_large_reply : Reply
too_large_reply = replies.Err 1153 (codes "08S01") (codes "Got a packet bigger than 1048576 bytes")

-- a packet has another number than the one that was expected (ER_NET_PACKETS_OUT_OF_ORDER)
abbrev pub out_of_order_reply : ℕ → ℕ → Reply
out_of_order_reply expected found = replies.Err 1156 (codes "08S01") (codes "Got packets out of order: expected " ++ (decimal expected ++ (codes ", found " ++ decimal found)))

-- EXCHANGES

-- a command, and the answer to its statement where it has one
pub record Exchange : Type 0 where
  pub command : Command
  pub answer : Option Reply

-- the packets of a reply to a command, whose own packet had number 0
abbrev pub reply_bytes : Reply → List ℕ
reply_bytes reply = packets 1 (payloads_of reply)

abbrev pub maybe_bytes : Option Reply → List ℕ
maybe_bytes None = []
maybe_bytes (Some reply) = reply_bytes reply

-- what a client is sent for a command, where the last answer had that status
abbrev pub exchange_bytes : ℕ → Command → Option Reply → List ℕ
exchange_bytes status Quit answer = []
exchange_bytes status (InitDb name) answer = reply_bytes (database_reply status name)
exchange_bytes status (Query text) answer = maybe_bytes answer
exchange_bytes status Ping answer = reply_bytes (done_reply status)
exchange_bytes status (Unknown first) answer = reply_bytes unknown_command_reply

-- the status of a reply, or the one before
abbrev pub status_of : ℕ → Reply → ℕ
status_of status (replies.Ok affected new warnings) = new
status_of status (replies.Err number state message) = status
status_of status (replies.Rows columns rows new) = new
status_of status (replies.Switch plugin nonce) = status

abbrev pub status_by : ℕ → Option Reply → ℕ
status_by status None = status
status_by status (Some reply) = status_of status reply

-- the status of the last answer that had one, at first each statement is a transaction of its own
abbrev pub status_after : ℕ → List Exchange → ℕ
status_after status [] = status
status_after status (x ∷ xs) = status_after (status_by status x.answer) xs

-- what a client is sent, command by command
abbrev pub session_bytes : ℕ → List Exchange → List ℕ
session_bytes status [] = []
session_bytes status (x ∷ xs) = exchange_bytes status x.command x.answer ++ session_bytes (status_by status x.answer) xs

-- THE CLIENT'S BYTES

-- each command is a packet of number 0
abbrev pub commands_bytes : List (List ℕ) → List ℕ
commands_bytes payloads = flat_map (packet 0) payloads

-- the exchange is about the command of this payload
abbrev pub IsAbout : Exchange → List ℕ → Type 0
IsAbout x payload = IsCommand x.command payload

-- what a client sent: these commands, none of which leaves, and then the rest
pub record Sent (bytes : List ℕ) (exchanges : List Exchange) (rest : List ℕ) : Type 0 where
  pub payloads : List (List ℕ)
  pub whole : bytes ≡ commands_bytes payloads ++ rest
  pub fit : AllFit payloads
  pub commands : Each IsAbout exchanges payloads
  pub stays : AllByRecursion (λ (x : Exchange). x.command ≢ Quit) exchanges

-- a refused header is answered by one error, whose packet has the number after the one that was expected
abbrev pub refusal_reply : WireFault → Reply
refusal_reply (TooLarge length) = too_large_reply
refusal_reply (OutOfOrder expected found) = out_of_order_reply expected found
refusal_reply NoMemory = too_large_reply

abbrev pub refusal_bytes : Found → List ℕ
refusal_bytes Wanting = []
refusal_bytes (Whole payload rest) = []
refusal_bytes (Refused fault) = reply_bytes (refusal_reply fault)

-- all that a client is sent: the replies to its commands, and the error that ends the session where a header is refused
abbrev pub sent_to : List Exchange → List ℕ → List ℕ
sent_to exchanges rest = session_bytes 2 exchanges ++ refusal_bytes (first_packet 0 rest)

-- A SESSION

module _ {B : Type 0} (asks : B → ℕ → LinkRequest → LinkAnswer → B → Type 0) (n : ℕ) where
  -- a statement is run, and its answer is the exchange's
  abbrev pub Exchanged : Node B → Command → Option Reply → Node B → Type 0
  Exchanged old (Query text) answer new = (outputs : List Output) × Runs asks n old text outputs new × (answer ≡ reply_in outputs)
  Exchanged old Quit answer new = (answer ≡ None) × (new ≡ old)
  Exchanged old (InitDb name) answer new = (answer ≡ None) × (new ≡ old)
  Exchanged old Ping answer new = (answer ≡ None) × (new ≡ old)
  Exchanged old (Unknown first) answer new = (answer ≡ None) × (new ≡ old)

  -- the exchanges, one after the other
  abbrev pub Served : Node B → List Exchange → Node B → Type 0
  Served old [] new = new ≡ old
  Served old (x ∷ xs) new = (middle : Node B) × Exchanged old x.command x.answer middle × Served middle xs new

-- how a session ended, by what stands at the front of the rest of the client's bytes: it left, or its bytes ended before a whole packet; a refused
-- header is told by the error's number
abbrev pub EndsBy : Type 0 → Found → SessionEnd → Type 0
EndsBy has_ended (Whole payload more) ends.Closed = IsCommand Quit payload
EndsBy has_ended Wanting ends.Closed = has_ended
EndsBy has_ended (Refused fault) ends.Closed = ⊥
EndsBy has_ended (Refused (TooLarge length)) (ends.Refused number) = number ≡ 1153
EndsBy has_ended (Refused (OutOfOrder expected found)) (ends.Refused number) = number ≡ 1156
EndsBy has_ended (Refused NoMemory) (ends.Refused number) = ⊥
EndsBy has_ended (Whole payload more) (ends.Refused number) = ⊥
EndsBy has_ended Wanting (ends.Refused number) = ⊥
EndsBy has_ended found ends.ClientFault = Unit {0}
EndsBy has_ended found ends.NoMemory = Unit {0}

-- the session went on to its end: the client left, or was refused
abbrev pub IsOver : SessionEnd → Type 0
IsOver ends.Closed = Unit {0}
IsOver (ends.Refused number) = Unit {0}
IsOver ends.ClientFault = ⊥
IsOver ends.NoMemory = ⊥

-- What a session read, what it asked, and what it wrote: a front of the replies to the client's commands, and the whole of it where it went on to its end.
pub record Session {C B : Type 0} (passes : C → List ℕ → List ℕ → C → Type 0) (has_ended : C → Type 0) (asks : B → ℕ → LinkRequest → LinkAnswer → B → Type 0)
    (n : ℕ) (old : Node B) (client : C) (new : Node B) (left : C) (how : SessionEnd) : Type 0 where
  pub read : List ℕ
  pub written : List ℕ
  pub exchanges : List Exchange
  pub rest : List ℕ
  pub last : Node B
  pub passed : passes client read written left
  pub sent : Sent read exchanges rest
  pub served : Served asks n old exchanges last
  pub front : IsFront written (sent_to exchanges rest)
  pub ends : EndsBy (has_ended left) (first_packet 0 rest) how
  pub whole : IsOver how → (written ≡ sent_to exchanges rest) × (new ≡ last)

-- the session is opened on a front, and closed on it at the end
pub record Visit {C B : Type 0} (passes : C → List ℕ → List ℕ → C → Type 0) (has_ended : C → Type 0) (asks : B → ℕ → LinkRequest → LinkAnswer → B → Type 0)
    (n : ℕ) (old : Node B) (client : C) (new : Node B) (left : C) (how : SessionEnd) : Type 0 where
  pub opened : Front
  pub opening : List Output
  pub last : Front
  pub closing : Outputs
  pub opens : IsStep old.front (Open n) (Given opening) opened
  pub session : Session passes has_ended asks n (record { front = opened; backs = old.backs }) client (record { front = last; backs = new.backs }) left how
  pub closes : IsStep last (Closed n) closing new.front

-- there was no memory to open it, and nothing has changed
abbrev pub IsTurnedAway : {C B : Type 0} → Node B → C → Node B → C → SessionEnd → Type 0
IsTurnedAway old client new left how = (how ≡ ends.NoMemory) × (new ≡ old) × (left ≡ client)

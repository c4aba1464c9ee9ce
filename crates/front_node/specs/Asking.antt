-- A statement is run: the front asks servers, and gets their answers.
use Rattle.std.specs.Prelude.{◌≡◌, ℕ, zero, suc, ◌++◌, ◌||◌, Bool, true, false, List, [], ◌∷◌, Option, Some, None}
use Rattle.std.specs.Option.{option_or}
use Rattle.sql_text.specs.declared.link.LinkRequest.{LinkRequest}
use Rattle.sql_text.specs.declared.link.LinkRequest.TheVariants as request
use Rattle.sql_text.specs.declared.link.LinkAnswer.{LinkAnswer}
use Rattle.sql_text.specs.declared.link.LinkAnswer.TheVariants as answer
use Rattle.sql_text.specs.declared.link.ScanItems.{ScanItems}
use Rattle.sql_text.specs.declared.link.ScanItems.TheVariants as items
use Rattle.txn_phases.specs.Phases.{is_done}
use Rattle.my_messages.specs.declared.reply.Reply.{Reply}
use Rattle.front_core.specs.declared.event.Event.TheVariants.{Statement as Asked, Got}
use Rattle.front_core.specs.declared.event.Output.{Output}
use Rattle.front_core.specs.declared.event.Output.TheVariants.{Send, Await, Decided, Acked, Answer}
use Rattle.front_core.specs.declared.event.Outputs.{Outputs}
use Rattle.front_core.specs.Core.{Front, IsStep, work_of, rests, most_turns}
use Rattle.front_core.specs.Outputs.{sends, outputs_of}

-- rows, or a refusal
abbrev pub is_rows : LinkAnswer → Bool
is_rows (answer.Rows rows) = true
is_rows (answer.Refused number message) = true
is_rows _ = false

-- rows of cells, or a refusal
abbrev pub is_cells : LinkAnswer → Bool
is_cells (answer.Cells rows) = true
is_cells (answer.Refused number message) = true
is_cells _ = false

-- what a scan of these items is answered
abbrev pub is_found : ScanItems → LinkAnswer → Bool
is_found items.All a = is_rows a
is_found (items.Aggregates calls) a = is_cells a

-- names of branches, or a refusal
abbrev pub is_xids : LinkAnswer → Bool
is_xids (answer.Xids xids) = true
is_xids (answer.Refused number message) = true
is_xids _ = false

-- the answer has its request's form
abbrev pub has_form : LinkRequest → LinkAnswer → Bool
has_form (request.Scan scan) a = is_found scan.items a
has_form request.Recover a = is_xids a
has_form _ a = is_done a

-- the answer to the statement among outputs, the last one where there were several
abbrev pub reply_in : List Output → Option Reply
reply_in [] = None
reply_in (Answer tx reply ∷ outputs) = option_or (reply_in outputs) (Some reply)
reply_in (Send server request ∷ outputs) = reply_in outputs
reply_in (Await server ∷ outputs) = reply_in outputs
reply_in (Decided tx ∷ outputs) = reply_in outputs
reply_in (Acked tx ∷ outputs) = reply_in outputs

-- no request is left
abbrev pub is_none_left : List (ℕ × LinkRequest) → Bool
is_none_left [] = true
is_none_left (request ∷ requests) = false

-- a front with its servers
pub record Node (B : Type 0) : Type 0 where
  pub front : Front
  pub backs : B

-- the same, in the middle of a session's statement: the requests that weren't asked yet
pub record Busy (B : Type 0) : Type 0 where
  pub front : Front
  pub requests : List (ℕ × LinkRequest)
  pub backs : B

abbrev pub node_of : {B : Type 0} → Busy B → Node B
node_of b = record { front = b.front; backs = b.backs }

-- asks: from the first state of the servers to the second, that one was asked this request, and answered so. n is the session's number
module _ {B : Type 0} (asks : B → ℕ → LinkRequest → LinkAnswer → B → Type 0) (n : ℕ) where
  -- the oldest request is asked, and the front gets its answer
  pub record Turn (old : Busy B) (outputs : List Output) (new : Busy B) : Type 0 where
    pub server : ℕ
    pub request : LinkRequest
    pub others : List (ℕ × LinkRequest)
    pub answer : LinkAnswer
    pub given : Outputs
    pub oldest : old.requests ≡ (server, request) ∷ others
    pub asked : asks old.backs server request answer new.backs
    pub step : IsStep old.front (Got n server answer) given new.front
    pub outputs_are : outputs ≡ outputs_of given
    pub requests_are : new.requests ≡ others ++ sends outputs

  -- nothing is left to do for the statement
  abbrev pub is_over : Busy B → Bool
  is_over b = rests (work_of b.front n) || is_none_left b.requests

  -- nothing more is done where all is over; else one turn, and what follows it
  abbrev pub GoesOn : Bool → (Busy B → List Output → Busy B → Type 0) → Busy B → List Output → Busy B → Type 0
  GoesOn true Follows old outputs new = (outputs ≡ []) × (new ≡ old)
  GoesOn false Follows old outputs new = (middle : Busy B) × (first : List Output) × (more : List Output) × Turn old first middle × (outputs ≡ first ++ more) × Follows middle more new

  -- turns until nothing is left to do, at most so many
  unfoldable pub Turns : ℕ → Busy B → List Output → Busy B → Type 0
  Turns zero old outputs new = (outputs ≡ []) × (new ≡ old)
  Turns (suc most) old outputs new = GoesOn (is_over old) (Turns most) old outputs new

  -- a statement of the session is run, from its text on
  pub record Runs (old : Node B) (text : List ℕ) (outputs : List Output) (new : Node B) : Type 0 where
    pub given : Outputs
    pub begun : Front
    pub more : List Output
    pub end : Busy B
    pub step : IsStep old.front (Asked n text) given begun
    pub turns : Turns most_turns (record { front = begun; requests = sends (outputs_of given); backs = old.backs }) more end
    pub outputs_are : outputs ≡ outputs_of given ++ more
    pub new_is : new ≡ node_of end

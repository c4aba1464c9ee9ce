-- Replies out of the payloads of their packets.
use Rattle.std.specs.Prelude.{◌≡◌, ℕ, zero, suc, ◌+◌, ◌-◌, ◌⊎◌, List, [], ◌∷◌, ◌++◌, length, Option, Some, None, Result, Ok, Err}
use Rattle.my_wire.specs.Grammar.{◌>>=◌}
use Rattle.my_messages.specs.Reading.{or_else, ok_at, err_at, count_at, switch_at, eof_at, definition_at, cells_at}
use Rattle.my_messages.specs.Reply.{IsOkPacket, IsErrPacket, IsEofPacket, IsSwitchRequest, IsColumnCount, IsDefinition, IsRowOf, Each, IsReply}
use Rattle.my_messages.specs.declared.fault.MessageFault.{MessageFault}
use Rattle.my_messages.specs.declared.fault.MessageFault.TheVariants as faults
use Rattle.my_messages.specs.declared.reply.Column.{Column}
use Rattle.my_messages.specs.declared.reply.Reply.{Reply}
use Rattle.my_messages.specs.declared.reply.Reply.TheVariants as replies
use Rattle.my_messages.specs.declared.stage.FirstPayload.{FirstPayload}
use Rattle.my_messages.specs.declared.stage.FirstPayload.TheVariants.{Whole, Columns}
use Rattle.my_messages.specs.declared.stage.RowPayload.{RowPayload}
use Rattle.my_messages.specs.declared.stage.RowPayload.TheVariants.{Row, End}
use Rattle.my_messages.specs.declared.stage.Stage.{Stage}
use Rattle.my_messages.specs.declared.stage.Stage.TheVariants as stages

-- the first payload of a reply: an OK, an ERR, a number of columns or a request to log in by another plugin
unfoldable pub first_at : List ℕ → Result FirstPayload ℕ
first_at bytes =
    or_else (ok_at bytes >>= λ r. Ok (Whole r)) (or_else (err_at bytes >>= λ r. Ok (Whole r))
    (or_else (count_at bytes >>= λ n. Ok (Columns n)) (switch_at bytes >>= λ r. Ok (Whole r))))

-- a payload behind the definitions of so many columns: the end of the rows, or a row
unfoldable pub row_or_end : ℕ → List ℕ → Result RowPayload ℕ
row_or_end width bytes = or_else (eof_at bytes >>= λ status. Ok (End status)) (cells_at width bytes >>= λ cells. Ok (Row cells))

-- what a payload makes of a stage: the next stage, a whole reply, or a refusal at that byte
pub data Pushed : Type 0 where
  Goes : Stage → Pushed
  Gives : Reply → Pushed
  Stops : ℕ → Pushed

-- the place of the first bad byte
abbrev pub stopped : List ℕ → ℕ → Pushed
stopped payload left = Stops (length payload - left)

abbrev pub first_pushed : List ℕ → Result FirstPayload ℕ → Pushed
first_pushed payload (Ok (Whole reply)) = Gives reply
first_pushed payload (Ok (Columns count)) = Goes (stages.Definitions count [])
first_pushed payload (Err left) = stopped payload left

abbrev pub definition_pushed : ℕ → List Column → List ℕ → Result Column ℕ → Pushed
definition_pushed owed columns payload (Ok column) = Goes (stages.Definitions owed (columns ++ column ∷ []))
definition_pushed owed columns payload (Err left) = stopped payload left

abbrev pub end_pushed : List Column → List ℕ → Result ℕ ℕ → Pushed
end_pushed columns payload (Ok status) = Goes (stages.Rows columns [])
end_pushed columns payload (Err left) = stopped payload left

abbrev pub row_pushed : List Column → List (List (Option (List ℕ))) → List ℕ → Result RowPayload ℕ → Pushed
row_pushed columns rows payload (Ok (Row cells)) = Goes (stages.Rows columns (rows ++ cells ∷ []))
row_pushed columns rows payload (Ok (End status)) = Gives (replies.Rows columns rows status)
row_pushed columns rows payload (Err left) = stopped payload left

-- a payload in a stage
unfoldable pub push_at : Stage → List ℕ → Pushed
push_at stages.First payload = first_pushed payload (first_at payload)
push_at (stages.Definitions zero columns) payload = end_pushed columns payload (eof_at payload)
push_at (stages.Definitions (suc owed) columns) payload = definition_pushed owed columns payload (definition_at payload)
push_at (stages.Rows columns rows) payload = row_pushed columns rows payload (row_or_end (length columns) payload)
push_at (stages.Refused place) payload = Stops place

-- what a reader answers to a payload in a stage, and the stage after it: after a whole reply another one begins, a refusal stays, and want of memory changes nothing
abbrev pub Tells : Stage → List ℕ → Result (Option Reply) MessageFault → Stage → Type 0
Tells old payload (Ok None) new = push_at old payload ≡ Goes new
Tells old payload (Ok (Some reply)) new = (push_at old payload ≡ Gives reply) × (new ≡ stages.First)
Tells old payload (Err (faults.Malformed place)) new = (push_at old payload ≡ Stops place) × (new ≡ stages.Refused place)
Tells old payload (Err faults.NoMemory) new = new ≡ old

-- the first payload of a reply
abbrev pub IsFirst : FirstPayload → List ℕ → Type 0
IsFirst (Whole (replies.Ok affected status warnings)) bytes = IsOkPacket affected status warnings bytes
IsFirst (Whole (replies.Err number state message)) bytes = IsErrPacket number state message bytes
IsFirst (Whole (replies.Rows columns rows status)) bytes = ⊥
IsFirst (Whole (replies.Switch plugin nonce)) bytes = IsSwitchRequest plugin nonce bytes
IsFirst (Columns count) bytes = IsColumnCount count bytes

-- a payload behind the definitions of so many columns
abbrev pub IsRowOrEnd : ℕ → RowPayload → List ℕ → Type 0
IsRowOrEnd width (Row cells) bytes = IsRowOf width cells bytes
IsRowOrEnd width (End status) bytes = IsEofPacket status bytes

-- a payload that may come in a stage
abbrev pub Admits : Stage → List ℕ → Type 0
Admits stages.First bytes = (x : FirstPayload) × IsFirst x bytes
Admits (stages.Definitions zero columns) bytes = (status : ℕ) × IsEofPacket status bytes
Admits (stages.Definitions (suc owed) columns) bytes = (column : Column) × IsDefinition column bytes
Admits (stages.Rows columns rows) bytes = (x : RowPayload) × IsRowOrEnd (length columns) x bytes
Admits (stages.Refused place) bytes = ⊥

-- the payloads of a result so far, of which so many definitions are owed
pub record InDefinitions (owed : ℕ) (columns : List Column) (payloads : List (List ℕ)) : Type 0 where
  pub count : List ℕ
  pub definitions : List (List ℕ)
  pub whole : payloads ≡ count ∷ definitions
  pub counted : IsColumnCount (length columns + owed) count
  pub defined : Each IsDefinition columns definitions

-- the payloads of a result so far, behind its definitions
pub record InRows (columns : List Column) (rows : List (List (Option (List ℕ)))) (payloads : List (List ℕ)) : Type 0 where
  pub count : List ℕ
  pub definitions : List (List ℕ)
  pub first_end : List ℕ
  pub row_payloads : List (List ℕ)
  pub first_status : ℕ
  pub whole : payloads ≡ count ∷ (definitions ++ first_end ∷ row_payloads)
  pub counted : IsColumnCount (length columns) count
  pub defined : Each IsDefinition columns definitions
  pub definitions_end : IsEofPacket first_status first_end
  pub rows_are : Each (IsRowOf (length columns)) rows row_payloads

-- the payloads that came since the last whole reply lead to that stage
abbrev pub LeadsTo : List (List ℕ) → Stage → Type 0
LeadsTo payloads stages.First = payloads ≡ []
LeadsTo payloads (stages.Definitions owed columns) = InDefinitions owed columns payloads
LeadsTo payloads (stages.Rows columns rows) = InRows columns rows payloads
LeadsTo payloads (stages.Refused place) = ⊥

-- some reply has these payloads and then this one
abbrev pub IsNext : List (List ℕ) → List ℕ → Type 0
IsNext payloads payload = (more : List (List ℕ)) × (reply : Reply) × IsReply reply (payloads ++ payload ∷ more)

-- what a reader answers to payloads, one after the other: nothing until the last, and then the reply
abbrev pub Answers : Stage → List (List ℕ) → Reply → Type 0
Answers s [] reply = ⊥
Answers s (payload ∷ more) reply = ((more ≡ []) × (push_at s payload ≡ Gives reply)) ⊎ ((t : Stage) × (push_at s payload ≡ Goes t) × Answers t more reply)

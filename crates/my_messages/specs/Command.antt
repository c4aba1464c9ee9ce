-- Command Phase: a command's first byte tells which it is (COM_QUIT, COM_INIT_DB, COM_QUERY, COM_PING).
use Rattle.std.specs.Prelude.{◌≡◌, ◌≢◌, ℕ, ◌≤◌, List, [], ◌∷◌, length, Some, None, IsUtf8}
use Rattle.my_messages.specs.declared.command.Command.{Command}
use Rattle.my_messages.specs.declared.command.Command.TheVariants.{Quit, InitDb, Query, Ping, Unknown}

-- a database's name as COM_INIT_DB carries it. Of a longer one the refusal would not fit a packet
abbrev pub IsDatabase : List ℕ → Type 0
IsDatabase text = IsUtf8 text × (length text ≤ 1048548)

-- the bytes are of no command that is known, with that first byte
pub record IsUnknown (first : ℕ) (payload : List ℕ) : Type 0 where
  pub more : List ℕ
  pub whole : payload ≡ first ∷ more
  pub no_quit : first ≢ 1
  pub no_init_db : first ≡ 2 → IsDatabase more → ⊥
  pub no_query : first ≢ 3
  pub no_ping : first ≢ 0x0E

-- a payload is of that command. What follows the first byte of COM_QUIT and COM_PING is passed over
abbrev pub IsCommand : Command → List ℕ → Type 0
IsCommand Quit payload = (more : List ℕ) × (payload ≡ 1 ∷ more)
IsCommand (InitDb text) payload = (payload ≡ 2 ∷ text) × IsDatabase text
IsCommand (Query text) payload = payload ≡ 3 ∷ text
IsCommand Ping payload = (more : List ℕ) × (payload ≡ 0x0E ∷ more)
IsCommand (Unknown None) payload = payload ≡ []
IsCommand (Unknown (Some first)) payload = IsUnknown first payload

-- what is written of a command
abbrev pub command_bytes : Command → List ℕ
command_bytes Quit = 1 ∷ []
command_bytes (InitDb text) = 2 ∷ text
command_bytes (Query text) = 3 ∷ text
command_bytes Ping = 0x0E ∷ []
command_bytes (Unknown first) = []

-- a command that has bytes of its own
abbrev pub IsKnown : Command → Type 0
IsKnown Quit = Unit {0}
IsKnown (InitDb text) = length text ≤ 1048548
IsKnown (Query text) = Unit {0}
IsKnown Ping = Unit {0}
IsKnown (Unknown first) = ⊥

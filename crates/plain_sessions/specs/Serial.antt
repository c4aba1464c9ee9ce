-- Transactions that are a run of the plain tables, one after the other.
use Rattle.std.specs.Prelude.{◌≡◌, ℕ, List, [], ◌∷◌}
use Rattle.std.specs.List.{flat_map}
use Rattle.catalog.specs.Views.{View}
use Rattle.my_messages.specs.declared.reply.Reply.{Reply}
use Rattle.plain_sessions.specs.Exec.{Tables, exec}

-- a statement of a transaction, with its answer
pub record Entry : Type 0 where
  pub text : List ℕ
  pub answer : Reply

-- a transaction: its number, with the boot that drew it, and what it did, in order
pub record Transaction : Type 0 where
  pub boot : ℕ
  pub number : ℕ
  pub entries : List Entry

-- the entries are a run of the plain tables from start to end: each answer is the statement's on the tables before it
abbrev pub Follows : View → List Entry → Tables → Tables → Type 0
Follows catalog [] start end = end ≡ start
Follows catalog (entry ∷ entries) start end = let e = exec catalog entry.text start in (entry.answer ≡ e.0) × Follows catalog entries e.1 end

-- everything that transactions did, one transaction after the other
abbrev pub entries_of : List Transaction → List Entry
entries_of history = flat_map (λ (t : Transaction). t.entries) history

-- the transactions, in this order, are a run of the plain tables
abbrev pub Serial : View → List Transaction → Tables → Tables → Type 0
Serial catalog history start end = Follows catalog (entries_of history) start end

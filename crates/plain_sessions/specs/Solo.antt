-- A plain session: each statement is a transaction of its own.
use Rattle.std.specs.Prelude.{ℕ, List, [], ◌∷◌}
use Rattle.catalog.specs.Views.{View}
use Rattle.my_messages.specs.declared.reply.Reply.{Reply}
use Rattle.plain_sessions.specs.Exec.{Tables, exec}

-- the answers to the texts, in order
abbrev pub solo_answers : View → Tables → List (List ℕ) → List Reply
solo_answers catalog tables [] = []
solo_answers catalog tables (text ∷ texts) = let e = exec catalog text tables in e.0 ∷ solo_answers catalog e.1 texts

-- the tables after the texts
abbrev pub solo_after : View → Tables → List (List ℕ) → Tables
solo_after catalog tables [] = tables
solo_after catalog tables (text ∷ texts) = solo_after catalog (exec catalog text tables).1 texts

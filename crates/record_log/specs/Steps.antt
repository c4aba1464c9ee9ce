-- The changing calls of an append.
use Rattle.std.specs.Prelude.{ℕ, ◌+◌, List, [], ◌∷◌}
use Rattle.disk_core.specs.Steps.{Step, Writes, Syncs}

-- The frame is written behind the gate at a place and made sure, and then the gate is opened.
abbrev pub append_steps : ℕ → List ℕ → List Step
append_steps gate frame = Writes (gate + 1) frame ∷ Syncs ∷ Writes gate (1 ∷ []) ∷ Syncs ∷ []

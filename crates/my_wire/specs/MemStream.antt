-- A stream in memory.
use Rattle.std.specs.Prelude.{◌≡◌, ◌++◌, ℕ, List, []}
use Rattle.my_wire.specs.Memory.{left, left_nothing, left_on, taken, taken_nothing, taken_on}
use Rattle.my_wire.specs.declared.memory.stream.MemStream.{MemStream}

-- the bytes that it has left to give
abbrev pub to_give : MemStream → List ℕ
to_give s = left s.source

-- the bytes that it took
abbrev pub has_taken : MemStream → List ℕ
has_taken s = taken s.sink

-- from the first state to the second these bytes were given, and those taken
pub record Passes (s : MemStream) (given took : List ℕ) (t : MemStream) : Type 0 where
  pub gave : to_give s ≡ given ++ to_give t
  pub takes : has_taken t ≡ has_taken s ++ took

pub passes_nothing : (s : MemStream) → Passes s [] [] s
passes_nothing s = record { gave = left_nothing s.source; takes = taken_nothing s.sink }

pub passes_on : (s t u : MemStream) (a b x y : List ℕ) → Passes s a x t → Passes t b y u → Passes s (a ++ b) (x ++ y) u
passes_on s t u a b x y p q = record { gave = left_on s.source t.source u.source a b p.gave q.gave; takes = taken_on s.sink t.sink u.sink x y p.takes q.takes }

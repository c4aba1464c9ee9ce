-- What a crash inside an append may leave of the file that is written.
use Rattle.std.specs.Prelude.{◌≡◌, ◌≢◌, ◌⊎◌, ℕ, List, ◌∷◌, ◌++◌, length}
use Rattle.disk_core.specs.DiskModel.{DiskState, IsSure}

-- Behind this front stands a gate that isn't open.
abbrev pub IsShut : List ℕ → List ℕ → Type 0
IsShut front bytes = (gate : ℕ) × (rest : List ℕ) × (gate ≢ 1) × (bytes ≡ front ++ (gate ∷ rest))

-- Behind this front stands an open gate, and then this frame of a record.
abbrev pub IsOpened : List ℕ → List ℕ → List ℕ → Type 0
IsOpened front frame bytes = (rest : List ℕ) × (bytes ≡ front ++ (1 ∷ (frame ++ rest)))

-- A crash inside the append of a frame leaves the gate behind the front shut, or open before the whole frame.
abbrev pub IsTorn : List ℕ → List ℕ → List ℕ → Type 0
IsTorn front frame bytes = IsShut front bytes ⊎ IsOpened front frame bytes

-- A file that waits for an append: all of it is sure, and a gate that isn't open stands at that place.
pub record Waits (s : DiskState) (place : ℕ) : Type 0 where
  pub sure : IsSure s
  pub front : List ℕ
  pub shut : IsShut front s.seen
  pub length_front : length front ≡ place

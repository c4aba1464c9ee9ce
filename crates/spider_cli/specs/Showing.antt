use Rattle.std.specs.Prelude.{◌≡◌, ℕ, List, [], Result, Ok, Err}
use Rattle.my_wire.specs.Counts.{HasRisen, TakesFront}
use Rattle.spider_cli.specs.declared.world_play.PlayFault.{PlayFault}
use Rattle.spider_cli.specs.declared.world_play.PlayFault.TheVariants as fault
use Rattle.spider_cli.specs.declared.world_play.PlayEnd.{PlayEnd}
use Rattle.spider_cli.specs.declared.world_play.PlayEnd.TheVariants as end

-- what became of a text that was to be written after feeding
abbrev pub Shows : {K : Type 0} → (K → List ℕ → K → Type 0) → (K → ℕ) → Result (Unit {0}) PlayFault → List ℕ → List ℕ → K → K → Result (Unit {0}) PlayEnd → Type 0
Shows takes faults fed text left old new (Ok done) = (fed ≡ Ok tt) × takes old text new × (left ≡ [])
Shows takes faults fed text left old new (Err end.NoMemory) = (fed ≡ Err fault.NoMemory) × (new ≡ old)
Shows takes faults fed text left old new (Err end.WriteFault) = ((fed ≡ Err fault.NoMemory) → ⊥) × TakesFront takes old text new × HasRisen (faults old) (faults new)
Shows takes faults fed text left old new (Err (end.Refused line rule)) = (fed ≡ Err (fault.Refused line rule)) × takes old text new
Shows takes faults fed text left old new (Err end.Done) = ⊥
Shows takes faults fed text left old new (Err end.ReadFault) = ⊥

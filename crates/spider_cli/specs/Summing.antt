use Rattle.std.specs.Prelude.{◌≡◌, ℕ, List}
use Rattle.my_wire.specs.Counts.{HasRisen, TakesFront}
use Rattle.spider_cli.specs.declared.outcome.Object.TheVariants as object
use Rattle.spider_cli.specs.declared.outcome.Outcome.{Outcome}
use Rattle.spider_cli.specs.declared.outcome.Outcome.TheVariants as outcome

-- how the writing of a text ended
abbrev pub Sums : {K : Type 0} → (K → List ℕ → K → Type 0) → (K → ℕ) → K → K → List ℕ → Outcome → Type 0
Sums takes faults sink full text outcome.Done = takes sink text full
Sums takes faults sink full text (outcome.Fault object.Output) = HasRisen (faults sink) (faults full) × TakesFront takes sink text full
Sums takes faults sink full text outcome.NoMemory = full ≡ sink
Sums takes faults sink full text (outcome.Fault object.Input) = ⊥
Sums takes faults sink full text (outcome.Fault object.Conf) = ⊥
Sums takes faults sink full text (outcome.Conf rule) = ⊥
Sums takes faults sink full text (outcome.Refused line rule) = ⊥
Sums takes faults sink full text outcome.Usage = ⊥

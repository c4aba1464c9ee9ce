-- The definitions of a plan on an example: five mishaps, of which four fall on the next call.
use Rattle.std.proofs.Common.{◌≡◌, List, [], ◌∷◌, refl}
use Rattle.std.specs.Prelude.{Some}
use Rattle.disk_core.specs.Trial.{later, mishap_of}
use Rattle.disk_core.specs.declared.image.Image.TheVariants.{Keep, Half}
use Rattle.disk_core.specs.declared.plan.Mishap.TheVariants.{Fail, Stop}
use Rattle.disk_core.specs.declared.plan.Pending.{Pending}

abbrev pub planned : List Pending
planned =
    record { call = 1; mishap = Fail }
    ∷ record { call = 1; mishap = Stop Keep }
    ∷ record { call = 1; mishap = Stop Half }
    ∷ record { call = 3; mishap = Fail }
    ∷ record { call = 1; mishap = Fail }
    ∷ []

-- the last stop counts
pub last_stop_counts : mishap_of planned ≡ Some (Stop Half)
last_stop_counts = refl

-- all four are spent, and the fifth is a call nearer
pub four_are_spent : later planned ≡ record { call = 2; mishap = Fail } ∷ []
four_are_spent = refl

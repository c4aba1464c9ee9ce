-- How the logic stores moments.
use Rattle.std.specs.Prelude.{◌≡◌, ◌⊎◌, ℕ, List, refl}
use Rattle.std.proofs.Common.{inl, inr}
use Rattle.std.specs.Coded.{Coded, code_by, coded×, coded⊎, coded_ℕ, coded_list}
use Rattle.disk_core.specs.DiskModel.{Change, Wrote, CutTo, Moment}

abbrev parts_of : Change → ((ℕ × List ℕ) ⊎ ℕ)
parts_of (Wrote at piece) = inl (at, piece)
parts_of (CutTo n) = inr n

abbrev change_of : ((ℕ × List ℕ) ⊎ ℕ) → Change
change_of (inl wrote) = Wrote wrote.0 wrote.1
change_of (inr n) = CutTo n

pub change_back : (change : Change) → change_of (parts_of change) ≡ change
change_back (Wrote at piece) = refl
change_back (CutTo n) = refl

abbrev change_code : Coded Change
change_code = code_by ((ℕ × List ℕ) ⊎ ℕ) (coded⊎ (coded× coded_ℕ (coded_list coded_ℕ)) coded_ℕ) parts_of change_of change_back

abbrev moment_code : Coded Moment
moment_code =
    code_by (List ℕ × List Change) (coded× (coded_list coded_ℕ) (coded_list change_code)) (λ m. (m.sure, m.since)) (λ t. record { sure = t.0; since = t.1 }) (λ _. refl)

-- A list of moments is stored as a list of pairs of bytes and changes.
abbrev pub moments_code : Coded (List Moment)
moments_code = coded_list moment_code

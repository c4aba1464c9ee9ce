-- What can't be done is told as it is meant.
use Rattle.std.proofs.Common.{◌≡◌, refl, sym, ◌∙◌, ap}
use Rattle.std.specs.Prelude.{Result, Ok, Err}
use Rattle.stmt_plan.specs.declared.fault.RowFault.{RowFault}
use Rattle.stmt_plan.specs.declared.fault.RowFault.TheVariants.{Arithmetic}
use Rattle.plain_tables.specs.Updates.{map_ok, and_then}
use Rattle.txn_phases.specs.declared.changing.ChangeFault.{ChangeFault}
use Rattle.txn_phases.specs.declared.changing.ChangeFault.TheVariants as change
use Rattle.txn_phases.specs.Changes.{told}

back : {X : Type 0} → Result X ChangeFault → Result X RowFault
back (Ok x) = Ok x
back (Err (change.Refused fault)) = Err fault
back (Err change.NoMemory) = Err Arithmetic

back_told : {X : Type 0} (meant : Result X RowFault) → back (told meant) ≡ meant
unfolding back
back_told (Ok x) = refl
back_told (Err fault) = refl

pub meant_refused : {X : Type 0} (meant : Result X RowFault) (fault : RowFault) → told meant ≡ Err (change.Refused fault) → meant ≡ Err fault
unfolding back
meant_refused meant fault is = sym (back_told meant) ∙ ap (λ r. back r) is

pub told_then : {X Y : Type 0} (meant : Result X RowFault) (next : X → Result Y RowFault) (fault : ChangeFault) → told meant ≡ Err fault → told (and_then meant next) ≡ Err fault
told_then (Ok x) next fault is = cc
told_then (Err e) next fault is = ap (λ (f : ChangeFault). Err f) (let same : change.Refused e ≡ fault = cc in same)

pub told_mapped : {X Y : Type 0} (f : X → Y) (meant : Result X RowFault) (fault : ChangeFault) → told meant ≡ Err fault → told (map_ok f meant) ≡ Err fault
told_mapped f (Ok x) fault is = cc
told_mapped f (Err e) fault is = ap (λ (f : ChangeFault). Err f) (let same : change.Refused e ≡ fault = cc in same)

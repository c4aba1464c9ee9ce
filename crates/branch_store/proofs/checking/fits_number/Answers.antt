use Rattle.std.proofs.Common.{rules, w64}
use Rattle.std.specs.Prelude.{FitsSigned}
use Rattle.branch_store.proofs.Fitting.{number_fits}
use Rattle.branch_store.proofs.checking.fits_number.Goals as goal

pub returns-in-BigInt : goal.returns-in-BigInt
returns-in-BigInt c =
    let fits : FitsSigned w64 c.args.number.now = search rules in
    rw c.in-BigInt.is (number_fits c.args.number.now fits)

-- What an answer tells.
use Rattle.std.proofs.Common.{◌≡◌, ap}
use Rattle.std.specs.Prelude.{Some, Err, IsErrOf}
use Rattle.disk_core.specs.DiskModel.{DiskState}
use Rattle.record_log.specs.declared.fault.LogFault.{LogFault}

pub some_same : (x y : DiskState) → Some x ≡ Some y → x ≡ y
some_same x y is = cc

pub err_is : {T : Type 0} (f e : LogFault) → IsErrOf {T = T} {E = LogFault} (Err f) e → f ≡ e
err_is f e is = cc

pub err_of : {T : Type 0} (f e : LogFault) → f ≡ e → IsErrOf {T = T} {E = LogFault} (Err f) e
err_of f e is = ap (λ (x : LogFault). Err x) is

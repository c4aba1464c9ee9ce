use Rattle.std.proofs.Common.{List, ℕ, ◌∙◌, ap, sym}
use Rattle.std.specs.Prelude.{Some, Err}
use Rattle.record_log.specs.RecordLists.{list_of}
use Rattle.record_log.specs.declared.fault.LogFault.{LogFault}
use Rattle.record_log.specs.declared.fault.LogFault.TheVariants.{NotALog}
use Rattle.record_log.proofs.Told.{err_is}
use Rattle.record_log.proofs.Opened.{stored_found, log_found}
use Rattle.record_log.proofs.log.Log.reopen.Goals as goal

pub take_up-requires-clause-stored : goal.take_up-requires-clause-stored
take_up-requires-clause-stored g c = stored_found c.in-Ok.found.in_spare _ _ _ _ (list_of c.in-Ok.found.records) c.in-Ok.found.gate c.in-Ok.ensures.told c.in-Ok.ensures.sure.0 c.in-Ok.ensures.sure.1

pub returns-in-Ok-clause-found : goal.returns-in-Ok-clause-found
returns-in-Ok-clause-found g c = λ unsound a b is_a is_b.
    let main = ap (λ v. g.D.Disk.state v.current) c.self-2.view_is ∙ ap g.D.Disk.state c.put_in_order.ensures.disks.0 ∙ is_a in
    let spare = ap (λ v. g.D.Disk.state v.other) c.self-2.view_is ∙ ap g.D.Disk.state c.put_in_order.ensures.disks.1 ∙ is_b in
    log_found c.in-Ok.found.in_spare a.seen b.seen (list_of c.in-Ok.found.records) c.in-Ok.found.gate (c.in-Ok.ensures.told a b main spare) ∙ ap (λ (rs : List (List ℕ)). Some rs) (sym c.take_up.ensures.found.0)

pub returns-in-Err-clause-refused : goal.returns-in-Err-clause-refused
returns-in-Err-clause-refused g c = λ found size is a b is_a is_b.
    let main = ap (λ v. g.D.Disk.state v.current) c.self-2.view_is ∙ ap g.D.Disk.state c.put_in_order.ensures.disks.0 ∙ is_a in
    let spare = ap (λ v. g.D.Disk.state v.other) c.self-2.view_is ∙ ap g.D.Disk.state c.put_in_order.ensures.disks.1 ∙ is_b in
    c.in-Err.ensures.refused found size (ap (λ (f : LogFault). Err f) (err_is {T = Unit {0}} c.in-Err.fault (NotALog found size) is)) a b main spare

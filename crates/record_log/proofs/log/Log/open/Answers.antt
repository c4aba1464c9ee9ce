use Rattle.std.proofs.Common.{List, ℕ, ◌∙◌, ap, sym}
use Rattle.std.specs.Prelude.{Some, Err}
use Rattle.record_log.specs.RecordLists.{list_of}
use Rattle.record_log.specs.declared.fault.LogFault.{LogFault}
use Rattle.record_log.proofs.Opened.{stored_found, log_found}
use Rattle.record_log.proofs.log.Log.open.Goals as goal

pub assembled-requires-clause-stored : goal.assembled-requires-clause-stored
assembled-requires-clause-stored g c =
    stored_found c.in-Ok.found.in_spare _ _ _ _ (list_of c.in-Ok.found.records) c.in-Ok.found.gate c.in-Ok.ensures.told c.in-Ok.ensures.sure.0 c.in-Ok.ensures.sure.1

pub returns-in-Ok-clause-found : goal.returns-in-Ok-clause-found
returns-in-Ok-clause-found g c = λ a b is_a is_b.
    log_found c.in-Ok.found.in_spare a.seen b.seen (list_of c.in-Ok.found.records) c.in-Ok.found.gate (c.in-Ok.ensures.told a b is_a is_b) ∙ ap (λ (rs : List (List ℕ)). Some rs) (sym c.assembled.ensures.records)

pub returns-in-Err-clause-refused : goal.returns-in-Err-clause-refused
returns-in-Err-clause-refused g c = λ found size is a b is_a is_b. c.in-Err.ensures.refused found size (ap (λ (f : LogFault). Err f) is) a b is_a is_b

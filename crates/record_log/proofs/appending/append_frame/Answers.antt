use Rattle.std.proofs.Common.{◌+◌, [], ◌∷◌, ◌∙◌, ap, sym}
use Rattle.std.specs.Prelude.{Result, is_ok}
use Rattle.disk_core.specs.declared.disk.Failed.{Failed}
use Rattle.disk_core.specs.Steps.{Writes, Syncs}
use Rattle.disk_core.proofs.Courses.{ends_as, more_go, not_ok, rest_go}
use Rattle.record_log.proofs.Appends.{after_failed_write, after_failed_gate, after_all, all_done, place_first, place_second}
use Rattle.record_log.proofs.appending.append_frame.Goals as goal

pub write_sure-requires-clause-place : goal.write_sure-requires-clause-place
write_sure-requires-clause-place g c = place_first c.args.gate _ c.requires.file

-- the first write leaves the gate shut
pub returns-in_err-write_sure-clause-any_moment : goal.returns-in_err-write_sure-clause-any_moment
returns-in_err-write_sure-clause-any_moment g c = after_failed_write c.args.gate c.args.frame.now _ _ c.requires.file c.in_err-write_sure.ensures.torn

pub write_sure-requires-2-clause-place : goal.write_sure-requires-2-clause-place
write_sure-requires-2-clause-place g c = place_second c.args.gate c.args.frame.now _ _ c.requires.file c.in_ok-write_sure.ensures.done

-- the second leaves it shut, or open before the whole frame
pub returns-in_err-write_sure-2-clause-any_moment : goal.returns-in_err-write_sure-2-clause-any_moment
returns-in_err-write_sure-2-clause-any_moment g c = after_failed_gate c.args.gate c.args.frame.now _ _ _ c.requires.file c.in_ok-write_sure.ensures.done c.in_err-write_sure-2.ensures.torn

pub returns-clause-any_moment : goal.returns-clause-any_moment
returns-clause-any_moment g c = after_all c.args.gate c.args.frame.now _ _ _ c.requires.file c.in_ok-write_sure.ensures.done c.in_ok-write_sure-2.ensures.done

-- and then the record is sure
pub returns-clause-done : goal.returns-clause-done
returns-clause-done g c = all_done c.args.gate c.args.frame.now _ _ _ c.requires.file c.in_ok-write_sure.ensures.done c.in_ok-write_sure-2.ensures.done

pub returns-in_err-write_sure-clause-planned : goal.returns-in_err-write_sure-clause-planned
returns-in_err-write_sure-clause-planned g c =
    let failed = c.in_err-write_sure.was {u = tt} in
    rest_go (Writes (c.args.gate + 1) c.args.frame.now ∷ Syncs ∷ []) (Writes c.args.gate (1 ∷ []) ∷ Syncs ∷ []) _ _ _ _ _ _ c.write_sure.ensures.planned (ap (λ (r : Result Unit Failed). is_ok r) failed) (not_ok c.from_residual.result c.from_residual.ensures.0)

pub returns-in_err-write_sure-2-clause-planned : goal.returns-in_err-write_sure-2-clause-planned
returns-in_err-write_sure-2-clause-planned g c =
    let succeeded = c.in_ok-write_sure.was {u = tt} in
    let failed = c.in_err-write_sure-2.was {u = tt} in
    more_go (Writes (c.args.gate + 1) c.args.frame.now ∷ Syncs ∷ []) (Writes c.args.gate (1 ∷ []) ∷ Syncs ∷ []) _ _ _ _ _ _ _ _ c.write_sure.ensures.planned (ap (λ (r : Result Unit Failed). is_ok r) succeeded) (ends_as (Writes c.args.gate (1 ∷ []) ∷ Syncs ∷ []) _ _ _ _ _ _ c.write_sure-2.ensures.planned (ap (λ (r : Result Unit Failed). is_ok r) failed ∙ sym (not_ok c.from_residual-in_err-write_sure-2.result c.from_residual-in_err-write_sure-2.ensures.0)))

pub returns-clause-planned : goal.returns-clause-planned
returns-clause-planned g c =
    let succeeded = c.in_ok-write_sure.was {u = tt} in
    let last = c.in_ok-write_sure-2.was {u = tt} in
    more_go (Writes (c.args.gate + 1) c.args.frame.now ∷ Syncs ∷ []) (Writes c.args.gate (1 ∷ []) ∷ Syncs ∷ []) _ _ _ _ _ _ _ _ c.write_sure.ensures.planned (ap (λ (r : Result Unit Failed). is_ok r) succeeded) (ends_as (Writes c.args.gate (1 ∷ []) ∷ Syncs ∷ []) _ _ _ _ _ _ c.write_sure-2.ensures.planned (ap (λ (r : Result Unit Failed). is_ok r) last))

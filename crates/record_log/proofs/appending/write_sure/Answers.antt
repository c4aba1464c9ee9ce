use Rattle.std.proofs.Common.{◌≡◌, inr, ℕ, List, length, arith, refl, [], ◌∷◌, ◌∙◌, ap}
use Rattle.std.specs.Prelude.{Option, Some, None, option_map, Result, Ok, Err, OnErr, is_ok}
use Rattle.disk_core.specs.DiskModel.{DiskState, Becomes, FailsToWrite, patched, written}
use Rattle.disk_core.specs.Stays.{torn_patch}
use Rattle.disk_core.specs.declared.disk.Failed.{Failed}
use Rattle.disk_core.specs.Steps.{Writes, Syncs}
use Rattle.disk_core.proofs.Courses.{one_goes, more_go, not_ok, rest_go}
use Rattle.record_log.proofs.appending.write_sure.Goals as goal

-- a write that was done is one that may have been torn
wrote : (at : ℕ) (piece : List ℕ) (o o1 o2 : Option DiskState) → o1 ≡ option_map (written at piece) o → o2 ≡ o1 → Becomes (FailsToWrite at piece) o o2
wrote at piece None o1 o2 is same = same ∙ is
wrote at piece (Some s) o1 o2 is same = (written at piece s, same ∙ is, inr (patched at piece s.seen, torn_patch at (length piece) piece s.seen (omega arith), refl))

on_err : {T E : Type 0} (P Q : Type 0) (result : Result T E) → OnErr result P → (P → Q) → OnErr result Q
on_err P Q (Ok x) told f = tt
on_err P Q (Err e) told f = f told

pub returns-clause-torn : goal.returns-clause-torn
returns-clause-torn g c = on_err _ _ c.sync.result c.sync.ensures.unchanged (λ same. wrote c.args.at c.args.bytes.now _ _ _ c.in_ok-write_at.ensures.written same)

pub returns-in_err-write_at-clause-planned : goal.returns-in_err-write_at-clause-planned
returns-in_err-write_at-clause-planned g c =
    let first = one_goes (Writes c.args.at c.args.bytes.now) _ _ _ _ c.write_at.result c.write_at.ensures.trial in
    let failed = c.in_err-write_at.was {u = tt} in
    rest_go (Writes c.args.at c.args.bytes.now ∷ []) (Syncs ∷ []) _ _ _ _ _ _ first (ap (λ (r : Result Unit Failed). is_ok r) failed) (not_ok c.from_residual.result c.from_residual.ensures.0)

pub returns-clause-planned : goal.returns-clause-planned
returns-clause-planned g c =
    let first = one_goes (Writes c.args.at c.args.bytes.now) _ _ _ _ c.write_at.result c.write_at.ensures.trial in
    let succeeded = c.in_ok-write_at.was {u = tt} in
    more_go (Writes c.args.at c.args.bytes.now ∷ []) (Syncs ∷ []) _ _ _ _ _ _ _ _ first (ap (λ (r : Result Unit Failed). is_ok r) succeeded) (one_goes Syncs _ _ _ _ c.sync.result c.sync.ensures.trial)

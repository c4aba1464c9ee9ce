use Rattle.std.proofs.Common.{List, ℕ, [], ◌∷◌, ◌++◌, ◌∙◌, ap}
use Rattle.record_log.proofs.RecordReads.{loop_step, ended, not_empty}
use Rattle.record_log.specs.RecordLists.{list_of}
use Rattle.record_log.proofs.reading.read_records.Goals as goal

pub loop-after-preserved : goal.loop-after-preserved
loop-after-preserved c =
    let so_far = c.loop-after.invariant in
    loop_step _ so_far.0 _ _ _ _ (list_of c.loop-after.records) _ so_far.1 c.in-Some.ensures.opened so_far.2 so_far.3 c.in-Some-whole_record.ensures.whole c.in-Some-whole_record.ensures.payload c.in-Some-whole_record.ensures.behind (let pushed = c.in_ok-push.ensures {u = tt} in pushed.ok ∙ ap (λ (p : List ℕ). list_of c.loop-after.records ++ p ∷ []) (c.from_vec.ensures ∙ c.in_ok-from_slice.ensures.items))

pub returns-clause-records : goal.returns-clause-records
returns-clause-records c =
    let so_far = c.loop-after.invariant in
    ended _ so_far.0 _ (list_of c.loop-after.records) so_far.1 so_far.2 so_far.3 (not_empty _ _ c.is_empty.ensures c.if-is_empty.false) c.in_default.ensures.shut

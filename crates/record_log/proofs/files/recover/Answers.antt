use Rattle.std.proofs.Common.{◌∙◌, ap}
use Rattle.std.specs.Prelude.{Result, Ok, Err, IfOk, option_map}
use Rattle.disk_core.specs.DiskModel.{synced}
use Rattle.record_log.proofs.files.recover.Goals as goal

map_ok : {T E : Type 0} (r : Result T E) (P Q : T → Type 0) → ((x : T) → P x → Q x) → IfOk r P → IfOk r Q
map_ok (Ok x) P Q f h = f x h
map_ok (Err e) P Q f h = tt

pub returns-clause-told : goal.returns-clause-told
returns-clause-told g c =
    let both = c.in_ok-make_sure_both.ensures {u = tt} in
    map_ok
    c.read_files.result
    _
    _
    (λ found told a b is_a is_b. told (synced a) (synced b) (both.sure.0 ∙ ap (λ o. option_map synced o) is_a) (both.sure.1 ∙ ap (λ o. option_map synced o) is_b))
    c.read_files.ensures.told

pub returns-clause-refused : goal.returns-clause-refused
returns-clause-refused g c = λ found size is a b is_a is_b.
    let both = c.in_ok-make_sure_both.ensures {u = tt} in
    c.read_files.ensures.refused found size is (synced a) (synced b) (both.sure.0 ∙ ap (λ o. option_map synced o) is_a) (both.sure.1 ∙ ap (λ o. option_map synced o) is_b)

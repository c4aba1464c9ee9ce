use Rattle.std.proofs.Common.{◌≡◌, ℕ, ◌<◌, Some, sym, ◌∙◌, arith, length}
use Rattle.std.specs.Prelude.{slice_get}
use Rattle.std.proofs.lemmas.Bool.{false≢true}
use Rattle.branch_store.proofs.Found.{has_name, one_more, stands_within}
use Rattle.branch_store.proofs.remote_table.scanning.stands_elsewhere.Goals.{else-place-key-via-then-place-key+else-eq, else-place-key-via-else-place-key}
use Rattle.branch_store.proofs.remote_table.scanning.stands_elsewhere.Goals as goal

pub loop-place-preserved : goal.loop-place-preserved
loop-place-preserved c = λ j other below at same.
    let columns = c.args.columns.now in
    let P : ℕ → Type 0 = λ k. slice_get columns k ≡ Some other → other.name ≡ c.args.name.now → k ≡ c.args.key in
    let here : P c.loop-place.place = λ there named. elim c.else-place-key.branch [
      | else-place-key-via-then-place-key+else-eq w ↦ absurd (false≢true (sym w.if-eq.false ∙ (w.eq.ensures ∙ has_name columns c.loop-place.place w.index-columns-place.result other c.args.name.now there named)))
      | else-place-key-via-else-place-key w ↦ w.if-place-key.false
    ] in
    one_more P c.loop-place.place j below (λ less there named. c.loop-place.invariant j other less there named) here at same

pub returns : goal.returns
returns c = λ is j other at same. let within : j < length c.args.columns.now = stands_within c.args.columns.now j other at in
    c.loop-place.invariant j other (omega (arith, within, c.loop-place-test.false)) at same

use Rattle.std.proofs.Common.{◌∙◌}
use Rattle.std.proofs.lemmas.Result.{err_from_is_err_and}
use Rattle.my_messages.specs.Reading.{cells_at}
use Rattle.my_messages.proofs.Rows.{goes_on, stops, ended}
use Rattle.my_messages.proofs.row.row.Goals as goal

pub returns-in_err-value : goal.returns-in_err-value
returns-in_err-value c =
    let p = err_from_is_err_and c.from_residual.result c.from_residual.ensures.1 in
    rw (p.1, p.2) (stops c.in_err-value.field-0.0 c.loop.cells c.args.width c.loop.counter c.loop.rest.now (cells_at c.args.width c.args.bytes.now) c.loop-test.true c.in_err-value.ensures c.loop.invariant)

pub loop-preserved : goal.loop-preserved
loop-preserved c =
    rw c.in_ok-push.ensures.ok (goes_on c.loop.cells c.args.width c.loop.counter c.loop.rest.now c.in_ok-value.after.now c.in_ok-value.value (cells_at c.args.width c.args.bytes.now) c.loop-test.true c.in_ok-value.ensures c.loop.invariant)

pub returns-in_err-end : goal.returns-in_err-end
returns-in_err-end c =
    let p = err_from_is_err_and c.from_residual-in_err-end.result c.from_residual-in_err-end.ensures.1 in
    rw (p.1, p.2) (ended c.loop.cells c.args.width c.loop.counter c.loop.rest.now (cells_at c.args.width c.args.bytes.now) c.loop-test.false c.loop.invariant ∙ c.in_err-end.ensures)

pub returns : goal.returns
returns c = ended c.loop.cells c.args.width c.loop.counter c.loop.rest.now (cells_at c.args.width c.args.bytes.now) c.loop-test.false c.loop.invariant ∙ c.in_ok-end.ensures

use Rattle.std.proofs.Common.{◌≡◌, ◌-◌, true, false, arith}
use Rattle.sql_text.specs.declared.token.Fixed.TheVariants as fixed
use Rattle.sql_text.specs.Reading.{begins, sort_at}
use Rattle.sql_text.proofs.Series.{stopped, pushed, failed}
use Rattle.sql_text.proofs.reading.orders.further_sorts.Goals as goal

pub returns-then-not-begins : goal.returns-then-not-begins
returns-then-not-begins c =
    let no : begins fixed.Comma c.loop.rest.now ≡ false = cc in
    stopped (c.args.most - c.loop.counter) fixed.Comma sort_at c.loop.rest.now c.loop.sorts.items _ no c.loop.invariant

pub returns-in-Err : goal.returns-in-Err
returns-in-Err c =
    let yes : begins fixed.Comma c.loop.rest.now ≡ true = cc in
    failed c.args.most c.loop.counter fixed.Comma sort_at c.loop.rest.now c.behind.result.now c.loop.sorts.items _ c.in-Err.error (omega arith) yes c.behind.ensures c.in-Err.ensures c.loop.invariant

pub loop-preserved : goal.loop-preserved
loop-preserved c =
    let yes : begins fixed.Comma c.loop.rest.now ≡ true = cc in
    rw c.in_ok-push-in-Ok.ensures.items
    (pushed c.args.most c.loop.counter fixed.Comma sort_at c.loop.rest.now c.behind.result.now c.in-Ok.part c.in-Ok.more.now c.loop.sorts.items _ (omega arith) yes c.behind.ensures c.in-Ok.ensures c.loop.invariant)

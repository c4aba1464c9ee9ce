use Rattle.std.proofs.Common.{◌≡◌, ◌-◌, true, false, arith}
use Rattle.sql_text.specs.declared.token.Fixed.TheVariants as fixed
use Rattle.sql_text.specs.Grammar.{sign_of}
use Rattle.sql_text.specs.Reading.{begins, stands, factor_at, addend_by}
use Rattle.sql_text.proofs.Series.{stopped, pushed, failed, no_more, one_pushed, one_failed}
use Rattle.sql_text.proofs.reading.expressions.+reading.Goals as goal

pub further_factors-returns-then-not-begins : goal.further_factors-returns-then-not-begins
further_factors-returns-then-not-begins t c =
    let no : begins fixed.Star c.loop.rest.now ≡ false = cc in
    stopped (c.args.most - c.loop.counter) fixed.Star (factor_at c.args.depth) c.loop.rest.now c.loop.factors.items _ no c.loop.invariant

pub further_factors-returns-in-Err : goal.further_factors-returns-in-Err
further_factors-returns-in-Err t c =
    let yes : begins fixed.Star c.loop.rest.now ≡ true = cc in
    failed c.args.most c.loop.counter fixed.Star (factor_at c.args.depth) c.loop.rest.now c.behind.result.now c.loop.factors.items _ c.in-Err.error (omega arith) yes c.behind.ensures c.in-Err.ensures c.loop.invariant

pub further_factors-loop-preserved : goal.further_factors-loop-preserved
further_factors-loop-preserved t c =
    let yes : begins fixed.Star c.loop.rest.now ≡ true = cc in
    rw c.in_ok-push-in-Ok.ensures.items
    (pushed c.args.most c.loop.counter fixed.Star (factor_at c.args.depth) c.loop.rest.now c.behind.result.now c.in-Ok.part c.in-Ok.more.now c.loop.factors.items _ (omega arith) yes c.behind.ensures c.in-Ok.ensures c.loop.invariant)

pub further_addends-returns-then-not-sign_stands : goal.further_addends-returns-then-not-sign_stands
further_addends-returns-then-not-sign_stands t c =
    let no : stands sign_of c.loop.rest.now ≡ false = cc in
    no_more (c.args.most - c.loop.counter) (stands sign_of) (addend_by (factor_at c.args.depth)) c.loop.rest.now c.loop.parts.items _ no c.loop.invariant

pub further_addends-returns-in-Err : goal.further_addends-returns-in-Err
further_addends-returns-in-Err t c =
    let yes : stands sign_of c.loop.rest.now ≡ true = cc in
    one_failed c.args.most c.loop.counter (stands sign_of) (addend_by (factor_at c.args.depth)) c.loop.rest.now c.loop.parts.items _ c.in-Err.error (omega arith) yes c.in-Err.ensures c.loop.invariant

pub further_addends-loop-preserved : goal.further_addends-loop-preserved
further_addends-loop-preserved t c =
    let yes : stands sign_of c.loop.rest.now ≡ true = cc in
    rw c.in_ok-push-in-Ok.ensures.items
    (one_pushed c.args.most c.loop.counter (stands sign_of) (addend_by (factor_at c.args.depth)) c.loop.rest.now c.in-Ok.part c.in-Ok.more.now c.loop.parts.items _ (omega arith) yes c.in-Ok.ensures c.loop.invariant)

use Rattle.std.proofs.Common.{◌≡◌, ◌-◌, true, false, arith}
use Rattle.sql_text.specs.declared.token.Fixed.TheVariants as fixed
use Rattle.sql_text.specs.Reading.{begins, neg_at, conj_by}
use Rattle.sql_text.proofs.Series.{stopped, pushed, failed}
use Rattle.sql_text.proofs.reading.conditions.+reading.Goals as goal

pub further_negs-returns-then-not-begins : goal.further_negs-returns-then-not-begins
further_negs-returns-then-not-begins t c =
    let no : begins fixed.And c.loop.rest.now ≡ false = cc in
    stopped (c.args.most - c.loop.counter) fixed.And (neg_at c.args.depth) c.loop.rest.now c.loop.parts.items _ no c.loop.invariant

pub further_negs-returns-in-Err : goal.further_negs-returns-in-Err
further_negs-returns-in-Err t c =
    let yes : begins fixed.And c.loop.rest.now ≡ true = cc in
    failed c.args.most c.loop.counter fixed.And (neg_at c.args.depth) c.loop.rest.now c.behind.result.now c.loop.parts.items _ c.in-Err.error (omega arith) yes c.behind.ensures c.in-Err.ensures c.loop.invariant

pub further_negs-loop-preserved : goal.further_negs-loop-preserved
further_negs-loop-preserved t c =
    let yes : begins fixed.And c.loop.rest.now ≡ true = cc in
    rw c.in_ok-push-in-Ok.ensures.items
    (pushed c.args.most c.loop.counter fixed.And (neg_at c.args.depth) c.loop.rest.now c.behind.result.now c.in-Ok.part c.in-Ok.more.now c.loop.parts.items _ (omega arith) yes c.behind.ensures c.in-Ok.ensures c.loop.invariant)

pub further_conjs-returns-then-not-begins : goal.further_conjs-returns-then-not-begins
further_conjs-returns-then-not-begins t c =
    let no : begins fixed.Or c.loop.rest.now ≡ false = cc in
    stopped (c.args.most - c.loop.counter) fixed.Or (conj_by (neg_at c.args.depth)) c.loop.rest.now c.loop.parts.items _ no c.loop.invariant

pub further_conjs-returns-in-Err : goal.further_conjs-returns-in-Err
further_conjs-returns-in-Err t c =
    let yes : begins fixed.Or c.loop.rest.now ≡ true = cc in
    failed c.args.most c.loop.counter fixed.Or (conj_by (neg_at c.args.depth)) c.loop.rest.now c.behind.result.now c.loop.parts.items _ c.in-Err.error (omega arith) yes c.behind.ensures c.in-Err.ensures c.loop.invariant

pub further_conjs-loop-preserved : goal.further_conjs-loop-preserved
further_conjs-loop-preserved t c =
    let yes : begins fixed.Or c.loop.rest.now ≡ true = cc in
    rw c.in_ok-push-in-Ok.ensures.items
    (pushed c.args.most c.loop.counter fixed.Or (conj_by (neg_at c.args.depth)) c.loop.rest.now c.behind.result.now c.in-Ok.part c.in-Ok.more.now c.loop.parts.items _ (omega arith) yes c.behind.ensures c.in-Ok.ensures c.loop.invariant)

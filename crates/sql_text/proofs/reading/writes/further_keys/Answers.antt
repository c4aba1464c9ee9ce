use Rattle.std.proofs.Common.{◌≡◌, ◌-◌, true, false, rules, arith, FitsSigned}
use Rattle.std.specs.Int.{w64}
use Rattle.std.proofs.lemmas.Int.{to_z-of_z}
use Rattle.sql_text.specs.declared.token.Fixed.TheVariants as fixed
use Rattle.sql_text.specs.Reading.{begins, one_at}
use Rattle.sql_text.specs.LinkGrammar.{key_of}
use Rattle.sql_text.proofs.Series.{stopped, pushed, failed}
use Rattle.sql_text.proofs.reading.writes.further_keys.Goals as goal

pub returns-then-not-begins : goal.returns-then-not-begins
returns-then-not-begins c =
    let no : begins fixed.Comma c.loop.rest.now ≡ false = cc in
    stopped (c.args.most - c.loop.counter) fixed.Comma (one_at key_of) c.loop.rest.now c.loop.keys.items _ no c.loop.invariant

pub returns-in-Err : goal.returns-in-Err
returns-in-Err c =
    let yes : begins fixed.Comma c.loop.rest.now ≡ true = cc in
    failed c.args.most c.loop.counter fixed.Comma (one_at key_of) c.loop.rest.now c.behind.result.now c.loop.keys.items _ c.in-Err.error (omega arith) yes c.behind.ensures c.in-Err.ensures c.loop.invariant

pub loop-preserved : goal.loop-preserved
loop-preserved c =
    let yes : begins fixed.Comma c.loop.rest.now ≡ true = cc in
    let fits : FitsSigned w64 c.in-Ok.part = search rules in
    rw (c.in_ok-push-in-Ok.ensures.items, to_z-of_z w64 c.in-Ok.part fits)
    (pushed c.args.most c.loop.counter fixed.Comma (one_at key_of) c.loop.rest.now c.behind.result.now c.in-Ok.part c.in-Ok.more.now c.loop.keys.items _ (omega arith) yes c.behind.ensures c.in-Ok.ensures c.loop.invariant)

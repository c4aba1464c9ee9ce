use Rattle.std.proofs.Common.{rules, SFits, w64}
use Rattle.std.proofs.lemmas.Int.{to_z-of_z}
use Rattle.txn_phases.proofs.Taken.{looks_on, found_taken, none_taken}
use Rattle.txn_phases.proofs.deed.taken_key.Goals as goal

pub returns-then-not-branch : goal.returns-then-not-branch
returns-then-not-branch c =
    let fits : SFits w64 c.new-item.result.key = search rules in
    rw (to_z-of_z w64 c.new-item.result.key fits)
    (found_taken c.args.place c.args.found.now c.args.news.now c.loop-new.taken c.loop-new.new-index c.new-item.result c.new-item.is c.loop-new-test.true c.loop-new.invariant (search rules))

pub loop-new-preserved : goal.loop-new-preserved
loop-new-preserved c =
    looks_on c.args.place c.args.found.now c.args.news.now c.loop-new.taken c.add_key.new.keys c.loop-new.new-index c.new-item.result c.new-item.is c.loop-new-test.true c.loop-new.invariant (search rules) c.in_ok-add_key.ensures.keys

pub returns : goal.returns
returns c = none_taken c.args.place c.args.found.now c.args.news.now c.loop-new.taken (search rules)

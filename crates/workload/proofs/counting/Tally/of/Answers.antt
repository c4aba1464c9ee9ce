use Rattle.std.proofs.Common.{◌≡◌, ◌^◌, ◌<◌, [], rules, length, sym, subst, arith}
use Rattle.std.proofs.lemmas.Bool.Decides.{nat_tests}
use Rattle.std.proofs.lemmas.List.{nil_from_length}
use Rattle.world_runs.specs.Schedule.{lines_of}
use Rattle.workload.specs.Tally.{Counts}
use Rattle.workload.proofs.Lines.{lines_of-cut, lines_of-uncut, cut_shorter}
use Rattle.workload.proofs.Tallies.{fits, nothing_more}
use Rattle.workload.proofs.counting.Tally.of.Goals as goal

pub add-requires : goal.add-requires
add-requires c =
    let e = lines_of-cut c.loop-line.left.now c.in-Some.line.now c.in-Some.more.now (sym c.in-Some.ensures) in
    let l : length c.args.text.now < 2 ^ 64 = search rules in
    fits c.loop-line.tally c.in-Some.line.now (lines_of c.in-Some.more.now) c.args.text.now l (subst (λ ls. Counts c.loop-line.tally ls (lines_of c.args.text.now)) e c.loop-line.invariant)

pub loop-line-smaller : goal.loop-line-smaller
loop-line-smaller c = cut_shorter c.loop-line.left.now c.in-Some.line.now c.in-Some.more.now (sym c.in-Some.ensures)

pub loop-line-preserved : goal.loop-line-preserved
loop-line-preserved c =
    let e = lines_of-cut c.loop-line.left.now c.in-Some.line.now c.in-Some.more.now (sym c.in-Some.ensures) in
    c.in_ok-add.ensures (lines_of c.in-Some.more.now) (lines_of c.args.text.now) (subst (λ ls. Counts c.loop-line.tally ls (lines_of c.args.text.now)) e c.loop-line.invariant)

pub returns-then-is_empty : goal.returns-then-is_empty
returns-then-is_empty c =
    let e : length c.loop-line.left.now ≡ 0 = (let t = c.if-is_empty.true in let m = c.is_empty.ensures in grind (arith, nat_tests)) in
    nothing_more c.loop-line.tally c.loop-line.left.now (lines_of c.args.text.now) (nil_from_length c.loop-line.left.now e) c.loop-line.invariant

pub add-requires-2 : goal.add-requires-2
add-requires-2 c =
    let k : 0 < length c.loop-line.left.now = (let t = c.if-is_empty.false in let m = c.is_empty.ensures in grind (arith, nat_tests)) in
    let e = lines_of-uncut c.loop-line.left.now (sym c.in_default.ensures) k in
    let l : length c.args.text.now < 2 ^ 64 = search rules in
    fits c.loop-line.tally c.loop-line.left.now [] c.args.text.now l (subst (λ ls. Counts c.loop-line.tally ls (lines_of c.args.text.now)) e c.loop-line.invariant)

pub returns : goal.returns
returns c =
    let k : 0 < length c.loop-line.left.now = (let t = c.if-is_empty.false in let m = c.is_empty.ensures in grind (arith, nat_tests)) in
    let e = lines_of-uncut c.loop-line.left.now (sym c.in_default.ensures) k in
    c.in_ok-add-2.ensures [] (lines_of c.args.text.now) (subst (λ ls. Counts c.loop-line.tally ls (lines_of c.args.text.now)) e c.loop-line.invariant)

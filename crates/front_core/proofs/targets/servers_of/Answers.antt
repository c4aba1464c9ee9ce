use Rattle.std.proofs.Common.{rules, arith, length, ◌<◌, ◌≡◌, ◌∙◌, ◌++◌, ◌∷◌, [], true, false, sym, ap, get_or}
use Rattle.front_core.proofs.Marking.{any_default, is_at_one, next_found, next_passed}
use Rattle.front_core.proofs.targets.servers_of.Goals as goal

pub loop-server-preserved-then-not-index : goal.loop-server-preserved-then-not-index
loop-server-preserved-then-not-index c =
    let unmarked : get_or c.in_ok-marks.marks.items c.loop-server.server false ≡ false = search rules in
    c.loop-server.invariant ∙ next_passed (is_at_one c.args.targets.now) c.loop-server.server (sym (c.in_ok-marks.ensures.marked c.loop-server.server c.loop-server-test.true) ∙ unmarked)

pub loop-server-preserved : goal.loop-server-preserved
loop-server-preserved c =
    let inside : c.loop-server.server < length c.in_ok-marks.marks.items = omega (arith, c.in_ok-marks.ensures.count, c.loop-server-test.true) in
    let is : c.index.result.now ≡ true = search rules in
    let marked : get_or c.in_ok-marks.marks.items c.loop-server.server false ≡ true =
    any_default c.in_ok-marks.marks.items c.loop-server.server false c.index.result.now inside ∙ (sym c.index.ensures ∙ is) in
    let pushed : c.push.new.self ≡ c.loop-server.found ++ c.loop-server.server ∷ [] = search rules in
    pushed ∙ ap (λ l. l ++ c.loop-server.server ∷ []) c.loop-server.invariant
    ∙ next_found (is_at_one c.args.targets.now) c.loop-server.server (sym (c.in_ok-marks.ensures.marked c.loop-server.server c.loop-server-test.true) ∙ marked)

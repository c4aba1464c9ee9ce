use Rattle.std.proofs.Common.{◌∙◌, ap, cond, sym}
use Rattle.front_rows.specs.Aggregates.{all_of, both, greater, lesser}
use Rattle.front_rows.proofs.Aggregated.{extreme_groups, last_of, next_of}
use Rattle.front_rows.proofs.aggregating.extreme.Goals as goal

pub loop-literal-init : goal.loop-literal-init
loop-literal-init c = let same = c.into_iter-literal-iterator.ensures.into_iter_gives in cc

pub loop-literal-preserved : goal.loop-literal-preserved
loop-literal-preserved c =
    let f = cond c.args.least lesser greater in
    ap (λ x. both f x (all_of f c.next.new.self.rest.items)) c.better-found.ensures
    ∙ next_of f (extreme_groups c.args.least) c.loop-literal.found c.in-Some.literal c.next.new.self.rest.items
    ∙ ap (λ l. both f c.loop-literal.found (all_of f l)) (sym c.in-Some.ensures.steps.0)
    ∙ c.loop-literal.invariant

pub returns : goal.returns
returns c =
    let f = cond c.args.least lesser greater in
    let rest = c.loop-literal.literal-iterator.rest in
    sym (last_of f (extreme_groups c.args.least) c.loop-literal.found rest.items (sym rest.ok.0 ∙ c.in-None.ensures.steps.0)) ∙ c.loop-literal.invariant

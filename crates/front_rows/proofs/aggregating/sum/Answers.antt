use Rattle.std.proofs.Common.{◌≡◌, ◌&&◌, ℤ, ◌+ℤ◌, ◌∙◌, ap, arith, false, length, List, [], ◌∷◌, map, refl, sym, subst, true}
use Rattle.std.specs.Prelude.{IfNone}
use Rattle.sql_values.specs.declared.literal.Literal.{Literal}
use Rattle.front_rows.specs.Aggregates.{all_of, both, number_in, plus, sums_fit}
use Rattle.front_rows.proofs.Aggregated.{last_of, next_of, number_added, plus_groups}
use Rattle.front_rows.proofs.aggregating.sum.Goals as goal

pub returns-in_err-total-clause-none : goal.returns-in_err-total-clause-none
returns-in_err-total-clause-none c =
    let beyond : sums_fit (number_in c.loop-literal.total) (map number_in c.loop-literal.literal-iterator.rest.items) ≡ false =
    ap (λ l. sums_fit (number_in c.loop-literal.total) (map number_in l)) c.in-Some.ensures.steps.0
    ∙ ap (λ b. b && sums_fit (number_in c.loop-literal.total +ℤ number_in c.in-Some.literal) (map number_in c.next.new.self.rest.items)) c.in_err-total.ensures.none in
    subst (λ o. IfNone o (sums_fit (number_in c.args.first) (map number_in c.args.results.items) ≡ false)) (sym c.from_residual.ensures) (sym c.loop-literal.invariant.0 ∙ beyond)

pub loop-literal-preserved : goal.loop-literal-preserved
loop-literal-preserved c =
    let total = c.loop-literal.total in
    let literal = c.in-Some.literal in
    let rest = c.next.new.self.rest.items in
    let is = c.in_ok-total.ensures.some.1 in
    let step = sym c.in-Some.ensures.steps.0 in (
      ap (λ n. sums_fit n (map number_in rest)) (ap number_in is ∙ number_added total literal)
          ∙ ap (λ b. b && sums_fit (number_in total +ℤ number_in literal) (map number_in rest)) (sym c.in_ok-total.ensures.some.0)
          ∙ ap (λ l. sums_fit (number_in total) (map number_in l)) step
          ∙ c.loop-literal.invariant.0,
      ap (λ t. both plus t (all_of plus rest)) is ∙ next_of plus plus_groups total literal rest ∙ ap (λ l. both plus total (all_of plus l)) step ∙ c.loop-literal.invariant.1,
    )

pub returns-clause-some : goal.returns-clause-some
returns-clause-some c =
    let rest = c.loop-literal.literal-iterator.rest in
    let none = sym rest.ok.0 ∙ c.in-None.ensures.steps.0 in (
      sym c.loop-literal.invariant.0 ∙ none_fit (number_in c.loop-literal.total) rest.items none,
      sym (last_of plus plus_groups c.loop-literal.total rest.items none) ∙ c.loop-literal.invariant.1,
    )
  where
    none_fit : (n : ℤ) (rest : List Literal) → length rest ≡ 0 → sums_fit n (map number_in rest) ≡ true
    none_fit n [] none = refl
    none_fit n (x ∷ xs) none = let never : ⊥ = omega arith in absurd never

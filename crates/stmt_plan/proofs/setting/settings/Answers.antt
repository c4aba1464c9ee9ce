use Rattle.std.proofs.Common.{◌≡◌, ◌+◌, ◌&&◌, Bool, true, false, List, ◌∷◌, drop, ap, sym, ◌∙◌, arith}
use Rattle.std.proofs.lemmas.Grind.{common_steps}
use Rattle.std.proofs.lemmas.List.{drop_more}
use Rattle.sql_values.specs.Checks.{expr_columns}
use Rattle.sql_text.specs.declared.statement.Assignment.{Assignment}
use Rattle.stmt_plan.specs.Chosen.{unknown_fault}
use Rattle.stmt_plan.specs.Settings.{name_set, assigned_columns, setting, settings, fits_column, sets_fit}
use Rattle.stmt_plan.proofs.Seeks.{past_known}
use Rattle.stmt_plan.proofs.setting.settings.Goals as goal

-- what fits so far, with one more that fits or not
one_more : (so_far fits fit rest all : Bool) → fits ≡ fit → (so_far && (fit && rest)) ≡ all → ((so_far && fits) && rest) ≡ all
one_more true fits fit rest all same is = ap (λ (b : Bool). b && rest) same ∙ is
one_more false fits fit rest all same is = is

pub loop-assignment-preserved : goal.loop-assignment-preserved
loop-assignment-preserved c =
    let table = c.args.table.now in
    let all = c.args.assignments.now in
    let i = c.loop-assignment.assignment-index in
    let x = c.assignment-item.result in
    let rest = drop (i + 1) all in
    let next : drop i all ≡ x ∷ rest = drop_more all i x c.loop-assignment-test.true ∙ ap (λ (z : Assignment). z ∷ rest) (sym c.assignment-item.is) in
    record {
      set = grind (arith, common_steps);
      fit = one_more c.loop-assignment.fit c.in-Ok.fits (fits_column table (setting table x)) (sets_fit table (settings table rest)) (sets_fit table (settings table all)) c.in-Ok.ensures.fits
          (sym (ap (λ (xs : List Assignment). c.loop-assignment.fit && sets_fit table (settings table xs)) next) ∙ c.loop-assignment.invariant.fit);
      known = sym (past_known table (name_set x ∷ expr_columns x.value) (assigned_columns rest) c.in-Ok.ensures.known)
          ∙ (sym (ap (λ (xs : List Assignment). unknown_fault table (assigned_columns xs)) next) ∙ c.loop-assignment.invariant.known);
    }

use Rattle.std.proofs.Common.{◌≡◌, true, sym, subst, ap, ◌∙◌}
use Rattle.sql_text.specs.declared.link.LinkAnswer.{LinkAnswer}
use Rattle.branch_store.specs.Sound.{IsSound, has_form}
use Rattle.branch_store.specs.Store.{Store}
use Rattle.branch_store.proofs.Sounds.{answers_have_form, steps_keep_rows}
use Rattle.branch_store.proofs.store.BranchStore.ask.Goals as goal

pub invariant_of-self-2 : goal.invariant_of-self-2
invariant_of-self-2 c = subst IsSound (sym (ap (λ (p : Store × LinkAnswer). p.0) c.in_ok-answer.ensures.step)) (steps_keep_rows c.self.inside.books c.args.conn c.args.request.now c.self.invariant)

pub returns-clause-form : goal.returns-clause-form
returns-clause-form c =
    let books = c.self.inside.books in
    let P : Store → Type 0 = λ store. has_form store c.args.request.now c.in_ok-answer.answer ≡ true in
    subst P c.self.view_is (ap (λ (p : Store × LinkAnswer). has_form books c.args.request.now p.1) c.in_ok-answer.ensures.step ∙ answers_have_form books c.args.conn c.args.request.now c.self.invariant)

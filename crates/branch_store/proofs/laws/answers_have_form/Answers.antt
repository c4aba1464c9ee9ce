use Rattle.branch_store.proofs.Sounds.{answers_have_form}
use Rattle.branch_store.proofs.laws.answers_have_form.Goals as goal

pub returns : goal.returns
returns c = answers_have_form

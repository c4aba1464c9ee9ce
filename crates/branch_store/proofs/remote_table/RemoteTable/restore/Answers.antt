use Rattle.std.proofs.Common.{◌≡◌, ℤ, [], ◌∷◌, subst, w64, SFits, rules}
use Rattle.std.proofs.lemmas.Int.{to_z-of_z}
use Rattle.branch_store.specs.Changes.{has_key_in, without}
use Rattle.branch_store.proofs.remote_table.RemoteTable.restore.Goals as goal

pub returns-in-Nothing : goal.returns-in-Nothing
returns-in-Nothing c =
    let fits : SFits w64 c.in-Nothing.key = search rules in
    let P : ℤ → Type 0 = λ k. c.remove.new.self ≡ record c.args.self.now { rows = without (has_key_in c.args.self.now.def (k ∷ [])) c.args.self.now.rows } in
    rw c.in-Nothing.is (subst P (to_z-of_z w64 c.in-Nothing.key fits) c.remove.ensures)

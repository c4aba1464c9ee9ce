use Rattle.std.proofs.Common.{◌≡◌, ◌∙◌, Some, None, inl, inr}
use Rattle.catalog.specs.Shared.{shared_remote}
use Rattle.catalog.proofs.Breaking.{broken_by_table, broken_by_link}
use Rattle.catalog.proofs.files.checked_tables.Goals as goal

pub returns-in-Err-clause-err : goal.returns-in-Err-clause-err
returns-in-Err-clause-err c = elim c.in-Err.ensures.err [ inl memory ↦ inl memory | inr fault ↦ inr (broken_by_table c.args.file.now c.in-Err.fault fault) ]

pub returns-in-Ok-check_remotes-clause-unbroken : goal.returns-in-Ok-check_remotes-clause-unbroken
returns-in-Ok-check_remotes-clause-unbroken c =
    let apart : shared_remote c.args.file.now.servers c.in-Ok.tables ≡ None = cc (c.in-Ok-check_remotes.ensures, c.as_slice.ensures, c.as_slice-2.ensures) in
    broken_by_link c.args.file.now c.in-Ok.tables c.in-Ok.ensures.unbroken c.in-Ok.ensures.ok ∙ apart

pub returns-clause-err : goal.returns-clause-err
returns-clause-err c = elim c.in-Err-check_remotes.ensures [
  | inl memory ↦ inl memory
  | inr fault ↦
      let shared : shared_remote c.args.file.now.servers c.in-Ok.tables ≡ Some c.in-Err-check_remotes.fault = cc (fault, c.as_slice.ensures, c.as_slice-2.ensures) in
      inr (broken_by_link c.args.file.now c.in-Ok.tables c.in-Ok.ensures.unbroken c.in-Ok.ensures.ok ∙ shared)
]

use Rattle.std.proofs.Common.{List, ℕ, refl, sym, subst}
use Rattle.record_log.specs.LogView.{AnyMoment, IsNew, IsStored}
use Rattle.record_log.proofs.Openings.{not_made}
use Rattle.record_log.proofs.Opened.{new_moments}
use Rattle.record_log.proofs.log.Log.create.Goals as goal

pub returns-then-most-lt18-clause-any_moment_err : goal.returns-then-most-lt18-clause-any_moment_err
returns-then-most-lt18-clause-any_moment_err g c = new_moments _ _ _ _ (not_made _ _ c.requires.empty refl) (not_made _ _ c.requires.spare_empty refl)

pub assembled-requires-clause-stored : goal.assembled-requires-clause-stored
assembled-requires-clause-stored g c =
    subst (λ (rs : List (List ℕ)). IsStored (g.D.Disk.state c.make_files.new.main) (g.D.Disk.state c.make_files.new.spare) rs 17) (sym c.new.ensures) c.in-Ok.ensures.stored

pub returns-in-Ok-clause-any_moment : goal.returns-in-Ok-clause-any_moment
returns-in-Ok-clause-any_moment g c =
    subst (λ d. AnyMoment (g.D.Disk.state c.args.disks.main) (g.D.Disk.state c.args.disks.spare) (g.D.Disk.state d.main) (g.D.Disk.state d.spare) IsNew) (sym c.assembled.ensures.disks) c.in-Ok.ensures.any_moment

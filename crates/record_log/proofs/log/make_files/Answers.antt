use Rattle.std.proofs.Common.{refl}
use Rattle.record_log.proofs.Openings.{not_made}
use Rattle.record_log.proofs.Opened.{new_moments, new_stored}
use Rattle.record_log.proofs.log.make_files.Goals as goal

pub returns-in_err-make_file-clause-any_moment : goal.returns-in_err-make_file-clause-any_moment
returns-in_err-make_file-clause-any_moment g c = new_moments _ _ _ _ c.make_file.ensures.any_moment (not_made _ _ c.requires.spare_empty refl)

pub returns-in_err-make_file-2-clause-any_moment : goal.returns-in_err-make_file-2-clause-any_moment
returns-in_err-make_file-2-clause-any_moment g c = new_moments _ _ _ _ c.make_file.ensures.any_moment c.make_file-2.ensures.any_moment

pub returns-clause-any_moment : goal.returns-clause-any_moment
returns-clause-any_moment g c = new_moments _ _ _ _ c.make_file.ensures.any_moment c.make_file-2.ensures.any_moment

pub returns-clause-stored : goal.returns-clause-stored
returns-clause-stored g c = let first = c.in_ok-make_file.ensures {u = tt} in let second = c.in_ok-make_file-2.ensures {u = tt} in new_stored _ _ _ _ first.made second.made

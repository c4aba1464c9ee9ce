use Rattle.std.proofs.Common.{length, ap}
use Rattle.record_log.proofs.Openings.{failed_made, sure_made}
use Rattle.record_log.proofs.files.make_file.Goals as goal

pub returns-in_err-write_sure-clause-any_moment : goal.returns-in_err-write_sure-clause-any_moment
returns-in_err-write_sure-clause-any_moment g c = failed_made _ _ _ _ (ap length c.new_bytes.ensures) c.requires c.ready.ensures.state c.in_err-write_sure.ensures.torn

pub returns-clause-any_moment : goal.returns-clause-any_moment
returns-clause-any_moment g c = sure_made c.new_bytes.result _ _ _ (ap length c.new_bytes.ensures) c.requires c.ready.ensures.state c.in_ok-write_sure.ensures.done

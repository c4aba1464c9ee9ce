use Rattle.std.proofs.Common.{◌≡◌, drop, []}
use Rattle.txn_phases.specs.Deeds.{put_by_key, news_at}
use Rattle.txn_phases.proofs.deed.by_key.Given as goal

abbrev pub invariant-loop-new : goal.invariant-loop-new
invariant-loop-new l = put_by_key (news_at (drop l.new-index l.news) l.part) l.rows.entries ≡ put_by_key (news_at l.news l.part) []

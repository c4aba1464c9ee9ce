use Rattle.std.proofs.Common.{rules, ◌∙◌, ap, []}
use Rattle.std.specs.BTreeMap.{insert_entry}
use Rattle.std.specs.Ordering.{int_cmp}
use Rattle.txn_phases.specs.Deeds.{put_by_key, news_at}
use Rattle.txn_phases.proofs.Puts.{next_put}
use Rattle.txn_phases.proofs.deed.by_key.Goals as goal

pub loop-new-preserved : goal.loop-new-preserved
loop-new-preserved c =
    next_put c.args.news.now c.loop-new.new-index c.new-item.result c.args.part c.loop-new.rows.entries c.put.new.rows.entries (put_by_key (news_at c.args.news.now c.args.part) [])
    c.new-item.is c.loop-new-test.true (search rules) (c.in_ok-put.ensures ∙ ap (λ r. insert_entry int_cmp c.loop-new.rows.entries c.new-item.result.key r) (search rules)) c.loop-new.invariant

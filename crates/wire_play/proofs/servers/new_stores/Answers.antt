use Rattle.catalog.specs.Views.{remote_defs}
use Rattle.branch_store.specs.Laws.{at_rest}
use Rattle.branch_store.specs.Opening.{empty_tables}
use Rattle.wire_play.proofs.Stores.{one_more}
use Rattle.wire_play.proofs.servers.new_stores.Goals as goal

pub loop-server-preserved : goal.loop-server-preserved
loop-server-preserved c =
    one_more (λ server. at_rest (empty_tables (remote_defs server c.args.catalog.now.tables))) c.loop-server.stores.items c.push.new.self.items c.loop-server.server _ c.loop-server.invariant c.in_ok-new_store.ensures c.in_ok-push.ensures.items

use Rattle.std.proofs.Common.{◌≡◌, map}
use Rattle.std.specs.List.{range_with_len}
use Rattle.catalog.specs.Views.{remote_defs}
use Rattle.branch_store.specs.Laws.{at_rest}
use Rattle.branch_store.specs.Opening.{empty_tables}
use Rattle.wire_play.proofs.servers.new_stores.Given as goal

-- the stores of the servers so far
abbrev pub invariant-loop-server : goal.invariant-loop-server
invariant-loop-server l = l.stores.items ≡ map (λ server. at_rest (empty_tables (remote_defs server l.catalog.tables))) (range_with_len 0 l.server)

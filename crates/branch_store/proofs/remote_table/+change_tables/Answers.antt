use Rattle.std.proofs.Common.{◌≡◌, Option, sym, ap, ◌∙◌, arith}
use Rattle.std.specs.Option.{unwrap_or}
use Rattle.branch_store.specs.Store.{changed_table}
use Rattle.branch_store.specs.Tables.{Table}
use Rattle.branch_store.proofs.Turns.{change_placed}
use Rattle.branch_store.proofs.remote_table.+change_tables.Goals as goal

pub returns-in-Some-clause-ok : goal.returns-in-Some-clause-ok
returns-in-Some-clause-ok depth c =
    let x = c.index.result.now in
    let is : c.in-Some.table ≡ changed_table c.args.changes.now x = ap (λ (o : Option Table). unwrap_or o x) (sym c.in-Some.is) ∙ c.in_ok-renewed.ensures in
    change_placed (changed_table c.args.changes.now) c.args.tables.now.items c.change_tables.new.tables.items c.args.place x c.in-Some.table (omega arith) c.in_ok-change_tables.ensures.ok c.index.ensures is

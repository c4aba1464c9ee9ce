use Rattle.std.proofs.Common.{arith}
use Rattle.branch_store.proofs.Undoing.{taken_back}
use Rattle.branch_store.proofs.remote_table.writing.+put_in_tables.Goals as goal

pub returns-in-Err-clause-err : goal.returns-in-Err-clause-err
returns-in-Err-clause-err depth c =
    taken_back c.args.tables.now.items c.put_in_tables.new.tables.items c.args.place c.put_changes.new.self c.index_mut.result.now c.index_mut-in-Err.result.now c.undo.new.self c.in_ok-log.log.items (omega arith) c.in-Err.ensures.err
    c.index_mut-in-Err.ensures.value c.undo.ensures c.in_ok-log.ensures.back c.index_mut.ensures.value

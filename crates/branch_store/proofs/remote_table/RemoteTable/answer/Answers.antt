use Rattle.std.proofs.Common.{ap, ◌∙◌}
use Rattle.branch_store.specs.Faults.{calls_fault}
use Rattle.branch_store.proofs.Suited.{calls_fit}
use Rattle.branch_store.proofs.remote_table.RemoteTable.answer.Goals as goal

pub aggregates-requires-clause-calls : goal.aggregates-requires-clause-calls
aggregates-requires-clause-calls c =
    let def = c.args.self.now.def in
    ap (calls_fault def) c.as_slice.ensures ∙ calls_fit def c.args.scan.now c.in-Aggregates.calls c.in-Aggregates.is c.requires.scan

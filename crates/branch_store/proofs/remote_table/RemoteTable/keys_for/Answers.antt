use Rattle.std.proofs.Common.{Some, subst}
use Rattle.branch_store.specs.Scanning.{MissesNone}
use Rattle.branch_store.specs.Tables.{Table}
use Rattle.branch_store.proofs.Found.{misses_none}
use Rattle.branch_store.proofs.remote_table.RemoteTable.keys_for.Goals as goal

pub returns : goal.returns
returns c =
    let P : Table → Type 0 = λ t. MissesNone t.def (Some c.in-Some.cond) c.in_ok-keys.keys in
    let own = c.has_own_key_name.ensures c.if-not-has_own_key_name.false in
    rw c.in-Some.is (subst P c.self.view_is (misses_none c.self.inside.def c.in-Some.cond c.in_ok-keys.keys own c.in_ok-keys.ensures))

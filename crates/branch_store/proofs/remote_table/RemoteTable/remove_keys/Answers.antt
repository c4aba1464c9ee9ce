use Rattle.std.proofs.Common.{ℤ, pos, get_or, ◌+◌, drop, arith, refl, sym, [], ◌∷◌, List}
use Rattle.sql_values.specs.declared.table.TableDef.{TableDef}
use Rattle.plain_tables.specs.Rows.{Row}
use Rattle.std.proofs.lemmas.List.{drop_more, drop_all}
use Rattle.branch_store.specs.Changes.{has_key_in, without}
use Rattle.branch_store.proofs.Keyed.{without_more, without_none}
use Rattle.branch_store.proofs.Turns.{turn, last}
use Rattle.branch_store.proofs.remote_table.RemoteTable.remove_keys.Goals as goal

abbrev whole : TableDef → List Row → List ℤ → List Row
whole def rows keys = without (has_key_in def keys) rows

abbrev one : TableDef → List Row → ℤ → List Row
one def rows key = without (has_key_in def (key ∷ [])) rows

pub loop-key-preserved : goal.loop-key-preserved
loop-key-preserved c =
    let keys = c.args.keys.now in
    let i = c.loop-key.key-index in
    let step = turn whole one (λ def rows x xs. sym (without_more def x xs rows)) c.args.self.now c.loop-key.self c.remove.new.self (get_or keys i (pos 0)) (get_or keys i (pos 0)) (drop i keys) (drop (i + 1) keys) keys c.remove.ensures refl (drop_more keys i (pos 0) (omega arith)) c.loop-key.invariant.same c.loop-key.invariant.so_far in
    record { same = step.0; so_far = step.1 }

pub returns : goal.returns
returns c = last whole one (λ def rows. without_none def rows) c.args.self.now c.loop-key.self (drop c.loop-key.key-index c.args.keys.now) c.args.keys.now (drop_all c.loop-key.key-index c.args.keys.now (omega arith)) c.loop-key.invariant.same c.loop-key.invariant.so_far

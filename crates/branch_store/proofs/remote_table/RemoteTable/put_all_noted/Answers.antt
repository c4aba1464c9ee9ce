use Rattle.std.proofs.Common.{◌≡◌, ◌+◌, List, ◌∷◌, subst, drop, refl, arith, ap, sym, ◌∙◌, length}
use Rattle.std.proofs.lemmas.List.{drop_more, drop_all}
use Rattle.plain_tables.specs.Rows.{Row}
use Rattle.plain_tables.specs.Inserts.{put, put_all}
use Rattle.branch_store.proofs.Keyed.{put_more, put_none}
use Rattle.branch_store.proofs.Turns.{turn, last}
use Rattle.branch_store.proofs.remote_table.RemoteTable.put_all_noted.Goals as goal

pub loop-row-preserved : goal.loop-row-preserved
loop-row-preserved c =
    let rows = c.args.rows.now in
    let i = c.loop-row.row-index in
    let items = c.as_slice-row-items.result.now in
    let P : List Row → Type 0 = λ l. drop i l ≡ c.row-item.result ∷ drop (i + 1) l in
    let next : drop i rows ≡ c.row-item.result ∷ drop (i + 1) rows =
    subst P c.as_slice-row-items.ensures (drop_more items i c.row-item.result c.loop-row-test.true ∙ ap (λ (z : Row). z ∷ drop (i + 1) items) (sym c.row-item.is)) in
    let step = turn put_all put put_more c.args.self.now c.loop-row.self c.put_noted.new.self c.row-item.result c.row-item.result (drop i rows) (drop (i + 1) rows) rows c.in-Ok.ensures.ok refl next c.loop-row.invariant.same c.loop-row.invariant.so_far in
    record { same = step.0; so_far = step.1; back = c.put_noted.ensures.back ∙ c.loop-row.invariant.back }

pub returns-clause-ok : goal.returns-clause-ok
returns-clause-ok c = last put_all put put_none c.args.self.now c.loop-row.self (drop c.loop-row.row-index c.args.rows.now) c.args.rows.now (drop_all c.loop-row.row-index c.args.rows.now (omega (arith, ap length c.as_slice-row-items.ensures))) c.loop-row.invariant.same c.loop-row.invariant.so_far

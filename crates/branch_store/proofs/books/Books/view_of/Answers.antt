use Rattle.std.proofs.Common.{◌≡◌, ◌+◌, List, ◌∷◌, drop, refl, ap, sym, subst, ◌∙◌}
use Rattle.sql_values.specs.declared.places.Xid.{Xid}
use Rattle.std.proofs.lemmas.List.{drop_more}
use Rattle.branch_store.proofs.Turns.{turn}
use Rattle.branch_store.proofs.Viewing.{views, view_one}
use Rattle.branch_store.proofs.books.Books.view_of.Goals as goal

pub loop-xid-preserved : goal.loop-xid-preserved
loop-xid-preserved c =
    let xids = c.args.xids.now in
    let i = c.loop-xid.xid-index in
    let items = c.as_slice-xid-items.result.now in
    let branches = c.args.self.now.branches in
    let P : List Xid → Type 0 = λ l. drop i l ≡ c.xid-item.result ∷ drop (i + 1) l in
    let next : drop i xids ≡ c.xid-item.result ∷ drop (i + 1) xids =
    subst P c.as_slice-xid-items.ensures (drop_more items i c.xid-item.result c.loop-xid-test.true ∙ ap (λ (z : Xid). z ∷ drop (i + 1) items) (sym c.xid-item.is)) in
    let step = turn (views branches) (view_one branches) (λ def rows x xs. refl) c.args.table.now c.loop-xid.seen c.see.new.seen c.xid-item.result c.xid-item.result (drop i xids) (drop (i + 1) xids) xids c.in_ok-see.ensures refl next c.loop-xid.invariant.same c.loop-xid.invariant.so_far in
    record { same = step.0; so_far = step.1 }

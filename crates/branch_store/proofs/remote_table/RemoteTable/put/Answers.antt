use Rattle.std.proofs.Common.{◌≡◌, sym, ap, ◌∙◌}
use Rattle.std.specs.Ordering.{int_cmp}
use Rattle.std.specs.BTreeMap.{insert_entry}
use Rattle.plain_tables.specs.Inserts.{put}
use Rattle.plain_tables.specs.Rows.{Row, key_of}
use Rattle.branch_store.specs.Tables.{Table}
use Rattle.branch_store.proofs.Keyed.{insert_keeps, inserted, seen_as}
use Rattle.branch_store.proofs.remote_table.RemoteTable.put.Goals as goal

pub invariant_of-self-2 : goal.invariant_of-self-2
invariant_of-self-2 c =
    let row = c.args.row.now in
    let is : key_of c.self.inside.def row ≡ c.key-key.result.now = ap (λ (t : Table). key_of t.def row) c.self.view_is ∙ sym c.key-key.ensures in
    let made : c.insert_at.new.rows.entries ≡ insert_entry int_cmp c.self.inside.rows.entries c.key-key.result.now row =
    c.in_ok-insert_at.ensures.put ∙ ap (λ (r : Row). insert_entry int_cmp c.self.inside.rows.entries c.key-key.result.now r) c.in_ok-copy.ensures in
    (c.self.invariant.0, insert_keeps c.self.inside.def row c.key-key.result.now c.self.inside.rows.entries c.insert_at.new.rows.entries made is c.self.invariant.1 c.in_ok-insert_at.ensures.ordered)

pub returns : goal.returns
returns c =
    let row = c.args.row.now in
    let is : key_of c.self.inside.def row ≡ c.key-key.result.now = ap (λ (t : Table). key_of t.def row) c.self.view_is ∙ sym c.key-key.ensures in
    let made : c.insert_at.new.rows.entries ≡ insert_entry int_cmp c.self.inside.rows.entries c.key-key.result.now row =
    c.in_ok-insert_at.ensures.put ∙ ap (λ (r : Row). insert_entry int_cmp c.self.inside.rows.entries c.key-key.result.now r) c.in_ok-copy.ensures in
    record {
      ok = seen_as (λ def rows. put def rows row) c.self.inside.def c.args.self.now c.self.inside.rows.entries c.insert_at.new.rows.entries c.self.view_is
          (rw made (inserted c.self.inside.def row c.key-key.result.now c.self.inside.rows.entries is c.self.invariant.1));
    }

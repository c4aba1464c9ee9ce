use Rattle.std.proofs.Common.{◌≡◌, ℤ, sym, subst, ap, ◌∙◌, w64, SFits, rules}
use Rattle.std.specs.BTreeMap.{is_at}
use Rattle.std.specs.Map.{set_value}
use Rattle.std.specs.Ordering.{int_cmp, int_eq}
use Rattle.std.proofs.lemmas.Int.{to_z-of_z}
use Rattle.plain_tables.specs.Rows.{key_of}
use Rattle.branch_store.specs.Lists.{changed_first}
use Rattle.branch_store.specs.Tables.{Table}
use Rattle.branch_store.proofs.Keyed.{seen_as}
use Rattle.branch_store.proofs.Undoing.{write_keeps, written_over}
use Rattle.branch_store.proofs.remote_table.RemoteTable.put_back.Goals as goal

pub invariant_of-self : goal.invariant_of-self
invariant_of-self c =
    let row = c.args.row in
    let k = c.key.result.now in
    let fits : SFits w64 k = search rules in
    let P : ℤ → Type 0 = λ z. c.write_over.new.rows.entries ≡ set_value (is_at (int_cmp z)) c.self.inside.rows.entries row in
    let made : P k = subst P (to_z-of_z w64 k fits) c.write_over.ensures.written in
    let is : key_of c.self.inside.def row ≡ k = ap (λ (t : Table). key_of t.def row) c.self.view_is ∙ sym c.key.ensures in
    (c.self.invariant.0, write_keeps c.self.inside.def k row c.self.inside.rows.entries c.write_over.new.rows.entries made is c.self.invariant.1 c.write_over.ensures.ordered)

pub returns : goal.returns
returns c =
    let row = c.args.row in
    let k = c.key.result.now in
    let fits : SFits w64 k = search rules in
    let P : ℤ → Type 0 = λ z. c.write_over.new.rows.entries ≡ set_value (is_at (int_cmp z)) c.self.inside.rows.entries row in
    let made : P k = subst P (to_z-of_z w64 k fits) c.write_over.ensures.written in
    let is : key_of c.self.inside.def row ≡ k = ap (λ (t : Table). key_of t.def row) c.self.view_is ∙ sym c.key.ensures in
    seen_as (λ def rows. changed_first (λ r. int_eq (key_of def row) (key_of def r)) (λ r. row) rows) c.self.inside.def c.args.self.now c.self.inside.rows.entries c.write_over.new.rows.entries c.self.view_is
    (rw made (written_over c.self.inside.def k row c.self.inside.rows.entries is c.self.invariant.1.keyed))

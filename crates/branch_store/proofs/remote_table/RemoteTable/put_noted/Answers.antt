use Rattle.std.proofs.Common.{◌≡◌, sym, ap, ◌∙◌, List, ◌++◌, ◌∷◌, []}
use Rattle.std.specs.Map.{values_of}
use Rattle.std.specs.Ordering.{int_cmp}
use Rattle.std.specs.BTreeMap.{insert_entry}
use Rattle.plain_tables.specs.Inserts.{put}
use Rattle.plain_tables.specs.Rows.{Row, key_of}
use Rattle.branch_store.specs.declared.remote_table.writing.Before.{Before}
use Rattle.branch_store.specs.Tables.{Table}
use Rattle.branch_store.specs.Keyed.{AreKeyed}
use Rattle.branch_store.specs.Undoing.{before_of, undone}
use Rattle.branch_store.proofs.Keyed.{insert_keeps, inserted, seen_as}
use Rattle.branch_store.proofs.Undoing.{put_undone, undone_push}
use Rattle.branch_store.proofs.remote_table.RemoteTable.put_noted.Goals as goal

pub invariant_of-self-2 : goal.invariant_of-self-2
invariant_of-self-2 c =
    let row = c.args.row.now in
    let is : key_of c.self.inside.def row ≡ c.key-key.result.now = ap (λ (t : Table). key_of t.def row) c.self.view_is ∙ sym c.key-key.ensures in
    let made : c.exchange_at.new.rows.entries ≡ insert_entry int_cmp c.self.inside.rows.entries c.key-key.result.now row =
    c.in_ok-stood.ensures.put ∙ ap (λ (r : Row). insert_entry int_cmp c.self.inside.rows.entries c.key-key.result.now r) c.in_ok-copy.ensures in
    (c.self.invariant.0, insert_keeps c.self.inside.def row c.key-key.result.now c.self.inside.rows.entries c.exchange_at.new.rows.entries made is c.self.invariant.1 c.in_ok-stood.ensures.ordered)

pub returns-clause-ok : goal.returns-clause-ok
returns-clause-ok c =
    let row = c.args.row.now in
    let is : key_of c.self.inside.def row ≡ c.key-key.result.now = ap (λ (t : Table). key_of t.def row) c.self.view_is ∙ sym c.key-key.ensures in
    let made : c.exchange_at.new.rows.entries ≡ insert_entry int_cmp c.self.inside.rows.entries c.key-key.result.now row =
    c.in_ok-stood.ensures.put ∙ ap (λ (r : Row). insert_entry int_cmp c.self.inside.rows.entries c.key-key.result.now r) c.in_ok-copy.ensures in
    seen_as (λ def rows. put def rows row) c.self.inside.def c.args.self.now c.self.inside.rows.entries c.exchange_at.new.rows.entries c.self.view_is
    (rw made (inserted c.self.inside.def row c.key-key.result.now c.self.inside.rows.entries is c.self.invariant.1))

pub returns-clause-back : goal.returns-clause-back
returns-clause-back c =
    let row = c.args.row.now in
    let def = c.self.inside.def in
    let k = c.key-key.result.now in
    let es = c.self.inside.rows.entries in
    let fs = c.exchange_at.new.rows.entries in
    let log = c.args.log.now.items in
    let is : key_of def row ≡ k = ap (λ (t : Table). key_of t.def row) c.self.view_is ∙ sym c.key-key.ensures in
    let made : fs ≡ insert_entry int_cmp es k row = c.in_ok-stood.ensures.put ∙ ap (λ (r : Row). insert_entry int_cmp es k r) c.in_ok-copy.ensures in
    let are : AreKeyed def fs = insert_keeps def row k es fs made is c.self.invariant.1 c.in_ok-stood.ensures.ordered in
    let before = before_of k c.in_ok-stood.stood in
    let noted : c.push_reserved.new.self.items ≡ log ++ before ∷ [] =
    c.push_reserved.ensures.items ∙ (ap (λ (b : Before). c.reserve.new.self.items ++ b ∷ []) c.before_of.ensures ∙ ap (λ (l : List Before). l ++ before ∷ []) c.reserve.ensures.items) in
    ap (λ (l : List Before). undone def (values_of fs) l) noted
    ∙ (undone_push def (values_of fs) log before
    ∙ (ap (λ (rs : List Row). undone def rs log) (put_undone def k row c.in_ok-stood.stood es fs c.self.invariant.1 are (sym c.in_ok-stood.ensures.stood) made)
    ∙ ap (λ (t : Table). undone t.def t.rows log) c.self.view_is))

use Rattle.std.proofs.Common.{◌≡◌, ℤ, List, rules, arith, sym, ap, ◌∙◌, w64, SFits}
use Rattle.std.specs.List.{filter}
use Rattle.std.specs.Map.{values_of}
use Rattle.std.specs.Ordering.{int_cmp}
use Rattle.std.specs.declared.ops.Bound.TheVariants.{Included}
use Rattle.std.specs.BTreeMap.Range.{entries_between}
use Rattle.std.proofs.lemmas.Int.{to_z-of_z}
use Rattle.plain_tables.specs.Rows.{Row, holds_on}
use Rattle.branch_store.specs.Scanning.{lies_within}
use Rattle.branch_store.specs.Tables.{Table}
use Rattle.branch_store.proofs.Found.{between_as, enough, no_entry}
use Rattle.branch_store.proofs.Turns.{took}
use Rattle.branch_store.proofs.remote_table.RemoteTable.add_first.Goals as goal

pub returns-then-len-most : goal.returns-then-len-most
returns-then-len-most c =
    let i = c.args.interval.now in
    let low : SFits w64 c.args.interval.now.low = search rules in
    let high : SFits w64 c.args.interval.now.high = search rules in
    let between = c.range-row-items.ensures.between (search rules) in
    let is_all : c.into_iter-row-iterator.result ≡ entries_between int_cmp (Included c.args.interval.now.low) (Included c.args.interval.now.high) c.self.inside.rows.entries =
    c.into_iter-row-iterator.ensures.into_iter_gives ∙ rw (c.new.ensures.start, c.new.ensures.end, to_z-of_z w64 c.args.interval.now.low low, to_z-of_z w64 c.args.interval.now.high high) at between in
    let are : values_of c.into_iter-row-iterator.result ≡ filter (lies_within c.args.self.now.def i) c.args.self.now.rows =
    ap (λ (l : List (ℤ × Row)). values_of l) is_all ∙ (between_as c.self.inside.def i c.self.inside.rows.entries c.self.invariant.1.keyed ∙ ap (λ (t : Table). filter (lies_within t.def i) t.rows) c.self.view_is) in
    enough c.args.self.now.def c.args.cond.now c.args.most _ c.loop-row.row-iterator c.into_iter-row-iterator.result c.loop-row.rows c.args.rows.now _ (omega (arith, c.len.ensures, c.if-len-most.true)) are c.loop-row.invariant.so_far

pub loop-row-preserved-in_ok-push : goal.loop-row-preserved-in_ok-push
loop-row-preserved-in_ok-push c =
    let step = took (holds_on c.args.self.now.def c.args.cond.now) c.args.most c.loop-row.rows c.push.new.self (values_of c.next.new.self) (values_of c.loop-row.row-iterator) _ c.in-Some.row.now c.in_ok-copied_row.field-0 c.in_ok-push.ensures.ok c.in_ok-copied_row.ensures
    (ap (λ (l : List (ℤ × Row)). values_of l) c.in-Some.ensures.steps) (sym c.does_hold.ensures ∙ c.if-does_hold.true) (omega (arith, c.len.ensures, c.if-len-most.false)) c.loop-row.invariant.so_far in
    record { few = step.0; so_far = step.1 }

pub returns : goal.returns
returns c =
    let i = c.args.interval.now in
    let low : SFits w64 c.args.interval.now.low = search rules in
    let high : SFits w64 c.args.interval.now.high = search rules in
    let between = c.range-row-items.ensures.between (search rules) in
    let is_all : c.into_iter-row-iterator.result ≡ entries_between int_cmp (Included c.args.interval.now.low) (Included c.args.interval.now.high) c.self.inside.rows.entries =
    c.into_iter-row-iterator.ensures.into_iter_gives ∙ rw (c.new.ensures.start, c.new.ensures.end, to_z-of_z w64 c.args.interval.now.low low, to_z-of_z w64 c.args.interval.now.high high) at between in
    let are : values_of c.into_iter-row-iterator.result ≡ filter (lies_within c.args.self.now.def i) c.args.self.now.rows =
    ap (λ (l : List (ℤ × Row)). values_of l) is_all ∙ (between_as c.self.inside.def i c.self.inside.rows.entries c.self.invariant.1.keyed ∙ ap (λ (t : Table). filter (lies_within t.def i) t.rows) c.self.view_is) in
    no_entry c.args.self.now.def c.args.cond.now _ _ c.loop-row.row-iterator c.into_iter-row-iterator.result c.loop-row.rows c.args.rows.now _ c.in-None.ensures.steps.0 are c.loop-row.invariant.so_far

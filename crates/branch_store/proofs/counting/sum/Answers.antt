use Rattle.std.proofs.Common.{◌≡◌, ◌+◌, ◌∷◌, drop, ap, arith, sym, ◌∙◌}
use Rattle.std.proofs.lemmas.List.{drop_all, drop_more}
use Rattle.front_rows.specs.Aggregates.{plus}
use Rattle.front_rows.proofs.Aggregated.{plus_groups}
use Rattle.plain_tables.specs.Rows.{Row}
use Rattle.branch_store.specs.Counting.{option_literal}
use Rattle.branch_store.proofs.Aggregated.{done, few, more, next_number}
use Rattle.branch_store.proofs.counting.sum.Goals as goal

pub added-total-requires : goal.added-total-requires
added-total-requires c =
    let rows = c.args.rows.now in
    let i = c.loop-row.row-index in
    let next : drop i rows ≡ c.row-item.result ∷ drop (i + 1) rows = drop_more rows i c.row-item.result c.loop-row-test.true ∙ ap (λ (r : Row). r ∷ drop (i + 1) rows) (sym c.row-item.is) in
    record {
      number = (next_number c.args.column c.row-item.result (drop (i + 1) rows) (drop i rows) next c.loop-row.invariant.numbers).0;
      few = few i (option_literal c.loop-row.total) (omega arith) c.loop-row.invariant.bounds;
    }

pub loop-row-preserved : goal.loop-row-preserved
loop-row-preserved c =
    let rows = c.args.rows.now in
    let i = c.loop-row.row-index in
    let next : drop i rows ≡ c.row-item.result ∷ drop (i + 1) rows = drop_more rows i c.row-item.result c.loop-row-test.true ∙ ap (λ (r : Row). r ∷ drop (i + 1) rows) (sym c.row-item.is) in
    record {
      so_far = more plus plus_groups c.args.column c.row-item.result (drop (i + 1) rows) (drop i rows) rows (option_literal c.loop-row.total) (option_literal c.added-total.result) next c.added-total.ensures.sum c.loop-row.invariant.so_far;
      numbers = (next_number c.args.column c.row-item.result (drop (i + 1) rows) (drop i rows) next c.loop-row.invariant.numbers).1;
      bounds = c.added-total.ensures.bounds i c.loop-row.invariant.bounds;
    }

pub returns : goal.returns
returns c = done plus plus_groups c.args.column (drop c.loop-row.row-index c.args.rows.now) c.args.rows.now (option_literal c.loop-row.total) (drop_all c.loop-row.row-index c.args.rows.now c.loop-row-test.false) c.loop-row.invariant.so_far

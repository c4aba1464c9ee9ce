use Rattle.std.proofs.Common.{rules, arith, FitsSigned, pos, ◌+ℤ◌, ◌≤ℤ◌}
use Rattle.std.specs.Int.{w64}
use Rattle.std.proofs.lemmas.Int.{ints, to_z-of_z}
use Rattle.sql_values.proofs.KeyLists.{within_later}
use Rattle.sql_values.proofs.merging.united.Goals as goal
use Rattle.sql_values.proofs.merging.united.Goals.{else-next-current-via-then-next-current+else-next-current-2, else-next-current-via-else-next-current}

pub returns-then-next-current-3-clause-keys : goal.returns-then-next-current-3-clause-keys
returns-then-next-current-3-clause-keys c = λ key.
    let low : FitsSigned w64 c.args.current.now.low = search rules in
    let high : FitsSigned w64 c.args.next.now.high = search rules in
    let near : c.args.next.now.low ≤ℤ (c.args.current.now.high +ℤ pos 1) =
    elim c.else-next-current.branch [
      | else-next-current-via-then-next-current+else-next-current-2 w ↦ omega (arith, ints)
      | else-next-current-via-else-next-current w ↦ omega (arith, ints)
    ] in
    rw (to_z-of_z w64 c.args.current.now.low low, to_z-of_z w64 c.args.next.now.high high)
    (within_later c.args.current.now.low c.args.current.now.high c.args.next.now.low c.args.next.now.high key c.requires.ascending near (omega (arith, ints)))

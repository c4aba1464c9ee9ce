use Rattle.std.proofs.Common.{◌∙◌, ◌++◌, ap, arith, codes, length}
use Rattle.std.specs.Fmt.{decimal}
use Rattle.std.proofs.lemmas.List.{length-append}
use Rattle.sql_replies.proofs.Fits.{decimal_is_short}
use Rattle.front_node.proofs.replies.out_of_order.Goals as goal

pub returns-clause-bytes : goal.returns-clause-bytes
returns-clause-bytes c =
    let e = c.ranges.expected.fits in
    let f = c.ranges.found.fits in
    omega (
      arith,
      ap length (c.from_string.ensures ∙ c.in_ok-format.ensures.ok),
      length-append (decimal c.args.expected) (codes ", found " ++ decimal c.args.found),
      decimal_is_short c.args.expected (omega arith),
      decimal_is_short c.args.found (omega arith),
    )

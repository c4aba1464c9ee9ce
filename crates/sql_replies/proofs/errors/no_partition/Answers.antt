use Rattle.std.proofs.Common.{◌∙◌, ap, arith, codes, ◌++◌, w64, SFits, rules}
use Rattle.std.specs.Fmt.{signed_decimal}
use Rattle.std.proofs.lemmas.Int.{to_z-of_z}
use Rattle.sql_replies.proofs.Fits.{signed_is_short, length-two}
use Rattle.sql_replies.proofs.errors.no_partition.Goals as goal

pub returns-clause-bytes : goal.returns-clause-bytes
returns-clause-bytes c =
    let fits : SFits w64 c.args.key = search rules in
    omega (
      arith,
      length-two c.from_string.result (codes "Table has no partition for value ") (signed_decimal c.args.key)
          (c.from_string.ensures ∙ c.in_ok-format.ensures.ok ∙ ap (λ k. codes "Table has no partition for value " ++ signed_decimal k) (to_z-of_z w64 c.args.key fits)),
      signed_is_short c.args.key c.ranges.key.sfits,
    )

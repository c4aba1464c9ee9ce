use Rattle.std.proofs.Common.{◌≡◌, ◌+◌, ◌-◌, ◌*◌, ◌∷◌, ℕ, List, min, get_or, drop, ap, ◌∙◌, sym, arith}
use Rattle.std.proofs.lemmas.List.{drop_more}
use Rattle.sql_text.specs.Tokens.{value_after}
use Rattle.sql_text.specs.Lexing.{cap}
use Rattle.sql_text.proofs.Bytes.{capped_value}
use Rattle.sql_text.proofs.lexer.digits.value.Goals as goal

pub loop-byte-preserved : goal.loop-byte-preserved
loop-byte-preserved c =
    let digits : List ℕ = c.args.digits.now in
    let i : ℕ = c.loop-byte.byte-index in
    let next : ℕ = 10 * c.loop-byte.value + (get_or digits i 0 - 48) in
    let e : c.with_digit-value.result ≡ min next cap = c.with_digit-value.ensures in
    let d : drop i digits ≡ get_or digits i 0 ∷ drop (i + 1) digits = drop_more digits i 0 (omega arith) in
    record {
      small = omega arith;
      goes_on = ap (λ v. min (value_after v (drop (i + 1) digits)) cap) e
          ∙ capped_value next (drop (i + 1) digits)
          ∙ ap (λ (l : List ℕ). min (value_after c.loop-byte.value l) cap) (sym d)
          ∙ c.loop-byte.invariant.goes_on;
    }

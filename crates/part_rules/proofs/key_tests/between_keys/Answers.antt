use Rattle.std.proofs.Common.{◌&&◌, sym, ◌∙◌}
use Rattle.std.specs.Prelude.{int_le}
use Rattle.part_rules.proofs.KeyTests.{keys_alike, between_numbers}
use Rattle.part_rules.proofs.key_tests.between_keys.Goals as goal

pub returns-in-Number-Number : goal.returns-in-Number-Number
returns-in-Number-Number c =
    keys_alike c.keys_between.result (λ key. int_le c.in-Number-Number.low key && int_le key c.in-Number-Number.high) _
    (λ key fits. rw (c.if-negated.false, sym c.names_key.ensures ∙ c.if-not-names_key.false, c.in-Number-Number.is-0, c.in-Number-Number.is-1) (between_numbers c.in-Number-Number.low c.in-Number-Number.high key))
    c.keys_between.ensures

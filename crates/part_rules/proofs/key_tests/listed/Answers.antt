use Rattle.part_rules.specs.Keeps.{is_listed}
use Rattle.part_rules.proofs.KeyTests.{keys_same, listed_all}
use Rattle.part_rules.proofs.key_tests.listed.Goals as goal

pub returns : goal.returns
returns c =
    keys_same c.from_vec.result c.loop-literal.list.items (λ key. is_listed key c.args.literals.now)
    (λ key fits. listed_all c.loop-literal.list.items c.args.literals.now c.loop-literal.literal-index key _ c.loop-literal-test.false (c.loop-literal.invariant key fits))
    c.from_vec.ensures

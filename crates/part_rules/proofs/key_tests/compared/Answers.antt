use Rattle.std.proofs.Common.{Bool, not, ap, sym, ◌∙◌, arith}
use Rattle.std.proofs.lemmas.Int.{ints}
use Rattle.std.specs.Ordering.{int_cmp}
use Rattle.sql_values.specs.Conditions.{is_met_by}
use Rattle.sql_values.specs.KeySets.{has_key}
use Rattle.part_rules.proofs.KeyTests.{keys_alike, eq_cmp, less_than}
use Rattle.part_rules.proofs.key_tests.compared.Goals as goal

pub returns-in_ok-keys_between-in-NotEqual : goal.returns-in_ok-keys_between-in-NotEqual
returns-in_ok-keys_between-in-NotEqual c =
    keys_alike c.complement-in-NotEqual.result (λ key. not (has_key c.in_ok-keys_between-in-NotEqual.field-0 key)) (λ key. is_met_by c.args.comparison (int_cmp key c.args.number.now))
    (λ key fits. rw c.in-NotEqual.is (ap (λ (b : Bool). not b) (c.in_ok-keys_between-in-NotEqual.ensures key fits ∙ sym (eq_cmp key c.args.number.now))))
    c.complement-in-NotEqual.ensures

pub returns-in_ok-keys_between-in-Less : goal.returns-in_ok-keys_between-in-Less
returns-in_ok-keys_between-in-Less c =
    keys_alike c.complement-in-Less-2.result (λ key. not (has_key c.in_ok-keys_between-in-Less.field-0 key)) (λ key. is_met_by c.args.comparison (int_cmp key c.args.number.now))
    (λ key fits. rw c.in-Less.is (ap (λ (b : Bool). not b) (c.in_ok-keys_between-in-Less.ensures key fits) ∙ less_than c.args.number.now key _ fits (omega (arith, ints))))
    c.complement-in-Less-2.ensures

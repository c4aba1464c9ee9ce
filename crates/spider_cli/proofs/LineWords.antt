use Rattle.std.proofs.Common.{◌≡◌, ℕ, ◌≤◌, List, Bool, true, false, cond, refl, arith}
use Rattle.std.specs.Prelude.{nat_lt, not, length}
use Rattle.std.specs.Str.{is_utf8}
use Rattle.std.proofs.lemmas.Bool.Decides.{nat_tests}
use Rattle.world_runs.specs.declared.schedule.LineRule.{LineRule}
use Rattle.world_runs.specs.declared.schedule.LineRule.TheVariants.{NotText, LineTooLong, TooManyLines}
use Rattle.world_runs.specs.Schedule.{Line, Passed, Trace, Client, Broken, words_of, line_of}

-- Lines that break no rule.

abbrev pub NotBroken : Line → Type 0
NotBroken Passed = Unit {0}
NotBroken (Trace on) = Unit {0}
NotBroken (Client n text) = Unit {0}
NotBroken (Broken rule) = ⊥

few_by : (a b c : Bool) (p q r : LineRule) (l : Line) → NotBroken (cond a (Broken p) (cond b (Broken q) (cond c (Broken r) l))) → c ≡ false
few_by true b c p q r l n = absurd n
few_by false true c p q r l n = absurd n
few_by false false true p q r l n = absurd n
few_by false false false p q r l n = refl

-- it is one of the first million
pub line_is_early : (number : ℕ) (line : List ℕ) → NotBroken (line_of number line) → number ≤ 1000000
unfolding line_of
line_is_early number line n = let t : nat_lt 1000000 number ≡ false = few_by (not (is_utf8 line)) (nat_lt 65536 (length line)) (nat_lt 1000000 number) NotText LineTooLong TooManyLines (words_of line) n in grind (arith, nat_tests)

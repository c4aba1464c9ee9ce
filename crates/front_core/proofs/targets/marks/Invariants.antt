use Rattle.std.proofs.Common.{◌≡◌, ◌<◌, ◌^◌, ℕ, true, false, length, get_or}
use Rattle.front_core.proofs.Marking.{seen, is_at_one}
use Rattle.front_core.proofs.targets.marks.Given as goal

abbrev pub invariant-loop-target : goal.invariant-loop-target
invariant-loop-target l = record {
  count : length l.marks.items ≡ l.servers;
  marked : (s : ℕ) → s < l.servers → seen l.marks.items l.targets l.target-index s ≡ is_at_one l.targets s;
  numbers : (s : ℕ) → get_or l.marks.items s false ≡ true → s < 2 ^ 32;
}

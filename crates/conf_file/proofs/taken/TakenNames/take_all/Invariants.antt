use Rattle.std.proofs.Common.{◌≡◌, ◌||◌, ℕ, List, map, drop}
use Rattle.conf_file.specs.Names.{is_among}
use Rattle.conf_file.specs.Taken.{is_taken}
use Rattle.conf_file.proofs.taken.TakenNames.take_all.Given as goal

abbrev pub invariant-loop-name : goal.invariant-loop-name
invariant-loop-name l =
    (name : List ℕ) → (is_among (map (λ n. n.now) (drop l.name-index l.names)) name || is_taken l.self name) ≡ (is_among (map (λ n. n.now) l.names) name || is_taken l.fn.self name)

use Rattle.std.proofs.Common.{◌≡◌, ℕ, List, take}
use Rattle.std.specs.HashMap.{get_by_text}
use Rattle.catalog.specs.Index.{place_in}
use Rattle.catalog.proofs.index.Index.new.Given as goal

abbrev pub invariant-loop-i : goal.invariant-loop-i
invariant-loop-i l = (name : List ℕ) → get_by_text l.places name ≡ place_in (take l.i l.name-items) name

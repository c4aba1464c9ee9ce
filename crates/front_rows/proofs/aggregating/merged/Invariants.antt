use Rattle.std.proofs.Common.{◌≡◌, ◌++◌, drop, map}
use Rattle.front_rows.specs.Aggregates.{fits_from, results_from}
use Rattle.front_rows.specs.Cells.{cell_text}
use Rattle.front_rows.specs.Gathering.{all_cells}
use Rattle.front_rows.proofs.aggregating.merged.Given as goal

abbrev pub invariant-loop-place : goal.invariant-loop-place
invariant-loop-place l =
    (l.cells ++ map cell_text (results_from l.place (drop l.place l.items) (all_cells l.parts)) ≡ map cell_text (results_from 0 l.items (all_cells l.parts)))
    × (fits_from l.place (drop l.place l.items) (all_cells l.parts) ≡ fits_from 0 l.items (all_cells l.parts))

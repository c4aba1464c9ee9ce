use Rattle.std.proofs.Common.{◌≡◌, drop}
use Rattle.catalog.specs.Columns.{column_text}
use Rattle.catalog.specs.Searches.{each, in_front}
use Rattle.catalog.proofs.columns.columns_of.Given as goal

abbrev pub invariant-loop-text : goal.invariant-loop-text
invariant-loop-text l = in_front l.columns (each column_text (drop l.text-index l.text-items)) ≡ each column_text l.text-items

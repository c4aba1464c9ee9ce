use Rattle.std.proofs.Common.{◌≡◌, drop}
use Rattle.conf_file.specs.Names.{all_free, first_taken, column_names}
use Rattle.conf_file.specs.Taken.{is_taken}
use Rattle.conf_file.proofs.repeats.check_columns.Given as goal

abbrev pub invariant-loop-column : goal.invariant-loop-column
invariant-loop-column l = first_taken (is_taken l.names) (column_names (drop l.column-index l.columns)) ≡ first_taken all_free (column_names l.columns)

use Rattle.std.proofs.Common.{◌≡◌, drop}
use Rattle.std.specs.List.{list_all}
use Rattle.plain_tables.specs.Rows.{fits_columns}
use Rattle.branch_store.proofs.checking.are_rows.Given as goal

abbrev pub invariant-loop-row : goal.invariant-loop-row
invariant-loop-row l = list_all (fits_columns l.def) (drop l.row-index l.rows) ≡ list_all (fits_columns l.def) l.rows

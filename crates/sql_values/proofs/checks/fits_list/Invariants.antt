use Rattle.std.proofs.Common.{◌≡◌, drop}
use Rattle.std.specs.List.{list_all}
use Rattle.sql_values.specs.Kinds.{literal_kind, are_comparable}
use Rattle.sql_values.proofs.checks.fits_list.Given as goal

abbrev pub invariant-loop-literal : goal.invariant-loop-literal
invariant-loop-literal l =
    list_all (λ literal. are_comparable l.kind (literal_kind literal)) (drop l.literal-index l.list) ≡ list_all (λ literal. are_comparable l.kind (literal_kind literal)) l.list

use Rattle.std.proofs.Common.{◌≡◌, map, drop}
use Rattle.conf_file.specs.Names.{all_free, first_taken}
use Rattle.conf_file.specs.Taken.{is_taken}
use Rattle.conf_file.proofs.repeats.check_space.Given as goal

abbrev pub invariant-loop-entry : goal.invariant-loop-entry
invariant-loop-entry g l = first_taken (is_taken l.names) (map g.T.Named.name_of (drop l.entry-index l.entries)) ≡ first_taken all_free (map g.T.Named.name_of l.entries)

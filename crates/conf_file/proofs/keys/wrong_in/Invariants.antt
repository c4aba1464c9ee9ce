use Rattle.std.proofs.Common.{◌≡◌, map, drop}
use Rattle.toml.specs.View.{table_view}
use Rattle.conf_file.specs.Keys.{first_key, is_wrong}
use Rattle.conf_file.specs.Sections.{keys_of}
use Rattle.conf_file.specs.Shown.{rule_of}
use Rattle.conf_file.proofs.keys.wrong_in.Given as goal

abbrev pub invariant-loop-key : goal.invariant-loop-key
invariant-loop-key l = first_key (is_wrong (table_view l.table)) (map rule_of (drop l.key-index l.key-items)) ≡ first_key (is_wrong (table_view l.table)) (keys_of l.fn.section)

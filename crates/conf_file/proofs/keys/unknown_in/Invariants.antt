use Rattle.std.proofs.Common.{◌≡◌, not}
use Rattle.std.specs.List.{find}
use Rattle.toml.specs.View.{members_view}
use Rattle.conf_file.specs.Keys.{is_known}
use Rattle.conf_file.specs.Trees.{keys}
use Rattle.conf_file.proofs.keys.unknown_in.Given as goal

abbrev pub invariant-loop-key : goal.invariant-loop-key
invariant-loop-key l = find (λ key. not (is_known l.section key)) (keys (members_view l.key-iterator)) ≡ find (λ key. not (is_known l.section key)) (keys (members_view l.table.entries))

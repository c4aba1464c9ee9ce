use Rattle.std.proofs.Common.{◌≡◌, map, drop}
use Rattle.std.specs.List.{list_any}
use Rattle.conf_file.specs.Sections.{KeyRule, keys_of}
use Rattle.conf_file.specs.Shown.{rule_of}
use Rattle.conf_file.specs.Texts.{is_same}
use Rattle.conf_file.proofs.keys.is_known.Given as goal

abbrev pub invariant-loop-key : goal.invariant-loop-key
invariant-loop-key l =
    list_any (λ (rule : KeyRule). is_same rule.name l.name) (map rule_of (drop l.key-index l.key-items)) ≡ list_any (λ (rule : KeyRule). is_same rule.name l.name) (keys_of l.fn.section)

use Rattle.std.proofs.Common.{◌≡◌, ◌++◌, drop, map}
use Rattle.sql_text.specs.Printing.{at_level, shown_cond, joined_text}
use Rattle.sql_text.proofs.Joined.{behind_text}
use Rattle.sql_text.proofs.printing.+printing.Given as goal

-- what is added so far, and what is left to add, is all
abbrev pub invariant-push_parts-loop-part : goal.invariant-push_parts-loop-part
invariant-push_parts-loop-part l =
    l.out.items ++ behind_text l.before l.separator (map (at_level l.level) (map shown_cond (drop l.part-index l.parts)))
    ≡ l.initial.out.items ++ joined_text l.separator (map (at_level l.level) (map shown_cond l.parts))

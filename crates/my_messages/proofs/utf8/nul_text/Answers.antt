use Rattle.std.proofs.Common.{subst, sym, take, drop, ◌+◌}
use Rattle.std.specs.Str.{IsUtf8}
use Rattle.my_messages.proofs.Texts.{nul_utf8}
use Rattle.my_messages.proofs.utf8.nul_text.Goals as goal

pub unreachable-requires : goal.unreachable-requires
unreachable-requires c =
    c.in-Err.ensures.cases.0
    (subst IsUtf8 (sym c.split_at.ensures.front) (nul_utf8 c.args.bytes.now (take c.in_ok-at.at c.args.bytes.now) (drop (c.in_ok-at.at + 1) c.args.bytes.now) c.in_ok-at.ensures.text))

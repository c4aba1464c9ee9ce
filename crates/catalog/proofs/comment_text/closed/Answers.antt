use Rattle.catalog.proofs.Pieces.{closed_next}
use Rattle.catalog.proofs.comment_text.closed.Goals as goal

pub returns-then-byte-eq-QUOTE : goal.returns-then-byte-eq-QUOTE
returns-then-byte-eq-QUOTE c =
    let next = closed_next c.args.bytes.now c.loop-i.i c.loop-i-test.true c.if-byte-eq-QUOTE.true in
    cc

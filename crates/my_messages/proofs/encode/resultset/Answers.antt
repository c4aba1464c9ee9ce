use Rattle.std.proofs.Common.{map, length, ◌∙◌, ap, rules, ◌≡◌, ◌++◌, List, ℕ}
use Rattle.my_wire.specs.Lenenc.{lenenc}
use Rattle.my_wire.specs.Packets.{packet}
use Rattle.my_messages.specs.Reply.{definition_bytes, row_bytes, eof_bytes}
use Rattle.my_messages.proofs.Joined.{result_joined}
use Rattle.my_messages.proofs.encode.resultset.Goals as goal

pub returns : goal.returns
returns c =
    let count : c.as_slice.result.now ≡ lenenc (length c.args.columns.now) = search rules in
    let first : c.write_packet.new.out ≡ packet c.args.seq (lenenc (length c.args.columns.now)) = c.in_ok-number.ensures.ok ∙ ap (λ (o : List ℕ). o ++ packet c.args.seq c.as_slice.result.now) c.new-out.ensures ∙ ap (λ (p : List ℕ). packet c.args.seq p) count in
    result_joined c.args.seq c.in_ok-number.number c.in_ok-number-2.number c.in_ok-number-3.number c.in_ok-number-4.number
    (lenenc (length c.args.columns.now)) (eof_bytes c.args.status) (map definition_bytes c.args.columns.now) (map row_bytes c.args.rows.now)
    c.write_packet.new.out c.put_definitions.new.out c.put_eof.new.out c.put_rows.new.out c.put_eof-2.new.out
    first c.in_ok-number.ensures.next c.in_ok-number-2.ensures.bytes c.in_ok-number-2.ensures.next c.in_ok-number-3.ensures.bytes c.in_ok-number-3.ensures.next
    c.in_ok-number-4.ensures.bytes c.in_ok-number-4.ensures.next c.in_ok-put_eof.ensures.bytes

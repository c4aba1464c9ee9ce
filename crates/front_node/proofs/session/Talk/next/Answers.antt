use Rattle.std.proofs.Common.{◌≡◌, ◌∙◌, List, ℕ, ◌∷◌, refl, sym, subst}
use Rattle.std.specs.Prelude.{IfSome}
use Rattle.my_wire.specs.Packets.{found, Whole}
use Rattle.my_messages.specs.Command.{IsCommand}
use Rattle.front_node.proofs.Sessions.{found_at}
use Rattle.front_node.proofs.session.Talk.next.Goals as goal

pub returns-in-Ok-Quit : goal.returns-in-Ok-Quit
returns-in-Ok-Quit g c =
    let whole = subst (λ o. IfSome o (λ p. (found c.args.self.now.reader ≡ Whole p.payload c.next_packet.new.self.held) × (p.seq ≡ c.args.self.now.reader.expected))) c.in-Ok-Some.field-0-is c.in-Ok-Some.ensures.whole in
    let quit = subst (λ command. IsCommand command c.as_slice.result.now) c.in-Ok-Quit.field-0-is c.in-Ok-Quit.ensures in (
      c.in-Ok-Some.packet.payload,
      c.next_packet.new.self.held,
      sym (found_at c.args.self.now.reader c.requires) ∙ whole.0,
      subst (λ bs. (more : List ℕ) × (bs ≡ 1 ∷ more)) c.as_slice.ensures quit,
      refl,
      refl,
    )

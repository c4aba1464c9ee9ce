use Rattle.std.proofs.Common.{◌≡◌, ◌+◌, ◌∙◌, ◌∷◌, [], sym, subst, arith, rules}
use Rattle.std.specs.Prelude.{IfSome}
use Rattle.my_messages.specs.Reply.{HasBytes}
use Rattle.front_node.specs.Asking.{Busy, Turn}
use Rattle.front_node.proofs.RepliesIn.{either_has}
use Rattle.front_node.proofs.Turning.{Continues, continues_from, continues_more, continues_to, turns_over, turns_last, rest_is_over, none_is_over, one_is_left}
use Rattle.front_node.proofs.statement.turns.Goals as goal

pub loop-init : goal.loop-init
loop-init g c = record { goes_on = continues_from g.B.Backs.asks c.args.session c.args.most _; bytes = tt }

pub returns-then-is_idle-clause-asked : goal.returns-then-is_idle-clause-asked
returns-then-is_idle-clause-asked g c =
    let now : Busy g.row.B.Denot = record { front = c.loop.front; requests = c.loop.requests.items; backs = c.loop.backs } in
    continues_to g.B.Backs.asks c.args.session c.args.most _ c.loop.counter now c.loop.reply
    (turns_over g.B.Backs.asks c.args.session _ now (rest_is_over g.B.Backs.asks c.args.session now (sym c.is_idle.ensures ∙ c.if-is_idle.true))) c.loop.invariant.goes_on

pub returns-in_default-clause-asked : goal.returns-in_default-clause-asked
returns-in_default-clause-asked g c =
    let now : Busy g.row.B.Denot = record { front = c.loop.front; requests = c.pop_front.new.self.items; backs = c.loop.backs } in
    let same : c.loop.requests.items ≡ c.pop_front.new.self.items = c.in_default.ensures.items in
    let none : c.pop_front.new.self.items ≡ [] = search rules in
    let goes_on = subst (λ rs. Continues g.B.Backs.asks c.args.session c.args.most (record { front = c.args.front.now; requests = c.args.requests.now.items; backs = c.args.backs.now }) c.loop.counter (record { front = c.loop.front; requests = rs; backs = c.loop.backs }) c.loop.reply) same c.loop.invariant.goes_on in
    continues_to g.B.Backs.asks c.args.session c.args.most _ c.loop.counter now c.loop.reply (turns_over g.B.Backs.asks c.args.session _ now (none_is_over g.B.Backs.asks c.args.session now none)) goes_on

pub loop-preserved : goal.loop-preserved
loop-preserved g c =
    let now : Busy g.row.B.Denot = record { front = c.loop.front; requests = c.loop.requests.items; backs = c.loop.backs } in
    let left : c.loop.requests.items ≡ c.in-Some.asked ∷ c.pop_front.new.self.items = c.in-Some.ensures.items in
    let busy = one_is_left g.B.Backs.asks c.args.session now c.in-Some.asked c.pop_front.new.self.items (sym c.is_idle.ensures ∙ c.if-is_idle.false) left in
    let asked = c.in_ok-told.ensures.asked in
    let start : Busy g.row.B.Denot = record { front = c.args.front.now; requests = c.args.requests.now.items; backs = c.args.backs.now } in
    let middle : Busy g.row.B.Denot = record { front = c.turn.new.front; requests = c.turn.new.requests.items; backs = c.turn.new.backs } in
    record {
      goes_on =
          subst (λ o. Continues g.B.Backs.asks c.args.session c.args.most start (c.loop.counter + 1) middle o) (sym c.or-reply.ensures)
          (continues_more g.B.Backs.asks c.args.session c.args.most start c.loop.counter now middle c.loop.reply c.in_ok-told.told asked.0 c.loop-test.true busy
          (subst (λ rs. Turn g.B.Backs.asks c.args.session (record { front = c.loop.front; requests = rs; backs = c.loop.backs }) asked.0 middle) (sym left) asked.2) asked.1 c.loop.invariant.goes_on);
      bytes = subst (λ o. IfSome o HasBytes) (sym c.or-reply.ensures) (either_has c.in_ok-told.told c.loop.reply c.in_ok-told.ensures.bytes c.loop.invariant.bytes);
    }

pub returns-clause-asked : goal.returns-clause-asked
returns-clause-asked g c =
    let now : Busy g.row.B.Denot = record { front = c.loop.front; requests = c.loop.requests.items; backs = c.loop.backs } in
    let few = c.loop.auto.counter-end in
    let most = c.loop-test.false in
    continues_to g.B.Backs.asks c.args.session c.args.most _ c.loop.counter now c.loop.reply (turns_last g.B.Backs.asks c.args.session c.args.most c.loop.counter now (omega arith)) c.loop.invariant.goes_on

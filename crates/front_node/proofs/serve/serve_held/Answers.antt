use Rattle.std.proofs.Common.{◌∙◌, refl, sym, subst, arith}
use Rattle.front_node.specs.Asking.{Node}
use Rattle.front_node.specs.Serving.{Seat, Serving}
use Rattle.front_node.specs.Session.{Session}
use Rattle.front_node.specs.Seats.{seat_of}
use Rattle.front_node.proofs.Sessions.{stands, serving_more, serving_written, fails, ended, ended_failing}
use Rattle.front_node.proofs.serve.serve_held.Goals as goal

pub loop-talk-preserved-in-Ok : goal.loop-talk-preserved-in-Ok
loop-talk-preserved-in-Ok g c =
    let old : Seat g.row.B.Denot = seat_of c.loop-talk.talk c.loop-talk.front c.loop-talk.backs in
    let new : Seat g.row.B.Denot = seat_of c.next.new.self c.next.new.front c.next.new.backs in
    let written = c.in-Ok.ensures.written in
    let a = c.loop-talk.invariant.no_more in let b = c.flush.ensures.no_more in let d = c.loop-talk.invariant.later in let e = c.flush.ensures.later in
    record {
      served = λ first begun h.
          serving_written g.C.Stream.passes g.met.C.Stream.passes_nothing g.met.C.Stream.passes_on g.B.Backs.asks c.args.session first begun new (seat_of c.flush.new.self c.next.new.front c.next.new.backs)
          c.loop-talk.client c.flush.new.client
          (serving_more g.C.Stream.passes g.met.C.Stream.passes_nothing g.met.C.Stream.passes_on g.B.Backs.asks c.args.session first begun old new c.loop-talk.client (c.loop-talk.invariant.served first begun h) c.in-Served.ensures)
          c.in-Ok.ensures.whole refl written.reader written.out written.status;
      reader = stands c.flush.new.self.reader _ (written.reader ∙ c.in-Served.ensures.reader);
      no_more = omega arith;
      later = omega arith;
      same_source = c.flush.ensures.same_source ∙ c.loop-talk.invariant.same_source;
      same_sink = c.flush.ensures.same_sink ∙ c.loop-talk.invariant.same_sink;
    }

pub returns-in-Err-clause-ended : goal.returns-in-Err-clause-ended
returns-in-Err-clause-ended g c first begun h =
    let old : Seat g.row.B.Denot = seat_of c.loop-talk.talk c.loop-talk.front c.loop-talk.backs in
    let new : Seat g.row.B.Denot = seat_of c.next.new.self c.next.new.front c.next.new.backs in
    let node : Node g.row.B.Denot = record { front = c.next.new.front; backs = c.next.new.backs } in
    subst (λ how. Session g.C.Stream.passes g.C.Stream.has_ended g.B.Backs.asks c.args.session first begun node c.flush.new.client how) (sym c.in-Err.ensures.fault.0)
    (fails g.C.Stream.passes g.C.Stream.has_ended g.met.C.Stream.passes_on g.B.Backs.asks c.args.session first begun new c.loop-talk.client c.flush.new.client node
    (serving_more g.C.Stream.passes g.met.C.Stream.passes_nothing g.met.C.Stream.passes_on g.B.Backs.asks c.args.session first begun old new c.loop-talk.client (c.loop-talk.invariant.served first begun h) c.in-Served.ensures)
    c.in-Err.ensures.front)

pub loop-talk-preserved : goal.loop-talk-preserved
loop-talk-preserved g c =
    let old : Seat g.row.B.Denot = seat_of c.loop-talk.talk c.loop-talk.front c.loop-talk.backs in
    let new : Seat g.row.B.Denot = seat_of c.next.new.self c.next.new.front c.next.new.backs in
    record {
      served = λ first begun h.
          serving_more g.C.Stream.passes g.met.C.Stream.passes_nothing g.met.C.Stream.passes_on g.B.Backs.asks c.args.session first begun old new c.loop-talk.client (c.loop-talk.invariant.served first begun h) c.in-Served.ensures;
      reader = stands c.next.new.self.reader _ c.in-Served.ensures.reader;
      no_more = c.loop-talk.invariant.no_more;
      later = c.loop-talk.invariant.later;
      same_source = c.loop-talk.invariant.same_source;
      same_sink = c.loop-talk.invariant.same_sink;
    }

pub returns-in-Ok-flush-clause-served : goal.returns-in-Ok-flush-clause-served
returns-in-Ok-flush-clause-served g c first begun h =
    let new : Seat g.row.B.Denot = seat_of c.next.new.self c.next.new.front c.next.new.backs in
    let written = c.in-Ok-flush.ensures.written in
    serving_written g.C.Stream.passes g.met.C.Stream.passes_nothing g.met.C.Stream.passes_on g.B.Backs.asks c.args.session first begun new
    (seat_of c.flush-in-Wanting.new.self c.next.new.front c.next.new.backs) c.loop-talk.client c.flush-in-Wanting.new.client
    (subst (λ s. Serving g.C.Stream.passes g.B.Backs.asks c.args.session first begun s c.loop-talk.client) (sym c.in-Wanting.ensures.1) (c.loop-talk.invariant.served first begun h))
    c.in-Ok-flush.ensures.whole refl written.reader written.out written.status

pub returns-in-Err-flush-clause-ended : goal.returns-in-Err-flush-clause-ended
returns-in-Err-flush-clause-ended g c first begun h =
    let new : Seat g.row.B.Denot = seat_of c.next.new.self c.next.new.front c.next.new.backs in
    let node : Node g.row.B.Denot = record { front = c.next.new.front; backs = c.next.new.backs } in
    subst (λ how. Session g.C.Stream.passes g.C.Stream.has_ended g.B.Backs.asks c.args.session first begun node c.flush-in-Wanting.new.client how) (sym c.in-Err-flush.ensures.fault.0)
    (fails g.C.Stream.passes g.C.Stream.has_ended g.met.C.Stream.passes_on g.B.Backs.asks c.args.session first begun new c.loop-talk.client c.flush-in-Wanting.new.client node
    (subst (λ s. Serving g.C.Stream.passes g.B.Backs.asks c.args.session first begun s c.loop-talk.client) (sym c.in-Wanting.ensures.1) (c.loop-talk.invariant.served first begun h))
    c.in-Err-flush.ensures.front)

pub returns-in-Ok-flush-2-clause-ended : goal.returns-in-Ok-flush-2-clause-ended
returns-in-Ok-flush-2-clause-ended g c first begun h =
    ended g.C.Stream.passes g.C.Stream.has_ended g.met.C.Stream.passes_on g.B.Backs.asks c.args.session first begun c.in-Ended.how (seat_of c.loop-talk.talk c.loop-talk.front c.loop-talk.backs)
    (seat_of c.next.new.self c.next.new.front c.next.new.backs) c.loop-talk.client c.flush-in-Ended.new.client (c.loop-talk.invariant.served first begun h) c.in-Ended.ensures c.in-Ok-flush-2.ensures.whole

pub returns-in-Err-flush-2-clause-ended : goal.returns-in-Err-flush-2-clause-ended
returns-in-Err-flush-2-clause-ended g c first begun h =
    let node : Node g.row.B.Denot = record { front = c.next.new.front; backs = c.next.new.backs } in
    subst (λ how. Session g.C.Stream.passes g.C.Stream.has_ended g.B.Backs.asks c.args.session first begun node c.flush-in-Ended.new.client how) (sym c.in-Err-flush-2.ensures.fault.0)
    (ended_failing g.C.Stream.passes g.C.Stream.has_ended g.met.C.Stream.passes_on g.B.Backs.asks c.args.session first begun c.in-Ended.how (seat_of c.loop-talk.talk c.loop-talk.front c.loop-talk.backs)
    (seat_of c.next.new.self c.next.new.front c.next.new.backs) c.loop-talk.client c.flush-in-Ended.new.client node (c.loop-talk.invariant.served first begun h) c.in-Ended.ensures c.in-Err-flush-2.ensures.front)

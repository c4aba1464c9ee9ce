use Rattle.std.proofs.Common.{◌≡◌, ◌∙◌, ◌++◌, [], take, refl, subst, arith}
use Rattle.my_wire.specs.Packets.{with_held}
use Rattle.front_node.specs.Serving.{Seat}
use Rattle.front_node.specs.Seats.{seat_of}
use Rattle.front_node.proofs.Sessions.{serving_fed, read_fails, starves, input_ends}
use Rattle.front_node.proofs.serve.serve_in.Goals as goal

pub returns-in-Err-clause-session : goal.returns-in-Err-clause-session
returns-in-Err-clause-session g c =
    read_fails g.C.Stream.passes g.C.Stream.has_ended g.met.C.Stream.passes_on g.B.Backs.asks c.args.session _ _ (seat_of c.loop-count.talk c.loop-count.front c.loop-count.backs) c.loop-count.client c.read.new.self _
    c.loop-count.invariant.served c.in-Err.ensures.none

pub returns-then-count-eq0-clause-session : goal.returns-then-count-eq0-clause-session
returns-then-count-eq0-clause-session g c =
    let none : c.in-Ok.count ≡ 0 = c.if-count-eq0.true in
    input_ends g.C.Stream.passes g.C.Stream.has_ended g.met.C.Stream.passes_on g.B.Backs.asks c.args.session _ _ (seat_of c.loop-count.talk c.loop-count.front c.loop-count.backs) c.loop-count.client c.read.new.self
    c.loop-count.invariant.served (subst (λ n. g.C.Stream.passes c.loop-count.client (take n c.read.new.into) [] c.read.new.self) none c.in-Ok.ensures.given)
    c.loop-count.invariant.written c.loop-count.invariant.wanting (c.in-Ok.ensures.end none c.loop-count.invariant.room)

pub returns-in-Err-feed-clause-session : goal.returns-in-Err-feed-clause-session
returns-in-Err-feed-clause-session g c =
    let piece = take c.in-Ok.count c.read.new.into in
    let old : Seat g.row.B.Denot = seat_of c.loop-count.talk c.loop-count.front c.loop-count.backs in
    let new : Seat g.row.B.Denot = record { node = old.node; reader = with_held old.reader (old.reader.held ++ piece); out = old.out; status = old.status } in
    starves g.C.Stream.passes g.C.Stream.has_ended g.met.C.Stream.passes_on g.B.Backs.asks c.args.session _ _ new c.read.new.self c.read.new.self _
    (serving_fed g.C.Stream.passes g.met.C.Stream.passes_nothing g.met.C.Stream.passes_on g.B.Backs.asks c.args.session _ _ old new c.loop-count.client c.read.new.self piece
    c.loop-count.invariant.served c.in-Ok.ensures.given refl refl refl refl)
    (g.met.C.Stream.passes_nothing c.read.new.self)

pub loop-count-preserved : goal.loop-count-preserved
loop-count-preserved g c =
    let piece = take c.in-Ok.count c.read.new.into in
    let fed = c.in-Ok-feed.ensures in
    let a = c.loop-count.invariant.room in let b = c.read.auto.into in
    let d = c.loop-count.invariant.later in let e = c.read.ensures.later in let f = c.serve_held.ensures.later in
    record {
      served =
          c.in-Ok-serve_held.ensures.served _ _
          (serving_fed g.C.Stream.passes g.met.C.Stream.passes_nothing g.met.C.Stream.passes_on g.B.Backs.asks c.args.session _ _ (seat_of c.loop-count.talk c.loop-count.front c.loop-count.backs)
          (seat_of c.feed.new.self c.loop-count.front c.loop-count.backs) c.loop-count.client c.read.new.self piece c.loop-count.invariant.served c.in-Ok.ensures.given refl fed.reader fed.out fed.status);
      wanting = c.in-Ok-serve_held.ensures.wanting;
      written = c.in-Ok-serve_held.ensures.written;
      room = omega arith;
      later = omega arith;
      same_source = c.serve_held.ensures.same_source ∙ c.read.ensures.same_source ∙ c.loop-count.invariant.same_source;
      same_sink = c.serve_held.ensures.same_sink ∙ c.read.ensures.same_sink ∙ c.loop-count.invariant.same_sink;
    }

pub returns-in-Err-serve_held-clause-session : goal.returns-in-Err-serve_held-clause-session
returns-in-Err-serve_held-clause-session g c =
    let piece = take c.in-Ok.count c.read.new.into in
    let fed = c.in-Ok-feed.ensures in
    c.in-Err-serve_held.ensures.ended _ _
    (serving_fed g.C.Stream.passes g.met.C.Stream.passes_nothing g.met.C.Stream.passes_on g.B.Backs.asks c.args.session _ _ (seat_of c.loop-count.talk c.loop-count.front c.loop-count.backs)
    (seat_of c.feed.new.self c.loop-count.front c.loop-count.backs) c.loop-count.client c.read.new.self piece c.loop-count.invariant.served c.in-Ok.ensures.given refl fed.reader fed.out fed.status)

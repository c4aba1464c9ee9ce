use Rattle.std.proofs.Common.{refl, arith}
use Rattle.record_log.proofs.KeptFields.{kept_more, kept_ready}
use Rattle.record_log.proofs.log.Log.reserve.Goals as goal

pub invariant_of-self : goal.invariant_of-self
invariant_of-self g c = kept_more c.self.invariant refl (omega arith) (omega arith) c.reserve.ensures.same refl (omega arith) refl (omega arith) c.reserve.ensures.kept

pub invariant_of-self-in_err-reserve-2 : goal.invariant_of-self-in_err-reserve-2
invariant_of-self-in_err-reserve-2 g c =
    kept_more c.self.invariant refl (omega arith) (omega arith) c.reserve.ensures.same c.reserve-2.ensures.items c.reserve-2.ensures.capacity refl (omega arith) c.reserve.ensures.kept

pub invariant_of-self-in_err-reserve-3 : goal.invariant_of-self-in_err-reserve-3
invariant_of-self-in_err-reserve-3 g c =
    kept_more c.self.invariant refl (omega arith) (omega arith) c.reserve.ensures.same c.reserve-2.ensures.items c.reserve-2.ensures.capacity c.reserve-3.ensures.items c.reserve-3.ensures.capacity c.reserve.ensures.kept

pub invariant_of-self-in_err-ready : goal.invariant_of-self-in_err-ready
invariant_of-self-in_err-ready g c =
    kept_more c.self.invariant c.ready.ensures.state c.ready.ensures.more.1 c.ready.ensures.more.0 c.reserve.ensures.same c.reserve-2.ensures.items c.reserve-2.ensures.capacity c.reserve-3.ensures.items c.reserve-3.ensures.capacity c.reserve.ensures.kept

pub invariant_of-self-2 : goal.invariant_of-self-2
invariant_of-self-2 g c =
    kept_ready
    (kept_more c.self.invariant c.ready.ensures.state c.ready.ensures.more.1 c.ready.ensures.more.0 c.reserve.ensures.same c.reserve-2.ensures.items c.reserve-2.ensures.capacity c.reserve-3.ensures.items c.reserve-3.ensures.capacity c.reserve.ensures.kept)
    (λ some. let calls = c.in_ok-ready.ensures {u = tt} in let payload = c.in_ok-reserve-2.ensures {u = tt} in let frame = c.in_ok-reserve-3.ensures {u = tt} in let slot = c.in_ok-reserve.ensures {u = tt} in record {
      four_calls = omega (arith, calls.ok.1);
      bytes = omega (arith, calls.ok.0);
      payload = omega (arith, payload.ok);
      framed = omega (arith, frame.ok);
      slot = slot.slots;
    })

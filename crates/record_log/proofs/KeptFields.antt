-- A log's fields after a step.
use Rattle.std.proofs.Common.{◌≡◌, ◌≤◌, ◌<◌, ℕ, ◌+◌, Bool, List, sym, ◌∙◌, ap, subst, arith}
use Rattle.std.specs.Prelude.{Option, Vec, vec_capacity}
use Rattle.std.specs.declared.alloc.Global.{Global}
use Rattle.disk_core.specs.DiskModel.{DiskState}
use Rattle.record_log.specs.Layout.{size_of}
use Rattle.record_log.specs.LogView.{IsStored, HasRoom}
use Rattle.record_log.specs.Kept.{IsKept}

-- more room changes nothing
pub kept_more : {o o' p : Option DiskState} {calls calls' room room' gate ready slots slots' : ℕ} {records records' : List (List ℕ)} {sound : Bool} {next next' frame frame' : Vec ℕ Global}
    → IsKept o p calls room records gate ready sound next frame slots → o' ≡ o → calls ≤ calls' → room ≤ room' → records' ≡ records → next'.items ≡ next.items → vec_capacity next ≤ vec_capacity next'
    → frame'.items ≡ frame.items → vec_capacity frame ≤ vec_capacity frame' → slots ≤ slots' → IsKept o' p calls' room' records' gate ready sound next' frame' slots'
kept_more {o = o} {o' = o'} {p = p} {gate = gate} {records = records} {records' = records'} kept same more_calls more_room same_records same_next more_next same_frame more_frame more_slots = record {
  stored = λ is.
      let first : IsStored o p records' gate = subst (λ (rs : List (List ℕ)). IsStored o p rs gate) (sym same_records) (kept.stored is) in
      subst (λ (x : Option DiskState). IsStored x p records' gate) (sym same) first;
  size = λ is. ap (λ (rs : List (List ℕ)). 17 + size_of rs) same_records ∙ kept.size is;
  fits = kept.fits;
  has_room = λ some. let r = kept.has_room some in record {
    four_calls = omega (arith, r.four_calls, more_calls);
    bytes = omega (arith, r.bytes, more_room);
    payload = omega (arith, r.payload, more_next);
    framed = omega (arith, r.framed, more_frame);
    slot = omega (arith, r.slot, more_slots);
  };
  no_next = same_next ∙ kept.no_next;
  no_frame = same_frame ∙ kept.no_frame;
}

-- another number of bytes is ready
pub kept_ready : {o p : Option DiskState} {calls room gate ready ready' slots : ℕ} {records : List (List ℕ)} {sound : Bool} {next frame : Vec ℕ Global}
    → IsKept o p calls room records gate ready sound next frame slots → (0 < ready' → HasRoom calls room ready' (vec_capacity next) (vec_capacity frame) slots) → IsKept o p calls room records gate ready' sound next frame slots
kept_ready kept has_room = record { stored = kept.stored; size = kept.size; fits = kept.fits; has_room = has_room; no_next = kept.no_next; no_frame = kept.no_frame }

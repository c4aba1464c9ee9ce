use Rattle.std.proofs.Common.{◌≡◌, ◌<◌, ◌^◌, ℕ, ◌+◌, true, List, [], ◌∷◌, ◌++◌, length, take, refl, sym, ◌∙◌, ap, subst, arith}
use Rattle.std.specs.Prelude.{Option, Vec}
use Rattle.std.specs.declared.alloc.Global.{Global}
use Rattle.disk_core.specs.DiskModel.{DiskState, IsSure, LeavesOnly, Becomes}
use Rattle.record_log.specs.Crash.{IsTorn, IsOpened}
use Rattle.record_log.specs.Format.{framed, log_size}
use Rattle.record_log.specs.Layout.{size_of}
use Rattle.record_log.specs.LogView.{IsStored, AnyMoment, IsBeforeOrAfter}
use Rattle.record_log.specs.RecordLists.{list_of}
use Rattle.record_log.proofs.Pairs.{waits, any_moment, stored_more, stored_leaves, size_more}
use Rattle.record_log.proofs.log.Log.write_reserved.Goals as goal

left_as : (o o' : Option DiskState) (gate : ℕ) (frame same : List ℕ) → frame ≡ same → Becomes (λ s t. LeavesOnly s t (IsTorn (take gate s.seen) frame)) o o' → Becomes (λ s t. LeavesOnly s t (IsTorn (take gate s.seen) same)) o o'
left_as o o' gate frame same is = subst (λ (f : List ℕ). Becomes (λ s t. LeavesOnly s t (IsTorn (take gate s.seen) f)) o o') is

done_as : (o o' : Option DiskState) (gate : ℕ) (frame same : List ℕ) → frame ≡ same → Becomes (λ s t. IsSure t × IsOpened (take gate s.seen) frame t.seen) o o' → Becomes (λ s t. IsSure t × IsOpened (take gate s.seen) same t.seen) o o'
done_as o o' gate frame same is = subst (λ (f : List ℕ). Becomes (λ s t. IsSure t × IsOpened (take gate s.seen) f t.seen) o o') is

stored_as : (o p : Option DiskState) (records same : List (List ℕ)) (gate gate' : ℕ) → same ≡ records → gate' ≡ gate → IsStored o p records gate → IsStored o p same gate'
stored_as o p records same gate gate' is is_gate stored =
    subst (λ (g : ℕ). IsStored o p same g) (sym is_gate) (subst (λ (rs : List (List ℕ)). IsStored o p rs gate) (sym is) stored)

pushed_as : (records new : List (List ℕ)) (pushed payload : List ℕ) → new ≡ records ++ pushed ∷ [] → pushed ≡ payload → new ≡ records ++ payload ∷ []
pushed_as records new pushed payload is same = is ∙ ap (λ (p : List ℕ). records ++ p ∷ []) same

payload_as : (taken vec : Vec ℕ Global) (old payload pushed : List ℕ) → pushed ≡ taken.items → taken ≡ vec → vec.items ≡ old ++ payload → old ≡ [] → pushed ≡ payload
payload_as taken vec old payload pushed is_taken is_vec is none = is_taken ∙ ap (λ (v : Vec ℕ Global). v.items) is_vec ∙ is ∙ ap (λ (l : List ℕ). l ++ payload) none

size_as : (records new : List (List ℕ)) (payload : List ℕ) (gate : ℕ) → new ≡ records ++ payload ∷ [] → 17 + size_of records ≡ gate → 17 + size_of new ≡ gate + (length payload + 5)
size_as records new payload gate is size = omega (arith, ap size_of is, size_more records payload, size)

fits_as : (records seen : List (List ℕ)) (payload : List ℕ) (gate : ℕ) → records ≡ seen → log_size (seen ++ payload ∷ []) < 2 ^ 64 → 17 + size_of records ≡ gate → gate + (length payload + 5) + 1 < 2 ^ 64
fits_as records seen payload gate same fits size = omega (arith, fits, size_more seen payload, ap size_of same, size)

pub append_frame-done-requires-clause-file : goal.append_frame-done-requires-clause-file
append_frame-done-requires-clause-file g c =
    let sound : c.self.inside.sound ≡ true = ap (λ v. v.sound) c.self.view_is ∙ c.requires.sound in
    waits _ (g.D.Disk.state c.self.inside.other) (list_of c.self.inside.records) c.self.inside.gate (c.self.invariant.stored sound) (g.met.D.Disk.all_or_none c.self.inside.current c.self.inside.other)

-- the fields after the append
pub invariant_of-self : goal.invariant_of-self
invariant_of-self g c =
    let sound : c.self.inside.sound ≡ true = ap (λ v. v.sound) c.self.view_is ∙ c.requires.sound in
    let payload = c.args.payload.now in
    let pushed = pushed_as _ _ _ payload c.push_reserved.ensures (payload_as _ _ _ payload _ c.from_vec.ensures c.replace-record_bytes.ensures.value c.in-Ok.ensures.items c.self.invariant.no_next) in
    let fresh : c.replace-record_bytes.new.dest.items ≡ [] = ap (λ v. v.items) c.replace-record_bytes.ensures.after ∙ c.new.ensures.items in
    let done = done_as _ _ c.self.inside.gate _ (framed payload) (c.deref.ensures.value ∙ c.fill_frame.ensures) c.in-Ok-done.ensures.done in
    let more = stored_more _ _ _ _ (list_of c.self.inside.records) c.self.inside.gate payload c.requires.short (c.self.invariant.stored sound) done refl in
    record {
      stored = λ _. stored_as _ _ _ _ _ _ pushed (omega arith) more;
      size = λ _. size_as _ _ payload _ pushed (c.self.invariant.size sound);
      fits = fits_as (list_of c.self.inside.records) _ payload c.self.inside.gate (ap (λ v. v.records) c.self.view_is) c.requires.fits (c.self.invariant.size sound);
      has_room = λ some. absurd (omega (arith, some));
      no_next = fresh;
      no_frame = c.clear.ensures.items;
    }

pub returns-in-Ok-done-clause-any_moment : goal.returns-in-Ok-done-clause-any_moment
returns-in-Ok-done-clause-any_moment g c =
    let sound : c.self.inside.sound ≡ true = ap (λ v. v.sound) c.self.view_is ∙ c.requires.sound in
    let payload = c.args.payload.now in
    let left = left_as _ _ c.self.inside.gate _ (framed payload) (c.deref.ensures.value ∙ c.fill_frame.ensures) c.in-Ok-done.ensures.any_moment in
    let moments = any_moment _ _ _ _ (list_of c.self.inside.records) c.self.inside.gate payload c.requires.short (c.self.invariant.stored sound) left refl in
    subst (λ v. AnyMoment (g.D.Disk.state v.current) (g.D.Disk.state v.other) (g.D.Disk.state c.append_frame-done.new.disk) (g.D.Disk.state c.self.inside.other) (IsBeforeOrAfter v.records payload)) c.self.view_is moments

pub returns-in-Ok-done-clause-acknowledged : goal.returns-in-Ok-done-clause-acknowledged
returns-in-Ok-done-clause-acknowledged g c =
    let sound : c.self.inside.sound ≡ true = ap (λ v. v.sound) c.self.view_is ∙ c.requires.sound in
    let payload = c.args.payload.now in
    let pushed = pushed_as _ _ _ payload c.push_reserved.ensures (payload_as _ _ _ payload _ c.from_vec.ensures c.replace-record_bytes.ensures.value c.in-Ok.ensures.items c.self.invariant.no_next) in
    let done = done_as _ _ c.self.inside.gate _ (framed payload) (c.deref.ensures.value ∙ c.fill_frame.ensures) c.in-Ok-done.ensures.done in
    let more = stored_more _ _ _ _ (list_of c.self.inside.records) c.self.inside.gate payload c.requires.short (c.self.invariant.stored sound) done refl in
    stored_leaves _ _ (list_of c.push_reserved.new.self) _ (stored_as _ _ _ _ _ _ pushed refl more)

pub returns-in-Err-clause-any_moment : goal.returns-in-Err-clause-any_moment
returns-in-Err-clause-any_moment g c =
    let sound : c.self.inside.sound ≡ true = ap (λ v. v.sound) c.self.view_is ∙ c.requires.sound in
    let payload = c.args.payload.now in
    let left = left_as _ _ c.self.inside.gate _ (framed payload) (c.deref.ensures.value ∙ c.fill_frame.ensures) c.in-Err.ensures.any_moment in
    let moments = any_moment _ _ _ _ (list_of c.self.inside.records) c.self.inside.gate payload c.requires.short (c.self.invariant.stored sound) left refl in
    subst (λ v. AnyMoment (g.D.Disk.state v.current) (g.D.Disk.state v.other) (g.D.Disk.state c.append_frame-done.new.disk) (g.D.Disk.state c.self.inside.other) (IsBeforeOrAfter v.records payload)) c.self.view_is moments

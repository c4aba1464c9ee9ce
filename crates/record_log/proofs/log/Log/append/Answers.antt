use Rattle.std.proofs.Common.{◌≡◌, ℕ, ◌+◌, List, true, sym, ◌∙◌, ap, subst}
use Rattle.std.specs.Prelude.{is_ok}
use Rattle.disk_core.specs.Steps.{GoThrough}
use Rattle.record_log.specs.Format.{framed}
use Rattle.record_log.specs.Layout.{size_of}
use Rattle.record_log.specs.Steps.{append_steps}
use Rattle.record_log.specs.RecordLists.{list_of}
use Rattle.record_log.proofs.Pairs.{any_moment_same, any_as}
use Rattle.record_log.proofs.log.Log.append.Goals as goal

pub returns-then-self-clause-any_moment : goal.returns-then-self-clause-any_moment
returns-then-self-clause-any_moment g c =
    let sound : c.self.inside.sound ≡ true = ap (λ v. v.sound) c.self.view_is ∙ c.requires.sound in
    let moments = any_moment_same (g.D.Disk.state c.self.inside.current) (g.D.Disk.state c.self.inside.other) (g.D.Disk.state c.args.self.now.current) (g.D.Disk.state c.args.self.now.other) (list_of c.self.inside.records) c.self.inside.gate c.args.payload.now (c.self.invariant.stored sound) (ap (λ v. g.D.Disk.state v.current) (sym c.self.view_is)) (ap (λ v. g.D.Disk.state v.other) (sym c.self.view_is)) in
    any_as _ _ _ _ _ _ (list_of c.self.inside.records) _ c.args.payload.now (ap (λ v. g.D.Disk.state v.current) c.self.view_is) (ap (λ v. g.D.Disk.state v.other) c.self.view_is) (ap (λ v. v.records) c.self.view_is) moments

pub returns-in_err-reserve-clause-any_moment : goal.returns-in_err-reserve-clause-any_moment
returns-in_err-reserve-clause-any_moment g c =
    let sound : c.self.inside.sound ≡ true = ap (λ v. v.sound) c.self.view_is ∙ c.requires.sound in
    let current = c.reserve.ensures.state ∙ ap (λ v. g.D.Disk.state v.current) (sym c.self.view_is) in
    let other = ap (λ v. g.D.Disk.state v.other) c.reserve.ensures.kept ∙ ap (λ v. g.D.Disk.state v.other) (sym c.self.view_is) in
    let moments = any_moment_same (g.D.Disk.state c.self.inside.current) (g.D.Disk.state c.self.inside.other) _ _ (list_of c.self.inside.records) c.self.inside.gate c.args.payload.now (c.self.invariant.stored sound) current other in
    any_as _ _ _ _ _ _ (list_of c.self.inside.records) _ c.args.payload.now (ap (λ v. g.D.Disk.state v.current) c.self.view_is) (ap (λ v. g.D.Disk.state v.other) c.self.view_is) (ap (λ v. v.records) c.self.view_is) moments

pub returns-clause-any_moment : goal.returns-clause-any_moment
returns-clause-any_moment g c =
    any_as _ _ _ _ _ _ _ _ c.args.payload.now c.reserve.ensures.state (ap (λ v. g.D.Disk.state v.other) c.reserve.ensures.kept) (ap (λ v. v.records) c.reserve.ensures.kept) c.write_reserved.ensures.any_moment

-- as it was planned, from the disk that `reserve` left as it was
pub returns-clause-planned : goal.returns-clause-planned
returns-clause-planned g c = λ _ s t is_s is_t.
    let records = ap (λ v. v.records) c.reserve.ensures.kept in
    let went = subst (λ (rs : List (List ℕ)). GoThrough (append_steps (17 + size_of rs) (framed c.args.payload.now)) (g.D.Disk.state c.reserve.new.self.current) (g.D.Disk.trial c.reserve.new.self.current) (g.D.Disk.state c.write_reserved.new.self.current) (g.D.Disk.trial c.write_reserved.new.self.current) (is_ok c.write_reserved.result)) records c.write_reserved.ensures.planned in
    went s t (c.reserve.ensures.state ∙ is_s) (c.reserve.ensures.trial ∙ is_t)

use Rattle.std.proofs.Common.{Some, inl, subst, refl, sym}
use Rattle.std.specs.Option.{IsSome}
use Rattle.spider_cli.proofs.Carried.{carried}
use Rattle.spider_cli.proofs.run.Goals as goal

pub returns-in-Err-NoMemory : goal.returns-in-Err-NoMemory
returns-in-Err-NoMemory g c = (subst IsSome c.in-Some.ensures refl, inl (refl, refl))

pub returns-in-Ok : goal.returns-in-Ok
returns-in-Ok g c =
    let read = subst (λ bytes. g.F.Files.holds c.args.files.now c.path_of.result.now (Some bytes)) (sym c.as_slice.ensures) c.in-Ok.ensures.bytes in
    let held = subst (λ path. g.F.Files.holds c.args.files.now path (Some c.as_slice.result.now)) c.path_of.ensures read in
    carried g.F.Files.holds g.F.Files.faults g.I.Source.gives g.I.Source.has_ended g.I.Source.faults g.O.Sink.takes g.O.Sink.faults
    _ _ _ _ _ _ _ _ _ (record { form_is = sym c.in-Some.ensures; held = held }) c.carry_out.result c.carry_out.ensures

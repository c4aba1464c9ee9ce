use Rattle.std.proofs.Common.{refl, sym, subst}
use Rattle.spider_cli.specs.Playing.{NoEnd}
use Rattle.spider_cli.proofs.Telling.{on_ok, if_grown, grown_told, NoEnd-append}
use Rattle.spider_cli.proofs.world_play.Player.grow.Goals as goal

pub returns-clause-ready : goal.returns-clause-ready
returns-clause-ready c =
    let self = c.args.self.now in
    on_ok c.extend_from_slice.result (if_grown c.extend_from_slice.result _ c.args.self.now.line.items c.args.bytes.now c.extend_from_slice.ensures.items)
    (λ items. record { no_end = subst NoEnd (sym items) (NoEnd-append self.line.items c.args.bytes.now c.requires.ready.no_end c.requires.no_end); counted = c.requires.ready.counted })

pub returns-clause-told : goal.returns-clause-told
returns-clause-told c =
    on_ok c.extend_from_slice.result (if_grown c.extend_from_slice.result _ c.args.self.now.line.items c.args.bytes.now c.extend_from_slice.ensures.items) (λ items text rest. grown_told c.args.self.now _ text c.args.bytes.now items refl refl rest)

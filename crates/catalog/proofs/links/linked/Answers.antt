use Rattle.std.proofs.lemmas.List.{append-nil}
use Rattle.catalog.proofs.Linking.{remotes_end, statuses_end}
use Rattle.catalog.proofs.links.linked.Goals as goal

pub returns-then-i-remotes : goal.returns-then-i-remotes
returns-then-i-remotes c =
    let end = remotes_end c.args.monitored c.args.servers.now c.args.remotes.now c.args.statuses.now c.loop-i.i c.if-i-remotes.true in
    let whole = append-nil c.loop-i.links in
    cc

pub returns-then-i-statuses : goal.returns-then-i-statuses
returns-then-i-statuses c =
    let end = statuses_end c.args.monitored c.args.servers.now c.args.remotes.now c.args.statuses.now c.loop-i.i c.if-i-statuses.true in
    let whole = append-nil c.loop-i.links in
    cc

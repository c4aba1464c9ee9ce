use Rattle.std.proofs.Common.{take, drop, ◌∙◌}
use Rattle.std.proofs.lemmas.List.{take-append-drop}
use Rattle.spider_cli.proofs.write_links.Goals as goal

pub returns : goal.returns
returns g c =
    let f = c.write_all.ensures.front in
    let bytes = c.as_slice.result.now in
    λ conf is. (
      c.in-Err.ensures.cause,
      c.args.catalog.now,
      is,
      record {
        written = take f.count bytes;
        taken = f.taken;
        front = (drop f.count bytes, take-append-drop f.count bytes ∙ c.as_slice.ensures ∙ c.in-Ok.ensures);
      },
    )

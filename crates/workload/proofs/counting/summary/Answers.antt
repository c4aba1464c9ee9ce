use Rattle.std.proofs.Common.{◌++◌, ◌∙◌, ap, codes}
use Rattle.workload.specs.Summary.{count_line}
use Rattle.workload.proofs.Tallies.{summary_is}
use Rattle.workload.proofs.counting.summary.Goals as goal

pub returns : goal.returns
returns c =
    let t = c.in_ok-tally.tally in
    let first = c.push_count.new.text.items in
    let played = c.in_ok-push_count.ensures ∙ ap (λ x. x ++ count_line (codes "statements") c.args.played) c.new-text.ensures.items in
    let all = c.in_ok-extend_from_slice.ensures.items ∙ ap (λ x. c.push_counts.new.text.items ++ x) c.as_slice.ensures.value ∙ ap (λ x. x ++ t.links.items) c.in_ok-push_counts.ensures in
    summary_is t c.args.played c.args.transcript.now first c.extend_from_slice.new.self.items c.in_ok-tally.ensures played all

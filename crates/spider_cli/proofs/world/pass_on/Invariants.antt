use Rattle.std.proofs.Common.{◌≡◌, ◌++◌}
use Rattle.front_core.specs.Outputs.{sends}
use Rattle.world_runs.specs.Transcript.{outputs_text}
use Rattle.spider_cli.specs.Shown.{shown_as}
use Rattle.spider_cli.proofs.world.pass_on.Given as goal

-- what is passed on so far
abbrev pub invariant-loop-output : goal.invariant-loop-output
invariant-loop-output l = record {
  sent : l.requests.items ≡ l.fn.requests.items ++ sends l.yielded;
  text : l.text.items ≡ l.fn.text.items ++ outputs_text (shown_as l.style) l.yielded;
}

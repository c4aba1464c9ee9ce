use Rattle.std.proofs.Common.{◌≡◌, drop}
use Rattle.conf_file.specs.Keys.{first_some}
use Rattle.conf_file.specs.Names.{monitor_fault}
use Rattle.conf_file.proofs.names.check_monitors.Given as goal

abbrev pub invariant-loop-monitor : goal.invariant-loop-monitor
invariant-loop-monitor l = first_some monitor_fault (drop l.monitor-index l.monitors) ≡ first_some monitor_fault l.monitors

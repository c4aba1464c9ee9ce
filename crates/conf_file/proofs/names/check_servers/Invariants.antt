use Rattle.std.proofs.Common.{◌≡◌, drop}
use Rattle.conf_file.specs.Keys.{first_some}
use Rattle.conf_file.specs.Names.{server_fault}
use Rattle.conf_file.proofs.names.check_servers.Given as goal

abbrev pub invariant-loop-server : goal.invariant-loop-server
invariant-loop-server l = first_some server_fault (drop l.server-index l.servers) ≡ first_some server_fault l.servers

use Rattle.std.proofs.Common.{◌≡◌, drop}
use Rattle.conf_file.specs.Keys.{first_some}
use Rattle.conf_file.specs.Names.{user_fault}
use Rattle.conf_file.proofs.names.check_users.Given as goal

abbrev pub invariant-loop-user : goal.invariant-loop-user
invariant-loop-user l = first_some user_fault (drop l.user-index l.users) ≡ first_some user_fault l.users

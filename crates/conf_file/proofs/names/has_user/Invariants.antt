use Rattle.std.proofs.Common.{◌≡◌, drop}
use Rattle.conf_file.specs.Names.{is_user}
use Rattle.conf_file.proofs.names.has_user.Given as goal

abbrev pub invariant-loop-user : goal.invariant-loop-user
invariant-loop-user l = is_user (drop l.user-index l.users) l.name ≡ is_user l.users l.name

use Rattle.std.proofs.Common.{◌-◌, vec_len}
use Rattle.branch_store.proofs.remote_table.+change_tables.Given as goal

abbrev pub decreases-change_tables : goal.decreases-change_tables
decreases-change_tables l = vec_len l.tables.now - l.place

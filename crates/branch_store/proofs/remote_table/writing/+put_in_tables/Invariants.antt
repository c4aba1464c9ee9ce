use Rattle.std.proofs.Common.{◌-◌, vec_len}
use Rattle.branch_store.proofs.remote_table.writing.+put_in_tables.Given as goal

abbrev pub decreases-put_in_tables : goal.decreases-put_in_tables
decreases-put_in_tables l = vec_len l.tables.now - l.place

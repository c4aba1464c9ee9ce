use Rattle.sql_replies.proofs.Shaped.{shaped_rows_are_short}
use Rattle.sql_replies.proofs.laws.rows_of_a_table_are_short.Goals as goal

pub returns : goal.returns
returns c = shaped_rows_are_short

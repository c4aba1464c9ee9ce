use Rattle.sql_text.specs.Printing.{printed}
use Rattle.sql_text.proofs.Printed.{printed_read}
use Rattle.sql_text.proofs.Statements.{again}
use Rattle.sql_text.proofs.laws.printed_statements_are_read.Goals as goal

pub returns-clause-spells : goal.returns-clause-spells
returns-clause-spells c = printed_read

pub returns-clause-again : goal.returns-clause-again
returns-clause-again c text s h = let p = printed_read text s h in again (printed s) s p.0 p.1

use Rattle.sql_text.specs.LinkPrinting.{link_printed}
use Rattle.sql_text.proofs.LinkRespelled.{printed_link_read}
use Rattle.sql_text.proofs.Requests.{again}
use Rattle.sql_text.proofs.laws.printed_requests_are_read.Goals as goal

pub returns-clause-spells : goal.returns-clause-spells
returns-clause-spells c = printed_link_read

pub returns-clause-again : goal.returns-clause-again
returns-clause-again c text r h = let p = printed_link_read text r h in again (link_printed r) r p.0 p.1

use Rattle.sql_text.proofs.Requests.{found, only, refused}
use Rattle.sql_text.proofs.parsing.parse_link.Goals as goal

pub returns-clause-found : goal.returns-clause-found
returns-clause-found c = found c.args.text.now c.parse_link_text.result c.parse_link_text.ensures

pub returns-clause-only : goal.returns-clause-only
returns-clause-only c r u i = only c.args.text.now c.parse_link_text.result r c.parse_link_text.ensures u i

pub returns-clause-refused : goal.returns-clause-refused
returns-clause-refused c = refused c.args.text.now c.parse_link_text.result c.parse_link_text.ensures

use Rattle.std.proofs.Common.{inl, inr}
use Rattle.catalog.proofs.Counted.{read_few}
use Rattle.catalog.proofs.conf.read_catalog.Goals as goal

pub catalog_of-requires-clause-servers : goal.catalog_of-requires-clause-servers
catalog_of-requires-clause-servers c = (read_few c.args.bytes.now c.in-Ok.file c.in-Ok.ensures.ok).servers

pub catalog_of-requires-clause-tables : goal.catalog_of-requires-clause-tables
catalog_of-requires-clause-tables c = (read_few c.args.bytes.now c.in-Ok.file c.in-Ok.ensures.ok).tables

pub returns-in-Err-clause-err : goal.returns-in-Err-clause-err
returns-in-Err-clause-err c = c.of_file.ensures c.args.bytes.now c.in-Err.ensures.err

pub returns-in-Err-catalog_of-clause-err : goal.returns-in-Err-catalog_of-clause-err
returns-in-Err-catalog_of-clause-err c =
    c.of_entries.ensures c.args.bytes.now
    (elim c.in-Err-catalog_of.ensures.err [ inl memory ↦ inl memory | inr broken ↦ inr (c.in-Ok.file, c.in-Ok.ensures.ok, broken) ])

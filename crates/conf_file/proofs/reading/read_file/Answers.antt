use Rattle.conf_file.proofs.Faults.{large_told}
use Rattle.conf_file.proofs.reading.read_file.Goals as goal

pub returns-clause-large : goal.returns-clause-large
returns-clause-large c = large_told c.args.bytes.now c.read_within.result c.if-bytes-gt-MOST_BYTES.false c.read_within.ensures.err

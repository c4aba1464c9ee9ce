use Rattle.std.proofs.Common.{◌≡◌, ◌++◌, codes, arith}
use Rattle.std.proofs.lemmas.Str.Pattern.{strip_suffix_char}
use Rattle.conf_file.proofs.Cuts.{stripped}
use Rattle.conf_file.proofs.column.varchar_length.Goals as goal

pub returns-in-Some : goal.returns-in-Some
returns-in-Some c =
    let (n, (size, is, more), now, rest) = c.in-Some.ensures.cases in
    let is_rest : c.args.text.now ≡ codes "VARCHAR(" ++ c.in-Some.rest.now = rw (now, size) (rw size at is) in
    stripped (codes "VARCHAR(") (codes ")") c.args.text.now c.in-Some.rest.now c.strip_suffix.result is_rest
    (strip_suffix_char 41 c.in-Some.rest.now c.strip_suffix.result c.strip_suffix.ensures.cases (omega arith))

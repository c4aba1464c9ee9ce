use Rattle.std.proofs.Common.{◌≡◌, None}
use Rattle.catalog.specs.Files.{broken_table}
use Rattle.catalog.specs.Tables.{catalog_entries}
use Rattle.catalog.proofs.Breaking.{never_missing}
use Rattle.catalog.proofs.files.sound_tables.Goals as goal

pub unreachable-requires : goal.unreachable-requires
unreachable-requires c =
    let kept : broken_table c.args.file.now ≡ None = cc (c.in-Ok.ensures, c.as_slice.ensures, c.requires) in
    let missing : catalog_entries c.args.file.now ≡ None = cc (c.in_ok-tables.ensures, c.as_slice-2.ensures, c.requires, c.in-None.is) in
    never_missing c.args.file.now kept missing

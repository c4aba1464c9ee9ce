use Rattle.std.proofs.Common.{◌^◌, ◌<◌, ℕ, subst, sym}
use Rattle.catalog.proofs.Breaking.{entries_sound, entries_count}
use Rattle.catalog.proofs.files.catalog_of.Goals as goal

pub new-requires-clause-tables : goal.new-requires-clause-tables
new-requires-clause-tables c = subst (λ (n : ℕ). n < 2 ^ 32) (sym (entries_count c.args.file c.in-Ok.tables c.in-Ok.ensures.ok)) c.requires.tables

pub new-requires-clause-sound : goal.new-requires-clause-sound
new-requires-clause-sound c = entries_sound c.args.file c.in-Ok.tables c.in-Ok.ensures.ok

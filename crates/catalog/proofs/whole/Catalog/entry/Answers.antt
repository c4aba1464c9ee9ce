use Rattle.std.proofs.Common.{◌≡◌, ◌∙◌, ◌<◌, ap, sym, refl, length, subst, List, Some}
use Rattle.std.specs.Prelude.{slice_get}
use Rattle.std.proofs.lemmas.Option.{slice_get_read}
use Rattle.catalog.specs.declared.tables.Table.{Table}
use Rattle.catalog.specs.Views.{View, AreTables}
use Rattle.catalog.proofs.whole.Catalog.entry.Goals as goal

pub returns-clause-sound : goal.returns-clause-sound
returns-clause-sound c =
    let table = c.index-as_slice-table.result in
    let sound = subst (λ (v : View). AreTables (length v.servers) v.tables) c.self.view_is c.self.invariant.2 in
    let same : c.as_slice.result.now ≡ c.args.self.now.tables = c.as_slice.ensures ∙ ap (λ (v : View). v.tables) c.self.view_is in
    let within : c.args.table < length c.as_slice.result.now = subst (λ (l : List Table). c.args.table < length l) (sym same) c.requires in
    let there : slice_get c.as_slice.result.now c.args.table ≡ Some table = slice_get_read c.as_slice.result.now (length c.as_slice.result.now) c.args.table table refl within c.index-as_slice-table.is in
    sound c.args.table table (subst (λ (l : List Table). slice_get l c.args.table ≡ Some table) same there)

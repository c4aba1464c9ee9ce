-- Tables as prepared branches leave them.
use Rattle.std.proofs.Common.{List}
use Rattle.std.specs.List.{fold}
use Rattle.sql_values.specs.declared.places.Xid.{Xid}
use Rattle.sql_values.specs.declared.table.TableDef.{TableDef}
use Rattle.plain_tables.specs.Rows.{Row}
use Rattle.branch_store.specs.declared.branch.Branch.{Branch}
use Rattle.branch_store.specs.Changes.{after}
use Rattle.branch_store.specs.Store.{prepared_changes}

abbrev pub view_one : List Branch → TableDef → List Row → Xid → List Row
view_one branches def rows xid = after def (prepared_changes branches xid) rows

abbrev pub views : List Branch → TableDef → List Row → List Xid → List Row
views branches def rows xids = fold (view_one branches def) rows xids

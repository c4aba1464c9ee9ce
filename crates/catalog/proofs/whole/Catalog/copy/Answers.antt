use Rattle.std.proofs.Common.{◌≡◌, ◌∙◌, ap, sym, subst, length, map, List}
use Rattle.conf_file.specs.declared.entries.HostEntry.{HostEntry}
use Rattle.catalog.specs.declared.tables.Table.{Table}
use Rattle.catalog.specs.Shared.{host_name}
use Rattle.catalog.specs.Views.{AreTables, table_name}
use Rattle.catalog.proofs.whole.Catalog.copy.Goals as goal

pub invariant_of-result : goal.invariant_of-result
invariant_of-result c =
    let servers : c.in_ok-copy_hosts.field-0 ≡ c.self.inside.servers = c.in_ok-copy_hosts.ensures in
    let tables : c.in_ok-copy_tables.field-0 ≡ c.self.inside.tables = c.in_ok-copy_tables.ensures ∙ c.as_slice.ensures in
    let of_tables : AreTables (length c.self.inside.servers) c.in_ok-copy_tables.field-0 = subst (λ (l : List Table). AreTables (length c.self.inside.servers) l) (sym tables) c.self.invariant.2 in (
      c.in_ok-copy.ensures ∙ c.self.invariant.0 ∙ ap (map host_name) (sym servers),
      c.in_ok-copy-2.ensures ∙ c.self.invariant.1 ∙ ap (map table_name) (sym tables),
      subst (λ (l : List HostEntry). AreTables (length l) c.in_ok-copy_tables.field-0) (sym servers) of_tables,
    )

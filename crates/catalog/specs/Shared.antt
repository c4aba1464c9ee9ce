-- The remote tables on which links lie.
use Rattle.std.specs.Prelude.{ℕ, ◌==◌, Bool, ◌&&◌, List, [], ◌∷◌, ◌++◌, Option, Some, None, if◌then◌else◌, map, nat_eq, slice_get, unwrap_or}
use Rattle.std.specs.List.{list_any, flat_map}
use Rattle.std.specs.Option.{option_map}
use Rattle.std.specs.Cmp.Lexicographic.{pointwise}
use Rattle.conf_file.specs.declared.entries.HostEntry.{HostEntry}
use Rattle.catalog.specs.declared.fault.CatalogFault.{CatalogFault}
use Rattle.catalog.specs.declared.fault.CatalogFault.TheVariants.{SharedRemote}
use Rattle.catalog.specs.declared.link.Link.{Link}
use Rattle.catalog.specs.declared.shared.Remote.{Remote}
use Rattle.catalog.specs.declared.tables.Part.{Part}
use Rattle.catalog.specs.declared.tables.Table.{Table}

-- the remote table of a link
abbrev pub remote_of : Link → Remote
remote_of link = record { server = link.server; name = link.remote }

abbrev pub part_remotes : Part → List Remote
part_remotes part = map remote_of part.links

abbrev pub table_remotes : Table → List Remote
table_remotes table = flat_map part_remotes table.parts

-- the remote tables of all links, in catalog order
abbrev pub all_remotes : List Table → List Remote
all_remotes tables = flat_map table_remotes tables

abbrev pub is_same : Remote → Remote → Bool
is_same a b = a.server == b.server && pointwise nat_eq a.name b.name

-- the first element that stands among those in front of it
abbrev pub repeated_from : {X : Type 0} → (X → X → Bool) → List X → List X → Option X
repeated_from same seen [] = None
repeated_from same seen (x ∷ xs) = if list_any (λ y. same y x) seen then Some x else repeated_from same (seen ++ x ∷ []) xs

-- the first remote table that an earlier link has too
unfoldable pub shared : List Table → Option Remote
shared tables = repeated_from is_same [] (all_remotes tables)

abbrev pub host_name : HostEntry → List ℕ
host_name host = host.name

-- the name of a server, where there is one of this number
abbrev pub name_at : List HostEntry → ℕ → List ℕ
name_at servers server = unwrap_or (option_map host_name (slice_get servers server)) []

abbrev pub shared_by : List HostEntry → Remote → CatalogFault
shared_by servers remote = SharedRemote (name_at servers remote.server) remote.name

-- two links share a remote table
abbrev pub shared_remote : List HostEntry → List Table → Option CatalogFault
shared_remote servers tables = option_map (shared_by servers) (shared tables)

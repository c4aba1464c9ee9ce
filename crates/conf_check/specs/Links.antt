-- The links of a catalog, line by line.
use Rattle.std.specs.Prelude.{ℕ, ◌+◌, List, [], ◌∷◌, ◌++◌, Option, Some, None, codes, get_or, map}
use Rattle.std.specs.Fmt.{decimal}
use Rattle.conf_file.specs.declared.entries.HostEntry.{HostEntry}
use Rattle.catalog.specs.declared.link.Link.{Link}
use Rattle.catalog.specs.declared.link.Status.{Status}
use Rattle.catalog.specs.declared.link.Status.TheVariants as status
use Rattle.catalog.specs.declared.tables.Part.{Part}
use Rattle.catalog.specs.declared.tables.Table.{Table}
use Rattle.catalog.specs.Views.{View}

abbrev pub status_text : Status → List ℕ
status_text status.Ok = codes "OK"
status_text status.Recovery = codes "RECOVERY"
status_text status.Ng = codes "NG"

-- a partition's name; the one partition of a table without partitions is shown as a dash
abbrev pub part_text : Option (List ℕ) → List ℕ
part_text None = codes "-"
part_text (Some name) = name

-- the name of the server of that number
abbrev pub server_text : List HostEntry → ℕ → List ℕ
server_text servers server = get_or (map (λ (host : HostEntry). host.name) servers) server []

-- which link it is
abbrev pub link_front : List ℕ → Option (List ℕ) → ℕ → List ℕ
link_front table part number = codes "link " ++ (table ++ (32 ∷ (part_text part ++ (32 ∷ decimal number))))

-- where it leads, and what it is good for
abbrev pub link_back : List HostEntry → Link → List ℕ
link_back servers link = 32 ∷ (server_text servers link.server ++ (32 ∷ (link.remote ++ (32 ∷ (status_text link.first ++ codes "\n")))))

abbrev pub link_line : List HostEntry → List ℕ → Option (List ℕ) → ℕ → Link → List ℕ
link_line servers table part number link = link_front table part number ++ link_back servers link

-- the lines of links, numbered on from this one
abbrev pub link_lines : List HostEntry → List ℕ → Option (List ℕ) → ℕ → List Link → List ℕ
link_lines servers table part number [] = []
link_lines servers table part number (link ∷ links) = link_line servers table part number link ++ link_lines servers table part (number + 1) links

abbrev pub part_lines : List HostEntry → List ℕ → List Part → List ℕ
part_lines servers table [] = []
part_lines servers table (part ∷ parts) = link_lines servers table part.name 0 part.links ++ part_lines servers table parts

abbrev pub table_lines : List HostEntry → List Table → List ℕ
table_lines servers [] = []
table_lines servers (table ∷ tables) = part_lines servers table.def.name table.parts ++ table_lines servers tables

-- a line for each link, and then `ok`
abbrev pub links_text : View → List ℕ
links_text catalog = table_lines catalog.servers catalog.tables ++ codes "ok\n"

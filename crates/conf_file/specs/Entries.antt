-- The entries of a file, read off its tree. Where a needed value is missing or a value has another type, something else stands in its place, so this is
-- meant of trees whose keys are right.
use Rattle.std.specs.Prelude.{ℕ, ℤ, unsigned_abs, if◌then◌else◌, [], map, codes}
use Rattle.std.specs.List.{filter_map}
use Rattle.std.specs.Option.{option_map, option_map_or, option_and_then, unwrap_or}
use Rattle.toml.specs.Data.{Members, no_members, get_member, as_str, as_integer}
use Rattle.conf_file.specs.declared.entries.ConfFile.{ConfFile}
use Rattle.conf_file.specs.declared.entries.FrontEntry.{FrontEntry}
use Rattle.conf_file.specs.declared.entries.UserEntry.{UserEntry}
use Rattle.conf_file.specs.declared.entries.HostEntry.{HostEntry}
use Rattle.conf_file.specs.declared.entries.TableEntry.{TableEntry}
use Rattle.conf_file.specs.declared.entries.PartEntry.{PartEntry}
use Rattle.conf_file.specs.Sections.{bound_of, is_batch_size}
use Rattle.conf_file.specs.Trees.{text_at, needed_text, values_at, table_at, tables_at}

-- the size of batches that a number asks for
abbrev pub batch_size : ℤ → ℕ
batch_size number = if is_batch_size number then unsigned_abs number else 1000

abbrev pub user_of : Members → UserEntry
user_of members = record { name = needed_text (codes "name") members; password = needed_text (codes "password") members }

abbrev pub host_of : Members → HostEntry
host_of members = record { name = needed_text (codes "name") members; address = needed_text (codes "address") members }

abbrev pub part_of : Members → PartEntry
part_of members = record {
  name = needed_text (codes "name") members;
  comment = text_at (codes "comment") members;
  less_than = option_and_then bound_of (get_member (codes "less_than") members);
  in_list = option_map (filter_map as_integer) (values_at (codes "in_list") members);
}

abbrev pub table_of : Members → TableEntry
table_of members = record {
  name = needed_text (codes "name") members;
  columns = filter_map as_str (unwrap_or (values_at (codes "columns") members) []);
  key = needed_text (codes "key") members;
  comment = text_at (codes "comment") members;
  partition = text_at (codes "partition") members;
  parts = map part_of (tables_at (codes "part") members);
}

abbrev pub front_of : Members → FrontEntry
front_of members = record {
  name = needed_text (codes "name") members;
  listen = needed_text (codes "listen") members;
  user = needed_text (codes "user") members;
  password = needed_text (codes "password") members;
  copy_batch = option_map_or batch_size (option_and_then as_integer (get_member (codes "copy_batch") members)) 1000;
}

-- the entries of the file that has this tree
abbrev pub file_of : Members → ConfFile
file_of tree = record {
  front = front_of (unwrap_or (table_at (codes "front") tree) no_members);
  users = map user_of (tables_at (codes "user") tree);
  servers = map host_of (tables_at (codes "server") tree);
  monitors = map host_of (tables_at (codes "monitor") tree);
  tables = map table_of (tables_at (codes "table") tree);
}

-- The rules of names: each is one, and none is taken.
use Rattle.std.specs.Prelude.{ℕ, Bool, false, not, ◌&&◌, ◌||◌, if◌then◌else◌, List, [], ◌∷◌, map, codes, Option, Some, None}
use Rattle.std.specs.List.{list_any, filter_map}
use Rattle.std.specs.Option.{option_or}
use Rattle.sql_values.specs.Names.{is_name}
use Rattle.conf_file.specs.declared.entries.ConfFile.{ConfFile}
use Rattle.conf_file.specs.declared.entries.UserEntry.{UserEntry}
use Rattle.conf_file.specs.declared.entries.HostEntry.{HostEntry}
use Rattle.conf_file.specs.declared.entries.TableEntry.{TableEntry}
use Rattle.conf_file.specs.declared.entries.PartEntry.{PartEntry}
use Rattle.conf_file.specs.declared.fault.FileFault.{FileFault}
use Rattle.conf_file.specs.declared.fault.FileFault.TheVariants.{BadName, BadStored}
use Rattle.conf_file.specs.Columns.{column_name}
use Rattle.conf_file.specs.Keys.{first_some}
use Rattle.conf_file.specs.Texts.{is_same, is_short_name, is_stored_form}

-- a bad name, unless it is a good one
abbrev pub unless_good : Bool → List ℕ → Option FileFault
unless_good good name = if good then None else Some (BadName name)

-- a user has this name
abbrev pub is_user : List UserEntry → List ℕ → Bool
is_user users name = list_any (λ (user : UserEntry). is_same user.name name) users

-- the front's name, and the user as which it logs in, who is one of the file's
abbrev pub front_fault : ConfFile → Option FileFault
front_fault file =
    option_or (unless_good (is_short_name file.front.name) file.front.name)
    (unless_good (is_user file.users file.front.user) file.front.user)

-- a user's password that is no stored form
abbrev pub stored_fault : UserEntry → Option FileFault
stored_fault user = if is_stored_form user.password then None else Some (BadStored user.name)

abbrev pub user_fault : UserEntry → Option FileFault
user_fault user = option_or (unless_good (is_name user.name) user.name) (stored_fault user)

-- no server is named as the front is in a transaction's history
abbrev pub server_fault : HostEntry → Option FileFault
server_fault server = unless_good (is_short_name server.name && not (is_same server.name (codes "front"))) server.name

abbrev pub monitor_fault : HostEntry → Option FileFault
monitor_fault monitor = unless_good (is_short_name monitor.name) monitor.name

abbrev pub table_fault : TableEntry → Option FileFault
table_fault table = unless_good (is_name table.name) table.name

abbrev pub part_fault : PartEntry → Option FileFault
part_fault part = unless_good (is_name part.name) part.name

abbrev pub parts_fault : TableEntry → Option FileFault
parts_fault table = first_some part_fault table.parts

-- the first name that isn't one, or password that is no stored form, in the order of entries and keys
unfoldable pub bad_name : ConfFile → Option FileFault
bad_name file =
    option_or (front_fault file) (option_or (first_some user_fault file.users) (option_or (first_some server_fault file.servers)
    (option_or (first_some monitor_fault file.monitors) (option_or (first_some table_fault file.tables) (first_some parts_fault file.tables)))))

-- no name is taken
abbrev pub all_free : List ℕ → Bool
all_free name = false

-- the names that are taken, and this one
abbrev pub with_name : List ℕ → (List ℕ → Bool) → List ℕ → Bool
with_name name taken other = is_same name other || taken other

-- the first name that is taken when those before it are too
abbrev pub first_taken : (List ℕ → Bool) → List (List ℕ) → Option (List ℕ)
first_taken taken [] = None
first_taken taken (name ∷ names) = if taken name then Some name else first_taken (with_name name taken) names

-- the names of the columns whose texts are columns
abbrev pub column_names : List (List ℕ) → List (List ℕ)
column_names texts = filter_map column_name texts

-- the first table whose name is taken, or the first of its columns, or what is found in the tables after it
abbrev pub taken_in_tables : (List ℕ → Bool) → List TableEntry → Option (List ℕ)
taken_in_tables taken [] = None
taken_in_tables taken (table ∷ tables) =
    if taken table.name then Some table.name
    else option_or (first_taken all_free (column_names table.columns)) (taken_in_tables (with_name table.name taken) tables)

-- the tables that are there without being named
abbrev pub system_tables : List (List ℕ)
system_tables =
    codes "spider_xa" ∷ codes "spider_xa_member" ∷ codes "spider_tables" ∷ codes "spider_link_mon_servers" ∷ codes "spider_link_failed_log" ∷ []

abbrev pub is_among : List (List ℕ) → List ℕ → Bool
is_among names name = list_any (λ each. is_same each name) names

abbrev pub taken_in_parts : TableEntry → Option (List ℕ)
taken_in_parts table = first_taken all_free (map (λ (part : PartEntry). part.name) table.parts)

-- the first user whose name is taken
unfoldable pub taken_in_users : List UserEntry → Option (List ℕ)
taken_in_users users = first_taken all_free (map (λ (user : UserEntry). user.name) users)

-- the first server, or monitor, whose name is taken
unfoldable pub taken_in_hosts : List HostEntry → Option (List ℕ)
taken_in_hosts hosts = first_taken all_free (map (λ (host : HostEntry). host.name) hosts)

-- the first name that is taken: users, servers, monitors, tables, the columns of a table and its parts are six spaces of names
unfoldable pub repeated_name : ConfFile → Option (List ℕ)
repeated_name file =
    option_or (taken_in_users file.users) (option_or (taken_in_hosts file.servers) (option_or (taken_in_hosts file.monitors)
    (option_or (taken_in_tables (is_among system_tables) file.tables) (first_some taken_in_parts file.tables))))

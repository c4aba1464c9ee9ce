-- Look-ups in the tree of a TOML document, which answer nothing where a value is missing or has another type.
use Rattle.std.specs.Prelude.{ℕ, Bool, if◌then◌else◌, List, [], ◌∷◌, Option}
use Rattle.std.specs.List.{list_all, filter_map}
use Rattle.std.specs.Option.{is_some, option_map, option_and_then, unwrap_or}
use Rattle.conf_file.specs.declared.sections.ItemType.{ItemType}
use Rattle.conf_file.specs.declared.sections.ItemType.TheVariants.{Text, Number, Table}
use Rattle.toml.specs.Data.{Data, Items, no_items, item, Members, no_members, member, get_member, as_str, as_integer, as_array, as_table}

-- the values of an array, in order
abbrev pub values_of : Items → List Data
values_of no_items = []
values_of (item value items) = value ∷ values_of items

-- the values of an array, where this is one
abbrev pub values_in : Data → Option (List Data)
values_in value = option_map values_of (as_array value)

-- the text at a key
abbrev pub text_at : List ℕ → Members → Option (List ℕ)
text_at key members = option_and_then as_str (get_member key members)

-- the text at a key that has to be there
abbrev pub needed_text : List ℕ → Members → List ℕ
needed_text key members = unwrap_or (text_at key members) []

-- the values of the array at a key
abbrev pub values_at : List ℕ → Members → Option (List Data)
values_at key members = option_and_then values_in (get_member key members)

-- the table at a key
abbrev pub table_at : List ℕ → Members → Option Members
table_at key members = option_and_then as_table (get_member key members)

-- the value is of this type
abbrev pub is_of : ItemType → Data → Bool
is_of Text value = is_some (as_str value)
is_of Number value = is_some (as_integer value)
is_of Table value = is_some (as_table value)

-- these values, where each of them is a table
abbrev pub if_tables : List Data → List Data
if_tables values = if list_all (is_of Table) values then values else []

-- the tables of the array at a key, which has tables alone
abbrev pub tables_at : List ℕ → Members → List Members
tables_at key members = filter_map as_table (if_tables (unwrap_or (values_at key members) []))

-- the keys of a table, by their bytes
abbrev pub keys : Members → List (List ℕ)
keys no_members = []
keys (member key value members) = key ∷ keys members

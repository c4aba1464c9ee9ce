-- The rules of keys: each that is needed is there, each is one of its section's, and each has a value of its form.
use Rattle.std.specs.Prelude.{ℕ, Bool, false, not, ◌&&◌, ◌++◌, List, [], ◌∷◌, map, codes, Option, None}
use Rattle.std.specs.List.{find, list_any, flat_map}
use Rattle.std.specs.Option.{is_none, option_or, option_map, option_map_or, option_to_list}
use Rattle.toml.specs.Data.{Members, get_member}
use Rattle.conf_file.specs.declared.sections.Section.{Section}
use Rattle.conf_file.specs.declared.sections.Section.TheVariants.{File, Front, User, Host, Table, Part}
use Rattle.conf_file.specs.declared.sections.KeyFault.{KeyFault}
use Rattle.conf_file.specs.declared.sections.KeyFault.TheVariants.{Missing, Unknown, WrongType}
use Rattle.conf_file.specs.Texts.{is_same}
use Rattle.conf_file.specs.Trees.{table_at, tables_at, keys}
use Rattle.conf_file.specs.Sections.{KeyRule, keys_of, cut_of, has_form}

-- the first answer that these give
abbrev pub first_some : {A B : Type 0} → (A → Option B) → List A → Option B
first_some answer [] = None
first_some answer (x ∷ xs) = option_or (answer x) (first_some answer xs)

-- a section of the file with its members
abbrev pub Entry : Type 0
Entry = Section × Members

-- the entries of one section
abbrev pub as_entries : Section → List Members → List Entry
as_entries section tables = map (λ members. (section, members)) tables

-- the partitions of a table, as entries
abbrev pub part_entries : Members → List Entry
part_entries table = as_entries (Part (cut_of table)) (tables_at (codes "part") table)

-- the front's section, where it is one
abbrev pub front_entries : Members → List Entry
front_entries tree = as_entries Front (option_to_list (table_at (codes "front") tree))

-- the sections at a key
abbrev pub section_entries : Section → List ℕ → Members → List Entry
section_entries section key tree = as_entries section (tables_at key tree)

-- the entries of a file: itself, its sections in their order, and the partitions of all tables; values of another type have none
abbrev pub entries_in : Members → List Entry
entries_in tree =
    (File, tree) ∷ (front_entries tree ++ (section_entries User (codes "user") tree ++ (section_entries Host (codes "server") tree ++
    (section_entries Host (codes "monitor") tree ++ (section_entries Table (codes "table") tree ++ flat_map part_entries (tables_at (codes "table") tree))))))

-- the name of the first of these keys that passes a test
abbrev pub first_key : (KeyRule → Bool) → List KeyRule → Option (List ℕ)
first_key test rules = option_map (λ (rule : KeyRule). rule.name) (find test rules)

-- the key has to be there, and isn't
abbrev pub lacks : Members → KeyRule → Bool
lacks members rule = rule.is_needed && is_none (get_member rule.name members)

-- the key is one of the section's
abbrev pub is_known : Section → List ℕ → Bool
is_known section key = list_any (λ (rule : KeyRule). is_same rule.name key) (keys_of section)

-- a value stands at the key, and hasn't its form
abbrev pub is_wrong : Members → KeyRule → Bool
is_wrong members rule = option_map_or (λ value. not (has_form rule.form value)) (get_member rule.name members) false

-- the first key of an entry that breaks a rule
abbrev pub broken_in : KeyFault → Entry → Option (List ℕ)
broken_in Missing (section, members) = first_key (lacks members) (keys_of section)
broken_in Unknown (section, members) = find (λ key. not (is_known section key)) (keys members)
broken_in WrongType (section, members) = first_key (is_wrong members) (keys_of section)

-- the first key that is needed and isn't there
unfoldable pub missing_key : Members → Option (List ℕ)
missing_key tree = first_some (broken_in Missing) (entries_in tree)

-- the first key that isn't among those of its section
unfoldable pub unknown_key : Members → Option (List ℕ)
unknown_key tree = first_some (broken_in Unknown) (entries_in tree)

-- the first key whose value has another form
unfoldable pub wrong_type : Members → Option (List ℕ)
wrong_type tree = first_some (broken_in WrongType) (entries_in tree)

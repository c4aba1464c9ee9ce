-- The first answer of a list in parts.
use Rattle.std.proofs.Common.{◌≡◌, ℕ, List, [], ◌∷◌, ◌++◌, Option, Some, None, codes, refl, sym, ap, ◌∙◌}
use Rattle.std.specs.List.{flat_map, filter_map, cons_option}
use Rattle.std.specs.Option.{option_or, option_and_then}
use Rattle.toml.specs.Data.{Data, Members, as_table}
use Rattle.conf_file.specs.declared.sections.Section.TheVariants.{User, Host, Table}
use Rattle.conf_file.specs.declared.sections.KeyFault.{KeyFault}
use Rattle.conf_file.specs.Shown.{broken_in_parts, broken_by_section}
use Rattle.conf_file.specs.Keys.{Entry, broken_in, first_some, entries_in, front_entries, section_entries, part_entries}

or_or : {B : Type 0} (a b c : Option B) → option_or a (option_or b c) ≡ option_or (option_or a b) c
or_or None b c = refl
or_or (Some x) b c = refl

-- the first answer of two lists in a row
pub first_some_append : {A B : Type 0} (answer : A → Option B) (xs ys : List A) → first_some answer (xs ++ ys) ≡ option_or (first_some answer xs) (first_some answer ys)
first_some_append answer [] ys = refl
first_some_append answer (x ∷ xs) ys = rw (first_some_append answer xs ys) (or_or (answer x) (first_some answer xs) (first_some answer ys))

-- the first answer of a file's entries, section by section
pub first_of_sections : (fault : KeyFault) (tree : Members) → first_some (broken_in fault) (entries_in tree) ≡ broken_by_section fault tree
first_of_sections fault tree =
    let answer : Entry → Option (List ℕ) = broken_in fault in
    rw (
      first_some_append answer (front_entries tree) _,
      first_some_append answer (section_entries User (codes "user") tree) _,
      first_some_append answer (section_entries Host (codes "server") tree) _,
      first_some_append answer (section_entries Host (codes "monitor") tree) _,
      first_some_append answer (section_entries Table (codes "table") tree) _,
    )

table_first : (fault : KeyFault) (table : Option Members) (more : List Members) →
    first_some (broken_in fault) (flat_map part_entries (cons_option table more)) ≡
    option_or (option_and_then (λ t. first_some (broken_in fault) (part_entries t)) table) (first_some (broken_in fault) (flat_map part_entries more))
table_first fault None more = refl
table_first fault (Some table) more = first_some_append (broken_in fault) (part_entries table) (flat_map part_entries more)

-- the first answer of the partitions of tables
pub first_of_tables : (fault : KeyFault) (values : List Data) →
    first_some (broken_in_parts fault) values ≡ first_some (broken_in fault) (flat_map part_entries (filter_map as_table values))
first_of_tables fault [] = refl
first_of_tables fault (value ∷ values) =
    ap (option_or (broken_in_parts fault value)) (first_of_tables fault values) ∙ sym (table_first fault (as_table value) (filter_map as_table values))

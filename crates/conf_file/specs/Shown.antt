-- What the code's tables stand for.
use Rattle.std.specs.Prelude.{ℕ, List, Option, codes}
use Rattle.std.specs.Borrow.{Bor}
use Rattle.std.specs.List.{flat_map}
use Rattle.std.specs.Option.{option_or, option_and_then}
use Rattle.toml.specs.Data.{Data, Members, as_table}
use Rattle.sql_values.specs.declared.table.ColumnDef.{ColumnDef}
use Rattle.sql_values.specs.declared.table.Kind.{Kind}
use Rattle.conf_file.specs.declared.sections.Key.{Key}
use Rattle.conf_file.specs.declared.sections.Key.TheVariants.{Needed, Optional}
use Rattle.conf_file.specs.declared.sections.KeyFault.{KeyFault}
use Rattle.conf_file.specs.declared.sections.Section.TheVariants.{File, User, Host, Table}
use Rattle.conf_file.specs.Keys.{first_some, broken_in, front_entries, section_entries, part_entries}
use Rattle.conf_file.specs.Trees.{tables_at}
use Rattle.conf_file.specs.Sections.{KeyRule, needed, optional}

-- the rule of keys that a row of the code's tables is
abbrev pub rule_of : Key → KeyRule
rule_of (Needed name form) = needed name.now form
rule_of (Optional name form) = optional name.now form

-- the column that has this name and this type
abbrev pub shown_column : Bor (List ℕ) × Kind → ColumnDef
shown_column (name, kind) = record { name = name.now; kind = kind }

-- the first key that breaks a rule in the partitions of a table
abbrev pub broken_in_parts : KeyFault → Data → Option (List ℕ)
broken_in_parts fault value = option_and_then (λ table. first_some (broken_in fault) (part_entries table)) (as_table value)

-- the first key that breaks a rule, section by section
abbrev pub broken_by_section : KeyFault → Members → Option (List ℕ)
broken_by_section fault tree =
    option_or (broken_in fault (File, tree)) (option_or (first_some (broken_in fault) (front_entries tree))
    (option_or (first_some (broken_in fault) (section_entries User (codes "user") tree)) (option_or (first_some (broken_in fault) (section_entries Host (codes "server") tree))
    (option_or (first_some (broken_in fault) (section_entries Host (codes "monitor") tree)) (option_or (first_some (broken_in fault) (section_entries Table (codes "table") tree))
    (first_some (broken_in fault) (flat_map part_entries (tables_at (codes "table") tree))))))))

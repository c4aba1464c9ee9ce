-- The sections of a configuration file: what keys each has, whether they have to be there, and what stands at them.
use Rattle.std.specs.Prelude.{ℕ, ℤ, pos, int_le, Bool, true, false, ◌&&◌, if◌then◌else◌, List, [], ◌∷◌, codes, Option, Some, None}
use Rattle.std.specs.List.{list_all}
use Rattle.std.specs.Option.{is_some, option_or, option_map, option_map_or, option_and_then}
use Rattle.toml.specs.Data.{Data, Members, as_str, as_integer, as_table}
use Rattle.conf_file.specs.declared.entries.BoundEntry.{BoundEntry}
use Rattle.conf_file.specs.declared.entries.BoundEntry.TheVariants.{Below, MaxValue}
use Rattle.conf_file.specs.declared.sections.Form.{Form}
use Rattle.conf_file.specs.declared.sections.Form.TheVariants as form
use Rattle.conf_file.specs.declared.sections.ItemType.TheVariants as item
use Rattle.conf_file.specs.declared.sections.Section.{Section}
use Rattle.conf_file.specs.declared.sections.Section.TheVariants as section
use Rattle.conf_file.specs.declared.sections.Cut.{Cut}
use Rattle.conf_file.specs.declared.sections.Cut.TheVariants as cut
use Rattle.conf_file.specs.Texts.{is_same, is_address}
use Rattle.conf_file.specs.Trees.{is_of, values_in, text_at}

-- a key of a section: its name, whether it has to be there, and the form of its value
pub record KeyRule : Type 0 where
  pub name : List ℕ
  pub is_needed : Bool
  pub form : Form

abbrev pub needed : List ℕ → Form → KeyRule
needed name form = record { name = name; is_needed = true; form = form }

abbrev pub optional : List ℕ → Form → KeyRule
optional name form = record { name = name; is_needed = false; form = form }

-- the keys of a section, in their order
abbrev pub keys_of : Section → List KeyRule
keys_of section.File =
    needed (codes "front") form.Table ∷ optional (codes "user") (form.ArrayOf item.Table) ∷ optional (codes "server") (form.ArrayOf item.Table) ∷ optional (codes "monitor") (form.ArrayOf item.Table) ∷
    optional (codes "table") (form.ArrayOf item.Table) ∷ []
keys_of section.Front =
    needed (codes "name") form.Text ∷ needed (codes "listen") form.Address ∷ needed (codes "user") form.Text ∷ needed (codes "password") form.Text ∷
    optional (codes "copy_batch") form.BatchSize ∷ []
keys_of section.User = needed (codes "name") form.Text ∷ needed (codes "password") form.Text ∷ []
keys_of section.Host = needed (codes "name") form.Text ∷ needed (codes "address") form.Address ∷ []
keys_of section.Table =
    needed (codes "name") form.Text ∷ needed (codes "columns") (form.ArrayOf item.Text) ∷ needed (codes "key") form.Text ∷ optional (codes "comment") form.Text ∷
    optional (codes "partition") form.Text ∷ optional (codes "part") (form.ArrayOf item.Table) ∷ []
keys_of (section.Part cut.Range) = needed (codes "name") form.Text ∷ optional (codes "comment") form.Text ∷ needed (codes "less_than") form.Bound ∷ []
keys_of (section.Part cut.List) = needed (codes "name") form.Text ∷ optional (codes "comment") form.Text ∷ needed (codes "in_list") (form.ArrayOf item.Number) ∷ []
keys_of (section.Part cut.Hash) = needed (codes "name") form.Text ∷ optional (codes "comment") form.Text ∷ []
keys_of (section.Part cut.Unknown) =
    needed (codes "name") form.Text ∷ optional (codes "comment") form.Text ∷ optional (codes "less_than") form.Bound ∷ optional (codes "in_list") (form.ArrayOf item.Number) ∷ []

-- the cut that a text names
abbrev pub named_cut : List ℕ → Cut
named_cut text =
    if is_same text (codes "RANGE") then cut.Range else if is_same text (codes "LIST") then cut.List else if is_same text (codes "HASH") then cut.Hash else cut.Unknown

-- how a table is cut into partitions, by its text at `partition`
abbrev pub cut_of : Members → Cut
cut_of members = option_map_or named_cut (text_at (codes "partition") members) cut.Unknown

-- the bound that a text names: "MAXVALUE"
abbrev pub named_bound : List ℕ → Option BoundEntry
named_bound text = if is_same text (codes "MAXVALUE") then Some MaxValue else None

-- the bound that a value is: a number, or a text that names one
abbrev pub bound_of : Data → Option BoundEntry
bound_of value = option_or (option_map Below (as_integer value)) (option_and_then named_bound (as_str value))

-- a number of rows that a batch of a copy may have
abbrev pub is_batch_size : ℤ → Bool
is_batch_size number = int_le (pos 1) number && int_le number (pos 1000)

-- the value has this form
abbrev pub has_form : Form → Data → Bool
has_form form.Text value = is_some (as_str value)
has_form form.Address value = option_map_or is_address (as_str value) false
has_form form.BatchSize value = option_map_or is_batch_size (as_integer value) false
has_form form.Bound value = is_some (bound_of value)
has_form form.Table value = is_some (as_table value)
has_form (form.ArrayOf type) value = option_map_or (list_all (is_of type)) (values_in value) false

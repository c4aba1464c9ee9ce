-- How an entry cuts its table into partitions.
use Rattle.std.specs.Prelude.{ℕ, ◌+◌, ◌^◌, ◌==◌, ℤ, Bool, true, false, ◌&&◌, not, List, [], ◌∷◌, Option, Some, None, option_and_then, unwrap_or, if◌then◌else◌, length, map, nat_le, nat_lt, nat_eq, codes}
use Rattle.std.specs.List.{list_all}
use Rattle.std.specs.Option.{option_map, option_eq}
use Rattle.conf_file.specs.declared.entries.BoundEntry.{BoundEntry}
use Rattle.conf_file.specs.declared.entries.BoundEntry.TheVariants as entry
use Rattle.conf_file.specs.declared.entries.PartEntry.{PartEntry}
use Rattle.conf_file.specs.declared.entries.TableEntry.{TableEntry}
use Rattle.part_rules.specs.declared.bounds.Bound.{Bound}
use Rattle.part_rules.specs.declared.bounds.Bound.TheVariants as bound
use Rattle.part_rules.specs.declared.rule.Rule.{Rule}
use Rattle.part_rules.specs.declared.rule.Rule.TheVariants as rule
use Rattle.part_rules.specs.Rules.{is_lower, rises, list_part}
use Rattle.catalog.specs.declared.rules.Cut.{Cut}
use Rattle.catalog.specs.declared.rules.Cut.TheVariants.{Whole, Range, List as ByList, Hash, Unknown}
use Rattle.catalog.specs.Comment.{is_text}
use Rattle.catalog.specs.Searches.{each}

-- the rule that a text names
abbrev pub cut_by : List ℕ → Cut
cut_by text = if is_text (codes "RANGE") text then Range else (if is_text (codes "LIST") text then ByList else (if is_text (codes "HASH") text then Hash else Unknown))

abbrev pub cut_of : Option (List ℕ) → Cut
cut_of None = Whole
cut_of (Some text) = cut_by text

-- partitions can be numbered, and there is one
abbrev pub is_count : ℕ → Bool
is_count count = nat_le 1 count && nat_lt count (2 ^ 32)

abbrev pub bound_by : BoundEntry → Bound
bound_by (entry.Below key) = bound.Below key
bound_by entry.MaxValue = bound.MaxValue

-- where a partition by RANGE ends
abbrev pub bound_of : PartEntry → Option Bound
bound_of part = option_map bound_by part.less_than

-- the keys of a partition by LIST
abbrev pub listed : PartEntry → List ℤ
listed part = unwrap_or part.in_list []

abbrev pub risen : List Bound → Option Rule
risen bounds = if rises bounds then Some (rule.Range bounds) else None

-- the rule of partitions that can be numbered
abbrev pub counted_rule : Cut → List PartEntry → Option Rule
counted_rule Whole parts = None
counted_rule Range parts = option_and_then risen (each bound_of parts)
counted_rule ByList parts = Some (rule.List (map listed parts))
counted_rule Hash parts = Some (rule.Hash (length parts))
counted_rule Unknown parts = None

abbrev pub parted_rule : Cut → List PartEntry → Option Rule
parted_rule cut parts = if is_count (length parts) then counted_rule cut parts else None

abbrev pub rule_by : Cut → List PartEntry → Option Rule
rule_by Whole [] = Some rule.Whole
rule_by Whole (part ∷ parts) = None
rule_by Range parts = parted_rule Range parts
rule_by ByList parts = parted_rule ByList parts
rule_by Hash parts = parted_rule Hash parts
rule_by Unknown parts = None

-- the rule that an entry gives
unfoldable pub rule_of : TableEntry → Option Rule
rule_of table = rule_by (cut_of table.partition) table.parts

-- the bound may follow the one before it
abbrev pub follows : Option Bound → Option Bound → Bool
follows low None = false
follows None (Some b) = true
follows (Some low) (Some b) = is_lower low b

-- the first partition whose bound isn't above the one before it
abbrev pub range_break : Option Bound → List PartEntry → Option (List ℕ)
range_break low [] = None
range_break low (part ∷ parts) = if follows low (bound_of part) then range_break (bound_of part) parts else Some part.name

-- the partition is the first whose list has the key
unfoldable pub is_first : List (List ℤ) → ℕ → ℤ → Bool
is_first lists place key = option_eq nat_eq (list_part lists key) (Some place)

-- the list isn't empty, and has no key of a list before it
abbrev pub is_apart : List (List ℤ) → ℕ → List ℤ → Bool
is_apart lists place keys = not (length keys == 0) && list_all (is_first lists place) keys

-- the first partition from a place on whose list is empty or meets one before it
abbrev pub list_break : List (List ℤ) → ℕ → List PartEntry → Option (List ℕ)
list_break lists place [] = None
list_break lists place (part ∷ parts) = if is_apart lists place (listed part) then list_break lists (place + 1) parts else Some part.name

abbrev pub bounds_break_by : Cut → List PartEntry → Option (List ℕ)
bounds_break_by Whole parts = None
bounds_break_by Range parts = range_break None parts
bounds_break_by ByList parts = if is_count (length parts) then list_break (map listed parts) 0 parts else None
bounds_break_by Hash parts = None
bounds_break_by Unknown parts = None

-- the first partition that breaks the order of the bounds, or that the lists are apart
unfoldable pub bounds_break : TableEntry → Option (List ℕ)
bounds_break table = bounds_break_by (cut_of table.partition) table.parts

-- the rule is none, there are partitions without a rule, or a rule without partitions, or more of them than can be numbered
abbrev pub is_bad_cut : Cut → ℕ → Bool
is_bad_cut Whole parts = not (parts == 0)
is_bad_cut Range parts = not (is_count parts)
is_bad_cut ByList parts = not (is_count parts)
is_bad_cut Hash parts = not (is_count parts)
is_bad_cut Unknown parts = true

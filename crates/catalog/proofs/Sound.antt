-- Tables that are made are sound.
use Rattle.std.proofs.Common.{◌≡◌, ℕ, suc, zero, ◌≤◌, ◌<◌, ◌^◌, true, List, [], ◌∷◌, Some, None, length, map, refl, sym, ap, ◌∙◌, subst, arith, lit<, nat_lt, nat_le, unwrap_or}
use Rattle.std.specs.List.{slice_get}
use Rattle.std.specs.Option.{option_and_then, option_zip}
use Rattle.std.specs.Result.{result_ok}
use Rattle.std.proofs.lemmas.Bool.Decides.{nat_tests}
use Rattle.std.proofs.lemmas.List.{length-map}
use Rattle.std.proofs.lemmas.Option.{same_Some}
use Rattle.sql_values.specs.declared.table.TableDef.{TableDef}
use Rattle.conf_file.specs.declared.entries.PartEntry.{PartEntry}
use Rattle.conf_file.specs.declared.entries.TableEntry.{TableEntry}
use Rattle.part_rules.specs.declared.rule.Rule.{Rule}
use Rattle.part_rules.specs.declared.rule.Rule.TheVariants as rule
use Rattle.part_rules.specs.Placing.{IsRule, part_count}
use Rattle.part_rules.specs.Rules.{rises}
use Rattle.catalog.specs.declared.comment.Comment.{Comment}
use Rattle.catalog.specs.declared.link.Link.{Link}
use Rattle.catalog.specs.declared.rules.Cut.{Cut}
use Rattle.catalog.specs.declared.rules.Cut.TheVariants.{Whole, Range, List as ByList, Hash, Unknown}
use Rattle.catalog.specs.declared.tables.Part.{Part}
use Rattle.catalog.specs.declared.tables.Table.{Table}
use Rattle.catalog.specs.Columns.{def_of}
use Rattle.catalog.specs.Comment.{nothing}
use Rattle.catalog.specs.Links.{links_of, tested, with_servers, are_links, overlaid}
use Rattle.catalog.specs.Rules.{cut_of, is_count, bound_of, listed, risen, counted_rule, parted_rule, rule_by, rule_of}
use Rattle.catalog.specs.Searches.{each, name_of}
use Rattle.catalog.specs.Tables.{said, remote_name, part_with, part_named, part_of, whole_of, parts_by, made, table_with, table_of}
use Rattle.catalog.specs.Views.{IsTable, AreTables}
use Rattle.catalog.proofs.KeyPlaces.{def_keyed}
use Rattle.catalog.proofs.Options.{there, mapped, zipped, chosen, and_true, each_length, each_at}

-- how many partitions entries make
abbrev pub count_of : List PartEntry → ℕ
count_of [] = 1
count_of (part ∷ parts) = length (part ∷ parts)

count_same : (parts : List PartEntry) → 1 ≤ length parts → count_of parts ≡ length parts
count_same [] h = absurd (omega arith)
count_same (part ∷ parts) h = refl

pub record Counts (r : Rule) (n : ℕ) : Type 0 where
  pub rule : IsRule r
  pub count : part_count r ≡ n

pub numbers : (n : ℕ) → is_count n ≡ true → (1 ≤ n) × (n < 2 ^ 32)
numbers n h =
    let both = and_true (nat_le 1 n) (nat_lt n (2 ^ 32)) h in
    (grind (arith, nat_tests), grind (arith, nat_tests))

counted_as : (r : Rule) (n : ℕ) → part_count r ≡ n → (1 ≤ n) × (n < 2 ^ 32) → Counts r n
counted_as r n is h = record { rule = subst (λ (m : ℕ). (1 ≤ m) × (m < 2 ^ 32)) (sym is) h; count = is }

counted_parts : (cut : Cut) (parts : List PartEntry) (r : Rule) → counted_rule cut parts ≡ Some r → part_count r ≡ length parts
counted_parts Whole parts r h = absurd (cc)
counted_parts Range parts r h =
    let read = there risen (each bound_of parts) r h in
    let up = chosen (rises read.at) (Some (rule.Range read.at)) r read.gives in
    sym (ap part_count (same_Some (rule.Range read.at) r up.1)) ∙ each_length bound_of parts read.at read.is
counted_parts ByList parts r h = sym (ap part_count (same_Some (rule.List (map listed parts)) r h)) ∙ length-map parts listed
counted_parts Hash parts r h = sym (ap part_count (same_Some (rule.Hash (length parts)) r h))
counted_parts Unknown parts r h = absurd (cc)

parted : (cut : Cut) (parts : List PartEntry) (r : Rule) → parted_rule cut parts ≡ Some r → Counts r (count_of parts)
parted cut parts r h =
    let found = chosen (is_count (length parts)) (counted_rule cut parts) r h in
    let n = numbers (length parts) found.0 in
    subst (λ (m : ℕ). Counts r m) (sym (count_same parts n.0)) (counted_as r (length parts) (counted_parts cut parts r found.1) n)

counts_by : (cut : Cut) (parts : List PartEntry) (r : Rule) → rule_by cut parts ≡ Some r → Counts r (count_of parts)
counts_by Whole [] r h = subst (λ (x : Rule). Counts x 1) (same_Some rule.Whole r h) (record { rule = (omega arith, lit< tt); count = refl })
counts_by Whole (part ∷ parts) r h = absurd (cc)
counts_by Range parts r h = parted Range parts r h
counts_by ByList parts r h = parted ByList parts r h
counts_by Hash parts r h = parted Hash parts r h
counts_by Unknown parts r h = absurd (cc)

pub rule_counts : (table : TableEntry) (r : Rule) → rule_of table ≡ Some r → Counts r (count_of table.parts)
unfolding rule_of
rule_counts table r h = counts_by (cut_of table.partition) table.parts r h

pub links_sound : (servers : List (List ℕ)) (default : List ℕ) (comment : Comment) (links : List Link) → links_of servers default comment ≡ Some links → are_links (length servers) links ≡ true
unfolding links_of
links_sound servers default comment links h =
    let names = unwrap_or comment.servers [] in
    let few = chosen (nat_le (length names) 4) (option_and_then (tested (length servers)) (with_servers servers default comment names)) links h in
    let read = there (tested (length servers)) (with_servers servers default comment names) links few.1 in
    let test = chosen (are_links (length servers) read.at) (Some read.at) links read.gives in
    subst (λ (l : List Link). are_links (length servers) l ≡ true) (same_Some read.at links test.1) test.0

abbrev AreSound : ℕ → List Part → Type 0
AreSound servers parts = (p : ℕ) (part : Part) → slice_get parts p ≡ Some part → are_links servers part.links ≡ true

pub record Parts (servers n : ℕ) (parts : List Part) : Type 0 where
  pub count : length parts ≡ n
  pub links : AreSound servers parts

one_sound : (servers : ℕ) (links : List Link) → are_links servers links ≡ true → AreSound servers (record { name = None; links = links } ∷ [])
one_sound servers links h zero part at = subst (λ (x : Part). are_links servers x.links ≡ true) (same_Some (record { name = None; links = links }) part at) h
one_sound servers links h (suc p) part at = absurd (cc)

whole_sound : (servers : List (List ℕ)) (table : List ℕ) (own : Comment) (parts : List Part) → whole_of servers table own ≡ Some parts → Parts (length servers) 1 parts
unfolding whole_of
whole_sound servers table own parts h =
    let read = mapped (λ (links : List Link). record { name = None; links = links } ∷ []) (links_of servers table (overlaid own nothing)) parts h in
    let one : Parts (length servers) 1 (record { name = None; links = read.at } ∷ []) =
    record { count = refl; links = one_sound (length servers) read.at (links_sound servers table (overlaid own nothing) read.at read.is) } in
    subst (λ (l : List Part). Parts (length servers) 1 l) read.gives one

part_sound : (servers : List (List ℕ)) (table : List ℕ) (own : Comment) (entry : PartEntry) (part : Part) → part_of servers table own entry ≡ Some part → are_links (length servers) part.links ≡ true
unfolding part_of
part_sound servers table own entry part h =
    let named = there (part_named servers table own entry) (name_of entry.name) part h in
    let read = there (part_with servers table own named.at) (result_ok (said entry.comment)) part named.gives in
    let linked = mapped (λ (links : List Link). record { name = Some named.at; links = links }) (links_of servers (remote_name table named.at) (overlaid own read.at)) part read.gives in
    subst (λ (x : Part). are_links (length servers) x.links ≡ true) linked.gives (links_sound servers (remote_name table named.at) (overlaid own read.at) linked.at linked.is)

parts_sound : (servers : List (List ℕ)) (table : List ℕ) (own : Comment) (entries : List PartEntry) (parts : List Part) → parts_by servers table own entries ≡ Some parts → Parts (length servers) (count_of entries) parts
parts_sound servers table own [] parts h = whole_sound servers table own parts h
parts_sound servers table own (e ∷ es) parts h = record {
  count = each_length (part_of servers table own) (e ∷ es) parts h;
  links = λ p part at.
      let from = each_at (part_of servers table own) (e ∷ es) parts p part h at in
      part_sound servers table own from.at part from.gives;
}

made_sound : (servers : ℕ) (pieces : TableDef × (Rule × List Part)) (t : Table) → made pieces ≡ t → IsTable servers (made pieces) → IsTable servers t
made_sound servers pieces t is h = subst (λ (x : Table). IsTable servers x) is h

pub table_sound : (servers : List (List ℕ)) (entry : TableEntry) (table : Table) → table_of servers entry ≡ Some table → IsTable (length servers) table
unfolding table_of
table_sound servers entry table h =
    let own = there (table_with servers entry) (result_ok (said entry.comment)) table h in
    let all = mapped made (option_zip (def_of entry) (option_zip (rule_of entry) (parts_by servers entry.name own.at entry.parts))) table own.gives in
    let pieces = all.at in
    let two = zipped (def_of entry) (option_zip (rule_of entry) (parts_by servers entry.name own.at entry.parts)) pieces all.is in
    let three = zipped (rule_of entry) (parts_by servers entry.name own.at entry.parts) pieces.1 two.1 in
    let key = def_keyed entry pieces.0 two.0 in
    let counts = rule_counts entry pieces.1.0 three.0 in
    let parts = parts_sound servers entry.name own.at entry.parts pieces.1.1 three.1 in
    made_sound (length servers) pieces table all.gives (record {
      key_within = key.within;
      key = key.kind;
      own_name = key.own_name;
      rule = counts.rule;
      parts = parts.count ∙ sym counts.count;
      links = parts.links;
    })

pub tables_sound : (servers : List (List ℕ)) (entries : List TableEntry) (tables : List Table) → each (table_of servers) entries ≡ Some tables → AreTables (length servers) tables
tables_sound servers entries tables h t table at =
    let from = each_at (table_of servers) entries tables t table h at in
    table_sound servers from.at table from.gives

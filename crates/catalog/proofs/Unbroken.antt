-- Entries that break no rule give their tables.
use Rattle.std.proofs.Common.{◌≡◌, ℕ, suc, Bool, true, false, cond, not, List, [], ◌∷◌, Option, Some, None, Result, Ok, Err, length, refl, sym, ap, ◌∙◌, arith, eqb, codes}
use Rattle.std.specs.Option.{option_and_then, option_map, option_zip, is_some}
use Rattle.std.specs.Result.{result_ok}
use Rattle.std.proofs.lemmas.Bool.{eqb-true}
use Rattle.sql_values.specs.Names.{is_name}
use Rattle.conf_file.specs.declared.entries.PartEntry.{PartEntry}
use Rattle.conf_file.specs.declared.entries.TableEntry.{TableEntry}
use Rattle.part_rules.specs.declared.bounds.Bound.{Bound}
use Rattle.part_rules.specs.declared.rule.Rule.TheVariants as rule
use Rattle.part_rules.specs.Rules.{rises, rises_above}
use Rattle.catalog.specs.declared.checks.Check.{Check}
use Rattle.catalog.specs.declared.checks.Check.TheVariants as check
use Rattle.catalog.specs.declared.comment.Comment.{Comment}
use Rattle.catalog.specs.declared.fault.CatalogFault.{CatalogFault}
use Rattle.catalog.specs.declared.fault.CatalogFault.TheVariants.{BadName, BadKey, BadBounds, BadPartition, BadLinks}
use Rattle.catalog.specs.declared.link.Link.{Link}
use Rattle.catalog.specs.declared.rules.Cut.{Cut}
use Rattle.catalog.specs.declared.rules.Cut.TheVariants.{Whole, Range, List as ByList, Hash, Unknown}
use Rattle.catalog.specs.Broken.{unnamed, bad_part_name, bad_name, bad_key, form_fault, comment_fault, itself, bad_comment, part_comment_fault, bad_part_comment, links_fault, own_links_fault, is_whole, bad_links, part_links_by, part_links_fault, parts_links_fault, bad_part_links, bad_bounds, bad_partition, breaks, broken_by, all_rules}
use Rattle.catalog.specs.Columns.{columns_of, key_of, key_place, keyed, defined, def_of}
use Rattle.catalog.specs.Comment.{comment_at, nothing, is_text}
use Rattle.catalog.specs.Links.{links_of, overlaid}
use Rattle.catalog.specs.Rules.{cut_by, cut_of, is_count, bound_of, risen, counted_rule, parted_rule, rule_by, rule_of, follows, range_break, bounds_break_by, bounds_break, is_bad_cut}
use Rattle.catalog.specs.Searches.{each, put, first, name_of}
use Rattle.catalog.specs.Tables.{said, remote_name, part_with, part_named, part_of, whole_of, parts_by, made, table_with, table_of}
use Rattle.catalog.proofs.Options.{there, IsThere, some_of, untold, not_told, neither, each_there, none_at}

-- COMMENTS AND NAMES

form_there : (table part : List ℕ) (size : ℕ) (read : Result Comment ℕ) → form_fault table part size read ≡ None → IsThere (result_ok read)
form_there table part size (Ok comment) h = record { at = comment; is = refl }
form_there table part size (Err left) h = absurd (cc)

pub comment_there : (table part : List ℕ) (comment : Option (List ℕ)) → comment_fault table part comment ≡ None → IsThere (result_ok (said comment))
comment_there table part None h = record { at = nothing; is = refl }
comment_there table part (Some text) h = form_there table part (length text) (comment_at text) h

pub name_there : (text : List ℕ) → unnamed text ≡ None → name_of text ≡ Some text
name_there text h = let named : is_name text ≡ true = untold (is_name text) (BadName text) h in rw named refl

-- THE DEFINITION

pub def_there : (table : TableEntry) → unnamed table.name ≡ None → bad_key table ≡ None → IsThere (def_of table)
unfolding bad_key def_of
def_there table named h =
    let key = some_of (key_of table) (untold (is_some (key_of table)) (BadKey table.key) h) in
    let read = there (key_place table.key) (columns_of table) key.at key.is in
    let columns : columns_of table ≡ Some read.at = read.is in
    let place : key_place table.key read.at ≡ Some key.at = read.gives in
    record {
      at = record { name = table.name; columns = read.at; key = key.at };
      is = ap (option_and_then (defined table)) (name_there table.name named)
          ∙ ap (option_and_then (keyed table.name table.key)) columns
          ∙ ap (option_map (λ (k : ℕ). record { name = table.name; columns = read.at; key = k })) place;
    }

-- THE RULE

kept_on : {X : Type 0} (b : Bool) (o : Option X) (fault : X) → cond b o (Some fault) ≡ None → (b ≡ true) × (o ≡ None)
kept_on true o fault h = (refl, h)
kept_on false o fault h = absurd (cc)

abbrev rises_after : Option Bound → List Bound → Bool
rises_after None bounds = rises bounds
rises_after (Some low) bounds = rises_above low bounds

record Risen (low : Option Bound) (parts : List PartEntry) : Type 0 where
  bounds : List Bound
  are : each bound_of parts ≡ Some bounds
  rise : rises_after low bounds ≡ true

above : (low : Option Bound) (b : Bound) (bounds : List Bound) → follows low (Some b) ≡ true → rises_above b bounds ≡ true → rises_after low (b ∷ bounds) ≡ true
above None b bounds f r = r
above (Some low) b bounds f r = rw (f, r) refl

risen_more : (low bound : Option Bound) (part : PartEntry) (parts : List PartEntry) → bound_of part ≡ bound → follows low bound ≡ true → Risen bound parts → Risen low (part ∷ parts)
risen_more low None part parts is f rest = absurd (cc)
risen_more low (Some b) part parts is f rest = record {
  bounds = b ∷ rest.bounds;
  are = ap (λ o. put o (each bound_of parts)) is ∙ ap (put (Some b)) rest.are;
  rise = above low b rest.bounds f rest.rise;
}

range_rises : (low : Option Bound) (parts : List PartEntry) → range_break low parts ≡ None → Risen low parts
range_rises None [] h = record { bounds = []; are = refl; rise = refl }
range_rises (Some low) [] h = record { bounds = []; are = refl; rise = refl }
range_rises low (part ∷ parts) h =
    let step = kept_on (follows low (bound_of part)) (range_break (bound_of part) parts) part.name h in
    risen_more low (bound_of part) part parts refl step.0 (range_rises (bound_of part) parts step.1)

not_false : (b : Bool) → not b ≡ false → b ≡ true
not_false true h = refl
not_false false h = absurd (cc)

range_there : (parts : List PartEntry) → Risen None parts → IsThere (counted_rule Range parts)
range_there parts up = record {
  at = rule.Range up.bounds;
  is = ap (option_and_then risen) up.are ∙ (rw up.rise refl);
}

parted_there : (cut : Cut) (parts : List PartEntry) → not (is_count (length parts)) ≡ false → IsThere (counted_rule cut parts) → IsThere (parted_rule cut parts)
parted_there cut parts h found =
    let counted : is_count (length parts) ≡ true = not_false (is_count (length parts)) h in
    record { at = found.at; is = rw counted found.is }

no_parts : (n : ℕ) → not (eqb (suc n) 0) ≡ false → ⊥
no_parts n h = let none : eqb (suc n) 0 ≡ true = not_false (eqb (suc n) 0) h in let e : suc n ≡ 0 = eqb-true (suc n) 0 none in omega arith

rule_there_by : (cut : Cut) (parts : List PartEntry) → is_bad_cut cut (length parts) ≡ false → bounds_break_by cut parts ≡ None → IsThere (rule_by cut parts)
rule_there_by Whole [] bad bounds = record { at = rule.Whole; is = refl }
rule_there_by Whole (part ∷ parts) bad bounds = absurd (no_parts (length parts) bad)
rule_there_by Range parts bad bounds = parted_there Range parts bad (range_there parts (range_rises None parts bounds))
rule_there_by ByList parts bad bounds = parted_there ByList parts bad (record { at = _; is = refl })
rule_there_by Hash parts bad bounds = parted_there Hash parts bad (record { at = _; is = refl })
rule_there_by Unknown parts bad bounds = absurd (cc)

unmapped : {X Y : Type 0} (f : X → Y) (o : Option X) → option_map f o ≡ None → o ≡ None
unmapped f None h = refl
unmapped f (Some x) h = absurd (cc)

pub rule_there : (table : TableEntry) → bad_partition table ≡ None → bad_bounds table ≡ None → IsThere (rule_of table)
unfolding bad_partition bad_bounds bounds_break rule_of
rule_there table h k = rule_there_by (cut_of table.partition) table.parts (not_told (is_bad_cut (cut_of table.partition) (length table.parts)) (BadPartition table.name) h) (unmapped (BadBounds table.name) (bounds_break_by (cut_of table.partition) table.parts) k)

-- THE PARTITIONS

linked_there : (table part : List ℕ) (links : Option (List Link)) → links_fault table part links ≡ None → IsThere links
linked_there table part links h = some_of links (untold (is_some links) (BadLinks table part) h)

whole_there : (servers : List (List ℕ)) (table : List ℕ) (own : Comment) → links_fault table itself (links_of servers table (overlaid own nothing)) ≡ None → IsThere (whole_of servers table own)
unfolding whole_of
whole_there servers table own h =
    let links = linked_there table itself (links_of servers table (overlaid own nothing)) h in
    record { at = _; is = ap (option_map (λ (l : List Link). record { name = None; links = l } ∷ [])) links.is }

part_there : (servers : List (List ℕ)) (table : List ℕ) (own : Comment) (part : PartEntry) → unnamed part.name ≡ None → comment_fault table part.name part.comment ≡ None → part_links_fault servers table own part ≡ None → IsThere (part_of servers table own part)
unfolding part_of
part_there servers table own part named formed linked =
    let comment = comment_there table part.name part.comment formed in
    let fault : links_fault table part.name (links_of servers (remote_name table part.name) (overlaid own comment.at)) ≡ None =
    sym (ap (part_links_by servers table own part.name) comment.is) ∙ linked in
    let links = linked_there table part.name (links_of servers (remote_name table part.name) (overlaid own comment.at)) fault in
    record {
      at = _;
      is = ap (option_and_then (part_named servers table own part)) (name_there part.name named)
          ∙ ap (option_and_then (part_with servers table own part.name)) comment.is
          ∙ ap (option_map (λ (l : List Link). record { name = Some part.name; links = l })) links.is;
    }

bad_without_parts : (a b c : Bool) → is_bad_cut (cond a Range (cond b ByList (cond c Hash Unknown))) 0 ≡ true
bad_without_parts true b c = refl
bad_without_parts false true c = refl
bad_without_parts false false true = refl
bad_without_parts false false false = refl

own_there : (servers : List (List ℕ)) (table : List ℕ) (own : Comment) (partition : Option (List ℕ)) → is_bad_cut (cut_of partition) 0 ≡ false
    → cond (is_whole partition []) (own_links_fault servers table (Some own)) None ≡ None → IsThere (whole_of servers table own)
own_there servers table own None bad h = whole_there servers table own h
own_there servers table own (Some text) bad h =
    absurd (let always : is_bad_cut (cut_by text) 0 ≡ true = bad_without_parts (is_text (codes "RANGE") text) (is_text (codes "LIST") text) (is_text (codes "HASH") text) in
    let e : true ≡ false = sym always ∙ bad in cc)

parts_there : (servers : List (List ℕ)) (table : List ℕ) (own : Comment) (partition : Option (List ℕ)) (parts : List PartEntry) → is_bad_cut (cut_of partition) (length parts) ≡ false
    → cond (is_whole partition parts) (own_links_fault servers table (Some own)) None ≡ None → first bad_part_name parts ≡ None → first (part_comment_fault table) parts ≡ None
    → first (part_links_fault servers table own) parts ≡ None → IsThere (parts_by servers table own parts)
parts_there servers table own partition [] bad whole names comments links = own_there servers table own partition bad whole
parts_there servers table own partition (p ∷ ps) bad whole names comments links =
    each_there (part_of servers table own) (p ∷ ps)
    (λ i part at. part_there servers table own part (none_at bad_part_name (p ∷ ps) i part names at) (none_at (part_comment_fault table) (p ∷ ps) i part comments at) (none_at (part_links_fault servers table own) (p ∷ ps) i part links at))

-- THE TABLES

table_there : (servers : List (List ℕ)) (table : TableEntry) → ((r : Check) → breaks servers r table ≡ None) → IsThere (table_of servers table)
unfolding bad_name bad_comment bad_part_comment bad_links bad_part_links bad_partition table_of
table_there servers table keeps =
    let names = neither (unnamed table.name) (first bad_part_name table.parts) (keeps check.Names) in
    let own = comment_there table.name itself table.comment (keeps check.OwnComment) in
    let def = def_there table names.0 (keeps check.Key) in
    let made_rule = rule_there table (keeps check.Partition) (keeps check.Bounds) in
    let whole : cond (is_whole table.partition table.parts) (own_links_fault servers table.name (Some own.at)) None ≡ None =
    sym (ap (λ (o : Option Comment). cond (is_whole table.partition table.parts) (own_links_fault servers table.name o) None) own.is) ∙ keeps check.OwnLinks in
    let links : first (part_links_fault servers table.name own.at) table.parts ≡ None = sym (ap (parts_links_fault servers table) own.is) ∙ keeps check.PartLinks in
    let bad = not_told (is_bad_cut (cut_of table.partition) (length table.parts)) (BadPartition table.name) (keeps check.Partition) in
    let parts = parts_there servers table.name own.at table.partition table.parts bad whole names.1 (keeps check.PartComments) links in
    record {
      at = made (def.at, (made_rule.at, parts.at));
      is = ap (option_and_then (table_with servers table)) own.is
          ∙ ap (λ o. option_map made (option_zip o (option_zip (rule_of table) (parts_by servers table.name own.at table.parts)))) def.is
          ∙ ap (λ o. option_map made (option_zip (Some def.at) (option_zip o (parts_by servers table.name own.at table.parts)))) made_rule.is
          ∙ ap (λ o. option_map made (option_zip (Some def.at) (option_zip (Some made_rule.at) o))) parts.is;
    }

kept_rule : (f : Check → Option CatalogFault) → first f all_rules ≡ None → (r : Check) → f r ≡ None
kept_rule f h check.Names = none_at f all_rules 0 check.Names h refl
kept_rule f h check.Columns = none_at f all_rules 1 check.Columns h refl
kept_rule f h check.Key = none_at f all_rules 2 check.Key h refl
kept_rule f h check.OwnComment = none_at f all_rules 3 check.OwnComment h refl
kept_rule f h check.PartComments = none_at f all_rules 4 check.PartComments h refl
kept_rule f h check.OwnServers = none_at f all_rules 5 check.OwnServers h refl
kept_rule f h check.PartServers = none_at f all_rules 6 check.PartServers h refl
kept_rule f h check.OwnLinks = none_at f all_rules 7 check.OwnLinks h refl
kept_rule f h check.PartLinks = none_at f all_rules 8 check.PartLinks h refl
kept_rule f h check.Bounds = none_at f all_rules 9 check.Bounds h refl
kept_rule f h check.Partition = none_at f all_rules 10 check.Partition h refl

pub tables_there : (servers : List (List ℕ)) (tables : List TableEntry) → first (broken_by servers tables) all_rules ≡ None → IsThere (each (table_of servers) tables)
unfolding broken_by
tables_there servers tables h =
    each_there (table_of servers) tables
    (λ i table at. table_there servers table (λ r. none_at (breaks servers r) tables i table (kept_rule (λ (c : Check). first (breaks servers c) tables) h r) at))

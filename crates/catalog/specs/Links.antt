-- The links that comments name.
use Rattle.std.specs.Prelude.{ℕ, ◌==◌, Bool, true, false, ◌&&◌, not, List, [], ◌∷◌, Option, Some, None, option_and_then, if◌then◌else◌, length, nat_le, nat_lt, nat_eq, replicate, map, unwrap_or}
use Rattle.std.specs.List.{list_all, list_any}
use Rattle.std.specs.Option.{option_map, option_or}
use Rattle.catalog.specs.declared.comment.Comment.{Comment}
use Rattle.catalog.specs.declared.link.Link.{Link}
use Rattle.catalog.specs.declared.link.Status.{Status}
use Rattle.catalog.specs.declared.link.Status.TheVariants as status
use Rattle.catalog.specs.Index.{place_in}
use Rattle.catalog.specs.Searches.{each, name_of}

-- a partition's comment over its table's: its keys take the place of the table's, key by key
abbrev pub overlaid : Comment → Comment → Comment
overlaid table part = record {
  wrapper = table.wrapper;
  servers = option_or part.servers table.servers;
  remotes = option_or part.remotes table.remotes;
  statuses = option_or part.statuses table.statuses;
  monitored = option_or part.monitored table.monitored;
}

-- one for all of so many, or one for each
abbrev pub spread : {X : Type 0} → ℕ → List X → Option (List X)
spread count [] = None
spread count (x ∷ []) = Some (replicate count x)
spread count (x ∷ y ∷ others) = if length (x ∷ y ∷ others) == count then Some (x ∷ y ∷ others) else None

-- the remote names of so many links: the default, where none are named
abbrev pub remotes_for : List ℕ → ℕ → Option (List (List ℕ)) → Option (List (List ℕ))
remotes_for default count None = option_map (replicate count) (name_of default)
remotes_for default count (Some names) = spread count names

-- the statuses of so many links: OK, where none are named
abbrev pub statuses_for : ℕ → Option (List Status) → Option (List Status)
statuses_for count None = Some (replicate count status.Ok)
statuses_for count (Some statuses) = if length statuses == count then Some statuses else None

-- a link for each server
abbrev pub linked : Bool → List ℕ → List (List ℕ) → List Status → List Link
linked monitored (s ∷ ss) (r ∷ rs) (t ∷ ts) = record { server = s; remote = r; first = t; monitored = monitored } ∷ linked monitored ss rs ts
linked monitored _ _ _ = []

abbrev pub is_ok : Status → Bool
is_ok status.Ok = true
is_ok status.Recovery = false
is_ok status.Ng = false

abbrev pub differ : List ℕ → Bool
differ [] = true
differ (n ∷ ns) = not (list_any (nat_eq n) ns) && differ ns

-- one link to four, on different servers of so many, and one is OK
abbrev pub are_links : ℕ → List Link → Bool
are_links servers links =
    (nat_le 1 (length links) && nat_le (length links) 4) &&
    (differ (map (λ (l : Link). l.server) links) && (list_any (λ (l : Link). is_ok l.first) links && list_all (λ (l : Link). nat_lt l.server servers) links))

abbrev pub tested : ℕ → List Link → Option (List Link)
tested servers links = if are_links servers links then Some links else None

abbrev pub with_statuses : Comment → List ℕ → List (List ℕ) → Option (List Link)
with_statuses comment servers remotes = option_map (linked (unwrap_or comment.monitored true) servers remotes) (statuses_for (length servers) comment.statuses)

abbrev pub with_remotes : List ℕ → Comment → List ℕ → Option (List Link)
with_remotes default comment servers = option_and_then (with_statuses comment servers) (remotes_for default (length servers) comment.remotes)

abbrev pub with_servers : List (List ℕ) → List ℕ → Comment → List (List ℕ) → Option (List Link)
with_servers servers default comment names = option_and_then (with_remotes default comment) (each (place_in servers) names)

-- the links of a comment, over the names of all servers, where a remote table is named so by default; none where they are no links
unfoldable pub links_of : List (List ℕ) → List ℕ → Comment → Option (List Link)
links_of servers default comment =
    let names = unwrap_or comment.servers [] in
    if nat_le (length names) 4 then option_and_then (tested (length servers)) (with_servers servers default comment names) else None

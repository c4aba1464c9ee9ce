-- The links that a statement asks: what they hold, their servers, and the branches there.
use Rattle.std.proofs.Common.{◌≡◌, ℕ, ◌<◌, ◌==◌, ◌&&◌, ◌||◌, nat_lt, nat_le, not, Bool, true, false, List, [], ◌∷◌, ◌++◌, map, set, Option, Some, None, refl, arith, sym, ◌∙◌, ap, subst, inl, inr, cond, find, flat_map, length}
use Rattle.std.specs.Prelude.{slice_get}
use Rattle.std.specs.List.{Contains, range_with_len, list_any, list_all}
use Rattle.std.specs.Option.{option_map_or}
use Rattle.std.proofs.lemmas.Bool.{cases_Bool, false≢true, and_parts}
use Rattle.std.proofs.lemmas.Bool.Decides.{nat_tests}
use Rattle.std.proofs.lemmas.Grind.{flat_map-append}
use Rattle.std.proofs.lemmas.List.Folds.{flat_map-map}
use Rattle.sql_values.specs.declared.places.LockMode.{LockMode}
use Rattle.sql_values.specs.declared.places.LockMode.TheVariants.{Shared, Exclusive}
use Rattle.sql_values.specs.declared.value.Value.{Value}
use Rattle.part_rules.specs.Placing.{part_count}
use Rattle.catalog.specs.declared.link.Link.{Link}
use Rattle.catalog.specs.declared.link.Status.{Status}
use Rattle.catalog.specs.declared.link.Status.TheVariants as status
use Rattle.catalog.specs.declared.tables.Part.{Part}
use Rattle.catalog.specs.declared.tables.Table.{Table}
use Rattle.catalog.specs.Links.{is_ok, are_links, differ}
use Rattle.catalog.specs.Views.{View, IsTable}
use Rattle.sql_text.specs.declared.link.LinkAnswer.{LinkAnswer}
use Rattle.sql_text.specs.declared.statement.TableStatement.{TableStatement}
use Rattle.plain_tables.specs.Partitions.{rows_in}
use Rattle.plain_tables.proofs.Members.{at_front, behind, either, nothing, in_lists, kept_passes, mapped_from}
use Rattle.branch_store.specs.declared.branch.Branch as backend
use Rattle.branch_store.specs.declared.branch.Change.{Change}
use Rattle.branch_store.specs.declared.branch.Stage.{Stage}
use Rattle.branch_store.specs.Changes.{is_called}
use Rattle.branch_store.specs.Store.{Store}
use Rattle.branch_store.specs.Tables as stored
use Rattle.txn_phases.specs.declared.phase.Target.{Target}
use Rattle.txn_phases.specs.Phases.{found_if}
use Rattle.front_core.specs.declared.event.TxNo.{TxNo}
use Rattle.front_core.specs.Asked.{parts_asked, parts_with}
use Rattle.front_core.specs.Jobs.{is_ng, written, links_asked, links_at, target_at, part_targets, targets_of, xid_at, branch_at, servers_of, branches_of}
use Rattle.plain_sessions.specs.Exec.{Tables}
use Rattle.plain_sessions.specs.Held.{CanBeServed, tables_at}
use Rattle.phase_law.proofs.Lists.{is_itself, in_range, get_numbered, set_numbered, gives_once, flat_filter, slice_get_there}
use Rattle.phase_law.proofs.Places.{link_is_found}
use Rattle.phase_law.proofs.Stages.{stores_as, branch_there, holding}

-- LINKS

-- a target is a link of its partition that isn't NG
pub record IsLink (parts : List Part) (t : Target) : Type 0 where
  pub of_part : Part
  pub there : slice_get parts t.part ≡ Some of_part
  pub link : Link
  pub among : Contains of_part.links link
  pub written : is_ng link.first ≡ false
  pub server : t.server ≡ link.server
  pub remote : t.remote ≡ link.remote

written_by : (found : Bool) (link : Link) (links : List Link) (x : Link × Bool) (b : Bool) → is_ng link.first ≡ b
    → ((found : Bool) → Contains (written found links) x → Contains links x.0 × (is_ng x.0.first ≡ false))
    → Contains (cond b (written found links) ((link, not found && is_ok link.first) ∷ written (found || is_ok link.first) links)) x → Contains (link ∷ links) x.0 × (is_ng x.0.first ≡ false)
written_by found link links x true ng rest c = let is = rest found c in (behind link x.0 links is.0, is.1)
written_by found link links x false ng rest c = elim (either (link, not found && is_ok link.first) x (written (found || is_ok link.first) links) c) [
  | inl same ↦
      let link_is : link ≡ x.0 = ap (λ (y : Link × Bool). y.0) same in
      (subst (Contains (link ∷ links)) link_is (at_front link links), subst (λ (l : Link). is_ng l.first ≡ false) link_is ng)
  | inr later ↦ let is = rest (found || is_ok link.first) later in (behind link x.0 links is.0, is.1)
]

written_links : (links : List Link) (x : Link × Bool) (found : Bool) → Contains (written found links) x → Contains links x.0 × (is_ng x.0.first ≡ false)
written_links [] x found c = nothing x c
written_links (link ∷ links) x found c = written_by found link links x (is_ng link.first) refl (written_links links x) c

asked_links : (mode : LockMode) (links : List Link) (x : Link × Bool) → Contains (links_asked mode links) x → Contains links x.0 × (is_ng x.0.first ≡ false)
asked_links Exclusive links x c = written_links links x false c
asked_links Shared links x c = written_links links x false (kept_passes (λ (y : Link × Bool). y.1) (written false links) x c).0

link_at : (parts : List Part) (t : Target) (x : Link × Bool) (o : Option Part) → slice_get parts t.part ≡ o → Contains (option_map_or (λ (p : Part). p.links) o []) x.0 → is_ng x.0.first ≡ false → t.server ≡ x.0.server → t.remote ≡ x.0.remote → IsLink parts t
link_at parts t x None at c ng server remote = nothing x.0 c
link_at parts t x (Some p) at c ng server remote = record { of_part = p; there = at; link = x.0; among = c; written = ng; server = server; remote = remote }

part_link : (mode : LockMode) (parts : List Part) (p : ℕ) (t : Target) → Contains (part_targets mode parts p) t → IsLink parts t × (t.part ≡ p)
part_link mode parts p t c =
    let at = mapped_from (target_at p) (links_asked mode (links_at parts p)) t c in
    let is = asked_links mode (links_at parts p) at.0 at.1 in
    let part_is : t.part ≡ p = ap (λ (u : Target). u.part) (sym at.2) in
    let links : Contains (links_at parts t.part) at.0.0 = subst (λ k. Contains (links_at parts k) at.0.0) (sym part_is) is.0 in
    (link_at parts t at.0 (slice_get parts t.part) refl links is.1 (ap (λ (u : Target). u.server) (sym at.2)) (ap (λ (u : Target). u.remote) (sym at.2)), part_is)

pub targets_are_links : (mode : LockMode) (parts : List Part) (ps : List ℕ) (t : Target) → Contains (targets_of mode parts ps) t → IsLink parts t
targets_are_links mode parts ps t c = let at = in_lists (part_targets mode parts) ps t c in (part_link mode parts at.0 t at.2).0

-- and each is one of a partition that is asked
pub targets_are_asked : (mode : LockMode) (parts : List Part) (ps : List ℕ) (t : Target) → Contains (targets_of mode parts ps) t → Contains ps t.part
targets_are_asked mode parts ps t c = let at = in_lists (part_targets mode parts) ps t c in subst (Contains ps) (sym (part_link mode parts at.0 t at.2).1) at.1

-- the table of a target, found by its name
pub record IsThere (catalog : View) (tables : Tables) (number : ℕ) (table : Table) (t : Target) : Type 0 where
  pub within : t.server < length catalog.servers
  pub found : find (λ (u : stored.Table). is_called t.remote u.def) (tables_at catalog tables t.server)
      ≡ Some (record { def = record table.def { name = t.remote }; rows = rows_in table.def table.rule t.part (tables number) })

-- a link is OK, and each server is one of the configuration's
pub links_tests : (servers : ℕ) (links : List Link) → are_links servers links ≡ true → (list_any (λ (l : Link). is_ok l.first) links ≡ true) × (list_all (λ (l : Link). nat_lt l.server servers) links ≡ true)
links_tests servers links are =
    let few = nat_le 1 (length links) && nat_le (length links) 4 in
    let apart = differ (map (λ (l : Link). l.server) links) in
    let some = list_any (λ (l : Link). is_ok l.first) links in
    let within = list_all (λ (l : Link). nat_lt l.server servers) links in
    and_parts some within (and_parts apart (some && within) (and_parts few (apart && (some && within)) are).1).1

server_within : (servers : ℕ) (links : List Link) (link : Link) → are_links servers links ≡ true → Contains links link → link.server < servers
server_within servers links link are c = below links (links_tests servers links are).1 c
  where
    below : (ls : List Link) → list_all (λ (l : Link). nat_lt l.server servers) ls ≡ true → Contains ls link → link.server < servers
    below [] all c = nothing link c
    below (l ∷ ls) all c =
        let parts = and_parts (nat_lt l.server servers) (list_all (λ (k : Link). nat_lt k.server servers) ls) all in
        elim (either l link ls c) [
          | inl same ↦ let less : nat_lt link.server servers ≡ true = ap (λ (k : Link). nat_lt k.server servers) (sym same) ∙ parts.0 in grind (arith, nat_tests)
          | inr later ↦ below ls parts.1 later
        ]

-- a target's server is one of the configuration's, and its name finds there its partition's rows
pub link_is_there : (catalog : View) (tables : Tables) (number : ℕ) (table : Table) (t : Target) → CanBeServed catalog → slice_get catalog.tables number ≡ Some table → IsLink table.parts t → IsThere catalog tables number table t
link_is_there catalog tables number table t served at is =
    let made : IsTable (length catalog.servers) table = served.tables number table at in
    let below : is.link.server < length catalog.servers = server_within (length catalog.servers) is.of_part.links is.link (made.links t.part is.of_part is.there) is.among in
    let held_with : List (List Value) → Option stored.Table = λ rows. Some (record { def = record table.def { name = is.link.remote }; rows = rows }) in
    let by_link : find (λ (u : stored.Table). is_called is.link.remote u.def) (tables_at catalog tables is.link.server)
    ≡ Some (record { def = record table.def { name = is.link.remote }; rows = rows_in table.def table.rule t.part (tables number) }) =
    link_is_found catalog tables number table t.part is.of_part is.link served at is.there is.among
    ∙ ap (λ (b : Bool). held_with (cond b [] (rows_in table.def table.rule t.part (tables number)))) is.written in
    record {
      within = subst (λ k. k < length catalog.servers) (sym is.server) below;
      found = rw (is.server, is.remote) by_link;
    }

-- BRANCHES

among_servers : (s : ℕ) (targets : List Target) (t : Target) → Contains targets t → t.server ≡ s → list_any (λ (u : Target). u.server == s) targets ≡ true
among_servers s [] t c there = nothing t c
among_servers s (u ∷ targets) t c there = elim (either u t targets c) [
  | inl same ↦
      let here : (u.server == s) ≡ true = ap (λ (v : Target). v.server == s) same ∙ (ap (λ k. k == s) there ∙ is_itself s) in
      rw here refl
  | inr later ↦ let rest = among_servers s targets t later there in by_first (u.server == s) rest
]
  where
    by_first : (b : Bool) {c : Bool} → c ≡ true → (b || c) ≡ true
    by_first true is = refl
    by_first false is = is

-- the branch that a connection has at the server of a target, and no other
abbrev pub branch_of : View → TxNo → ℕ → Stage → List Change → ℕ → backend.Branch
branch_of catalog tx n stage changes s = record { xid = xid_at catalog tx s; stage = stage; owner = n; changes = changes }

pub own_branch : (catalog : View) (tx : TxNo) (targets : List Target) (n : ℕ) (stage : Stage) (changes : ℕ → List Change) (s : ℕ) → s < length catalog.servers → list_any (λ (t : Target). t.server == s) targets ≡ true
    → holding n (branches_of catalog tx targets) stage changes s ≡ branch_of catalog tx n stage (changes s) s ∷ []
own_branch catalog tx targets n stage changes s within there =
    flat_map-map (branch_there n stage (changes s) s) (branch_at catalog tx) (servers_of (length catalog.servers) targets)
    ∙ gives_once (λ server. list_any (λ (t : Target). t.server == server) targets) (branch_of catalog tx n stage (changes s)) s (length catalog.servers) within there

pub target_branch : (catalog : View) (tx : TxNo) (targets : List Target) (n : ℕ) (stage : Stage) (changes : ℕ → List Change) (t : Target) → Contains targets t → t.server < length catalog.servers
    → holding n (branches_of catalog tx targets) stage changes t.server ≡ branch_of catalog tx n stage (changes t.server) t.server ∷ []
target_branch catalog tx targets n stage changes t c within = own_branch catalog tx targets n stage changes t.server within (among_servers t.server targets t c refl)

-- the store of a server
pub store_of : (servers : ℕ) (tables : ℕ → List stored.Table) (branches : ℕ → List backend.Branch) (s : ℕ) → s < servers → slice_get (stores_as servers tables branches) s ≡ Some (record { tables = tables s; branches = branches s })
store_of servers tables branches s within = get_numbered (λ k. record { tables = tables k; branches = branches k }) servers s within

-- and with other branches there
pub store_set : (servers : ℕ) (tables : ℕ → List stored.Table) (branches others : ℕ → List backend.Branch) (s : ℕ) (there : List backend.Branch) → s < servers → others s ≡ there → ((k : ℕ) → (k ≡ s → ⊥) → others k ≡ branches k)
    → set (stores_as servers tables branches) s (record { tables = tables s; branches = there }) ≡ stores_as servers tables others
store_set servers tables branches others s there within here apart =
    let store : ℕ → List backend.Branch → Store = λ k bs. record { tables = tables k; branches = bs } in
    set_numbered (λ k. store k (branches k)) (λ k. store k (others k)) servers s (store s there) within (ap (store s) here) (λ k not. ap (store k) (apart k not))

-- WHICH ROWS COUNT

ng_is_not_ok : (st : Status) → is_ng st ≡ true → is_ok st ≡ false
ng_is_not_ok status.Ok ng = absurd (false≢true ng)
ng_is_not_ok status.Recovery ng = refl
ng_is_not_ok status.Ng ng = refl

rest_any : (a b : Bool) → a ≡ false → (a || b) ≡ true → b ≡ true
rest_any true b is any = absurd (false≢true (sym is))
rest_any false b is any = any

-- the answer of a partition, at each of its links whose answer counts
abbrev counted : LinkAnswer → Link × Bool → List LinkAnswer
counted a x = found_if x.1 a

none_counts : (a : LinkAnswer) (links : List Link) → flat_map (counted a) (written true links) ≡ []
none_counts a [] = refl
none_counts a (link ∷ links) = elim (cases_Bool (is_ng link.first)) [
  | inl ng ↦ rw ng (none_counts a links)
  | inr written_to ↦ rw written_to (none_counts a links)
]

one_counts : (a : LinkAnswer) (links : List Link) → list_any (λ (l : Link). is_ok l.first) links ≡ true → flat_map (counted a) (written false links) ≡ a ∷ []
one_counts a [] any = absurd (false≢true any)
one_counts a (link ∷ links) any = elim (cases_Bool (is_ng link.first)) [
  | inl ng ↦ rw ng (one_counts a links (rest_any (is_ok link.first) (list_any (λ (l : Link). is_ok l.first) links) (ng_is_not_ok link.first ng) any))
  | inr written_to ↦ elim (cases_Bool (is_ok link.first)) [
    | inl ok ↦ rw (written_to, ok) (ap (λ l. a ∷ l) (none_counts a links))
    | inr filled ↦ rw (written_to, filled) (one_counts a links (rest_any (is_ok link.first) (list_any (λ (l : Link). is_ok l.first) links) filled any))
  ]
]

not_counted : (a : LinkAnswer) (x : Link × Bool) → x.1 ≡ false → counted a x ≡ []
not_counted a x out = ap (λ b. found_if b a) out

one_asked : (mode : LockMode) (a : LinkAnswer) (links : List Link) → list_any (λ (l : Link). is_ok l.first) links ≡ true → flat_map (counted a) (links_asked mode links) ≡ a ∷ []
one_asked Exclusive a links any = one_counts a links any
one_asked Shared a links any = flat_filter (λ (x : Link × Bool). x.1) (counted a) (written false links) (λ x c out. not_counted a x out) ∙ one_counts a links any

-- a partition of the table, with its links
pub record HasLinks (servers : ℕ) (parts : List Part) (p : ℕ) : Type 0 where
  pub part : Part
  pub there : slice_get parts p ≡ Some part
  pub links : are_links servers part.links ≡ true

one_in_part : (servers : ℕ) (mode : LockMode) (parts : List Part) (p : ℕ) (f : ℕ → LinkAnswer) → HasLinks servers parts p → flat_map (λ (t : Target). found_if t.counts (f t.part)) (part_targets mode parts p) ≡ f p ∷ []
one_in_part servers mode parts p f has =
    flat_map-map (λ (t : Target). found_if t.counts (f t.part)) (target_at p) (links_asked mode (links_at parts p))
    ∙ (ap (λ (o : Option Part). flat_map (counted (f p)) (links_asked mode (option_map_or (λ (q : Part). q.links) o []))) has.there
    ∙ one_asked mode (f p) has.part.links (links_tests servers has.part.links has.links).0)

-- of each partition the answer of one link counts, in the order of the partitions
pub counting_answers : (servers : ℕ) (mode : LockMode) (parts : List Part) (ps : List ℕ) (f : ℕ → LinkAnswer) → ((p : ℕ) → Contains ps p → HasLinks servers parts p)
    → flat_map (λ (t : Target). found_if t.counts (f t.part)) (targets_of mode parts ps) ≡ map f ps
counting_answers servers mode parts [] f has = refl
counting_answers servers mode parts (p ∷ ps) f has =
    flat_map-append (λ (t : Target). found_if t.counts (f t.part)) (part_targets mode parts p) (targets_of mode parts ps)
    ∙ (ap (λ l. l ++ flat_map (λ (t : Target). found_if t.counts (f t.part)) (targets_of mode parts ps)) (one_in_part servers mode parts p f (has p (at_front p ps)))
    ∙ ap (λ l. f p ∷ l) (counting_answers servers mode parts ps f (λ q c. has q (behind p q ps c))))

-- each partition that is asked is one of the table's
pub parts_have_links : (servers : ℕ) (table : Table) (s : TableStatement) (p : ℕ) → IsTable servers table → Contains (parts_asked table.def table.rule s) p → HasLinks servers table.parts p
unfolding parts_with
parts_have_links servers table s p made c =
    let below = (in_range 0 (part_count table.rule) p (kept_passes _ (range_with_len 0 (part_count table.rule)) p c).0).1 in
    let within : p < length table.parts = omega (arith, made.parts) in
    let at = slice_get_there table.parts p within in
    record { part = at.0; there = at.1; links = made.links p at.0 at.1 }

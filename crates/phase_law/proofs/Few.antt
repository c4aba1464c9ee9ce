-- No phase has too many requests.
use Rattle.std.proofs.Common.{◌≡◌, ◌<◌, ◌≤◌, ◌+◌, ◌*◌, ◌^◌, ℕ, zero, suc, ◌==◌, Bool, true, false, not, ◌||◌, ◌&&◌, List, [], ◌∷◌, Option, Some, None, length, refl, ap, ◌∙◌, arith, cond, eqb-true, length-append, nat_le, slice_get}
use Rattle.std.specs.List.{filter, list_any, range_with_len}
use Rattle.std.specs.Option.{option_map_or}
use Rattle.std.proofs.lemmas.Bool.Decides.{nat_tests}
use Rattle.std.proofs.lemmas.List.{length-map}
use Rattle.std.proofs.lemmas.List.FromFn.{length-range_with_len}
use Rattle.sql_values.specs.declared.places.LockMode.{LockMode}
use Rattle.sql_values.specs.declared.places.LockMode.TheVariants.{Shared, Exclusive}
use Rattle.sql_values.specs.declared.table.TableDef.{TableDef}
use Rattle.sql_text.specs.declared.statement.TableStatement.{TableStatement}
use Rattle.part_rules.specs.declared.rule.Rule.{Rule}
use Rattle.part_rules.specs.Placing.{part_count}
use Rattle.catalog.specs.declared.link.Link.{Link}
use Rattle.catalog.specs.declared.tables.Part.{Part}
use Rattle.catalog.specs.declared.tables.Table.{Table}
use Rattle.catalog.specs.Links.{are_links, is_ok}
use Rattle.catalog.specs.Views.{IsTable, View}
use Rattle.catalog.proofs.Options.{and_true}
use Rattle.stmt_plan.specs.Plans.{keeps_key, mode_of}
use Rattle.plain_tables.specs.Statements.{Writes, Puts, Dels}
use Rattle.txn_phases.specs.declared.phase.Target.{Target}
use Rattle.front_core.specs.declared.event.TxNo.{TxNo}
use Rattle.front_core.specs.Asked.{owns, parts_asked, parts_with, pushed}
use Rattle.front_core.specs.Jobs.{branches_of, is_ng, links_asked, links_at, part_targets, servers_of, target_at, targets_for, targets_of, written}
use Rattle.phase_law.proofs.Writes.{request_of, requests_of}

-- LISTS

module _ {X : Type 0} where
  fewer_by : (b : Bool) (x : X) (xs : List X) (n : ℕ) → length xs ≤ n → length (cond b (x ∷ xs) xs) ≤ suc n
  fewer_by true x xs n few = omega arith
  fewer_by false x xs n few = omega arith

  pub fewer : (p : X → Bool) (xs : List X) → length (filter p xs) ≤ length xs
  fewer p [] = omega arith
  fewer p (x ∷ xs) = fewer_by (p x) x (filter p xs) (length xs) (fewer p xs)

  none_pass : (xs : List X) → filter (λ x. false) xs ≡ []
  none_pass [] = refl
  none_pass (x ∷ xs) = none_pass xs

  either_by : (a b : Bool) (x : X) (both first second : List X) → length both ≤ length first + length second → length (cond (a || b) (x ∷ both) both) ≤ length (cond a (x ∷ first) first) + length (cond b (x ∷ second) second)
  either_by true true x both first second few = omega arith
  either_by true false x both first second few = omega arith
  either_by false true x both first second few = omega arith
  either_by false false x both first second few = few

  either_pass : (p q : X → Bool) (xs : List X) → length (filter (λ x. p x || q x) xs) ≤ length (filter p xs) + length (filter q xs)
  either_pass p q [] = omega arith
  either_pass p q (x ∷ xs) = either_by (p x) (q x) x (filter (λ x. p x || q x) xs) (filter p xs) (filter q xs) (either_pass p q xs)

-- BRANCHES

none_further : (c a n : ℕ) → c < a → filter (λ s. c == s) (range_with_len a n) ≡ []
none_further c a zero below = refl
none_further c a (suc n) below = let other : (c == a) ≡ false = grind (arith, nat_tests) in ap (λ b. cond b (a ∷ filter (λ s. c == s) (range_with_len (a + 1) n)) (filter (λ s. c == s) (range_with_len (a + 1) n))) other ∙ none_further c (a + 1) n (omega arith)

at_most_one : (c a n : ℕ) → length (filter (λ s. c == s) (range_with_len a n)) ≤ 1
at_most_one c a zero = omega arith
at_most_one c a (suc n) = by (c == a) refl (at_most_one c (a + 1) n)
  where
    by : (b : Bool) → (c == a) ≡ b → length (filter (λ s. c == s) (range_with_len (a + 1) n)) ≤ 1 → length (cond b (a ∷ filter (λ s. c == s) (range_with_len (a + 1) n)) (filter (λ s. c == s) (range_with_len (a + 1) n))) ≤ 1
    by true is rest = let same : c ≡ a = eqb-true c a is in let none : length (filter (λ s. c == s) (range_with_len (a + 1) n)) ≡ 0 = ap length (none_further c (a + 1) n (omega arith)) in omega arith
    by false is rest = rest

few_servers : (servers : ℕ) (targets : List Target) → length (servers_of servers targets) ≤ length targets
few_servers servers [] = let none : length (servers_of servers []) ≡ 0 = ap length (none_pass (range_with_len 0 servers)) in omega arith
few_servers servers (t ∷ targets) =
    let split = either_pass (λ s. t.server == s) (λ s. list_any (λ (u : Target). u.server == s) targets) (range_with_len 0 servers) in
    omega (arith, split, at_most_one t.server 0 servers, few_servers servers targets)

-- a branch has a link
pub few_branches : (catalog : View) (tx : TxNo) (targets : List Target) → length (branches_of catalog tx targets) ≤ length targets
few_branches catalog tx targets = rw length-map (few_servers (length catalog.servers) targets)

-- LINKS

few_written : (found : Bool) (links : List Link) → length (written found links) ≤ length links
few_written found [] = omega arith
few_written found (link ∷ links) = by (is_ng link.first) (few_written found links) (few_written (found || is_ok link.first) links)
  where
    by : (b : Bool) → length (written found links) ≤ length links → length (written (found || is_ok link.first) links) ≤ length links
        → length (cond b (written found links) ((link, not found && is_ok link.first) ∷ written (found || is_ok link.first) links)) ≤ suc (length links)
    by true few more = omega arith
    by false few more = omega arith

few_asked : (mode : LockMode) (links : List Link) → length (links_asked mode links) ≤ length links
few_asked Exclusive links = few_written false links
few_asked Shared links = let fewer_still = fewer (λ x. x.1) (written false links) in omega (arith, fewer_still, few_written false links)

four_links : (servers : ℕ) (links : List Link) → are_links servers links ≡ true → length links ≤ 4
four_links servers links are =
    let count = (and_true (nat_le 1 (length links) && nat_le (length links) 4) _ are).0 in
    let most : nat_le (length links) 4 ≡ true = (and_true (nat_le 1 (length links)) (nat_le (length links) 4) count).1 in
    grind (arith, nat_tests)

few_at : (servers : ℕ) (table : Table) → IsTable servers table → (p : ℕ) → length (links_at table.parts p) ≤ 4
few_at servers table sound p = by (slice_get table.parts p) refl
  where
    by : (o : Option Part) → slice_get table.parts p ≡ o → length (option_map_or (λ (part : Part). part.links) o []) ≤ 4
    by None is = omega arith
    by (Some part) is = four_links servers part.links (sound.links p part is)

few_targets : (mode : LockMode) (parts : List Part) (ps : List ℕ) → ((p : ℕ) → length (links_at parts p) ≤ 4) → length (targets_of mode parts ps) ≤ 4 * length ps
few_targets mode parts [] four = omega arith
few_targets mode parts (p ∷ ps) four =
    omega (arith, length-append (part_targets mode parts p) (targets_of mode parts ps), length-map (links_asked mode (links_at parts p)) (target_at p), few_asked mode (links_at parts p), four p, few_targets mode parts ps four)

few_parts : (def : TableDef) (rule : Rule) (s : TableStatement) → length (parts_asked def rule s) ≤ part_count rule
unfolding parts_with
few_parts def rule s = omega (arith, fewer (owns rule (keeps_key def (pushed def s))) (range_with_len 0 (part_count rule)), length-range_with_len 0 (part_count rule))

few_write : (key : List ℕ) (t : Target) (v : Writes) → length (request_of key t v) ≤ 1
few_write key t (Puts []) = omega arith
few_write key t (Puts (row ∷ rows)) = omega arith
few_write key t (Dels []) = omega arith
few_write key t (Dels (k ∷ keys)) = omega arith

-- so are the requests by which rows are written
pub few_writes : (key : List ℕ) (targets : List Target) (w : ℕ → Writes) → length (requests_of key targets w) ≤ length targets
few_writes key [] w = omega arith
few_writes key (t ∷ targets) w = omega (arith, length-append (request_of key t (w t.part)) (requests_of key targets w), few_write key t (w t.part), few_writes key targets w)

-- there are fewer links than a phase may have requests
pub few_links : (servers : ℕ) (table : Table) (s : TableStatement) → IsTable servers table → length (targets_for table s) ≤ 2 ^ 35
few_links servers table s sound =
    let rule = sound.rule in
    let links = few_targets (mode_of s) table.parts (parts_asked table.def table.rule s) (few_at servers table sound) in
    omega (arith, few_parts table.def table.rule s)

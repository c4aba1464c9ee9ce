use Rattle.std.proofs.Common.{◌≡◌, ℕ, ◌+◌, ◌<◌, ℤ, Bool, true, false, cond, ◌||◌, List, length, take, get_or, Some, None, Option, refl, ◌∙◌, subst, inl, inr}
use Rattle.std.specs.Prelude.{is_some}
use Rattle.std.specs.Option.{option_or}
use Rattle.std.specs.Ordering.{int_cmp, int_eq}
use Rattle.std.specs.BTreeMap.{BTreeMap, get}
use Rattle.std.proofs.lemmas.Bool.{both_ways, cases_Bool, cond-true, cond-false}
use Rattle.std.proofs.lemmas.Bool.Decides.{Decides-int_eq}
use Rattle.std.proofs.lemmas.List.Folds.{list_any_more}
use Rattle.part_rules.specs.Rules.{lists_key, list_part}
use Rattle.part_rules.proofs.Positions.{position-more}

-- the map has got the first keys of a list, where it had none before
abbrev pub HasAdded : BTreeMap ℤ ℕ → BTreeMap ℤ ℕ → ℕ → List ℤ → ℕ → Type 0
HasAdded old places part keys i = (q : ℤ) → get int_cmp places q ≡ option_or (get int_cmp old q) (cond (lists_key q (take i keys)) (Some part) None)

-- a key that is there is passed over, whatever it is compared with
kept : (old : Option ℕ) (a b : Bool) (part : ℕ) (place : Option ℕ) → place ≡ option_or old (cond a (Some part) None) → is_some place ≡ true → place ≡ option_or old (cond (a || b) (Some part) None)
kept (Some p) a b part place is there = is
kept None true b part place is there = is
kept None false b part place is there = let gone : is_some place ≡ false = rw is refl in absurd (both_ways (is_some place) gone there)

other : (old : Option ℕ) (a b : Bool) (part : ℕ) (place : Option ℕ) → place ≡ option_or old (cond a (Some part) None) → b ≡ false → place ≡ option_or old (cond (a || b) (Some part) None)
other old true b part place is no_key = is
other old false b part place is no_key = rw no_key is

added : (old : Option ℕ) (a b : Bool) (part : ℕ) (place : Option ℕ) → place ≡ option_or old (cond a (Some part) None) → is_some place ≡ false → b ≡ true → Some part ≡ option_or old (cond (a || b) (Some part) None)
added (Some p) a b part place is gone here = let there : is_some place ≡ true = rw is refl in absurd (both_ways (is_some place) gone there)
added None true b part place is gone here = refl
added None false b part place is gone here = rw here refl

more_keys : (q : ℤ) (keys : List ℤ) (i : ℕ) (d : ℤ) → i < length keys → lists_key q (take (i + 1) keys) ≡ (lists_key q (take i keys) || int_eq (get_or keys i d) q)
more_keys q keys i d within = list_any_more (λ k. int_eq k q) keys i d within

pub HasAdded-there : (old places : BTreeMap ℤ ℕ) (part : ℕ) (keys : List ℤ) (i : ℕ) (d : ℤ) → i < length keys → HasAdded old places part keys i → is_some (get int_cmp places (get_or keys i d)) ≡ true → HasAdded old places part keys (i + 1)
HasAdded-there old places part keys i d within so_far there q =
    rw (more_keys q keys i d within)
    (elim (cases_Bool (int_eq (get_or keys i d) q)) [
      | inl same ↦
          let equal : get_or keys i d ≡ q = (Decides-int_eq (get_or keys i d) q).0 same in
          let there_too : is_some (get int_cmp places q) ≡ true = subst (λ (k : ℤ). is_some (get int_cmp places k) ≡ true) equal there in
          kept (get int_cmp old q) (lists_key q (take i keys)) (int_eq (get_or keys i d) q) part (get int_cmp places q) (so_far q) there_too
      | inr apart ↦ other (get int_cmp old q) (lists_key q (take i keys)) (int_eq (get_or keys i d) q) part (get int_cmp places q) (so_far q) apart
    ])

pub HasAdded-new : (old places grown : BTreeMap ℤ ℕ) (part : ℕ) (keys : List ℤ) (i : ℕ) (d key : ℤ) → i < length keys → key ≡ get_or keys i d → HasAdded old places part keys i → is_some (get int_cmp places (get_or keys i d)) ≡ false → ((q : ℤ) → get int_cmp grown q ≡ cond (int_eq key q) (Some part) (get int_cmp places q)) → HasAdded old grown part keys (i + 1)
HasAdded-new old places grown part keys i d key within is_key so_far gone grows_at q =
    let grows : (q : ℤ) → get int_cmp grown q ≡ cond (int_eq (get_or keys i d) q) (Some part) (get int_cmp places q) =
    subst (λ (k : ℤ). (q : ℤ) → get int_cmp grown q ≡ cond (int_eq k q) (Some part) (get int_cmp places q)) is_key grows_at in
    rw (more_keys q keys i d within)
    (elim (cases_Bool (int_eq (get_or keys i d) q)) [
      | inl same ↦
          let equal : get_or keys i d ≡ q = (Decides-int_eq (get_or keys i d) q).0 same in
          let gone_too : is_some (get int_cmp places q) ≡ false = subst (λ (k : ℤ). is_some (get int_cmp places k) ≡ false) equal gone in
          grows q ∙ cond-true (int_eq (get_or keys i d) q) (Some part) (get int_cmp places q) same
          ∙ added (get int_cmp old q) (lists_key q (take i keys)) (int_eq (get_or keys i d) q) part (get int_cmp places q) (so_far q) gone_too same
      | inr apart ↦
          grows q ∙ cond-false (int_eq (get_or keys i d) q) (Some part) (get int_cmp places q) apart
          ∙ other (get int_cmp old q) (lists_key q (take i keys)) (int_eq (get_or keys i d) q) part (get int_cmp places q) (so_far q) apart
    ])

-- the index of the first lists, and of one more
pub indexed-more : (lists : List (List ℤ)) (i : ℕ) (d list : List ℤ) (old new : BTreeMap ℤ ℕ) → i < length lists → list ≡ get_or lists i d → ((key : ℤ) → get int_cmp old key ≡ list_part (take i lists) key) → ((key : ℤ) → get int_cmp new key ≡ option_or (get int_cmp old key) (cond (lists_key key list) (Some i) None)) → (key : ℤ) → get int_cmp new key ≡ list_part (take (i + 1) lists) key
indexed-more lists i d list old new within is_list so_far grown key =
    let here : get int_cmp new key ≡ option_or (get int_cmp old key) (cond (lists_key key (get_or lists i d)) (Some i) None) =
    subst (λ (l : List ℤ). get int_cmp new key ≡ option_or (get int_cmp old key) (cond (lists_key key l) (Some i) None)) is_list (grown key) in
    rw (position-more (lists_key key) lists i d within)
    (subst (λ (o : Option ℕ). get int_cmp new key ≡ option_or o (cond (lists_key key (get_or lists i d)) (Some i) None)) (so_far key) here)

-- An index of names grows by one name.
use Rattle.std.proofs.Common.{◌≡◌, ℕ, ◌+◌, ◌<◌, Bool, true, false, cond, List, [], Option, Some, None, length, take, get_or, sym, refl, ◌∙◌, subst, nat_eq}
use Rattle.std.specs.Prelude.{is_some}
use Rattle.std.specs.Option.{option_or}
use Rattle.std.specs.Cmp.Lexicographic.{pointwise}
use Rattle.std.proofs.lemmas.Slice.Eq.{bytes_eq-Decides}
use Rattle.catalog.specs.Index.{place_in}
use Rattle.part_rules.proofs.Positions.{position-more}

pub place_more : (names : List (List ℕ)) (i : ℕ) (q : List ℕ) → i < length names → place_in (take (i + 1) names) q ≡ option_or (place_in (take i names) q) (cond (pointwise nat_eq (get_or names i []) q) (Some i) None)
place_more names i q within = position-more (λ (n : List ℕ). pointwise nat_eq n q) names i [] within

passed : (found : Option ℕ) (same : Bool) (i : ℕ) → (same ≡ true → is_some found ≡ true) → found ≡ option_or found (cond same (Some i) None)
passed (Some p) same i there = refl
passed None false i there = refl
passed None true i there = absurd (let gone : false ≡ true = there refl in cc)

-- the name is there already
pub kept : (names : List (List ℕ)) (i : ℕ) (name : List ℕ) (look : List ℕ → Option ℕ) → i < length names → name ≡ get_or names i [] → ((q : List ℕ) → look q ≡ place_in (take i names) q) → is_some (look name) ≡ true → (q : List ℕ) → look q ≡ place_in (take (i + 1) names) q
kept names i name look within is so_far there q =
    let same_name : pointwise nat_eq name q ≡ true → is_some (look q) ≡ true = λ e. subst (λ (n : List ℕ). is_some (look n) ≡ true) ((bytes_eq-Decides name q).0 e) there in
    rw (place_more names i q within)
    (rw (sym is) (rw (sym (so_far q)) (passed (look q) (pointwise nat_eq name q) i same_name)))

put_first : (found : Option ℕ) (same : Bool) (i : ℕ) → (same ≡ true → is_some found ≡ false) → cond same (Some i) found ≡ option_or found (cond same (Some i) None)
put_first None true i gone = refl
put_first None false i gone = refl
put_first (Some p) false i gone = refl
put_first (Some p) true i gone = absurd (let there : true ≡ false = gone refl in cc)

-- the name is put in
pub added : (names : List (List ℕ)) (i : ℕ) (name : List ℕ) (look grown : List ℕ → Option ℕ) → i < length names → name ≡ get_or names i [] → ((q : List ℕ) → look q ≡ place_in (take i names) q) → is_some (look name) ≡ false
    → ((q : List ℕ) → grown q ≡ cond (pointwise nat_eq name q) (Some i) (look q)) → (q : List ℕ) → grown q ≡ place_in (take (i + 1) names) q
added names i name look grown within is so_far gone grows q =
    let not_there : pointwise nat_eq name q ≡ true → is_some (look q) ≡ false = λ e. subst (λ (n : List ℕ). is_some (look n) ≡ false) ((bytes_eq-Decides name q).0 e) gone in
    rw (place_more names i q within)
    (rw (sym is) (rw (sym (so_far q)) (grows q ∙ put_first (look q) (pointwise nat_eq name q) i not_there)))

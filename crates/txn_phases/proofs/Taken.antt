-- The first new key that is taken, key by key.
use Rattle.std.proofs.Common.{◌≡◌, ◌<◌, ◌+◌, ℕ, ℤ, ◌||◌, true, false, List, ◌∷◌, map, drop, get_or, Some, None, arith, sym, ◌∙◌, ap, length, cond}
use Rattle.std.specs.BTreeSet.{BTreeSet, contains}
use Rattle.std.specs.Ordering.{int_cmp, int_eq}
use Rattle.std.proofs.lemmas.List.{at_drop_more, at_drop_all}
use Rattle.sql_text.specs.declared.link.LinkAnswer.{LinkAnswer}
use Rattle.plain_tables.specs.Inserts.{first_taken}
use Rattle.plain_tables.proofs.Inserted.{same_taken}
use Rattle.txn_phases.specs.declared.deed.PlacedRow.{PlacedRow}
use Rattle.txn_phases.specs.Deeds.{is_found, taken_key}

-- the set says which keys are taken, and the new rows from this place on are still to be looked at
pub record Looking (place : ℕ) (found : List LinkAnswer) (news : List PlacedRow) (taken : BTreeSet ℤ) (i : ℕ) : Type 0 where
  pub left : first_taken (contains int_cmp taken) (map (λ (new : PlacedRow). new.key) (drop i news)) ≡ taken_key place found news

pub looks_first : (place : ℕ) (found : List LinkAnswer) (news : List PlacedRow) (taken : BTreeSet ℤ) → ((key : ℤ) → contains int_cmp taken key ≡ is_found place found key) → Looking place found news taken 0
looks_first place found news taken same = record { left = same_taken (contains int_cmp taken) (is_found place found) (map (λ (new : PlacedRow). new.key) news) (λ key listed. same key) }

here : (taken : BTreeSet ℤ) (news : List PlacedRow) (i : ℕ) (x : PlacedRow) → x ≡ get_or news i x → i < length news
    → first_taken (contains int_cmp taken) (map (λ (new : PlacedRow). new.key) (drop i news))
    ≡ cond (contains int_cmp taken x.key) (Some x.key) (first_taken (λ k. int_eq x.key k || contains int_cmp taken k) (map (λ (new : PlacedRow). new.key) (drop (i + 1) news)))
unfolding first_taken
here taken news i x is inside =
    at_drop_more (λ l. first_taken (contains int_cmp taken) (map (λ (new : PlacedRow). new.key) l)) news i x inside
    ∙ ap (λ (y : PlacedRow). first_taken (contains int_cmp taken) (map (λ (new : PlacedRow). new.key) (y ∷ drop (i + 1) news))) (sym is)

pub looks_on : (place : ℕ) (found : List LinkAnswer) (news : List PlacedRow) (taken more : BTreeSet ℤ) (i : ℕ) (x : PlacedRow) → x ≡ get_or news i x → i < length news → Looking place found news taken i
    → contains int_cmp taken x.key ≡ false → ((k : ℤ) → contains int_cmp more k ≡ (int_eq x.key k || contains int_cmp taken k)) → Looking place found news more (i + 1)
looks_on place found news taken more i x is inside looking free grown = record {
  left =
      same_taken (contains int_cmp more) (λ k. int_eq x.key k || contains int_cmp taken k) (map (λ (new : PlacedRow). new.key) (drop (i + 1) news)) (λ k listed. grown k)
      ∙ (sym (here taken news i x is inside ∙ ap (λ b. cond b (Some x.key) (first_taken (λ k. int_eq x.key k || contains int_cmp taken k) (map (λ (new : PlacedRow). new.key) (drop (i + 1) news)))) free) ∙ looking.left);
}

pub found_taken : (place : ℕ) (found : List LinkAnswer) (news : List PlacedRow) (taken : BTreeSet ℤ) (i : ℕ) (x : PlacedRow) → x ≡ get_or news i x → i < length news → Looking place found news taken i
    → contains int_cmp taken x.key ≡ true → Some x.key ≡ taken_key place found news
found_taken place found news taken i x is inside looking is_taken =
    sym (here taken news i x is inside ∙ ap (λ b. cond b (Some x.key) (first_taken (λ k. int_eq x.key k || contains int_cmp taken k) (map (λ (new : PlacedRow). new.key) (drop (i + 1) news)))) is_taken) ∙ looking.left

pub none_taken : (place : ℕ) (found : List LinkAnswer) (news : List PlacedRow) (taken : BTreeSet ℤ) → Looking place found news taken (length news) → None ≡ taken_key place found news
unfolding first_taken
none_taken place found news taken looking = sym (at_drop_all (λ l. first_taken (contains int_cmp taken) (map (λ (new : PlacedRow). new.key) l)) news (length news) (search arith)) ∙ looking.left

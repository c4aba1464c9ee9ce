-- New rows put by their keys, one by one.
use Rattle.std.proofs.Common.{◌≡◌, ◌<◌, ◌+◌, ◌==◌, ℕ, ℤ, true, List, ◌∷◌, drop, get_or, sym, ◌∙◌, ap, length, cond}
use Rattle.std.specs.BTreeMap.{insert_entry}
use Rattle.std.specs.Ordering.{int_cmp}
use Rattle.std.proofs.lemmas.List.{at_drop_more}
use Rattle.txn_phases.specs.declared.deed.PlacedRow.{PlacedRow}
use Rattle.txn_phases.specs.Deeds.{Row, put_by_key, news_at}

pub next_put : (news : List PlacedRow) (i : ℕ) (x : PlacedRow) (p : ℕ) (entries more all : List (ℤ × Row)) → x ≡ get_or news i x → i < length news → (x.part == p) ≡ true
    → more ≡ insert_entry int_cmp entries x.key x.row → put_by_key (news_at (drop i news) p) entries ≡ all → put_by_key (news_at (drop (i + 1) news) p) more ≡ all
next_put news i x p entries more all is inside here grown so_far =
    let front : put_by_key (news_at (drop i news) p) entries ≡ put_by_key (news_at (x ∷ drop (i + 1) news) p) entries =
    at_drop_more (λ l. put_by_key (news_at l p) entries) news i x inside ∙ ap (λ (y : PlacedRow). put_by_key (news_at (y ∷ drop (i + 1) news) p) entries) (sym is) in
    let stays : put_by_key (news_at (x ∷ drop (i + 1) news) p) entries ≡ put_by_key (news_at (drop (i + 1) news) p) (insert_entry int_cmp entries x.key x.row) =
    ap (λ b. put_by_key (cond b (x ∷ news_at (drop (i + 1) news) p) (news_at (drop (i + 1) news) p)) entries) here in
    rw grown (sym (front ∙ stays) ∙ so_far)

-- Walking over bytes to the first bad one.
use Rattle.std.proofs.Common.{◌≡◌, ℕ, suc, ◌+◌, ◌-◌, ◌<◌, ◌≤◌, Bool, true, false, cond, ◌&&◌, ◌==◌, nat_le, List, [], ◌∷◌, ◌++◌, length, get_or, take, drop, Option, Some, Result, Ok, Err, refl, sym, ap, subst, ◌∙◌, append_assoc, ne_eqb, arith}
use Rattle.std.proofs.lemmas.List.{drop_more, take_more, append-nil, length-drop, nil_from_length}
use Rattle.my_messages.specs.Utf8.{owed, may_follow, and_then, and_all, sized_after, nul_after, all_after, bad_of}

bad_then : (b : ℕ) (r : Result (List ℕ × List ℕ) ℕ) → bad_of (and_then b r) ≡ bad_of r
bad_then b (Ok p) = refl
bad_then b (Err left) = refl

bad_all : (b : ℕ) (r : Result (List ℕ) ℕ) → bad_of (and_all b r) ≡ bad_of r
bad_all b (Ok t) = refl
bad_all b (Err left) = refl

sized_head : (x y z n b : ℕ) (bs : List ℕ) → (may_follow x y z b && nat_le (owed y z b) n) ≡ true → bad_of (sized_after x y z (suc n) (b ∷ bs)) ≡ bad_of (sized_after y z b n bs)
sized_head x y z n b bs h = ap (λ (c : Bool). bad_of (cond c (and_then b (sized_after y z b n bs)) (Err (length (b ∷ bs))))) h ∙ bad_then b (sized_after y z b n bs)

sized_stop : (x y z n b : ℕ) (bs : List ℕ) → (may_follow x y z b && nat_le (owed y z b) n) ≡ false → bad_of (sized_after x y z (suc n) (b ∷ bs)) ≡ Some (suc (length bs))
sized_stop x y z n b bs h = ap (λ (c : Bool). bad_of (cond c (and_then b (sized_after y z b n bs)) (Err (length (b ∷ bs))))) h

-- one byte on
pub sized_on : (x y z due i b : ℕ) (bytes : List ℕ) (whole : Option ℕ) → i < length bytes → b ≡ get_or bytes i 0 → 0 < due → (may_follow x y z b && nat_le (owed y z b) (due - 1)) ≡ true
    → bad_of (sized_after x y z due (drop i bytes)) ≡ whole → bad_of (sized_after y z b (due - 1) (drop (i + 1) bytes)) ≡ whole
sized_on x y z due i b bytes whole lt is pos h so_far =
    let n = due - 1 in
    let k : suc n ≡ due = omega arith in
    let e : drop i bytes ≡ b ∷ drop (i + 1) bytes = drop_more bytes i 0 lt ∙ ap (λ (c : ℕ). c ∷ drop (i + 1) bytes) (sym is) in
    sym (sized_head x y z n b (drop (i + 1) bytes) h) ∙ ap (λ (m : ℕ). bad_of (sized_after x y z m (b ∷ drop (i + 1) bytes))) k ∙ ap (λ (l : List ℕ). bad_of (sized_after x y z due l)) (sym e) ∙ so_far

-- the first bad byte
pub sized_off : (x y z due i b : ℕ) (bytes : List ℕ) (whole : Option ℕ) → i < length bytes → b ≡ get_or bytes i 0 → 0 < due → (may_follow x y z b && nat_le (owed y z b) (due - 1)) ≡ false
    → bad_of (sized_after x y z due (drop i bytes)) ≡ whole → Some (length bytes - i) ≡ whole
sized_off x y z due i b bytes whole lt is pos h so_far =
    let n = due - 1 in
    let k : suc n ≡ due = omega arith in
    let e : drop i bytes ≡ b ∷ drop (i + 1) bytes = drop_more bytes i 0 lt ∙ ap (λ (c : ℕ). c ∷ drop (i + 1) bytes) (sym is) in
    let left : length bytes - i ≡ suc (length (drop (i + 1) bytes)) = omega (arith, length-drop (i + 1) bytes) in
    ap (λ (m : ℕ). Some m) left ∙ sym (sized_stop x y z n b (drop (i + 1) bytes) h) ∙ ap (λ (m : ℕ). bad_of (sized_after x y z m (b ∷ drop (i + 1) bytes))) k
    ∙ ap (λ (l : List ℕ). bad_of (sized_after x y z due l)) (sym e) ∙ so_far

drop_none : (i : ℕ) (bytes : List ℕ) → length bytes ≤ i → drop i bytes ≡ []
drop_none i bytes le = nil_from_length (drop i bytes) (omega (arith, length-drop i bytes))

-- bytes that end before the text does
sized_short : (x y z n : ℕ) → bad_of (sized_after x y z (suc n) []) ≡ Some 0
sized_short x y z n = refl

pub sized_end : (x y z due i : ℕ) (bytes : List ℕ) (whole : Option ℕ) → length bytes ≤ i → 0 < due → bad_of (sized_after x y z due (drop i bytes)) ≡ whole → Some 0 ≡ whole
sized_end x y z due i bytes whole le pos so_far =
    let k : suc (due - 1) ≡ due = omega arith in
    sym (sized_short x y z (due - 1)) ∙ ap (λ (m : ℕ). bad_of (sized_after x y z m [])) k ∙ ap (λ (l : List ℕ). bad_of (sized_after x y z due l)) (sym (drop_none i bytes le)) ∙ so_far

-- ---- a text that NUL ends

-- what was read before, and what is still read
abbrev pub with_front : List ℕ → Result (List ℕ × List ℕ) ℕ → Result (List ℕ × List ℕ) ℕ
with_front front (Ok p) = Ok (front ++ p.0, p.1)
with_front front (Err left) = Err left

regroup : (front : List ℕ) (b : ℕ) (r : Result (List ℕ × List ℕ) ℕ) → with_front front (and_then b r) ≡ with_front (front ++ b ∷ []) r
regroup front b (Ok p) = ap (λ (l : List ℕ). Ok (l, p.1)) (sym (append_assoc front (b ∷ []) p.0))
regroup front b (Err left) = refl

nul_head : (x y z b : ℕ) (bs : List ℕ) → may_follow x y z b ≡ true → (b ≡ 0 → ⊥) → nul_after x y z (b ∷ bs) ≡ and_then b (nul_after y z b bs)
nul_head x y z b bs h n =
    ap (λ (c : Bool). cond c (cond (b == 0) (Ok ([], bs)) (and_then b (nul_after y z b bs))) (Err (length (b ∷ bs)))) h ∙ ap (λ (c : Bool). cond c (Ok ([], bs)) (and_then b (nul_after y z b bs))) (ne_eqb b 0 n)

nul_stop : (x y z b : ℕ) (bs : List ℕ) → may_follow x y z b ≡ false → nul_after x y z (b ∷ bs) ≡ Err (length (b ∷ bs))
nul_stop x y z b bs h = ap (λ (c : Bool). cond c (cond (b == 0) (Ok ([], bs)) (and_then b (nul_after y z b bs))) (Err (length (b ∷ bs)))) h

nul_done : (x y z : ℕ) (bs : List ℕ) → may_follow x y z 0 ≡ true → nul_after x y z (0 ∷ bs) ≡ Ok ([], bs)
nul_done x y z bs h = ap (λ (c : Bool). cond c (Ok ([], bs)) (Err (suc (length bs)))) h

next_drop : (i b : ℕ) (bytes : List ℕ) → i < length bytes → b ≡ get_or bytes i 0 → drop i bytes ≡ b ∷ drop (i + 1) bytes
next_drop i b bytes lt is = drop_more bytes i 0 lt ∙ ap (λ (c : ℕ). c ∷ drop (i + 1) bytes) (sym is)

pub nul_on : (x y z i b : ℕ) (bytes : List ℕ) (whole : Result (List ℕ × List ℕ) ℕ) → i < length bytes → b ≡ get_or bytes i 0 → may_follow x y z b ≡ true → (b ≡ 0 → ⊥)
    → with_front (take i bytes) (nul_after x y z (drop i bytes)) ≡ whole → with_front (take (i + 1) bytes) (nul_after y z b (drop (i + 1) bytes)) ≡ whole
nul_on x y z i b bytes whole lt is h n so_far =
    let front : take (i + 1) bytes ≡ take i bytes ++ b ∷ [] = take_more bytes i 0 lt ∙ ap (λ (c : ℕ). take i bytes ++ c ∷ []) (sym is) in
    ap (λ (f : List ℕ). with_front f (nul_after y z b (drop (i + 1) bytes))) front
    ∙ sym (regroup (take i bytes) b (nul_after y z b (drop (i + 1) bytes)))
    ∙ ap (with_front (take i bytes)) (sym (nul_head x y z b (drop (i + 1) bytes) h n))
    ∙ ap (λ (l : List ℕ). with_front (take i bytes) (nul_after x y z l)) (sym (next_drop i b bytes lt is)) ∙ so_far

pub nul_off : (x y z i b : ℕ) (bytes : List ℕ) (whole : Result (List ℕ × List ℕ) ℕ) → i < length bytes → b ≡ get_or bytes i 0 → may_follow x y z b ≡ false
    → with_front (take i bytes) (nul_after x y z (drop i bytes)) ≡ whole → whole ≡ Err (length bytes - i)
nul_off x y z i b bytes whole lt is h so_far =
    let left : length (b ∷ drop (i + 1) bytes) ≡ length bytes - i = omega (arith, length-drop (i + 1) bytes) in
    sym so_far ∙ ap (λ (l : List ℕ). with_front (take i bytes) (nul_after x y z l)) (next_drop i b bytes lt is)
    ∙ ap (with_front (take i bytes)) (nul_stop x y z b (drop (i + 1) bytes) h) ∙ ap (λ (m : ℕ). Err m) left

pub nul_found : (x y z i b : ℕ) (bytes : List ℕ) (whole : Result (List ℕ × List ℕ) ℕ) → i < length bytes → b ≡ get_or bytes i 0 → may_follow x y z b ≡ true → b ≡ 0
    → with_front (take i bytes) (nul_after x y z (drop i bytes)) ≡ whole → whole ≡ Ok (take i bytes, drop (i + 1) bytes)
nul_found x y z i b bytes whole lt is h n so_far =
    sym so_far ∙ ap (λ (l : List ℕ). with_front (take i bytes) (nul_after x y z l)) (next_drop i b bytes lt is ∙ ap (λ (c : ℕ). c ∷ drop (i + 1) bytes) n)
    ∙ ap (with_front (take i bytes)) (nul_done x y z (drop (i + 1) bytes) (subst (λ (c : ℕ). may_follow x y z c ≡ true) n h)) ∙ ap (λ (f : List ℕ). Ok (f, drop (i + 1) bytes)) (append-nil (take i bytes))

pub nul_short : (x y z i : ℕ) (bytes : List ℕ) (whole : Result (List ℕ × List ℕ) ℕ) → length bytes ≤ i → with_front (take i bytes) (nul_after x y z (drop i bytes)) ≡ whole → whole ≡ Err 0
nul_short x y z i bytes whole le so_far = sym so_far ∙ ap (λ (l : List ℕ). with_front (take i bytes) (nul_after x y z l)) (drop_none i bytes le)

nothing : (r : Result (List ℕ × List ℕ) ℕ) → with_front [] r ≡ r
nothing (Ok p) = refl
nothing (Err left) = refl

pub nul_begun : (bytes : List ℕ) → with_front (take 0 bytes) (nul_after 0 0 0 (drop 0 bytes)) ≡ nul_after 0 0 0 bytes
nul_begun bytes = nothing (nul_after 0 0 0 bytes)

-- ---- a text that the bytes end

all_head : (x y z b : ℕ) (bs : List ℕ) → may_follow x y z b ≡ true → bad_of (all_after x y z (b ∷ bs)) ≡ bad_of (all_after y z b bs)
all_head x y z b bs h = ap (λ (c : Bool). bad_of (cond c (and_all b (all_after y z b bs)) (Err (length (b ∷ bs))))) h ∙ bad_all b (all_after y z b bs)

all_stop : (x y z b : ℕ) (bs : List ℕ) → may_follow x y z b ≡ false → bad_of (all_after x y z (b ∷ bs)) ≡ Some (suc (length bs))
all_stop x y z b bs h = ap (λ (c : Bool). bad_of (cond c (and_all b (all_after y z b bs)) (Err (length (b ∷ bs))))) h

pub all_on : (x y z i b : ℕ) (bytes : List ℕ) (whole : Option ℕ) → i < length bytes → b ≡ get_or bytes i 0 → may_follow x y z b ≡ true
    → bad_of (all_after x y z (drop i bytes)) ≡ whole → bad_of (all_after y z b (drop (i + 1) bytes)) ≡ whole
all_on x y z i b bytes whole lt is h so_far = sym (all_head x y z b (drop (i + 1) bytes) h) ∙ ap (λ (l : List ℕ). bad_of (all_after x y z l)) (sym (next_drop i b bytes lt is)) ∙ so_far

pub all_off : (x y z i b : ℕ) (bytes : List ℕ) (whole : Option ℕ) → i < length bytes → b ≡ get_or bytes i 0 → may_follow x y z b ≡ false
    → bad_of (all_after x y z (drop i bytes)) ≡ whole → Some (length bytes - i) ≡ whole
all_off x y z i b bytes whole lt is h so_far =
    let left : length bytes - i ≡ suc (length (drop (i + 1) bytes)) = omega (arith, length-drop (i + 1) bytes) in
    ap (λ (m : ℕ). Some m) left ∙ sym (all_stop x y z b (drop (i + 1) bytes) h) ∙ ap (λ (l : List ℕ). bad_of (all_after x y z l)) (sym (next_drop i b bytes lt is)) ∙ so_far

pub all_end : (x y z i : ℕ) (bytes : List ℕ) (whole : Option ℕ) → length bytes ≤ i → bad_of (all_after x y z (drop i bytes)) ≡ whole → bad_of (all_after x y z []) ≡ whole
all_end x y z i bytes whole le so_far = ap (λ (l : List ℕ). bad_of (all_after x y z l)) (sym (drop_none i bytes le)) ∙ so_far

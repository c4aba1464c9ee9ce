-- A length-encoded number is read in each of its forms, and in no other.
use Rattle.std.proofs.Common.{◌≡◌, ℕ, zero, suc, ◌+◌, ◌-◌, ◌*◌, ◌^◌, ◌<◌, ◌≤◌, ◌⊎◌, Bool, true, false, cond, nat_lt, ◌==◌, List, [], ◌∷◌, ◌++◌, length, take, replicate, slice_index, Option, Some, None, refl, sym, ap, subst, ◌∙◌, append_assoc, inl, inr, arith, lt-ltb, le-ltb, ne_eqb}
use Rattle.std.proofs.lemmas.Bool.{cases_lt, ltb-true, ltb-false, eqb-true}
use Rattle.std.proofs.lemmas.List.{length-append, length-take, length-replicate, append-nil}
use Rattle.byteorder.specs.Endian.{little_from, little_number, little_bytes}
use Rattle.byteorder.specs.Numbers.{little_from-cons, little_from-take, little_from-append, little_number-reads_back, length-bytes_low_first, little_from-lt}
use Rattle.my_wire.specs.declared.lenenc.Lenenc.{Lenenc}
use Rattle.my_wire.specs.declared.lenenc.Lenenc.TheVariants.{Number, Null, Short, Bad}
use Rattle.my_wire.specs.Grammar.{IsBytes, Begins}
use Rattle.my_wire.specs.Lenenc.{width_of, IsLenenc, lenenc, wide_at, lenenc_at}
use Rattle.my_wire.proofs.Fields.{IsBytes-append}

-- which way a test went
pub chosen : {A : Type 0} (c : Bool) (x y z : A) → cond c x y ≡ z → ((c ≡ true) × (x ≡ z)) ⊎ ((c ≡ false) × (y ≡ z))
chosen true x y z e = inl (refl, e)
chosen false x y z e = inr (refl, e)

-- a first byte with a width
pub record HasWidth (first w : ℕ) : Type 0 where
  pub big : 251 < first
  pub small : first < 255
  pub some : 0 < w
  pub few : w < 9

pub has_width : (first w : ℕ) → width_of first ≡ Some w → HasWidth first w
has_width first w e =
    elim (chosen (first == 0xFC) (Some 2) (cond (first == 0xFD) (Some 3) (cond (first == 0xFE) (Some 8) None)) (Some w) e) [
      | inl h ↦ let f = eqb-true first 0xFC h.0 in let g : 2 ≡ w = (let k : Some 2 ≡ Some w = h.1 in cc) in record { big = omega arith; small = omega arith; some = omega arith; few = omega arith }
      | inr h ↦ elim (chosen (first == 0xFD) (Some 3) (cond (first == 0xFE) (Some 8) None) (Some w) h.1) [
        | inl i ↦ let f = eqb-true first 0xFD i.0 in let g : 3 ≡ w = (let k : Some 3 ≡ Some w = i.1 in cc) in record { big = omega arith; small = omega arith; some = omega arith; few = omega arith }
        | inr i ↦ elim (chosen (first == 0xFE) (Some 8) None (Some w) i.1) [
          | inl j ↦ let f = eqb-true first 0xFE j.0 in let g : 8 ≡ w = (let k : Some 8 ≡ Some w = j.1 in cc) in record { big = omega arith; small = omega arith; some = omega arith; few = omega arith }
          | inr j ↦ absurd (let k : None ≡ Some w = j.1 in cc)
        ]
      ]
    ]

wide_found : (o : Option ℕ) (more : List ℕ) (v u : ℕ) → wide_at o more ≡ Number v u → (w : ℕ) × (o ≡ Some w) × (w ≤ length more) × (little_number w more ≡ v) × (w + 1 ≡ u)
wide_found None more v u e = absurd cc
wide_found (Some w) more v u e =
    elim (chosen (nat_lt (length more) w) Short (Number (little_number w more) (w + 1)) (Number v u) e) [
      | inl h ↦ absurd (let k : Short ≡ Number v u = h.1 in cc)
      | inr h ↦ let k : Number (little_number w more) (w + 1) ≡ Number v u = h.1 in (w, refl, ltb-false (length more) w h.0, cc, cc)
    ]

-- ---- what is read is in the grammar

pub lenenc_found : (bytes : List ℕ) (v u : ℕ) → lenenc_at bytes ≡ Number v u → (u ≤ length bytes) × IsLenenc (take u bytes) v
lenenc_found [] v u e = absurd cc
lenenc_found (first ∷ more) v u e =
    elim (chosen (nat_lt first 251) (Number first 1) (cond (first == 0xFB) Null (wide_at (width_of first) more)) (Number v u) e) [
      | inl h ↦
          let k : Number first 1 ≡ Number v u = h.1 in
          let value : first ≡ v = cc in
          let used : 1 ≡ u = cc in
          let lt = ltb-true first 251 h.0 in
          (omega (arith, used), subst (λ (n : ℕ). IsLenenc (take n (first ∷ more)) v) used (inl (lt, refl, sym value)))
      | inr h ↦ elim (chosen (first == 0xFB) Null (wide_at (width_of first) more) (Number v u) h.1) [
        | inl i ↦ absurd (let k : Null ≡ Number v u = i.1 in cc)
        | inr i ↦
            let w = wide_found (width_of first) more v u i.1 in
            let sized : length (take w.0 more) ≡ w.0 = let le = w.2 in omega (arith, length-take w.0 more) in
            let value : v ≡ little_number (length (take w.0 more)) (take w.0 more) =
            sym w.3 ∙ sym (little_from-take 0 w.0 w.0 more (omega arith)) ∙ ap (λ (n : ℕ). little_number n (take w.0 more)) (sym sized) in
            let used : suc w.0 ≡ u = let g = w.4 in omega (arith, g) in (
              let le = w.2 in omega (arith, used),
              subst (λ (n : ℕ). IsLenenc (take n (first ∷ more)) v) used (inr (w.1 ∙ ap (λ (n : ℕ). Some n) (sym sized), value)),
            )
      ]
    ]

-- ---- what is in the grammar is read, whatever follows

wide_again : (w : ℕ) (more rest : List ℕ) → length more ≡ w → wide_at (Some w) (more ++ rest) ≡ Number (little_number w more) (w + 1)
wide_again w more rest sized =
    let long : nat_lt (length (more ++ rest)) w ≡ false = le-ltb (length (more ++ rest)) w (omega (arith, length-append more rest)) in
    ap (λ (c : Bool). cond c Short (Number (little_number w (more ++ rest)) (w + 1))) long
    ∙ ap (λ (n : ℕ). Number n (w + 1)) (little_from-append w more rest (omega (arith, sized)))

lenenc_wide : (first w : ℕ) (more : List ℕ) → width_of first ≡ Some w → lenenc_at (first ∷ more) ≡ wide_at (Some w) more
lenenc_wide first w more e =
    let h = has_width first w e in
    let big = h.big in
    ap (λ (c : Bool). cond c (Number first 1) (cond (first == 0xFB) Null (wide_at (width_of first) more))) (le-ltb first 251 (omega arith))
    ∙ ap (λ (c : Bool). cond c Null (wide_at (width_of first) more)) (ne_eqb first 0xFB (λ k. omega (arith, k)))
    ∙ ap (λ (o : Option ℕ). wide_at o more) e

pub lenenc_again : (front rest : List ℕ) (n : ℕ) → IsLenenc front n → lenenc_at (front ++ rest) ≡ Number n (length front)
lenenc_again [] rest n h = absurd h
lenenc_again (first ∷ more) rest n (inl h) =
    ap (λ (c : Bool). cond c (Number first 1) (cond (first == 0xFB) Null (wide_at (width_of first) (more ++ rest)))) (lt-ltb first 251 h.0)
    ∙ ap (λ (m : ℕ). Number m 1) (sym h.2) ∙ ap (λ (l : List ℕ). Number n (suc (length l))) (sym h.1)
lenenc_again (first ∷ more) rest n (inr h) =
    lenenc_wide first (length more) (more ++ rest) h.0 ∙ wide_again (length more) more rest refl ∙ ap (λ (m : ℕ). Number m (length more + 1)) (sym h.1) ∙ ap (λ (u : ℕ). Number n u) (omega arith)

-- ---- where it goes no further

-- a number whose last byte is 1 isn't 0
pub ends_positive : (xs : List ℕ) → 0 < little_number (suc (length xs)) (xs ++ 1 ∷ [])
ends_positive [] = omega arith
ends_positive (x ∷ xs) =
    let rest = ends_positive xs in
    let e : little_from 1 (suc (length xs)) (x ∷ (xs ++ 1 ∷ [])) ≡ little_from 0 (suc (length xs)) (xs ++ 1 ∷ []) = little_from-cons 0 (suc (length xs)) x (xs ++ 1 ∷ []) in
    let k : 0 < x + 256 * little_from 1 (suc (length xs)) (x ∷ (xs ++ 1 ∷ [])) = omega (arith, e) in k

pub zeros_are_bytes : (n : ℕ) → IsBytes (replicate n 0)
zeros_are_bytes zero = tt
zeros_are_bytes (suc n) = (omega arith, zeros_are_bytes n)

pub one_positive : Begins (λ (n : ℕ) (bytes : List ℕ). IsLenenc bytes n × (0 < n)) []
one_positive = record { value = 1; more = 1 ∷ []; are_bytes = (omega arith, tt); spells = (inl (omega arith, refl, refl), omega arith) }

pub wide_positive : (first w : ℕ) (more : List ℕ) → width_of first ≡ Some w → length more < w → Begins (λ (n : ℕ) (bytes : List ℕ). IsLenenc bytes n × (0 < n)) (first ∷ more)
wide_positive first w more e lt =
    let pad : List ℕ = replicate (w - suc (length more)) 0 in
    let front : List ℕ = more ++ pad in
    let padded : length pad ≡ w - suc (length more) = length-replicate (w - suc (length more)) 0 in
    let total = length-append more pad in
    let last = length-append front (1 ∷ []) in
    let sized : length (front ++ 1 ∷ []) ≡ w = omega (arith, padded, total, last) in
    let next : suc (length front) ≡ length (front ++ 1 ∷ []) = omega (arith, last) in
    let regrouped : more ++ (pad ++ 1 ∷ []) ≡ front ++ 1 ∷ [] = sym (append_assoc more pad (1 ∷ [])) in
    let value : ℕ = little_number (length (front ++ 1 ∷ [])) (front ++ 1 ∷ []) in
    record {
      value = value;
      more = pad ++ 1 ∷ [];
      are_bytes = IsBytes-append pad (1 ∷ []) (zeros_are_bytes (w - suc (length more))) (omega arith, tt);
      spells = (
        subst (λ (l : List ℕ). IsLenenc (first ∷ l) value) (sym regrouped) (inr (e ∙ ap (λ (n : ℕ). Some n) (sym sized), refl)),
        subst (λ (n : ℕ). 0 < little_number n (front ++ 1 ∷ [])) next (ends_positive front),
      );
    }

wide_short : (o : Option ℕ) (more : List ℕ) → wide_at o more ≡ Short → (w : ℕ) × (o ≡ Some w) × (length more < w)
wide_short None more e = absurd cc
wide_short (Some w) more e =
    elim (chosen (nat_lt (length more) w) Short (Number (little_number w more) (w + 1)) Short e) [
      | inl h ↦ (w, refl, ltb-true (length more) w h.0)
      | inr h ↦ absurd (let k : Number (little_number w more) (w + 1) ≡ Short = h.1 in cc)
    ]

wide_never : {r : Lenenc} (w : ℕ) (more : List ℕ) → wide_at (Some w) more ≡ r → (r ≡ Null) ⊎ (r ≡ Bad) → ⊥
wide_never {r} w more e h =
    elim (chosen (nat_lt (length more) w) Short (Number (little_number w more) (w + 1)) r e) [
      | inl i ↦ elim h [ inl f ↦ (let g : Short ≡ Null = i.1 ∙ f in cc) | inr f ↦ (let g : Short ≡ Bad = i.1 ∙ f in cc) ]
      | inr i ↦ elim h [ inl f ↦ (let g : Number (little_number w more) (w + 1) ≡ Null = i.1 ∙ f in cc) | inr f ↦ (let g : Number (little_number w more) (w + 1) ≡ Bad = i.1 ∙ f in cc) ]
    ]

pub lenenc_short : (bytes : List ℕ) → lenenc_at bytes ≡ Short → Begins (λ (n : ℕ) (bytes : List ℕ). IsLenenc bytes n × (0 < n)) bytes
lenenc_short [] e = one_positive
lenenc_short (first ∷ more) e =
    elim (chosen (nat_lt first 251) (Number first 1) (cond (first == 0xFB) Null (wide_at (width_of first) more)) Short e) [
      | inl h ↦ absurd (let k : Number first 1 ≡ Short = h.1 in cc)
      | inr h ↦ elim (chosen (first == 0xFB) Null (wide_at (width_of first) more) Short h.1) [
        | inl i ↦ absurd (let k : Null ≡ Short = i.1 in cc)
        | inr i ↦ let w = wide_short (width_of first) more i.1 in wide_positive first w.0 more w.1 w.2
      ]
    ]

-- a byte that begins no number
pub no_number : (bytes : List ℕ) → (lenenc_at bytes ≡ Null) ⊎ (lenenc_at bytes ≡ Bad) → (b : ℕ) (more : List ℕ) → bytes ≡ b ∷ more → (n : ℕ) (rest : List ℕ) → IsLenenc (b ∷ rest) n → ⊥
no_number bytes e b more is n rest h =
    let at : lenenc_at (b ∷ more) ≡ lenenc_at bytes = ap lenenc_at (sym is) in
    elim h [
      | inl i ↦
          let k : lenenc_at (b ∷ more) ≡ Number b 1 = ap (λ (c : Bool). cond c (Number b 1) (cond (b == 0xFB) Null (wide_at (width_of b) more))) (lt-ltb b 251 i.0) in
          elim e [ inl f ↦ (let g : Number b 1 ≡ Null = sym k ∙ at ∙ f in cc) | inr f ↦ (let g : Number b 1 ≡ Bad = sym k ∙ at ∙ f in cc) ]
      | inr i ↦ wide_never (length rest) more (sym (lenenc_wide b (length rest) more i.0) ∙ at) e
    ]

-- ---- the shortest form

form_of_two : (n : ℕ) → 251 ≤ n → n < 2 ^ 16 → lenenc n ≡ 0xFC ∷ little_bytes 2 n
form_of_two n p q =
    ap (λ (c : Bool). cond c (n ∷ []) (cond (nat_lt n (2 ^ 16)) (0xFC ∷ little_bytes 2 n) (cond (nat_lt n (2 ^ 24)) (0xFD ∷ little_bytes 3 n) (0xFE ∷ little_bytes 8 n)))) (le-ltb n 251 p)
    ∙ ap (λ (c : Bool). cond c (0xFC ∷ little_bytes 2 n) (cond (nat_lt n (2 ^ 24)) (0xFD ∷ little_bytes 3 n) (0xFE ∷ little_bytes 8 n))) (lt-ltb n (2 ^ 16) q)

form_of_three : (n : ℕ) → 2 ^ 16 ≤ n → n < 2 ^ 24 → lenenc n ≡ 0xFD ∷ little_bytes 3 n
form_of_three n p q =
    ap (λ (c : Bool). cond c (n ∷ []) (cond (nat_lt n (2 ^ 16)) (0xFC ∷ little_bytes 2 n) (cond (nat_lt n (2 ^ 24)) (0xFD ∷ little_bytes 3 n) (0xFE ∷ little_bytes 8 n)))) (le-ltb n 251 (omega arith))
    ∙ ap (λ (c : Bool). cond c (0xFC ∷ little_bytes 2 n) (cond (nat_lt n (2 ^ 24)) (0xFD ∷ little_bytes 3 n) (0xFE ∷ little_bytes 8 n))) (le-ltb n (2 ^ 16) p)
    ∙ ap (λ (c : Bool). cond c (0xFD ∷ little_bytes 3 n) (0xFE ∷ little_bytes 8 n)) (lt-ltb n (2 ^ 24) q)

form_of_eight : (n : ℕ) → 2 ^ 24 ≤ n → lenenc n ≡ 0xFE ∷ little_bytes 8 n
form_of_eight n p =
    ap (λ (c : Bool). cond c (n ∷ []) (cond (nat_lt n (2 ^ 16)) (0xFC ∷ little_bytes 2 n) (cond (nat_lt n (2 ^ 24)) (0xFD ∷ little_bytes 3 n) (0xFE ∷ little_bytes 8 n)))) (le-ltb n 251 (omega arith))
    ∙ ap (λ (c : Bool). cond c (0xFC ∷ little_bytes 2 n) (cond (nat_lt n (2 ^ 24)) (0xFD ∷ little_bytes 3 n) (0xFE ∷ little_bytes 8 n))) (le-ltb n (2 ^ 16) (omega arith))
    ∙ ap (λ (c : Bool). cond c (0xFD ∷ little_bytes 3 n) (0xFE ∷ little_bytes 8 n)) (le-ltb n (2 ^ 24) p)

form_of_one : (n : ℕ) → n < 251 → lenenc n ≡ n ∷ []
form_of_one n p = ap (λ (c : Bool). cond c (n ∷ []) (cond (nat_lt n (2 ^ 16)) (0xFC ∷ little_bytes 2 n) (cond (nat_lt n (2 ^ 24)) (0xFD ∷ little_bytes 3 n) (0xFE ∷ little_bytes 8 n)))) (lt-ltb n 251 p)

-- bytes of a number behind a first byte of that width
wide_form : (first w n : ℕ) → width_of first ≡ Some w → n < 256 ^ w → IsLenenc (first ∷ little_bytes w n) n
wide_form first w n e lt =
    let sized : length (little_bytes w n) ≡ w = length-bytes_low_first 0 w n in
    inr (
      e ∙ ap (λ (k : ℕ). Some k) (sym sized),
      sym (ap (λ (k : ℕ). little_number k (little_bytes w n)) sized ∙ ap (little_number w) (sym (append-nil (little_bytes w n))) ∙ little_number-reads_back w n [] lt),
    )

pub lenenc_form : (n : ℕ) → n < 2 ^ 64 → IsLenenc (lenenc n) n
lenenc_form n lt =
    elim (cases_lt n 251) [
      | inl a ↦ subst (λ (l : List ℕ). IsLenenc l n) (sym (form_of_one n a)) (inl (a, refl, refl))
      | inr a ↦ elim (cases_lt n (2 ^ 16)) [
        | inl b ↦ subst (λ (l : List ℕ). IsLenenc l n) (sym (form_of_two n a b)) (wide_form 0xFC 2 n refl (omega arith))
        | inr b ↦ elim (cases_lt n (2 ^ 24)) [
          | inl c ↦ subst (λ (l : List ℕ). IsLenenc l n) (sym (form_of_three n b c)) (wide_form 0xFD 3 n refl (omega arith))
          | inr c ↦ subst (λ (l : List ℕ). IsLenenc l n) (sym (form_of_eight n c)) (wide_form 0xFE 8 n refl (omega arith))
        ]
      ]
    ]

-- ---- none of a number's forms is shorter than the one that is written

index_fits : (bytes : List ℕ) → IsBytes bytes → (k : ℕ) → slice_index bytes k < 256
index_fits [] h k = omega arith
index_fits (b ∷ bytes) h zero = h.0
index_fits (b ∷ bytes) h (suc k) = index_fits bytes h.1 k

-- how long the form is that is written, at most, below each limit
written_two : (n : ℕ) → n < 2 ^ 16 → length (lenenc n) ≤ 3
written_two n lt = elim (cases_lt n 251) [ inl a ↦ omega (arith, ap length (form_of_one n a)) | inr a ↦ omega (arith, ap length (form_of_two n a lt)) ]

written_three : (n : ℕ) → n < 2 ^ 24 → length (lenenc n) ≤ 4
written_three n lt = elim (cases_lt n (2 ^ 16)) [ inl a ↦ omega (arith, written_two n a) | inr a ↦ omega (arith, ap length (form_of_three n a lt)) ]

-- a number has nine bytes at most
pub length-lenenc : (n : ℕ) → length (lenenc n) ≤ 9
length-lenenc n = elim (cases_lt n (2 ^ 24)) [ inl a ↦ omega (arith, written_three n a) | inr a ↦ omega (arith, ap length (form_of_eight n a)) ]

width_is : (first w : ℕ) → width_of first ≡ Some w → (w ≡ 2) ⊎ ((w ≡ 3) ⊎ (w ≡ 8))
width_is first w e =
    elim (chosen (first == 0xFC) (Some 2) (cond (first == 0xFD) (Some 3) (cond (first == 0xFE) (Some 8) None)) (Some w) e) [
      | inl h ↦ inl (let k : Some 2 ≡ Some w = h.1 in cc)
      | inr h ↦ elim (chosen (first == 0xFD) (Some 3) (cond (first == 0xFE) (Some 8) None) (Some w) h.1) [
        | inl i ↦ inr (inl (let k : Some 3 ≡ Some w = i.1 in cc))
        | inr i ↦ elim (chosen (first == 0xFE) (Some 8) None (Some w) i.1) [ inl j ↦ inr (inr (let k : Some 8 ≡ Some w = j.1 in cc)) | inr j ↦ absurd (let k : None ≡ Some w = j.1 in cc) ]
      ]
    ]

pub lenenc_shortest : (n : ℕ) (bytes : List ℕ) → IsBytes bytes → IsLenenc bytes n → length (lenenc n) ≤ length bytes
lenenc_shortest n [] fits h = absurd h
lenenc_shortest n (first ∷ more) fits (inl h) =
    let small : n < 251 = let v = h.2 in let lt = h.0 in omega arith in omega (arith, ap length (form_of_one n small))
lenenc_shortest n (first ∷ more) fits (inr h) =
    let value = h.1 in
    let bound : (w : ℕ) → length more ≡ w → n < 256 ^ w = λ w e. subst (λ (k : ℕ). n < 256 ^ k) e (subst (λ (m : ℕ). m < 256 ^ length more) (sym value) (little_from-lt 0 (length more) more (index_fits more fits.1))) in
    elim (width_is first (length more) h.0) [
      | inl w ↦ let b = bound 2 w in omega (arith, written_two n (omega arith))
      | inr r ↦ elim r [ inl w ↦ let b = bound 3 w in omega (arith, written_three n (omega arith)) | inr w ↦ omega (arith, length-lenenc n) ]
    ]

-- up to the last byte of a number, one that isn't 0 may stand there
pub lenenc_front : (bytes : List ℕ) (v u : ℕ) → lenenc_at bytes ≡ Number v u → (0 < u) × Begins (λ (n : ℕ) (whole : List ℕ). IsLenenc whole n × (0 < n)) (take (u - 1) bytes)
lenenc_front [] v u e = absurd cc
lenenc_front (first ∷ more) v u e =
    elim (chosen (nat_lt first 251) (Number first 1) (cond (first == 0xFB) Null (wide_at (width_of first) more)) (Number v u) e) [
      | inl h ↦
          let k : Number first 1 ≡ Number v u = h.1 in
          let used : 1 ≡ u = cc in
          (omega (arith, used), subst (λ (m : ℕ). Begins (λ (n : ℕ) (whole : List ℕ). IsLenenc whole n × (0 < n)) (take (m - 1) (first ∷ more))) used one_positive)
      | inr h ↦ elim (chosen (first == 0xFB) Null (wide_at (width_of first) more) (Number v u) h.1) [
        | inl i ↦ absurd (let k : Null ≡ Number v u = i.1 in cc)
        | inr i ↦
            let w = wide_found (width_of first) more v u i.1 in
            let some = (has_width first w.0 w.1).some in
            let g = w.4 in
            let sized = length-take (w.0 - 1) more in
            let p = wide_positive first w.0 (take (w.0 - 1) more) w.1 (omega (arith, sized)) in
            let k : suc (w.0 - 1) ≡ u - 1 = omega (arith, g) in
            (omega (arith, g), subst (λ (m : ℕ). Begins (λ (n : ℕ) (whole : List ℕ). IsLenenc whole n × (0 < n)) (take m (first ∷ more))) k p)
      ]
    ]

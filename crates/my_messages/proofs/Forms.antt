-- The fields that messages are made of, and alternatives, are read exactly.
use Rattle.std.proofs.Common.{◌≡◌, ℕ, suc, ◌-◌, ◌≤◌, ◌⊎◌, Bool, false, cond, nat_lt, ◌==◌, min, List, [], ◌∷◌, ◌++◌, length, take, drop, replicate, Result, Ok, Err, refl, sym, ap, subst, ◌∙◌, append_assoc, inl, inr, arith, le-ltb, eq-eqb}
use Rattle.std.proofs.lemmas.Bool.{cases_lt, ltb-true, ltb-false, eqb-true, eqb-false}
use Rattle.std.proofs.lemmas.List.{length-append, length-take, length-replicate, take_at, drop_at, take-append-drop, append-nil, nil_from_length}
use Rattle.byteorder.specs.Endian.{little_number}
use Rattle.my_wire.specs.Grammar.{IsBytes, Begins, IsEnd}
use Rattle.my_wire.specs.Lenenc.{lenenc_at}
use Rattle.my_wire.specs.declared.lenenc.Lenenc.{Lenenc}
use Rattle.my_wire.specs.declared.lenenc.Lenenc.TheVariants.{Number, Null, Short, Bad}
use Rattle.my_wire.proofs.Fields.{IsBytes-front, IsBytes-rest, IsBytes-append, fronts_meet, Stuck, IsField, IsMessage, ok_is}
use Rattle.my_wire.proofs.Lenencs.{chosen, lenenc_found, lenenc_again, lenenc_short, no_number, one_positive, zeros_are_bytes}
use Rattle.my_messages.specs.Fields.{IsInt, IsNumber, IsFixed}
use Rattle.my_messages.specs.Reading.{literal_at, int_at, fixed_at, number_from, number_at, end_at, or_else}

-- ---- two forms

-- what begins with some bytes begins with a front of them
begins_front : {X : Type 0} (Q : X → List ℕ → Type 0) (a b : List ℕ) → IsBytes b → Begins Q (a ++ b) → Begins Q a
begins_front Q a b fits h = record { value = h.value; more = b ++ h.more; are_bytes = IsBytes-append b h.more fits h.are_bytes; spells = subst (Q h.value) (append_assoc a b h.more) h.spells }

at_after : {X : Type 0} (Q : X → List ℕ → Type 0) (bytes : List ℕ) (left : ℕ) (s : Stuck Q bytes left) (before : List ℕ) (d : ℕ) (more : List ℕ) → IsBytes bytes → bytes ≡ before ++ d ∷ more
    → length (d ∷ more) ≤ left → Begins Q (before ++ d ∷ []) → (after : List ℕ) → s.after ≡ after → ⊥
at_after Q bytes left s before d more fits split le begun [] is = let l = s.left_is in let n = ap length is in omega (arith, l, n)
at_after Q bytes left s before d more fits split le begun (e ∷ after) is =
    let here : (s.before ++ e ∷ []) ++ after ≡ (before ++ d ∷ []) ++ more =
    append_assoc s.before (e ∷ []) after ∙ ap (λ (l : List ℕ). s.before ++ l) (sym is) ∙ sym s.split ∙ split ∙ sym (append_assoc before (d ∷ []) more) in
    elim (fronts_meet (s.before ++ e ∷ []) after (before ++ d ∷ []) more here) [
      | inl m ↦
          let front_fits : IsBytes (before ++ d ∷ []) = IsBytes-front (before ++ d ∷ []) more (subst IsBytes (split ∙ sym (append_assoc before (d ∷ []) more)) fits) in
          let m_fits : IsBytes m.0 = IsBytes-rest (s.before ++ e ∷ []) m.0 (subst IsBytes m.1 front_fits) in
          s.bad e after is (begins_front Q (s.before ++ e ∷ []) m.0 m_fits (subst (Begins Q) m.1 begun))
      | inr m ↦
          let l = s.left_is in
          let n = ap length is in
          let total = ap length here in
          let x = length-append (s.before ++ e ∷ []) after in
          let y = length-append (before ++ d ∷ []) more in
          let z = ap length m.1 in
          let w = length-append (before ++ d ∷ []) m.0 in
          let none : m.0 ≡ [] = nil_from_length m.0 (omega (arith, l, n, total, x, y, z, w)) in
          let same : before ++ d ∷ [] ≡ s.before ++ e ∷ [] = sym (m.1 ∙ ap (λ (k : List ℕ). (before ++ d ∷ []) ++ k) none ∙ append-nil (before ++ d ∷ [])) in
          s.bad e after is (subst (Begins Q) same begun)
    ]

-- a form that stopped no later doesn't begin with the bytes up to there
stopped_before : {X : Type 0} (Q : X → List ℕ → Type 0) (bytes : List ℕ) (left : ℕ) (s : Stuck Q bytes left) (before : List ℕ) (d : ℕ) (more : List ℕ) → IsBytes bytes → bytes ≡ before ++ d ∷ more
    → length (d ∷ more) ≤ left → Begins Q (before ++ d ∷ []) → ⊥
stopped_before Q bytes left s before d more fits split le begun = at_after Q bytes left s before d more fits split le begun s.after refl

-- either of two forms
abbrev pub Either : {X : Type 0} → (X → List ℕ → Type 0) → (X → List ℕ → Type 0) → X → List ℕ → Type 0
Either P Q x bytes = P x bytes ⊎ Q x bytes

pub either_stuck : {X : Type 0} (P Q : X → List ℕ → Type 0) (bytes : List ℕ) (l m : ℕ) → IsBytes bytes → Stuck P bytes l → Stuck Q bytes m → Stuck (Either P Q) bytes (min l m)
either_stuck P Q bytes l m fits s t =
    elim (cases_lt m l) [
      | inl lt ↦ record {
        before = t.before;
        after = t.after;
        split = t.split;
        left_is = (let k = t.left_is in omega arith);
        begins = record { value = t.begins.value; more = t.begins.more; are_bytes = t.begins.are_bytes; spells = inr t.begins.spells };
        bad = λ b more next begun.
            let split : bytes ≡ t.before ++ b ∷ more = t.split ∙ ap (λ (k : List ℕ). t.before ++ k) next in
            elim begun.spells [
              | inl p ↦ stopped_before P bytes l s t.before b more fits split (let k = t.left_is in let n = ap length next in omega (arith, k, n)) (record { value = begun.value; more = begun.more; are_bytes = begun.are_bytes; spells = p })
              | inr q ↦ t.bad b more next (record { value = begun.value; more = begun.more; are_bytes = begun.are_bytes; spells = q })
            ];
      }
      | inr le ↦ record {
        before = s.before;
        after = s.after;
        split = s.split;
        left_is = (let k = s.left_is in omega arith);
        begins = record { value = s.begins.value; more = s.begins.more; are_bytes = s.begins.are_bytes; spells = inl s.begins.spells };
        bad = λ b more next begun.
            let split : bytes ≡ s.before ++ b ∷ more = s.split ∙ ap (λ (k : List ℕ). s.before ++ k) next in
            elim begun.spells [
              | inl p ↦ s.bad b more next (record { value = begun.value; more = begun.more; are_bytes = begun.are_bytes; spells = p })
              | inr q ↦ stopped_before Q bytes m t s.before b more fits split (let k = s.left_is in let n = ap length next in omega (arith, k, n)) (record { value = begun.value; more = begun.more; are_bytes = begun.are_bytes; spells = q })
            ];
      }
    ]

pub or_ok : {A : Type 0} (r s : Result A ℕ) (x : A) → or_else r s ≡ Ok x → (r ≡ Ok x) ⊎ (s ≡ Ok x)
or_ok (Ok y) s x e = inl e
or_ok (Err l) (Ok y) x e = inr e
or_ok (Err l) (Err m) x e = absurd cc

pub or_err : {A : Type 0} (r s : Result A ℕ) (left : ℕ) → or_else r s ≡ Err left → (l : ℕ) × (m : ℕ) × (r ≡ Err l) × (s ≡ Err m) × (min l m ≡ left)
or_err (Ok y) s left e = absurd cc
or_err (Err l) (Ok y) left e = absurd cc
or_err (Err l) (Err m) left e = (l, m, refl, refl, cc)

-- where the second is read, the first isn't
pub or_second : {A : Type 0} (r s : Result A ℕ) (x : A) → ((y : A) → r ≡ Ok y → ⊥) → s ≡ Ok x → or_else r s ≡ Ok x
or_second (Ok y) s x never e = absurd (never y refl)
or_second (Err l) (Ok y) x never e = e
or_second (Err l) (Err m) x never e = absurd cc

pub or_first : {A : Type 0} (r s : Result A ℕ) (x : A) → r ≡ Ok x → or_else r s ≡ Ok x
or_first (Ok y) s x e = e
or_first (Err l) s x e = absurd cc

pub either_message : {X : Type 0} (P Q : X → List ℕ → Type 0) (r s : List ℕ → Result X ℕ) → IsMessage P r → IsMessage Q s → ((x y : X) (bytes : List ℕ) → P x bytes → Q y bytes → ⊥)
    → IsMessage (Either P Q) (λ (bytes : List ℕ). or_else (r bytes) (s bytes))
either_message {X} P Q r s m n apart = record {
  took = λ bytes x e. elim (or_ok (r bytes) (s bytes) x e) [ inl f ↦ inl (m.took bytes x f) | inr f ↦ inr (n.took bytes x f) ];
  again = λ bytes x h.
      elim h [ inl p ↦ or_first (r bytes) (s bytes) x (m.again bytes x p) | inr q ↦ or_second (r bytes) (s bytes) x (λ y f. apart y x bytes (m.took bytes y f) q) (n.again bytes x q) ];
  stuck = λ bytes left fits e.
      let f = or_err (r bytes) (s bytes) left e in
      subst (Stuck (Either P Q) bytes) f.4 (either_stuck P Q bytes f.0 f.1 fits (m.stuck bytes f.0 fits f.2) (n.stuck bytes f.1 fits f.3));
  some = let b = m.some in record { value = b.value; more = b.more; are_bytes = b.are_bytes; spells = inl b.spells };
}

pub either_field : {X : Type 0} (P Q : X → List ℕ → Type 0) (r s : List ℕ → Result (X × List ℕ) ℕ) → IsField P r → IsField Q s
    → ((x y : X) (f g a b : List ℕ) → P x f → Q y g → f ++ a ≡ g ++ b → ⊥) → IsField (Either P Q) (λ (bytes : List ℕ). or_else (r bytes) (s bytes))
either_field {X} P Q r s m n apart = record {
  took = λ bytes x rest e.
      elim (or_ok (r bytes) (s bytes) (x, rest) e) [ inl f ↦ (let t = m.took bytes x rest f in (t.0, t.1, inl t.2)) | inr f ↦ (let t = n.took bytes x rest f in (t.0, t.1, inr t.2)) ];
  again = λ front rest x h.
      elim h [
        | inl p ↦ or_first (r (front ++ rest)) (s (front ++ rest)) (x, rest) (m.again front rest x p)
        | inr q ↦ or_second (r (front ++ rest)) (s (front ++ rest)) (x, rest) (λ y f. let t = m.took (front ++ rest) y.0 y.1 f in apart y.0 x t.0 front y.1 rest t.2 q (sym t.1)) (n.again front rest x q)
      ];
  stuck = λ bytes left fits e.
      let f = or_err (r bytes) (s bytes) left e in
      subst (Stuck (Either P Q) bytes) f.4 (either_stuck P Q bytes f.0 f.1 fits (m.stuck bytes f.0 fits f.2) (n.stuck bytes f.1 fits f.3));
  some = let b = m.some in record { value = b.value; more = b.more; are_bytes = b.are_bytes; spells = inl b.spells };
}

-- ---- the end

end_took : {X : Type 0} (x : X) (bytes : List ℕ) (y : X) → end_at x bytes ≡ Ok y → (y ≡ x) × IsEnd bytes
end_took x [] y e = (sym (ok_is x y e), refl)
end_took x (b ∷ bytes) y e = absurd cc

end_stuck : {X : Type 0} (x : X) (bytes : List ℕ) (left : ℕ) → end_at x bytes ≡ Err left → Stuck (λ (y : X) (bytes : List ℕ). (y ≡ x) × IsEnd bytes) bytes left
end_stuck x [] left e = absurd cc
end_stuck x (b ∷ bytes) left e =
    let all : suc (length bytes) ≡ left = cc in
    record {
      before = [];
      after = b ∷ bytes;
      split = refl;
      left_is = sym all;
      begins = record { value = x; more = []; are_bytes = tt; spells = (refl, refl) };
      bad = λ d more next begun. let f : d ∷ begun.more ≡ [] = begun.spells.1 in cc;
    }

pub end_message : {X : Type 0} (x : X) → IsMessage (λ (y : X) (bytes : List ℕ). (y ≡ x) × IsEnd bytes) (end_at x)
end_message {X} x = record {
  took = λ bytes y e. end_took x bytes y e;
  again = λ bytes y h. ap (end_at x) h.1 ∙ ap (λ z. Ok z) (sym h.0);
  stuck = λ bytes left fits e. end_stuck x bytes left e;
  some = record { value = x; more = []; are_bytes = tt; spells = (refl, refl) };
}

-- ---- exactly these bytes

literal_took : (expected bytes : List ℕ) (x : Unit {0}) (rest : List ℕ) → literal_at expected bytes ≡ Ok (x, rest) → bytes ≡ expected ++ rest
literal_took [] bytes x rest e = ap (λ (p : Unit {0} × List ℕ). p.1) (ok_is (tt, bytes) (x, rest) e)
literal_took (c ∷ expected) [] x rest e = absurd cc
literal_took (c ∷ expected) (b ∷ bytes) x rest e =
    elim (chosen (b == c) (literal_at expected bytes) (Err (length (b ∷ bytes))) (Ok (x, rest)) e) [
      | inl h ↦ ap (λ (l : List ℕ). b ∷ l) (literal_took expected bytes x rest h.1) ∙ ap (λ (k : ℕ). k ∷ (expected ++ rest)) (eqb-true b c h.0)
      | inr h ↦ absurd (let f : Err (length (b ∷ bytes)) ≡ Ok (x, rest) = h.1 in cc)
    ]

literal_again : (expected rest : List ℕ) → literal_at expected (expected ++ rest) ≡ Ok (tt, rest)
literal_again [] rest = refl
literal_again (c ∷ expected) rest = ap (λ (t : Bool). cond t (literal_at expected (expected ++ rest)) (Err (length (c ∷ (expected ++ rest))))) (eq-eqb c c refl) ∙ literal_again expected rest

literal_stuck : (expected bytes : List ℕ) (left : ℕ) → IsBytes expected → literal_at expected bytes ≡ Err left → Stuck (λ (x : Unit {0}) (b : List ℕ). b ≡ expected) bytes left
literal_stuck [] bytes left ex e = absurd cc
literal_stuck (c ∷ expected) [] left ex e =
    let none : 0 ≡ left = cc in
    record {
      before = [];
      after = [];
      split = refl;
      left_is = sym none;
      begins = record { value = tt; more = c ∷ expected; are_bytes = ex; spells = refl };
      bad = λ b more next begun. (let f : [] ≡ b ∷ more = next in cc);
    }
literal_stuck (c ∷ expected) (b ∷ bytes) left ex e =
    elim (chosen (b == c) (literal_at expected bytes) (Err (length (b ∷ bytes))) (Err left) e) [
      | inl h ↦
          let same = eqb-true b c h.0 in
          let i = literal_stuck expected bytes left ex.1 h.1 in
          record {
            before = b ∷ i.before;
            after = i.after;
            split = ap (λ (l : List ℕ). b ∷ l) i.split;
            left_is = i.left_is;
            begins = record { value = tt; more = i.begins.more; are_bytes = i.begins.are_bytes; spells = ap (λ (l : List ℕ). b ∷ l) i.begins.spells ∙ ap (λ (k : ℕ). k ∷ expected) same };
            bad = λ d more next begun. i.bad d more next (record { value = tt; more = begun.more; are_bytes = begun.are_bytes; spells = (let f : b ∷ ((i.before ++ d ∷ []) ++ begun.more) ≡ c ∷ expected = begun.spells in cc) });
          }
      | inr h ↦
          let all : length (b ∷ bytes) ≡ left = let f : Err (length (b ∷ bytes)) ≡ Err left = h.1 in cc in
          record {
            before = [];
            after = b ∷ bytes;
            split = refl;
            left_is = sym all;
            begins = record { value = tt; more = c ∷ expected; are_bytes = ex; spells = refl };
            bad = λ d more next begun. let first : b ≡ d = cc in let other : d ≡ c = (let f : d ∷ begun.more ≡ c ∷ expected = begun.spells in cc) in eqb-false b c h.0 (first ∙ other);
          }
    ]

pub literal_field : (expected : List ℕ) → IsBytes expected → IsField (λ (x : Unit {0}) (bytes : List ℕ). bytes ≡ expected) (literal_at expected)
literal_field expected ex = record {
  took = λ bytes x rest e. (expected, literal_took expected bytes x rest e, refl);
  again = λ front rest x h. ap (λ (l : List ℕ). literal_at expected (l ++ rest)) h ∙ literal_again expected rest;
  stuck = λ bytes left fits e. literal_stuck expected bytes left ex e;
  some = record { value = tt; more = expected; are_bytes = ex; spells = refl };
}

-- ---- so many bytes

-- a form that any bytes of that width have
pub record IsWide {X : Type 0} (width : ℕ) (value : List ℕ → X) (P : X → List ℕ → Type 0) : Type 0 where
  pub of : (bytes : List ℕ) → length bytes ≡ width → P (value bytes) bytes
  pub sized : (x : X) (bytes : List ℕ) → P x bytes → length bytes ≡ width
  pub value_is : (x : X) (bytes : List ℕ) → P x bytes → x ≡ value bytes

abbrev pub wide_read : {X : Type 0} → ℕ → (List ℕ → X) → List ℕ → Result (X × List ℕ) ℕ
wide_read width value bytes = cond (nat_lt (length bytes) width) (Err 0) (Ok (value (take width bytes), drop width bytes))

pub wide_field : {X : Type 0} (width : ℕ) (value : List ℕ → X) (P : X → List ℕ → Type 0) → IsWide width value P → IsField P (wide_read width value)
wide_field {X} width value P w = record {
  took = λ bytes x rest e.
      elim (chosen (nat_lt (length bytes) width) (Err 0) (Ok (value (take width bytes), drop width bytes)) (Ok (x, rest)) e) [
        | inl h ↦ absurd (let f : Err 0 ≡ Ok (x, rest) = h.1 in cc)
        | inr h ↦
            let p = ok_is (value (take width bytes), drop width bytes) (x, rest) h.1 in
            let long = ltb-false (length bytes) width h.0 in
            let sized : length (take width bytes) ≡ width = omega (arith, length-take width bytes) in (
              take width bytes,
              sym (take-append-drop width bytes) ∙ ap (λ (l : List ℕ). take width bytes ++ l) (ap (λ (q : X × List ℕ). q.1) p),
              subst (λ (y : X). P y (take width bytes)) (ap (λ (q : X × List ℕ). q.0) p) (w.of (take width bytes) sized),
            )
      ];
  again = λ front rest x h.
      let sized = w.sized x front h in
      let long : nat_lt (length (front ++ rest)) width ≡ false = le-ltb (length (front ++ rest)) width (omega (arith, length-append front rest, sized)) in
      ap (λ (t : Bool). cond t (Err 0) (Ok (value (take width (front ++ rest)), drop width (front ++ rest)))) long
      ∙ ap (λ (l : List ℕ). Ok (value l, drop width (front ++ rest))) (take_at front rest width sized)
      ∙ ap (λ (l : List ℕ). Ok (value front, l)) (drop_at front rest width sized)
      ∙ ap (λ (y : X). Ok (y, rest)) (sym (w.value_is x front h));
  stuck = λ bytes left fits e.
      elim (chosen (nat_lt (length bytes) width) (Err 0) (Ok (value (take width bytes), drop width bytes)) (Err left) e) [
        | inr h ↦ absurd (let f : Ok (value (take width bytes), drop width bytes) ≡ Err left = h.1 in cc)
        | inl h ↦
            let none : 0 ≡ left = let f : Err 0 ≡ Err left = h.1 in cc in
            let short = ltb-true (length bytes) width h.0 in
            let pad : List ℕ = replicate (width - length bytes) 0 in
            let sized : length (bytes ++ pad) ≡ width = omega (arith, length-append bytes pad, length-replicate {A = ℕ} (width - length bytes) 0) in
            record {
              before = bytes;
              after = [];
              split = sym (append-nil bytes);
              left_is = sym none;
              begins = record { value = value (bytes ++ pad); more = pad; are_bytes = zeros_are_bytes (width - length bytes); spells = w.of (bytes ++ pad) sized };
              bad = λ b more next begun. (let f : [] ≡ b ∷ more = next in cc);
            }
      ];
  some = let pad : List ℕ = replicate width 0 in record { value = value pad; more = pad; are_bytes = zeros_are_bytes width; spells = w.of pad (length-replicate {A = ℕ} width 0) };
}

pub int_field : (width : ℕ) → IsField (IsInt width) (int_at width)
int_field width = wide_field width (little_number width) (IsInt width) (record { of = λ bytes e. (e, refl); sized = λ x bytes h. h.0; value_is = λ x bytes h. h.1 })

pub fixed_field : (width : ℕ) → IsField (IsFixed width) (fixed_at width)
fixed_field width = wide_field width (λ bytes. bytes) (IsFixed width) (record { of = λ bytes e. (refl, e); sized = λ x bytes h. ap length h.0 ∙ h.1; value_is = λ x bytes h. sym h.0 })

-- ---- a length-encoded number

number_took : (bytes : List ℕ) (r : Lenenc) (n : ℕ) (rest : List ℕ) → lenenc_at bytes ≡ r → number_from bytes r ≡ Ok (n, rest) → (front : List ℕ) × (bytes ≡ front ++ rest) × IsNumber n front
number_took bytes (Number value used) n rest is e =
    let p = ok_is (value, drop used bytes) (n, rest) e in
    let f = lenenc_found bytes value used is in (
      take used bytes,
      sym (take-append-drop used bytes) ∙ ap (λ (l : List ℕ). take used bytes ++ l) (ap (λ (q : ℕ × List ℕ). q.1) p),
      subst (λ (m : ℕ). IsNumber m (take used bytes)) (ap (λ (q : ℕ × List ℕ). q.0) p) f.1,
    )
number_took bytes Null n rest is e = absurd cc
number_took bytes Short n rest is e = absurd cc
number_took bytes Bad n rest is e = absurd cc

number_none : (bytes : List ℕ) (left : ℕ) → (lenenc_at bytes ≡ Null) ⊎ (lenenc_at bytes ≡ Bad) → left ≡ length bytes → Stuck IsNumber bytes left
number_none bytes left e is = record {
  before = [];
  after = bytes;
  split = refl;
  left_is = is;
  begins = record { value = one_positive.value; more = one_positive.more; are_bytes = one_positive.are_bytes; spells = one_positive.spells.0 };
  bad = λ b more next begun. no_number bytes e b more next begun.value begun.more begun.spells;
}

number_stuck : (bytes : List ℕ) (r : Lenenc) (left : ℕ) → lenenc_at bytes ≡ r → number_from bytes r ≡ Err left → Stuck IsNumber bytes left
number_stuck bytes (Number value used) left is e = absurd cc
number_stuck bytes Null left is e = number_none bytes left (inl is) (let f : length bytes ≡ left = cc in sym f)
number_stuck bytes Bad left is e = number_none bytes left (inr is) (let f : length bytes ≡ left = cc in sym f)
number_stuck bytes Short left is e =
    let b = lenenc_short bytes is in
    let none : 0 ≡ left = cc in
    record {
      before = bytes;
      after = [];
      split = sym (append-nil bytes);
      left_is = sym none;
      begins = record { value = b.value; more = b.more; are_bytes = b.are_bytes; spells = b.spells.0 };
      bad = λ d more next begun. (let f : [] ≡ d ∷ more = next in cc);
    }

pub number_field : IsField IsNumber number_at
number_field = record {
  took = λ bytes n rest e. number_took bytes (lenenc_at bytes) n rest refl e;
  again = λ front rest n h. ap (number_from (front ++ rest)) (lenenc_again front rest n h) ∙ ap (λ (l : List ℕ). Ok (n, l)) (drop_at front rest (length front) refl);
  stuck = λ bytes left fits e. number_stuck bytes (lenenc_at bytes) left refl e;
  some = record { value = one_positive.value; more = one_positive.more; are_bytes = one_positive.are_bytes; spells = one_positive.spells.0 };
}

-- Texts in UTF-8 are read exactly, whether their length is told, NUL ends them, or the bytes do.
use Rattle.std.proofs.Common.{◌≡◌, ℕ, zero, suc, ◌≤◌, ◌⊎◌, Bool, true, false, cond, ◌&&◌, List, [], ◌∷◌, ◌++◌, length, take, drop, None, Result, Ok, Err, refl, sym, ap, subst, ◌∙◌, inl, inr, arith, nat_le, ◌==◌, le-leb, eq-eqb, ne_eqb}
use Rattle.std.specs.Str.{IsUtf8}
use Rattle.std.proofs.lemmas.List.{take-append-drop, take_at, length-take, length-append}
use Rattle.std.proofs.lemmas.Bool.{and_parts, leb-true, eqb-true, eqb-false}
use Rattle.simdutf8.specs.Steps.{IsClosed, Step, first, second, later, StepsThen}
use Rattle.simdutf8.proofs.Chars.{least_is, StepsThen-IsUtf8}
use Rattle.my_wire.specs.Grammar.{Begins}
use Rattle.my_wire.proofs.Fields.{IsBytes-append, Stuck, IsField, IsMessage, ok_is}
use Rattle.my_messages.specs.Fields.{HasNoNul}
use Rattle.my_messages.specs.Utf8.{owed, may_follow, and_then, and_all, sized_after, nul_after, all_after, bad_of}
use Rattle.my_messages.proofs.Utf8Steps.{State, closed, may_closed, step_of, next_state, may_of, due_bytes, closed_of, owed_of, filled, finished}

-- which way a test went
pub chosen : {A : Type 0} (c : Bool) (x y z : A) → cond c x y ≡ z → ((c ≡ true) × (x ≡ z)) ⊎ ((c ≡ false) × (y ≡ z))
chosen true x y z e = inl (refl, e)
chosen false x y z e = inr (refl, e)

and_true : (a b : Bool) → a ≡ true → b ≡ true → (a && b) ≡ true
and_true a b p q = rw (p, q) refl

not_both : (c : Bool) → c ≡ true → c ≡ false → ⊥
not_both c p q = let e : true ≡ false = sym p ∙ q in cc

ok_pair : (a c : List ℕ) (b d : List ℕ) → (let r : Result (List ℕ × List ℕ) ℕ = Ok (a, b) in r ≡ Ok (c, d)) → (a ≡ c) × (b ≡ d)
ok_pair a c b d e = let p = ok_is (a, b) (c, d) e in (ap (λ (q : List ℕ × List ℕ). q.0) p, ap (λ (q : List ℕ × List ℕ). q.1) p)

then_ok : (b : ℕ) (r : Result (List ℕ × List ℕ) ℕ) (t rest : List ℕ) → and_then b r ≡ Ok (t, rest) → (u : List ℕ) × (r ≡ Ok (u, rest)) × (t ≡ b ∷ u)
then_ok b (Ok p) t rest e =
    let parts = ok_pair (b ∷ p.0) t p.1 rest e in
    (p.0, ap (λ (q : List ℕ). Ok (p.0, q)) parts.1, sym parts.0)
then_ok b (Err left) t rest e = absurd cc

then_err : (b : ℕ) (r : Result (List ℕ × List ℕ) ℕ) (left : ℕ) → and_then b r ≡ Err left → r ≡ Err left
then_err b (Ok p) left e = absurd cc
then_err b (Err l) left e = cc

-- ---- a text of so many bytes

pub record SizedAfter (x y z n : ℕ) (t bytes : List ℕ) : Type 0 where
  pub whole : bytes ≡ t
  pub sized : length t ≡ n
  pub steps : StepsThen IsClosed x y z t

sized_took : (n x y z : ℕ) (bytes t rest : List ℕ) → State x y z → owed x y z ≤ n → sized_after x y z n bytes ≡ Ok (t, rest) → (bytes ≡ t ++ rest) × SizedAfter x y z n t t
sized_took zero x y z bytes t rest s le e =
    let parts = ok_pair [] t bytes rest e in
    let none : [] ≡ t = parts.0 in
    let all : bytes ≡ rest = parts.1 in
    (subst (λ (u : List ℕ). bytes ≡ u ++ rest) none all, record { whole = refl; sized = sym (ap length none); steps = subst (StepsThen IsClosed x y z) none (closed_of x y z s (omega arith)) })
sized_took (suc n) x y z [] t rest s le e = absurd cc
sized_took (suc n) x y z (b ∷ bytes) t rest s le e =
    elim (chosen (may_follow x y z b && nat_le (owed y z b) n) (and_then b (sized_after y z b n bytes)) (Err (length (b ∷ bytes))) (Ok (t, rest)) e) [
      | inl h ↦
          let tests = and_parts (may_follow x y z b) (nat_le (owed y z b) n) h.0 in
          let u = then_ok b (sized_after y z b n bytes) t rest h.1 in
          let le' = leb-true (owed y z b) n tests.1 in
          let i = sized_took n y z b bytes u.0 rest (next_state x y z b s tests.0) le' u.1 in (
            ap (λ (l : List ℕ). b ∷ l) i.0 ∙ ap (λ (l : List ℕ). l ++ rest) (sym u.2),
            record { whole = refl; sized = ap length u.2 ∙ ap suc i.1.sized; steps = subst (StepsThen IsClosed x y z) (sym u.2) (step_of x y z b s tests.0, i.1.steps) },
          )
      | inr h ↦ absurd (let f : Err (length (b ∷ bytes)) ≡ Ok (t, rest) = h.1 in cc)
    ]

pub sized_again : (n x y z : ℕ) (t rest : List ℕ) → State x y z → length t ≡ n → StepsThen IsClosed x y z t → sized_after x y z n (t ++ rest) ≡ Ok (t, rest)
sized_again zero x y z [] rest s l h = refl
sized_again zero x y z (b ∷ t) rest s l h = absurd (omega arith)
sized_again (suc n) x y z [] rest s l h = absurd (omega arith)
sized_again (suc n) x y z (b ∷ t) rest s l h =
    let may = may_of x y z b t s h.0 h.1 in
    let next = next_state x y z b s may in
    let due = due_bytes y z b t next h.1 in
    let fits : nat_le (owed y z b) n ≡ true = le-leb (owed y z b) n (omega arith) in
    let test = and_true (may_follow x y z b) (nat_le (owed y z b) n) may fits in
    ap (λ (c : Bool). cond c (and_then b (sized_after y z b n (t ++ rest))) (Err (length (b ∷ (t ++ rest))))) test
    ∙ ap (and_then b) (sized_again n y z b t rest next (omega arith) h.1)

sized_begins : (n x y z : ℕ) → State x y z → owed x y z ≤ n → Begins (SizedAfter x y z n) []
sized_begins n x y z s le =
    let t = filled n x y z s le in record { value = t.0; more = t.0; are_bytes = t.3; spells = record { whole = refl; sized = t.1; steps = t.2 } }

-- what a text begins with behind its first byte is the beginning of the rest
sized_tail : (n x y z b : ℕ) (front more t : List ℕ) → SizedAfter x y z (suc n) t (b ∷ (front ++ more)) → (u : List ℕ) × SizedAfter y z b n u (front ++ more)
sized_tail n x y z b front more [] h = absurd (let e = h.sized in omega arith)
sized_tail n x y z b front more (c ∷ u) h =
    let same : b ≡ c = let e = h.whole in cc in
    let tails : front ++ more ≡ u = let e = h.whole in cc in
    (u, record { whole = tails; sized = (let e = h.sized in omega arith); steps = subst (λ (k : ℕ). StepsThen IsClosed y z k u) (sym same) h.steps.1 })

sized_less : (n x y z b : ℕ) (front : List ℕ) → (Begins (SizedAfter y z b n) front → ⊥) → Begins (SizedAfter x y z (suc n)) (b ∷ front) → ⊥
sized_less n x y z b front never begun =
    let u = sized_tail n x y z b front begun.more begun.value begun.spells in
    never (record { value = u.0; more = begun.more; are_bytes = begun.are_bytes; spells = u.1 })

sized_no_text : (n x y z b : ℕ) (more t : List ℕ) → State x y z → (may_follow x y z b && nat_le (owed y z b) n) ≡ false → SizedAfter x y z (suc n) t (b ∷ more) → ⊥
sized_no_text n x y z b more [] s test h = let e = h.sized in omega arith
sized_no_text n x y z b more (c ∷ u) s test h =
    let same : b ≡ c = let e = h.whole in cc in
    let steps : Step x y z b × StepsThen IsClosed y z b u = subst (λ (k : ℕ). Step x y z k × StepsThen IsClosed y z k u) (sym same) h.steps in
    let may = may_of x y z b u s steps.0 steps.1 in
    let due = due_bytes y z b u (next_state x y z b s may) steps.1 in
    let sized = h.sized in
    not_both (may_follow x y z b && nat_le (owed y z b) n) (and_true (may_follow x y z b) (nat_le (owed y z b) n) may (le-leb (owed y z b) n (omega arith))) test

sized_no : (n x y z b : ℕ) → State x y z → (may_follow x y z b && nat_le (owed y z b) n) ≡ false → Begins (SizedAfter x y z (suc n)) (b ∷ []) → ⊥
sized_no n x y z b s test begun = sized_no_text n x y z b begun.more begun.value s test begun.spells

sized_stuck : (n x y z : ℕ) (bytes : List ℕ) (left : ℕ) → State x y z → owed x y z ≤ n → sized_after x y z n bytes ≡ Err left → Stuck (SizedAfter x y z n) bytes left
sized_stuck zero x y z bytes left s le e = absurd cc
sized_stuck (suc n) x y z [] left s le e =
    let none : 0 ≡ left = cc in
    record { before = []; after = []; split = refl; left_is = sym none; begins = sized_begins (suc n) x y z s le; bad = λ b more next begun. absurd (let f : [] ≡ b ∷ more = next in cc) }
sized_stuck (suc n) x y z (b ∷ bytes) left s le e =
    elim (chosen (may_follow x y z b && nat_le (owed y z b) n) (and_then b (sized_after y z b n bytes)) (Err (length (b ∷ bytes))) (Err left) e) [
      | inl h ↦
          let tests = and_parts (may_follow x y z b) (nat_le (owed y z b) n) h.0 in
          let le' = leb-true (owed y z b) n tests.1 in
          let i = sized_stuck n y z b bytes left (next_state x y z b s tests.0) le' (then_err b (sized_after y z b n bytes) left h.1) in
          record {
            before = b ∷ i.before;
            after = i.after;
            split = ap (λ (l : List ℕ). b ∷ l) i.split;
            left_is = i.left_is;
            begins = record {
              value = b ∷ i.begins.value;
              more = i.begins.more;
              are_bytes = i.begins.are_bytes;
              spells = record { whole = ap (λ (l : List ℕ). b ∷ l) i.begins.spells.whole; sized = ap suc i.begins.spells.sized; steps = (step_of x y z b s tests.0, i.begins.spells.steps) };
            };
            bad = λ d more next begun. sized_less n x y z b (i.before ++ d ∷ []) (i.bad d more next) begun;
          }
      | inr h ↦
          let all : length (b ∷ bytes) ≡ left = let f : Err (length (b ∷ bytes)) ≡ Err left = h.1 in cc in
          record {
            before = [];
            after = b ∷ bytes;
            split = refl;
            left_is = sym all;
            begins = sized_begins (suc n) x y z s le;
            bad = λ d more next begun. let same : b ≡ d = cc in sized_no n x y z b s h.0 (subst (λ (k : ℕ). Begins (SizedAfter x y z (suc n)) (k ∷ [])) (sym same) begun);
          }
    ]

pub sized_field : (n x y z : ℕ) → State x y z → owed x y z ≤ n → IsField (SizedAfter x y z n) (sized_after x y z n)
sized_field n x y z s le = record {
  took = λ bytes t rest e. let h = sized_took n x y z bytes t rest s le e in (t, h.0, h.1);
  again = λ front rest t h. ap (λ (l : List ℕ). sized_after x y z n (l ++ rest)) h.whole ∙ sized_again n x y z t rest s h.sized h.steps;
  stuck = λ bytes left fits e. sized_stuck n x y z bytes left s le e;
  some = sized_begins n x y z s le;
}

-- ---- a text that NUL ends

pub record NulAfter (x y z : ℕ) (t bytes : List ℕ) : Type 0 where
  pub whole : bytes ≡ t ++ 0 ∷ []
  pub no_nul : HasNoNul t
  pub steps : StepsThen IsClosed x y z t

-- NUL ends only a text in which no character is open
nul_closed : (x y z : ℕ) → State x y z → may_follow x y z 0 ≡ true → IsClosed x y z
nul_closed x y z s may =
    elim (step_of x y z 0 s may) [
      | first c h ↦ c
      | second c h f ↦ absurd (let l = least_is z in omega arith)
      | later c h f ↦ absurd (omega arith)
    ]

nul_took : (x y z : ℕ) (bytes t rest : List ℕ) → State x y z → nul_after x y z bytes ≡ Ok (t, rest) → (bytes ≡ (t ++ 0 ∷ []) ++ rest) × NulAfter x y z t (t ++ 0 ∷ [])
nul_took x y z [] t rest s e = absurd cc
nul_took x y z (b ∷ bytes) t rest s e =
    elim (chosen (may_follow x y z b) (cond (b == 0) (Ok ([], bytes)) (and_then b (nul_after y z b bytes))) (Err (length (b ∷ bytes))) (Ok (t, rest)) e) [
      | inl h ↦ elim (chosen (b == 0) (Ok ([], bytes)) (and_then b (nul_after y z b bytes)) (Ok (t, rest)) h.1) [
        | inl i ↦
            let parts = ok_pair [] t bytes rest i.1 in
            let zero_byte : b ≡ 0 = eqb-true b 0 i.0 in
            let c = nul_closed x y z s (subst (λ (k : ℕ). may_follow x y z k ≡ true) zero_byte h.0) in (
              subst (λ (u : List ℕ). b ∷ bytes ≡ (u ++ 0 ∷ []) ++ rest) parts.0 (subst (λ (k : ℕ). k ∷ bytes ≡ 0 ∷ rest) (sym zero_byte) (ap (λ (l : List ℕ). 0 ∷ l) parts.1)),
              record { whole = refl; no_nul = subst HasNoNul parts.0 tt; steps = subst (StepsThen IsClosed x y z) parts.0 c },
            )
        | inr i ↦
            let u = then_ok b (nul_after y z b bytes) t rest i.1 in
            let j = nul_took y z b bytes u.0 rest (next_state x y z b s h.0) u.1 in (
              ap (λ (l : List ℕ). b ∷ l) j.0 ∙ ap (λ (l : List ℕ). (l ++ 0 ∷ []) ++ rest) (sym u.2),
              record { whole = refl; no_nul = subst HasNoNul (sym u.2) (eqb-false b 0 i.0, j.1.no_nul); steps = subst (StepsThen IsClosed x y z) (sym u.2) (step_of x y z b s h.0, j.1.steps) },
            )
      ]
      | inr h ↦ absurd (let f : Err (length (b ∷ bytes)) ≡ Ok (t, rest) = h.1 in cc)
    ]

nul_again : (x y z : ℕ) (t rest : List ℕ) → State x y z → HasNoNul t → StepsThen IsClosed x y z t → nul_after x y z ((t ++ 0 ∷ []) ++ rest) ≡ Ok (t, rest)
nul_again x y z [] rest s nn h =
    let may : may_follow x y z 0 ≡ true = may_closed x y z 0 h.0 h.1 h.2 (inl (omega arith)) in
    ap (λ (c : Bool). cond c (Ok ([], rest)) (Err (suc (length rest)))) may
nul_again x y z (b ∷ t) rest s nn h =
    let may = may_of x y z b t s h.0 h.1 in
    let not_nul : (b == 0) ≡ false = ne_eqb b 0 nn.0 in
    ap (λ (c : Bool). cond c (cond (b == 0) (Ok ([], (t ++ 0 ∷ []) ++ rest)) (and_then b (nul_after y z b ((t ++ 0 ∷ []) ++ rest)))) (Err (length (b ∷ ((t ++ 0 ∷ []) ++ rest))))) may
    ∙ ap (λ (c : Bool). cond c (Ok ([], (t ++ 0 ∷ []) ++ rest)) (and_then b (nul_after y z b ((t ++ 0 ∷ []) ++ rest)))) not_nul
    ∙ ap (and_then b) (nul_again y z b t rest (next_state x y z b s may) nn.1 h.1)

nul_begins : (x y z : ℕ) → State x y z → Begins (NulAfter x y z) []
nul_begins x y z s =
    let t = finished (owed x y z) x y z s refl in
    record { value = t.0; more = t.0 ++ 0 ∷ []; are_bytes = IsBytes-append t.0 (0 ∷ []) t.2 (omega arith, tt); spells = record { whole = refl; no_nul = t.3; steps = t.1 } }

-- what a text begins with behind its first byte, which isn't NUL, is the beginning of the rest
nul_tail : (x y z b : ℕ) (front more t : List ℕ) → (b ≡ 0 → ⊥) → NulAfter x y z t (b ∷ (front ++ more)) → (u : List ℕ) × NulAfter y z b u (front ++ more)
nul_tail x y z b front more [] not_nul h = absurd (not_nul (let e = h.whole in cc))
nul_tail x y z b front more (c ∷ u) not_nul h =
    let same : b ≡ c = let e = h.whole in cc in
    let tails : front ++ more ≡ u ++ 0 ∷ [] = let e = h.whole in cc in
    (u, record { whole = tails; no_nul = h.no_nul.1; steps = subst (λ (k : ℕ). StepsThen IsClosed y z k u) (sym same) h.steps.1 })

nul_less : (x y z b : ℕ) (front : List ℕ) → (b ≡ 0 → ⊥) → (Begins (NulAfter y z b) front → ⊥) → Begins (NulAfter x y z) (b ∷ front) → ⊥
nul_less x y z b front not_nul never begun =
    let u = nul_tail x y z b front begun.more begun.value not_nul begun.spells in
    never (record { value = u.0; more = begun.more; are_bytes = begun.are_bytes; spells = u.1 })

nul_no_text : (x y z b : ℕ) (more t : List ℕ) → State x y z → may_follow x y z b ≡ false → NulAfter x y z t (b ∷ more) → ⊥
nul_no_text x y z b more [] s test h =
    let same : b ≡ 0 = let e = h.whole in cc in
    let c = h.steps in
    not_both (may_follow x y z b) (subst (λ (k : ℕ). may_follow x y z k ≡ true) (sym same) (may_closed x y z 0 c.0 c.1 c.2 (inl (omega arith)))) test
nul_no_text x y z b more (c ∷ u) s test h =
    let same : b ≡ c = let e = h.whole in cc in
    let steps : Step x y z b × StepsThen IsClosed y z b u = subst (λ (k : ℕ). Step x y z k × StepsThen IsClosed y z k u) (sym same) h.steps in
    not_both (may_follow x y z b) (may_of x y z b u s steps.0 steps.1) test

nul_stuck : (x y z : ℕ) (bytes : List ℕ) (left : ℕ) → State x y z → nul_after x y z bytes ≡ Err left → Stuck (NulAfter x y z) bytes left
nul_stuck x y z [] left s e =
    let none : 0 ≡ left = cc in
    record { before = []; after = []; split = refl; left_is = sym none; begins = nul_begins x y z s; bad = λ b more next begun. absurd (let f : [] ≡ b ∷ more = next in cc) }
nul_stuck x y z (b ∷ bytes) left s e =
    elim (chosen (may_follow x y z b) (cond (b == 0) (Ok ([], bytes)) (and_then b (nul_after y z b bytes))) (Err (length (b ∷ bytes))) (Err left) e) [
      | inl h ↦ elim (chosen (b == 0) (Ok ([], bytes)) (and_then b (nul_after y z b bytes)) (Err left) h.1) [
        | inl j ↦ absurd (let f : Ok ([], bytes) ≡ Err left = j.1 in cc)
        | inr j ↦
            let not_nul = eqb-false b 0 j.0 in
            let i = nul_stuck y z b bytes left (next_state x y z b s h.0) (then_err b (nul_after y z b bytes) left j.1) in
            record {
              before = b ∷ i.before;
              after = i.after;
              split = ap (λ (l : List ℕ). b ∷ l) i.split;
              left_is = i.left_is;
              begins = record {
                value = b ∷ i.begins.value;
                more = i.begins.more;
                are_bytes = i.begins.are_bytes;
                spells = record { whole = ap (λ (l : List ℕ). b ∷ l) i.begins.spells.whole; no_nul = (not_nul, i.begins.spells.no_nul); steps = (step_of x y z b s h.0, i.begins.spells.steps) };
              };
              bad = λ d more next begun. nul_less x y z b (i.before ++ d ∷ []) not_nul (i.bad d more next) begun;
            }
      ]
      | inr h ↦
          let all : length (b ∷ bytes) ≡ left = let f : Err (length (b ∷ bytes)) ≡ Err left = h.1 in cc in
          record {
            before = [];
            after = b ∷ bytes;
            split = refl;
            left_is = sym all;
            begins = nul_begins x y z s;
            bad = λ d more next begun. let same : b ≡ d = cc in nul_no_text x y z b begun.more begun.value s h.0 (subst (λ (k : ℕ). NulAfter x y z begun.value (k ∷ begun.more)) (sym same) begun.spells);
          }
    ]

pub nul_field : (x y z : ℕ) → State x y z → IsField (NulAfter x y z) (nul_after x y z)
nul_field x y z s = record {
  took = λ bytes t rest e. let h = nul_took x y z bytes t rest s e in (t ++ 0 ∷ [], h.0, h.1);
  again = λ front rest t h. ap (λ (l : List ℕ). nul_after x y z (l ++ rest)) h.whole ∙ nul_again x y z t rest s h.no_nul h.steps;
  stuck = λ bytes left fits e. nul_stuck x y z bytes left s e;
  some = nul_begins x y z s;
}

-- ---- a text that the bytes end

pub record AllAfter (x y z : ℕ) (t bytes : List ℕ) : Type 0 where
  pub whole : bytes ≡ t
  pub steps : StepsThen IsClosed x y z t

all_ok : (b : ℕ) (r : Result (List ℕ) ℕ) (t : List ℕ) → and_all b r ≡ Ok t → (u : List ℕ) × (r ≡ Ok u) × (t ≡ b ∷ u)
all_ok b (Ok u) t e = (u, refl, sym (ok_is (b ∷ u) t e))
all_ok b (Err left) t e = absurd cc

all_err : (b : ℕ) (r : Result (List ℕ) ℕ) (left : ℕ) → and_all b r ≡ Err left → r ≡ Err left
all_err b (Ok u) left e = absurd cc
all_err b (Err l) left e = cc

all_took : (x y z : ℕ) (bytes t : List ℕ) → State x y z → all_after x y z bytes ≡ Ok t → AllAfter x y z t bytes
all_took x y z [] t s e =
    elim (chosen (owed x y z == 0) (Ok []) (Err 0) (Ok t) e) [
      | inl h ↦ let none = ok_is [] t h.1 in record { whole = none; steps = subst (StepsThen IsClosed x y z) none (closed_of x y z s (eqb-true (owed x y z) 0 h.0)) }
      | inr h ↦ absurd (let f : Err 0 ≡ Ok t = h.1 in cc)
    ]
all_took x y z (b ∷ bytes) t s e =
    elim (chosen (may_follow x y z b) (and_all b (all_after y z b bytes)) (Err (length (b ∷ bytes))) (Ok t) e) [
      | inl h ↦
          let u = all_ok b (all_after y z b bytes) t h.1 in
          let i = all_took y z b bytes u.0 (next_state x y z b s h.0) u.1 in
          record { whole = ap (λ (l : List ℕ). b ∷ l) i.whole ∙ sym u.2; steps = subst (StepsThen IsClosed x y z) (sym u.2) (step_of x y z b s h.0, i.steps) }
      | inr h ↦ absurd (let f : Err (length (b ∷ bytes)) ≡ Ok t = h.1 in cc)
    ]

all_again : (x y z : ℕ) (t : List ℕ) → State x y z → StepsThen IsClosed x y z t → all_after x y z t ≡ Ok t
all_again x y z [] s h = ap (λ (c : Bool). cond c (Ok []) (Err 0)) (eq-eqb (owed x y z) 0 (owed_of x y z h))
all_again x y z (b ∷ t) s h =
    let may = may_of x y z b t s h.0 h.1 in
    ap (λ (c : Bool). cond c (and_all b (all_after y z b t)) (Err (length (b ∷ t)))) may ∙ ap (and_all b) (all_again y z b t (next_state x y z b s may) h.1)

all_begins : (x y z : ℕ) → State x y z → Begins (AllAfter x y z) []
all_begins x y z s =
    let t = finished (owed x y z) x y z s refl in record { value = t.0; more = t.0; are_bytes = t.2; spells = record { whole = refl; steps = t.1 } }

all_tail : (x y z b : ℕ) (front more t : List ℕ) → AllAfter x y z t (b ∷ (front ++ more)) → (u : List ℕ) × AllAfter y z b u (front ++ more)
all_tail x y z b front more [] h = absurd (let e = h.whole in cc)
all_tail x y z b front more (c ∷ u) h =
    let same : b ≡ c = let e = h.whole in cc in
    let tails : front ++ more ≡ u = let e = h.whole in cc in
    (u, record { whole = tails; steps = subst (λ (k : ℕ). StepsThen IsClosed y z k u) (sym same) h.steps.1 })

all_less : (x y z b : ℕ) (front : List ℕ) → (Begins (AllAfter y z b) front → ⊥) → Begins (AllAfter x y z) (b ∷ front) → ⊥
all_less x y z b front never begun =
    let u = all_tail x y z b front begun.more begun.value begun.spells in never (record { value = u.0; more = begun.more; are_bytes = begun.are_bytes; spells = u.1 })

all_no_text : (x y z b : ℕ) (more t : List ℕ) → State x y z → may_follow x y z b ≡ false → AllAfter x y z t (b ∷ more) → ⊥
all_no_text x y z b more [] s test h = let e : b ∷ more ≡ [] = h.whole in cc
all_no_text x y z b more (c ∷ u) s test h =
    let same : b ≡ c = let e = h.whole in cc in
    let steps : Step x y z b × StepsThen IsClosed y z b u = subst (λ (k : ℕ). Step x y z k × StepsThen IsClosed y z k u) (sym same) h.steps in
    not_both (may_follow x y z b) (may_of x y z b u s steps.0 steps.1) test

all_stuck : (x y z : ℕ) (bytes : List ℕ) (left : ℕ) → State x y z → all_after x y z bytes ≡ Err left → Stuck (AllAfter x y z) bytes left
all_stuck x y z [] left s e =
    elim (chosen (owed x y z == 0) (Ok []) (Err 0) (Err left) e) [
      | inl h ↦ absurd (let f : Ok [] ≡ Err left = h.1 in cc)
      | inr h ↦
          let none : 0 ≡ left = let f : Err 0 ≡ Err left = h.1 in cc in
          record { before = []; after = []; split = refl; left_is = sym none; begins = all_begins x y z s; bad = λ b more next begun. absurd (let f : [] ≡ b ∷ more = next in cc) }
    ]
all_stuck x y z (b ∷ bytes) left s e =
    elim (chosen (may_follow x y z b) (and_all b (all_after y z b bytes)) (Err (length (b ∷ bytes))) (Err left) e) [
      | inl h ↦
          let i = all_stuck y z b bytes left (next_state x y z b s h.0) (all_err b (all_after y z b bytes) left h.1) in
          record {
            before = b ∷ i.before;
            after = i.after;
            split = ap (λ (l : List ℕ). b ∷ l) i.split;
            left_is = i.left_is;
            begins = record {
              value = b ∷ i.begins.value;
              more = i.begins.more;
              are_bytes = i.begins.are_bytes;
              spells = record { whole = ap (λ (l : List ℕ). b ∷ l) i.begins.spells.whole; steps = (step_of x y z b s h.0, i.begins.spells.steps) };
            };
            bad = λ d more next begun. all_less x y z b (i.before ++ d ∷ []) (i.bad d more next) begun;
          }
      | inr h ↦
          let all : length (b ∷ bytes) ≡ left = let f : Err (length (b ∷ bytes)) ≡ Err left = h.1 in cc in
          record {
            before = [];
            after = b ∷ bytes;
            split = refl;
            left_is = sym all;
            begins = all_begins x y z s;
            bad = λ d more next begun. let same : b ≡ d = cc in all_no_text x y z b begun.more begun.value s h.0 (subst (λ (k : ℕ). AllAfter x y z begun.value (k ∷ begun.more)) (sym same) begun.spells);
          }
    ]

pub all_message : (x y z : ℕ) → State x y z → IsMessage (AllAfter x y z) (all_after x y z)
all_message x y z s = record {
  took = λ bytes t e. all_took x y z bytes t s e;
  again = λ bytes t h. ap (all_after x y z) h.whole ∙ all_again x y z t s h.steps;
  stuck = λ bytes left fits e. all_stuck x y z bytes left s e;
  some = all_begins x y z s;
}

-- ---- whole texts

pub start : State 0 0 0
start = closed (omega arith) (omega arith) (omega arith)

pub utf8_steps : (t : List ℕ) → IsUtf8 t → StepsThen IsClosed 0 0 0 t
utf8_steps t u = (StepsThen-IsUtf8 t).1 u

pub steps_utf8 : (t : List ℕ) → StepsThen IsClosed 0 0 0 t → IsUtf8 t
steps_utf8 t h = (StepsThen-IsUtf8 t).0 h

good : {A : Type 0} (r : Result A ℕ) → bad_of r ≡ None → (x : A) × (r ≡ Ok x)
good (Ok x) e = (x, refl)
good (Err left) e = absurd cc

pub utf8_sized : (n : ℕ) (bytes : List ℕ) → n ≤ length bytes → IsUtf8 (take n bytes) → sized_after 0 0 0 n bytes ≡ Ok (take n bytes, drop n bytes)
utf8_sized n bytes le u =
    let sized : length (take n bytes) ≡ n = omega (arith, length-take n bytes) in
    ap (sized_after 0 0 0 n) (sym (take-append-drop n bytes)) ∙ sized_again n 0 0 0 (take n bytes) (drop n bytes) start sized (utf8_steps (take n bytes) u)

pub sized_utf8 : (n : ℕ) (bytes : List ℕ) → bad_of (sized_after 0 0 0 n bytes) ≡ None → (n ≤ length bytes) × IsUtf8 (take n bytes)
sized_utf8 n bytes e =
    let g = good (sized_after 0 0 0 n bytes) e in
    let due : owed 0 0 0 ≤ n = omega arith in
    let h = sized_took n 0 0 0 bytes g.0.0 g.0.1 start due g.1 in
    let sized = h.1.sized in
    let front : take n bytes ≡ g.0.0 = ap (take n) h.0 ∙ take_at g.0.0 g.0.1 n sized in
    (omega (arith, length-append g.0.0 g.0.1, ap length h.0), subst IsUtf8 (sym front) (steps_utf8 g.0.0 h.1.steps))

pub nul_utf8 : (bytes t rest : List ℕ) → nul_after 0 0 0 bytes ≡ Ok (t, rest) → IsUtf8 t
nul_utf8 bytes t rest e = steps_utf8 t (nul_took 0 0 0 bytes t rest start e).1.steps

pub all_utf8 : (bytes : List ℕ) → bad_of (all_after 0 0 0 bytes) ≡ None → IsUtf8 bytes
all_utf8 bytes e =
    let g = good (all_after 0 0 0 bytes) e in
    let h = all_took 0 0 0 bytes g.0 start g.1 in subst IsUtf8 (sym h.whole) (steps_utf8 g.0 h.steps)

pub utf8_all : (bytes : List ℕ) → IsUtf8 bytes → all_after 0 0 0 bytes ≡ Ok bytes
utf8_all bytes u = all_again 0 0 0 bytes start (utf8_steps bytes u)

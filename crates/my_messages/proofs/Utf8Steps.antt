-- Reading UTF-8 byte by byte finds the first byte at which no text goes on.
use Rattle.std.proofs.Common.{◌≡◌, ℕ, zero, suc, ◌+◌, ◌<◌, ◌≤◌, ◌⊎◌, true, List, [], ◌∷◌, length, refl, ap, inl, inr, arith, le-leb}
use Rattle.std.proofs.lemmas.Bool.{cases_lt, cases_eq}
use Rattle.std.proofs.lemmas.Bool.Decides.{nat_tests}
use Rattle.simdutf8.specs.Steps.{least_after, most_after, IsClosed, Step, first, second, later, StepsThen}
use Rattle.simdutf8.proofs.Chars.{least_is, most_is}
use Rattle.my_wire.specs.Grammar.{IsBytes}
use Rattle.my_messages.specs.Fields.{HasNoNul}
use Rattle.my_messages.specs.Utf8.{owed, may_follow}

-- the last three bytes of a front of a text: no character is open, or after its first byte, its second of three or four, its third of four
pub data State (x y z : ℕ) : Type 0 where
  closed : x < 0xF0 → y < 0xE0 → z < 0xC0 → State x y z
  lead : x < 0xF0 → y < 0xE0 → 0xC2 ≤ z → z ≤ 0xF4 → State x y z
  one : x < 0xF0 → 0xE0 ≤ y → y ≤ 0xF4 → 0x80 ≤ z → z < 0xC0 → State x y z
  two : 0xF0 ≤ x → x ≤ 0xF4 → y < 0xC0 → 0x80 ≤ z → z < 0xC0 → State x y z

pub owed_closed : (x y z : ℕ) → x < 0xF0 → y < 0xE0 → z < 0xC0 → owed x y z ≡ 0
owed_closed x y z p q r = grind (arith, nat_tests)

pub owed_one : (x y z : ℕ) → x < 0xF0 → 0xE0 ≤ y → y < 0xF0 → owed x y z ≡ 1
owed_one x y z p q r = grind (arith, nat_tests)

pub owed_one_four : (x y z : ℕ) → x < 0xF0 → 0xF0 ≤ y → owed x y z ≡ 2
owed_one_four x y z p q = grind (arith, nat_tests)

pub owed_two : (x y z : ℕ) → 0xF0 ≤ x → owed x y z ≡ 1
owed_two x y z p = grind (arith, nat_tests)

pub owed_lead : (x y z : ℕ) → x < 0xF0 → y < 0xE0 → 0xC0 ≤ z → ((z < 0xE0) × (owed x y z ≡ 1)) ⊎ ((0xE0 ≤ z) × (z < 0xF0) × (owed x y z ≡ 2)) ⊎ ((0xF0 ≤ z) × (owed x y z ≡ 3))
owed_lead x y z p q r =
    elim (cases_lt z 0xE0) [
      | inl a ↦ inl (a, grind (arith, nat_tests))
      | inr a ↦ elim (cases_lt z 0xF0) [ inl b ↦ inr (inl (a, b, grind (arith, nat_tests))) | inr b ↦ inr (inr (b, grind (arith, nat_tests))) ]
    ]

-- what a byte that may follow is
pub follows_closed : (x y z b : ℕ) → x < 0xF0 → y < 0xE0 → z < 0xC0 → may_follow x y z b ≡ true → (b < 0x80) ⊎ ((0xC2 ≤ b) × (b ≤ 0xF4))
follows_closed x y z b p q r h = grind (arith, nat_tests)

pub follows_lead : (x y z b : ℕ) → 0xC0 ≤ z → may_follow x y z b ≡ true → (least_after z ≤ b) × (b ≤ most_after z)
follows_lead x y z b p h = grind (arith, nat_tests)

pub follows_later : (x y z b : ℕ) → z < 0xC0 → 0 < owed x y z → may_follow x y z b ≡ true → (0x80 ≤ b) × (b < 0xC0)
follows_later x y z b p q h = grind (arith, nat_tests)

pub may_closed : (x y z b : ℕ) → x < 0xF0 → y < 0xE0 → z < 0xC0 → (b < 0x80) ⊎ ((0xC2 ≤ b) × (b ≤ 0xF4)) → may_follow x y z b ≡ true
may_closed x y z b p q r h = grind (arith, nat_tests)

pub may_lead : (x y z b : ℕ) → 0xC0 ≤ z → least_after z ≤ b → b ≤ most_after z → may_follow x y z b ≡ true
may_lead x y z b p q r = rw (le-leb 0xC0 z p, le-leb _ _ q, le-leb _ _ r) refl

pub may_later : (x y z b : ℕ) → z < 0xC0 → 0 < owed x y z → 0x80 ≤ b → b < 0xC0 → may_follow x y z b ≡ true
may_later x y z b p q r s = grind (arith, nat_tests)

-- a byte that may follow is a step of a text
pub step_of : (x y z b : ℕ) → State x y z → may_follow x y z b ≡ true → Step x y z b
step_of x y z b (closed p q r) h = elim (follows_closed x y z b p q r h) [ inl a ↦ first (p, q, r) (inl a) | inr a ↦ first (p, q, r) (inr (omega arith)) ]
step_of x y z b (lead p q r s) h = let f = follows_lead x y z b (omega arith) h in second (p, q) (r, s) f
step_of x y z b (one p q r s t) h =
    let due : 0 < owed x y z = elim (cases_lt y 0xF0) [ inl a ↦ omega (arith, owed_one x y z p q a) | inr a ↦ omega (arith, owed_one_four x y z p a) ] in
    later (inr q) (s, t) (follows_later x y z b t due h)
step_of x y z b (two p q r s t) h = later (inl p) (s, t) (follows_later x y z b t (omega (arith, owed_two x y z p)) h)

-- and it leaves a front of a text
pub next_state : (x y z b : ℕ) → State x y z → may_follow x y z b ≡ true → State y z b
next_state x y z b (closed p q r) h = elim (follows_closed x y z b p q r h) [ inl a ↦ closed (omega arith) (omega arith) (omega arith) | inr a ↦ lead (omega arith) (omega arith) a.0 a.1 ]
next_state x y z b (lead p q r s) h =
    let f = follows_lead x y z b (omega arith) h in
    let l = least_is z in
    let m = most_is z in
    elim (cases_lt z 0xE0) [ inl a ↦ closed (omega arith) a (omega arith) | inr a ↦ one (omega arith) a s (omega arith) (omega arith) ]
next_state x y z b (one p q r s t) h =
    let due : 0 < owed x y z = elim (cases_lt y 0xF0) [ inl a ↦ omega (arith, owed_one x y z p q a) | inr a ↦ omega (arith, owed_one_four x y z p a) ] in
    let f = follows_later x y z b t due h in
    elim (cases_lt y 0xF0) [ inl a ↦ closed a (omega arith) f.1 | inr a ↦ two a r t f.0 f.1 ]
next_state x y z b (two p q r s t) h = let f = follows_later x y z b t (omega (arith, owed_two x y z p)) h in closed (omega arith) (omega arith) f.1

-- the first byte of several that goes on to the end of a text
lead_of : (y z b : ℕ) (bs : List ℕ) → y < 0xE0 → z < 0xC0 → 0xC0 ≤ b → StepsThen IsClosed y z b bs → (0xC2 ≤ b) × (b ≤ 0xF4)
lead_of y z b [] p q r rest = absurd (omega arith)
lead_of y z b (d ∷ bs) p q r rest =
    elim rest.0 [
      | first c h ↦ absurd (omega arith)
      | second c h f ↦ h
      | later h c f ↦ absurd (omega arith)
    ]

-- each byte pays one that is due
pub owed_less : (x y z b : ℕ) → State x y z → may_follow x y z b ≡ true → owed x y z ≤ owed y z b + 1
owed_less x y z b (closed p q r) h = omega (arith, owed_closed x y z p q r)
owed_less x y z b (lead p q r s) h =
    let f = follows_lead x y z b (omega arith) h in
    let l = least_is z in
    let m = most_is z in
    elim (owed_lead x y z p q (omega arith)) [
      | inl a ↦ omega (arith, a.1)
      | inr a ↦ elim a [
        | inl c ↦ omega (arith, c.2, owed_one y z b (omega arith) c.0 c.1)
        | inr c ↦ omega (arith, c.1, owed_one_four y z b (omega arith) c.0)
      ]
    ]
owed_less x y z b (one p q r s t) h =
    elim (cases_lt y 0xF0) [
      | inl a ↦ omega (arith, owed_one x y z p q a)
      | inr a ↦ omega (arith, owed_one_four x y z p a, owed_two y z b a)
    ]
owed_less x y z b (two p q r s t) h = omega (arith, owed_two x y z p)

-- the step of a text that goes on to its end is one that may follow
pub may_of : (x y z b : ℕ) (bs : List ℕ) → State x y z → Step x y z b → StepsThen IsClosed y z b bs → may_follow x y z b ≡ true
may_of x y z b bs (closed p q r) (first c h) rest =
    elim h [
      | inl a ↦ may_closed x y z b p q r (inl a)
      | inr a ↦ may_closed x y z b p q r (inr (lead_of y z b bs q r a rest))
    ]
may_of x y z b bs (closed p q r) (second c h f) rest = absurd (omega arith)
may_of x y z b bs (closed p q r) (later h c d) rest = absurd (omega arith)
may_of x y z b bs (lead p q r s) (first c h) rest = absurd (omega arith)
may_of x y z b bs (lead p q r s) (second c h f) rest = may_lead x y z b (omega arith) f.0 f.1
may_of x y z b bs (lead p q r s) (later h c d) rest = absurd (omega arith)
may_of x y z b bs (one p q r s t) (first c h) rest = absurd (omega arith)
may_of x y z b bs (one p q r s t) (second c h f) rest = absurd (omega arith)
may_of x y z b bs (one p q r s t) (later h c d) rest =
    let due : 0 < owed x y z = elim (cases_lt y 0xF0) [ inl a ↦ omega (arith, owed_one x y z p q a) | inr a ↦ omega (arith, owed_one_four x y z p a) ] in
    may_later x y z b t due d.0 d.1
may_of x y z b bs (two p q r s t) (first c h) rest = absurd (omega arith)
may_of x y z b bs (two p q r s t) (second c h f) rest = absurd (omega arith)
may_of x y z b bs (two p q r s t) (later h c d) rest = may_later x y z b t (omega (arith, owed_two x y z p)) d.0 d.1

-- a text has the bytes that are due
pub due_bytes : (x y z : ℕ) (bs : List ℕ) → State x y z → StepsThen IsClosed x y z bs → owed x y z ≤ length bs
due_bytes x y z [] s h = omega (arith, owed_closed x y z h.0 h.1 h.2)
due_bytes x y z (b ∷ bs) s h =
    let may = may_of x y z b bs s h.0 h.1 in
    let less = owed_less x y z b s may in
    let rest = due_bytes y z b bs (next_state x y z b s may) h.1 in
    omega arith

-- where a byte is due, each byte pays one
pub owed_pays : (x y z b : ℕ) → State x y z → 0 < owed x y z → may_follow x y z b ≡ true → owed y z b + 1 ≡ owed x y z
owed_pays x y z b (closed p q r) due h = absurd (omega (arith, owed_closed x y z p q r))
owed_pays x y z b (lead p q r s) due h =
    let f = follows_lead x y z b (omega arith) h in
    let l = least_is z in
    let m = most_is z in
    elim (owed_lead x y z p q (omega arith)) [
      | inl a ↦ omega (arith, a.1, owed_closed y z b (omega arith) a.0 (omega arith))
      | inr a ↦ elim a [
        | inl c ↦ omega (arith, c.2, owed_one y z b (omega arith) c.0 c.1)
        | inr c ↦ omega (arith, c.1, owed_one_four y z b (omega arith) c.0)
      ]
    ]
owed_pays x y z b (one p q r s t) due h =
    let f = follows_later x y z b t due h in
    elim (cases_lt y 0xF0) [
      | inl a ↦ omega (arith, owed_one x y z p q a, owed_closed y z b a (omega arith) f.1)
      | inr a ↦ omega (arith, owed_one_four x y z p a, owed_two y z b a)
    ]
owed_pays x y z b (two p q r s t) due h =
    let f = follows_later x y z b t due h in
    omega (arith, owed_two x y z p, owed_closed y z b (omega arith) (omega arith) f.1)

-- where no byte is due, no character is open
pub closed_of : (x y z : ℕ) → State x y z → owed x y z ≡ 0 → IsClosed x y z
closed_of x y z (closed p q r) e = (p, q, r)
closed_of x y z (lead p q r s) e = elim (owed_lead x y z p q (omega arith)) [ inl a ↦ absurd (omega (arith, a.1)) | inr a ↦ elim a [ inl c ↦ absurd (omega (arith, c.2)) | inr c ↦ absurd (omega (arith, c.1)) ] ]
closed_of x y z (one p q r s t) e = elim (cases_lt y 0xF0) [ inl a ↦ absurd (omega (arith, owed_one x y z p q a)) | inr a ↦ absurd (omega (arith, owed_one_four x y z p a)) ]
closed_of x y z (two p q r s t) e = absurd (omega (arith, owed_two x y z p))

pub owed_of : (x y z : ℕ) → IsClosed x y z → owed x y z ≡ 0
owed_of x y z c = owed_closed x y z c.0 c.1 c.2

-- where a byte is due, one that isn't NUL may follow
pub due_byte : (x y z : ℕ) → State x y z → 0 < owed x y z → (b : ℕ) × (0x80 ≤ b) × (b < 256) × (may_follow x y z b ≡ true)
due_byte x y z (closed p q r) due = absurd (omega (arith, owed_closed x y z p q r))
due_byte x y z (lead p q r s) due =
    let l = least_is z in
    let m = most_is z in
    (least_after z, omega arith, omega arith, may_lead x y z (least_after z) (omega arith) (omega arith) (omega arith))
due_byte x y z (one p q r s t) due = (0x80, omega arith, omega arith, may_later x y z 0x80 t due (omega arith) (omega arith))
due_byte x y z (two p q r s t) due = (0x80, omega arith, omega arith, may_later x y z 0x80 t due (omega arith) (omega arith))

-- a text of each length that has the bytes that are due
pub filled : (n x y z : ℕ) → State x y z → owed x y z ≤ n → (t : List ℕ) × (length t ≡ n) × StepsThen IsClosed x y z t × IsBytes t
filled zero x y z s le = ([], refl, closed_of x y z s (omega arith), tt)
filled (suc n) x y z s le =
    elim (cases_eq (owed x y z) 0) [
      | inl e ↦
          let c = closed_of x y z s e in
          let may = may_closed x y z 0 c.0 c.1 c.2 (inl (omega arith)) in
          let next : State y z 0 = next_state x y z 0 s may in
          let t = filled n y z 0 next (omega (arith, owed_closed y z 0 (omega arith) (omega arith) (omega arith))) in
          (0 ∷ t.0, ap suc t.1, (step_of x y z 0 s may, t.2), (omega arith, t.3))
      | inr e ↦
          let b = due_byte x y z s (omega arith) in
          let next : State y z b.0 = next_state x y z b.0 s b.3 in
          let t = filled n y z b.0 next (omega (arith, owed_pays x y z b.0 s (omega arith) b.3)) in
          (b.0 ∷ t.0, ap suc t.1, (step_of x y z b.0 s b.3, t.2), (b.2, t.3))
    ]

-- the shortest text, which has no NUL
pub finished : (n x y z : ℕ) → State x y z → owed x y z ≡ n → (t : List ℕ) × StepsThen IsClosed x y z t × IsBytes t × HasNoNul t
finished zero x y z s e = ([], closed_of x y z s e, tt, tt)
finished (suc n) x y z s e =
    let b = due_byte x y z s (omega arith) in
    let t = finished n y z b.0 (next_state x y z b.0 s b.3) (omega (arith, owed_pays x y z b.0 s (omega arith) b.3)) in
    let not_nul : b.0 ≡ 0 → ⊥ = λ z. omega arith in
    (b.0 ∷ t.0, (step_of x y z b.0 s b.3, t.1), (b.2, t.2), (not_nul, t.3))

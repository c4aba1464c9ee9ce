-- Reading from left to right finds the one value that bytes spell, and else the first bad byte.
use Rattle.std.proofs.Common.{◌≡◌, ℕ, ◌-◌, List, [], ◌∷◌, ◌++◌, length, Result, Ok, Err, refl, sym, ap, subst, ◌∙◌, append_assoc, arith, inl, inr, ◌⊎◌}
use Rattle.std.proofs.lemmas.List.{append_cancel_left, length-append}
use Rattle.my_wire.specs.Grammar.{IsBytes, Then, Begins, FirstBad, ◌>>=◌}

-- ---- bytes

pub IsBytes-front : (a b : List ℕ) → IsBytes (a ++ b) → IsBytes a
IsBytes-front [] b h = tt
IsBytes-front (x ∷ a) b h = (h.0, IsBytes-front a b h.1)

pub IsBytes-rest : (a b : List ℕ) → IsBytes (a ++ b) → IsBytes b
IsBytes-rest [] b h = h
IsBytes-rest (x ∷ a) b h = IsBytes-rest a b h.1

pub IsBytes-append : (a b : List ℕ) → IsBytes a → IsBytes b → IsBytes (a ++ b)
IsBytes-append [] b h k = k
IsBytes-append (x ∷ a) b h k = (h.0, IsBytes-append a b h.1 k)

-- ---- lists

-- of two fronts of one list one is a front of the other
pub fronts_meet : (p q f r : List ℕ) → p ++ q ≡ f ++ r → ((m : List ℕ) × (f ≡ p ++ m)) ⊎ ((m : List ℕ) × (p ≡ f ++ m))
fronts_meet [] q f r e = inl (f, refl)
fronts_meet (x ∷ p) q [] r e = inr (x ∷ p, refl)
fronts_meet (x ∷ p) q (y ∷ f) r e =
    let heads : x ≡ y = cc in
    let tails : p ++ q ≡ f ++ r = cc in
    elim (fronts_meet p q f r tails) [
      | inl m ↦ inl (m.0, subst (λ z. y ∷ f ≡ z ∷ (p ++ m.0)) (sym heads) (ap (λ (l : List ℕ). y ∷ l) m.1))
      | inr m ↦ inr (m.0, subst (λ z. x ∷ p ≡ z ∷ (f ++ m.0)) heads (ap (λ (l : List ℕ). x ∷ l) m.1))
    ]

-- ---- reading

-- a place in bytes at which a form can't go on
pub record Stuck {X : Type 0} (Spells : X → List ℕ → Type 0) (bytes : List ℕ) (left : ℕ) : Type 0 where
  pub before : List ℕ
  pub after : List ℕ
  pub split : bytes ≡ before ++ after
  pub left_is : left ≡ length after
  pub begins : Begins Spells before
  pub bad : (b : ℕ) (more : List ℕ) → after ≡ b ∷ more → Begins Spells (before ++ b ∷ []) → ⊥

-- reads a form at the front of bytes, which no more bytes change
pub record IsField {X : Type 0} (Spells : X → List ℕ → Type 0) (read : List ℕ → Result (X × List ℕ) ℕ) : Type 0 where
  pub took : (bytes : List ℕ) (x : X) (rest : List ℕ) → read bytes ≡ Ok (x, rest) → (front : List ℕ) × (bytes ≡ front ++ rest) × Spells x front
  pub again : (front rest : List ℕ) (x : X) → Spells x front → read (front ++ rest) ≡ Ok (x, rest)
  pub stuck : (bytes : List ℕ) (left : ℕ) → IsBytes bytes → read bytes ≡ Err left → Stuck Spells bytes left
  pub some : Begins Spells []

-- reads a form that is all of the bytes
pub record IsMessage {X : Type 0} (Spells : X → List ℕ → Type 0) (read : List ℕ → Result X ℕ) : Type 0 where
  pub took : (bytes : List ℕ) (x : X) → read bytes ≡ Ok x → Spells x bytes
  pub again : (bytes : List ℕ) (x : X) → Spells x bytes → read bytes ≡ Ok x
  pub stuck : (bytes : List ℕ) (left : ℕ) → IsBytes bytes → read bytes ≡ Err left → Stuck Spells bytes left
  pub some : Begins Spells []

pub ok_is : {A : Type 0} (x y : A) → (let r : Result A ℕ = Ok x in r ≡ Ok y) → x ≡ y
ok_is x y e = cc

pub bind_ok : {A B : Type 0} (r : Result A ℕ) (f : A → Result B ℕ) (y : B) → (r >>= f) ≡ Ok y → (x : A) × (r ≡ Ok x) × (f x ≡ Ok y)
bind_ok (Ok x) f y e = (x, refl, e)
bind_ok (Err left) f y e = absurd cc

pub bind_err : {A B : Type 0} (r : Result A ℕ) (f : A → Result B ℕ) (left : ℕ) → (r >>= f) ≡ Err left → (r ≡ Err left) ⊎ ((x : A) × (r ≡ Ok x) × (f x ≡ Err left))
bind_err (Ok x) f left e = inr (x, refl, e)
bind_err (Err l) f left e = inl cc

-- one form and then another that its value asks for
abbrev pub Both : {X Y : Type 0} → (X → List ℕ → Type 0) → (X → Y → List ℕ → Type 0) → Y → List ℕ → Type 0
Both {X} {Y} First Second y bytes = (x : X) × Then (First x) (Second x y) bytes

then_begins : {X Y : Type 0} (First : X → List ℕ → Type 0) (Second : X → Y → List ℕ → Type 0) → ((x : X) → Begins (Second x) [])
    → (before : List ℕ) → Begins First before → Begins (Both First Second) before
then_begins First Second some before b =
    let s = some b.value in
    record {
      value = s.value;
      more = b.more ++ s.more;
      are_bytes = IsBytes-append b.more s.more b.are_bytes s.are_bytes;
      spells = (b.value, record { front = before ++ b.more; rest = s.more; whole = sym (append_assoc before b.more s.more); first = b.spells; second = s.spells });
    }

-- the first form can't go on
stuck_first : {X Y : Type 0} (First : X → List ℕ → Type 0) (first : List ℕ → Result (X × List ℕ) ℕ) (Second : X → Y → List ℕ → Type 0)
    → IsField First first → ((x : X) → Begins (Second x) []) → (bytes : List ℕ) (left : ℕ) → IsBytes bytes → first bytes ≡ Err left → Stuck (Both First Second) bytes left
stuck_first {X} {Y} First first Second field some bytes left fits e =
    let s = field.stuck bytes left fits e in
    let no_front : (front rest : List ℕ) (x : X) → bytes ≡ front ++ rest → First x front → ⊥ =
    λ front rest x whole h. let g : first bytes ≡ Ok (x, rest) = ap first whole ∙ field.again front rest x h in let f : first bytes ≡ Err left = e in cc in
    record {
      before = s.before;
      after = s.after;
      split = s.split;
      left_is = s.left_is;
      begins = then_begins First Second some s.before s.begins;
      bad = λ b more next begun.
          let t = begun.spells.1 in
          elim (fronts_meet (s.before ++ b ∷ []) begun.more t.front t.rest t.whole) [
            | inl m ↦
                let goes_on : begun.more ≡ m.0 ++ t.rest =
                append_cancel_left (s.before ++ b ∷ []) begun.more (m.0 ++ t.rest) (t.whole ∙ ap (λ (l : List ℕ). l ++ t.rest) m.1 ∙ append_assoc (s.before ++ b ∷ []) m.0 t.rest) in
                s.bad b more next (record { value = begun.spells.0; more = m.0; are_bytes = IsBytes-front m.0 t.rest (subst IsBytes goes_on begun.are_bytes); spells = subst (First begun.spells.0) m.1 t.first })
            | inr m ↦
                let whole : bytes ≡ t.front ++ (m.0 ++ more) =
                s.split ∙ ap (λ (l : List ℕ). s.before ++ l) next ∙ sym (append_assoc s.before (b ∷ []) more) ∙ ap (λ (l : List ℕ). l ++ more) m.1 ∙ append_assoc t.front m.0 more in
                no_front t.front (m.0 ++ more) begun.spells.0 whole t.first
          ];
    }

-- what follows the first form can't go on
stuck_second : {X Y : Type 0} (First : X → List ℕ → Type 0) (first : List ℕ → Result (X × List ℕ) ℕ) (Second : X → Y → List ℕ → Type 0)
    → IsField First first → (bytes : List ℕ) (left : ℕ) (x : X) (rest : List ℕ) → first bytes ≡ Ok (x, rest) → Stuck (Second x) rest left → Stuck (Both First Second) bytes left
stuck_second {X} {Y} First first Second field bytes left x rest e s =
    let t = field.took bytes x rest e in
    record {
      before = t.0 ++ s.before;
      after = s.after;
      split = t.1 ∙ ap (λ (l : List ℕ). t.0 ++ l) s.split ∙ sym (append_assoc t.0 s.before s.after);
      left_is = s.left_is;
      begins = record {
        value = s.begins.value;
        more = s.begins.more;
        are_bytes = s.begins.are_bytes;
        spells = (x, record { front = t.0; rest = s.before ++ s.begins.more; whole = append_assoc t.0 s.before s.begins.more; first = t.2; second = s.begins.spells });
      };
      bad = λ b more next begun.
          let u = begun.spells.1 in
          let after_b : List ℕ = (s.before ++ b ∷ []) ++ begun.more in
          let regrouped : t.0 ++ after_b ≡ u.front ++ u.rest =
          sym (append_assoc t.0 (s.before ++ b ∷ []) begun.more) ∙ ap (λ (l : List ℕ). l ++ begun.more) (sym (append_assoc t.0 s.before (b ∷ []))) ∙ u.whole in
          let same : (x, after_b) ≡ (begun.spells.0, u.rest) =
          ok_is (x, after_b) (begun.spells.0, u.rest) (sym (field.again t.0 after_b x t.2) ∙ ap first regrouped ∙ field.again u.front u.rest begun.spells.0 u.first) in
          s.bad b more next (record { value = begun.value; more = begun.more; are_bytes = begun.are_bytes; spells = subst (λ (p : X × List ℕ). Second p.0 begun.value p.1) (sym same) u.second });
    }

rest_is : {X : Type 0} (First : X → List ℕ → Type 0) (first : List ℕ → Result (X × List ℕ) ℕ) → IsField First first
    → (bytes : List ℕ) (x : X) (rest : List ℕ) → IsBytes bytes → first bytes ≡ Ok (x, rest) → IsBytes rest
rest_is First first field bytes x rest fits e = let t = field.took bytes x rest e in IsBytes-rest t.0 rest (subst IsBytes t.1 fits)

-- a field, and then the message that its value asks for
pub field_then : {X Y : Type 0} (First : X → List ℕ → Type 0) (first : List ℕ → Result (X × List ℕ) ℕ) (Second : X → Y → List ℕ → Type 0) (second : X → List ℕ → Result Y ℕ)
    → IsField First first → ((x : X) → IsMessage (Second x) (second x)) → IsMessage (Both First Second) (λ (bytes : List ℕ). first bytes >>= λ p. second p.0 p.1)
field_then {X} {Y} First first Second second field message = record {
  took = λ bytes y e.
      let a = bind_ok (first bytes) (λ p. second p.0 p.1) y e in
      let t = field.took bytes a.0.0 a.0.1 a.1 in
      (a.0.0, record { front = t.0; rest = a.0.1; whole = t.1; first = t.2; second = (message a.0.0).took a.0.1 y a.2 });
  again = λ bytes y h.
      let t = h.1 in
      ap (λ (b : List ℕ). first b >>= λ p. second p.0 p.1) t.whole
      ∙ ap (λ r. r >>= λ p. second p.0 p.1) (field.again t.front t.rest h.0 t.first)
      ∙ (message h.0).again t.rest y t.second;
  stuck = λ bytes left fits e.
      elim (bind_err (first bytes) (λ p. second p.0 p.1) left e) [
        | inl f ↦ stuck_first First first Second field (λ x. (message x).some) bytes left fits f
        | inr s ↦ stuck_second First first Second field bytes left s.0.0 s.0.1 s.1 ((message s.0.0).stuck s.0.1 left (rest_is First first field bytes s.0.0 s.0.1 fits s.1) s.2)
      ];
  some = then_begins First Second (λ x. (message x).some) [] field.some;
}

-- a field, and then the field that its value asks for
pub field_field : {X Y : Type 0} (First : X → List ℕ → Type 0) (first : List ℕ → Result (X × List ℕ) ℕ) (Second : X → Y → List ℕ → Type 0) (second : X → List ℕ → Result (Y × List ℕ) ℕ)
    → IsField First first → ((x : X) → IsField (Second x) (second x)) → IsField (Both First Second) (λ (bytes : List ℕ). first bytes >>= λ p. second p.0 p.1)
field_field {X} {Y} First first Second second field other = record {
  took = λ bytes y rest e.
      let a = bind_ok (first bytes) (λ p. second p.0 p.1) (y, rest) e in
      let t = field.took bytes a.0.0 a.0.1 a.1 in
      let u = (other a.0.0).took a.0.1 y rest a.2 in
      (t.0 ++ u.0, t.1 ∙ ap (λ (l : List ℕ). t.0 ++ l) u.1 ∙ sym (append_assoc t.0 u.0 rest), (a.0.0, record { front = t.0; rest = u.0; whole = refl; first = t.2; second = u.2 }));
  again = λ front rest y h.
      let t = h.1 in
      ap (λ (b : List ℕ). first b >>= λ p. second p.0 p.1) (ap (λ (l : List ℕ). l ++ rest) t.whole ∙ append_assoc t.front t.rest rest)
      ∙ ap (λ r. r >>= λ p. second p.0 p.1) (field.again t.front (t.rest ++ rest) h.0 t.first)
      ∙ (other h.0).again t.rest rest y t.second;
  stuck = λ bytes left fits e.
      elim (bind_err (first bytes) (λ p. second p.0 p.1) left e) [
        | inl f ↦ stuck_first First first Second field (λ x. (other x).some) bytes left fits f
        | inr s ↦ stuck_second First first Second field bytes left s.0.0 s.0.1 s.1 ((other s.0.0).stuck s.0.1 left (rest_is First first field bytes s.0.0 s.0.1 fits s.1) s.2)
      ];
  some = then_begins First Second (λ x. (other x).some) [] field.some;
}

-- ---- the same form in other words

same_stuck : {X Y : Type 0} (P : X → List ℕ → Type 0) (Q : Y → List ℕ → Type 0) → ((x : X) (bytes : List ℕ) → P x bytes → (y : Y) × Q y bytes) → ((y : Y) (bytes : List ℕ) → Q y bytes → (x : X) × P x bytes)
    → (bytes : List ℕ) (left : ℕ) → Stuck P bytes left → Stuck Q bytes left
same_stuck P Q to from bytes left s =
    let q = to s.begins.value (s.before ++ s.begins.more) s.begins.spells in
    record {
      before = s.before;
      after = s.after;
      split = s.split;
      left_is = s.left_is;
      begins = record { value = q.0; more = s.begins.more; are_bytes = s.begins.are_bytes; spells = q.1 };
      bad = λ b more next begun. let p = from begun.value ((s.before ++ b ∷ []) ++ begun.more) begun.spells in s.bad b more next (record { value = p.0; more = begun.more; are_bytes = begun.are_bytes; spells = p.1 });
    }

pub same_message : {X : Type 0} (P Q : X → List ℕ → Type 0) (read : List ℕ → Result X ℕ) → ((x : X) (bytes : List ℕ) → P x bytes → Q x bytes) → ((x : X) (bytes : List ℕ) → Q x bytes → P x bytes)
    → IsMessage P read → IsMessage Q read
same_message P Q read to from m = record {
  took = λ bytes x e. to x bytes (m.took bytes x e);
  again = λ bytes x q. m.again bytes x (from x bytes q);
  stuck = λ bytes left fits e. same_stuck P Q (λ x b p. (x, to x b p)) (λ x b q. (x, from x b q)) bytes left (m.stuck bytes left fits e);
  some = let s = m.some in record { value = s.value; more = s.more; are_bytes = s.are_bytes; spells = to s.value s.more s.spells };
}

pub same_field : {X : Type 0} (P Q : X → List ℕ → Type 0) (read : List ℕ → Result (X × List ℕ) ℕ) → ((x : X) (bytes : List ℕ) → P x bytes → Q x bytes) → ((x : X) (bytes : List ℕ) → Q x bytes → P x bytes)
    → IsField P read → IsField Q read
same_field P Q read to from m = record {
  took = λ bytes x rest e. let t = m.took bytes x rest e in (t.0, t.1, to x t.0 t.2);
  again = λ front rest x q. m.again front rest x (from x front q);
  stuck = λ bytes left fits e. same_stuck P Q (λ x b p. (x, to x b p)) (λ x b q. (x, from x b q)) bytes left (m.stuck bytes left fits e);
  some = let s = m.some in record { value = s.value; more = s.more; are_bytes = s.are_bytes; spells = to s.value s.more s.spells };
}

-- a message whose value is put into another
pub message_as : {X Y : Type 0} (f : X → Y) (P : X → List ℕ → Type 0) (read : List ℕ → Result X ℕ) → IsMessage P read
    → IsMessage (λ (y : Y) (bytes : List ℕ). (x : X) × (y ≡ f x) × P x bytes) (λ (bytes : List ℕ). read bytes >>= λ x. Ok (f x))
message_as {X} {Y} f P read m = record {
  took = λ bytes y e. let a = bind_ok (read bytes) (λ x. Ok (f x)) y e in (a.0, sym (ok_is (f a.0) y a.2), m.took bytes a.0 a.1);
  again = λ bytes y h. ap (λ r. r >>= λ x. Ok (f x)) (m.again bytes h.0 h.2) ∙ ap (λ z. Ok z) (sym h.1);
  stuck = λ bytes left fits e.
      elim (bind_err (read bytes) (λ x. Ok (f x)) left e) [
        | inl g ↦ same_stuck P (λ (y : Y) (b : List ℕ). (x : X) × (y ≡ f x) × P x b) (λ x b p. (f x, (x, refl, p))) (λ y b h. (h.0, h.2)) bytes left (m.stuck bytes left fits g)
        | inr h ↦ absurd (let g : Ok (f h.0) ≡ Err left = h.2 in cc)
      ];
  some = let s = m.some in record { value = f s.value; more = s.more; are_bytes = s.are_bytes; spells = (s.value, refl, s.spells) };
}

-- ---- from a reader's law to what its caller is told

pub is_first_bad : {X : Type 0} (Spells : X → List ℕ → Type 0) (read : List ℕ → Result X ℕ) → IsMessage Spells read
    → (bytes : List ℕ) (left : ℕ) → IsBytes bytes → read bytes ≡ Err left → FirstBad Spells bytes (length bytes - left)
is_first_bad Spells read m bytes left fits e =
    let s = m.stuck bytes left fits e in
    let total = length-append s.before s.after in
    let whole = ap length s.split in
    let l = s.left_is in
    record {
      before = s.before;
      after = s.after;
      split = s.split;
      place_is = omega (arith, total, whole, l);
      begins = s.begins;
      bad = s.bad;
      none = λ x h. let f = m.again bytes x h in let g : read bytes ≡ Err left = e in cc;
    }

-- Rules that open something, and rules of several parts.
use Rattle.std.proofs.Common.{◌≡◌, ℕ, zero, suc, ◌+◌, ◌<◌, ◌≤◌, Bool, true, false, cond, List, [], ◌∷◌, ◌++◌, length, Result, Ok, Err, refl, sym, ap, subst, ◌∙◌, append-nil, length-append, arith, inl, inr}
use Rattle.std.proofs.lemmas.List.{append_cancel_left, append_cancel_right}
use Rattle.std.specs.Prelude.{◌==◌, ◌&&◌}
use Rattle.sql_text.specs.declared.token.Fixed.{Fixed}
use Rattle.sql_text.specs.declared.token.Fixed.TheVariants.{Open, Close}
use Rattle.sql_text.specs.declared.token.Token.{Token}
use Rattle.sql_text.specs.declared.token.Token.TheVariants as tokens
use Rattle.sql_text.specs.declared.fault.Stop.{Stop}
use Rattle.sql_text.specs.Rules.{Rule, is, ◌⊳◌, ◌▷◌, ◌∣◌, opens, further, many, series, at_most_further, parenthesized}
use Rattle.sql_text.specs.Places.{is_opening}
use Rattle.sql_text.specs.Reading.{◌>>=◌, number_of, is_fixed, begins, expect, open_at, many_at, further_at, series_at, parenthesized_at, with_front, too_deep, syntax}
use Rattle.sql_text.proofs.Fields.{Reads, Rules, kind_of, member, apart, self_member, self_equal, or_false, Clear, clear_left, clear_right, both_false, Begun, Stuck, stop_at, Near, Reach, Some_text, IsField, is_fixed_is, is_field, fixed_field, then_field}
use Rattle.sql_text.proofs.Choices.{Tells, same_reader, either_field, fixed_or}

-- ---- openings

-- with no opening left
zero_is : {X : Type 0} (f : Fixed) (read : Reads X) (ts : List Token) → (open_at f zero ts >>= read) ≡ Err (stop_at (begins f ts) (length ts))
unfolding open_at
zero_is f read ts =
    elim (begins f ts) as (λ b. (cond b (too_deep ts) (syntax ts) >>= read) ≡ Err (stop_at b (length ts))) [ true ↦ refl | false ↦ refl ]

-- what begins so isn't empty
begins_some : (f : Fixed) (ts : List Token) → begins f ts ≡ true → (t : Token) × (rest : List Token) × (ts ≡ t ∷ rest)
begins_some f [] e = absurd cc
begins_some f (t ∷ ts) e = (t, ts, refl)

begins_same : (f : Fixed) (ts : List Token) (b : Token) (old new : List Token) → ts ≡ b ∷ old → begins f (b ∷ new) ≡ begins f ts
begins_same f ts b old new e = ap (begins f) (sym e)

begins_fixed : (f : Fixed) (rest : List Token) → begins f (tokens.Fixed f ∷ rest) ≡ true
begins_fixed f rest = self_equal (number_of f)

opens_begins : {X : Type 0} (f : Fixed) (A : Rules X) (deeper : ℕ) (x : X) (c : Token) (cs : List Token) → opens f A deeper x (c ∷ cs) → member (kind_of c) (number_of f ∷ []) ≡ true
opens_begins f A zero x c cs h = absurd h
opens_begins f A (suc deeper) x c cs h =
    let same : c ≡ tokens.Fixed f = (let e : c ∷ cs ≡ tokens.Fixed f ∷ h.0 = h.1 in cc) in subst (λ t. member (kind_of t) (number_of f ∷ []) ≡ true) (sym same) (self_member (number_of f))

opens_solid : {X : Type 0} (f : Fixed) (A : Rules X) (deeper : ℕ) (x : X) → opens f A deeper x [] → false ≡ true
opens_solid f A zero x h = absurd h
opens_solid f A (suc deeper) x h = absurd (let e : [] ≡ tokens.Fixed f ∷ h.0 = h.1 in cc)

zero_again : {X : Type 0} (f : Fixed) (A : Rules X) (read : Reads X) (deeper : ℕ) (x : X) (front rest : List Token) → opens f A deeper x front → Reach zero deeper x rest (open_at f zero (front ++ rest) >>= read)
zero_again f A read zero x front rest h = absurd h
zero_again {X} f A read (suc deeper) x front rest h =
    let deep : begins f (front ++ rest) ≡ true = ap (λ (l : List Token). begins f (l ++ rest)) h.1 ∙ begins_fixed f (h.0 ++ rest) in
    let near : Reach zero (suc deeper) x rest (Err (stop_at (begins f (front ++ rest)) (length (front ++ rest)))) = (deep, omega arith) in
    subst (Reach zero (suc deeper) x rest) (sym (zero_is f read (front ++ rest))) near

zero_stuck : {X : Type 0} (f : Fixed) (A : Rules X) (read : Reads X) → is_opening (tokens.Fixed f) ≡ true → ((n : ℕ) → Some_text (A n)) → (ts : List Token) (stop : Stop) → (open_at f zero ts >>= read) ≡ Err stop
    → Stuck (opens f A) zero (λ ts. open_at f zero ts >>= read) ts stop
zero_stuck {X} f A read opening flat ts stop e =
    let s : stop ≡ stop_at (begins f ts) (length ts) = (let r : Result (X × List Token) Stop = open_at f zero ts >>= read in let e' : r ≡ Err stop = e in let z : r ≡ Err (stop_at (begins f ts) (length ts)) = zero_is f read ts in cc) in
    let d : stop.deep ≡ begins f ts = ap (λ (k : Stop). k.deep) s in
    let u = flat 0 in
    record {
      before = [];
      after = ts;
      split = refl;
      left = ap (λ (k : Stop). k.left) s;
      begins = record { value = u.value; more = tokens.Fixed f ∷ u.text; spells = (u.text, refl, u.spells) };
      stays = λ b old new k. zero_is f read (b ∷ new) ∙ ap (λ v. Err (stop_at v (suc (length new)))) (begins_same f ts b old new k ∙ sym d);
      deep = λ h.
          let yes : begins f ts ≡ true = sym d ∙ h in
          let t = begins_some f ts yes in
          let is_f : t.0 ≡ tokens.Fixed f = is_fixed_is f t.0 (ap (begins f) (sym t.2) ∙ yes) in
          let v = flat 0 in
          (t.0, t.1, t.2, ap is_opening is_f ∙ opening, record { value = v.value; more = v.text; spells = (v.text, ap (λ a. a ∷ v.text) is_f, v.spells) });
    }

pub zero_field : {X : Type 0} (f : Fixed) (A : Rules X) (read : Reads X) (further : List ℕ) → is_opening (tokens.Fixed f) ≡ true → ((n : ℕ) → Some_text (A n)) → IsField (opens f A) zero (λ ts. open_at f zero ts >>= read) false (number_of f ∷ []) further
zero_field {X} f A read further opening flat = record {
  took = λ ts x rest e. absurd (let r : Result (X × List Token) Stop = open_at f zero ts >>= read in let e' : r ≡ Ok (x, rest) = e in let z : r ≡ Err (stop_at (begins f ts) (length ts)) = zero_is f read ts in cc);
  stuck = zero_stuck f A read opening flat;
  some = λ n. let u = flat n in record { value = u.value; text = tokens.Fixed f ∷ u.text; spells = (u.text, refl, u.spells) };
  again = λ n x front rest h clear. zero_again f A read n x front rest h;
  begins = opens_begins f A;
  solid = opens_solid f A;
}

-- with an opening left
lifted : {X : Type 0} (f : Fixed) (A : Rules X) (depth : ℕ) (x : X) (front : List Token) → ((n : ℕ) → depth ≤ n → (f ⊳ A n) x front) → (n : ℕ) → suc depth ≤ n → opens f A n x front
lifted f A depth x front spells zero h = absurd (omega arith)
lifted f A depth x front spells (suc n) h = spells n (omega arith)

lifted_begun : {X : Type 0} (f : Fixed) (A : Rules X) (depth : ℕ) (front : List Token) → Begun (λ n. f ⊳ A n) depth front → Begun (opens f A) (suc depth) front
lifted_begun f A depth front b = record { value = b.value; more = b.more; spells = b.spells }

near_suc : {Y : Type 0} (depth deeper : ℕ) (y : Y) (r : Result Y Stop) → Near depth deeper y r → Near (suc depth) (suc deeper) y r
near_suc depth deeper y (Ok z) h = h
near_suc depth deeper y (Err stop) h = (h.0, (let l : depth < deeper = h.1 in omega arith))

suc_again : {X : Type 0} (f : Fixed) (A : Rules X) (depth : ℕ) (read : Reads X) (empty : Bool) (first further : List ℕ) → IsField (λ n. f ⊳ A n) depth read empty first further
    → (n : ℕ) (x : X) (front rest : List Token) → opens f A n x front → Clear further rest → Reach (suc depth) n x rest (read (front ++ rest))
suc_again f A depth read empty first further field zero x front rest h clear = absurd h
suc_again {X} f A depth read empty first further field (suc n) x front rest h clear = near_suc {Y = X × List Token} depth n (x, rest) (read (front ++ rest)) (field.again n x front rest h clear)

suc_is : {X : Type 0} (f : Fixed) (depth : ℕ) (read : Reads X) (ts : List Token) → (expect f ts >>= read) ≡ (open_at f (suc depth) ts >>= read)
unfolding open_at
suc_is f depth read ts = refl

pub suc_field : {X : Type 0} (f : Fixed) (A : Rules X) (depth : ℕ) (read : Reads X) (empty : Bool) (first further : List ℕ) → ((n : ℕ) → Some_text (A n)) → IsField A depth read empty first further
    → IsField (opens f A) (suc depth) (λ ts. open_at f (suc depth) ts >>= read) false (number_of f ∷ []) further
suc_field {X} f A depth read empty first further flat field =
    let inner = fixed_field f A depth read empty first further field in
    same_reader (opens f A) (suc depth) (λ ts. expect f ts >>= read) (λ ts. open_at f (suc depth) ts >>= read) false (number_of f ∷ []) further
    (record {
      took = λ ts x rest e. let t = inner.took ts x rest e in record { front = t.front; split = t.split; spells = lifted f A depth x t.front t.spells; looks = t.looks };
      stuck = λ ts stop e.
          let s = inner.stuck ts stop e in
          record {
            before = s.before;
            after = s.after;
            split = s.split;
            left = s.left;
            begins = lifted_begun f A depth s.before s.begins;
            stays = s.stays;
            deep = λ d. let q = s.deep d in (q.0, q.1, q.2, q.3, lifted_begun f A depth (s.before ++ (q.0 ∷ [])) q.4);
          };
      some = λ n. let u = flat n in record { value = u.value; text = tokens.Fixed f ∷ u.text; spells = (u.text, refl, u.spells) };
      again = suc_again f A depth (λ ts. expect f ts >>= read) false (number_of f ∷ []) further inner;
      begins = opens_begins f A;
      solid = opens_solid f A;
    })
    (suc_is f depth read)

-- what a rule without openings is inside an opening
pub opens_field : {X : Type 0} (f : Fixed) (A : Rule X) (depth : ℕ) (read : Reads X) (empty : Bool) (first further : List ℕ) → is_opening (tokens.Fixed f) ≡ true → ((n : ℕ) → IsField (λ _. A) n read empty first further)
    → IsField (opens f (λ _. A)) depth (λ ts. open_at f depth ts >>= read) false (number_of f ∷ []) further
opens_field f A zero read empty first further opening field = zero_field f (λ _. A) read further opening (λ n. (field 0).some 0)
opens_field f A (suc depth) read empty first further opening field = suc_field f (λ _. A) depth read empty first further (λ n. (field 0).some 0) (field depth)

pub parenthesized_field : {X : Type 0} (A : Rule X) (depth : ℕ) (read : Reads X) (empty : Bool) (first further : List ℕ) → ((n : ℕ) → IsField (λ _. A) n read empty first further) → apart (number_of Close ∷ []) further ≡ true
    → IsField (parenthesized A) depth (parenthesized_at read depth) false (number_of Open ∷ []) []
parenthesized_field {X} A depth read empty first further field away =
    opens_field Open (A ▷ λ x. Close ⊳ is x) depth (λ inside. read inside >>= λ x. expect Close x.1 >>= λ rest. Ok (x.0, rest)) (empty && false) (first ++ cond empty (number_of Close ∷ []) []) [] refl
    (λ n. then_field (λ _. A) read (λ (x : X) _. Close ⊳ is x) (λ (x : X) ts. expect Close ts >>= λ rest. Ok (x, rest)) n empty false first further (number_of Close ∷ []) [] (field n)
    (λ x. fixed_field Close (λ _. is x) n (λ rest. Ok (x, rest)) true [] [] (is_field x n)) away)

-- ---- wider kinds

pub wider : {X : Type 0} (A : Rules X) (depth : ℕ) (read : Reads X) (empty : Bool) (first further wide : List ℕ) → ((ts : List Token) → Clear wide ts → Clear further ts) → IsField A depth read empty first further
    → IsField A depth read empty first wide
wider A depth read empty first further wide h field = record {
  took = field.took;
  stuck = field.stuck;
  some = field.some;
  again = λ n x front rest k clear. field.again n x front rest k (h rest clear);
  begins = field.begins;
  solid = field.solid;
}

neither : (k : ℕ) (s t : List ℕ) → member k s ≡ false → member k t ≡ false → member k (s ++ t) ≡ false
neither k [] t h e = e
neither k (x ∷ s) t h e = let p = or_false (k == x) (member k s) h in both_false (k == x) (member k (s ++ t)) p.0 (neither k s t p.1 e)

pub clear_both : (s t : List ℕ) (ts : List Token) → Clear s ts → Clear t ts → Clear (s ++ t) ts
clear_both s t [] h e = tt
clear_both s t (c ∷ ts) h e = neither (kind_of c) s t h e

no_kinds : (ts : List Token) → Clear [] ts
no_kinds [] = tt
no_kinds (c ∷ ts) = refl

-- a rule without tokens, among rules that have some
loose : {X : Type 0} (A : Rules X) (depth : ℕ) (read : Reads X) (n : ℕ) (kinds : List ℕ) → IsField A depth read true [] [] → IsField A depth read true (n ∷ []) (n ∷ kinds)
loose A depth read n kinds field = record {
  took = field.took;
  stuck = field.stuck;
  some = field.some;
  again = λ m x front rest k clear. field.again m x front rest k (no_kinds rest);
  begins = λ m x c cs h. absurd (let e : false ≡ true = field.begins m x c cs h in cc);
  solid = field.solid;
}

-- ---- a number of further parts

few_clear : (n : ℕ) (xa : List ℕ) (ts : List Token) → Clear (n ∷ xa) ts → Clear (((((([] ++ (n ∷ xa)) ++ xa)) ++ []) ++ (n ∷ []))) ts
few_clear n xa ts h =
    let f : Clear (n ∷ []) ts = clear_left (n ∷ []) xa ts h in
    let x : Clear xa ts = clear_right (n ∷ []) xa ts h in
    clear_both (((n ∷ xa) ++ xa) ++ []) (n ∷ []) ts (clear_both ((n ∷ xa) ++ xa) [] ts (clear_both (n ∷ xa) xa ts h x) (no_kinds ts)) f

pub few_field : {X : Type 0} (count : ℕ) (f : Fixed) (A : Rules X) (a : Reads X) (depth : ℕ) (first_a further_a : List ℕ) → IsField A depth a false first_a further_a → apart (number_of f ∷ []) further_a ≡ true
    → IsField (λ n. at_most_further count f (A n)) depth (further_at count f a) true (number_of f ∷ []) (number_of f ∷ further_a)
few_field {X} zero f A a depth first_a further_a field away =
    loose (λ _. is []) depth (λ ts. Ok ([], ts)) (number_of f) further_a (is_field [] depth)
few_field {X} (suc count) f A a depth first_a further_a field away =
    wider (λ n. at_most_further (suc count) f (A n)) depth (further_at (suc count) f a) true (number_of f ∷ []) (((([] ++ (number_of f ∷ further_a)) ++ further_a) ++ []) ++ (number_of f ∷ [])) (number_of f ∷ further_a)
    (few_clear (number_of f) further_a)
    (fixed_or f (λ n. A n ▷ λ x. at_most_further count f (A n) ▷ λ xs. is (x ∷ xs)) (λ ts. a ts >>= λ x. with_front (x.0 ∷ []) (further_at count f a x.1)) (λ _. is []) (λ ts. Ok ([], ts)) depth false true (first_a ++ []) (([] ++ (number_of f ∷ further_a)) ++ further_a) [] []
    (then_field A a (λ (x : X) n. at_most_further count f (A n) ▷ λ xs. is (x ∷ xs)) (λ x ts. with_front (x ∷ []) (further_at count f a ts)) depth false true first_a further_a (number_of f ∷ []) ([] ++ (number_of f ∷ further_a)) field
    (λ x. then_field (λ n. at_most_further count f (A n)) (further_at count f a) (λ xs _. is (x ∷ xs)) (λ xs ts. Ok (x ∷ xs, ts)) depth true true (number_of f ∷ []) (number_of f ∷ further_a) [] []
    (few_field count f A a depth first_a further_a field away) (λ xs. is_field (x ∷ xs) depth) refl)
    away)
    (is_field [] depth) refl)

-- ---- any number of further parts

few_to : {X : Type 0} (count : ℕ) (f : Fixed) (A : Rule X) (xs : List X) (ts : List Token) → at_most_further count f A xs ts → further f A xs ts
few_to zero f A xs ts h = subst (λ l. further f A l ts) (sym h.0) h.1
few_to {X} (suc count) f A xs ts h =
    elim h [
      | inl k ↦
          let first = k.2 in
          let q = first.1 in
          let others = q.second in
          let r = others.1 in
          let behind_last : q.rest ≡ r.front = r.whole ∙ ap (λ (l : List Token). r.front ++ l) r.second.1 ∙ append-nil r.front in
          subst (λ l. further f A l ts) (sym r.second.0)
          (k.0, k.1, record { front = q.front; rest = r.front; whole = q.whole ∙ ap (λ (l : List Token). q.front ++ l) behind_last; first = q.first; second = few_to count f A others.0 r.front r.first })
      | inr k ↦ subst (λ l. further f A l ts) (sym k.0) k.1
    ]

few_from : {X : Type 0} (count : ℕ) (f : Fixed) (A : Rule X) (xs : List X) (ts : List Token) → length xs ≤ count → further f A xs ts → at_most_further count f A xs ts
few_from zero f A [] ts l h = (refl, h)
few_from (suc count) f A [] ts l h = inr (refl, h)
few_from zero f A (x ∷ xs) ts l h = absurd (omega arith)
few_from {X} (suc count) f A (x ∷ xs) ts l h =
    let q = h.2 in
    inl (
      h.0,
      h.1,
      (
        x,
        record {
          front = q.front;
          rest = q.rest;
          whole = q.whole;
          first = q.first;
          second = (xs, record { front = q.rest; rest = []; whole = sym (append-nil q.rest); first = few_from count f A xs q.rest (omega arith) q.second; second = (refl, refl) });
        },
      ),
    )

-- reading parts takes tokens away
abbrev pub Shortens : {X : Type 0} → Reads X → Type 0
Shortens {X} a = (ts : List Token) (x : X) (rest : List Token) → a ts ≡ Ok (x, rest) → length rest ≤ length ts

same_behind : {X : Type 0} (f : Fixed) (a : Reads X) (n m : ℕ) → ((ts : List Token) → length ts ≤ n → length ts ≤ m → further_at n f a ts ≡ further_at m f a ts) → Shortens a → (ts : List Token) → length ts ≤ n → length ts ≤ m
    → (r : Result (X × List Token) Stop) → a ts ≡ r → (r >>= λ x. with_front (x.0 ∷ []) (further_at n f a x.1)) ≡ (r >>= λ x. with_front (x.0 ∷ []) (further_at m f a x.1))
same_behind f a n m again short ts l k (Ok x) e = let s = short ts x.0 x.1 e in ap (with_front (x.0 ∷ [])) (again x.1 (omega arith) (omega arith))
same_behind f a n m again short ts l k (Err stop) e = refl

same_further : {X : Type 0} (f : Fixed) (a : Reads X) → Shortens a → (n m : ℕ) (ts : List Token) → length ts ≤ n → length ts ≤ m → further_at n f a ts ≡ further_at m f a ts
same_further f a short zero zero ts l k = refl
same_further f a short zero (suc m) [] l k = refl
same_further f a short zero (suc m) (t ∷ ts) l k = absurd (omega arith)
same_further f a short (suc n) zero [] l k = refl
same_further f a short (suc n) zero (t ∷ ts) l k = absurd (omega arith)
same_further f a short (suc n) (suc m) [] l k = refl
same_further f a short (suc n) (suc m) (t ∷ ts) l k =
    ap (λ r. cond (is_fixed f t) r (Ok ([], t ∷ ts))) (same_behind f a n m (same_further f a short n m) short ts (omega arith) (omega arith) (a ts) refl)

field_shortens : {X : Type 0} (A : Rules X) (depth : ℕ) (a : Reads X) (empty : Bool) (first further : List ℕ) → IsField A depth a empty first further → Shortens a
field_shortens A depth a empty first further field ts x rest e =
    let t = field.took ts x rest e in
    let whole = ap length t.split in
    let total = length-append t.front rest in
    omega (arith, whole, total)

-- two ways to cut a list at one place
same_cut : (a b c d : List Token) → a ++ b ≡ c ++ d → length b ≡ length d → a ≡ c
same_cut [] b [] d e l = refl
same_cut [] b (y ∷ c) d e l = absurd (let whole = ap length e in let total = length-append c d in omega (arith, whole, total, l))
same_cut (x ∷ a) b [] d e l = absurd (let whole = ap length e in let total = length-append a b in omega (arith, whole, total, l))
same_cut (x ∷ a) b (y ∷ c) d e l =
    let heads : x ≡ y = cc in
    let tails : a ++ b ≡ c ++ d = cc in
    ap (λ (s : List Token). x ∷ s) (same_cut a b c d tails l) ∙ ap (λ h. h ∷ c) heads

few_begun : {X : Type 0} (count : ℕ) (f : Fixed) (A : Rules X) (depth : ℕ) (front : List Token) → Begun (λ n. at_most_further count f (A n)) depth front → Begun (λ n. further f (A n)) depth front
few_begun count f A depth front b = record { value = b.value; more = b.more; spells = few_to count f (A (suc depth)) b.value (front ++ b.more) b.spells }

further_begins : {X : Type 0} (f : Fixed) (A : Rules X) (n : ℕ) (xs : List X) (c : Token) (cs : List Token) → further f (A n) xs (c ∷ cs) → member (kind_of c) (number_of f ∷ []) ≡ true
further_begins f A n [] c cs h = absurd cc
further_begins f A n (x ∷ xs) c cs h =
    let same : c ≡ tokens.Fixed f = (let e : c ∷ cs ≡ tokens.Fixed f ∷ h.0 = h.1 in cc) in subst (λ t. member (kind_of t) (number_of f ∷ []) ≡ true) (sym same) (self_member (number_of f))

pub further_field : {X : Type 0} (f : Fixed) (A : Rules X) (a : Reads X) (depth : ℕ) (first_a further_a : List ℕ) → IsField A depth a false first_a further_a → apart (number_of f ∷ []) further_a ≡ true
    → IsField (λ n. further f (A n)) depth (λ ts. further_at (length ts) f a ts) true (number_of f ∷ []) (number_of f ∷ further_a)
further_field {X} f A a depth first_a further_a field away =
    let few = λ (count : ℕ). few_field count f A a depth first_a further_a field away in
    let short : Shortens a = field_shortens A depth a false first_a further_a field in
    let widest : (ts : List Token) (n : ℕ) → length ts ≤ n → further_at n f a ts ≡ further_at (length ts) f a ts = λ ts n l. same_further f a short n (length ts) ts l (omega arith) in
    record {
      took = λ ts xs rest e.
          let t = (few (length ts)).took ts xs rest e in
          record {
            front = t.front;
            split = t.split;
            spells = λ n enough. few_to (length ts) f (A n) xs t.front (t.spells n enough);
            looks = λ b old new k.
                let goal_tokens : List Token = t.front ++ (b ∷ new) in
                let n : ℕ = length ts + length goal_tokens in
                let u = (few n).took ts xs rest (widest ts n (omega arith) ∙ e) in
                let same : u.front ≡ t.front = append_cancel_right u.front t.front rest (sym u.split ∙ t.split) in
                sym (widest goal_tokens n (omega arith)) ∙ ap (λ (l : List Token). further_at n f a (l ++ (b ∷ new))) (sym same) ∙ u.looks b old new k;
          };
      stuck = λ ts stop e.
          let s = (few (length ts)).stuck ts stop e in
          record {
            before = s.before;
            after = s.after;
            split = s.split;
            left = s.left;
            begins = few_begun (length ts) f A depth s.before s.begins;
            stays = λ b old new k.
                let goal_tokens : List Token = s.before ++ (b ∷ new) in
                let n : ℕ = length ts + length goal_tokens in
                let u = (few n).stuck ts stop (widest ts n (omega arith) ∙ e) in
                let same : u.before ≡ s.before = same_cut u.before u.after s.before s.after (sym u.split ∙ s.split) (sym u.left ∙ s.left) in
                let same_after : u.after ≡ s.after = append_cancel_left s.before u.after s.after (ap (λ (l : List Token). l ++ u.after) (sym same) ∙ sym u.split ∙ s.split) in
                sym (widest goal_tokens n (omega arith)) ∙ ap (λ (l : List Token). further_at n f a (l ++ (b ∷ new))) (sym same) ∙ u.stays b old new (same_after ∙ k);
            deep = λ d. let q = s.deep d in (q.0, q.1, q.2, q.3, few_begun (length ts) f A depth (s.before ++ (q.0 ∷ [])) q.4);
          };
      some = λ n. record { value = []; text = []; spells = refl };
      again = λ n xs front rest h clear.
          let all : List Token = front ++ rest in
          let count : ℕ = length xs + length all in
          subst (Reach depth n xs rest) (widest all count (omega arith)) ((few count).again n xs front rest (few_from count f (A n) xs front (omega arith) h) clear);
      begins = further_begins f A;
      solid = λ n xs h. refl;
    }

pub series_field : {X : Type 0} (f : Fixed) (A : Rules X) (a : Reads X) (depth : ℕ) (first_a further_a : List ℕ) → IsField A depth a false first_a further_a → apart (number_of f ∷ []) further_a ≡ true
    → IsField (λ n. series f (A n)) depth (series_at f a) false (first_a ++ []) ((number_of f ∷ further_a) ++ further_a)
series_field {X} f A a depth first_a further_a field away =
    then_field A a (λ (x : X) n. further f (A n) ▷ λ xs. is (x ∷ xs)) (λ x ts. with_front (x ∷ []) (further_at (length ts) f a ts)) depth false true first_a further_a (number_of f ∷ []) ([] ++ (number_of f ∷ further_a)) field
    (λ x. then_field (λ n. further f (A n)) (λ ts. further_at (length ts) f a ts) (λ xs _. is (x ∷ xs)) (λ xs ts. Ok (x ∷ xs, ts)) depth true true (number_of f ∷ []) (number_of f ∷ further_a) [] []
    (further_field f A a depth first_a further_a field away) (λ xs. is_field (x ∷ xs) depth) refl)
    away

-- ---- any number of parts that begin with two kinds of tokens

-- at most so many
abbrev at_most : {X : Type 0} → ℕ → Rule X → Rule (List X)
at_most {X} zero A = is []
at_most {X} (suc count) A = (A ▷ λ x. at_most count A ▷ λ xs. is (x ∷ xs)) ∣ is []

loose_two : {X : Type 0} (A : Rules X) (depth : ℕ) (read : Reads X) (p q : ℕ) (kinds : List ℕ) → IsField A depth read true [] [] → IsField A depth read true (p ∷ q ∷ []) (p ∷ q ∷ kinds)
loose_two A depth read p q kinds field = record {
  took = field.took;
  stuck = field.stuck;
  some = field.some;
  again = λ m x front rest k clear. field.again m x front rest k (no_kinds rest);
  begins = λ m x c cs h. absurd (let e : false ≡ true = field.begins m x c cs h in cc);
  solid = field.solid;
}

two_clear : (p q : ℕ) (xa : List ℕ) (ts : List Token) → Clear (p ∷ q ∷ xa) ts → Clear ((((p ∷ q ∷ xa) ++ xa) ++ []) ++ (p ∷ q ∷ [])) ts
two_clear p q xa ts h =
    let f : Clear (p ∷ q ∷ []) ts = clear_left (p ∷ q ∷ []) xa ts h in
    let x : Clear xa ts = clear_right (p ∷ q ∷ []) xa ts h in
    clear_both (((p ∷ q ∷ xa) ++ xa) ++ []) (p ∷ q ∷ []) ts (clear_both ((p ∷ q ∷ xa) ++ xa) [] ts (clear_both (p ∷ q ∷ xa) xa ts h x) (no_kinds ts)) f

at_most_field : {X : Type 0} (count : ℕ) (A : Rules X) (a : Reads X) (depth : ℕ) (test : List Token → Bool) (p q : ℕ) (further_a : List ℕ) → IsField A depth a false (p ∷ q ∷ []) further_a → Tells test (p ∷ q ∷ [])
    → apart (p ∷ q ∷ []) further_a ≡ true → IsField (λ n. at_most count (A n)) depth (many_at count test a) true (p ∷ q ∷ []) (p ∷ q ∷ further_a)
at_most_field {X} zero A a depth test p q further_a field tells away = loose_two (λ _. is []) depth (λ ts. Ok ([], ts)) p q further_a (is_field [] depth)
at_most_field {X} (suc count) A a depth test p q further_a field tells away =
    wider (λ n. at_most (suc count) (A n)) depth (many_at (suc count) test a) true (p ∷ q ∷ []) ((((p ∷ q ∷ further_a) ++ further_a) ++ []) ++ (p ∷ q ∷ [])) (p ∷ q ∷ further_a)
    (two_clear p q further_a)
    (either_field (λ n. A n ▷ λ x. at_most count (A n) ▷ λ xs. is (x ∷ xs)) (λ ts. a ts >>= λ x. with_front (x.0 ∷ []) (many_at count test a x.1)) (λ _. is []) (λ ts. Ok ([], ts)) test depth true
    (p ∷ q ∷ []) ((p ∷ q ∷ further_a) ++ further_a) [] []
    (then_field A a (λ (x : X) n. at_most count (A n) ▷ λ xs. is (x ∷ xs)) (λ x ts. with_front (x ∷ []) (many_at count test a ts)) depth false true (p ∷ q ∷ []) further_a (p ∷ q ∷ []) (p ∷ q ∷ further_a) field
    (λ x. then_field (λ n. at_most count (A n)) (many_at count test a) (λ xs _. is (x ∷ xs)) (λ xs ts. Ok (x ∷ xs, ts)) depth true true (p ∷ q ∷ []) (p ∷ q ∷ further_a) [] []
    (at_most_field count A a depth test p q further_a field tells away) (λ xs. is_field (x ∷ xs) depth) refl)
    away)
    (is_field [] depth) tells refl)

most_to : {X : Type 0} (count : ℕ) (A : Rule X) (xs : List X) (ts : List Token) → at_most count A xs ts → many A xs ts
most_to zero A xs ts h = subst (λ l. many A l ts) (sym h.0) h.1
most_to {X} (suc count) A xs ts h =
    elim h [
      | inl k ↦
          let q = k.1 in
          let others = q.second in
          let r = others.1 in
          let behind_last : q.rest ≡ r.front = r.whole ∙ ap (λ (l : List Token). r.front ++ l) r.second.1 ∙ append-nil r.front in
          subst (λ l. many A l ts) (sym r.second.0)
          (record { front = q.front; rest = r.front; whole = q.whole ∙ ap (λ (l : List Token). q.front ++ l) behind_last; first = q.first; second = most_to count A others.0 r.front r.first })
      | inr k ↦ subst (λ l. many A l ts) (sym k.0) k.1
    ]

most_from : {X : Type 0} (count : ℕ) (A : Rule X) (xs : List X) (ts : List Token) → length xs ≤ count → many A xs ts → at_most count A xs ts
most_from zero A [] ts l h = (refl, h)
most_from (suc count) A [] ts l h = inr (refl, h)
most_from zero A (x ∷ xs) ts l h = absurd (omega arith)
most_from {X} (suc count) A (x ∷ xs) ts l q =
    inl (
      x,
      record {
        front = q.front;
        rest = q.rest;
        whole = q.whole;
        first = q.first;
        second = (xs, record { front = q.rest; rest = []; whole = sym (append-nil q.rest); first = most_from count A xs q.rest (omega arith) q.second; second = (refl, refl) });
      },
    )

-- reading a part takes a token away at least
abbrev Shrinks : {X : Type 0} → Reads X → Type 0
Shrinks {X} a = (ts : List Token) (x : X) (rest : List Token) → a ts ≡ Ok (x, rest) → length rest < length ts

shorter : {X : Type 0} (A : Rule X) (x : X) (front ts rest : List Token) → ts ≡ front ++ rest → A x front → (A x [] → false ≡ true) → length rest < length ts
shorter A x [] ts rest split spells solid = absurd (let e : false ≡ true = solid spells in cc)
shorter A x (c ∷ front) ts rest split spells solid =
    let whole = ap length split in
    let total = length-append front rest in
    omega (arith, whole, total)

field_shrinks : {X : Type 0} (A : Rules X) (depth : ℕ) (a : Reads X) (first further : List ℕ) → IsField A depth a false first further → Shrinks a
field_shrinks A depth a first further field ts x rest e =
    let t = field.took ts x rest e in
    shorter (A depth) x t.front ts rest t.split (t.spells depth (omega arith)) (field.solid depth x)

same_part : {X : Type 0} (test : List Token → Bool) (a : Reads X) (n m : ℕ) → ((ts : List Token) → length ts ≤ n → length ts ≤ m → many_at n test a ts ≡ many_at m test a ts) → Shrinks a
    → (ts : List Token) → length ts ≤ suc n → length ts ≤ suc m → (r : Result (X × List Token) Stop) → a ts ≡ r
    → (r >>= λ x. with_front (x.0 ∷ []) (many_at n test a x.1)) ≡ (r >>= λ x. with_front (x.0 ∷ []) (many_at m test a x.1))
same_part test a n m again short ts l k (Ok x) e = let s = short ts x.0 x.1 e in ap (with_front (x.0 ∷ [])) (again x.1 (omega arith) (omega arith))
same_part test a n m again short ts l k (Err stop) e = refl

same_many : {X : Type 0} (test : List Token → Bool) (a : Reads X) → test [] ≡ false → Shrinks a → (n m : ℕ) (ts : List Token) → length ts ≤ n → length ts ≤ m → many_at n test a ts ≡ many_at m test a ts
same_many test a none short zero zero ts l k = refl
same_many test a none short zero (suc m) [] l k = rw none refl
same_many test a none short zero (suc m) (t ∷ ts) l k = absurd (omega arith)
same_many test a none short (suc n) zero [] l k = rw none refl
same_many test a none short (suc n) zero (t ∷ ts) l k = absurd (omega arith)
same_many test a none short (suc n) (suc m) ts l k =
    ap (λ r. cond (test ts) r (Ok ([], ts))) (same_part test a n m (same_many test a none short n m) short ts l k (a ts) refl)

most_begun : {X : Type 0} (count : ℕ) (A : Rules X) (depth : ℕ) (front : List Token) → Begun (λ n. at_most count (A n)) depth front → Begun (λ n. many (A n)) depth front
most_begun count A depth front b = record { value = b.value; more = b.more; spells = most_to count (A (suc depth)) b.value (front ++ b.more) b.spells }

many_begins : {X : Type 0} (A : Rules X) (depth : ℕ) (a : Reads X) (first further : List ℕ) → IsField A depth a false first further → (n : ℕ) (xs : List X) (c : Token) (cs : List Token) → many (A n) xs (c ∷ cs)
    → member (kind_of c) first ≡ true
many_begins A depth a first further field n [] c cs h = absurd cc
many_begins A depth a first further field n (x ∷ xs) c cs q =
    (elim q.front as (λ f. c ∷ cs ≡ f ++ q.rest → A n x f → member (kind_of c) first ≡ true) [
      | [] ↦ λ e k. absurd (let s : false ≡ true = field.solid n x k in cc)
      | d ∷ ds ↦ λ e k. let same : d ≡ c = cc in subst (λ t. member (kind_of t) first ≡ true) same (field.begins n x d ds k)
    ]) q.whole q.first

pub many_field : {X : Type 0} (A : Rules X) (a : Reads X) (depth : ℕ) (test : List Token → Bool) (p q : ℕ) (further_a : List ℕ) → IsField A depth a false (p ∷ q ∷ []) further_a → Tells test (p ∷ q ∷ [])
    → apart (p ∷ q ∷ []) further_a ≡ true → IsField (λ n. many (A n)) depth (λ ts. many_at (length ts) test a ts) true (p ∷ q ∷ []) (p ∷ q ∷ further_a)
many_field {X} A a depth test p q further_a field tells away =
    let few = λ (count : ℕ). at_most_field count A a depth test p q further_a field tells away in
    let short : Shrinks a = field_shrinks A depth a (p ∷ q ∷ []) further_a field in
    let widest : (ts : List Token) (n : ℕ) → length ts ≤ n → many_at n test a ts ≡ many_at (length ts) test a ts = λ ts n l. same_many test a tells.none short n (length ts) ts l (omega arith) in
    record {
      took = λ ts xs rest e.
          let t = (few (length ts)).took ts xs rest e in
          record {
            front = t.front;
            split = t.split;
            spells = λ n enough. most_to (length ts) (A n) xs t.front (t.spells n enough);
            looks = λ b old new k.
                let goal_tokens : List Token = t.front ++ (b ∷ new) in
                let n : ℕ = length ts + length goal_tokens in
                let u = (few n).took ts xs rest (widest ts n (omega arith) ∙ e) in
                let same : u.front ≡ t.front = append_cancel_right u.front t.front rest (sym u.split ∙ t.split) in
                sym (widest goal_tokens n (omega arith)) ∙ ap (λ (l : List Token). many_at n test a (l ++ (b ∷ new))) (sym same) ∙ u.looks b old new k;
          };
      stuck = λ ts stop e.
          let s = (few (length ts)).stuck ts stop e in
          record {
            before = s.before;
            after = s.after;
            split = s.split;
            left = s.left;
            begins = most_begun (length ts) A depth s.before s.begins;
            stays = λ b old new k.
                let goal_tokens : List Token = s.before ++ (b ∷ new) in
                let n : ℕ = length ts + length goal_tokens in
                let u = (few n).stuck ts stop (widest ts n (omega arith) ∙ e) in
                let same : u.before ≡ s.before = same_cut u.before u.after s.before s.after (sym u.split ∙ s.split) (sym u.left ∙ s.left) in
                let same_after : u.after ≡ s.after = append_cancel_left s.before u.after s.after (ap (λ (l : List Token). l ++ u.after) (sym same) ∙ sym u.split ∙ s.split) in
                sym (widest goal_tokens n (omega arith)) ∙ ap (λ (l : List Token). many_at n test a (l ++ (b ∷ new))) (sym same) ∙ u.stays b old new (same_after ∙ k);
            deep = λ d. let r = s.deep d in (r.0, r.1, r.2, r.3, most_begun (length ts) A depth (s.before ++ (r.0 ∷ [])) r.4);
          };
      some = λ n. record { value = []; text = []; spells = refl };
      again = λ n xs front rest h clear.
          let all : List Token = front ++ rest in
          let count : ℕ = length xs + length all in
          subst (Reach depth n xs rest) (widest all count (omega arith)) ((few count).again n xs front rest (most_from count (A n) xs front (omega arith) h) clear);
      begins = many_begins A depth a (p ∷ q ∷ []) further_a field;
      solid = λ n xs h. refl;
    }

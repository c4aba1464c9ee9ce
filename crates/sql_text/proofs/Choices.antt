-- Rules that begin in several ways, and those that need an opening.
use Rattle.std.proofs.Common.{◌≡◌, ℕ, suc, ◌<◌, ◌≤◌, Bool, true, false, cond, List, [], ◌∷◌, ◌++◌, Result, Ok, Err, refl, sym, ap, subst, ◌∙◌, arith, inl, inr}
use Rattle.std.specs.Prelude.{◌==◌, ◌||◌}
use Rattle.std.proofs.lemmas.Bool.Decides.{nat_tests}
use Rattle.sql_text.specs.declared.token.Fixed.{Fixed}
use Rattle.sql_text.specs.declared.token.Token.{Token}
use Rattle.sql_text.specs.declared.token.Token.TheVariants as tokens
use Rattle.sql_text.specs.declared.fault.Stop.{Stop}
use Rattle.sql_text.specs.Rules.{is, ◌⊳◌, ◌∣◌, optional}
use Rattle.sql_text.specs.Reading.{◌>>=◌, number_of, begins, behind, expect, optional_at, syntax}
use Rattle.sql_text.proofs.Fields.{Reads, Rules, kind_of, member, apart, member_left, member_right, apart_none, Clear, clear_left, clear_right, Begun, Reach, IsField, number_below, chosen, is_field, fixed_field}

-- ---- the same reading, the same rule

same_pointwise : {A B : Type 0} (f g : A → B) → ((x : A) → f x ≡ g x) → f ≡ g
same_pointwise f g h = λ i x. h x i

pub same_reader : {X : Type 0} (A : Rules X) (depth : ℕ) (read other : Reads X) (empty : Bool) (first further : List ℕ) → IsField A depth read empty first further → ((ts : List Token) → read ts ≡ other ts)
    → IsField A depth other empty first further
same_reader {X} A depth read other empty first further field h = subst (λ (r : Reads X). IsField A depth r empty first further) (same_pointwise read other h) field

same_begun : {X : Type 0} (A B : Rules X) (depth : ℕ) → ((n : ℕ) (x : X) (ts : List Token) → A n x ts → B n x ts) → (front : List Token) → Begun A depth front → Begun B depth front
same_begun A B depth to front b = record { value = b.value; more = b.more; spells = to (suc depth) b.value (front ++ b.more) b.spells }

pub same_rule : {X : Type 0} (A B : Rules X) (depth : ℕ) (read : Reads X) (empty : Bool) (first further : List ℕ) → ((n : ℕ) (x : X) (ts : List Token) → A n x ts → B n x ts) → ((n : ℕ) (x : X) (ts : List Token) → B n x ts → A n x ts)
    → IsField A depth read empty first further → IsField B depth read empty first further
same_rule A B depth read empty first further to from field = record {
  took = λ ts x rest e. let t = field.took ts x rest e in record { front = t.front; split = t.split; spells = λ n enough. to n x t.front (t.spells n enough); looks = t.looks };
  stuck = λ ts stop e.
      let s = field.stuck ts stop e in
      record {
        before = s.before;
        after = s.after;
        split = s.split;
        left = s.left;
        begins = same_begun A B depth to s.before s.begins;
        stays = s.stays;
        deep = λ d. let q = s.deep d in (q.0, q.1, q.2, q.3, same_begun A B depth to (s.before ++ (q.0 ∷ [])) q.4);
      };
  some = λ n. let s = field.some n in record { value = s.value; text = s.text; spells = to (suc n) s.value s.text s.spells };
  again = λ n x front rest h clear. field.again n x front rest (from n x front h) clear;
  begins = λ n x c cs h. field.begins n x c cs (from n x (c ∷ cs) h);
  solid = λ n x h. field.solid n x (from n x [] h);
}

-- ---- either of two rules, by the first token

-- tells by the first token whether it is one of these kinds
pub record Tells (test : List Token → Bool) (kinds : List ℕ) : Type 0 where
  pub none : test [] ≡ false
  pub head : (t : Token) (ts : List Token) → test (t ∷ ts) ≡ member (kind_of t) kinds

tells_alike : (test : List Token → Bool) (kinds : List ℕ) → Tells test kinds → (u : List Token) (b : Token) (old new : List Token) → test (u ++ (b ∷ new)) ≡ test (u ++ (b ∷ old))
tells_alike test kinds tells [] b old new = tells.head b new ∙ sym (tells.head b old)
tells_alike test kinds tells (c ∷ u) b old new = tells.head c (u ++ (b ∷ new)) ∙ sym (tells.head c (u ++ (b ∷ old)))

-- what the test says of tokens that go on with the same token
told : (test : List Token → Bool) (kinds : List ℕ) → Tells test kinds → (ts front after : List Token) (b : Token) (old new : List Token) (v : Bool) → ts ≡ front ++ after → after ≡ b ∷ old → test ts ≡ v → test (front ++ (b ∷ new)) ≡ v
told test kinds tells ts front after b old new v split k e =
    tells_alike test kinds tells front b old new ∙ ap test (sym (split ∙ ap (λ (l : List Token). front ++ l) k)) ∙ e

left_begun : {X : Type 0} (A B : Rules X) (depth : ℕ) (front : List Token) → Begun A depth front → Begun (λ n. A n ∣ B n) depth front
left_begun A B depth front b = record { value = b.value; more = b.more; spells = inl b.spells }

right_begun : {X : Type 0} (A B : Rules X) (depth : ℕ) (front : List Token) → Begun B depth front → Begun (λ n. A n ∣ B n) depth front
right_begun A B depth front b = record { value = b.value; more = b.more; spells = inr b.spells }

pub either_field : {X : Type 0} (A : Rules X) (a : Reads X) (B : Rules X) (b : Reads X) (test : List Token → Bool) (depth : ℕ) (empty : Bool) (first_a further_a first_b further_b : List ℕ)
    → IsField A depth a false first_a further_a → IsField B depth b empty first_b further_b → Tells test first_a → apart first_b first_a ≡ true
    → IsField (λ n. A n ∣ B n) depth (λ ts. cond (test ts) (a ts) (b ts)) empty (first_a ++ first_b) ((further_a ++ further_b) ++ cond empty first_a [])
either_field {X} A a B b test depth empty first_a further_a first_b further_b fa fb tells away =
    let read : Reads X = λ ts. cond (test ts) (a ts) (b ts) in
    let goes : (L : List Token) (v : Bool) → test L ≡ v → read L ≡ cond v (a L) (b L) = λ L v e. ap (λ w. cond w (a L) (b L)) e in
    let left_true : (n : ℕ) (x : X) (front rest : List Token) → A n x front → test (front ++ rest) ≡ true =
    λ n x front rest h. (elim front as (λ f. A n x f → test (f ++ rest) ≡ true) [
      | [] ↦ λ k. absurd (let s : false ≡ true = fa.solid n x k in cc)
      | c ∷ cs ↦ λ k. tells.head c (cs ++ rest) ∙ fa.begins n x c cs k
    ]) h in
    let right_false : (n : ℕ) (x : X) (front rest : List Token) → B n x front → Clear (cond empty first_a []) rest → test (front ++ rest) ≡ false =
    λ n x front rest h clear. (elim front as (λ f. B n x f → test (f ++ rest) ≡ false) [
      | [] ↦ λ k. (elim rest as (λ r. Clear (cond empty first_a []) r → test r ≡ false) [
        | [] ↦ λ _. tells.none
        | c ∷ cs ↦ λ m. tells.head c cs ∙ (let m' : member (kind_of c) (cond true first_a []) ≡ false = subst (λ v. member (kind_of c) (cond v first_a []) ≡ false) (fb.solid n x k) m in m')
      ]) clear
      | c ∷ cs ↦ λ k. tells.head c (cs ++ rest) ∙ apart_none (kind_of c) first_b first_a away (fb.begins n x c cs k)
    ]) h in
    record {
      took = λ ts x rest e.
          elim (chosen (test ts) (a ts) (b ts) (Ok (x, rest)) e) [
            | inl k ↦
                let t = fa.took ts x rest k.1 in
                record { front = t.front; split = t.split; spells = λ n enough. inl (t.spells n enough); looks = λ c old new m. goes (t.front ++ (c ∷ new)) true (told test first_a tells ts t.front rest c old new true t.split m k.0) ∙ t.looks c old new m }
            | inr k ↦
                let t = fb.took ts x rest k.1 in
                record { front = t.front; split = t.split; spells = λ n enough. inr (t.spells n enough); looks = λ c old new m. goes (t.front ++ (c ∷ new)) false (told test first_a tells ts t.front rest c old new false t.split m k.0) ∙ t.looks c old new m }
          ];
      stuck = λ ts stop e.
          elim (chosen (test ts) (a ts) (b ts) (Err stop) e) [
            | inl k ↦
                let s = fa.stuck ts stop k.1 in
                record {
                  before = s.before;
                  after = s.after;
                  split = s.split;
                  left = s.left;
                  begins = left_begun A B depth s.before s.begins;
                  stays = λ c old new m. goes (s.before ++ (c ∷ new)) true (told test first_a tells ts s.before s.after c old new true s.split m k.0) ∙ s.stays c old new m;
                  deep = λ d. let q = s.deep d in (q.0, q.1, q.2, q.3, left_begun A B depth (s.before ++ (q.0 ∷ [])) q.4);
                }
            | inr k ↦
                let s = fb.stuck ts stop k.1 in
                record {
                  before = s.before;
                  after = s.after;
                  split = s.split;
                  left = s.left;
                  begins = right_begun A B depth s.before s.begins;
                  stays = λ c old new m. goes (s.before ++ (c ∷ new)) false (told test first_a tells ts s.before s.after c old new false s.split m k.0) ∙ s.stays c old new m;
                  deep = λ d. let q = s.deep d in (q.0, q.1, q.2, q.3, right_begun A B depth (s.before ++ (q.0 ∷ [])) q.4);
                }
          ];
      some = λ n. let s = fa.some n in record { value = s.value; text = s.text; spells = inl s.spells };
      again = λ n x front rest h clear.
          let wide = clear_left (further_a ++ further_b) (cond empty first_a []) rest clear in
          elim h [
            | inl k ↦ subst (Reach depth n x rest) (sym (goes (front ++ rest) true (left_true n x front rest k))) (fa.again n x front rest k (clear_left further_a further_b rest wide))
            | inr k ↦
                subst (Reach depth n x rest) (sym (goes (front ++ rest) false (right_false n x front rest k (clear_right (further_a ++ further_b) (cond empty first_a []) rest clear))))
                (fb.again n x front rest k (clear_right further_a further_b rest wide))
          ];
      begins = λ n x c cs h. elim h [ inl k ↦ member_left (kind_of c) first_a first_b (fa.begins n x c cs k) | inr k ↦ member_right (kind_of c) first_a first_b (fb.begins n x c cs k) ];
      solid = λ n x h. elim h [ inl k ↦ absurd (let s : false ≡ true = fa.solid n x k in cc) | inr k ↦ fb.solid n x k ];
    }

-- ---- by a keyword or symbol

or_nothing : (b : Bool) → b ≡ (b || false)
or_nothing true = refl
or_nothing false = refl

other_kind : (f : Fixed) (n : ℕ) → 60 ≤ n → false ≡ ((n == number_of f) || false)
other_kind f n h = let below : number_of f < 60 = number_below f in let e : (n == number_of f) ≡ false = grind (arith, nat_tests) in rw e refl

head_kind : (f : Fixed) (t : Token) (ts : List Token) → begins f (t ∷ ts) ≡ member (kind_of t) (number_of f ∷ [])
head_kind f (tokens.Fixed g) ts = or_nothing (number_of g == number_of f)
head_kind f (tokens.Bare n) ts = other_kind f 100 (omega arith)
head_kind f (tokens.Quoted n) ts = other_kind f 100 (omega arith)
head_kind f (tokens.Digits n) ts = other_kind f 101 (omega arith)
head_kind f (tokens.Signed n) ts = other_kind f 102 (omega arith)
head_kind f (tokens.Text n) ts = other_kind f 103 (omega arith)
head_kind f tokens.Bad ts = other_kind f 104 (omega arith)

pub begins_tells : (f : Fixed) → Tells (begins f) (number_of f ∷ [])
begins_tells f = record { none = refl; head = head_kind f }

or_flat : (b c : Bool) → ((b || false) || (c || false)) ≡ (b || (c || false))
or_flat true c = refl
or_flat false c = refl

-- one of two keywords or symbols
pub either_tells : (f g : Fixed) → Tells (λ ts. begins f ts || begins g ts) (number_of f ∷ number_of g ∷ [])
either_tells f g = record {
  none = refl;
  head = λ t ts. (ap (λ b. b || begins g (t ∷ ts)) (head_kind f t ts) ∙ ap (λ b. member (kind_of t) (number_of f ∷ []) || b) (head_kind g t ts)) ∙ or_flat (kind_of t == number_of f) (kind_of t == number_of g);
}

-- ---- reading behind a keyword that was looked at

expect_if : (f : Fixed) (ts : List Token) → begins f ts ≡ true → expect f ts ≡ Ok (behind ts)
unfolding expect
expect_if f ts e = rw e refl

expect_else : (f : Fixed) (ts : List Token) → begins f ts ≡ false → expect f ts ≡ syntax ts
unfolding expect
expect_else f ts e = rw e refl

looked_at : {X : Type 0} (f : Fixed) (ts : List Token) (k : List Token → Result X Stop) (z : Result X Stop) (b : Bool) → begins f ts ≡ b → cond b (expect f ts >>= k) z ≡ cond b (k (behind ts)) z
looked_at f ts k z true e = ap (λ r. r >>= k) (expect_if f ts e)
looked_at f ts k z false e = refl

pub looked : {X : Type 0} (f : Fixed) (ts : List Token) (k : List Token → Result X Stop) (z : Result X Stop) → cond (begins f ts) (expect f ts >>= k) z ≡ cond (begins f ts) (k (behind ts)) z
looked f ts k z = looked_at f ts k z (begins f ts) refl

-- this keyword and then that, or something else
pub fixed_or : {X : Type 0} (f : Fixed) (A : Rules X) (a : Reads X) (B : Rules X) (b : Reads X) (depth : ℕ) (empty_a empty : Bool) (first_a further_a first_b further_b : List ℕ)
    → IsField A depth a empty_a first_a further_a → IsField B depth b empty first_b further_b → apart first_b (number_of f ∷ []) ≡ true
    → IsField (λ n. (f ⊳ A n) ∣ B n) depth (λ ts. cond (begins f ts) (a (behind ts)) (b ts)) empty ((number_of f ∷ []) ++ first_b) ((further_a ++ further_b) ++ cond empty (number_of f ∷ []) [])
fixed_or {X} f A a B b depth empty_a empty first_a further_a first_b further_b fa fb away =
    same_reader (λ n. (f ⊳ A n) ∣ B n) depth (λ ts. cond (begins f ts) (expect f ts >>= a) (b ts)) (λ ts. cond (begins f ts) (a (behind ts)) (b ts)) empty ((number_of f ∷ []) ++ first_b)
    ((further_a ++ further_b) ++ cond empty (number_of f ∷ []) [])
    (either_field (λ n. f ⊳ A n) (λ ts. expect f ts >>= a) B b (begins f) depth empty (number_of f ∷ []) further_a first_b further_b (fixed_field f A depth a empty_a first_a further_a fa) fb (begins_tells f) away)
    (λ ts. looked f ts a (b ts))

pub optional_field : (f : Fixed) (depth : ℕ) → IsField (λ _. optional f) depth (optional_at f) true (number_of f ∷ []) (number_of f ∷ [])
unfolding optional_at
optional_field f depth = fixed_or f (λ _. is true) (λ ts. Ok (true, ts)) (λ _. is false) (λ ts. Ok (false, ts)) depth true true [] [] [] [] (is_field true depth) (is_field false depth) refl

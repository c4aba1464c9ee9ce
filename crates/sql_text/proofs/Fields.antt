-- Reading from left to right reads what a rule spells, and stops at the first token that no text of the rule has there.
use Rattle.std.proofs.Common.{◌≡◌, ℕ, suc, ◌<◌, ◌≤◌, Bool, true, false, cond, List, [], ◌∷◌, ◌++◌, length, Option, Some, None, Result, Ok, Err, refl, sym, ap, subst, ◌∙◌, append_assoc, arith, inl, inr, ◌⊎◌}
use Rattle.std.proofs.lemmas.Bool.Decides.{nat_tests}
use Rattle.std.specs.Prelude.{◌==◌, ◌&&◌, ◌||◌, not, if◌then◌else◌}
use Rattle.sql_text.specs.declared.token.Fixed.{Fixed}
use Rattle.sql_text.specs.declared.token.Token.{Token}
use Rattle.sql_text.specs.declared.token.Token.TheVariants as tokens
use Rattle.sql_text.specs.declared.fault.Stop.{Stop}
use Rattle.sql_text.specs.Rules.{Rule, is, one, ◌⊳◌, ◌▷◌}
use Rattle.sql_text.specs.declared.token.Fixed.TheVariants.{And, As, Asc, Between, By, Count, Database, Databases, Delete, Desc, For, From, In, Inner, Insert, Into, Join, Limit, Lock, Max, Min, Mode, Not, Null, Offset, On, Or, Order, Select, Set, Share, Show, Sum, Tables, Update, Values, Where, VersionComment, Commit, End, Prepare, Recover, Replace, Rollback, Start, Xa, Open, Close, Comma, Dot, Star, Plus, Minus, Semicolon, Equal, NotEqual, Less, AtMost, Greater, AtLeast}
use Rattle.sql_text.specs.Places.{is_opening}
use Rattle.sql_text.specs.Reading.{◌>>=◌, number_of, syntax, value_before, one_at, expect, is_fixed}

abbrev pub Reads : Type 0 → Type 0
Reads X = List Token → Result (X × List Token) Stop

-- a rule for each number of openings
abbrev pub Rules : Type 0 → Type 1
Rules X = ℕ → Rule X

-- ---- kinds of tokens

-- a number of each kind of token
abbrev pub kind_of : Token → ℕ
kind_of (tokens.Fixed f) = number_of f
kind_of (tokens.Bare n) = 100
kind_of (tokens.Quoted n) = 100
kind_of (tokens.Digits n) = 101
kind_of (tokens.Signed n) = 102
kind_of (tokens.Text t) = 103
kind_of tokens.Bad = 104

abbrev pub member : ℕ → List ℕ → Bool
member k [] = false
member k (x ∷ xs) = (k == x) || member k xs

-- no kind is in both
abbrev pub apart : List ℕ → List ℕ → Bool
apart [] t = true
apart (x ∷ s) t = not (member x t) && apart s t

or_left : (b c : Bool) → b ≡ true → (b || c) ≡ true
or_left true c h = refl
or_left false c h = absurd (cc)

or_right : (b c : Bool) → c ≡ true → (b || c) ≡ true
or_right true c h = refl
or_right false c h = h

pub or_false : (b c : Bool) → (b || c) ≡ false → (b ≡ false) × (c ≡ false)
or_false true c h = absurd (cc)
or_false false c h = (refl, h)

pub and_true : (b c : Bool) → (b && c) ≡ true → (b ≡ true) × (c ≡ true)
and_true true c h = (refl, h)
and_true false c h = absurd (cc)

not_true : (b : Bool) → not b ≡ true → b ≡ false
not_true true h = absurd (cc)
not_true false h = refl

pub or_true : (b c : Bool) → (b || c) ≡ true → (b ≡ true) ⊎ (c ≡ true)
or_true true c h = inl refl
or_true false c h = inr h

pub both_false : (b c : Bool) → b ≡ false → c ≡ false → (b || c) ≡ false
both_false true c h k = absurd (cc)
both_false false c h k = k

pub member_left : (k : ℕ) (s t : List ℕ) → member k s ≡ true → member k (s ++ t) ≡ true
member_left k [] t h = absurd (cc)
member_left k (x ∷ s) t h =
    elim (or_true (k == x) (member k s) h) [
      | inl e ↦ or_left (k == x) (member k (s ++ t)) e
      | inr e ↦ or_right (k == x) (member k (s ++ t)) (member_left k s t e)
    ]

pub member_right : (k : ℕ) (s t : List ℕ) → member k t ≡ true → member k (s ++ t) ≡ true
member_right k [] t h = h
member_right k (x ∷ s) t h = or_right (k == x) (member k (s ++ t)) (member_right k s t h)

pub none_left : (k : ℕ) (s t : List ℕ) → member k (s ++ t) ≡ false → member k s ≡ false
none_left k [] t h = refl
none_left k (x ∷ s) t h = let p = or_false (k == x) (member k (s ++ t)) h in both_false (k == x) (member k s) p.0 (none_left k s t p.1)

pub none_right : (k : ℕ) (s t : List ℕ) → member k (s ++ t) ≡ false → member k t ≡ false
none_right k [] t h = h
none_right k (x ∷ s) t h = none_right k s t (or_false (k == x) (member k (s ++ t)) h).1

pub apart_none : (k : ℕ) (s t : List ℕ) → apart s t ≡ true → member k s ≡ true → member k t ≡ false
apart_none k [] t h e = absurd (cc)
apart_none k (x ∷ s) t h e =
    let p = and_true (not (member x t)) (apart s t) h in
    elim (or_true (k == x) (member k s) e) [
      | inl f ↦ let same : x ≡ k = grind (arith, nat_tests) in subst (λ j. member j t ≡ false) same (not_true (member x t) p.0)
      | inr f ↦ apart_none k s t p.1 f
    ]

-- the tokens don't begin with one of these kinds
abbrev pub Clear : List ℕ → List Token → Type 0
Clear kinds [] = Unit {0}
Clear kinds (t ∷ ts) = member (kind_of t) kinds ≡ false

pub clear_left : (s t : List ℕ) (ts : List Token) → Clear (s ++ t) ts → Clear s ts
clear_left s t [] h = tt
clear_left s t (c ∷ ts) h = none_left (kind_of c) s t h

pub clear_right : (s t : List ℕ) (ts : List Token) → Clear (s ++ t) ts → Clear t ts
clear_right s t [] h = tt
clear_right s t (c ∷ ts) h = none_right (kind_of c) s t h

-- ---- what reading a rule's tokens is

-- what was read, and that no more than the next token was looked at
pub record Took {X : Type 0} (A : Rules X) (depth : ℕ) (read : Reads X) (ts : List Token) (x : X) (rest : List Token) : Type 0 where
  pub front : List Token
  pub split : ts ≡ front ++ rest
  pub spells : (deeper : ℕ) → depth ≤ deeper → A deeper x front
  pub looks : (b : Token) (old new : List Token) → rest ≡ b ∷ old → read (front ++ (b ∷ new)) ≡ Ok (x, b ∷ new)

-- a text of the rule with one opening more begins with these tokens
pub record Begun {X : Type 0} (A : Rules X) (depth : ℕ) (front : List Token) : Type 0 where
  pub value : X
  pub more : List Token
  pub spells : A (suc depth) value (front ++ more)

abbrev pub stop_at : Bool → ℕ → Stop
stop_at deep left = record { deep = deep; left = left }

-- where reading stopped, and that it stops there whatever stands behind that token
pub record Stuck {X : Type 0} (A : Rules X) (depth : ℕ) (read : Reads X) (ts : List Token) (stop : Stop) : Type 0 where
  pub before : List Token
  pub after : List Token
  pub split : ts ≡ before ++ after
  pub left : stop.left ≡ length after
  pub begins : Begun A depth before
  pub stays : (b : Token) (old new : List Token) → after ≡ b ∷ old → read (before ++ (b ∷ new)) ≡ Err (stop_at stop.deep (suc (length new)))
  pub deep : stop.deep ≡ true → (b : Token) × (old : List Token) × (after ≡ b ∷ old) × (is_opening b ≡ true) × Begun A depth (before ++ (b ∷ []))

-- this was read, or there are too few openings
abbrev pub Near : {Y : Type 0} → ℕ → ℕ → Y → Result Y Stop → Type 0
Near depth deeper y (Ok z) = z ≡ y
Near depth deeper y (Err stop) = (stop.deep ≡ true) × (depth < deeper)

abbrev pub Reach : {X : Type 0} → ℕ → ℕ → X → List Token → Result (X × List Token) Stop → Type 0
Reach {X} depth deeper x rest r = Near {Y = X × List Token} depth deeper (x, rest) r

-- some value and its tokens
pub record Some_text {X : Type 0} (P : Rule X) : Type 0 where
  pub value : X
  pub text : List Token
  pub spells : P value text

-- with so many openings, reading reads the rule; its texts begin with these kinds of tokens, and go on with no other kinds than those
pub record IsField {X : Type 0} (A : Rules X) (depth : ℕ) (read : Reads X) (empty : Bool) (first further : List ℕ) : Type 0 where
  pub took : (ts : List Token) (x : X) (rest : List Token) → read ts ≡ Ok (x, rest) → Took A depth read ts x rest
  pub stuck : (ts : List Token) (stop : Stop) → read ts ≡ Err stop → Stuck A depth read ts stop
  pub some : (deeper : ℕ) → Some_text (A (suc deeper))
  pub again : (deeper : ℕ) (x : X) (front rest : List Token) → A deeper x front → Clear further rest → Reach depth deeper x rest (read (front ++ rest))
  pub begins : (deeper : ℕ) (x : X) (c : Token) (cs : List Token) → A deeper x (c ∷ cs) → member (kind_of c) first ≡ true
  pub solid : (deeper : ℕ) (x : X) → A deeper x [] → empty ≡ true

-- ---- results

ok_is : {A : Type 0} (x y : A) → (let r : Result A Stop = Ok x in r ≡ Ok y) → x ≡ y
ok_is x y e = cc

pub bind_ok : {A B : Type 0} (r : Result A Stop) (f : A → Result B Stop) (y : B) → (r >>= f) ≡ Ok y → (x : A) × (r ≡ Ok x) × (f x ≡ Ok y)
bind_ok (Ok x) f y e = (x, refl, e)
bind_ok (Err stop) f y e = absurd cc

pub bind_err : {A B : Type 0} (r : Result A Stop) (f : A → Result B Stop) (stop : Stop) → (r >>= f) ≡ Err stop → (r ≡ Err stop) ⊎ ((x : A) × (r ≡ Ok x) × (f x ≡ Err stop))
bind_err (Ok x) f stop e = inr (x, refl, e)
bind_err (Err l) f stop e = inl cc

near_bind : {Y Z : Type 0} (depth deeper : ℕ) (r : Result Y Stop) (f : Y → Result Z Stop) (y : Y) (z : Z) → Near depth deeper y r → Near depth deeper z (f y) → Near depth deeper z (r >>= f)
near_bind depth deeper (Ok x) f y z h k = subst (λ v. Near depth deeper z (f v)) (sym h) k
near_bind depth deeper (Err stop) f y z h k = h

-- lists that go on with the same token have the same first token
heads_alike : (u : List Token) (b : Token) (old new mid : List Token) → mid ≡ u ++ (b ∷ old) → (c : Token) × (cs : List Token) × (ds : List Token) × (mid ≡ c ∷ cs) × (u ++ (b ∷ new) ≡ c ∷ ds)
heads_alike [] b old new mid h = (b, old, new, h, refl)
heads_alike (c ∷ u) b old new mid h = (c, u ++ (b ∷ old), u ++ (b ∷ new), h, refl)

-- ---- no token

pub is_field : {X : Type 0} (y : X) (depth : ℕ) → IsField (λ _. is y) depth (λ ts. Ok (y, ts)) true [] []
is_field {X} y depth = record {
  took = λ ts x rest e.
      let same : (y, ts) ≡ (x, rest) = ok_is (y, ts) (x, rest) e in
      let value : y ≡ x = ap (λ (p : X × List Token). p.0) same in
      record {
        front = [];
        split = ap (λ (p : X × List Token). p.1) same;
        spells = λ deeper enough. (sym value, refl);
        looks = λ b old new k. ap (λ v. Ok (v, b ∷ new)) value;
      };
  stuck = λ ts stop e. absurd cc;
  some = λ deeper. record { value = y; text = []; spells = (refl, refl) };
  again = λ deeper x front rest h clear.
      let same : Reach depth deeper x rest (Ok (y, rest)) = ap (λ (v : X). (v, rest)) (sym h.0) in
      subst (λ (f : List Token). Reach depth deeper x rest (Ok (y, f ++ rest))) (sym h.1) same;
  begins = λ deeper x c cs h. absurd (let e : c ∷ cs ≡ [] = h.1 in cc);
  solid = λ deeper x h. refl;
}

-- ---- one token with a value

value_ok : {X : Type 0} (o : Option X) (t : Token) (ts : List Token) (x : X) (rest : List Token) → value_before o t ts ≡ Ok (x, rest) → (o ≡ Some x) × (ts ≡ rest)
value_ok {X} (Some y) t ts x rest e = let s : (y, ts) ≡ (x, rest) = ok_is (y, ts) (x, rest) e in (ap (λ (p : X × List Token). Some p.0) s, ap (λ (p : X × List Token). p.1) s)
value_ok None t ts x rest e = absurd cc

value_err : {X : Type 0} (o : Option X) (t : Token) (ts : List Token) (stop : Stop) → value_before o t ts ≡ Err stop → (o ≡ None) × (stop ≡ stop_at false (suc (length ts)))
value_err (Some y) t ts stop e = absurd cc
value_err None t ts stop e = (refl, cc)

pub record Known {X : Type 0} (value : Token → Option X) (kinds : List ℕ) : Type 0 where
  pub cover : (t : Token) (x : X) → value t ≡ Some x → member (kind_of t) kinds ≡ true
  pub token : Token
  pub example : X
  pub known : value token ≡ Some example

one_took : {X : Type 0} (value : Token → Option X) (depth : ℕ) (ts : List Token) (x : X) (rest : List Token) → one_at value ts ≡ Ok (x, rest) → Took (λ _. one value) depth (one_at value) ts x rest
one_took value depth [] x rest e = absurd cc
one_took value depth (t ∷ ts) x rest e =
    let v = value_ok (value t) t ts x rest e in
    record {
      front = t ∷ [];
      split = ap (λ r. t ∷ r) v.1;
      spells = λ deeper enough. (t, refl, v.0);
      looks = λ b old new k. rw v.0 refl;
    }

one_stuck : {X : Type 0} (value : Token → Option X) (kinds : List ℕ) (known : Known value kinds) (depth : ℕ) (ts : List Token) (stop : Stop) → one_at value ts ≡ Err stop → Stuck (λ _. one value) depth (one_at value) ts stop
one_stuck value kinds known depth [] stop e =
    let s : stop ≡ stop_at false 0 = cc in
    record {
      before = [];
      after = [];
      split = refl;
      left = ap (λ (k : Stop). k.left) s;
      begins = record { value = known.example; more = known.token ∷ []; spells = (known.token, refl, known.known) };
      stays = λ b old new k. absurd cc;
      deep = λ h. absurd (let f : stop.deep ≡ false = ap (λ (k : Stop). k.deep) s in cc);
    }
one_stuck value kinds known depth (t ∷ ts) stop e =
    let v = value_err (value t) t ts stop e in
    let f : stop.deep ≡ false = ap (λ (k : Stop). k.deep) v.1 in
    record {
      before = [];
      after = t ∷ ts;
      split = refl;
      left = ap (λ (k : Stop). k.left) v.1;
      begins = record { value = known.example; more = known.token ∷ []; spells = (known.token, refl, known.known) };
      stays = λ b old new k.
          let same : t ≡ b = cc in
          let none : value b ≡ None = ap value (sym same) ∙ v.0 in
          rw (none, f) refl;
      deep = λ h. absurd cc;
    }

pub one_field : {X : Type 0} (value : Token → Option X) (kinds : List ℕ) (depth : ℕ) → Known value kinds → IsField (λ _. one value) depth (one_at value) false kinds []
one_field value kinds depth known = record {
  took = one_took value depth;
  stuck = one_stuck value kinds known depth;
  some = λ deeper. record { value = known.example; text = known.token ∷ []; spells = (known.token, refl, known.known) };
  again = λ deeper x front rest h clear.
      let read : one_at value (h.0 ∷ rest) ≡ Ok (x, rest) = rw h.2 refl in
      subst (λ (f : List Token). Reach depth deeper x rest (one_at value (f ++ rest))) (sym h.1) (subst (Reach depth deeper x rest) (sym read) refl);
  begins = λ deeper x c cs h. let same : c ≡ h.0 = (let e : c ∷ cs ≡ h.0 ∷ [] = h.1 in cc) in subst (λ t. member (kind_of t) kinds ≡ true) (sym same) (known.cover h.0 x h.2);
  solid = λ deeper x h. absurd (let e : [] ≡ h.0 ∷ [] = h.1 in cc);
}

-- ---- a keyword or symbol, and then that

pub expected : (f : Fixed) (ts : List Token) → expect f (tokens.Fixed f ∷ ts) ≡ Ok ts
unfolding expect
expected f ts = let e : (number_of f == number_of f) ≡ true = grind (arith, nat_tests) in rw e refl

pub number_below : (f : Fixed) → number_of f < 60
number_below And = omega arith
number_below As = omega arith
number_below Between = omega arith
number_below From = omega arith
number_below In = omega arith
number_below Insert = omega arith
number_below Into = omega arith
number_below Not = omega arith
number_below Null = omega arith
number_below Or = omega arith
number_below Select = omega arith
number_below Values = omega arith
number_below Where = omega arith
number_below Open = omega arith
number_below Close = omega arith
number_below Comma = omega arith
number_below Dot = omega arith
number_below Star = omega arith
number_below Semicolon = omega arith
number_below Equal = omega arith
number_below NotEqual = omega arith
number_below Less = omega arith
number_below AtMost = omega arith
number_below Greater = omega arith
number_below AtLeast = omega arith
number_below By = omega arith
number_below Commit = omega arith
number_below Count = omega arith
number_below Delete = omega arith
number_below End = omega arith
number_below For = omega arith
number_below Limit = omega arith
number_below Lock = omega arith
number_below Max = omega arith
number_below Min = omega arith
number_below Mode = omega arith
number_below Order = omega arith
number_below Prepare = omega arith
number_below Recover = omega arith
number_below Replace = omega arith
number_below Rollback = omega arith
number_below Share = omega arith
number_below Start = omega arith
number_below Sum = omega arith
number_below Update = omega arith
number_below Xa = omega arith
number_below Set = omega arith
number_below Plus = omega arith
number_below Minus = omega arith
number_below Asc = omega arith
number_below Desc = omega arith
number_below Offset = omega arith
number_below Database = omega arith
number_below Databases = omega arith
number_below Inner = omega arith
number_below Join = omega arith
number_below On = omega arith
number_below Show = omega arith
number_below Tables = omega arith
number_below VersionComment = omega arith

-- what a keyword's number stands for
named : ℕ → Fixed
named n =
    if n == 0 then And else (if n == 1 then As else (if n == 2 then Between else (if n == 3 then From else (if n == 4 then In else (if n == 5 then Insert else (if n == 6 then Into
    else (if n == 7 then Not else (if n == 8 then Null else (if n == 9 then Or else (if n == 10 then Select else (if n == 11 then Values else (if n == 12 then Where else (if n == 13 then Open
    else (if n == 14 then Close else (if n == 15 then Comma else (if n == 16 then Dot else (if n == 17 then Star else (if n == 18 then Semicolon else (if n == 19 then Equal else (if n == 20 then NotEqual
    else (if n == 21 then Less else (if n == 22 then AtMost else (if n == 23 then Greater else (if n == 24 then AtLeast else (if n == 25 then By
    else (if n == 26 then Commit else (if n == 27 then Count else (if n == 28 then Delete else (if n == 29 then End else (if n == 30 then For else (if n == 31 then Limit else (if n == 32 then Lock else
    (if n == 33 then Max else (if n == 34 then Min else (if n == 35 then Mode else (if n == 36 then Order else (if n == 37 then Prepare else (if n == 38 then Recover else (if n == 39 then Replace else
    (if n == 40 then Rollback else (if n == 41 then Share else (if n == 42 then Start else (if n == 43 then Sum else (if n == 44 then Update else (if n == 45 then Xa else (if n == 46 then Set else (if n == 47 then Plus else
    (if n == 48 then Minus else (if n == 49 then Asc else (if n == 50 then Desc else (if n == 51 then Offset else
    (if n == 52 then Database else (if n == 53 then Databases else (if n == 54 then Inner else (if n == 55 then Join else (if n == 56 then On else (if n == 57 then Show else (if n == 58 then Tables else VersionComment))))))))))))))))))))))))))))))))))))))))))))))))))))))))))

named_number : (f : Fixed) → named (number_of f) ≡ f
unfolding named
named_number And = refl
named_number As = refl
named_number Between = refl
named_number From = refl
named_number In = refl
named_number Insert = refl
named_number Into = refl
named_number Not = refl
named_number Null = refl
named_number Or = refl
named_number Select = refl
named_number Values = refl
named_number Where = refl
named_number Open = refl
named_number Close = refl
named_number Comma = refl
named_number Dot = refl
named_number Star = refl
named_number Semicolon = refl
named_number Equal = refl
named_number NotEqual = refl
named_number Less = refl
named_number AtMost = refl
named_number Greater = refl
named_number AtLeast = refl
named_number By = refl
named_number Commit = refl
named_number Count = refl
named_number Delete = refl
named_number End = refl
named_number For = refl
named_number Limit = refl
named_number Lock = refl
named_number Max = refl
named_number Min = refl
named_number Mode = refl
named_number Order = refl
named_number Prepare = refl
named_number Recover = refl
named_number Replace = refl
named_number Rollback = refl
named_number Share = refl
named_number Start = refl
named_number Sum = refl
named_number Update = refl
named_number Xa = refl
named_number Set = refl
named_number Plus = refl
named_number Minus = refl
named_number Asc = refl
named_number Desc = refl
named_number Offset = refl
named_number Database = refl
named_number Databases = refl
named_number Inner = refl
named_number Join = refl
named_number On = refl
named_number Show = refl
named_number Tables = refl
named_number VersionComment = refl

pub is_fixed_is : (f : Fixed) (t : Token) → is_fixed f t ≡ true → t ≡ tokens.Fixed f
is_fixed_is f (tokens.Fixed g) h =
    let n : number_of g ≡ number_of f = grind (arith, nat_tests) in
    ap tokens.Fixed (sym (named_number g) ∙ ap named n ∙ named_number f)
is_fixed_is f (tokens.Bare n) h = absurd (cc)
is_fixed_is f (tokens.Quoted n) h = absurd (cc)
is_fixed_is f (tokens.Digits n) h = absurd (cc)
is_fixed_is f (tokens.Signed n) h = absurd (cc)
is_fixed_is f (tokens.Text n) h = absurd (cc)
is_fixed_is f tokens.Bad h = absurd (cc)

pub chosen : {A : Type 0} (b : Bool) (x y z : A) → cond b x y ≡ z → ((b ≡ true) × (x ≡ z)) ⊎ ((b ≡ false) × (y ≡ z))
chosen true x y z h = inl (refl, h)
chosen false x y z h = inr (refl, h)

-- what expect answers
pub expect_ok : (f : Fixed) (ts rest : List Token) → expect f ts ≡ Ok rest → ts ≡ tokens.Fixed f ∷ rest
unfolding expect
expect_ok f [] rest e = absurd cc
expect_ok f (t ∷ ts) rest e =
    elim (chosen (is_fixed f t) (Ok ts) (syntax (t ∷ ts)) (Ok rest) e) [
      | inl k ↦ let same : ts ≡ rest = (let g : Ok ts ≡ Ok rest = k.1 in cc) in ap (λ (s : List Token). t ∷ s) same ∙ ap (λ s. s ∷ rest) (is_fixed_is f t k.0)
      | inr k ↦ absurd (let g : syntax (t ∷ ts) ≡ Ok rest = k.1 in cc)
    ]

pub record Missed (f : Fixed) (ts : List Token) (stop : Stop) : Type 0 where
  pub stops : stop ≡ stop_at false (length ts)
  pub stays : (b : Token) (old new : List Token) → ts ≡ b ∷ old → expect f (b ∷ new) ≡ Err (stop_at false (suc (length new)))

pub expect_err : (f : Fixed) (ts : List Token) (stop : Stop) → expect f ts ≡ Err stop → Missed f ts stop
unfolding expect
expect_err f [] stop e = record { stops = cc; stays = λ b old new k. absurd cc }
expect_err f (t ∷ ts) stop e =
    elim (chosen (is_fixed f t) (Ok ts) (syntax (t ∷ ts)) (Err stop) e) [
      | inl k ↦ absurd (let g : Ok ts ≡ Err stop = k.1 in cc)
      | inr k ↦ record {
        stops = let g : syntax (t ∷ ts) ≡ Err stop = k.1 in cc;
        stays = λ b old new h. let same : t ≡ b = cc in let no : is_fixed f b ≡ false = ap (is_fixed f) (sym same) ∙ k.0 in rw no refl;
      }
    ]

pub self_equal : (n : ℕ) → (n == n) ≡ true
self_equal n = grind (arith, nat_tests)

pub self_member : (n : ℕ) → member n (n ∷ []) ≡ true
self_member n = let e : (n == n) ≡ true = grind (arith, nat_tests) in or_left (n == n) false e

fixed_begun : {X : Type 0} (f : Fixed) (A : Rules X) (depth : ℕ) (front : List Token) → Begun A depth front → Begun (λ n. f ⊳ A n) depth (tokens.Fixed f ∷ front)
fixed_begun f A depth front b = record { value = b.value; more = b.more; spells = (front ++ b.more, refl, b.spells) }

pub fixed_field : {X : Type 0} (f : Fixed) (A : Rules X) (depth : ℕ) (read : Reads X) (empty : Bool) (first further : List ℕ)
    → IsField A depth read empty first further → IsField (λ n. f ⊳ A n) depth (λ ts. expect f ts >>= read) false (number_of f ∷ []) further
fixed_field {X} f A depth read empty first further field = record {
  took = λ ts x rest e.
      let p = bind_ok (expect f ts) read (x, rest) e in
      let t = field.took p.0 x rest p.2 in
      record {
        front = tokens.Fixed f ∷ t.front;
        split = expect_ok f ts p.0 p.1 ∙ ap (λ (s : List Token). tokens.Fixed f ∷ s) t.split;
        spells = λ deeper enough. (t.front, refl, t.spells deeper enough);
        looks = λ b old new k. ap (λ r. r >>= read) (expected f (t.front ++ (b ∷ new))) ∙ t.looks b old new k;
      };
  stuck = λ ts stop e.
      elim (bind_err (expect f ts) read stop e) [
        | inl h ↦
            let m = expect_err f ts stop h in
            let s = field.some depth in
            record {
              before = [];
              after = ts;
              split = refl;
              left = ap (λ (k : Stop). k.left) m.stops;
              begins = record { value = s.value; more = tokens.Fixed f ∷ s.text; spells = (s.text, refl, s.spells) };
              stays = λ b old new k.
                  let no : stop.deep ≡ false = ap (λ (k : Stop). k.deep) m.stops in
                  ap (λ r. r >>= read) (m.stays b old new k) ∙ ap (λ d. Err (stop_at d (suc (length new)))) (sym no);
              deep = λ h. absurd (let no : stop.deep ≡ false = ap (λ (k : Stop). k.deep) m.stops in cc);
            }
        | inr h ↦
            let s = field.stuck h.0 stop h.2 in
            record {
              before = tokens.Fixed f ∷ s.before;
              after = s.after;
              split = expect_ok f ts h.0 h.1 ∙ ap (λ (l : List Token). tokens.Fixed f ∷ l) s.split;
              left = s.left;
              begins = fixed_begun f A depth s.before s.begins;
              stays = λ b old new k. ap (λ r. r >>= read) (expected f (s.before ++ (b ∷ new))) ∙ s.stays b old new k;
              deep = λ d. let q = s.deep d in (q.0, q.1, q.2, q.3, fixed_begun f A depth (s.before ++ (q.0 ∷ [])) q.4);
            }
      ];
  some = λ deeper. let s = field.some deeper in record { value = s.value; text = tokens.Fixed f ∷ s.text; spells = (s.text, refl, s.spells) };
  again = λ deeper x front rest h clear.
      let n = field.again deeper x h.0 rest h.2 clear in
      let same : (expect f (front ++ rest) >>= read) ≡ read (h.0 ++ rest) = ap (λ (l : List Token). expect f (l ++ rest) >>= read) h.1 ∙ ap (λ r. r >>= read) (expected f (h.0 ++ rest)) in
      subst (Reach depth deeper x rest) (sym same) n;
  begins = λ deeper x c cs h. let same : c ≡ tokens.Fixed f = (let e : c ∷ cs ≡ tokens.Fixed f ∷ h.0 = h.1 in cc) in subst (λ t. member (kind_of t) (number_of f ∷ []) ≡ true) (sym same) (self_member (number_of f));
  solid = λ deeper x h. absurd (let e : [] ≡ tokens.Fixed f ∷ h.0 = h.1 in cc);
}

-- ---- that, and then what follows its value

then_begun : {X Y : Type 0} (A : Rules X) (B : X → Rules Y) (depth : ℕ) → ((x : X) (deeper : ℕ) → Some_text (B x (suc deeper)))
    → (front : List Token) → Begun A depth front → Begun (λ n. A n ▷ λ x. B x n) depth front
then_begun A B depth some front b =
    let s = some b.value depth in
    record {
      value = s.value;
      more = b.more ++ s.text;
      spells = (b.value, record { front = front ++ b.more; rest = s.text; whole = sym (append_assoc front b.more s.text); first = b.spells; second = s.spells });
    }

second_begun : {X Y : Type 0} (A : Rules X) (B : X → Rules Y) (depth : ℕ) (x : X) (taken front : List Token) → ((deeper : ℕ) → depth ≤ deeper → A deeper x taken)
    → Begun (B x) depth front → Begun (λ n. A n ▷ λ x. B x n) depth (taken ++ front)
second_begun A B depth x taken front spells b = record {
  value = b.value;
  more = b.more;
  spells = (x, record { front = taken; rest = front ++ b.more; whole = append_assoc taken front b.more; first = spells (suc depth) (omega arith); second = b.spells });
}

-- the first value is read again where the tokens behind it begin in the same way
looks_through : {X : Type 0} (A : Rules X) (depth : ℕ) (a : Reads X) (ts : List Token) (x : X) (mid : List Token) (t : Took A depth a ts x mid) (u : List Token) (b : Token) (old new : List Token)
    → mid ≡ u ++ (b ∷ old) → a (t.front ++ (u ++ (b ∷ new))) ≡ Ok (x, u ++ (b ∷ new))
looks_through {X} A depth a ts x mid t u b old new h =
    let s = heads_alike u b old new mid h in
    ap (λ (l : List Token). a (t.front ++ l)) s.4 ∙ t.looks s.0 s.1 s.2 s.3 ∙ ap (λ (l : List Token). Ok (x, l)) (sym s.4)

then_clear : {Y : Type 0} (B : Rules Y) (depth : ℕ) (b : Reads Y) (empty : Bool) (first further wide : List ℕ) → IsField B depth b empty first further → apart first wide ≡ true
    → (deeper : ℕ) (y : Y) (ts rest : List Token) → B deeper y ts → Clear (cond empty wide []) rest → Clear wide (ts ++ rest)
then_clear B depth b empty first further wide field away deeper y [] rest h clear = subst (λ v. Clear (cond v wide []) rest) (field.solid deeper y h) clear
then_clear B depth b empty first further wide field away deeper y (c ∷ ts) rest h clear = apart_none (kind_of c) first wide away (field.begins deeper y c ts h)

then_begins : {X Y : Type 0} (A : Rules X) (a : Reads X) (B : X → Rules Y) (b : X → Reads Y) (depth : ℕ) (empty_a empty_b : Bool) (first_a further_a first_b further_b : List ℕ)
    → IsField A depth a empty_a first_a further_a → ((x : X) → IsField (B x) depth (b x) empty_b first_b further_b)
    → (deeper : ℕ) (x : X) (y : Y) (c : Token) (cs front rest : List Token) → c ∷ cs ≡ front ++ rest → A deeper x front → B x deeper y rest
    → member (kind_of c) (first_a ++ cond empty_a first_b []) ≡ true
then_begins A a B b depth empty_a empty_b first_a further_a first_b further_b fa fb deeper x y c cs [] rest e h k =
    let none : empty_a ≡ true = fa.solid deeper x h in
    rw none (member_right (kind_of c) first_a first_b ((fb x).begins deeper y c cs (subst (B x deeper y) (sym e) k)))
then_begins A a B b depth empty_a empty_b first_a further_a first_b further_b fa fb deeper x y c cs (d ∷ front) rest e h k =
    let same : d ≡ c = cc in
    member_left (kind_of c) first_a (cond empty_a first_b []) (subst (λ t. member (kind_of t) first_a ≡ true) same (fa.begins deeper x d front h))

then_solid : {X Y : Type 0} (A : Rules X) (a : Reads X) (B : X → Rules Y) (b : X → Reads Y) (depth : ℕ) (empty_a empty_b : Bool) (first_a further_a first_b further_b : List ℕ)
    → IsField A depth a empty_a first_a further_a → ((x : X) → IsField (B x) depth (b x) empty_b first_b further_b)
    → (deeper : ℕ) (x : X) (y : Y) (front rest : List Token) → [] ≡ front ++ rest → A deeper x front → B x deeper y rest → (empty_a && empty_b) ≡ true
then_solid A a B b depth empty_a empty_b first_a further_a first_b further_b fa fb deeper x y [] rest e h k =
    rw (fa.solid deeper x h) ((fb x).solid deeper y (subst (B x deeper y) (sym e) k))
then_solid A a B b depth empty_a empty_b first_a further_a first_b further_b fa fb deeper x y (d ∷ front) rest e h k = absurd cc

pub then_field : {X Y : Type 0} (A : Rules X) (a : Reads X) (B : X → Rules Y) (b : X → Reads Y) (depth : ℕ) (empty_a empty_b : Bool) (first_a further_a first_b further_b : List ℕ)
    → IsField A depth a empty_a first_a further_a → ((x : X) → IsField (B x) depth (b x) empty_b first_b further_b) → apart first_b further_a ≡ true
    → IsField (λ n. A n ▷ λ x. B x n) depth (λ ts. a ts >>= λ p. b p.0 p.1) (empty_a && empty_b) (first_a ++ cond empty_a first_b []) (further_b ++ cond empty_b further_a [])
then_field {X} {Y} A a B b depth empty_a empty_b first_a further_a first_b further_b fa fb away = record {
  took = λ ts y rest e.
      let p = bind_ok (a ts) (λ p. b p.0 p.1) (y, rest) e in
      let t = fa.took ts p.0.0 p.0.1 p.1 in
      let u = (fb p.0.0).took p.0.1 y rest p.2 in
      record {
        front = t.front ++ u.front;
        split = t.split ∙ ap (λ (l : List Token). t.front ++ l) u.split ∙ sym (append_assoc t.front u.front rest);
        spells = λ deeper enough. (p.0.0, record { front = t.front; rest = u.front; whole = refl; first = t.spells deeper enough; second = u.spells deeper enough });
        looks = λ c old new k.
            ap (λ (l : List Token). a l >>= λ p. b p.0 p.1) (append_assoc t.front u.front (c ∷ new))
            ∙ ap (λ r. r >>= λ p. b p.0 p.1) (looks_through A depth a ts p.0.0 p.0.1 t u.front c old new (u.split ∙ ap (λ (l : List Token). u.front ++ l) k))
            ∙ u.looks c old new k;
      };
  stuck = λ ts stop e.
      elim (bind_err (a ts) (λ p. b p.0 p.1) stop e) [
        | inl h ↦
            let s = fa.stuck ts stop h in
            record {
              before = s.before;
              after = s.after;
              split = s.split;
              left = s.left;
              begins = then_begun A B depth (λ x. (fb x).some) s.before s.begins;
              stays = λ c old new k. ap (λ r. r >>= λ p. b p.0 p.1) (s.stays c old new k);
              deep = λ d. let q = s.deep d in (q.0, q.1, q.2, q.3, then_begun A B depth (λ x. (fb x).some) (s.before ++ (q.0 ∷ [])) q.4);
            }
        | inr h ↦
            let t = fa.took ts h.0.0 h.0.1 h.1 in
            let s = (fb h.0.0).stuck h.0.1 stop h.2 in
            record {
              before = t.front ++ s.before;
              after = s.after;
              split = t.split ∙ ap (λ (l : List Token). t.front ++ l) s.split ∙ sym (append_assoc t.front s.before s.after);
              left = s.left;
              begins = second_begun A B depth h.0.0 t.front s.before t.spells s.begins;
              stays = λ c old new k.
                  ap (λ (l : List Token). a l >>= λ p. b p.0 p.1) (append_assoc t.front s.before (c ∷ new))
                  ∙ ap (λ r. r >>= λ p. b p.0 p.1) (looks_through A depth a ts h.0.0 h.0.1 t s.before c old new (s.split ∙ ap (λ (l : List Token). s.before ++ l) k))
                  ∙ s.stays c old new k;
              deep = λ d.
                  let q = s.deep d in
                  (q.0, q.1, q.2, q.3, subst (Begun (λ n. A n ▷ λ x. B x n) depth) (sym (append_assoc t.front s.before (q.0 ∷ []))) (second_begun A B depth h.0.0 t.front (s.before ++ (q.0 ∷ [])) t.spells q.4));
            }
      ];
  some = λ deeper.
      let s = fa.some deeper in
      let u = (fb s.value).some deeper in
      record { value = u.value; text = s.text ++ u.text; spells = (s.value, record { front = s.text; rest = u.text; whole = refl; first = s.spells; second = u.spells }) };
  again = λ deeper y front rest h clear.
      let q = h.1 in
      let first_near = fa.again deeper h.0 q.front (q.rest ++ rest) q.first
      (then_clear (B h.0) depth (b h.0) empty_b first_b further_b further_a (fb h.0) away deeper y q.rest rest q.second (clear_right further_b (cond empty_b further_a []) rest clear)) in
      let second_near = (fb h.0).again deeper y q.rest rest q.second (clear_left further_b (cond empty_b further_a []) rest clear) in
      let regrouped : front ++ rest ≡ q.front ++ (q.rest ++ rest) = ap (λ (l : List Token). l ++ rest) q.whole ∙ append_assoc q.front q.rest rest in
      subst (λ (l : List Token). Reach depth deeper y rest (a l >>= λ p. b p.0 p.1)) (sym regrouped)
      (near_bind depth deeper (a (q.front ++ (q.rest ++ rest))) (λ p. b p.0 p.1) (h.0, q.rest ++ rest) (y, rest) first_near second_near);
  begins = λ deeper y c cs h.
      let q = h.1 in
      then_begins A a B b depth empty_a empty_b first_a further_a first_b further_b fa fb deeper h.0 y c cs q.front q.rest q.whole q.first q.second;
  solid = λ deeper y h.
      let q = h.1 in
      then_solid A a B b depth empty_a empty_b first_a further_a first_b further_b fa fb deeper h.0 y q.front q.rest q.whole q.first q.second;
}

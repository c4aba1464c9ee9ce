-- Further parts, read one after the other.
use Rattle.std.proofs.Common.{◌≡◌, ℕ, zero, suc, ◌+◌, ◌-◌, ◌<◌, List, [], ◌∷◌, ◌++◌, Bool, true, false, Result, Ok, Err, refl, sym, ap, subst, ◌∙◌, append_assoc, append-nil, arith}
use Rattle.sql_text.specs.declared.token.Fixed.{Fixed}
use Rattle.sql_text.specs.declared.token.Token.{Token}
use Rattle.sql_text.specs.declared.fault.Stop.{Stop}
use Rattle.sql_text.specs.declared.fault.ReadError.{ReadError}
use Rattle.sql_text.specs.declared.fault.ReadError.TheVariants as errors
use Rattle.sql_text.specs.Reading.{◌>>=◌, Fails, begins, behind, many_at, further_at, with_front}

abbrev pub Reads : Type 0 → Type 0
Reads X = List Token → Result (X × List Token) Stop

-- ---- parts that a test finds

none_more : {X : Type 0} (n : ℕ) (test : List Token → Bool) (part : Reads X) (ts : List Token) → test ts ≡ false → many_at n test part ts ≡ Ok ([], ts)
none_more zero test part ts h = refl
none_more (suc n) test part ts h = rw h refl

-- no part follows
pub no_more : {X : Type 0} (n : ℕ) (test : List Token → Bool) (part : Reads X) (ts : List Token) (front : List X) (all : Result (List X × List Token) Stop)
    → test ts ≡ false → with_front front (many_at n test part ts) ≡ all → all ≡ Ok (front, ts)
no_more {X} n test part ts front all h e =
    sym e ∙ ap (with_front front) (none_more n test part ts h) ∙ ap (λ (xs : List X). Ok (xs, ts)) (append-nil front)

one_more : {X : Type 0} (n : ℕ) (test : List Token → Bool) (part : Reads X) (ts : List Token) → test ts ≡ true
    → many_at (suc n) test part ts ≡ (part ts >>= λ x. with_front (x.0 ∷ []) (many_at n test part x.1))
one_more n test part ts h = rw h refl

joined_fronts : {X : Type 0} (front : List X) (x : X) (read : Result (List X × List Token) Stop) → with_front front (with_front (x ∷ []) read) ≡ with_front (front ++ x ∷ []) read
joined_fronts front x (Ok r) = ap (λ xs. Ok (xs, r.1)) (sym (append_assoc front (x ∷ []) r.0))
joined_fronts front x (Err s) = refl

-- a part follows
pub one_pushed : {X : Type 0} (most counter : ℕ) (test : List Token → Bool) (part : Reads X) (ts : List Token) (x : X) (rest : List Token) (front : List X) (all : Result (List X × List Token) Stop)
    → counter < most → test ts ≡ true → part ts ≡ Ok (x, rest) → with_front front (many_at (most - counter) test part ts) ≡ all
    → with_front (front ++ x ∷ []) (many_at (most - (counter + 1)) test part rest) ≡ all
one_pushed {X} most counter test part ts x rest front all l h e whole =
    let n : most - counter ≡ suc (most - (counter + 1)) = omega arith in
    sym (joined_fronts front x (many_at (most - (counter + 1)) test part rest))
    ∙ ap (λ r. with_front front (r >>= λ (y : X × List Token). with_front (y.0 ∷ []) (many_at (most - (counter + 1)) test part y.1))) (sym e)
    ∙ ap (with_front front) (sym (one_more (most - (counter + 1)) test part ts h))
    ∙ ap (λ k. with_front front (many_at k test part ts)) (sym n)
    ∙ whole

-- a part should follow, and isn't read
pub one_failed : {X : Type 0} (most counter : ℕ) (test : List Token → Bool) (part : Reads X) (ts : List Token) (front : List X) (all : Result (List X × List Token) Stop) (e : ReadError)
    → counter < most → test ts ≡ true → Fails e (part ts) → with_front front (many_at (most - counter) test part ts) ≡ all → Fails e all
one_failed most counter test part ts front all errors.Memory l h g whole = tt
one_failed {X} most counter test part ts front all (errors.Stopped s) l h g whole =
    let n : most - counter ≡ suc (most - (counter + 1)) = omega arith in
    sym whole
    ∙ ap (λ k. with_front front (many_at k test part ts)) n
    ∙ ap (with_front front) (one_more (most - (counter + 1)) test part ts h)
    ∙ ap (λ r. with_front front (r >>= λ (y : X × List Token). with_front (y.0 ∷ []) (many_at (most - (counter + 1)) test part y.1))) g

-- ---- parts behind a symbol or keyword

-- no part follows
pub stopped : {X : Type 0} (n : ℕ) (f : Fixed) (part : Reads X) (ts : List Token) (front : List X) (all : Result (List X × List Token) Stop)
    → begins f ts ≡ false → with_front front (further_at n f part ts) ≡ all → all ≡ Ok (front, ts)
stopped n f part ts front all h e = no_more n (begins f) (λ rest. part (behind rest)) ts front all h e

-- a part follows
pub pushed : {X : Type 0} (most counter : ℕ) (f : Fixed) (part : Reads X) (ts next : List Token) (x : X) (rest : List Token) (front : List X) (all : Result (List X × List Token) Stop)
    → counter < most → begins f ts ≡ true → next ≡ behind ts → part next ≡ Ok (x, rest) → with_front front (further_at (most - counter) f part ts) ≡ all
    → with_front (front ++ x ∷ []) (further_at (most - (counter + 1)) f part rest) ≡ all
pushed most counter f part ts next x rest front all l h b e whole =
    one_pushed most counter (begins f) (λ rest. part (behind rest)) ts x rest front all l h (ap part (sym b) ∙ e) whole

-- a part should follow, and isn't read
pub failed : {X : Type 0} (most counter : ℕ) (f : Fixed) (part : Reads X) (ts next : List Token) (front : List X) (all : Result (List X × List Token) Stop) (e : ReadError)
    → counter < most → begins f ts ≡ true → next ≡ behind ts → Fails e (part next) → with_front front (further_at (most - counter) f part ts) ≡ all → Fails e all
failed most counter f part ts next front all e l h b g whole =
    one_failed most counter (begins f) (λ rest. part (behind rest)) ts front all e l h (subst (λ (s : List Token). Fails e (part s)) b g) whole

-- The servers of links, marked one by one and read off.
use Rattle.std.proofs.Common.{◌≡◌, ◌+◌, ◌<◌, ◌==◌, ◌||◌, ◌++◌, ℕ, zero, suc, Bool, true, false, List, [], ◌∷◌, length, get_or, drop, refl, sym, ◌∙◌, ap, arith}
use Rattle.std.specs.List.{filter, list_any, range_with_len}
use Rattle.std.proofs.lemmas.List.Elements.{filter-append}
use Rattle.txn_phases.specs.declared.phase.Target.{Target}

-- one of these links is at the server
abbrev pub is_at_one : List Target → ℕ → Bool
is_at_one targets s = list_any (λ (t : Target). t.server == s) targets

-- what the marks say, or one of the links that are left
abbrev pub seen : List Bool → List Target → ℕ → ℕ → Bool
seen marks targets i s = get_or marks s false || is_at_one (drop i targets) s

range_up : (a n : ℕ) → range_with_len a (suc n) ≡ range_with_len a n ++ (a + n) ∷ []
range_up a zero = let same : a ≡ a + 0 = omega arith in ap (λ (k : ℕ). k ∷ []) same
range_up a (suc n) = let same : a + 1 + n ≡ a + suc n = omega arith in ap (λ (l : List ℕ). a ∷ l) (range_up (a + 1) n ∙ ap (λ (k : ℕ). range_with_len (a + 1) n ++ k ∷ []) same)

range_more : (a n : ℕ) → range_with_len a (n + 1) ≡ range_with_len a n ++ (a + n) ∷ []
range_more a n = let same : n + 1 ≡ suc n = omega arith in ap (λ (k : ℕ). range_with_len a k) same ∙ range_up a n

range_next : (n : ℕ) → range_with_len 0 (n + 1) ≡ range_with_len 0 n ++ n ∷ []
range_next n = let same : 0 + n ≡ n = omega arith in range_more 0 n ∙ ap (λ (k : ℕ). range_with_len 0 n ++ k ∷ []) same

-- the next server is one of those that pass
pub next_found : (p : ℕ → Bool) (n : ℕ) → p n ≡ true → filter p (range_with_len 0 n) ++ n ∷ [] ≡ filter p (range_with_len 0 (n + 1))
next_found p n pass = sym (ap (filter p) (range_next n) ∙ (filter-append p (range_with_len 0 n) (n ∷ []) ∙ rw pass refl))

nil_behind : (xs : List ℕ) → xs ++ [] ≡ xs
nil_behind [] = refl
nil_behind (x ∷ xs) = ap (λ (l : List ℕ). x ∷ l) (nil_behind xs)

pub next_passed : (p : ℕ → Bool) (n : ℕ) → p n ≡ false → filter p (range_with_len 0 n) ≡ filter p (range_with_len 0 (n + 1))
next_passed p n fails = sym (ap (filter p) (range_next n) ∙ (filter-append p (range_with_len 0 n) (n ∷ []) ∙ rw fails (nil_behind (filter p (range_with_len 0 n)))))

-- an element that is there is no matter of the default
pub any_default : (xs : List Bool) (i : ℕ) (d e : Bool) → i < length xs → get_or xs i d ≡ get_or xs i e
any_default [] i d e inside = let no : ⊥ = omega arith in absurd no
any_default (x ∷ xs) zero d e inside = refl
any_default (x ∷ xs) (suc i) d e inside = any_default xs i d e (omega arith)

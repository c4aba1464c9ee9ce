-- How rules of a grammar are made of rules. A rule says which tokens spell which value.
use Rattle.std.specs.Prelude.{◌≡◌, ℕ, zero, suc, Bool, true, false, List, [], ◌∷◌, ◌++◌, ◌⊎◌, Option, Some}
use Rattle.sql_text.specs.declared.token.Fixed.{Fixed}
use Rattle.sql_text.specs.declared.token.Fixed.TheVariants.{Open, Close}
use Rattle.sql_text.specs.declared.token.Token.{Token}
use Rattle.sql_text.specs.declared.token.Token.TheVariants as tokens

abbrev pub Rule : Type 0 → Type 1
Rule X = X → List Token → Type 0

-- no token, for this value
abbrev pub is : {X : Type 0} → X → Rule X
is {X} y x ts = (x ≡ y) × (ts ≡ [])

-- one token, for the value that it has
abbrev pub one : {X : Type 0} → (Token → Option X) → Rule X
one {X} value x ts = (t : Token) × (ts ≡ t ∷ []) × (value t ≡ Some x)

-- this keyword or symbol, and then that
infixr 4 ◌⊳◌
abbrev pub ◌⊳◌ : {X : Type 0} → Fixed → Rule X → Rule X
◌⊳◌ {X} f A x ts = (rest : List Token) × (ts ≡ tokens.Fixed f ∷ rest) × A x rest

-- tokens for a first value, and then tokens for what follows it
pub record Sequence (First Second : List Token → Type 0) (ts : List Token) : Type 0 where
  pub front : List Token
  pub rest : List Token
  pub whole : ts ≡ front ++ rest
  pub first : First front
  pub second : Second rest

-- that, and then what follows its value
infixr 4 ◌▷◌
abbrev pub ◌▷◌ : {X Y : Type 0} → Rule X → (X → Rule Y) → Rule Y
◌▷◌ {X} {Y} A B y ts = (x : X) × Sequence (A x) (B x y) ts

-- either of them
infixr 3 ◌∣◌
abbrev pub ◌∣◌ : {X : Type 0} → Rule X → Rule X → Rule X
◌∣◌ {X} A B x ts = A x ts ⊎ B x ts

-- this keyword or symbol, which opens, and then that, with one opening less to stand inside it
abbrev pub opens : {X : Type 0} → Fixed → (ℕ → Rule X) → ℕ → Rule X
opens {X} f A zero x ts = ⊥
opens {X} f A (suc depth) x ts = (f ⊳ A depth) x ts

-- whether this stands there
abbrev pub optional : Fixed → Rule Bool
optional f = (f ⊳ is true) ∣ is false

-- further parts, each behind this symbol or keyword
abbrev pub further : {X : Type 0} → Fixed → Rule X → Rule (List X)
further {X} f A [] ts = ts ≡ []
further {X} f A (x ∷ xs) ts = (rest : List Token) × (ts ≡ tokens.Fixed f ∷ rest) × Sequence (A x) (further f A xs) rest

-- any number of parts, one behind the other
abbrev pub many : {X : Type 0} → Rule X → Rule (List X)
many {X} A [] ts = ts ≡ []
many {X} A (x ∷ xs) ts = Sequence (A x) (many A xs) ts

-- parts, with this between them
abbrev pub series : {X : Type 0} → Fixed → Rule X → Rule (List X)
series {X} f A = A ▷ λ x. further f A ▷ λ xs. is (x ∷ xs)

-- at most so many further parts
abbrev pub at_most_further : {X : Type 0} → ℕ → Fixed → Rule X → Rule (List X)
at_most_further {X} zero f A = is []
at_most_further {X} (suc count) f A = (f ⊳ (A ▷ λ x. at_most_further count f A ▷ λ xs. is (x ∷ xs))) ∣ is []

-- in parentheses, with at most so many openings
abbrev pub parenthesized : {X : Type 0} → Rule X → ℕ → Rule X
parenthesized {X} A = opens Open (λ _. A ▷ λ x. Close ⊳ is x)

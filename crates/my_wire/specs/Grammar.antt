-- What a format of bytes is, and where bytes leave it.
use Rattle.std.specs.Prelude.{◌≡◌, ℕ, ◌<◌, List, [], ◌∷◌, ◌++◌, length, Result, Ok, Err}

-- each number is a byte
abbrev pub IsBytes : List ℕ → Type 0
IsBytes [] = Unit {0}
IsBytes (b ∷ bytes) = (b < 256) × IsBytes bytes

-- bytes of the first form, and then bytes of the second
pub record Then (First Second : List ℕ → Type 0) (bytes : List ℕ) : Type 0 where
  pub front : List ℕ
  pub rest : List ℕ
  pub whole : bytes ≡ front ++ rest
  pub first : First front
  pub second : Second rest

infixr 4 ◌▷◌
abbrev pub ◌▷◌ : (List ℕ → Type 0) → (List ℕ → Type 0) → List ℕ → Type 0
(First ▷ Second) bytes = Then First Second bytes

-- no byte more
abbrev pub IsEnd : List ℕ → Type 0
IsEnd bytes = bytes ≡ []

-- exactly these bytes
abbrev pub IsExactly : List ℕ → List ℕ → Type 0
IsExactly expected bytes = bytes ≡ expected

-- something of this form begins with these bytes
pub record Begins {X : Type 0} (Spells : X → List ℕ → Type 0) (front : List ℕ) : Type 0 where
  pub value : X
  pub more : List ℕ
  pub are_bytes : IsBytes more
  pub spells : Spells value (front ++ more)

-- nothing of this form has these bytes. The one at that place is the first that nothing with the same earlier bytes has, or, at their length, they end too early
pub record FirstBad {X : Type 0} (Spells : X → List ℕ → Type 0) (bytes : List ℕ) (place : ℕ) : Type 0 where
  pub before : List ℕ
  pub after : List ℕ
  pub split : bytes ≡ before ++ after
  pub place_is : place ≡ length before
  pub begins : Begins Spells before
  pub bad : (b : ℕ) (more : List ℕ) → after ≡ b ∷ more → Begins Spells (before ++ b ∷ []) → ⊥
  pub none : (x : X) → Spells x bytes → ⊥

-- Reading answers a value, or how many bytes are left from the first bad one on.
infixl 10 ◌>>=◌
abbrev pub ◌>>=◌ : {A B : Type 0} → Result A ℕ → (A → Result B ℕ) → Result B ℕ
(Ok x) >>= f = f x
(Err left) >>= f = Err left

-- Where tokens stop being a text of a rule.
use Rattle.std.specs.Prelude.{◌≡◌, ℕ, suc, Bool, true, false, List, [], ◌∷◌, ◌++◌, length}
use Rattle.sql_text.specs.declared.token.Fixed.TheVariants.{Not, Open, Minus}
use Rattle.sql_text.specs.declared.token.Token.{Token}
use Rattle.sql_text.specs.declared.token.Token.TheVariants as tokens
use Rattle.sql_text.specs.Rules.{Rule}

-- a token that opens: a parenthesis of any use, NOT, or the minus of a factor
abbrev pub is_opening : Token → Bool
is_opening (tokens.Fixed Open) = true
is_opening (tokens.Fixed Not) = true
is_opening (tokens.Fixed Minus) = true
is_opening _ = false

-- a text of the rule begins with these tokens, with at most so many openings inside one another
pub record Begins {X : Type 0} (A : ℕ → Rule X) (depth : ℕ) (ts : List Token) : Type 0 where
  pub value : X
  pub more : List Token
  pub spells : A depth value (ts ++ more)

-- how many openings a text has inside one another that is looked for: any number, or, where an opening is one too many, as many as may be
abbrev pub Allowed : Bool → ℕ → ℕ → Type 0
Allowed false most depth = Unit {0}
Allowed true most depth = depth ≡ most

-- The tokens are no text of the rule. With what stands before that token one begins, and with that token too none does; or the tokens end too early.
-- It is one opening too many where a text begins so with one more, and opens there.
pub record IsFirstBad {X : Type 0} (A : ℕ → Rule X) (most : ℕ) (deep : Bool) (ts : List Token) (left : ℕ) : Type 0 where
  pub before : List Token
  pub after : List Token
  pub split : ts ≡ before ++ after
  pub left_is : left ≡ length after
  pub begins : Begins A (suc most) before
  pub bad : (b : Token) (old : List Token) (depth : ℕ) → after ≡ b ∷ old → Allowed deep most depth → Begins A depth (before ++ (b ∷ [])) → ⊥
  pub none : (x : X) (depth : ℕ) → Allowed deep most depth → A depth x ts → ⊥
  pub opens : deep ≡ true → (b : Token) × (old : List Token) × (after ≡ b ∷ old) × (is_opening b ≡ true) × Begins A (suc most) (before ++ (b ∷ []))

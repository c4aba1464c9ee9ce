-- A part of a text that has tokens for a value.
use Rattle.std.proofs.Common.{◌≡◌, ℕ, List, [], ◌++◌, sym, ap, subst, ◌∙◌, append-nil}
use Rattle.sql_text.specs.declared.token.Token.{Token}
use Rattle.sql_text.specs.Rules.{Rule, is, Sequence, ◌▷◌}
use Rattle.sql_text.proofs.Sound.{Sounds, sounds_front, sounds_rest}

-- this part of a text has tokens that spell the value
abbrev pub Told : {X : Type 0} → (List ℕ → List Token → Type 0) → Rule X → X → List ℕ → Type 0
Told {X} Part A x bytes = (ts : List Token) × A x ts × Part bytes ts

-- what is printed of each value of a rule that has a text spells it
abbrev pub Respells : {X : Type 0} → (List ℕ → List Token → Type 0) → Rule X → (X → List ℕ) → Type 0
Respells {X} Part A text = (x : X) (ts : List Token) → A x ts → Sounds ts → Told Part A x (text x)

-- the tokens of a part of a sequence are sound
pub first_sound : {A B : List Token → Type 0} {ts : List Token} (s : Sequence A B ts) → Sounds ts → Sounds s.front
first_sound s h = sounds_front s.front s.rest (subst Sounds s.whole h)

pub second_sound : {A B : List Token → Type 0} {ts : List Token} (s : Sequence A B ts) → Sounds ts → Sounds s.rest
second_sound s h = sounds_rest s.front s.rest (subst Sounds s.whole h)

-- a value and what is made of it
pub mapped : {X Y : Type 0} (A : Rule X) (B : X → Rule Y) (x : X) (y : Y) (ts : List Token) → A x ts → B x y [] → (A ▷ B) y ts
mapped A B x y ts h k = (x, record { front = ts; rest = []; whole = sym (append-nil ts); first = h; second = k })

-- what is made of a value, and that value
pub unmapped : {X Y : Type 0} (A : Rule X) (f : X → Y) (y : Y) (ts : List Token) → (A ▷ λ x. is (f x)) y ts → (x : X) × (y ≡ f x) × A x ts
unmapped A f y ts (x, s) = (x, s.second.0, subst (A x) (sym (s.whole ∙ ap (λ (l : List Token). s.front ++ l) s.second.1 ∙ append-nil s.front)) s.first)

pub retold : {X : Type 0} (Part : List ℕ → List Token → Type 0) (A : Rule X) (text : X → List ℕ) (x y : X) → x ≡ y → Told Part A y (text y) → Told Part A x (text x)
retold Part A text x y e h = subst (λ z. Told Part A z (text z)) (sym e) h

-- Written texts and the tokens that they have.
use Rattle.std.proofs.Common.{◌≡◌, ℕ, zero, suc, ◌≤◌, map, List, [], ◌∷◌, ◌++◌, length, Bool, true, false, Some, refl, sym, ap, subst, ◌∙◌, append_assoc, append-nil, arith}
use Rattle.std.specs.Prelude.{◌==◌, ◌&&◌, ◌||◌}
use Rattle.std.specs.Str.{IsUtf8}
use Rattle.std.proofs.lemmas.List.{map-append}
use Rattle.std.proofs.lemmas.Str.{IsUtf8-append, IsUtf8-nil}
use Rattle.sql_values.specs.Names.{continues_name}
use Rattle.sql_text.specs.declared.token.Before.{Before}
use Rattle.sql_text.specs.declared.token.Token.{Token}
use Rattle.sql_text.specs.Tokens.{Placed, Step, begins_word, step_at, onward, tokens_within, at_start, lexeme_at, is_bad, ends_operand}

and_false : (b c : Bool) → c ≡ false → (b && c) ≡ false
and_false true c h = h
and_false false c h = refl

-- what doesn't go on with a word, digits or a text in quotes
abbrev pub Stops : List ℕ → Type 0
Stops [] = Unit {0}
Stops (b ∷ bytes) = (continues_name b || b == 39) ≡ false

-- behind a blank or a symbol, and what ends an operand or not
abbrev pub apart_from : Bool → Before
apart_from operand = record { touching = false; operand = operand }

-- behind a token that begins with this byte
abbrev pub behind_token : ℕ → Bool → Before
behind_token b operand = record { touching = begins_word b; operand = operand }

-- Tokens are changed in one way, as words are where more of them are keywords.
module _ (change : Token → Token) where
  -- THE TOKENS OF BYTES

  -- these bytes have these tokens, behind what stands before them
  abbrev pub Has : Before → List ℕ → List Token → Type 0
  Has before bytes ts = (n : ℕ) → length bytes ≤ n → map (λ (p : Placed). change p.0) (tokens_within n before bytes) ≡ ts

  pub has_none : (before : Before) → Has before [] []
  has_none before zero h = refl
  has_none before (suc n) h = refl

  has_step : (before : Before) (b : ℕ) (bytes : List ℕ) (found : List Placed) (next : Before) (rest : List ℕ) (ts : List Token) → step_at before (b ∷ bytes) ≡ (found, Some (next, rest))
      → length rest ≤ length bytes → Has next rest ts → Has before (b ∷ bytes) (map (λ (p : Placed). change p.0) found ++ ts)
  has_step before b bytes found next rest ts e l h zero enough = absurd (omega arith)
  has_step before b bytes found next rest ts e l h (suc n) enough =
      ap (λ (s : Step). map (λ (p : Placed). change p.0) (onward (tokens_within n) s)) e
      ∙ map-append (λ (p : Placed). change p.0) found (tokens_within n next rest)
      ∙ ap (λ (l : List Token). map (λ (p : Placed). change p.0) found ++ l) (h n (omega arith))

  -- a token stands at the front, and no word or digits stand directly before it, or it begins neither
  pub has_token : (before : Before) (b : ℕ) (bytes : List ℕ) (t u : Token) (operand : Bool) (rest : List ℕ) (ts : List Token) → change t ≡ u → (before.touching && begins_word b) ≡ false
      → lexeme_at before.operand (b ∷ bytes) ≡ (Some t, rest) → is_bad t ≡ false → ends_operand t ≡ operand → length rest ≤ length bytes → Has (behind_token b operand) rest ts → Has before (b ∷ bytes) (u ∷ ts)
  has_token before b bytes t u operand rest ts is away e good ends l h =
      subst (λ v. Has before (b ∷ bytes) (v ∷ ts)) is
      (has_step before b bytes ((t, length (b ∷ bytes)) ∷ []) (behind_token b operand) rest ts
      (rw (away, e, good, ends) refl)
      l h)

  -- a token that begins neither a word nor digits
  pub has_symbol : (before : Before) (b : ℕ) (bytes : List ℕ) (t u : Token) (operand : Bool) (rest : List ℕ) (ts : List Token) → change t ≡ u → begins_word b ≡ false
      → lexeme_at before.operand (b ∷ bytes) ≡ (Some t, rest) → is_bad t ≡ false → ends_operand t ≡ operand → length rest ≤ length bytes → Has (apart_from operand) rest ts → Has before (b ∷ bytes) (u ∷ ts)
  has_symbol before b bytes t u operand rest ts is other e good ends l h =
      has_token before b bytes t u operand rest ts is (and_false before.touching (begins_word b) other) e good ends l
      (subst (λ v. Has (record { touching = v; operand = operand }) rest ts) (sym other) h)

  pub has_blank : (before : Before) (bytes : List ℕ) (ts : List Token) → Has (apart_from before.operand) bytes ts → Has before (32 ∷ bytes) ts
  has_blank before bytes ts h =
      has_step before 32 bytes [] (apart_from before.operand) bytes ts (rw (and_false before.touching false refl) refl) (omega arith) h

  -- PARTS OF A TEXT

  -- a part that stands behind a blank or the like, and what ends an operand or not, and before what doesn't go on with it
  pub record AtomAt (operand : Bool) (bytes : List ℕ) (ts : List Token) : Type 0 where
    pub reads : (rest : List ℕ) (more : List Token) → Stops rest → ((before : Before) → Has before rest more) → Has (apart_from operand) (bytes ++ rest) (ts ++ more)
    pub utf8 : IsUtf8 bytes

  -- one that stands where an operand may begin
  abbrev pub Atom : List ℕ → List Token → Type 0
  Atom bytes ts = AtomAt false bytes ts

  -- a part that may stand behind any other, and before what doesn't go on with it
  pub record Suffix (bytes : List ℕ) (ts : List Token) : Type 0 where
    pub reads : (before : Before) (rest : List ℕ) (more : List Token) → Stops rest → ((before : Before) → Has before rest more) → Has before (bytes ++ rest) (ts ++ more)
    pub stops : (rest : List ℕ) → Stops rest → Stops (bytes ++ rest)
    pub utf8 : IsUtf8 bytes

  -- a part that stands behind a blank or the like, and before anything; whether an operand ends before it, and at its end
  pub record PrefixAt (operand ends : Bool) (bytes : List ℕ) (ts : List Token) : Type 0 where
    pub reads : (rest : List ℕ) (more : List Token) → Has (apart_from ends) rest more → Has (apart_from operand) (bytes ++ rest) (ts ++ more)
    pub utf8 : IsUtf8 bytes

  abbrev pub Prefix : List ℕ → List Token → Type 0
  Prefix bytes ts = PrefixAt false false bytes ts

  -- a part that may stand between any others; whether an operand ends at its end
  pub record SeparatorAt (ends : Bool) (bytes : List ℕ) (ts : List Token) : Type 0 where
    pub reads : (before : Before) (rest : List ℕ) (more : List Token) → Has (apart_from ends) rest more → Has before (bytes ++ rest) (ts ++ more)
    pub stops : (rest : List ℕ) → Stops (bytes ++ rest)
    pub utf8 : IsUtf8 bytes

  abbrev pub Separator : List ℕ → List Token → Type 0
  Separator bytes ts = SeparatorAt false bytes ts

  -- bytes and tokens, put together in the other way
  regrouped : (before : Before) (a b rest : List ℕ) (s t more : List Token) → Has before (a ++ (b ++ rest)) (s ++ (t ++ more)) → Has before ((a ++ b) ++ rest) ((s ++ t) ++ more)
  regrouped before a b rest s t more h =
      subst (λ (l : List ℕ). Has before l ((s ++ t) ++ more)) (sym (append_assoc a b rest)) (subst (λ (l : List Token). Has before (a ++ (b ++ rest)) l) (sym (append_assoc s t more)) h)

  stops_again : (a b rest : List ℕ) → Stops (a ++ (b ++ rest)) → Stops ((a ++ b) ++ rest)
  stops_again a b rest h = subst Stops (sym (append_assoc a b rest)) h

  pub prefix_of : {operand ends : Bool} (a : List ℕ) (s : List Token) → SeparatorAt ends a s → PrefixAt operand ends a s
  prefix_of {operand} {ends} a s p = record { reads = p.reads (apart_from operand); utf8 = p.utf8 }

  pub closing_of : {ends : Bool} (a : List ℕ) (s : List Token) → SeparatorAt ends a s → Suffix a s
  closing_of {ends} a s p = record { reads = λ before rest more stops h. p.reads before rest more (h (apart_from ends)); stops = λ rest h. p.stops rest; utf8 = p.utf8 }

  pub separator_alone : {operand ends : Bool} (a : List ℕ) (s : List Token) → SeparatorAt ends a s → AtomAt operand a s
  separator_alone {operand} {ends} a s p = record { reads = λ rest more stops h. p.reads (apart_from operand) rest more (h (apart_from ends)); utf8 = p.utf8 }

  pub nothing_behind : Suffix [] []
  nothing_behind = record { reads = λ before rest more stops h. h before; stops = λ rest h. h; utf8 = IsUtf8-nil }

  pub nothing_before : Prefix [] []
  nothing_before = record { reads = λ rest more h. h; utf8 = IsUtf8-nil }

  pub atom_suffix : {operand : Bool} (a b : List ℕ) (s t : List Token) → AtomAt operand a s → Suffix b t → AtomAt operand (a ++ b) (s ++ t)
  atom_suffix {operand} a b s t p q = record {
    reads = λ rest more stops h. regrouped (apart_from operand) a b rest s t more (p.reads (b ++ rest) (t ++ more) (q.stops rest stops) (λ before. q.reads before rest more stops h));
    utf8 = IsUtf8-append a b p.utf8 q.utf8;
  }

  pub prefix_atom : {operand ends : Bool} (a b : List ℕ) (s t : List Token) → PrefixAt operand ends a s → AtomAt ends b t → AtomAt operand (a ++ b) (s ++ t)
  prefix_atom {operand} {ends} a b s t p q = record {
    reads = λ rest more stops h. regrouped (apart_from operand) a b rest s t more (p.reads (b ++ rest) (t ++ more) (q.reads rest more stops h));
    utf8 = IsUtf8-append a b p.utf8 q.utf8;
  }

  pub separator_atom : {ends : Bool} (a b : List ℕ) (s t : List Token) → SeparatorAt ends a s → AtomAt ends b t → Suffix (a ++ b) (s ++ t)
  separator_atom {ends} a b s t p q = record {
    reads = λ before rest more stops h. regrouped before a b rest s t more (p.reads before (b ++ rest) (t ++ more) (q.reads rest more stops h));
    stops = λ rest stops. stops_again a b rest (p.stops (b ++ rest));
    utf8 = IsUtf8-append a b p.utf8 q.utf8;
  }

  pub suffix_suffix : (a b : List ℕ) (s t : List Token) → Suffix a s → Suffix b t → Suffix (a ++ b) (s ++ t)
  suffix_suffix a b s t p q = record {
    reads = λ before rest more stops h. regrouped before a b rest s t more (p.reads before (b ++ rest) (t ++ more) (q.stops rest stops) (λ next. q.reads next rest more stops h));
    stops = λ rest stops. stops_again a b rest (p.stops (b ++ rest) (q.stops rest stops));
    utf8 = IsUtf8-append a b p.utf8 q.utf8;
  }

  pub atom_separator : {operand ends : Bool} (a b : List ℕ) (s t : List Token) → AtomAt operand a s → SeparatorAt ends b t → PrefixAt operand ends (a ++ b) (s ++ t)
  atom_separator {operand} {ends} a b s t p q = record {
    reads = λ rest more h. regrouped (apart_from operand) a b rest s t more (p.reads (b ++ rest) (t ++ more) (q.stops rest) (λ before. q.reads before rest more h));
    utf8 = IsUtf8-append a b p.utf8 q.utf8;
  }

  pub separator_prefix : {middle ends : Bool} (a b : List ℕ) (s t : List Token) → SeparatorAt middle a s → PrefixAt middle ends b t → SeparatorAt ends (a ++ b) (s ++ t)
  separator_prefix {middle} {ends} a b s t p q = record {
    reads = λ before rest more h. regrouped before a b rest s t more (p.reads before (b ++ rest) (t ++ more) (q.reads rest more h));
    stops = λ rest. stops_again a b rest (p.stops (b ++ rest));
    utf8 = IsUtf8-append a b p.utf8 q.utf8;
  }

  pub prefix_prefix : {operand middle ends : Bool} (a b : List ℕ) (s t : List Token) → PrefixAt operand middle a s → PrefixAt middle ends b t → PrefixAt operand ends (a ++ b) (s ++ t)
  prefix_prefix {operand} {middle} {ends} a b s t p q = record {
    reads = λ rest more h. regrouped (apart_from operand) a b rest s t more (p.reads (b ++ rest) (t ++ more) (q.reads rest more h));
    utf8 = IsUtf8-append a b p.utf8 q.utf8;
  }

  -- the tokens of a whole text
  pub atom_tokens : (bytes : List ℕ) (ts : List Token) → Atom bytes ts → map (λ (p : Placed). change p.0) (tokens_within (length bytes) at_start bytes) ≡ ts
  atom_tokens bytes ts p =
      let whole : Has at_start bytes ts = subst (λ (l : List ℕ). Has at_start l ts) (append-nil bytes) (subst (λ (l : List Token). Has at_start (bytes ++ []) l) (append-nil ts) (p.reads [] [] tt has_none)) in
      whole (length bytes) (omega arith)

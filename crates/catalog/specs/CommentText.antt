-- The pieces of a comment's text.
use Rattle.std.specs.Prelude.{ℕ, ◌==◌, ◌||◌, Bool, List, [], ◌∷◌, ◌++◌, Option, Some, None, if◌then◌else◌}
use Rattle.std.specs.Option.{option_map}
use Rattle.sql_values.specs.Names.{continues_name}

-- space, tab, carriage return or line feed
abbrev pub is_blank : ℕ → Bool
is_blank b = b == 32 || (b == 9 || (b == 13 || b == 10))

-- without the blanks at the front
abbrev pub skipped : List ℕ → List ℕ
skipped [] = []
skipped (b ∷ bytes) = if is_blank b then skipped bytes else b ∷ bytes

-- the bytes at the front that may stand in a word, and the others; words have letters, digits and `_`
abbrev pub word_run : List ℕ → List ℕ × List ℕ
word_run [] = ([], [])
word_run (b ∷ bytes) = if continues_name b then (b ∷ (word_run bytes).0, (word_run bytes).1) else ([], b ∷ bytes)

-- the bytes behind a quote at the front
abbrev pub behind_quote : List ℕ → Option (List ℕ)
behind_quote [] = None
behind_quote (b ∷ bytes) = if b == 34 then Some bytes else None

-- the bytes behind a quote in front of which at least one blank stands
abbrev pub opened : List ℕ → Option (List ℕ)
opened [] = None
opened (b ∷ bytes) = if is_blank b then behind_quote (skipped bytes) else None

-- a byte onto the first of two texts
abbrev pub onto : ℕ → List ℕ × List ℕ → List ℕ × List ℕ
onto b r = (b ∷ r.0, r.1)

-- the bytes in front of the next quote, and those behind it
abbrev pub closed : List ℕ → Option (List ℕ × List ℕ)
closed [] = None
closed (b ∷ bytes) = if b == 34 then Some ([], bytes) else option_map (onto b) (closed bytes)

-- a word that has begun, in front of others
abbrev pub with_word : List ℕ → List (List ℕ) → List (List ℕ)
with_word [] words = words
with_word (b ∷ bytes) words = (b ∷ bytes) ∷ words

-- the words of a text, separated by blanks, where a word has begun; none where another byte stands in it
abbrev pub words_from : List ℕ → List ℕ → Option (List (List ℕ))
words_from word [] = Some (with_word word [])
words_from word (b ∷ bytes) =
    if is_blank b then option_map (with_word word) (words_from [] bytes)
    else (if continues_name b then words_from (word ++ b ∷ []) bytes else None)

abbrev pub words : List ℕ → Option (List (List ℕ))
words text = words_from [] text

-- bytes in front of the first of two texts
abbrev pub behind : List ℕ → Option (List ℕ × List ℕ) → Option (List ℕ × List ℕ)
behind front texts = option_map (λ (r : List ℕ × List ℕ). (front ++ r.0, r.1)) texts

-- words in front of others
abbrev pub after_words : List (List ℕ) → Option (List (List ℕ)) → Option (List (List ℕ))
after_words front words = option_map (λ (others : List (List ℕ)). front ++ others) words

use Rattle.std.proofs.Common.{◌≡◌, ℕ, zero, suc, ◌+◌, ◌<◌, ◌≤◌, ◌&&◌, List, Bool, true, false, cond, Some, None, refl, sym, ap, ◌∙◌, arith}
use Rattle.std.specs.Prelude.{◌==◌, nat_eq}
use Rattle.std.specs.Cmp.Lexicographic.{pointwise, same_text}
use Rattle.std.specs.Fmt.{decimal, digits}
use Rattle.std.specs.List.{find, range_with_len}
use Rattle.std.proofs.lemmas.Bool.{false≢true}
use Rattle.std.proofs.lemmas.Bool.Decides.{nat_tests}
use Rattle.world_runs.specs.Schedule.{session_of}
use Rattle.spider_cli.specs.Lines.{number_of}

-- The number that a word is read as, and the session that it names.

-- so many numbers, from a on, are each read as what they are written as
abbrev are_read : ℕ → ℕ → Bool
are_read a zero = true
are_read a (suc count) = (number_of (decimal a) == a) && are_read (a + 1) count

-- the word is how this number is written
abbrev is_written : List ℕ → ℕ → Bool
is_written word n = pointwise nat_eq (decimal n) word

both : (a b : Bool) → (a && b) ≡ true → (a ≡ true) × (b ≡ true)
both true b h = (refl, h)
both false b h = absurd (false≢true h)

-- a number that is read as what it is written as is the number of its own word
own_number : (word : List ℕ) (a : ℕ) → (number_of (decimal a) == a) ≡ true → is_written word a ≡ true → number_of word ≡ a
own_number word a h w =
    let same : decimal a ≡ word = same_text (decimal a) word (sym w) in
    let e : number_of (decimal a) ≡ a = grind (arith, nat_tests) in
    ap number_of (sym same) ∙ e

-- a word that isn't how its number is written isn't how another is written
other_number : (word : List ℕ) (a : ℕ) → (number_of (decimal a) == a) ≡ true → is_written word (number_of word) ≡ false → is_written word a ≡ false
other_number word a h w = by (is_written word a) refl where
  by : (b : Bool) → is_written word a ≡ b → b ≡ false
  by true e = absurd (false≢true (sym w ∙ ap (is_written word) (own_number word a h e) ∙ e))
  by false e = refl

-- a number that is written otherwise is another
not_at : (word : List ℕ) (a n : ℕ) → is_written word a ≡ false → is_written word n ≡ true → a ≤ n → a + 1 ≤ n
not_at word a n e w l =
    let other : a ≡ n → ⊥ = λ s. false≢true (sym e ∙ ap (is_written word) s ∙ w) in
    absurd_or (other) where
      absurd_or : (a ≡ n → ⊥) → a + 1 ≤ n
      absurd_or f = omega arith

-- what a word is read as is found, where it is among these numbers and the word is how it is written
pub found : (word : List ℕ) (count a : ℕ) → are_read a count ≡ true → is_written word (number_of word) ≡ true → a ≤ number_of word → number_of word < a + count
    → find (is_written word) (range_with_len a count) ≡ Some (number_of word)
found word zero a read w low high = absurd (omega arith)
found word (suc count) a read w low high =
    first (is_written word a) refl (found word count (a + 1) (both _ _ read).1 w) where
      first : (b : Bool) → is_written word a ≡ b
          → (a + 1 ≤ number_of word → number_of word < (a + 1) + count → find (is_written word) (range_with_len (a + 1) count) ≡ Some (number_of word))
          → cond b (Some a) (find (is_written word) (range_with_len (a + 1) count)) ≡ Some (number_of word)
      first true e more = ap Some (sym (own_number word a (both _ _ read).0 e))
      first false e more = more (not_at word a (number_of word) e w low) (omega arith)

-- else none is
pub unfound : (word : List ℕ) (count a : ℕ) → are_read a count ≡ true → (a ≤ number_of word → number_of word < a + count → is_written word (number_of word) ≡ false)
    → find (is_written word) (range_with_len a count) ≡ None
unfound word zero a read w = refl
unfound word (suc count) a read w =
    first (is_written word a) refl (unfound word count (a + 1) (both _ _ read).1 (λ low high. w (omega arith) (omega arith))) where
      first : (b : Bool) → is_written word a ≡ b → find (is_written word) (range_with_len (a + 1) count) ≡ None
          → cond b (Some a) (find (is_written word) (range_with_len (a + 1) count)) ≡ None
      first true e more =
          let own = own_number word a (both _ _ read).0 e in
          absurd (false≢true (sym (w (omega arith) (omega arith)) ∙ ap (is_written word) own ∙ e))
      first false e more = more

sessions_are_read : are_read 1 256 ≡ true
unfolding digits
sessions_are_read = refl

-- the session of a word that is how its number is written
pub session_found : (word : List ℕ) (n : ℕ) → n ≡ number_of word → 0 < n → n ≤ 256 → is_written word n ≡ true → Some n ≡ session_of word
unfolding session_of
session_found word n e low high w =
    ap Some e ∙ sym (found word 256 1 sessions_are_read (ap (is_written word) (sym e) ∙ w) (omega arith) (omega arith))

pub no_session : (word : List ℕ) (n : ℕ) → n ≡ number_of word → (0 < n → n ≤ 256 → is_written word n ≡ false) → None ≡ session_of word
unfolding session_of
no_session word n e w =
    sym (unfound word 256 1 sessions_are_read (λ low high. ap (is_written word) (sym e) ∙ w (omega arith) (omega arith)))

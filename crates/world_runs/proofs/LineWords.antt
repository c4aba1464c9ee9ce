-- Lines that break no rule.
use Rattle.std.proofs.Common.{◌≡◌, ℕ, zero, suc, ◌+◌, ◌<◌, ◌≤◌, List, [], ◌∷◌, Bool, true, false, cond, Option, Some, None, not, refl, sym, ap, ◌∙◌, subst, arith}
use Rattle.std.specs.Prelude.{unwrap_or, nat_lt, nat_eq, codes, length, take, drop}
use Rattle.std.specs.Cmp.Lexicographic.{pointwise}
use Rattle.std.specs.Fmt.{decimal}
use Rattle.std.specs.List.{find, range_with_len}
use Rattle.std.specs.Str.{is_utf8}
use Rattle.std.proofs.lemmas.Bool.Decides.{nat_tests}
use Rattle.world_runs.specs.declared.schedule.LineRule.{LineRule}
use Rattle.world_runs.specs.declared.schedule.LineRule.TheVariants.{NotText, LineTooLong, TooManyLines, UnknownWord, BadNumber}
use Rattle.world_runs.specs.Schedule.{Line, Passed, Trace, Client, Broken, words_of, line_of, cut_at, client_of, client_by, session_of, client_word}

abbrev pub NotBroken : Line → Type 0
NotBroken Passed = Unit {0}
NotBroken (Trace on) = Unit {0}
NotBroken (Client n text) = Unit {0}
NotBroken (Broken rule) = ⊥

words_by : (a b c : Bool) (l : Line) → NotBroken (cond a (Broken NotText) (cond b (Broken LineTooLong) (cond c (Broken TooManyLines) l)))
    → cond a (Broken NotText) (cond b (Broken LineTooLong) (cond c (Broken TooManyLines) l)) ≡ l
words_by true b c l n = absurd n
words_by false true c l n = absurd n
words_by false false true l n = absurd n
words_by false false false l n = refl

-- a line that breaks no rule is its words
pub line_is_words : (number : ℕ) (line : List ℕ) → NotBroken (line_of number line) → line_of number line ≡ words_of line
unfolding line_of
line_is_words number line n = words_by (not (is_utf8 line)) (nat_lt 65536 (length line)) (nat_lt 1000000 number) (words_of line) n

few_by : (a b c : Bool) (l : Line) → NotBroken (cond a (Broken NotText) (cond b (Broken LineTooLong) (cond c (Broken TooManyLines) l))) → c ≡ false
few_by true b c l n = absurd n
few_by false true c l n = absurd n
few_by false false true l n = absurd n
few_by false false false l n = refl

-- it is one of the first million
pub line_is_early : (number : ℕ) (line : List ℕ) → NotBroken (line_of number line) → number ≤ 1000000
unfolding line_of
line_is_early number line n =
    let t : nat_lt 1000000 number ≡ false = few_by (not (is_utf8 line)) (nat_lt 65536 (length line)) (nat_lt 1000000 number) (words_of line) n in grind (arith, nat_tests)

-- THE NUMBER OF A SESSION

-- a line of a client names a session from 1 on
abbrev pub IsNumbered : Line → Type 0
IsNumbered Passed = Unit {0}
IsNumbered (Trace on) = Unit {0}
IsNumbered (Client n text) = nat_lt 0 n ≡ true
IsNumbered (Broken rule) = Unit {0}

above_by : (a k : ℕ) (found : Option ℕ) (b : Bool) → nat_lt 0 a ≡ true → (found ≡ Some k → nat_lt 0 k ≡ true) → cond b (Some a) found ≡ Some k → nat_lt 0 k ≡ true
above_by a k found true h more e = subst (λ x. nat_lt 0 x ≡ true) (ap (λ x. unwrap_or x a) e) h
above_by a k found false h more e = more e

next_above : (a : ℕ) → nat_lt 0 (a + 1) ≡ true
next_above a = grind (arith, nat_tests)

above : (a n k : ℕ) (test : ℕ → Bool) → nat_lt 0 a ≡ true → find test (range_with_len a n) ≡ Some k → nat_lt 0 k ≡ true
above a zero k test h e = absurd (cc)
above a (suc n) k test h e = above_by a k (find test (range_with_len (a + 1) n)) (test a) h (above (a + 1) n k test (next_above a)) e

client_numbered : (text : List ℕ) (found : Option ℕ) → ((k : ℕ) → found ≡ Some k → nat_lt 0 k ≡ true) → IsNumbered (client_by text found)
client_numbered text None h = tt
client_numbered text (Some n) h = h n refl

session_above : (word : List ℕ) (k : ℕ) → session_of word ≡ Some k → nat_lt 0 k ≡ true
unfolding session_of
session_above word k e = above 1 256 k (λ n. pointwise nat_eq (decimal n) word) refl e

of_numbered : (cut : Option (List ℕ × List ℕ)) → IsNumbered (client_of cut)
unfolding session_of
of_numbered None = tt
of_numbered (Some ([], text)) = tt
of_numbered (Some ((b ∷ word), text)) = client_numbered text (session_of (b ∷ word)) (session_above (b ∷ word))

words_numbered_by : (a b c d : Bool) (l : Line) → IsNumbered l → IsNumbered (cond a Passed (cond b (Trace true) (cond c (Trace false) (cond d l (Broken UnknownWord)))))
words_numbered_by true b c d l h = tt
words_numbered_by false true c d l h = tt
words_numbered_by false false true d l h = tt
words_numbered_by false false false true l h = h
words_numbered_by false false false false l h = tt

pub words_numbered : (line : List ℕ) → IsNumbered (words_of line)
words_numbered [] = tt
words_numbered (b ∷ bytes) =
    words_numbered_by _ (pointwise nat_eq (b ∷ bytes) (codes "trace on")) (pointwise nat_eq (b ∷ bytes) (codes "trace off")) (pointwise nat_eq (take 7 (b ∷ bytes)) client_word)
    (client_of (cut_at 32 (drop 7 (b ∷ bytes)))) (of_numbered (cut_at 32 (drop 7 (b ∷ bytes))))

pub line_numbered : (number : ℕ) (line : List ℕ) → NotBroken (line_of number line) → IsNumbered (line_of number line)
line_numbered number line ok = subst IsNumbered (sym (line_is_words number line ok)) (words_numbered line)

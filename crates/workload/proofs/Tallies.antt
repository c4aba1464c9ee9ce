-- What is counted, line by line.
use Rattle.std.proofs.Common.{◌≡◌, ℕ, ◌+◌, ◌^◌, ◌<◌, ◌++◌, List, [], ◌∷◌, Bool, true, false, cond, codes, length, refl, sym, subst, ap, ◌∙◌, append_assoc, arith}
use Rattle.std.specs.Prelude.{count_by, filter, flat_map}
use Rattle.std.proofs.lemmas.List.{append-nil}
use Rattle.std.proofs.lemmas.List.Sums.{sum_by-cons, count_by-le-length}
use Rattle.world_runs.specs.Schedule.{lines_of}
use Rattle.workload.specs.declared.counting.Tally.{Tally}
use Rattle.workload.specs.Summary.{is_answer, is_decided, is_link, ended, links_text, summary, count_line, counts_text}
use Rattle.workload.specs.Tally.{one, Fits, Counted, Counts, tally_text}
use Rattle.workload.proofs.Lines.{few_lines}

-- a line is counted before the others
first_counted : (p : List ℕ → Bool) (line : List ℕ) (lines : List (List ℕ)) → count_by p (line ∷ lines) ≡ one (p line) + count_by p lines
first_counted p line lines = sum_by-cons (λ l. cond (p l) 1 0) line lines

fits_one : (p : List ℕ → Bool) (n : ℕ) (line : List ℕ) (lines : List (List ℕ)) (text : List ℕ) → length text < 2 ^ 64
    → n + count_by p (line ∷ lines) ≡ count_by p (lines_of text) → n + one (p line) < 2 ^ 64
fits_one p n line lines text l e = omega (arith, first_counted p line lines, count_by-le-length p (lines_of text), few_lines text)

-- a text has no more lines than bytes
pub fits : (t : Tally) (line : List ℕ) (lines : List (List ℕ)) (text : List ℕ) → length text < 2 ^ 64 → Counts t (line ∷ lines) (lines_of text) → Fits t line
fits t line lines text l c = record {
  ok = fits_one (is_answer (codes "ok")) t.ok line lines text l c.ok;
  rows = fits_one (is_answer (codes "rows")) t.rows line lines text l c.rows;
  refused = fits_one (is_answer (codes "err")) t.refused line lines text l c.refused;
  decided = fits_one is_decided t.decided line lines text l c.decided;
}

counted_one : (p : List ℕ → Bool) (n new : ℕ) (line : List ℕ) (lines all : List (List ℕ)) → new ≡ n + one (p line) → n + count_by p (line ∷ lines) ≡ count_by p all → new + count_by p lines ≡ count_by p all
counted_one p n new line lines all e h = omega (arith, first_counted p line lines)

-- what a line adds to the links
abbrev kept : Bool → List ℕ → List ℕ
kept b line = cond b (ended line) []

first_kept : (b : Bool) (line : List ℕ) (lines : List (List ℕ)) → flat_map ended (cond b (line ∷ lines) lines) ≡ kept b line ++ flat_map ended lines
first_kept true line lines = refl
first_kept false line lines = refl

pub add_counted : (t new : Tally) (line : List ℕ) (b : Bool) → is_link line ≡ b → Counted t line new → new.links.items ≡ t.links.items ++ kept b line
    → (lines all : List (List ℕ)) → Counts t (line ∷ lines) all → Counts new lines all
add_counted t new line b e c k lines all h = record {
  ok = counted_one (is_answer (codes "ok")) t.ok new.ok line lines all c.ok h.ok;
  rows = counted_one (is_answer (codes "rows")) t.rows new.rows line lines all c.rows h.rows;
  refused = counted_one (is_answer (codes "err")) t.refused new.refused line lines all c.refused h.refused;
  decided = counted_one is_decided t.decided new.decided line lines all c.decided h.decided;
  links =
      ap (λ x. x ++ links_text lines) k ∙ append_assoc t.links.items (kept b line) (links_text lines)
      ∙ ap (λ x. t.links.items ++ (kept x line ++ links_text lines)) (sym e)
      ∙ ap (λ x. t.links.items ++ x) (sym (first_kept (is_link line) line (filter is_link lines))) ∙ h.links;
}

none_left : (p : List ℕ → Bool) (n m : ℕ) → n + count_by p [] ≡ m → n ≡ m
none_left p n m e = omega arith

-- the counts, where no line is left
pub counts_are : (t : Tally) (all : List (List ℕ)) → Counts t [] all → tally_text t ≡ counts_text all
counts_are t all c =
    ap (λ n. count_line (codes "ok") n ++ (count_line (codes "rows") t.rows ++ (count_line (codes "refused") t.refused ++ count_line (codes "decided") t.decided))) (none_left (is_answer (codes "ok")) t.ok _ c.ok)
    ∙ ap (λ n. count_line (codes "ok") (count_by (is_answer (codes "ok")) all) ++ (count_line (codes "rows") n ++ (count_line (codes "refused") t.refused ++ count_line (codes "decided") t.decided)))
    (none_left (is_answer (codes "rows")) t.rows _ c.rows)
    ∙ ap (λ n. count_line (codes "ok") (count_by (is_answer (codes "ok")) all) ++ (count_line (codes "rows") (count_by (is_answer (codes "rows")) all) ++ (count_line (codes "refused") n ++ count_line (codes "decided") t.decided)))
    (none_left (is_answer (codes "err")) t.refused _ c.refused)
    ∙ ap (λ n. count_line (codes "ok") (count_by (is_answer (codes "ok")) all)
    ++ (count_line (codes "rows") (count_by (is_answer (codes "rows")) all) ++ (count_line (codes "refused") (count_by (is_answer (codes "err")) all) ++ count_line (codes "decided") n)))
    (none_left is_decided t.decided _ c.decided)

pub links_are : (t : Tally) (all : List (List ℕ)) → Counts t [] all → t.links.items ≡ links_text all
links_are t all c = sym (append-nil t.links.items) ∙ c.links

pub summary_is : (t : Tally) (n : ℕ) (text first all : List ℕ) → Counts t [] (lines_of text) → first ≡ count_line (codes "statements") n → all ≡ (first ++ tally_text t) ++ t.links.items → all ≡ summary n text
unfolding summary
summary_is t n text first all c f e =
    e ∙ append_assoc first (tally_text t) t.links.items
    ∙ ap (λ x. x ++ (tally_text t ++ t.links.items)) f
    ∙ ap (λ x. count_line (codes "statements") n ++ (x ++ t.links.items)) (counts_are t (lines_of text) c)
    ∙ ap (λ x. count_line (codes "statements") n ++ (counts_text (lines_of text) ++ x)) (links_are t (lines_of text) c)

-- no byte is left, and so no line
pub nothing_more : (t : Tally) (left : List ℕ) (all : List (List ℕ)) → left ≡ [] → Counts t (lines_of left) all → Counts t [] all
unfolding lines_of
nothing_more t left all e c = subst (λ bytes. Counts t (lines_of bytes) all) e c

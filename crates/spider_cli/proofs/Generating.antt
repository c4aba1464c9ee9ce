-- Lines that are generated and played one by one, and what is told of their transcript.
use Rattle.std.proofs.Common.{◌≡◌, ℕ, suc, ◌+◌, ◌-◌, ◌<◌, ◌≤◌, ◌++◌, List, [], ◌∷◌, Some, None, take, drop, length, refl, sym, ap, ◌∙◌, subst, arith}
use Rattle.std.proofs.lemmas.List.{take-append-drop}
use Rattle.catalog.specs.Conf.{IsCatalog}
use Rattle.catalog.specs.Views.{View}
use Rattle.catalog.specs.declared.tables.Table.{Table}
use Rattle.spider_cli.specs.declared.outcome.Object.TheVariants as object
use Rattle.spider_cli.specs.declared.outcome.Outcome.{Outcome}
use Rattle.spider_cli.specs.declared.outcome.Outcome.TheVariants as outcome
use Rattle.spider_cli.specs.declared.world_play.Player.{Player}
use Rattle.spider_cli.specs.Playing.{told_by}
use Rattle.spider_cli.specs.Summing.{Sums}
use Rattle.spider_cli.specs.Top.{generated, Worked}
use Rattle.workload.specs.Generated.{onto, next_line, lines_from, played_count, workload_schedule}
use Rattle.workload.specs.Summary.{summary}
use Rattle.world_runs.specs.Run.{Told, with_front, transcript}

-- ONE LINE

-- where a line is played, there is a table
pub some_table : (tables : List Table) (count i : ℕ) → i < played_count tables count → 0 < length tables
some_table [] count i l = absurd (omega arith)
some_table (table ∷ tables) count i l = omega arith

-- the lines that are left begin with the next one
lines_from-left : (tables : List Table) (n i x : ℕ) → i < n → lines_from tables (n - i) x ≡ (next_line tables x).0 ++ lines_from tables (n - (i + 1)) (next_line tables x).1
unfolding lines_from
lines_from-left tables n i x l = let e : n - i ≡ suc (n - (i + 1)) = omega arith in ap (λ k. lines_from tables k x) e

made : (first line : List ℕ) (y : ℕ) (m : List ℕ × ℕ) → first ≡ [] → ◌≡◌ {A = List ℕ × ℕ} (line, y) (onto first m) → (line ≡ m.0) × (y ≡ m.1)
made first line y m e h = (ap (λ (p : List ℕ × ℕ). p.0) h ∙ ap (λ f. f ++ m.0) e, ap (λ (p : List ℕ × ℕ). p.1) h)

-- a line was generated behind nothing, and its state is y
left_after : (tables : List Table) (n i x y : ℕ) (first line : List ℕ) → i < n → first ≡ [] → ◌≡◌ {A = List ℕ × ℕ} (line, y) (onto first (next_line tables x))
    → line ++ lines_from tables (n - (i + 1)) y ≡ lines_from tables (n - i) x
left_after tables n i x y first line l e h =
    let m = made first line y (next_line tables x) e h in
    ap (λ a. a ++ lines_from tables (n - (i + 1)) y) m.0
    ∙ ap (λ s. (next_line tables x).0 ++ lines_from tables (n - (i + 1)) s) m.1
    ∙ sym (lines_from-left tables n i x l)

-- it was played, and what is left is told from there on
pub line_told : (p : Player) (tables : List Table) (n i x y : ℕ) (first line text : List ℕ) (t whole : Told) → i < n → first ≡ [] → ◌≡◌ {A = List ℕ × ℕ} (line, y) (onto first (next_line tables x))
    → t ≡ with_front text (told_by p (line ++ lines_from tables (n - (i + 1)) y)) → with_front text (told_by p (lines_from tables (n - i) x)) ≡ whole → t ≡ whole
line_told p tables n i x y first line text t whole l e h f k = f ∙ ap (λ bs. with_front text (told_by p bs)) (left_after tables n i x y first line l e h) ∙ k

-- at the end none is left
pub none_told : (p : Player) (tables : List Table) (n i x : ℕ) (text : List ℕ) (whole : Told) → n ≤ i → with_front text (told_by p (lines_from tables (n - i) x)) ≡ whole → with_front text (told_by p []) ≡ whole
unfolding lines_from
none_told p tables n i x text whole l h = let e : n - i ≡ 0 = omega arith in sym (ap (λ k. with_front text (told_by p (lines_from tables k x))) e) ∙ h

-- THE WHOLE

-- what is told of all lines by a new player is the transcript
pub generated_is : (p : Player) (catalog : View) (tables : List Table) (seed count : ℕ) (first : List ℕ) (t : Told) → first ≡ [] → tables ≡ catalog.tables → ((rest : List ℕ) → told_by p rest ≡ transcript catalog rest)
    → t ≡ with_front first (told_by p (lines_from tables (played_count tables count) seed)) → t ≡ generated catalog seed count
unfolding workload_schedule
generated_is p catalog tables seed count first t e f fresh h =
    h ∙ ap (λ x. with_front x (told_by p (lines_from tables (played_count tables count) seed))) e
    ∙ ap (λ ts. told_by p (lines_from ts (played_count ts count) seed)) f
    ∙ fresh (lines_from catalog.tables (played_count catalog.tables count) seed)

-- what became of the summary is what became of the workload
pub worked : {K : Type 0} (takes : K → List ℕ → K → Type 0) (faults : K → ℕ) (sink full : K) (conf : List ℕ) (catalog : View) (seed count : ℕ) (text told : List ℕ) (how : Outcome) → IsCatalog conf catalog
    → record { text = text; refusal = None } ≡ generated catalog seed count → told ≡ summary (played_count catalog.tables count) text → Sums takes faults sink full told how → Worked takes faults sink full conf seed count how
worked takes faults sink full conf catalog seed count text told outcome.Done is e f s = (
  catalog,
  is,
  record {
    unbroken = sym (ap (λ (t : Told). t.refusal) e);
    taken = subst (λ x. takes sink x full) (f ∙ ap (λ (t : Told). summary (played_count catalog.tables count) t.text) e) s;
  },
)
worked takes faults sink full conf catalog seed count text told (outcome.Fault object.Output) is e f s = (
  s.0,
  catalog,
  is,
  record {
    written = take s.1.count told;
    unbroken = sym (ap (λ (t : Told). t.refusal) e);
    taken = s.1.taken;
    front = (drop s.1.count told, take-append-drop s.1.count told ∙ f ∙ ap (λ (t : Told). summary (played_count catalog.tables count) t.text) e);
  },
)
worked takes faults sink full conf catalog seed count text told outcome.NoMemory is e f s = s
worked takes faults sink full conf catalog seed count text told (outcome.Fault object.Input) is e f s = absurd s
worked takes faults sink full conf catalog seed count text told (outcome.Fault object.Conf) is e f s = absurd s
worked takes faults sink full conf catalog seed count text told (outcome.Conf rule) is e f s = absurd s
worked takes faults sink full conf catalog seed count text told (outcome.Refused line rule) is e f s = absurd s
worked takes faults sink full conf catalog seed count text told outcome.Usage is e f s = absurd s

-- Where reads found what the plain tables gave, statements are executed one after another.
use Rattle.std.proofs.Common.{◌≡◌, ℕ, List, [], ◌∷◌, map, refl, sym, ap, ◌∙◌, subst, ap₂}
use Rattle.commit_protocol.specs.Links.{Plain, Placement}
use Rattle.commit_protocol.specs.Notes.{Went, Note, plain_after, plain, IsPlainRun, IsPlainSerial}
use Rattle.commit_protocol.specs.Notes.Note.{Read, Write}
use Rattle.commit_protocol.specs.Statements.{PartChange, finds, changed, ScannedPart, Entry, found_by, reads_onto, writes_onto, notes_of, AreAnswered, AllAnswered, tables_after, IsExecuted, tables_of, AreSerial}

after_writes : (p : Placement) (t : Plain) (went : ℕ → List Went) (changes : List PartChange) (notes : List Note) → plain_after p t (writes_onto went changes notes) ≡ changed p changes (plain_after p t notes)
after_writes p t went [] notes = refl
after_writes p t went (a ∷ more) notes = after_writes p t went more (Write a.partition a.keys a.rows (went a.partition) ∷ notes)

after_reads : (p : Placement) (t : Plain) (ss : List ScannedPart) (notes : List Note) → plain_after p t (reads_onto ss notes) ≡ plain_after p t notes
after_reads p t [] notes = refl
after_reads p t (s ∷ ss) notes = after_reads p t ss (Read s.scan.partition s.scan.keys s.scan.look s.found s.links ∷ notes)

run_writes : (p : Placement) (t : Plain) (went : ℕ → List Went) (changes : List PartChange) (notes : List Note) → IsPlainRun p t (writes_onto went changes notes) → IsPlainRun p t notes
run_writes p t went [] notes r = r
run_writes p t went (a ∷ more) notes r = run_writes p t went more (Write a.partition a.keys a.rows (went a.partition) ∷ notes) r

-- what the scans found is what they find on the tables as they were
run_reads : (p : Placement) (t : Plain) (ss : List ScannedPart) (notes : List Note) → IsPlainRun p t (reads_onto ss notes)
    → (map (λ (s : ScannedPart). s.found) ss ≡ finds p (plain_after p t notes) (map (λ (s : ScannedPart). s.scan) ss)) × IsPlainRun p t notes
run_reads p t [] notes r = (refl, r)
run_reads p t (s ∷ ss) notes r =
    let ih = run_reads p t ss (Read s.scan.partition s.scan.keys s.scan.look s.found s.links ∷ notes) r in
    (ap₂ (λ (x : Plain) (xs : List Plain). x ∷ xs) ih.1.0 ih.0, ih.1.1)

executed : (p : Placement) (t : Plain) (es : List Entry) → AreAnswered es → IsPlainRun p t (notes_of es) → IsExecuted p t es × (plain_after p t (notes_of es) ≡ tables_after p t es)
executed p t [] a r = (tt, refl)
executed p t (e ∷ older) a r =
    let reads = run_writes p t e.went (e.statement.changes (found_by e)) (reads_onto e.scanned (notes_of older)) r in
    let two = run_reads p t e.scanned (notes_of older) reads in
    let ih = executed p t older a.1 two.1 in
    let found : found_by e ≡ finds p (tables_after p t older) e.statement.scans = two.0 ∙ ap₂ (λ u ss. finds p u ss) ih.1 (sym a.0.scans) in (
      (a.0.answer ∙ ap e.statement.answer found, ih.0),
      after_writes p t e.went (e.statement.changes (found_by e)) (reads_onto e.scanned (notes_of older))
          ∙ ap₂ (λ (fs : List Plain) (u : Plain). changed p (e.statement.changes fs) u) found (after_reads p t e.scanned (notes_of older) ∙ ih.1),
    )

-- the decided transactions' entries are a serial run, and the plain tables are what they leave
pub all_executed : (p : Placement) (book : List (List Entry)) → AllAnswered book → IsPlainSerial p (map notes_of book) → AreSerial p book × (plain p (map notes_of book) ≡ tables_of p book)
all_executed p [] a r = (tt, refl)
all_executed p (es ∷ older) a r =
    let ih = all_executed p older a.1 r.1 in
    let now = executed p (tables_of p older) es a.0 (subst (λ u. IsPlainRun p u (notes_of es)) ih.1 r.0) in
    ((now.0, ih.0), ap (λ u. plain_after p u (notes_of es)) ih.1 ∙ now.1)

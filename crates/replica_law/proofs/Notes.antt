-- What was done on a connection, seen at one link, against what the notes say of the plain tables.
use Rattle.std.proofs.Common.{◌≡◌, ◌≢◌, ℕ, Bool, true, false, cond, ◌&&◌, eqb, List, [], ◌∷◌, None, refl, sym, ap, ◌∙◌, arith, ⊎_elim, eqb-true}
use Rattle.std.proofs.lemmas.Bool.Decides.{nat_tests}
use Rattle.std.proofs.lemmas.Bool.{cases_Bool}
use Rattle.commit_protocol.specs.Rows.{Table, Interval, Footprint, Operation, is_in_one, covers, after, AreRight}
use Rattle.commit_protocol.specs.Links.{Plain, Placement, at_link, lies}
use Rattle.commit_protocol.specs.Notes.{Went, Note, seen_in, written, plain_after, went_to, all_of, Follows, IsReadAt}
use Rattle.commit_protocol.specs.Notes.Note.{Read, Write}
use Rattle.commit_protocol.specs.Notes.Follows.{Ends, Reads_pass, Writes_pass, Writes_here, Scans_pass, Changes_other}
use Rattle.commit_protocol.specs.Notes.IsReadAt.{Here, Earlier}

-- two plain tables that have the same at each key are one
pub same_plain : (t u : Plain) → ((k : ℕ) → t k ≡ u k) → t ≡ u
same_plain t u h = λ i k. h k i

-- ---- changes

-- each write of the partition went to the link on this connection, and what went to it was of its partition
abbrev pub AllWent : Placement → ℕ → ℕ → List Note → Type 0
AllWent p l c [] = Unit {0}
AllWent p l c (Read q keys look found links ∷ older) = AllWent p l c older
AllWent p l c (Write q keys rows links ∷ older) = (p.link_partition l ≡ q → went_to l c links ≡ true) × (went_to l c links ≡ true → p.link_partition l ≡ q) × AllWent p l c older

-- no write went there
abbrev pub NoneWent : ℕ → ℕ → List Note → Type 0
NoneWent l c [] = Unit {0}
NoneWent l c (Read q keys look found links ∷ older) = NoneWent l c older
NoneWent l c (Write q keys rows links ∷ older) = (went_to l c links ≡ false) × NoneWent l c older

-- no write is of the link's partition
abbrev pub NoneOf : Placement → ℕ → List Note → Type 0
NoneOf p l [] = Unit {0}
NoneOf p l (Read q keys look found links ∷ older) = NoneOf p l older
NoneOf p l (Write q keys rows links ∷ older) = (p.link_partition l ≢ q) × NoneOf p l older

pub of_went : (p : Placement) (l c q : ℕ) (links : List Went) → all_of p q links ≡ true → went_to l c links ≡ true → p.link_partition l ≡ q
of_went p l c q [] a w = cc
of_went p l c q (g ∷ gs) a w = ⊎_elim
    (λ (t : (eqb g.link l && eqb g.connection c) ≡ true). let same : g.link ≡ l = grind (arith, nat_tests) in ap p.link_partition (sym same) ∙ eqb-true (p.link_partition g.link) q (grind arith))
    (λ (t : (eqb g.link l && eqb g.connection c) ≡ false). of_went p l c q gs (grind arith) (grind arith))
    (cases_Bool (eqb g.link l && eqb g.connection c))

-- a write elsewhere leaves the partition's keys
written_else : (p : Placement) (l q : ℕ) (keys : List Interval) (rows t : Plain) (k : ℕ) → p.link_partition l ≢ q → p.key_partition k ≡ p.link_partition l → written p q keys rows t k ≡ t k
written_else p l q keys rows t k ne e = grind (arith, nat_tests)

pub none_of_after : (p : Placement) (l : ℕ) (u : Plain) (notes : List Note) (k : ℕ) → NoneOf p l notes → p.key_partition k ≡ p.link_partition l → plain_after p u notes k ≡ u k
none_of_after p l u [] k w e = refl
none_of_after p l u (Read q keys look found links ∷ older) k w e = none_of_after p l u older k w e
none_of_after p l u (Write q keys rows links ∷ older) k w e = written_else p l q keys rows (plain_after p u older) k w.0 e ∙ none_of_after p l u older k w.1 e

-- the operation leaves other links' tables
changes_other : (l : ℕ) (f : Footprint) (new t : Table) (k : ℕ) → f.table ≢ l → cond (covers f (at_link l k)) (new (at_link l k)) (t (at_link l k)) ≡ t (at_link l k)
changes_other l f new t k ne = grind (arith, nat_tests)

-- what was done there and what the notes say change the partition's keys alike
pub follows_after : (p : Placement) (l c : ℕ) (t : Table) (u : Plain) (notes : List Note) (ops : List Operation) (k : ℕ) → Follows p l c notes ops → AllWent p l c notes → p.key_partition k ≡ p.link_partition l → t (at_link l k) ≡ u k
    → after t ops (at_link l k) ≡ plain_after p u notes k
follows_after p l c t u notes ops k Ends w e h = h
follows_after p l c t u notes ops k (Reads_pass rest) w e h = follows_after p l c t u _ ops k rest w e h
follows_after p l c t u notes ops k (Writes_pass {q = q} {keys = keys} {rows = rows} {ns = ns} away rest) w e h =
    let ne : p.link_partition l ≢ q = λ s. cc (w.0 s, away) in
    follows_after p l c t u ns ops k rest w.2 e h ∙ sym (written_else p l q keys rows (plain_after p u ns) k ne e)
follows_after p l c t u notes ops k (Writes_here {q = q} {keys = keys} {rows = rows} {ns = ns} {f = f} {new = new} {ops = older} here change rest) w e h =
    same (is_in_one keys k) refl (follows_after p l c t u ns older k rest w.2 e h)
  where
    of : p.link_partition l ≡ q
    of = w.1 here

    placed : eqb (p.key_partition k) q ≡ true
    placed = grind (arith, nat_tests, of, e)

    same : (b : Bool) → is_in_one keys k ≡ b → after t older (at_link l k) ≡ plain_after p u ns k
        → cond (covers f (at_link l k)) (new (at_link l k)) (after t older (at_link l k)) ≡ cond (eqb (p.key_partition k) q && is_in_one keys k) (rows k) (plain_after p u ns k)
    same true s ih =
        let covered : covers f (at_link l k) ≡ true = (change k).0 ∙ s in
        let inside : (eqb (p.key_partition k) q && is_in_one keys k) ≡ true = grind arith in
        ap (λ v. cond v (new (at_link l k)) (after t older (at_link l k))) covered ∙ (change k).1 s ∙ sym (ap (λ v. cond v (rows k) (plain_after p u ns k)) inside)
    same false s ih =
        let free : covers f (at_link l k) ≡ false = (change k).0 ∙ s in
        let outside : (eqb (p.key_partition k) q && is_in_one keys k) ≡ false = grind arith in
        ap (λ v. cond v (new (at_link l k)) (after t older (at_link l k))) free ∙ ih ∙ sym (ap (λ v. cond v (rows k) (plain_after p u ns k)) outside)
follows_after p l c t u notes ops k (Scans_pass rest) w e h = follows_after p l c t u notes _ k rest w e h
follows_after p l c t u notes ops k (Changes_other {f = f} {new = new} {ops = older} ne rest) w e h = changes_other l f new (after t older) k ne ∙ follows_after p l c t u notes older k rest w e h

-- where no write went there, nothing is changed there
pub follows_none : (p : Placement) (l c : ℕ) (t : Table) (notes : List Note) (ops : List Operation) (k : ℕ) → Follows p l c notes ops → NoneWent l c notes → after t ops (at_link l k) ≡ t (at_link l k)
follows_none p l c t notes ops k Ends w = refl
follows_none p l c t notes ops k (Reads_pass rest) w = follows_none p l c t _ ops k rest w
follows_none p l c t notes ops k (Writes_pass away rest) w = follows_none p l c t _ ops k rest w.1
follows_none p l c t notes ops k (Writes_here here change rest) w = cc (w.0, here)
follows_none p l c t notes ops k (Scans_pass rest) w = follows_none p l c t notes _ k rest w
follows_none p l c t notes ops k (Changes_other {f = f} {new = new} {ops = older} ne rest) w = changes_other l f new (after t older) k ne ∙ follows_none p l c t notes older k rest w

-- ---- reads

-- what had been done there as a read was made, and what the read found
pub record FoundThere (p : Placement) (l c : ℕ) (t : Table) (q : ℕ) (keys : List Interval) (look : Plain → Plain) (found : Plain) (ns : List Note) : Type 0 where
  pub older : List Operation
  pub follows : Follows p l c ns older
  pub is : found ≡ look (seen_in p q keys (λ k. after t older (at_link l k)))

pub found_there : (p : Placement) (l c : ℕ) (t : Table) (q : ℕ) (keys : List Interval) (look : Plain → Plain) (found : Plain) (ns : List Note) (ops : List Operation) → IsReadAt p l c q keys look found ns ops → AreRight t ops → FoundThere p l c t q keys look found ns
found_there p l c t q keys look found ns ops (Earlier {older = older} rest) r = found_there p l c t q keys look found ns older rest r.1
found_there p l c t q keys look found ns ops (Here {f = f} {rows = rows} {older = older} scan before) r = record {
  older = older;
  follows = before;
  is = sym scan.1 ∙ ap look (same_plain _ _ (λ k. same k (lies p q keys k) refl));
}
  where
    same : (k : ℕ) (b : Bool) → lies p q keys k ≡ b → cond (lies p q keys k) (rows (at_link l k)) None ≡ cond (lies p q keys k) (after t older (at_link l k)) None
    same k true e =
        let covered : covers f (at_link l k) ≡ true = scan.0 k (grind arith) in
        ap (λ z. cond (lies p q keys k) z None) (r.0 (at_link l k) ∙ ap (λ v. cond v (after t older (at_link l k)) None) covered)
    same k false e = ap (λ v. cond v (rows (at_link l k)) None) e ∙ sym (ap (λ v. cond v (after t older (at_link l k)) None) e)

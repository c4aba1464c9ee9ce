-- What is counted so far.
use Rattle.std.specs.Prelude.{◌≡◌, ℕ, ◌+◌, ◌<◌, ◌^◌, ◌++◌, Bool, cond, List, codes, count_by}
use Rattle.workload.specs.declared.counting.Tally.{Tally}
use Rattle.workload.specs.Summary.{is_answer, is_decided, links_text, count_line}

abbrev pub one : Bool → ℕ
one b = cond b 1 0

-- a line's counts fit
pub record Fits (t : Tally) (line : List ℕ) : Type 0 where
  pub ok : t.ok + one (is_answer (codes "ok") line) < 2 ^ 64
  pub rows : t.rows + one (is_answer (codes "rows") line) < 2 ^ 64
  pub refused : t.refused + one (is_answer (codes "err") line) < 2 ^ 64
  pub decided : t.decided + one (is_decided line) < 2 ^ 64

-- a line was counted
pub record Counted (t : Tally) (line : List ℕ) (new : Tally) : Type 0 where
  pub ok : new.ok ≡ t.ok + one (is_answer (codes "ok") line)
  pub rows : new.rows ≡ t.rows + one (is_answer (codes "rows") line)
  pub refused : new.refused ≡ t.refused + one (is_answer (codes "err") line)
  pub decided : new.decided ≡ t.decided + one (is_decided line)

-- with what these lines tell, it is what all lines tell
pub record Counts (t : Tally) (lines all : List (List ℕ)) : Type 0 where
  pub ok : t.ok + count_by (is_answer (codes "ok")) lines ≡ count_by (is_answer (codes "ok")) all
  pub rows : t.rows + count_by (is_answer (codes "rows")) lines ≡ count_by (is_answer (codes "rows")) all
  pub refused : t.refused + count_by (is_answer (codes "err")) lines ≡ count_by (is_answer (codes "err")) all
  pub decided : t.decided + count_by is_decided lines ≡ count_by is_decided all
  pub links : t.links.items ++ links_text lines ≡ links_text all

abbrev pub tally_text : Tally → List ℕ
tally_text t = count_line (codes "ok") t.ok ++ (count_line (codes "rows") t.rows ++ (count_line (codes "refused") t.refused ++ count_line (codes "decided") t.decided))

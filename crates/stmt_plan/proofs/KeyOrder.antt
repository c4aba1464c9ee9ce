-- Keys that were sorted and freed of repeats.
use Rattle.std.proofs.Common.{◌≡◌, ℤ, List, refl, sym, subst}
use Rattle.std.specs.List.{dedup}
use Rattle.std.specs.List.Sorted.{IsPermutation, IsSorted}
use Rattle.std.specs.Ordering.{int_cmp, int_eq}
use Rattle.std.proofs.lemmas.Bool.Decides.{Decides-int_eq}
use Rattle.std.proofs.lemmas.Cmp.{int_cmp_total, int_eq_equiv}
use Rattle.std.proofs.lemmas.List.Kept.{IsStrictlySortedBy-dedup, Contains-dedup, Contains-from_dedup}
use Rattle.std.proofs.lemmas.List.Sorted.{Contains-permutation, IsPermutation-sym}
use Rattle.stmt_plan.specs.Inserts.{AreRising}

rising_of : (keys sorted : List ℤ) → IsPermutation keys sorted → IsSorted int_cmp sorted → AreRising (dedup int_eq sorted) keys
rising_of keys sorted moved up = record {
  sorted = IsStrictlySortedBy-dedup int_cmp_total (λ x y. refl) sorted up;
  same = λ k. (
    λ there. Contains-permutation sorted keys k (IsPermutation-sym keys sorted moved) (Contains-from_dedup int_eq sorted k there),
    λ there. Contains-dedup int_eq_equiv (λ x y. (Decides-int_eq x y).0) sorted k (Contains-permutation keys sorted k moved there),
  );
}

pub AreRising-sorted : (keys sorted rising : List ℤ) → IsPermutation keys sorted → IsSorted int_cmp sorted → rising ≡ dedup int_eq sorted →
    AreRising rising keys
AreRising-sorted keys sorted rising moved up is = subst (λ (r : List ℤ). AreRising r keys) (sym is) (rising_of keys sorted moved up)

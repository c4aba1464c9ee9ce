-- Links out of servers, remote names and statuses.
use Rattle.std.proofs.Common.{◌≡◌, ℕ, ◌≤◌, Bool, List, [], ◌∷◌, length, drop, refl}
use Rattle.std.proofs.lemmas.List.{drop_all}
use Rattle.catalog.specs.declared.link.Status.{Status}
use Rattle.catalog.specs.Links.{linked}

no_remotes : (m : Bool) (servers : List ℕ) (statuses : List Status) → linked m servers [] statuses ≡ []
no_remotes m [] statuses = refl
no_remotes m (s ∷ ss) statuses = refl

no_statuses : (m : Bool) (servers : List ℕ) (remotes : List (List ℕ)) → linked m servers remotes [] ≡ []
no_statuses m [] remotes = refl
no_statuses m (s ∷ ss) [] = refl
no_statuses m (s ∷ ss) (r ∷ rs) = refl

pub remotes_end : (m : Bool) (servers : List ℕ) (remotes : List (List ℕ)) (statuses : List Status) (i : ℕ) → length remotes ≤ i → linked m (drop i servers) (drop i remotes) (drop i statuses) ≡ []
remotes_end m servers remotes statuses i past = rw (drop_all i remotes past) (no_remotes m (drop i servers) (drop i statuses))

pub statuses_end : (m : Bool) (servers : List ℕ) (remotes : List (List ℕ)) (statuses : List Status) (i : ℕ) → length statuses ≤ i → linked m (drop i servers) (drop i remotes) (drop i statuses) ≡ []
statuses_end m servers remotes statuses i past = rw (drop_all i statuses past) (no_statuses m (drop i servers) (drop i remotes))

-- Weights tell how much is written at each server.
use Rattle.std.proofs.Common.{◌≡◌, ◌<◌, ◌+◌, ◌-◌, ◌^◌, ◌==◌, ℕ, Bool, true, false, List, [], ◌∷◌, map, refl, arith, ◌∙◌, ap, cond, nat_lt}
use Rattle.std.specs.List.{list_any}
use Rattle.std.proofs.lemmas.List.Sums.{sum_by-cons}
use Rattle.txn_phases.specs.declared.phase.Target.{Target}
use Rattle.txn_phases.specs.declared.weight.Weight.{Weight}
use Rattle.txn_phases.specs.Deeds.{written, is_long_write, is_any_long}
use Rattle.txn_phases.specs.Weights.{capped, weight_by, total, is_heavy}

capped_sum : (a b c : ℕ) → capped b ≡ capped c → capped (capped a + b) ≡ capped (a + c)
capped_sum a b c same = omega arith

by_server : (b : Bool) (a t w : ℕ) → capped t ≡ capped w → capped (cond b (capped a) 0 + t) ≡ capped (cond b a 0 + w)
by_server true a t w same = capped_sum a t w same
by_server false a t w same = omega arith

rows_total : (rows bytes : Target → ℕ) (targets : List Target) (server : ℕ) → capped (total (λ (w : Weight). w.rows) (map (weight_by rows bytes) targets) server) ≡ capped (written rows targets server)
rows_total rows bytes [] server = refl
rows_total rows bytes (t ∷ ts) server =
    rw (sum_by-cons (λ (w : Weight). cond (w.server == server) w.rows 0) (weight_by rows bytes t) (map (weight_by rows bytes) ts), sum_by-cons (λ (u : Target). cond (u.server == server) (rows u) 0) t ts) (by_server (t.server == server) (rows t) (total (λ (w : Weight). w.rows) (map (weight_by rows bytes) ts) server) (written rows ts server) (rows_total rows bytes ts server))

bytes_total : (rows bytes : Target → ℕ) (targets : List Target) (server : ℕ) → capped (total (λ (w : Weight). w.bytes) (map (weight_by rows bytes) targets) server) ≡ capped (written bytes targets server)
bytes_total rows bytes [] server = refl
bytes_total rows bytes (t ∷ ts) server =
    rw (sum_by-cons (λ (w : Weight). cond (w.server == server) w.bytes 0) (weight_by rows bytes t) (map (weight_by rows bytes) ts), sum_by-cons (λ (u : Target). cond (u.server == server) (bytes u) 0) t ts) (by_server (t.server == server) (bytes t) (total (λ (w : Weight). w.bytes) (map (weight_by rows bytes) ts) server) (written bytes ts server) (bytes_total rows bytes ts server))

below_the_cap : (most a b : ℕ) → most < 2 ^ 64 - 1 → capped a ≡ capped b → nat_lt most a ≡ nat_lt most b
below_the_cap most a b small same = grind arith

heavy : (rows bytes : Target → ℕ) (targets : List Target) (server : ℕ) → is_heavy (map (weight_by rows bytes) targets) server ≡ is_long_write rows bytes targets server
heavy rows bytes targets server =
    rw (
      below_the_cap 10000 (total (λ (w : Weight). w.rows) (map (weight_by rows bytes) targets) server) (written rows targets server) (omega arith) (rows_total rows bytes targets server),
      below_the_cap 4194304 (total (λ (w : Weight). w.bytes) (map (weight_by rows bytes) targets) server) (written bytes targets server) (omega arith) (bytes_total rows bytes targets server),
    ) refl

any_heavy : (all : List Weight) (rows bytes : Target → ℕ) (targets rest : List Target) → all ≡ map (weight_by rows bytes) targets → list_any (λ (w : Weight). is_heavy all w.server) (map (weight_by rows bytes) rest) ≡ list_any (λ (t : Target). is_long_write rows bytes targets t.server) rest
any_heavy all rows bytes targets [] is = refl
any_heavy all rows bytes targets (t ∷ ts) is =
    let here : is_heavy all t.server ≡ is_long_write rows bytes targets t.server = ap (λ l. is_heavy l t.server) is ∙ heavy rows bytes targets t.server in
    rw (here, any_heavy all rows bytes targets ts is) refl

pub weighed : (weights : List Weight) (rows bytes : Target → ℕ) (targets : List Target) → weights ≡ map (weight_by rows bytes) targets → list_any (λ (w : Weight). is_heavy weights w.server) weights ≡ is_any_long rows bytes targets
weighed weights rows bytes targets is = ap (λ l. list_any (λ (w : Weight). is_heavy weights w.server) l) is ∙ any_heavy weights rows bytes targets targets is

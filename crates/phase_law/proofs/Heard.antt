-- The requests of a phase, served one after the other, are the answers that its job awaits.
use Rattle.std.proofs.Common.{◌≡◌, ◌<◌, ◌≤◌, ◌+◌, ℕ, suc, Bool, true, false, ◌&&◌, List, [], ◌∷◌, Some, None, drop, get_or, set, nat_lt, length, slice_get, refl, sym, ap, ◌∙◌, arith, subst, length-drop, drop-cons, add-one, lt-ltb, cond}
use Rattle.std.specs.List.{AllByRecursion}
use Rattle.std.proofs.lemmas.Bool.Decides.{nat_tests}
use Rattle.sql_text.specs.declared.link.LinkAnswer.{LinkAnswer}
use Rattle.branch_store.specs.Store.{Store, store_step}
use Rattle.txn_phases.specs.declared.job.Job.{Job}
use Rattle.txn_phases.specs.declared.job.TableScan.{TableScan}
use Rattle.txn_phases.specs.declared.phase.Progress.{Progress}
use Rattle.txn_phases.specs.declared.phase.Progress.TheVariants.{Waits}
use Rattle.txn_phases.specs.declared.requests.Ask.{Ask}
use Rattle.txn_phases.specs.Phases.{has_form, hears, leaves, noted, servers_of, server_at}
use Rattle.phase_law.specs.Through.{Heard, Serves}
use Rattle.phase_law.proofs.Noted.{Frame, noted_frame}
use Rattle.phase_law.proofs.Stages.{HaveForm, Served, noted_all}

-- the next answer that is read, and those behind it
record Next (asked : List ℕ) (place server : ℕ) (rest : List ℕ) : Type 0 where
  inside : place < length asked
  here : get_or asked place 0 ≡ server
  behind : drop (place + 1) asked ≡ rest

next_is : (asked : List ℕ) (place server : ℕ) (rest : List ℕ) → server ∷ rest ≡ drop place asked → Next asked place server rest
next_is asked place server rest is =
    let inside : place < length asked = omega (arith, length-drop place asked, ap length is) in
    let both : server ∷ rest ≡ get_or asked place 0 ∷ drop (suc place) asked = is ∙ drop-cons asked place 0 inside in
    record { inside = inside; here = cc; behind = ap (λ k. drop k asked) (add-one place) ∙ cc }

served_once : (n : ℕ) (stores : List Store) (job : Job) (ask : Ask) (a : LinkAnswer) (middle : List Store) (rest : List ℕ) (next : Job × Progress) → ask.server ∷ rest ≡ drop job.heard job.asked → has_form job.phase job.deed job.scan.kinds a ≡ true
    → (store : Store) (after : Store) → slice_get stores ask.server ≡ Some store → ◌≡◌ {A = Store × LinkAnswer} (store_step store n ask.request) (after, a) → middle ≡ set stores ask.server after → hears job a ≡ next → Serves n stores job ask middle next
served_once n stores job ask a middle rest next is form store after there step left goes =
    let at : Next job.asked job.heard ask.server rest = next_is job.asked job.heard ask.server rest is in
    let within : nat_lt job.heard (length job.asked) ≡ true = lt-ltb job.heard (length job.asked) at.inside in
    record {
      store = store;
      answer = a;
      after = after;
      there = there;
      step = step;
      left_is = left;
      server = ap (λ b. cond b (Some (get_or job.asked job.heard 0)) None) within ∙ ap (λ s. Some s) at.here;
      fits = ap (λ b. b && has_form job.phase job.deed job.scan.kinds a) within ∙ form;
      next_is = goes;
    }

-- all answers of the phase were read
last_read : (job : Job) (a : LinkAnswer) → drop (job.heard + 1) job.asked ≡ [] → hears job a ≡ leaves (noted job a) (noted job a).refused
last_read job a none =
    let frame : Frame job (noted job a) = noted_frame job a in
    let all : length job.asked ≤ job.heard + 1 = omega (arith, length-drop (job.heard + 1) job.asked, ap length none) in
    let over : nat_lt (job.heard + 1) (length job.asked) ≡ false = grind (arith, nat_tests) in
    let stays : Job × Progress = (noted job a, Waits (server_at (noted job a).asked (noted job a).heard)) in
    let goes : Job × Progress = leaves (noted job a) (noted job a).refused in
    let test : nat_lt (noted job a).heard (length (noted job a).asked) ≡ false = ap (λ k. nat_lt k (length (noted job a).asked)) frame.heard ∙ (ap (λ (l : List ℕ). nat_lt (job.heard + 1) (length l)) frame.asked ∙ over) in
    ap (λ (b : Bool). cond b stays goes) test

-- the answer of a further server is read next
further_read : (job : Job) (a : LinkAnswer) (server : ℕ) (rest : List ℕ) → Next job.asked (job.heard + 1) server rest → ◌≡◌ {A = Job × Progress} (hears job a) (noted job a, Waits server)
further_read job a server rest at =
    let frame : Frame job (noted job a) = noted_frame job a in
    let within : nat_lt (job.heard + 1) (length job.asked) ≡ true = lt-ltb (job.heard + 1) (length job.asked) at.inside in
    let stays : Job × Progress = (noted job a, Waits (server_at (noted job a).asked (noted job a).heard)) in
    let goes : Job × Progress = leaves (noted job a) (noted job a).refused in
    let test : nat_lt (noted job a).heard (length (noted job a).asked) ≡ true = ap (λ k. nat_lt k (length (noted job a).asked)) frame.heard ∙ (ap (λ (l : List ℕ). nat_lt (job.heard + 1) (length l)) frame.asked ∙ within) in
    let who : server_at (noted job a).asked (noted job a).heard ≡ server = ap (λ k. server_at (noted job a).asked k) frame.heard ∙ (ap (λ (l : List ℕ). server_at l (job.heard + 1)) frame.asked ∙ at.here) in
    let to : ℕ → Job × Progress = λ s. (noted job a, Waits s) in
    ap (λ (b : Bool). cond b stays goes) test ∙ ap to who

-- so the forms stay
still_formed : (job next : Job) (answers : List LinkAnswer) → Frame job next → HaveForm job answers → HaveForm next answers
still_formed job next answers frame formed =
    subst (λ p. AllByRecursion (λ a. has_form p next.deed next.scan.kinds a ≡ true) answers) (sym frame.phase)
    (subst (λ d. AllByRecursion (λ a. has_form job.phase d next.scan.kinds a ≡ true) answers) (sym frame.deed)
    (subst (λ (s : TableScan). AllByRecursion (λ a. has_form job.phase job.deed s.kinds a ≡ true) answers) (sym frame.scan) formed))

-- from the answer on that is read next
pub heard_from : (n : ℕ) (stores : List Store) (job : Job) (asks : List Ask) (answers : List LinkAnswer) (left : List Store) → 0 < length asks → servers_of asks ≡ drop job.heard job.asked → HaveForm job answers → Served n stores asks answers left
    → Heard n stores job asks left (leaves (noted_all job answers) (noted_all job answers).refused)
heard_from n stores job [] answers left some due formed served = let no : ⊥ = omega arith in absurd no
heard_from n stores job (ask ∷ []) [] left some due formed served = absurd served
heard_from n stores job (ask ∷ []) (a ∷ b ∷ answers) left some due formed served = absurd served.4
heard_from n stores job (ask ∷ []) (a ∷ []) left some due (form, formed) (store, after, there, step, left_is) =
    let at : Next job.asked job.heard ask.server [] = next_is job.asked job.heard ask.server [] due in
    served_once n stores job ask a left [] (leaves (noted job a) (noted job a).refused) due form store after there step left_is (last_read job a at.behind)
heard_from n stores job (ask ∷ other ∷ asks) [] left some due formed served = absurd served
heard_from n stores job (ask ∷ other ∷ asks) (a ∷ answers) left some due (form, formed) (store, after, there, step, served) =
    let at : Next job.asked job.heard ask.server (servers_of (other ∷ asks)) = next_is job.asked job.heard ask.server (servers_of (other ∷ asks)) due in
    let then : Next job.asked (job.heard + 1) other.server (servers_of asks) = next_is job.asked (job.heard + 1) other.server (servers_of asks) (sym at.behind) in
    let frame : Frame job (noted job a) = noted_frame job a in
    let middle : List Store = set stores ask.server after in
    let due_next : servers_of (other ∷ asks) ≡ drop (noted job a).heard (noted job a).asked = sym (ap (λ k. drop k (noted job a).asked) frame.heard ∙ (ap (λ l. drop (job.heard + 1) l) frame.asked ∙ at.behind)) in (
      middle,
      noted job a,
      served_once n stores job ask a middle (servers_of (other ∷ asks)) (noted job a, Waits other.server) due form store after there step refl (further_read job a other.server (servers_of asks) then),
      heard_from n middle (noted job a) (other ∷ asks) answers left (omega arith) due_next (still_formed job (noted job a) answers frame formed) served,
    )

-- a phase from its first answer on
pub heard_all : (n : ℕ) (stores : List Store) (job : Job) (asks : List Ask) (answers : List LinkAnswer) (left : List Store) → Served n stores asks answers left → HaveForm job answers → servers_of asks ≡ job.asked → job.heard ≡ 0 → 0 < length asks
    → Heard n stores job asks left (leaves (noted_all job answers) (noted_all job answers).refused)
heard_all n stores job asks answers left served formed due none some = heard_from n stores job asks answers left some (due ∙ ap (λ k. drop k job.asked) (sym none)) formed served

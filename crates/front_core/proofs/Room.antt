-- How much a step of a job gives out at most.
use Rattle.std.proofs.Common.{◌≡◌, ◌+◌, ◌-◌, ◌≤◌, ℕ, ℤ, zero, suc, Bool, true, false, List, [], ◌∷◌, Option, Some, None, map, max, length, refl, ◌∙◌, ap, arith, inl, inr, nat_lt}
use Rattle.std.specs.Prelude.{Result, Ok, Err, nat_le}
use Rattle.std.specs.List.{filter}
use Rattle.std.specs.Option.{option_map}
use Rattle.std.proofs.lemmas.Bool.{cases_Bool}
use Rattle.std.proofs.lemmas.List.{length-map, length-append}
use Rattle.sql_values.specs.declared.value.Value.{Value}
use Rattle.part_rules.specs.declared.rule.Rule.{Rule}
use Rattle.sql_text.specs.declared.link.LinkAnswer.{LinkAnswer}
use Rattle.sql_text.specs.declared.link.LinkAnswer.TheVariants as answer
use Rattle.sql_text.specs.declared.link.LinkRequest.TheVariants as request
use Rattle.stmt_plan.specs.declared.fault.RowFault.{RowFault}
use Rattle.txn_phases.specs.declared.changing.Changing.{Changing}
use Rattle.txn_phases.specs.declared.deed.Deed.{Deed}
use Rattle.txn_phases.specs.declared.deed.Deed.TheVariants as deed
use Rattle.txn_phases.specs.declared.deed.Outcome.{Outcome}
use Rattle.txn_phases.specs.declared.deed.Outcome.TheVariants as outcome
use Rattle.txn_phases.specs.declared.deed.PlacedRow.{PlacedRow}
use Rattle.txn_phases.specs.declared.deed.Refusal.{Refusal}
use Rattle.txn_phases.specs.declared.job.Job.{Job}
use Rattle.txn_phases.specs.declared.job.TableScan.{TableScan}
use Rattle.txn_phases.specs.declared.phase.Branch.{Branch}
use Rattle.txn_phases.specs.declared.phase.Phase.{Phase}
use Rattle.txn_phases.specs.declared.phase.Phase.TheVariants as phase
use Rattle.txn_phases.specs.declared.phase.Target.{Target}
use Rattle.txn_phases.specs.declared.partitions.PlacedKey.{PlacedKey}
use Rattle.txn_phases.specs.declared.requests.Ask.{Ask}
use Rattle.txn_phases.specs.Deeds.{news_in, taken_key, merged_within, found_within, cells_within, writes_too_much, changes_of, keys_in, placed_keys, deletes_too_much}
use Rattle.txn_phases.specs.Phases.{to_branches, begun_of, scan_of, scans_of, puts_of, put_of, dels_of, del_of, asking, gives_up_by, gives_up, ends_by, ends, writes_by, tells, putting, inserting_by, updating_by, updating, deleting_keys, deleting, writes, concluded_by, concluded, decided, follows, is_open, leaves, marked, marked_in, keeps, noted, goes_on, hears, begins_by, begins, with_branches, hearing, server_at, is_scanning, is_starting, counts_at}
use Rattle.front_core.specs.Planned.{most_asked, needed}

few_kept : (p : Branch → Bool) (bs : List Branch) → length (filter p bs) ≤ length bs
few_kept p [] = omega arith
few_kept p (b ∷ bs) = elim (cases_Bool (p b)) [
  | inl stays ↦ rw stays (omega (arith, few_kept p bs))
  | inr goes ↦ rw goes (omega (arith, few_kept p bs))
]

-- the words about a branch
abbrev pub start : Branch → Ask
start b = record { server = b.server; request = request.Start b.xid }

abbrev pub end : Branch → Ask
end b = record { server = b.server; request = request.End b.xid }

abbrev pub prepare : Branch → Ask
prepare b = record { server = b.server; request = request.Prepare b.xid }

abbrev pub commit : Branch → Ask
commit b = record { server = b.server; request = request.Commit b.xid }

abbrev pub roll_back : Branch → Ask
roll_back b = record { server = b.server; request = request.Rollback b.xid }

abbrev scan_ask : TableScan → Target → Ask
scan_ask scan t = record { server = t.server; request = scan_of scan t }

to_begun_few : (f : Branch → Ask) (bs : List Branch) → length (map f (begun_of bs)) ≤ length bs
to_begun_few f bs = omega (arith, length-map (begun_of bs) f, few_kept (λ (b : Branch). b.begun) bs)

put_few : (t : Target) (rows : List (List Value)) → length (put_of t rows) ≤ 1
put_few t [] = omega arith
put_few t (row ∷ rows) = omega arith

puts_few : (ts : List Target) (news : List PlacedRow) → length (puts_of ts news) ≤ length ts
puts_few [] news = omega arith
puts_few (t ∷ ts) news =
    omega (arith, length-append (put_of t (news_in news t.part)) (puts_of ts news), put_few t (news_in news t.part), puts_few ts news)

del_few : (key : List ℕ) (t : Target) (keys : List ℤ) → length (del_of key t keys) ≤ 1
del_few key t [] = omega arith
del_few key t (k ∷ keys) = omega arith

dels_few : (key : List ℕ) (ts : List Target) (keys : List PlacedKey) → length (dels_of key ts keys) ≤ length ts
dels_few key [] keys = omega arith
dels_few key (t ∷ ts) keys =
    omega (arith, length-append (del_of key t (keys_in keys t.part)) (dels_of key ts keys), del_few key t (keys_in keys t.part), dels_few key ts keys)

-- THE PHASES

gives_up_few : (job : Job) (o : Outcome) (asks : List Ask) (n : ℕ) → length asks ≤ n → needed (gives_up_by job o asks).1 ≤ n + 3
gives_up_few job o [] n few = omega arith
gives_up_few job o (a ∷ asks) n few = omega arith

ends_by_few : (job : Job) (o : Outcome) (asks : List Ask) (n : ℕ) → length asks ≤ n → needed (ends_by job o asks).1 ≤ n + 3
ends_by_few job o [] n few = omega arith
ends_by_few job o (a ∷ asks) n few = omega arith

given_up : (job : Job) (o : Outcome) → needed (gives_up job o).1 ≤ most_asked job + 3
given_up job o = gives_up_few job o (map roll_back (begun_of job.branches)) (most_asked job) (omega (arith, to_begun_few roll_back job.branches))

ended : (job : Job) (o : Outcome) → needed (ends job o).1 ≤ most_asked job + 3
ended job o = ends_by_few job o (map end (begun_of job.branches)) (most_asked job) (omega (arith, to_begun_few end job.branches))

written : (job : Job) (o : Outcome) (asks : List Ask) → length asks ≤ most_asked job → needed (writes_by job o asks).1 ≤ most_asked job + 3
written job o [] few = ended job o
written job o (a ∷ asks) few = omega arith

told : (job : Job) (o : Option Outcome) → needed (tells job o).1 ≤ most_asked job + 3
told job None = given_up job outcome.AnswerLimit
told job (Some o) = ended job o

put_rows : (job : Job) (news : List PlacedRow) → needed (writes job (putting job.targets news)).1 ≤ most_asked job + 3
put_rows job news = elim (cases_Bool (writes_too_much job.targets news)) [
  | inl much ↦ rw much (given_up job outcome.WriteSetLimit)
  | inr little ↦ rw little (written job (outcome.Done (length news)) (puts_of job.targets news) (omega (arith, puts_few job.targets news)))
]

inserted : (job : Job) (news : List PlacedRow) (taken : Option ℤ) → needed (writes job (inserting_by job.targets news taken)).1 ≤ most_asked job + 3
inserted job news None = put_rows job news
inserted job news (Some key) = given_up job (outcome.Duplicate key)

changed : (job : Job) (made : Result (List PlacedRow) RowFault) → needed (writes job (updating_by job.targets made)).1 ≤ most_asked job + 3
changed job (Ok news) = put_rows job news
changed job (Err fault) = given_up job (outcome.RowRefused fault)

updated : (job : Job) (c : Changing) (rows : Option (List (List Value))) → needed (writes job (updating job.targets c rows)).1 ≤ most_asked job + 3
updated job c None = given_up job outcome.AnswerLimit
updated job c (Some rows) = changed job (changes_of c rows)

keys_gone : (job : Job) (count : ℕ) (keys : List PlacedKey) → needed (writes job (deleting_keys job.targets job.scan count keys)).1 ≤ most_asked job + 3
keys_gone job count keys = elim (cases_Bool (deletes_too_much job.targets keys)) [
  | inl much ↦ rw much (given_up job outcome.WriteSetLimit)
  | inr little ↦ rw little (written job (outcome.Done count) (dels_of job.scan.key job.targets keys) (omega (arith, dels_few job.scan.key job.targets keys)))
]

deleted : (job : Job) (rule : Rule) (rows : Option (List (List Value))) → needed (writes job (deleting job.targets job.scan rule rows)).1 ≤ most_asked job + 3
deleted job rule None = given_up job outcome.AnswerLimit
deleted job rule (Some rows) = keys_gone job (length rows) (placed_keys rule job.scan.place rows)

concluded_few : (job : Job) (d : Deed) → needed (concluded_by job d).1 ≤ most_asked job + 3
concluded_few job (deed.Select order skip most) = told job (option_map outcome.Found (merged_within order skip most job.found))
concluded_few job (deed.Aggregate aggregates) = told job (option_map outcome.Cells (cells_within aggregates job.found))
concluded_few job (deed.Insert news) = inserted job news (taken_key job.scan.place job.found news)
concluded_few job (deed.Update c) = updated job c (found_within job.scan.place job.found)
concluded_few job (deed.Delete rule) = deleted job rule (found_within job.scan.place job.found)

followed : (p : Phase) (job : Job) → needed (follows p job).1 ≤ most_asked job + 3
followed phase.Starting job = omega (arith, length-map job.targets (scan_ask job.scan))
followed phase.Scanning job = concluded_few job job.deed
followed (phase.Putting o) job = ended job o
followed (phase.Ending o) job = omega (arith, to_begun_few prepare job.branches)
followed (phase.Preparing o) job = omega (arith, to_begun_few commit job.branches)
followed (phase.Committing o) job = omega arith
followed (phase.RollingBack o) job = omega arith
followed phase.Over job = omega arith

left : (job : Job) (refused : Option Refusal) → needed (leaves job refused).1 ≤ most_asked job + 3
left job None = followed job.phase job
left job (Some refusal) = elim (cases_Bool (is_open job.phase)) [
  | inl open_now ↦ rw open_now (given_up job (outcome.Refused refusal))
  | inr closed_now ↦ rw closed_now (followed job.phase job)
]

went_on : (job : Job) → needed (goes_on job).1 ≤ most_asked job + 3
went_on job = elim (cases_Bool (nat_lt job.heard (length job.asked))) [
  | inl more ↦ rw more (omega arith)
  | inr none ↦ rw none (left job job.refused)
]

begins_by_few : (job : Job) (asks : List Ask) → length asks ≤ most_asked job → needed (begins_by job asks).1 ≤ most_asked job + 3
begins_by_few job [] few = concluded_few job job.deed
begins_by_few job (a ∷ asks) few = omega arith

-- the first step
pub begins_few : (job : Job) → needed (begins job).1 ≤ most_asked job + 3
begins_few job = begins_by_few job (map start job.branches) (omega (arith, length-map job.branches start))

-- WHAT IS KEPT OF AN ANSWER

length-marked : (place : ℕ) (begun : Bool) (bs : List Branch) → length (marked place begun bs) ≡ length bs
length-marked place begun [] = refl
length-marked zero begun (b ∷ bs) = refl
length-marked (suc place) begun (b ∷ bs) = omega (arith, length-marked place begun bs)

length-marked_in : (starting : Bool) (place : ℕ) (a : LinkAnswer) (bs : List Branch) → length (marked_in starting place a bs) ≡ length bs
length-marked_in true place a bs = length-marked place (Rattle.txn_phases.specs.Phases.is_begun a) bs
length-marked_in false place a bs = refl

pub kept_most : (s : ℕ) (counts : Bool) (a : LinkAnswer) (job : Job) → most_asked (keeps s counts a job) ≡ most_asked job
kept_most s counts (answer.Done count) job = refl
kept_most s counts (answer.Rows rows) job = refl
kept_most s counts (answer.Cells cells) job = refl
kept_most s counts (answer.Xids xids) job = refl
kept_most s counts (answer.Refused number message) job = refl

noted_most : (job : Job) (a : LinkAnswer) → most_asked (noted job a) ≡ most_asked job
noted_most job a =
    kept_most _ _ a (hearing (with_branches job (marked_in (is_starting job.phase) job.heard a job.branches)))
    ∙ ap (λ n. max n (length job.targets)) (length-marked_in (is_starting job.phase) job.heard a job.branches)

kept_asked : (s : ℕ) (counts : Bool) (a : LinkAnswer) (job : Job) → (keeps s counts a job).asked ≡ job.asked
kept_asked s counts (answer.Done count) job = refl
kept_asked s counts (answer.Rows rows) job = refl
kept_asked s counts (answer.Cells cells) job = refl
kept_asked s counts (answer.Xids xids) job = refl
kept_asked s counts (answer.Refused number message) job = refl

kept_heard : (s : ℕ) (counts : Bool) (a : LinkAnswer) (job : Job) → (keeps s counts a job).heard ≡ job.heard
kept_heard s counts (answer.Done count) job = refl
kept_heard s counts (answer.Rows rows) job = refl
kept_heard s counts (answer.Cells cells) job = refl
kept_heard s counts (answer.Xids xids) job = refl
kept_heard s counts (answer.Refused number message) job = refl

-- a step for an answer
pub hears_few : (job : Job) (a : LinkAnswer) → needed (hears job a).1 ≤ most_asked job + 3
hears_few job a = omega (arith, went_on (noted job a), noted_most job a)

waits : (job : Job) → nat_lt job.heard (length job.asked) ≡ true → needed (goes_on job).1 ≡ 1
waits job more = rw more refl

-- where the answer isn't its phase's last, nothing is given out but that the next one is read
pub hears_one : (job : Job) (a : LinkAnswer) → nat_le (length job.asked - job.heard) 1 ≡ false → needed (hears job a).1 ≡ 1
hears_one job a many =
    let start = hearing (with_branches job (marked_in (is_starting job.phase) job.heard a job.branches)) in
    let heard : (noted job a).heard ≡ job.heard + 1 = kept_heard _ _ a start in
    let asked : (noted job a).asked ≡ job.asked = kept_asked _ _ a start in
    let more : nat_lt (job.heard + 1) (length job.asked) ≡ true = grind arith in
    waits (noted job a) (ap (λ n. nat_lt n (length (noted job a).asked)) heard ∙ ap (λ l. nat_lt (job.heard + 1) (length l)) asked ∙ more)

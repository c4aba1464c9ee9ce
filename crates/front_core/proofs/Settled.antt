-- A statement that is over owes nothing.
use Rattle.std.proofs.Common.{◌≡◌, ◌==◌, ℕ, ℤ, Bool, true, false, List, [], ◌∷◌, Option, Some, None, map, length, cond, refl, sym, ◌∙◌, inl, inr, nat_lt}
use Rattle.std.specs.Prelude.{Result, Ok, Err}
use Rattle.std.specs.Option.{option_map}
use Rattle.std.proofs.lemmas.Bool.{cases_Bool, both_ways}
use Rattle.std.proofs.lemmas.List.{length-map}
use Rattle.sql_values.specs.declared.value.Value.{Value}
use Rattle.part_rules.specs.declared.rule.Rule.{Rule}
use Rattle.sql_text.specs.declared.link.LinkAnswer.{LinkAnswer}
use Rattle.stmt_plan.specs.declared.fault.RowFault.{RowFault}
use Rattle.txn_phases.specs.declared.changing.Changing.{Changing}
use Rattle.txn_phases.specs.declared.deed.Deed.{Deed}
use Rattle.txn_phases.specs.declared.deed.Deed.TheVariants as deed
use Rattle.txn_phases.specs.declared.deed.Outcome.{Outcome}
use Rattle.txn_phases.specs.declared.deed.Outcome.TheVariants as outcome
use Rattle.txn_phases.specs.declared.deed.PlacedRow.{PlacedRow}
use Rattle.txn_phases.specs.declared.deed.Refusal.{Refusal}
use Rattle.txn_phases.specs.declared.job.Job.{Job}
use Rattle.txn_phases.specs.declared.phase.Branch.{Branch}
use Rattle.txn_phases.specs.declared.phase.Phase.{Phase}
use Rattle.txn_phases.specs.declared.phase.Phase.TheVariants as phase
use Rattle.txn_phases.specs.declared.phase.Stage.{Stage}
use Rattle.txn_phases.specs.declared.phase.Stage.TheVariants as stage
use Rattle.txn_phases.specs.declared.partitions.PlacedKey.{PlacedKey}
use Rattle.txn_phases.specs.declared.requests.Ask.{Ask}
use Rattle.txn_phases.specs.Deeds.{taken_key, merged_within, found_within, cells_within, writes_too_much, changes_of, placed_keys, deletes_too_much}
use Rattle.txn_phases.specs.Phases.{begun_of, puts_of, dels_of, gives_up_by, gives_up, ends_by, ends, writes_by, tells, putting, inserting_by, updating_by, updating, deleting_keys, deleting, writes, concluded_by, follows, is_open, leaves, noted, goes_on, hears, stage_of, undone_in, owed_of, owed_noted}
use Rattle.front_core.specs.Core.{is_settled, owing}
use Rattle.front_core.specs.declared.work.Work.TheVariants.{Idle}
use Rattle.front_core.specs.Planned.{is_over}
use Rattle.front_core.proofs.Room.{end, roll_back}

-- no branch is begun
abbrev NoneBegun : Job → Type 0
NoneBegun job = length (begun_of job.branches) ≡ 0

-- nothing has to be rolled back
abbrev NoneUndone : Phase → Job → Type 0
NoneUndone p job = (length (undone_in (stage_of p) job.branches) == 0) ≡ true

untold : (f : Branch → Ask) (job : Job) → length (map f (begun_of job.branches)) ≡ 0 → NoneBegun job
untold f job none = sym (length-map (begun_of job.branches) f) ∙ none

given_up_by : (job : Job) (o : Outcome) (asks : List Ask) → is_over (gives_up_by job o asks).1 ≡ true → length asks ≡ 0
given_up_by job o [] over = refl
given_up_by job o (a ∷ asks) over = absurd (both_ways false refl over)

ended_by : (job : Job) (o : Outcome) (asks : List Ask) → is_over (ends_by job o asks).1 ≡ true → length asks ≡ 0
ended_by job o [] over = refl
ended_by job o (a ∷ asks) over = absurd (both_ways false refl over)

given_up : (job : Job) (o : Outcome) → is_over (gives_up job o).1 ≡ true → NoneBegun job
given_up job o over = untold roll_back job (given_up_by job o (map roll_back (begun_of job.branches)) over)

ended : (job : Job) (o : Outcome) → is_over (ends job o).1 ≡ true → NoneBegun job
ended job o over = untold end job (ended_by job o (map end (begun_of job.branches)) over)

written : (job : Job) (o : Outcome) (asks : List Ask) → is_over (writes_by job o asks).1 ≡ true → NoneBegun job
written job o [] over = ended job o over
written job o (a ∷ asks) over = absurd (both_ways false refl over)

told : (job : Job) (o : Option Outcome) → is_over (tells job o).1 ≡ true → NoneBegun job
told job None over = given_up job outcome.AnswerLimit over
told job (Some o) over = ended job o over

put_rows : (job : Job) (news : List PlacedRow) → is_over (writes job (putting job.targets news)).1 ≡ true → NoneBegun job
put_rows job news over = elim (cases_Bool (writes_too_much job.targets news)) [
  | inl much ↦ given_up job outcome.WriteSetLimit (rw much at over)
  | inr little ↦ written job (outcome.Done (length news)) (puts_of job.targets news) (rw little at over)
]

inserted : (job : Job) (news : List PlacedRow) (taken : Option ℤ) → is_over (writes job (inserting_by job.targets news taken)).1 ≡ true → NoneBegun job
inserted job news None over = put_rows job news over
inserted job news (Some key) over = given_up job (outcome.Duplicate key) over

changed : (job : Job) (made : Result (List PlacedRow) RowFault) → is_over (writes job (updating_by job.targets made)).1 ≡ true → NoneBegun job
changed job (Ok news) over = put_rows job news over
changed job (Err fault) over = given_up job (outcome.RowRefused fault) over

updated : (job : Job) (c : Changing) (rows : Option (List (List Value))) → is_over (writes job (updating job.targets c rows)).1 ≡ true → NoneBegun job
updated job c None over = given_up job outcome.AnswerLimit over
updated job c (Some rows) over = changed job (changes_of c rows) over

keys_gone : (job : Job) (count : ℕ) (keys : List PlacedKey) → is_over (writes job (deleting_keys job.targets job.scan count keys)).1 ≡ true → NoneBegun job
keys_gone job count keys over = elim (cases_Bool (deletes_too_much job.targets keys)) [
  | inl much ↦ given_up job outcome.WriteSetLimit (rw much at over)
  | inr little ↦ written job (outcome.Done count) (dels_of job.scan.key job.targets keys) (rw little at over)
]

deleted : (job : Job) (rule : Rule) (rows : Option (List (List Value))) → is_over (writes job (deleting job.targets job.scan rule rows)).1 ≡ true → NoneBegun job
deleted job rule None over = given_up job outcome.AnswerLimit over
deleted job rule (Some rows) over = keys_gone job (length rows) (placed_keys rule job.scan.place rows) over

concluded : (job : Job) (d : Deed) → is_over (concluded_by job d).1 ≡ true → NoneBegun job
concluded job (deed.Select order skip most) over = told job (option_map outcome.Found (merged_within order skip most job.found)) over
concluded job (deed.Aggregate aggregates) over = told job (option_map outcome.Cells (cells_within aggregates job.found)) over
concluded job (deed.Insert news) over = inserted job news (taken_key job.scan.place job.found news) over
concluded job (deed.Update c) over = updated job c (found_within job.scan.place job.found) over
concluded job (deed.Delete rule) over = deleted job rule (found_within job.scan.place job.found) over

undone : (s : Stage) (bs : List Branch) → length (begun_of bs) ≡ 0 → (length (undone_in s bs) == 0) ≡ true
undone stage.Starting bs none = rw none refl
undone stage.Open bs none = rw none refl
undone stage.Over bs none = refl

followed : (p : Phase) (job : Job) → is_over (follows p job).1 ≡ true → NoneUndone p job
followed phase.Starting job over = absurd (both_ways false refl over)
followed phase.Scanning job over = undone stage.Open job.branches (concluded job job.deed over)
followed (phase.Putting o) job over = undone stage.Open job.branches (ended job o over)
followed (phase.Ending o) job over = absurd (both_ways false refl over)
followed (phase.Preparing o) job over = absurd (both_ways false refl over)
followed (phase.Committing o) job over = refl
followed (phase.RollingBack o) job over = refl
followed phase.Over job over = absurd (both_ways false refl over)

refused_by : (b : Bool) (job : Job) (o : Outcome) → is_over (cond b (gives_up job o) (follows job.phase job)).1 ≡ true → NoneUndone job.phase job
refused_by true job o over = undone (stage_of job.phase) job.branches (given_up job o over)
refused_by false job o over = followed job.phase job over

left : (job : Job) (refused : Option Refusal) → is_over (leaves job refused).1 ≡ true → NoneUndone job.phase job
left job None over = followed job.phase job over
left job (Some refusal) over = refused_by (is_open job.phase) job (outcome.Refused refusal) over

settled : (job : Job) → is_over (goes_on job).1 ≡ true → is_settled (owed_of job) ≡ true
settled job over = elim (cases_Bool (nat_lt job.heard (length job.asked))) [
  | inl more ↦ absurd (both_ways false refl (rw more at over))
  | inr none ↦ rw none (left job job.refused (rw none at over))
]

-- where an answer ends the statement, nothing is owed behind it
pub over_is_idle : (job : Job) (a : LinkAnswer) → is_over (hears job a).1 ≡ true → Idle ≡ owing (owed_noted job a)
over_is_idle job a over = rw (settled (noted job a) over) refl

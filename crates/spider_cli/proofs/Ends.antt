use Rattle.std.proofs.Common.{◌≡◌, ◌⊎◌, inl, inr, ℕ, List, [], Option, Some, None, refl}
use Rattle.std.specs.Prelude.{IsSome}
use Rattle.my_wire.specs.Counts.{HasRisen}
use Rattle.std.proofs.lemmas.List.{append-nil}
use Rattle.my_messages.specs.declared.session_end.SessionEnd.{SessionEnd}
use Rattle.catalog.specs.Conf.{IsCatalog}
use Rattle.catalog.specs.Views.{View}
use Rattle.spider_cli.specs.declared.outcome.Object.TheVariants as object
use Rattle.spider_cli.specs.declared.outcome.Outcome.{Outcome}
use Rattle.spider_cli.specs.declared.outcome.Outcome.TheVariants as outcome
use Rattle.spider_cli.specs.declared.world_play.PlayEnd.{PlayEnd}
use Rattle.world_runs.specs.declared.schedule.LineRule.{LineRule}
use Rattle.conf_check.specs.Links.{links_text}
use Rattle.spider_cli.specs.Playing.{Plays}
use Rattle.wire_play.specs.Wires.{Wires}
use Rattle.spider_cli.specs.Outcome.{code_of}
use Rattle.spider_cli.specs.Top.{Form, Check, Play, Wire, Workload, form_of, workload_summary, WritesFront, WiresFront, IsStarted, IsConfigured, FrontBy, WholeBy, StopsBy, IsRefused, Does, RunsOn, Checked, Worked, DoesOn, Did, Runs, IsFrontOf, IsWhole, IsStopped}

-- What the cases of an outcome have in common.

module _ {F S K : Type 0} (holds : F → List ℕ → Option (List ℕ) → Type 0) (file_faults : F → ℕ) (gives : S → List ℕ → S → Type 0) (has_ended : S → Type 0) (read_faults : S → ℕ)
    (takes : K → List ℕ → K → Type 0) (write_faults : K → ℕ) (words : List (List ℕ)) (files left : F) (source rest : S) (sink full : K) where
  abbrev Ran : Outcome → Type 0
  Ran how = Runs holds file_faults gives has_ended read_faults takes write_faults words files left source rest sink full how

  abbrev Front : Type 0
  Front = IsFrontOf holds file_faults gives has_ended read_faults takes write_faults words files left source rest sink full

  abbrev Whole : Type 0
  Whole = IsWhole holds file_faults gives has_ended read_faults takes write_faults words files left source rest sink full

  abbrev Stopped : ℕ → LineRule → Type 0
  Stopped line rule = IsStopped holds file_faults gives has_ended read_faults takes write_faults words files left source rest sink full line rule

  abbrev Done : View → Form → Outcome → Type 0
  Done catalog form how = Does gives has_ended read_faults takes write_faults source rest sink full catalog form how

  abbrev On : List ℕ → Form → Outcome → Type 0
  On conf form how = DoesOn gives has_ended read_faults takes write_faults source rest sink full conf form how

  abbrev Started : Form → List ℕ → Type 0
  Started form conf = IsStarted holds words files form conf

  abbrev DidSo : Outcome → Type 0
  DidSo how = Did holds file_faults gives has_ended read_faults takes write_faults words files left source rest sink full how

  -- the words name this configuration
  configured : (form : Form) (conf : List ℕ) (catalog : View) → Started form conf → IsCatalog conf catalog → IsConfigured holds words files form catalog
  configured form conf catalog s is = record { conf = conf; started = s; configured = is }

  -- A FRONT

  played : (catalog : View) (how : PlayEnd) → Plays gives has_ended takes catalog source rest sink full how → WritesFront gives has_ended takes source rest sink full catalog
  played catalog how p = record { read = p.read; written = p.written; given = p.given; taken = p.taken; front = p.front }

  wired : (catalog : View) (how : SessionEnd) → Wires gives has_ended takes catalog source rest sink full how → WiresFront gives has_ended takes source rest sink full catalog
  wired catalog how w = record { read = w.read; written = w.written; exchanges = w.exchanges; left = w.rest; given = w.given; taken = w.taken; sent = w.sent; front = w.front; solo = w.solo }

  does_front : (catalog : View) (form : Form) (how : Outcome) → Done catalog form how → FrontBy gives has_ended takes source rest sink full form catalog
  does_front catalog (Check path) how d = absurd d
  does_front catalog (Workload path seed count) how d = absurd d
  does_front catalog (Play path) outcome.Done d = played catalog _ d
  does_front catalog (Play path) (outcome.Refused line rule) d = played catalog _ d
  does_front catalog (Play path) (outcome.Fault object.Input) d = played catalog _ d.1
  does_front catalog (Play path) (outcome.Fault object.Output) d = played catalog _ d.1
  does_front catalog (Play path) (outcome.Fault object.Conf) d = absurd d
  does_front catalog (Play path) outcome.NoMemory d = played catalog _ d
  does_front catalog (Play path) (outcome.Conf fault) d = absurd d
  does_front catalog (Play path) outcome.Usage d = absurd d
  does_front catalog (Wire path) outcome.Done d = wired catalog d.0 d.2
  does_front catalog (Wire path) (outcome.Fault object.Input) d = wired catalog _ d.1
  does_front catalog (Wire path) (outcome.Fault object.Output) d = wired catalog _ d.1
  does_front catalog (Wire path) (outcome.Fault object.Conf) d = absurd d
  does_front catalog (Wire path) outcome.NoMemory d = wired catalog _ d
  does_front catalog (Wire path) (outcome.Refused line rule) d = absurd d
  does_front catalog (Wire path) (outcome.Conf fault) d = absurd d
  does_front catalog (Wire path) outcome.Usage d = absurd d

  some_front : (conf : List ℕ) (form : Form) (how : Outcome) → Started form conf → (catalog : View) × IsCatalog conf catalog × Done catalog form how → Front
  some_front conf form how s (catalog, is, d) = inr (form, catalog, configured form conf catalog s is, does_front catalog form how d)

  -- a configuration that is run
  run_front : (conf : List ℕ) (form : Form) (how : Outcome) → Started form conf → RunsOn gives has_ended read_faults takes write_faults source rest sink full conf form how → Front
  run_front conf form outcome.Done s d = some_front conf form outcome.Done s d
  run_front conf form (outcome.Refused line rule) s d = some_front conf form (outcome.Refused line rule) s d
  run_front conf form (outcome.Fault object) s d = some_front conf form (outcome.Fault object) s d
  run_front conf form (outcome.Conf rule) s d = inl d.1
  run_front conf form outcome.NoMemory s (inl i) = inl i
  run_front conf form outcome.NoMemory s (inr d) = some_front conf form outcome.NoMemory s d
  run_front conf form outcome.Usage s d = absurd d

  -- one that is checked
  check_front : (conf path : List ℕ) (how : Outcome) → Started (Check path) conf → rest ≡ source → Checked takes write_faults sink full conf how → Front
  check_front conf path outcome.Done s r d =
      inr (Check path, d.0, configured (Check path) conf d.0 s d.1, (r, record { written = links_text d.0; taken = d.2; front = ([], append-nil (links_text d.0)) }))
  check_front conf path (outcome.Fault object.Output) s r d = inr (Check path, d.1, configured (Check path) conf d.1 s d.2, (r, d.3))
  check_front conf path (outcome.Fault object.Input) s r d = absurd d
  check_front conf path (outcome.Fault object.Conf) s r d = absurd d
  check_front conf path (outcome.Refused line rule) s r d = absurd d
  check_front conf path (outcome.Conf rule) s r d = inl (r, d.1)
  check_front conf path outcome.NoMemory s r d = inl (r, d)
  check_front conf path outcome.Usage s r d = absurd d

  -- one on which statements are generated
  work_front : (conf path : List ℕ) (seed count : ℕ) (how : Outcome) → Started (Workload path seed count) conf → rest ≡ source → Worked takes write_faults sink full conf seed count how → Front
  work_front conf path seed count outcome.Done s r d =
      let form = Workload path seed count in
      let whole = d.2 in
      let told = workload_summary d.0 seed count in
      inr (form, d.0, configured form conf d.0 s d.1, (r, record { written = told; unbroken = whole.unbroken; taken = whole.taken; front = ([], append-nil told) }))
  work_front conf path seed count (outcome.Refused line rule) s r d = inl (r, d.3)
  work_front conf path seed count (outcome.Fault object.Output) s r d =
      let form = Workload path seed count in
      inr (form, d.1, configured form conf d.1 s d.2, (r, d.3))
  work_front conf path seed count (outcome.Fault object.Input) s r d = absurd d
  work_front conf path seed count (outcome.Fault object.Conf) s r d = absurd d
  work_front conf path seed count (outcome.Conf rule) s r d = inl (r, d.1)
  work_front conf path seed count outcome.NoMemory s r d = inl (r, d)
  work_front conf path seed count outcome.Usage s r d = absurd d

  on_front : (conf : List ℕ) (form : Form) (how : Outcome) → Started form conf → On conf form how → Front
  on_front conf (Check path) how s d = check_front conf path how s d.0 d.1
  on_front conf (Play path) how s d = run_front conf (Play path) how s d
  on_front conf (Wire path) how s d = run_front conf (Wire path) how s d
  on_front conf (Workload path seed count) how s d = work_front conf path seed count how s d.0 d.1

  did_front : (how : Outcome) → DidSo how → Front
  did_front how (form, conf, s, d) = on_front conf form how s d

  -- whatever the outcome, what was written is a front
  pub writes_front : (how : Outcome) → Ran how → Front
  writes_front outcome.Usage r = inl r.2
  writes_front (outcome.Conf fault) r = inl r.1
  writes_front (outcome.Fault object.Conf) r = inl r.2
  writes_front (outcome.Fault object.Input) r = did_front (outcome.Fault object.Input) r
  writes_front (outcome.Fault object.Output) r = did_front (outcome.Fault object.Output) r
  writes_front outcome.NoMemory (some, inl i) = inl i
  writes_front outcome.NoMemory (some, inr d) = did_front outcome.NoMemory d
  writes_front outcome.Done r = did_front outcome.Done r
  writes_front (outcome.Refused line rule) r = did_front (outcome.Refused line rule) r

  -- THE STATUS

  whole_by : (catalog : View) (form : Form) → Done catalog form outcome.Done → WholeBy gives has_ended takes source rest sink full form catalog
  whole_by catalog (Check path) d = absurd d
  whole_by catalog (Workload path seed count) d = absurd d
  whole_by catalog (Play path) p = record { read = p.read; written = p.written; given = p.given; taken = p.taken; whole = (p.done refl).0; ended = (p.done refl).1 }
  whole_by catalog (Wire path) d =
      let w = d.2 in
      record {
        read = w.read;
        written = w.written;
        exchanges = w.exchanges;
        left = w.rest;
        how = d.0;
        given = w.given;
        taken = w.taken;
        sent = w.sent;
        whole = w.whole d.1;
        solo = w.solo;
        over = d.1;
        ends = w.ends;
      }

  whole_on : (conf : List ℕ) (form : Form) → Started form conf → On conf form outcome.Done → Whole
  whole_on conf (Check path) s d = (Check path, d.1.0, configured (Check path) conf d.1.0 s d.1.1, (d.0, d.1.2))
  whole_on conf (Play path) s d = (Play path, d.0, configured (Play path) conf d.0 s d.1, whole_by d.0 (Play path) d.2)
  whole_on conf (Wire path) s d = (Wire path, d.0, configured (Wire path) conf d.0 s d.1, whole_by d.0 (Wire path) d.2)
  whole_on conf (Workload path seed count) s d =
      let form = Workload path seed count in
      (form, d.1.0, configured form conf d.1.0 s d.1.1, (d.0, d.1.2))

  whole_did : DidSo outcome.Done → Whole
  whole_did (form, conf, s, d) = whole_on conf form s d

  -- status 0 is no other outcome's than a call's that did all
  pub writes_whole : (how : Outcome) → code_of how ≡ 0 → Ran how → Whole
  writes_whole outcome.Usage e r = absurd (cc)
  writes_whole (outcome.Conf fault) e r = absurd (cc)
  writes_whole (outcome.Fault what) e r = absurd (cc)
  writes_whole outcome.NoMemory e r = absurd (cc)
  writes_whole outcome.Done e r = whole_did r
  writes_whole (outcome.Refused line rule) e r = absurd (cc)

  some_form : {A : Type 0} (o : Option Form) → IsSome o → o ≡ None → A
  some_form None s e = absurd (cc)
  some_form (Some form) s e = absurd (cc)

  this_form : {A : Type 0} (o : Option Form) (form : Form) → o ≡ Some form → o ≡ None → A
  this_form None form f e = absurd (cc)
  this_form (Some other) form f e = absurd (cc)

  -- words without a form are told so
  pub usage_is_told : (how : Outcome) → form_of words ≡ None → Ran how → code_of how ≡ 2
  usage_is_told outcome.Usage e r = refl
  usage_is_told (outcome.Conf fault) e r = this_form (form_of words) r.0.form r.0.form_is e
  usage_is_told (outcome.Fault object.Conf) e r = some_form (form_of words) r.0 e
  usage_is_told (outcome.Fault object.Input) e r = this_form (form_of words) r.0 r.2.form_is e
  usage_is_told (outcome.Fault object.Output) e r = this_form (form_of words) r.0 r.2.form_is e
  usage_is_told outcome.NoMemory e r = some_form (form_of words) r.0 e
  usage_is_told outcome.Done e r = this_form (form_of words) r.0 r.2.form_is e
  usage_is_told (outcome.Refused line rule) e r = this_form (form_of words) r.0 r.2.form_is e

  pub usage_only : (how : Outcome) → code_of how ≡ 2 → Ran how → form_of words ≡ None
  usage_only outcome.Usage e r = r.0
  usage_only (outcome.Conf fault) e r = absurd (cc)
  usage_only (outcome.Fault what) e r = absurd (cc)
  usage_only outcome.NoMemory e r = absurd (cc)
  usage_only outcome.Done e r = absurd (cc)
  usage_only (outcome.Refused line rule) e r = absurd (cc)

  input_rose : (conf : List ℕ) (form : Form) → On conf form (outcome.Fault object.Input) → HasRisen (read_faults source) (read_faults rest)
  input_rose conf (Check path) d = absurd d.1
  input_rose conf (Play path) d = d.2.0
  input_rose conf (Wire path) d = d.2.0
  input_rose conf (Workload path seed count) d = absurd d.1

  output_rose : (conf : List ℕ) (form : Form) → On conf form (outcome.Fault object.Output) → HasRisen (write_faults sink) (write_faults full)
  output_rose conf (Check path) d = d.1.0
  output_rose conf (Play path) d = d.2.0
  output_rose conf (Wire path) d = d.2.0
  output_rose conf (Workload path seed count) d = d.1.0

  -- status 1 comes only where a count rose
  pub rose : (how : Outcome) → code_of how ≡ 1 → Ran how
      → HasRisen (file_faults files) (file_faults left) ⊎ HasRisen (read_faults source) (read_faults rest) ⊎ HasRisen (write_faults sink) (write_faults full)
  rose outcome.Usage e r = absurd (cc)
  rose (outcome.Conf fault) e r = absurd (cc)
  rose (outcome.Fault object.Conf) e r = inl r.1
  rose (outcome.Fault object.Input) e r = inr (inl (input_rose r.1 r.0 r.3))
  rose (outcome.Fault object.Output) e r = inr (inr (output_rose r.1 r.0 r.3))
  rose outcome.NoMemory e r = absurd (cc)
  rose outcome.Done e r = absurd (cc)
  rose (outcome.Refused line rule) e r = absurd (cc)

  pub is_refused : (how : Outcome) → code_of how ≡ 4 → Ran how → (rule : List ℕ) × IsRefused holds words files rule
  is_refused outcome.Usage e r = absurd (cc)
  is_refused (outcome.Conf rule) e r = (rule, r.0)
  is_refused (outcome.Fault what) e r = absurd (cc)
  is_refused outcome.NoMemory e r = absurd (cc)
  is_refused outcome.Done e r = absurd (cc)
  is_refused (outcome.Refused line rule) e r = absurd (cc)

  stopped : (catalog : View) (form : Form) (line : ℕ) (rule : LineRule) → Done catalog form (outcome.Refused line rule) → StopsBy gives has_ended takes source rest sink full form catalog line rule
  stopped catalog (Play path) line rule p = record { read = p.read; written = p.written; given = p.given; taken = p.taken; stopped = p.refused line rule refl }
  stopped catalog (Wire path) line rule d = absurd d
  stopped catalog (Check path) line rule d = absurd d
  stopped catalog (Workload path seed count) line rule d = absurd d

  stopped_on : (conf : List ℕ) (form : Form) (line : ℕ) (rule : LineRule) → Started form conf → On conf form (outcome.Refused line rule) → Stopped line rule
  stopped_on conf (Check path) line rule s d = absurd d.1
  stopped_on conf (Play path) line rule s d = (Play path, d.0, configured (Play path) conf d.0 s d.1, stopped d.0 (Play path) line rule d.2)
  stopped_on conf (Wire path) line rule s d = (Wire path, d.0, configured (Wire path) conf d.0 s d.1, stopped d.0 (Wire path) line rule d.2)
  stopped_on conf (Workload path seed count) line rule s d =
      let form = Workload path seed count in
      (form, d.1.0, configured form conf d.1.0 s d.1.1, (d.0, d.1.2, d.1.3))

  -- status 5 is no other outcome's than a refused line's
  pub stops_at : (how : Outcome) → code_of how ≡ 5 → Ran how → (line : ℕ) × (rule : LineRule) × Stopped line rule
  stops_at outcome.Usage e r = absurd (cc)
  stops_at (outcome.Conf fault) e r = absurd (cc)
  stops_at (outcome.Fault what) e r = absurd (cc)
  stops_at outcome.NoMemory e r = absurd (cc)
  stops_at outcome.Done e r = absurd (cc)
  stops_at (outcome.Refused line rule) e r = (line, rule, stopped_on r.1 r.0 line rule r.2 r.3)

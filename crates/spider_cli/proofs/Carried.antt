-- What a form did on the file that the words name is what the call did.
use Rattle.std.proofs.Common.{◌≡◌, inl, inr, ℕ, List, Option, Some, refl, sym, subst}
use Rattle.std.specs.Option.{IsSome}
use Rattle.catalog.specs.Conf.{IsCatalog}
use Rattle.catalog.specs.Views.{View}
use Rattle.spider_cli.specs.declared.outcome.Object.TheVariants as object
use Rattle.spider_cli.specs.declared.outcome.Outcome.{Outcome}
use Rattle.spider_cli.specs.declared.outcome.Outcome.TheVariants as outcome
use Rattle.spider_cli.specs.Configurations.{Breaks, IsTurnedDown}
use Rattle.spider_cli.specs.Top.{Form, Check, Play, Wire, Workload, IsIdle, IsStarted, Checked, Worked, Does, RunsOn, DoesOn, Runs}

module _ {S K : Type 0} (gives : S → List ℕ → S → Type 0) (has_ended : S → Type 0) (read_faults : S → ℕ) (takes : K → List ℕ → K → Type 0) (write_faults : K → ℕ)
    (source rest : S) (sink full : K) (conf : List ℕ) where
  -- what a form did on the catalog of a configuration
  pub runs_on : (catalog : View) (form : Form) (how : Outcome) → IsCatalog conf catalog → Does gives has_ended read_faults takes write_faults source rest sink full catalog form how
      → RunsOn gives has_ended read_faults takes write_faults source rest sink full conf form how
  runs_on catalog form outcome.Done is d = (catalog, is, d)
  runs_on catalog form (outcome.Refused line rule) is d = (catalog, is, d)
  runs_on catalog form (outcome.Fault what) is d = (catalog, is, d)
  runs_on catalog form outcome.NoMemory is d = inr (catalog, is, d)
  runs_on catalog (Check path) (outcome.Conf rule) is d = absurd d
  runs_on catalog (Play path) (outcome.Conf rule) is d = absurd d
  runs_on catalog (Wire path) (outcome.Conf rule) is d = absurd d
  runs_on catalog (Workload path seed count) (outcome.Conf rule) is d = absurd d
  runs_on catalog (Check path) outcome.Usage is d = absurd d
  runs_on catalog (Play path) outcome.Usage is d = absurd d
  runs_on catalog (Wire path) outcome.Usage is d = absurd d
  runs_on catalog (Workload path seed count) outcome.Usage is d = absurd d

  -- a configuration that breaks a rule is not run
  pub turned_down : (form : Form) (how : Outcome) → IsTurnedDown conf how → rest ≡ source → full ≡ sink → RunsOn gives has_ended read_faults takes write_faults source rest sink full conf form how
  turned_down form (outcome.Conf rule) t r f = (t, (r, f))
  turned_down form outcome.NoMemory t r f = inl (r, f)
  turned_down form outcome.Done t r f = absurd t
  turned_down form (outcome.Fault what) t r f = absurd t
  turned_down form outcome.Usage t r f = absurd t
  turned_down form (outcome.Refused line rule) t r f = absurd t

module _ {K : Type 0} (takes : K → List ℕ → K → Type 0) (write_faults : K → ℕ) (sink full : K) (conf : List ℕ) where
  -- nor is it shown
  pub unchecked : (how : Outcome) → IsTurnedDown conf how → full ≡ sink → Checked takes write_faults sink full conf how
  unchecked (outcome.Conf rule) t f = (t, f)
  unchecked outcome.NoMemory t f = f
  unchecked outcome.Done t f = absurd t
  unchecked (outcome.Fault what) t f = absurd t
  unchecked outcome.Usage t f = absurd t
  unchecked (outcome.Refused line rule) t f = absurd t

  -- and no statement is generated on it
  pub unworked : (seed count : ℕ) (how : Outcome) → IsTurnedDown conf how → full ≡ sink → Worked takes write_faults sink full conf seed count how
  unworked seed count (outcome.Conf rule) t f = (t, f)
  unworked seed count outcome.NoMemory t f = f
  unworked seed count outcome.Done t f = absurd t
  unworked seed count (outcome.Fault what) t f = absurd t
  unworked seed count outcome.Usage t f = absurd t
  unworked seed count (outcome.Refused line rule) t f = absurd t

module _ {F S K : Type 0} (holds : F → List ℕ → Option (List ℕ) → Type 0) (file_faults : F → ℕ) (gives : S → List ℕ → S → Type 0) (has_ended : S → Type 0) (read_faults : S → ℕ)
    (takes : K → List ℕ → K → Type 0) (write_faults : K → ℕ) (words : List (List ℕ)) (files left : F) (source rest : S) (sink full : K) where
  abbrev On : List ℕ → Form → Outcome → Type 0
  On conf form how = DoesOn gives has_ended read_faults takes write_faults source rest sink full conf form how

  abbrev Ran : Outcome → Type 0
  Ran how = Runs holds file_faults gives has_ended read_faults takes write_faults words files left source rest sink full how

  -- a configuration that is refused
  refused_by : (conf rule : List ℕ) (form : Form) → On conf form (outcome.Conf rule) → Breaks conf rule × IsIdle gives has_ended takes source rest sink full
  refused_by conf rule (Check path) d = (d.1.0, (d.0, d.1.1))
  refused_by conf rule (Play path) d = d
  refused_by conf rule (Wire path) d = d
  refused_by conf rule (Workload path seed count) d = (d.1.0, (d.0, d.1.1))

  -- the words have a form, and their file was read
  never : (conf : List ℕ) (how : Outcome) (form : Form) → On conf form outcome.Usage → Ran how
  never conf how (Check path) d = absurd d.1
  never conf how (Play path) d = absurd d
  never conf how (Wire path) d = absurd d
  never conf how (Workload path seed count) d = absurd d.1

  unread : (conf : List ℕ) (how : Outcome) (form : Form) → On conf form (outcome.Fault object.Conf) → Ran how
  unread conf how (Check path) d = absurd d.1
  unread conf how (Play path) d = absurd d.2
  unread conf how (Wire path) d = absurd d.2
  unread conf how (Workload path seed count) d = absurd d.1

  pub carried : (form : Form) (conf : List ℕ) → IsStarted holds words files form conf → (how : Outcome) → On conf form how → Ran how
  carried form conf s outcome.Usage d = never conf outcome.Usage form d
  carried form conf s (outcome.Conf rule) d =
      let r = refused_by conf rule form d in
      (record { form = form; form_is = s.form_is; contents = Some conf; held = s.held; refused = r.0 }, r.1)
  carried form conf s (outcome.Fault object.Conf) d = unread conf (outcome.Fault object.Conf) form d
  carried form conf s (outcome.Fault object.Input) d = (form, conf, s, d)
  carried form conf s (outcome.Fault object.Output) d = (form, conf, s, d)
  carried form conf s outcome.NoMemory d = (subst IsSome (sym s.form_is) refl, inr (form, conf, s, d))
  carried form conf s outcome.Done d = (form, conf, s, d)
  carried form conf s (outcome.Refused line rule) d = (form, conf, s, d)

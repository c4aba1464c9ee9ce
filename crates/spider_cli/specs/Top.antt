use Rattle.std.specs.Prelude.{◌≡◌, ◌⊎◌, ℕ, ◌-◌, ◌^◌, ◌==◌, ◌&&◌, Bool, false, nat_le, nat_lt, List, [], ◌∷◌, length, Option, Some, None, IsSome, if◌then◌else◌, codes}
use Rattle.std.specs.Str.{all_ascii_digits, bytes_eq}
use Rattle.std.specs.Str.Parse.{digits_value}
use Rattle.my_wire.specs.Counts.{HasRisen, TakesFront, IsFront}
use Rattle.spider_cli.specs.declared.outcome.Object.TheVariants as object
use Rattle.spider_cli.specs.declared.outcome.Outcome.{Outcome}
use Rattle.spider_cli.specs.declared.outcome.Outcome.TheVariants as outcome
use Rattle.spider_cli.specs.declared.world_play.PlayEnd.TheVariants as end
use Rattle.world_runs.specs.declared.schedule.LineRule.{LineRule}
use Rattle.catalog.specs.Conf.{IsCatalog}
use Rattle.catalog.specs.Views.{View}
use Rattle.conf_check.specs.Links.{links_text}
use Rattle.spider_cli.specs.Configurations.{Breaks}
use Rattle.world_runs.specs.Run.{Told, transcript}
use Rattle.workload.specs.Generated.{played_count, workload_schedule}
use Rattle.workload.specs.Summary.{summary}
use Rattle.my_wire.specs.Packets.{first_packet}
use Rattle.my_messages.specs.declared.session_end.SessionEnd.{SessionEnd}
use Rattle.my_messages.specs.declared.session_end.SessionEnd.TheVariants as ends
use Rattle.front_node.specs.Session.{Exchange, Sent, sent_to, EndsBy, IsOver}
use Rattle.spider_cli.specs.declared.world_play.PlayEnd.{PlayEnd}
use Rattle.spider_cli.specs.Playing.{Plays}
use Rattle.wire_law.specs.Wire.{AreSolo}
use Rattle.wire_play.specs.Wires.{Wires}

-- THE WORDS

-- what the words ask for of a configuration of that path: to check it, to play a schedule on it, to serve one session of packets, or to play so many
-- statements that a seed generates
pub data Form : Type 0 where
  Check : List ℕ → Form
  Play : List ℕ → Form
  Wire : List ℕ → Form
  Workload : List ℕ → ℕ → ℕ → Form

-- the path of the configuration
abbrev pub path_of : Form → List ℕ
path_of (Check path) = path
path_of (Play path) = path
path_of (Wire path) = path
path_of (Workload path seed count) = path

-- a word that begins with a dash
abbrev pub has_dash : List ℕ → Bool
has_dash [] = false
has_dash (b ∷ bytes) = b == 45

-- the form that a first word and a path make
abbrev pub word_form : List ℕ → List ℕ → Option Form
word_form word path =
    if has_dash path then None
    else if bytes_eq word (codes "check") then Some (Check path)
    else if bytes_eq word (codes "play") then Some (Play path)
    else if bytes_eq word (codes "wire") then Some (Wire path)
    else None

-- the number that a word of decimal digits writes, where it is one of these
abbrev pub number_within : ℕ → ℕ → List ℕ → Option ℕ
number_within least most word =
    if nat_lt 0 (length word) && (all_ascii_digits word && (nat_le least (digits_value 10 word) && nat_le (digits_value 10 word) most)) then Some (digits_value 10 word) else None

-- with both numbers
abbrev pub seeded : List ℕ → Option ℕ → Option ℕ → Option Form
seeded path None count = None
seeded path (Some seed) None = None
seeded path (Some seed) (Some count) = Some (Workload path seed count)

-- the form that a first word, a path and two numbers make
abbrev pub numbers_form : List ℕ → List ℕ → List ℕ → List ℕ → Option Form
numbers_form word path seed count =
    if has_dash path then None
    else if bytes_eq word (codes "workload") then seeded path (number_within 0 (2 ^ 64 - 1) seed) (number_within 1 100000 count)
    else None

-- the form of the words, where they have one
abbrev pub form_of : List (List ℕ) → Option Form
form_of [] = None
form_of (word ∷ []) = None
form_of (word ∷ path ∷ []) = word_form word path
form_of (word ∷ path ∷ seed ∷ []) = None
form_of (word ∷ path ∷ seed ∷ count ∷ []) = numbers_form word path seed count
form_of (word ∷ path ∷ seed ∷ count ∷ other ∷ words) = None

-- ERROR OUTPUT

-- a sink took the whole text, or a front of it, and then its count rose
abbrev pub Says : {K : Type 0} → (K → List ℕ → K → Type 0) → (K → ℕ) → K → List ℕ → K → Type 0
Says takes faults old text new = TakesFront takes old text new × (takes old text new ⊎ HasRisen (faults old) (faults new))

-- WHAT IS SAID OF A CONFIGURATION

module _ {K : Type 0} (takes : K → List ℕ → K → Type 0) (catalog : View) (sink full : K) where
  -- what was written is a front of what is said of a catalog's links
  pub record LinksFront : Type 0 where
    pub written : List ℕ
    pub taken : takes sink written full
    pub front : IsFront written (links_text catalog)

-- the transcript of the statements that a seed generates, so many, and what is told of it
abbrev pub generated : View → ℕ → ℕ → Told
generated catalog seed count = transcript catalog (workload_schedule catalog seed count)

abbrev pub workload_summary : View → ℕ → ℕ → List ℕ
workload_summary catalog seed count = summary (played_count catalog.tables count) (generated catalog seed count).text

module _ {K : Type 0} (takes : K → List ℕ → K → Type 0) (catalog : View) (seed count : ℕ) (sink full : K) where
  -- no generated line breaks a rule, and what was written is a front of what is told of their transcript
  pub record SummaryFront : Type 0 where
    pub written : List ℕ
    pub unbroken : (generated catalog seed count).refusal ≡ None
    pub taken : takes sink written full
    pub front : IsFront written (workload_summary catalog seed count)

  -- it is the whole
  pub record SummaryWhole : Type 0 where
    pub unbroken : (generated catalog seed count).refusal ≡ None
    pub taken : takes sink (workload_summary catalog seed count) full

module _ {K : Type 0} (takes : K → List ℕ → K → Type 0) (write_faults : K → ℕ) (sink full : K) where
  -- generated statements were played on a configuration: what is told of their transcript was written, or nothing where a line broke a rule
  abbrev pub Worked : List ℕ → ℕ → ℕ → Outcome → Type 0
  Worked conf seed count (outcome.Conf rule) = Breaks conf rule × (full ≡ sink)
  Worked conf seed count outcome.Done = (catalog : View) × IsCatalog conf catalog × SummaryWhole takes catalog seed count sink full
  Worked conf seed count (outcome.Refused line rule) = (catalog : View) × IsCatalog conf catalog × ((generated catalog seed count).refusal ≡ Some (line, rule)) × (full ≡ sink)
  Worked conf seed count (outcome.Fault object.Output) = HasRisen (write_faults sink) (write_faults full) × (catalog : View) × IsCatalog conf catalog × SummaryFront takes catalog seed count sink full
  Worked conf seed count (outcome.Fault object.Input) = ⊥
  Worked conf seed count (outcome.Fault object.Conf) = ⊥
  Worked conf seed count outcome.NoMemory = full ≡ sink
  Worked conf seed count outcome.Usage = ⊥

  -- a configuration was checked: its links were written, or it breaks a rule, and then nothing was
  abbrev pub Checked : List ℕ → Outcome → Type 0
  Checked conf (outcome.Conf rule) = Breaks conf rule × (full ≡ sink)
  Checked conf outcome.Done = (catalog : View) × IsCatalog conf catalog × takes sink (links_text catalog) full
  Checked conf (outcome.Fault object.Output) = HasRisen (write_faults sink) (write_faults full) × (catalog : View) × IsCatalog conf catalog × LinksFront takes catalog sink full
  Checked conf (outcome.Fault object.Input) = ⊥
  Checked conf (outcome.Fault object.Conf) = ⊥
  Checked conf (outcome.Refused line rule) = ⊥
  Checked conf outcome.NoMemory = full ≡ sink
  Checked conf outcome.Usage = ⊥

-- WHAT A CALL OF THE PROGRAM READ AND WROTE

module _ {S K : Type 0} (gives : S → List ℕ → S → Type 0) (has_ended : S → Type 0) (takes : K → List ℕ → K → Type 0) (source rest : S) (sink full : K) where
  -- what was written is a front of the transcript of what was read, on this configuration
  pub record WritesFront (catalog : View) : Type 0 where
    pub read : List ℕ
    pub written : List ℕ
    pub given : gives source read rest
    pub taken : takes sink written full
    pub front : IsFront written (transcript catalog read).text

  -- it is the whole transcript of what was read, to the schedule's end, and no line of it breaks a rule
  pub record WritesWhole (catalog : View) : Type 0 where
    pub read : List ℕ
    pub written : List ℕ
    pub given : gives source read rest
    pub taken : takes sink written full
    pub whole : transcript catalog read ≡ record { text = written; refusal = None }
    pub ended : has_ended rest

  -- it is the transcript of the lines before this one, the first that breaks a rule
  pub record StopsAt (catalog : View) (line : ℕ) (rule : LineRule) : Type 0 where
    pub read : List ℕ
    pub written : List ℕ
    pub given : gives source read rest
    pub taken : takes sink written full
    pub stopped : transcript catalog read ≡ record { text = written; refusal = Some (line, rule) }

  -- the same of a session of packets: what was written is a front of what the client is sent for its bytes, in which each statement's answer is a plain session's
  pub record WiresFront (catalog : View) : Type 0 where
    pub read : List ℕ
    pub written : List ℕ
    pub exchanges : List Exchange
    pub left : List ℕ
    pub given : gives source read rest
    pub taken : takes sink written full
    pub sent : Sent read exchanges left
    pub front : IsFront written (sent_to exchanges left)
    pub solo : AreSolo catalog exchanges

  -- it is the whole, to the end of the client's bytes, or to the command or the packet that ends the session
  pub record WiresWhole (catalog : View) : Type 0 where
    pub read : List ℕ
    pub written : List ℕ
    pub exchanges : List Exchange
    pub left : List ℕ
    pub how : SessionEnd
    pub given : gives source read rest
    pub taken : takes sink written full
    pub sent : Sent read exchanges left
    pub whole : written ≡ sent_to exchanges left
    pub solo : AreSolo catalog exchanges
    pub over : IsOver how
    pub ends : EndsBy (has_ended rest) (first_packet 0 left) how

  -- nothing was read or written
  abbrev pub IsIdle : Type 0
  IsIdle = (rest ≡ source) × (full ≡ sink)

  -- by the form of the words
  abbrev pub FrontBy : Form → View → Type 0
  FrontBy (Check path) catalog = (rest ≡ source) × LinksFront takes catalog sink full
  FrontBy (Play path) catalog = WritesFront catalog
  FrontBy (Wire path) catalog = WiresFront catalog
  FrontBy (Workload path seed count) catalog = (rest ≡ source) × SummaryFront takes catalog seed count sink full

  abbrev pub WholeBy : Form → View → Type 0
  WholeBy (Check path) catalog = (rest ≡ source) × takes sink (links_text catalog) full
  WholeBy (Play path) catalog = WritesWhole catalog
  WholeBy (Wire path) catalog = WiresWhole catalog
  WholeBy (Workload path seed count) catalog = (rest ≡ source) × SummaryWhole takes catalog seed count sink full

  -- a line broke a rule: it is the transcript of those before it, and nothing of generated ones
  abbrev pub StopsBy : Form → View → ℕ → LineRule → Type 0
  StopsBy (Check path) catalog line rule = ⊥
  StopsBy (Play path) catalog line rule = StopsAt catalog line rule
  StopsBy (Wire path) catalog line rule = ⊥
  StopsBy (Workload path seed count) catalog line rule = (rest ≡ source) × ((generated catalog seed count).refusal ≡ Some (line, rule)) × (full ≡ sink)

-- THE CONFIGURATION

-- this is the text of the rule by which a file is refused; one that is too large has no contents
abbrev pub RefusedAs : Option (List ℕ) → List ℕ → Type 0
RefusedAs None rule = rule ≡ codes "too large"
RefusedAs (Some conf) rule = Breaks conf rule

module _ {F : Type 0} (holds : F → List ℕ → Option (List ℕ) → Type 0) (words : List (List ℕ)) (files : F) where
  -- the words have this form, and the file that they name has these bytes
  pub record IsStarted (form : Form) (conf : List ℕ) : Type 0 where
    pub form_is : form_of words ≡ Some form
    pub held : holds files (path_of form) (Some conf)

  -- the words have this form, and the file that they name is this configuration
  pub record IsConfigured (form : Form) (catalog : View) : Type 0 where
    pub conf : List ℕ
    pub started : IsStarted form conf
    pub configured : IsCatalog conf catalog

  -- the words name a file that is refused by this rule
  pub record IsRefused (rule : List ℕ) : Type 0 where
    pub form : Form
    pub form_is : form_of words ≡ Some form
    pub contents : Option (List ℕ)
    pub held : holds files (path_of form) contents
    pub refused : RefusedAs contents rule

-- THE WHOLE CALL

module _ {S K : Type 0} (gives : S → List ℕ → S → Type 0) (has_ended : S → Type 0) (read_faults : S → ℕ) (takes : K → List ℕ → K → Type 0) (write_faults : K → ℕ)
    (source rest : S) (sink full : K) where
  abbrev pub Played : View → PlayEnd → Type 0
  Played catalog how = Plays gives has_ended takes catalog source rest sink full how

  -- a session of packets ended so, for one of these reasons
  abbrev pub Wired : View → SessionEnd → Type 0
  Wired catalog how = Wires gives has_ended takes catalog source rest sink full how

  -- what the form asks for of a configuration, by how it ended, with its cause
  abbrev pub Does : View → Form → Outcome → Type 0
  Does catalog (Check path) how = ⊥
  Does catalog (Workload path seed count) how = ⊥
  Does catalog (Play path) outcome.Done = Played catalog end.Done
  Does catalog (Play path) (outcome.Refused line rule) = Played catalog (end.Refused line rule)
  Does catalog (Play path) (outcome.Fault object.Input) = HasRisen (read_faults source) (read_faults rest) × Played catalog end.ReadFault
  Does catalog (Play path) (outcome.Fault object.Output) = HasRisen (write_faults sink) (write_faults full) × Played catalog end.WriteFault
  Does catalog (Play path) outcome.NoMemory = Played catalog end.NoMemory
  Does catalog (Play path) (outcome.Fault object.Conf) = ⊥
  Does catalog (Play path) (outcome.Conf fault) = ⊥
  Does catalog (Play path) outcome.Usage = ⊥
  Does catalog (Wire path) outcome.Done = (how : SessionEnd) × IsOver how × Wired catalog how
  Does catalog (Wire path) (outcome.Fault object.Input) = HasRisen (read_faults source) (read_faults rest) × Wired catalog ends.ClientFault
  Does catalog (Wire path) (outcome.Fault object.Output) = HasRisen (write_faults sink) (write_faults full) × Wired catalog ends.ClientFault
  Does catalog (Wire path) outcome.NoMemory = Wired catalog ends.NoMemory
  Does catalog (Wire path) (outcome.Refused line rule) = ⊥
  Does catalog (Wire path) (outcome.Fault object.Conf) = ⊥
  Does catalog (Wire path) (outcome.Conf fault) = ⊥
  Does catalog (Wire path) outcome.Usage = ⊥

  -- the same on the bytes of a configuration: refused where it breaks a rule, and then nothing was read or written
  abbrev pub RunsOn : List ℕ → Form → Outcome → Type 0
  RunsOn conf form (outcome.Conf rule) = Breaks conf rule × IsIdle gives has_ended takes source rest sink full
  RunsOn conf form outcome.NoMemory = IsIdle gives has_ended takes source rest sink full ⊎ ((catalog : View) × IsCatalog conf catalog × Does catalog form outcome.NoMemory)
  RunsOn conf form outcome.Usage = ⊥
  RunsOn conf form how = (catalog : View) × IsCatalog conf catalog × Does catalog form how

  -- by the form of the words, on any configuration
  abbrev pub DoesOn : List ℕ → Form → Outcome → Type 0
  DoesOn conf (Check path) how = (rest ≡ source) × Checked takes write_faults sink full conf how
  DoesOn conf (Play path) how = RunsOn conf (Play path) how
  DoesOn conf (Wire path) how = RunsOn conf (Wire path) how
  DoesOn conf (Workload path seed count) how = (rest ≡ source) × Worked takes write_faults sink full conf seed count how

module _ {F S K : Type 0} (holds : F → List ℕ → Option (List ℕ) → Type 0) (file_faults : F → ℕ) (gives : S → List ℕ → S → Type 0) (has_ended : S → Type 0) (read_faults : S → ℕ)
    (takes : K → List ℕ → K → Type 0) (write_faults : K → ℕ) (words : List (List ℕ)) (files left : F) (source rest : S) (sink full : K) where
  abbrev Idle : Type 0
  Idle = IsIdle gives has_ended takes source rest sink full

  -- a form's work on the file that the words name
  abbrev pub Did : Outcome → Type 0
  Did how = (form : Form) × (conf : List ℕ) × IsStarted holds words files form conf × DoesOn gives has_ended read_faults takes write_faults source rest sink full conf form how

  -- how the call ended, with its cause, and what was read and written by then
  abbrev pub Runs : Outcome → Type 0
  Runs outcome.Usage = (form_of words ≡ None) × (left ≡ files) × Idle
  Runs (outcome.Conf rule) = IsRefused holds words files rule × Idle
  Runs (outcome.Fault object.Conf) = IsSome (form_of words) × HasRisen (file_faults files) (file_faults left) × Idle
  Runs (outcome.Fault object.Input) = Did (outcome.Fault object.Input)
  Runs (outcome.Fault object.Output) = Did (outcome.Fault object.Output)
  Runs outcome.NoMemory = IsSome (form_of words) × (Idle ⊎ Did outcome.NoMemory)
  Runs outcome.Done = Did outcome.Done
  Runs (outcome.Refused line rule) = Did (outcome.Refused line rule)

  -- nothing was read or written, or what was written is a front of what the words ask for
  abbrev pub IsFrontOf : Type 0
  IsFrontOf = Idle ⊎ ((form : Form) × (catalog : View) × IsConfigured holds words files form catalog × FrontBy gives has_ended takes source rest sink full form catalog)

  -- what was written is the whole of what the words ask for
  abbrev pub IsWhole : Type 0
  IsWhole = (form : Form) × (catalog : View) × IsConfigured holds words files form catalog × WholeBy gives has_ended takes source rest sink full form catalog

  -- a line of the schedule breaks a rule, the first that does
  abbrev pub IsStopped : ℕ → LineRule → Type 0
  IsStopped line rule = (form : Form) × (catalog : View) × IsConfigured holds words files form catalog × StopsBy gives has_ended takes source rest sink full form catalog line rule

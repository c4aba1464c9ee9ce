use Rattle.std.proofs.Common.{◌≡◌, ℕ, ◌++◌, List, [], Option, Some, None, refl, sym, ap, ◌∙◌, subst}
use Rattle.std.proofs.lemmas.List.{append-nil}
use Rattle.catalog.specs.Views.{View}
use Rattle.my_wire.specs.declared.memory.files.MemFiles.{MemFiles}
use Rattle.my_wire.specs.declared.memory.source.MemSource.{MemSource}
use Rattle.my_wire.specs.declared.memory.sink.MemSink.{MemSink}
use Rattle.my_wire.specs.Memory.{left, taken, Holds}
use Rattle.world_runs.specs.Run.{Told, transcript}
use Rattle.spider_cli.specs.Top.{Form, Play, form_of, WritesWhole, WholeBy, IsConfigured, IsWhole}

-- what a source and a sink in memory mean
abbrev pub gives : MemSource → List ℕ → MemSource → Type 0
gives s bytes t = left s ≡ bytes ++ left t

abbrev pub has_ended : MemSource → Type 0
has_ended s = left s ≡ []

abbrev pub takes : MemSink → List ℕ → MemSink → Type 0
takes s bytes t = taken t ≡ taken s ++ bytes

-- and how they count their faults
abbrev pub file_faults : MemFiles → ℕ
file_faults f = f.faults

abbrev pub read_faults : MemSource → ℕ
read_faults s = s.faults

abbrev pub write_faults : MemSink → ℕ
write_faults s = s.faults

-- over memory, the whole of the transcript was written, and no line of the schedule broke a rule
whole_in_memory : (catalog : View) (source rest : MemSource) (sink full : MemSink) → WritesWhole gives has_ended takes source rest sink full catalog
    → ((transcript catalog (left source)).refusal ≡ None) × (taken full ≡ taken sink ++ (transcript catalog (left source)).text)
whole_in_memory catalog source rest sink full w =
    let all : left source ≡ w.read = w.given ∙ ap (λ bs. w.read ++ bs) w.ended ∙ append-nil w.read in
    let told : transcript catalog (left source) ≡ record { text = w.written; refusal = None } = ap (transcript catalog) all ∙ w.whole in
    (ap (λ (t : Told). t.refusal) told, w.taken ∙ ap (λ bs. taken sink ++ bs) (sym (ap (λ (t : Told). t.text) told)))

same_form : (o : Option Form) (f g : Form) → o ≡ Some f → o ≡ Some g → f ≡ g
same_form o f g a b = cc

-- the same where the words ask to play: on the configuration that they name
pub played_whole : (words : List (List ℕ)) (files after : MemFiles) (source rest : MemSource) (sink full : MemSink) (path schedule : List ℕ)
    → IsWhole Holds file_faults gives has_ended read_faults takes write_faults words files after source rest sink full → form_of words ≡ Some (Play path) → left source ≡ schedule
    → (catalog : View) × IsConfigured Holds words files (Play path) catalog × ((transcript catalog schedule).refusal ≡ None) × (taken full ≡ taken sink ++ (transcript catalog schedule).text)
played_whole words files after source rest sink full path schedule (form, catalog, c, w) e s =
    let f = same_form (form_of words) form (Play path) c.started.form_is e in
    let v = whole_in_memory catalog source rest sink full (subst (λ x. WholeBy gives has_ended takes source rest sink full x catalog) f w) in (
      catalog,
      subst (λ x. IsConfigured Holds words files x catalog) f c,
      subst (λ bs. (transcript catalog bs).refusal ≡ None) s v.0,
      subst (λ bs. taken full ≡ taken sink ++ (transcript catalog bs).text) s v.1,
    )

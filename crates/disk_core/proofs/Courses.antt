-- How changing calls in turn go on.
use Rattle.std.proofs.Common.{◌≡◌, Bool, true, false, List, [], ◌∷◌, ◌++◌, refl, sym, ◌∙◌, ap, subst}
use Rattle.std.specs.Prelude.{Option, Some, Ok, Err, IsErr, is_ok, option_map, Result}
use Rattle.disk_core.specs.DiskModel.{DiskState}
use Rattle.disk_core.specs.Trial.{Trial, befallen, next_mishap, passed}
use Rattle.disk_core.specs.Steps.{Step, AsPlanned, Course, GoThrough, begins, does, setting_out, taken, taken_all}

-- one call
pub one_goes : {E : Type 0} (step : Step) (o o' : Option DiskState) (q q' : Option Trial) (result : Result Unit E) → AsPlanned step o o' q q' result → GoThrough (step ∷ []) o q o' q' (is_ok result)
one_goes step o o' q q' result planned s t is_s is_t = (
  planned.state t is_t ∙ ap (λ x. option_map (befallen (next_mishap t) (does step) (begins step)) x) is_s,
  planned.spent ∙ ap (λ x. option_map passed x) is_t,
  planned.answer t is_t,
)

in_two : (xs ys : List Step) (c : Course) → taken_all (xs ++ ys) c ≡ taken_all ys (taken_all xs c)
in_two [] ys c = refl
in_two (x ∷ xs) ys c = in_two xs ys (taken x c)

set_out : (c : Course) → c.well ≡ true → c ≡ setting_out c.state c.trial
set_out c well = ap (λ (b : Bool). record { state = c.state; trial = c.trial; well = b }) well

-- calls that succeeded, and then more
pub more_go : (xs ys : List Step) (o o1 o2 : Option DiskState) (q q1 q2 : Option Trial) (well last : Bool) → GoThrough xs o q o1 q1 well → well ≡ true → GoThrough ys o1 q1 o2 q2 last → GoThrough (xs ++ ys) o q o2 q2 last
more_go xs ys o o1 o2 q q1 q2 well last first succeeded then s t is_s is_t =
    let c = taken_all xs (setting_out s t) in
    let told = first s t is_s is_t in
    let next = then c.state c.trial told.0 told.1 in
    let whole : taken_all ys (setting_out c.state c.trial) ≡ taken_all (xs ++ ys) (setting_out s t) = ap (λ d. taken_all ys d) (sym (set_out c (sym told.2 ∙ succeeded))) ∙ sym (in_two xs ys (setting_out s t)) in
    (next.0 ∙ ap (λ (d : Course). Some d.state) whole, next.1 ∙ ap (λ (d : Course). Some d.trial) whole, next.2 ∙ ap (λ (d : Course). d.well) whole)

rests : (ys : List Step) (c : Course) → c.well ≡ false → taken_all ys c ≡ c
rests [] c failed = refl
rests (y ∷ ys) c failed = ap (λ (d : Course). taken_all ys d) step ∙ rests ys c failed
  where
    step : taken y c ≡ c
    step = rw failed

-- calls of which one failed: those behind it aren't made
pub rest_go : (xs ys : List Step) (o o1 : Option DiskState) (q q1 : Option Trial) (well last : Bool) → GoThrough xs o q o1 q1 well → well ≡ false → last ≡ false → GoThrough (xs ++ ys) o q o1 q1 last
rest_go xs ys o o1 q q1 well last first failed ended s t is_s is_t =
    let c = taken_all xs (setting_out s t) in
    let told = first s t is_s is_t in
    let whole : c ≡ taken_all (xs ++ ys) (setting_out s t) = sym (rests ys c (sym told.2 ∙ failed)) ∙ sym (in_two xs ys (setting_out s t)) in
    (told.0 ∙ ap (λ (d : Course). Some d.state) whole, told.1 ∙ ap (λ (d : Course). Some d.trial) whole, ended ∙ sym failed ∙ told.2 ∙ ap (λ (d : Course). d.well) whole)

pub not_ok : {T E : Type 0} (result : Result T E) → IsErr result → is_ok result ≡ false
not_ok (Ok x) is = absurd (cc is)
not_ok (Err e) is = refl

pub ends_as : (steps : List Step) (o o' : Option DiskState) (q q' : Option Trial) (well last : Bool) → GoThrough steps o q o' q' well → well ≡ last → GoThrough steps o q o' q' last
ends_as steps o o' q q' well last went is = subst (λ (b : Bool). GoThrough steps o q o' q' b) is went

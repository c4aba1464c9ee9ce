use Rattle.std.proofs.Common.{◌≡◌, Option, subst, ℕ, ◌+◌, ◌<◌, ◌≤◌, ◌++◌, List, [], ◌∷◌, Some, None, Bool, true, false, cond, length, Result, Ok, Err, OnOk, refl, sym, ap, ◌∙◌, append_assoc, arith}
use Rattle.std.specs.Prelude.{◌==◌, is_ok, if◌then◌else◌}
use Rattle.std.proofs.lemmas.List.{append-nil, length-append}
use Rattle.std.specs.Result.{IsErrAnd}
use Rattle.catalog.specs.Views.{View}
use Rattle.spider_cli.proofs.LineWords.{NotBroken, line_is_early}
use Rattle.spider_cli.specs.Playing.{NoEnd, run_from, told_by}
use Rattle.spider_cli.specs.Shown.{scene_of}
use Rattle.spider_cli.specs.declared.world_play.Player.{Player}
use Rattle.std.proofs.lemmas.Bool.Decides.{nat_tests}
use Rattle.world_runs.specs.declared.schedule.LineRule.{LineRule}
use Rattle.world_runs.specs.Schedule.{Line, Passed, Trace, Client, Broken, line_of, onto_first, onto_line, first_line, lines_of}
use Rattle.world_runs.specs.Run.{Scene, new_scene, Given, Run, after_line, line_does, line_step, spoken, spoken_onto, given_text, by_step, played_text, run_of, Told, told, end_of, with_front, transcript}

-- WHAT ONE LINE TELLS

pub front_of_line : (text line : List ℕ) (given : Given) (r : Run)
    → with_front (text ++ given_text given) (told r) ≡ with_front text (told (after_line (record { line = line; given = given }) r))
front_of_line text line given r =
    ap (λ t. record { text = t; refusal = r.refusal })
    (append_assoc text (given_text given) (played_text r.played ++ end_of r.refusal r.scene.world)
    ∙ ap (λ t. text ++ t) (sym (append_assoc (given_text given) (played_text r.played) (end_of r.refusal r.scene.world))))

-- a line that was played, as the scene's step says it
pub record Stepped (number : ℕ) (s : Scene) (line text : List ℕ) (v : Scene) (all : List ℕ) : Type 0 where
  pub given : Given
  pub step : line_step number s line ≡ Ok (v, given)
  pub told_all : all ≡ text ++ given_text given

stepped_by : (text : List ℕ) (r : Result (Scene × Given) LineRule) (v : Scene) (all : List ℕ) → spoken_onto text r ≡ Ok (v, all)
    → (given : Given) × (r ≡ Ok (v, given)) × (all ≡ text ++ given_text given)
stepped_by text (Err rule) v all h = absurd (cc)
stepped_by text (Ok s) v all h =
    let e : spoken text s ≡ (v, all) = cc in
    (s.1, ap (λ w. Ok (w, s.1)) (ap (λ (p : Scene × List ℕ). p.0) e), sym (ap (λ (p : Scene × List ℕ). p.1) e))

pub stepped : (number : ℕ) (s v : Scene) (line text all : List ℕ) → spoken_onto text (line_step number s line) ≡ Ok (v, all) → Stepped number s line text v all
stepped number s v line text all h = let t = stepped_by text (line_step number s line) v all h in record { given = t.0; step = t.1; told_all = t.2 }

pub stepped_told : (w v : Scene) (n : ℕ) (line text all : List ℕ) (lines : List (List ℕ)) → Stepped (n + 1) w line text v all
    → with_front all (told (run_of v (n + 1) lines)) ≡ with_front text (told (run_of w n (line ∷ lines)))
unfolding run_of
stepped_told w v n line text all lines s =
    ap (λ t. with_front t (told (run_of v (n + 1) lines))) s.told_all ∙ front_of_line text line s.given (run_of v (n + 1) lines)
    ∙ ap (λ x. with_front text (told (by_step line x (n + 1) w (λ u. run_of u (n + 1) lines)))) (sym s.step)

pub broken_told : (w : Scene) (n : ℕ) (line text : List ℕ) (rule : LineRule) (lines : List (List ℕ)) → line_step (n + 1) w line ≡ Err rule
    → record { text = text; refusal = Some (n + 1, rule) } ≡ with_front text (told (run_of w n (line ∷ lines)))
unfolding run_of
broken_told w n line text rule lines h =
    ap (λ t. record { text = t; refusal = Some (n + 1, rule) }) (sym (append-nil text))
    ∙ ap (λ s. with_front text (told (by_step line s (n + 1) w (λ u. run_of u (n + 1) lines)))) (sym h)

-- LIMITS

not_broken : (l : Line) (w : Scene) (s : Scene × Given) → line_does l w ≡ Ok s → NotBroken l
not_broken Passed w s h = tt
not_broken (Trace on) w s h = tt
not_broken (Client n text) w s h = tt
not_broken (Broken rule) w s h = absurd (cc)

-- a line that was played is one of the first million
pub few : (n : ℕ) (w : Scene) (line : List ℕ) (s : Scene × Given) → line_step n w line ≡ Ok s → n ≤ 1000000
unfolding line_step
few n w line s h = line_is_early n line (not_broken (line_of n line) w s h)

pub same_refusal : (text : List ℕ) (n line : ℕ) (r rule : LineRule) (w : Told) → n ≡ line → r ≡ rule → record { text = text; refusal = Some (n, r) } ≡ w → record { text = text; refusal = Some (line, rule) } ≡ w
same_refusal text n line r rule w e f h = sym (ap (λ m. record { text = text; refusal = Some (m, r) }) e ∙ ap (λ s. record { text = text; refusal = Some (line, s) }) f) ∙ h

-- LINES

pub lines_of-ended : (line rest : List ℕ) → NoEnd line → lines_of (line ++ (10 ∷ rest)) ≡ line ∷ lines_of rest
unfolding lines_of
lines_of-ended [] rest h = refl
lines_of-ended (b ∷ line) rest h = rw h.0 (ap (onto_first b) (lines_of-ended line rest h.1))

pub lines_of-last : (b : ℕ) (line : List ℕ) → NoEnd (b ∷ line) → lines_of (b ∷ line) ≡ (b ∷ line) ∷ []
unfolding lines_of
lines_of-last b [] h = rw h.0 refl
lines_of-last b (c ∷ line) h = rw h.0 (ap (onto_first b) (lines_of-last c line h.1))

pub NoEnd-append : (xs ys : List ℕ) → NoEnd xs → NoEnd ys → NoEnd (xs ++ ys)
NoEnd-append [] ys h k = k
NoEnd-append (x ∷ xs) ys h k = (h.0, NoEnd-append xs ys h.1 k)

-- THE FIRST LINE OF A PIECE

-- a line that was cut out of bytes
pub record Cut (bytes line more : List ℕ) : Type 0 where
  pub no_end : NoEnd line
  pub are : bytes ≡ line ++ (10 ∷ more)

same_cut : (a b : List ℕ × List ℕ) → Some a ≡ Some b → a ≡ b
same_cut a b e = cc

cut_first : (b : ℕ) (bytes : List ℕ) (t : Bool) (o : Option (List ℕ × List ℕ)) (line more : List ℕ) → (b == 10) ≡ t → ((l m : List ℕ) → o ≡ Some (l, m) → Cut bytes l m)
    → cond t (Some ([], bytes)) (onto_line (b ∷ []) o) ≡ Some (line, more) → Cut (b ∷ bytes) line more
cut_first b bytes true o line more e f h =
    let both = same_cut ([], bytes) (line, more) h in
    let none : [] ≡ line = ap (λ (p : List ℕ × List ℕ). p.0) both in
    let all : bytes ≡ more = ap (λ (p : List ℕ × List ℕ). p.1) both in
    let end : b ≡ 10 = grind (arith, nat_tests) in
    record { no_end = subst NoEnd none tt; are = ap (λ x. x ∷ bytes) end ∙ ap (λ x. 10 ∷ x) all ∙ ap (λ x. x ++ (10 ∷ more)) none }
cut_first b bytes false None line more e f h = absurd (cc)
cut_first b bytes false (Some cut) line more e f h =
    let c = f cut.0 cut.1 refl in
    let both = same_cut (b ∷ cut.0, cut.1) (line, more) h in
    let l : b ∷ cut.0 ≡ line = ap (λ (p : List ℕ × List ℕ). p.0) both in
    let m : cut.1 ≡ more = ap (λ (p : List ℕ × List ℕ). p.1) both in
    record { no_end = subst NoEnd l (e, c.no_end); are = ap (λ x. b ∷ x) c.are ∙ ap (λ x. b ∷ (cut.0 ++ (10 ∷ x))) m ∙ ap (λ x. x ++ (10 ∷ more)) l }

pub cut : (bytes line more : List ℕ) → first_line bytes ≡ Some (line, more) → Cut bytes line more
cut [] line more h = absurd (cc)
cut (b ∷ bytes) line more h = cut_first b bytes (b == 10) (first_line bytes) line more refl (λ l m e. cut bytes l m e) h

uncut_first : (b : ℕ) (bytes : List ℕ) (t : Bool) (o : Option (List ℕ × List ℕ)) → (b == 10) ≡ t → (o ≡ None → NoEnd bytes)
    → cond t (Some ([], bytes)) (onto_line (b ∷ []) o) ≡ None → NoEnd (b ∷ bytes)
uncut_first b bytes true o e f h = absurd (cc)
uncut_first b bytes false None e f h = (e, f refl)
uncut_first b bytes false (Some cut) e f h = absurd (cc)

pub uncut : (bytes : List ℕ) → first_line bytes ≡ None → NoEnd bytes
uncut [] h = tt
uncut (b ∷ bytes) h = uncut_first b bytes (b == 10) (first_line bytes) refl (uncut bytes) h

-- PLAYERS

-- what is grown where there was memory
pub if_grown : {T E A : Type 0} (r : Result T E) (new old more : List A) → new ≡ (if is_ok r then old ++ more else old) → OnOk r (new ≡ old ++ more)
if_grown (Ok x) new old more e = e
if_grown (Err f) new old more e = tt

pub on_ok : {T E P Q : Type 0} (r : Result T E) → OnOk r P → (P → Q) → OnOk r Q
on_ok (Ok x) p f = f p
on_ok (Err e) p f = tt

pub both_ok : {T E P Q R : Type 0} (r : Result T E) → OnOk r P → OnOk r Q → (P → Q → R) → OnOk r R
both_ok (Ok x) p q f = f p q
both_ok (Err e) p q f = tt

-- a line is ended: p holds it, q is after it
pub ended_told : (p q : Player) (text all : List ℕ) → NoEnd p.line.items → q.line.items ≡ []
    → ((lines : List (List ℕ)) → with_front all (told (run_from q lines)) ≡ with_front text (told (run_from p (p.line.items ∷ lines))))
    → (rest : List ℕ) → with_front all (told_by q rest) ≡ with_front text (told_by p (10 ∷ rest))
unfolding told_by
ended_told p q text all n e h rest =
    ap (λ l. with_front all (told (run_from q (lines_of (l ++ rest))))) e ∙ h (lines_of rest)
    ∙ ap (λ ls. with_front text (told (run_from p ls))) (sym (lines_of-ended p.line.items rest n))

pub ended_refused : (p : Player) (text : List ℕ) (t : Told) → NoEnd p.line.items
    → ((lines : List (List ℕ)) → t ≡ with_front text (told (run_from p (p.line.items ∷ lines))))
    → (rest : List ℕ) → t ≡ with_front text (told_by p (10 ∷ rest))
unfolding told_by
ended_refused p text t n h rest =
    h (lines_of rest) ∙ ap (λ ls. with_front text (told (run_from p ls))) (sym (lines_of-ended p.line.items rest n))

pub grown_told : (p q : Player) (text bytes : List ℕ) → q.line.items ≡ p.line.items ++ bytes → scene_of q.stage ≡ scene_of p.stage → q.number ≡ p.number
    → (rest : List ℕ) → with_front text (told_by q rest) ≡ with_front text (told_by p (bytes ++ rest))
unfolding told_by
grown_told p q text bytes l w n rest =
    ap (λ bs. with_front text (told (run_of (scene_of q.stage) q.number (lines_of (bs ++ rest))))) l
    ∙ ap (λ bs. with_front text (told (run_of (scene_of q.stage) q.number (lines_of bs)))) (append_assoc p.line.items bytes rest)
    ∙ ap (λ v. with_front text (told (run_of v q.number (lines_of (p.line.items ++ (bytes ++ rest)))))) w
    ∙ ap (λ k. with_front text (told (run_of (scene_of p.stage) k (lines_of (p.line.items ++ (bytes ++ rest)))))) n

-- a line that was cut out is taken, and then what is left
pub cut_told : (p : Player) (text : List ℕ) (t all : Told) (left line more rest : List ℕ) → Cut left line more
    → t ≡ with_front text (told_by p (line ++ (10 ∷ (more ++ rest)))) → with_front text (told_by p (left ++ rest)) ≡ all → t ≡ all
cut_told p text t all left line more rest c h k =
    h ∙ ap (λ bs. with_front text (told_by p bs)) (sym (append_assoc line (10 ∷ more) rest)) ∙ ap (λ bs. with_front text (told_by p (bs ++ rest))) (sym c.are) ∙ k

pub fresh_told : (p : Player) (catalog : View) → scene_of p.stage ≡ new_scene catalog → p.number ≡ 0 → p.line.items ≡ [] → (rest : List ℕ) → told_by p rest ≡ transcript catalog rest
unfolding told_by transcript
fresh_told p catalog w n l rest =
    ap (λ v. told (run_of v p.number (lines_of (p.line.items ++ rest)))) w
    ∙ ap (λ k. told (run_of (new_scene catalog) k (lines_of (p.line.items ++ rest)))) n
    ∙ ap (λ bs. told (run_of (new_scene catalog) 0 (lines_of (bs ++ rest)))) l

-- a callee's fault that is passed on
pub passed_on : {T S F : Type 0} (r : Result T F) (s : Result S F) (e f : F) → IsErrAnd r (λ y. y ≡ e) → s ≡ Err e → r ≡ Err f → s ≡ Err f
passed_on (Ok x) s e f q h k = absurd q
passed_on (Err y) s e f q h k = let m : y ≡ f = cc in h ∙ ap Err (sym q ∙ m)

pub nothing_left : (w : Scene) (n : ℕ) (text all : List ℕ) → all ≡ text ++ end_of None w.world → record { text = all; refusal = None } ≡ with_front text (told (run_of w n []))
unfolding run_of
nothing_left w n text all e = ap (λ t. record { text = t; refusal = None }) e

last_lines : (line : List ℕ) → NoEnd line → 0 < length line → lines_of (line ++ []) ≡ line ∷ []
last_lines [] n l = absurd (omega arith)
last_lines (b ∷ line) n l = ap lines_of (append-nil (b ∷ line)) ∙ lines_of-last b line n

pub last_told : (p : Player) (text : List ℕ) (t : Told) → NoEnd p.line.items → 0 < length p.line.items → t ≡ with_front text (told (run_from p (p.line.items ∷ []))) → t ≡ with_front text (told_by p [])
unfolding told_by
last_told p text t n l h = h ∙ ap (λ ls. with_front text (told (run_from p ls))) (sym (last_lines p.line.items n l))

pub none_told : (p : Player) (text : List ℕ) (t : Told) → p.line.items ≡ [] → t ≡ with_front text (told (run_from p [])) → t ≡ with_front text (told_by p [])
unfolding told_by lines_of
none_told p text t e h = h ∙ sym (ap (λ bs. with_front text (told (run_from p (lines_of (bs ++ []))))) e)

-- a line that was cut out leaves less
pub cut_shorter : (left line more : List ℕ) → Cut left line more → length more < length left
cut_shorter left line more c = let e = ap length c.are in let k = length-append line (10 ∷ more) in omega arith

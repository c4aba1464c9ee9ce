use Rattle.std.proofs.Common.{◌≡◌, ℕ, ◌++◌, List, [], Some, None, Result, Ok, Err, OnOk, take, drop, refl, sym, ap, ◌∙◌, subst, append_assoc}
use Rattle.std.proofs.lemmas.List.{append-nil, take-append-drop}
use Rattle.catalog.specs.Views.{View}
use Rattle.world_runs.specs.declared.schedule.LineRule.{LineRule}
use Rattle.spider_cli.specs.declared.world_play.Player.{Player}
use Rattle.spider_cli.specs.declared.world_play.PlayFault.{PlayFault}
use Rattle.spider_cli.specs.declared.world_play.PlayFault.TheVariants as fault
use Rattle.spider_cli.specs.declared.world_play.PlayEnd.{PlayEnd}
use Rattle.spider_cli.specs.declared.world_play.PlayEnd.TheVariants as end
use Rattle.world_runs.specs.Run.{Told, with_front, transcript}
use Rattle.my_wire.specs.Counts.{IsFront}
use Rattle.spider_cli.specs.Playing.{told_by, Plays}
use Rattle.spider_cli.specs.Showing.{Shows}

-- What was read and written so far. However the schedule goes on, what is written and what is told from here on is its transcript.
pub record Going {S K : Type 0} (gives : S → List ℕ → S → Type 0) (takes : K → List ℕ → K → Type 0) (catalog : View) (source now : S) (sink out : K) (player : Player) : Type 0 where
  pub read : List ℕ
  pub written : List ℕ
  pub given : gives source read now
  pub taken : takes sink written out
  pub goes_on : (rest : List ℕ) → with_front written (told_by player rest) ≡ transcript catalog (read ++ rest)

-- what a piece told, or the schedule's end
pub record Tells (player : Player) (piece text : List ℕ) (fed : Result (Unit {0}) PlayFault) : Type 0 where
  pub front : (fed ≡ Err fault.NoMemory → ⊥) → IsFront text (told_by player piece).text
  pub refused : (line : ℕ) (rule : LineRule) → fed ≡ Err (fault.Refused line rule) → told_by player piece ≡ record { text = text; refusal = Some (line, rule) }

refused_front : (text : List ℕ) (t : Told) (line : ℕ) (rule : LineRule) → record { text = text; refusal = Some (line, rule) } ≡ t → IsFront text t.text
refused_front text t line rule h = ([], append-nil text ∙ ap (λ (u : Told). u.text) h)

fed_front : (player new : Player) (piece text : List ℕ) (fed : Result (Unit {0}) PlayFault)
    → OnOk fed ((rest : List ℕ) → with_front text (told_by new rest) ≡ told_by player (piece ++ rest))
    → ((line : ℕ) (rule : LineRule) → fed ≡ Err (fault.Refused line rule) → (rest : List ℕ) → record { text = text; refusal = Some (line, rule) } ≡ told_by player (piece ++ rest))
    → (fed ≡ Err fault.NoMemory → ⊥) → IsFront text (told_by player (piece ++ [])).text
fed_front player new piece text (Ok done) h r n = ((told_by new []).text, ap (λ (u : Told). u.text) (h []))
fed_front player new piece text (Err fault.NoMemory) h r n = absurd (n refl)
fed_front player new piece text (Err (fault.Refused line rule)) h r n = refused_front text _ line rule (r line rule refl [])

pub fed_tells : (player new : Player) (piece text : List ℕ) (fed : Result (Unit {0}) PlayFault)
    → OnOk fed ((rest : List ℕ) → with_front text (told_by new rest) ≡ told_by player (piece ++ rest))
    → ((line : ℕ) (rule : LineRule) → fed ≡ Err (fault.Refused line rule) → (rest : List ℕ) → record { text = text; refusal = Some (line, rule) } ≡ told_by player (piece ++ rest))
    → Tells player piece text fed
fed_tells player new piece text fed h r = record {
  front = λ n. subst (λ bs. IsFront text (told_by player bs).text) (append-nil piece) (fed_front player new piece text fed h r n);
  refused = λ line rule e. sym (r line rule e [] ∙ ap (told_by player) (append-nil piece));
}

end_front : (player : Player) (text : List ℕ) (fed : Result (Unit {0}) PlayFault)
    → OnOk fed (record { text = text; refusal = None } ≡ told_by player [])
    → ((line : ℕ) (rule : LineRule) → fed ≡ Err (fault.Refused line rule) → record { text = text; refusal = Some (line, rule) } ≡ told_by player [])
    → (fed ≡ Err fault.NoMemory → ⊥) → IsFront text (told_by player []).text
end_front player text (Ok done) h r n = ([], append-nil text ∙ ap (λ (u : Told). u.text) h)
end_front player text (Err fault.NoMemory) h r n = absurd (n refl)
end_front player text (Err (fault.Refused line rule)) h r n = refused_front text _ line rule (r line rule refl)

pub end_tells : (player : Player) (text : List ℕ) (fed : Result (Unit {0}) PlayFault)
    → OnOk fed (record { text = text; refusal = None } ≡ told_by player [])
    → ((line : ℕ) (rule : LineRule) → fed ≡ Err (fault.Refused line rule) → record { text = text; refusal = Some (line, rule) } ≡ told_by player [])
    → Tells player [] text fed
end_tells player text fed h r = record { front = end_front player text fed h r; refused = λ line rule e. sym (r line rule e) }

-- the same, as the calls say it: the text was empty before
pub fed_from : (player new : Player) (piece first text : List ℕ) (fed : Result (Unit {0}) PlayFault) → first ≡ []
    → OnOk fed ((rest : List ℕ) → with_front text (told_by new rest) ≡ with_front first (told_by player (piece ++ rest)))
    → OnOk fed ((rest : List ℕ) → with_front text (told_by new rest) ≡ told_by player (piece ++ rest))
fed_from player new piece first text (Ok done) e h = λ rest. h rest ∙ ap (λ f. with_front f (told_by player (piece ++ rest))) e
fed_from player new piece first text (Err f) e h = tt

pub tells_fed : (player new : Player) (piece first text : List ℕ) (fed : Result (Unit {0}) PlayFault) → first ≡ []
    → OnOk fed ((rest : List ℕ) → with_front text (told_by new rest) ≡ with_front first (told_by player (piece ++ rest)))
    → ((line : ℕ) (rule : LineRule) → fed ≡ Err (fault.Refused line rule) → (rest : List ℕ) → record { text = text; refusal = Some (line, rule) } ≡ with_front first (told_by player (piece ++ rest)))
    → Tells player piece text fed
tells_fed player new piece first text fed e h r =
    fed_tells player new piece text fed (fed_from player new piece first text fed e h) (λ line rule f rest. r line rule f rest ∙ ap (λ x. with_front x (told_by player (piece ++ rest))) e)

pub end_from : (player : Player) (first text : List ℕ) (fed : Result (Unit {0}) PlayFault) → first ≡ []
    → OnOk fed (record { text = text; refusal = None } ≡ with_front first (told_by player [])) → OnOk fed (record { text = text; refusal = None } ≡ told_by player [])
end_from player first text (Ok done) e h = h ∙ ap (λ f. with_front f (told_by player [])) e
end_from player first text (Err f) e h = tt

pub tells_end : (player : Player) (first text : List ℕ) (fed : Result (Unit {0}) PlayFault) → first ≡ []
    → OnOk fed (record { text = text; refusal = None } ≡ with_front first (told_by player []))
    → ((line : ℕ) (rule : LineRule) → fed ≡ Err (fault.Refused line rule) → record { text = text; refusal = Some (line, rule) } ≡ with_front first (told_by player []))
    → Tells player [] text fed
tells_end player first text fed e h r = end_tells player text fed (end_from player first text fed e h) (λ line rule f. r line rule f ∙ ap (λ x. with_front x (told_by player [])) e)

-- what an Ok says
pub at_ok : {T E P : Type 0} (r : Result T E) (x : T) → r ≡ Ok x → OnOk r P → P
at_ok (Ok y) x e h = h
at_ok (Err f) x e h = absurd (cc)

-- a longer front, by parts
part_front : (written text whole all : List ℕ) (n : ℕ) → IsFront text whole → written ++ whole ≡ all → IsFront (written ++ take n text) all
part_front written text whole all n f e = (
  drop n text ++ f.0,
  append_assoc written (take n text) (drop n text ++ f.0)
      ∙ ap (λ xs. written ++ xs) (sym (append_assoc (take n text) (drop n text) f.0) ∙ ap (λ xs. xs ++ f.0) (take-append-drop n text) ∙ f.1) ∙ e,
)

module _ {S K : Type 0} (gives : S → List ℕ → S → Type 0) (has_ended : S → Type 0) (takes : K → List ℕ → K → Type 0) (faults : K → ℕ)
    (gives_nothing : (s : S) → gives s [] s) (gives_on : (s t u : S) (a b : List ℕ) → gives s a t → gives t b u → gives s (a ++ b) u)
    (takes_nothing : (s : K) → takes s [] s) (takes_on : (s t u : K) (a b : List ℕ) → takes s a t → takes t b u → takes s (a ++ b) u)
    (catalog : View) (source : S) (sink : K) where
  pub nothing_played : Plays gives has_ended takes catalog source source sink sink end.NoMemory
  nothing_played = record {
    read = [];
    written = [];
    given = gives_nothing source;
    taken = takes_nothing sink;
    front = ((transcript catalog []).text, refl);
    done = λ e. absurd (cc);
    refused = λ line rule e. absurd (cc);
  }

  pub begin : (player : Player) → ((rest : List ℕ) → told_by player rest ≡ transcript catalog rest) → Going gives takes catalog source source sink sink player
  begin player fresh = record { read = []; written = []; given = gives_nothing source; taken = takes_nothing sink; goes_on = fresh }

  -- a reading failed
  pub read_fault : (now after : S) (out : K) (player : Player) → Going gives takes catalog source now sink out player → gives now [] after → Plays gives has_ended takes catalog source after sink out end.ReadFault
  read_fault now after out player h g = record {
    read = h.read ++ [];
    written = h.written;
    given = gives_on source now after h.read [] h.given g;
    taken = h.taken;
    front = ((told_by player []).text, ap (λ (u : Told). u.text) (h.goes_on []));
    done = λ e. absurd (cc);
    refused = λ line rule e. absurd (cc);
  }

  -- a piece was fed, and its text written
  pub go_on : (now after : S) (out wrote : K) (player new : Player) (piece text : List ℕ) → Going gives takes catalog source now sink out player → gives now piece after
      → ((rest : List ℕ) → with_front text (told_by new rest) ≡ told_by player (piece ++ rest)) → takes out text wrote → Going gives takes catalog source after sink wrote new
  go_on now after out wrote player new piece text h g f t = record {
    read = h.read ++ piece;
    written = h.written ++ text;
    given = gives_on source now after h.read piece h.given g;
    taken = takes_on sink out wrote h.written text h.taken t;
    goes_on = λ rest.
        ap (λ x. record { text = x; refusal = (told_by new rest).refusal }) (append_assoc h.written text (told_by new rest).text)
        ∙ ap (with_front h.written) (f rest) ∙ h.goes_on (piece ++ rest) ∙ ap (transcript catalog) (sym (append_assoc h.read piece rest));
  }

  -- the play ends with a piece's text, or with the end's
  pub ended : (now after : S) (out wrote : K) (player : Player) (piece text left : List ℕ) (fed : Result (Unit {0}) PlayFault) (how : PlayEnd) → Going gives takes catalog source now sink out player → gives now piece after
      → Tells player piece text fed → Shows takes faults fed text left out wrote (Err how) → Plays gives has_ended takes catalog source after sink wrote how
  ended now after out wrote player piece text left fed end.NoMemory h g t s = record {
    read = h.read ++ piece;
    written = h.written;
    given = gives_on source now after h.read piece h.given g;
    taken = subst (takes sink h.written) (sym s.1) h.taken;
    front = ((told_by player piece).text, ap (λ (u : Told). u.text) (h.goes_on piece));
    done = λ e. absurd (cc);
    refused = λ line rule e. absurd (cc);
  }
  ended now after out wrote player piece text left fed end.WriteFault h g t s = record {
    read = h.read ++ piece;
    written = h.written ++ take s.1.count text;
    given = gives_on source now after h.read piece h.given g;
    taken = takes_on sink out wrote h.written (take s.1.count text) h.taken s.1.taken;
    front = part_front h.written text (told_by player piece).text (transcript catalog (h.read ++ piece)).text s.1.count (t.front s.0) (ap (λ (u : Told). u.text) (h.goes_on piece));
    done = λ e. absurd (cc);
    refused = λ line rule e. absurd (cc);
  }
  ended now after out wrote player piece text left fed (end.Refused line rule) h g t s =
      let all : transcript catalog (h.read ++ piece) ≡ record { text = h.written ++ text; refusal = Some (line, rule) } = sym (h.goes_on piece) ∙ ap (with_front h.written) (t.refused line rule s.0) in
      record {
        read = h.read ++ piece;
        written = h.written ++ text;
        given = gives_on source now after h.read piece h.given g;
        taken = takes_on sink out wrote h.written text h.taken s.1;
        front = ([], append-nil (h.written ++ text) ∙ sym (ap (λ (u : Told). u.text) all));
        done = λ e. absurd (cc);
        refused = λ l r e. let f : line ≡ l = cc in let k : rule ≡ r = cc in all ∙ ap (λ n. record { text = h.written ++ text; refusal = Some (n, rule) }) f ∙ ap (λ x. record { text = h.written ++ text; refusal = Some (l, x) }) k;
      }
  ended now after out wrote player piece text left fed end.Done h g t s = absurd s
  ended now after out wrote player piece text left fed end.ReadFault h g t s = absurd s

  -- the end's text is written
  pub done : (now after : S) (out wrote : K) (player : Player) (text : List ℕ) → Going gives takes catalog source now sink out player → gives now [] after → has_ended after
      → record { text = text; refusal = None } ≡ told_by player [] → takes out text wrote → Plays gives has_ended takes catalog source after sink wrote end.Done
  done now after out wrote player text h g d f t =
      let all : transcript catalog (h.read ++ []) ≡ record { text = h.written ++ text; refusal = None } = sym (h.goes_on []) ∙ ap (with_front h.written) (sym f) in
      record {
        read = h.read ++ [];
        written = h.written ++ text;
        given = gives_on source now after h.read [] h.given g;
        taken = takes_on sink out wrote h.written text h.taken t;
        front = ([], append-nil (h.written ++ text) ∙ sym (ap (λ (u : Told). u.text) all));
        done = λ e. (all, d);
        refused = λ line rule e. absurd (cc);
      }

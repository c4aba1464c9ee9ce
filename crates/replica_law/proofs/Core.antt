-- What a front may come to is a run of the protocol, so the laws at each server hold of it.
use Rattle.std.proofs.Common.{◌≡◌, Bool, true, false, List, [], ◌∷◌, ◌++◌, Option, Some, None, refl, sym, ap, ◌∙◌}
use Rattle.commit_protocol.specs.Backend.Request.{Scan, Change, Prepare}
use Rattle.commit_protocol.specs.Network.{Topology}
use Rattle.commit_protocol.specs.Protocol.{World, Move, happens, run}
use Rattle.commit_protocol.specs.Protocol.Move.{Uses, Sends, Writes, Recorded, Reopens}
use Rattle.commit_protocol.specs.Links.{Placement}
use Rattle.commit_protocol.specs.Replicas.{Front, Matter, booked, reopened, Next, Run}
use Rattle.commit_protocol.specs.Replicas.Matter.{Statements, Batch}
use Rattle.commit_protocol.specs.Replicas.Next.{Goes, Opens, Scans, Changes, Prepares, Decides, Copies, Is_recorded, Is_reopened, Falls, Rises, Moves_cursor, Completes}
use Rattle.commit_protocol.specs.Replicas.Run.{Stays, Steps}

-- the core makes one move, or none
abbrev pub IsCoreStep : Topology → World → World → Type 0
IsCoreStep f w v = (ms : List Move) × (v ≡ run f ms w)

moves : (f : Topology) (w : World) (m : Move) → IsCoreStep f w (happens f w m)
moves f w m = (m ∷ [], refl)

rests : (f : Topology) (w : World) → IsCoreStep f w w
rests f w = ([], refl)

booked_core : (v : Front) (w : World) (o : Option Matter) → (booked v w o).core ≡ w
booked_core v w None = refl
booked_core v w (Some (Statements notes)) = refl
booked_core v w (Some (Batch notes mark)) = refl

reopened_core : (v : Front) (w : World) (found : Bool) → (reopened v w found).core ≡ w
reopened_core v w true = booked_core v w v.writing
reopened_core v w false = refl

core_step : (f : Topology) (p : Placement) (v w : Front) → Next f p v w → IsCoreStep f v.core w.core
core_step f p v w (Goes m free) = moves f v.core m
core_step f p v w (Opens c x may past) = moves f v.core (Uses c x)
core_step f p v w (Scans c fp may line here) = moves f v.core (Sends c (Scan fp))
core_step f p v w (Changes c fp rows may line here) = moves f v.core (Sends c (Change fp rows))
core_step f p v w (Prepares c x may line) = moves f v.core (Sends c (Prepare x))
core_step f p v w (Decides x ms notes m) = moves f v.core (Writes x ms)
core_step f p v w (Copies x ms b m) = moves f v.core (Writes x ms)
core_step f p v w Is_recorded = (Recorded ∷ [], booked_core v (happens f v.core Recorded) v.writing)
core_step f p v w (Is_reopened found) = (Reopens found ∷ [], reopened_core v (happens f v.core (Reopens found)) found)
core_step f p v w (Falls l none other) = rests f v.core
core_step f p v w (Rises l none ng) = rests f v.core
core_step f p v w (Moves_cursor l u none recovering m) = rests f v.core
core_step f p v w (Completes l none recovering m) = rests f v.core

run_both : (f : Topology) (ms ns : List Move) (w : World) → run f (ms ++ ns) w ≡ run f ns (run f ms w)
run_both f [] ns w = refl
run_both f (m ∷ ms) ns w = run_both f ms ns (happens f w m)

pub core_runs : (f : Topology) (p : Placement) (u v : Front) → Run f p u v → IsCoreStep f u.core v.core
core_runs f p u v Stays = rests f u.core
core_runs f p u w (Steps {v = v} r n) =
    let before = core_runs f p u v r in
    let step = core_step f p v w n in
    (before.0 ++ step.0, step.1 ∙ ap (run f step.0) before.1 ∙ sym (run_both f before.0 step.0 u.core))

-- How a session of packets ends, over servers in memory.
use Rattle.std.proofs.Common.{◌≡◌, ◌⊎◌, inl, inr, ℕ, List, [], Option, Some, refl, sym, ap, ◌∙◌, subst}
use Rattle.catalog.specs.Views.{View}
use Rattle.branch_store.specs.Store.{Store}
use Rattle.my_wire.specs.Duplex.{Passes, Tells, IsFresh}
use Rattle.my_wire.specs.declared.duplex.Duplex.{Duplex}
use Rattle.my_wire.specs.declared.duplex.End.{End}
use Rattle.my_wire.specs.declared.duplex.End.TheVariants.{Source, Sink}
use Rattle.my_messages.specs.declared.session_end.SessionEnd.{SessionEnd}
use Rattle.my_messages.specs.declared.session_end.SessionEnd.TheVariants as ends
use Rattle.front_core.specs.declared.event.Event.TheVariants.{Open}
use Rattle.front_core.specs.declared.event.Outputs.TheVariants.{Given}
use Rattle.front_core.specs.Core.{Front, new_front, IsStep}
use Rattle.plain_sessions.specs.Held.{CanBeServed}
use Rattle.world_runs.specs.World.{new_stores}
use Rattle.front_node.specs.Asking.{Node}
use Rattle.front_node.specs.Session.{Served, sent_to, Visit, IsTurnedAway}
use Rattle.wire_law.specs.Backing.{asks_store}
use Rattle.wire_law.specs.Wire.{WiresAreSolo}
use Rattle.wire_play.specs.declared.serve.WireEnd.TheVariants.{Failed}
use Rattle.wire_play.specs.Wires.{Wires}
use Rattle.wire_play.specs.Wiring.{WireEnds}

-- a front with its servers' stores
abbrev pub Nodes : Type 0
Nodes = Node (List Store)

-- a new front over the stores as they start
abbrev pub start_of : View → Nodes
start_of catalog = record { front = new_front catalog; backs = new_stores catalog }

pub starts_at : (front : Front) (stores : List Store) → front ≡ new_front front.catalog → stores ≡ new_stores front.catalog → ◌≡◌ {A = Nodes} (record { front = front; backs = stores }) (start_of front.catalog)
starts_at front stores f s = ap (λ (x : List Store). record { front = front; backs = x }) s ∙ ap (λ (x : Front). record { front = x; backs = new_stores front.catalog }) f

module _ {S K : Type 0} (gives : S → List ℕ → S → Type 0) (gives_nothing : (s : S) → gives s [] s) (has_ended : S → Type 0) (read_faults : S → ℕ) (takes : K → List ℕ → K → Type 0)
    (takes_nothing : (k : K) → takes k [] k) (write_faults : K → ℕ) (catalog : View) where
  -- nothing was read, nor written
  pub nothing : (source left : S) (sink full : K) → left ≡ source → full ≡ sink → Wires gives has_ended takes catalog source left sink full ends.NoMemory
  nothing source left sink full e f = record {
    read = [];
    written = [];
    exchanges = [];
    rest = [];
    given = subst (λ (x : S). gives source [] x) (sym e) (gives_nothing source);
    taken = subst (λ (x : K). takes sink [] x) (sym f) (takes_nothing sink);
    sent = record { payloads = []; whole = refl; fit = tt; commands = tt; stays = tt };
    front = (sent_to [] [], refl);
    solo = λ few none. refl;
    ends = tt;
    whole = λ o. absurd o;
  }

  module _ (law : WiresAreSolo) (served : CanBeServed catalog) (first : Nodes) (starts : first ≡ start_of catalog) (d e : Duplex S K) (new : Nodes) where
    abbrev Visits : SessionEnd → Type 0
    Visits how =
        IsTurnedAway first d new e how
        ⊎ Visit (λ (x : Duplex S K) (given taken : List ℕ) (y : Duplex S K). Passes gives read_faults takes write_faults x given taken y) (λ (x : Duplex S K). has_ended x.source.now) asks_store 1 first d new e how

    abbrev Wired : SessionEnd → Type 0
    Wired how = Wires gives has_ended takes catalog d.source.now e.source.now d.sink.now e.sink.now how

    away : e ≡ d → Wired ends.NoMemory
    away same = nothing d.source.now e.source.now d.sink.now e.sink.now (ap (λ (x : Duplex S K). x.source.now) same) (ap (λ (x : Duplex S K). x.sink.now) same)

    -- a session on a new front over the stores as they start
    pub wired : (how : SessionEnd) → Visits how → Wired how
    wired how (inl a) = subst Wired (sym a.0) (away a.2)
    wired how (inr v) =
        let s = v.session in
        let opens = subst (λ (m : Nodes). IsStep m.front (Open 1) (Given v.opening) v.opened) starts v.opens in
        let over = subst (λ (m : Nodes). Served asks_store 1 (record { front = v.opened; backs = m.backs }) s.exchanges s.last) starts s.served in
        record {
          read = s.read;
          written = s.written;
          exchanges = s.exchanges;
          rest = s.rest;
          given = s.passed.source;
          taken = s.passed.sink;
          sent = s.sent;
          front = s.front;
          solo = law catalog v.opening v.opened s.exchanges s.last served opens over;
          ends = s.ends;
          whole = λ o. (s.whole o).0;
        }

    pub ended : (how end : SessionEnd) → how ≡ end → Visits how → Wired end
    ended how end is v = subst Wired is (wired how v)

    told : (given taken : List ℕ) (end : End) → IsFresh d → e.failed ≡ Some end → Passes gives read_faults takes write_faults d given taken e → Tells gives read_faults takes write_faults d e (Some end)
    told given taken end fresh f p = by_failed p.failed where
      by_failed : ((e.faults ≡ d.faults) × (e.failed ≡ d.failed)) ⊎ Tells gives read_faults takes write_faults d e e.failed → Tells gives read_faults takes write_faults d e (Some end)
      by_failed (inl same) = absurd (let a = sym f ∙ same.1 ∙ fresh.1 in cc)
      by_failed (inr t) = subst (Tells gives read_faults takes write_faults d e) f t

    -- the end that failed
    pub failed_at : (end : End) → IsFresh d → e.failed ≡ Some end → Visits ends.ClientFault
        → WireEnds gives has_ended read_faults takes write_faults catalog d.source.now e.source.now d.sink.now e.sink.now (Failed end)
    failed_at end fresh f (inl a) = absurd (let b = a.0 in cc)
    failed_at Source fresh f (inr v) = (told v.session.read v.session.written Source fresh f v.session.passed, wired ends.ClientFault (inr v))
    failed_at Sink fresh f (inr v) = (told v.session.read v.session.written Sink fresh f v.session.passed, wired ends.ClientFault (inr v))

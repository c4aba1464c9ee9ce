use Rattle.std.proofs.Common.{◌≡◌, ◌≢◌, ℕ, ◌++◌, ◌≤◌, List, [], ◌∷◌, length, take, refl, sym, ap, ◌∙◌, subst, append_assoc}
use Rattle.std.proofs.lemmas.List.{append-nil, take-append-drop}
use Rattle.std.proofs.lemmas.Grind.{flat_map-append}
use Rattle.std.specs.Prelude.{drop}
use Rattle.std.specs.List.{AllByRecursion}
use Rattle.my_wire.specs.Counts.{TakesFront, IsFront}
use Rattle.my_wire.specs.Packets.{Found, found, Wanting, Whole, Refused, Stream, packet, first_packet, most, AllFit, with_held}
use Rattle.my_wire.specs.declared.packet.WireFault.{WireFault}
use Rattle.my_wire.specs.declared.packet.WireFault.TheVariants.{TooLarge, OutOfOrder, NoMemory}
use Rattle.my_messages.specs.Reply.{Each}
use Rattle.my_messages.specs.declared.command.Command.TheVariants.{Quit}
use Rattle.my_messages.specs.declared.session_end.SessionEnd.{SessionEnd}
use Rattle.my_messages.specs.declared.session_end.SessionEnd.TheVariants as ends
use Rattle.sql_text.specs.declared.link.LinkRequest.{LinkRequest}
use Rattle.sql_text.specs.declared.link.LinkAnswer.{LinkAnswer}
use Rattle.front_node.specs.Asking.{Node}
use Rattle.front_node.specs.Session.{Exchange, exchange_bytes, status_by, status_after, session_bytes, commands_bytes, IsAbout, Sent, refusal_bytes, sent_to, Exchanged, Served, EndsBy, IsOver, Session}
use Rattle.front_node.specs.Serving.{Seat, HasServed, Went, Serving, at_command}
use Rattle.front_node.specs.declared.session.Step.TheVariants as steps

-- what a reader at a command finds
pub found_at : (s : Stream) → s ≡ at_command s.held → found s ≡ first_packet 0 s.held
found_at s h = ap found h

-- a reader that stands at a command
pub stands : (s : Stream) (rest : List ℕ) → s ≡ at_command rest → s ≡ at_command s.held
stands s rest h = h ∙ ap at_command (sym (ap (λ (r : Stream). r.held) h))

-- LISTS

AllFit-append : (ps qs : List (List ℕ)) → AllFit ps → AllFit qs → AllFit (ps ++ qs)
AllFit-append [] qs h k = k
AllFit-append (p ∷ ps) qs h k = (h.0, AllFit-append ps qs h.1 k)

Each-append : (xs : List Exchange) (ps : List (List ℕ)) (x : Exchange) (p : List ℕ) → Each IsAbout xs ps → IsAbout x p → Each IsAbout (xs ++ x ∷ []) (ps ++ p ∷ [])
Each-append [] [] x p h k = (k, tt)
Each-append (y ∷ xs) (q ∷ ps) x p h k = (h.0, Each-append xs ps x p h.1 k)
Each-append [] (q ∷ ps) x p h k = absurd h
Each-append (y ∷ xs) [] x p h k = absurd h

stays-append : (xs : List Exchange) (x : Exchange) → AllByRecursion (λ (y : Exchange). y.command ≢ Quit) xs → x.command ≢ Quit → AllByRecursion (λ (y : Exchange). y.command ≢ Quit) (xs ++ x ∷ [])
stays-append [] x h k = (k, tt)
stays-append (y ∷ xs) x h k = (h.0, stays-append xs x h.1 k)

-- THE CLIENT'S BYTES

-- one more command
sent_more : (bytes : List ℕ) (xs : List Exchange) (held rest payload : List ℕ) (x : Exchange) → Sent bytes xs held → held ≡ packet 0 payload ++ rest → length payload ≤ most → IsAbout x payload → x.command ≢ Quit
    → Sent bytes (xs ++ x ∷ []) rest
sent_more bytes xs held rest payload x h e fits about stays =
    let one : commands_bytes (h.payloads ++ payload ∷ []) ≡ commands_bytes h.payloads ++ packet 0 payload = flat_map-append (packet 0) h.payloads (payload ∷ []) ∙ ap (λ bs. commands_bytes h.payloads ++ bs) (append-nil (packet 0 payload)) in
    record {
      payloads = h.payloads ++ payload ∷ [];
      whole = h.whole ∙ ap (λ bs. commands_bytes h.payloads ++ bs) e ∙ sym (append_assoc (commands_bytes h.payloads) (packet 0 payload) rest) ∙ ap (λ bs. bs ++ rest) (sym one);
      fit = AllFit-append h.payloads (payload ∷ []) h.fit (fits, tt);
      commands = Each-append xs h.payloads x payload h.commands about;
      stays = stays-append xs x h.stays stays;
    }

-- more bytes
sent_on : (bytes piece : List ℕ) (xs : List Exchange) (held : List ℕ) → Sent bytes xs held → Sent (bytes ++ piece) xs (held ++ piece)
sent_on bytes piece xs held h = record {
  payloads = h.payloads;
  whole = ap (λ bs. bs ++ piece) h.whole ∙ append_assoc (commands_bytes h.payloads) held piece;
  fit = h.fit;
  commands = h.commands;
  stays = h.stays;
}

-- WHAT IS SAID

session_bytes-more : (status : ℕ) (xs : List Exchange) (x : Exchange) → session_bytes status (xs ++ x ∷ []) ≡ session_bytes status xs ++ exchange_bytes (status_after status xs) x.command x.answer
session_bytes-more status [] x = append-nil (exchange_bytes status x.command x.answer)
session_bytes-more status (y ∷ xs) x =
    ap (λ bs. exchange_bytes status y.command y.answer ++ bs) (session_bytes-more (status_by status y.answer) xs x)
    ∙ sym (append_assoc (exchange_bytes status y.command y.answer) (session_bytes (status_by status y.answer) xs) (exchange_bytes (status_after (status_by status y.answer) xs) x.command x.answer))

status_after-more : (status : ℕ) (xs : List Exchange) (x : Exchange) → status_after status (xs ++ x ∷ []) ≡ status_by (status_after status xs) x.answer
status_after-more status [] x = refl
status_after-more status (y ∷ xs) x = status_after-more (status_by status y.answer) xs x

module _ {B : Type 0} (asks : B → ℕ → LinkRequest → LinkAnswer → B → Type 0) (n : ℕ) where
  served_more : (old middle new : Node B) (xs : List Exchange) (x : Exchange) → Served asks n old xs middle → Exchanged asks n middle x.command x.answer new → Served asks n old (xs ++ x ∷ []) new
  served_more old middle new [] x h k = (new, subst (λ (m : Node B). Exchanged asks n m x.command x.answer new) h k, refl)
  served_more old middle new (y ∷ xs) x h k = (h.0, h.1, served_more h.0 middle new xs x h.2 k)

module _ {C B : Type 0} (passes : C → List ℕ → List ℕ → C → Type 0) (passes_nothing : (c : C) → passes c [] [] c)
    (passes_on : (s t u : C) (a b x y : List ℕ) → passes s a x t → passes t b y u → passes s (a ++ b) (x ++ y) u)
    (asks : B → ℕ → LinkRequest → LinkAnswer → B → Type 0) (n : ℕ) (first : Node B) (client : C) where
  -- a session begins
  pub serving_begins : (seat : Seat B) → seat.node ≡ first → seat.reader ≡ at_command [] → seat.out ≡ [] → seat.status ≡ 2 → Serving passes asks n first client seat client
  serving_begins seat node reader out status =
      let none : seat.reader.held ≡ [] = ap (λ (r : Stream). r.held) reader in
      record {
        read = [];
        written = [];
        exchanges = [];
        passed = passes_nothing client;
        sent = record { payloads = []; whole = sym none; fit = tt; commands = tt; stays = tt };
        reader = reader ∙ ap at_command (sym none);
        served = node;
        said = out;
        status = status;
      }

  -- a command is served
  pub serving_more : (old new : Seat B) (now : C) → Serving passes asks n first client old now → HasServed asks n old new → Serving passes asks n first client new now
  serving_more old new now h k =
      let x : Exchange = record { command = k.command; answer = k.answer } in
      let held : new.reader.held ≡ k.rest = ap (λ (r : Stream). r.held) k.reader in
      record {
        read = h.read;
        written = h.written;
        exchanges = h.exchanges ++ x ∷ [];
        passed = h.passed;
        sent = subst (Sent h.read (h.exchanges ++ x ∷ [])) (sym held) (sent_more h.read h.exchanges old.reader.held k.rest k.payload x h.sent k.stood k.fits k.is_command k.stays);
        reader = k.reader ∙ ap at_command (sym held);
        served = served_more asks n first old.node new.node h.exchanges x h.served k.exchanged;
        said =
            ap (λ bs. h.written ++ bs) k.out ∙ sym (append_assoc h.written old.out (exchange_bytes old.status k.command k.answer))
            ∙ ap (λ bs. bs ++ exchange_bytes old.status k.command k.answer) h.said
            ∙ ap (λ s. session_bytes 2 h.exchanges ++ exchange_bytes s k.command k.answer) h.status ∙ sym (session_bytes-more 2 h.exchanges x);
        status = k.status ∙ ap (λ s. status_by s k.answer) h.status ∙ sym (status_after-more 2 h.exchanges x);
      }

  -- what wasn't written is written
  pub serving_written : (old new : Seat B) (now then : C) → Serving passes asks n first client old now → passes now [] old.out then
      → new.node ≡ old.node → new.reader ≡ old.reader → new.out ≡ [] → new.status ≡ old.status → Serving passes asks n first client new then
  serving_written old new now then h p node reader out status = record {
    read = h.read;
    written = h.written ++ old.out;
    exchanges = h.exchanges;
    passed = subst (λ bs. passes client bs (h.written ++ old.out) then) (append-nil h.read) (passes_on client now then h.read [] h.written old.out h.passed p);
    sent = subst (λ (r : Stream). Sent h.read h.exchanges r.held) (sym reader) h.sent;
    reader = reader ∙ h.reader ∙ ap (λ (r : Stream). at_command r.held) (sym reader);
    served = subst (Served asks n first h.exchanges) (sym node) h.served;
    said = ap (λ bs. (h.written ++ old.out) ++ bs) out ∙ append-nil (h.written ++ old.out) ∙ h.said;
    status = status ∙ h.status;
  }

  -- more bytes come
  pub serving_fed : (old new : Seat B) (now then : C) (piece : List ℕ) → Serving passes asks n first client old now → passes now piece [] then
      → new.node ≡ old.node → new.reader ≡ with_held old.reader (old.reader.held ++ piece) → new.out ≡ old.out → new.status ≡ old.status → Serving passes asks n first client new then
  serving_fed old new now then piece h p node reader out status =
      let held : new.reader.held ≡ old.reader.held ++ piece = ap (λ (r : Stream). r.held) reader in
      record {
        read = h.read ++ piece;
        written = h.written;
        exchanges = h.exchanges;
        passed = subst (λ bs. passes client (h.read ++ piece) bs then) (append-nil h.written) (passes_on client now then h.read piece h.written [] h.passed p);
        sent = subst (Sent (h.read ++ piece) h.exchanges) (sym held) (sent_on h.read piece h.exchanges old.reader.held h.sent);
        reader = reader ∙ ap (λ (r : Stream). with_held r (old.reader.held ++ piece)) h.reader ∙ ap at_command (sym held);
        served = subst (Served asks n first h.exchanges) (sym node) h.served;
        said = ap (λ bs. h.written ++ bs) out ∙ h.said;
        status = status ∙ h.status;
      }

-- ENDS

-- a front of a front, and of more
front_take : (count : ℕ) (xs ys : List ℕ) → IsFront xs ys → IsFront (take count xs) ys
front_take count xs ys h = (drop count xs ++ h.0, sym (append_assoc (take count xs) (drop count xs) h.0) ∙ ap (λ zs. zs ++ h.0) (take-append-drop count xs) ∙ h.1)

fault_is_free : (has_ended : Type 0) (found : Found) → EndsBy has_ended found ends.ClientFault
fault_is_free has_ended Wanting = tt
fault_is_free has_ended (Whole payload rest) = tt
fault_is_free has_ended (Refused (TooLarge length)) = tt
fault_is_free has_ended (Refused (OutOfOrder expected found)) = tt
fault_is_free has_ended (Refused NoMemory) = tt

memory_is_free : (has_ended : Type 0) (found : Found) → EndsBy has_ended found ends.NoMemory
memory_is_free has_ended Wanting = tt
memory_is_free has_ended (Whole payload rest) = tt
memory_is_free has_ended (Refused (TooLarge length)) = tt
memory_is_free has_ended (Refused (OutOfOrder expected found)) = tt
memory_is_free has_ended (Refused NoMemory) = tt

refused_ends : (has_ended : Type 0) (fault : WireFault) (number : ℕ) → EndsBy ⊥ (Refused fault) (ends.Refused number) → EndsBy has_ended (Refused fault) (ends.Refused number)
refused_ends has_ended (TooLarge length) number h = h
refused_ends has_ended (OutOfOrder expected found) number h = h
refused_ends has_ended NoMemory number h = absurd h

module _ {C B : Type 0} (passes : C → List ℕ → List ℕ → C → Type 0) (has_ended : C → Type 0)
    (passes_on : (s t u : C) (a b x y : List ℕ) → passes s a x t → passes t b y u → passes s (a ++ b) (x ++ y) u)
    (asks : B → ℕ → LinkRequest → LinkAnswer → B → Type 0) (n : ℕ) (first : Node B) (client : C) where
  -- so much of what was to be written is written, and the session ends
  finish : (how : SessionEnd) (old : Seat B) (now then : C) (told : List ℕ) (new : Node B) → Serving passes asks n first client old now → passes now [] told then
      → IsFront told (old.out ++ refusal_bytes (first_packet 0 old.reader.held)) → EndsBy (has_ended then) (first_packet 0 old.reader.held) how
      → (IsOver how → (told ≡ old.out ++ refusal_bytes (first_packet 0 old.reader.held)) × (new ≡ old.node)) → Session passes has_ended asks n first client new then how
  finish how old now then told new h p front ends whole =
      let refusal = refusal_bytes (first_packet 0 old.reader.held) in
      let all : h.written ++ (old.out ++ refusal) ≡ sent_to h.exchanges old.reader.held = sym (append_assoc h.written old.out refusal) ∙ ap (λ bs. bs ++ refusal) h.said in
      record {
        read = h.read;
        written = h.written ++ told;
        exchanges = h.exchanges;
        rest = old.reader.held;
        last = old.node;
        passed = subst (λ bs. passes client bs (h.written ++ told) then) (append-nil h.read) (passes_on client now then h.read [] h.written told h.passed p);
        sent = h.sent;
        served = h.served;
        front = (front.0, append_assoc h.written told front.0 ∙ ap (λ bs. h.written ++ bs) front.1 ∙ all);
        ends = ends;
        whole = λ o. (ap (λ bs. h.written ++ bs) (whole o).0 ∙ all, (whole o).1);
      }

  -- writing failed
  pub fails : (old : Seat B) (now then : C) (new : Node B) → Serving passes asks n first client old now → TakesFront (λ s bytes t. passes s [] bytes t) now old.out then
      → Session passes has_ended asks n first client new then ends.ClientFault
  fails old now then new h t =
      finish ends.ClientFault old now then (take t.count old.out) new h t.taken (front_take t.count old.out _ (refusal_bytes (first_packet 0 old.reader.held), refl))
      (fault_is_free (has_ended then) (first_packet 0 old.reader.held)) (λ o. absurd o)

  -- reading failed, or memory ran out, with nothing to write
  pub stops : (how : SessionEnd) (old : Seat B) (now then : C) (new : Node B) → Serving passes asks n first client old now → passes now [] [] then → EndsBy (has_ended then) (first_packet 0 old.reader.held) how
      → (IsOver how → ⊥) → Session passes has_ended asks n first client new then how
  stops how old now then new h p e not_over = finish how old now then [] new h p (old.out ++ refusal_bytes (first_packet 0 old.reader.held), refl) e (λ o. absurd (not_over o))

  pub read_fails : (old : Seat B) (now then : C) (new : Node B) → Serving passes asks n first client old now → passes now [] [] then → Session passes has_ended asks n first client new then ends.ClientFault
  read_fails old now then new h p = stops ends.ClientFault old now then new h p (fault_is_free (has_ended then) (first_packet 0 old.reader.held)) (λ o. o)

  pub starves : (old : Seat B) (now then : C) (new : Node B) → Serving passes asks n first client old now → passes now [] [] then → Session passes has_ended asks n first client new then ends.NoMemory
  starves old now then new h p = stops ends.NoMemory old now then new h p (memory_is_free (has_ended then) (first_packet 0 old.reader.held)) (λ o. o)

  -- the client's bytes ended before a whole packet
  pub input_ends : (old : Seat B) (now then : C) → Serving passes asks n first client old now → passes now [] [] then → old.out ≡ [] → first_packet 0 old.reader.held ≡ Wanting → has_ended then
      → Session passes has_ended asks n first client old.node then ends.Closed
  input_ends old now then h p out w e =
      let none : [] ≡ old.out ++ refusal_bytes (first_packet 0 old.reader.held) = sym (ap (λ bs. bs ++ refusal_bytes (first_packet 0 old.reader.held)) out ∙ ap refusal_bytes w) in
      finish ends.Closed old now then [] old.node h p ([], none) (subst (λ f. EndsBy (has_ended then) f ends.Closed) (sym w) e) (λ o. (none, refl))

  -- what is to be written as a session ends
  went_front : (how : SessionEnd) (old new : Seat B) → Went asks n old (steps.Ended how) new → IsFront new.out (old.out ++ refusal_bytes (first_packet 0 old.reader.held))
  went_front ends.Closed old new w = (refusal_bytes (first_packet 0 old.reader.held), ap (λ bs. bs ++ refusal_bytes (first_packet 0 old.reader.held)) w.4)
  went_front (ends.Refused number) old new w = ([], append-nil new.out ∙ w.3 ∙ ap (λ f. old.out ++ refusal_bytes f) (sym w.1))
  went_front ends.NoMemory old new w = (refusal_bytes (first_packet 0 old.reader.held), ap (λ bs. bs ++ refusal_bytes (first_packet 0 old.reader.held)) w)
  went_front ends.ClientFault old new w = absurd w

  -- the session ended, and all was written
  pub ended : (how : SessionEnd) (old new : Seat B) (now then : C) → Serving passes asks n first client old now → Went asks n old (steps.Ended how) new → passes now [] new.out then
      → Session passes has_ended asks n first client new.node then how
  ended ends.Closed old new now then h w p =
      let quiet : refusal_bytes (first_packet 0 old.reader.held) ≡ [] = ap refusal_bytes w.2 in
      let all : new.out ≡ old.out ++ refusal_bytes (first_packet 0 old.reader.held) = w.4 ∙ sym (ap (λ bs. old.out ++ bs) quiet ∙ append-nil old.out) in
      finish ends.Closed old now then new.out new.node h p (went_front ends.Closed old new w) (subst (λ f. EndsBy (has_ended then) f ends.Closed) (sym w.2) w.3) (λ o. (all, w.5))
  ended (ends.Refused number) old new now then h w p =
      let all : new.out ≡ old.out ++ refusal_bytes (first_packet 0 old.reader.held) = w.3 ∙ ap (λ f. old.out ++ refusal_bytes f) (sym w.1) in
      finish (ends.Refused number) old now then new.out new.node h p (went_front (ends.Refused number) old new w)
      (subst (λ f. EndsBy (has_ended then) f (ends.Refused number)) (sym w.1) (refused_ends (has_ended then) w.0 number w.2)) (λ o. (all, w.4))
  ended ends.NoMemory old new now then h w p =
      finish ends.NoMemory old now then new.out new.node h p (went_front ends.NoMemory old new w) (memory_is_free (has_ended then) (first_packet 0 old.reader.held)) (λ o. absurd o)
  ended ends.ClientFault old new now then h w p = absurd w

  -- the session ended, and writing failed
  pub ended_failing : (how : SessionEnd) (old new : Seat B) (now then : C) (node : Node B) → Serving passes asks n first client old now → Went asks n old (steps.Ended how) new
      → TakesFront (λ s bytes t. passes s [] bytes t) now new.out then → Session passes has_ended asks n first client node then ends.ClientFault
  ended_failing how old new now then node h w t =
      finish ends.ClientFault old now then (take t.count new.out) node h t.taken (front_take t.count new.out _ (went_front how old new w)) (fault_is_free (has_ended then) (first_packet 0 old.reader.held)) (λ o. absurd o)

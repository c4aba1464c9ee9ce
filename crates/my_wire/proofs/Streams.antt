-- A stream is packets in one way, and a reader finds them.
use Rattle.std.proofs.Common.{◌≡◌, ◌≢◌, ℕ, ◌+◌, ◌*◌, ◌/◌, ◌%◌, ◌^◌, ◌<◌, ◌≤◌, ◌⊎◌, Bool, false, cond, nat_lt, ◌==◌, List, [], ◌∷◌, ◌++◌, length, take, drop, refl, sym, ap, subst, ◌∙◌, append_assoc, inl, inr, arith, lt-ltb, le-ltb, eq-eqb, ne_eqb}
use Rattle.std.proofs.lemmas.Bool.{ltb-true, ltb-false, eqb-true, eqb-false}
use Rattle.std.proofs.lemmas.List.{length-append, length-take, take_at, drop_at, take-append-drop, append-nil}
use Rattle.byteorder.specs.Endian.{little_number, little_bytes}
use Rattle.byteorder.specs.Numbers.{little_number-reads_back}
use Rattle.my_wire.specs.declared.packet.WireFault.{WireFault}
use Rattle.my_wire.specs.declared.packet.WireFault.TheVariants.{TooLarge, OutOfOrder, NoMemory}
use Rattle.my_wire.specs.Grammar.{IsBytes}
use Rattle.my_wire.specs.Packets.{most, next, packet, packets, next_after, Wanting, Whole, Refused, headed, first_packet, IsRefused, AllFit, HasGiven, Splits, Stream, given, with_held}
use Rattle.my_wire.proofs.Fields.{IsBytes-append, IsBytes-rest}
use Rattle.my_wire.proofs.Lenencs.{chosen}

-- three bytes are the lowest first bytes of their number
pub little_three : (a b c : ℕ) (more : List ℕ) → a < 256 → b < 256 → c < 256 → little_bytes 3 (little_number 3 (a ∷ b ∷ c ∷ more)) ≡ a ∷ b ∷ c ∷ []
little_three a b c more p q r =
    let n = a + 256 * (b + 256 * (c + 256 * 0)) in
    let x : n % 256 ≡ a = omega arith in
    let y : n / 256 % 256 ≡ b = omega arith in
    let z : n / 65536 % 256 ≡ c = omega arith in
    λ i. x i ∷ y i ∷ z i ∷ []

pub little_fits : (a b c : ℕ) (more : List ℕ) → a < 256 → b < 256 → c < 256 → little_number 3 (a ∷ b ∷ c ∷ more) < 2 ^ 24
little_fits a b c more p q r = omega arith

-- what stands behind a header
headed_whole : (expected n seq : ℕ) (more payload rest : List ℕ) → headed expected n seq more ≡ Whole payload rest
    → (n ≤ most) × (seq ≡ expected) × (length payload ≡ n) × (more ≡ payload ++ rest)
headed_whole expected n seq more payload rest e =
    elim (chosen (nat_lt most n) (Refused (TooLarge n)) (cond (seq == expected) (cond (nat_lt (length more) n) Wanting (Whole (take n more) (drop n more))) (Refused (OutOfOrder expected seq))) (Whole payload rest) e) [
      | inl h ↦ absurd (let k : Refused (TooLarge n) ≡ Whole payload rest = h.1 in cc)
      | inr h ↦ elim (chosen (seq == expected) (cond (nat_lt (length more) n) Wanting (Whole (take n more) (drop n more))) (Refused (OutOfOrder expected seq)) (Whole payload rest) h.1) [
        | inr i ↦ absurd (let k : Refused (OutOfOrder expected seq) ≡ Whole payload rest = i.1 in cc)
        | inl i ↦ elim (chosen (nat_lt (length more) n) Wanting (Whole (take n more) (drop n more)) (Whole payload rest) i.1) [
          | inl j ↦ absurd (let k : Wanting ≡ Whole payload rest = j.1 in cc)
          | inr j ↦
              let k : Whole (take n more) (drop n more) ≡ Whole payload rest = j.1 in
              let front : take n more ≡ payload = cc in
              let after : drop n more ≡ rest = cc in
              let long = ltb-false (length more) n j.0 in (
                ltb-false most n h.0,
                eqb-true seq expected i.0,
                sym (ap length front) ∙ (let l = length-take n more in omega arith),
                sym (take-append-drop n more) ∙ ap (λ (l : List ℕ). l ++ drop n more) front ∙ ap (λ (l : List ℕ). payload ++ l) after,
              )
        ]
      ]
    ]

headed_refused : (expected n seq : ℕ) (more : List ℕ) (fault : WireFault) → headed expected n seq more ≡ Refused fault
    → ((fault ≡ TooLarge n) × (most < n)) ⊎ ((fault ≡ OutOfOrder expected seq) × (n ≤ most) × (seq ≢ expected))
headed_refused expected n seq more fault e =
    elim (chosen (nat_lt most n) (Refused (TooLarge n)) (cond (seq == expected) (cond (nat_lt (length more) n) Wanting (Whole (take n more) (drop n more))) (Refused (OutOfOrder expected seq))) (Refused fault) e) [
      | inl h ↦ let k : Refused (TooLarge n) ≡ Refused fault = h.1 in inl (cc, ltb-true most n h.0)
      | inr h ↦ elim (chosen (seq == expected) (cond (nat_lt (length more) n) Wanting (Whole (take n more) (drop n more))) (Refused (OutOfOrder expected seq)) (Refused fault) h.1) [
        | inr i ↦ let k : Refused (OutOfOrder expected seq) ≡ Refused fault = i.1 in inr (cc, ltb-false most n h.0, eqb-false seq expected i.0)
        | inl i ↦ elim (chosen (nat_lt (length more) n) Wanting (Whole (take n more) (drop n more)) (Refused fault) i.1) [
          | inl j ↦ absurd (let k : Wanting ≡ Refused fault = j.1 in cc)
          | inr j ↦ absurd (let k : Whole (take n more) (drop n more) ≡ Refused fault = j.1 in cc)
        ]
      ]
    ]

pub packet_found : (expected : ℕ) (bytes payload rest : List ℕ) → IsBytes bytes → first_packet expected bytes ≡ Whole payload rest → (bytes ≡ packet expected payload ++ rest) × (length payload ≤ most)
packet_found expected [] payload rest fits e = absurd cc
packet_found expected (a ∷ []) payload rest fits e = absurd cc
packet_found expected (a ∷ b ∷ []) payload rest fits e = absurd cc
packet_found expected (a ∷ b ∷ c ∷ []) payload rest fits e = absurd cc
packet_found expected (a ∷ b ∷ c ∷ seq ∷ more) payload rest fits e =
    let n = little_number 3 (a ∷ b ∷ c ∷ seq ∷ more) in
    let four : nat_lt (length (a ∷ b ∷ c ∷ seq ∷ more)) 4 ≡ false = le-ltb (length (a ∷ b ∷ c ∷ seq ∷ more)) 4 (omega arith) in
    let f : headed expected n seq more ≡ Whole payload rest = sym (ap (λ (t : Bool). cond t Wanting (headed expected n seq more)) four) ∙ e in
    let h = headed_whole expected n seq more payload rest f in
    let cells : little_bytes 3 (length payload) ≡ a ∷ b ∷ c ∷ [] = ap (little_bytes 3) h.2 ∙ little_three a b c (seq ∷ more) fits.0 fits.1.0 fits.1.1.0 in (
      ap (λ (l : List ℕ). a ∷ b ∷ c ∷ seq ∷ l) h.3 ∙ ap (λ (s : ℕ). a ∷ b ∷ c ∷ s ∷ (payload ++ rest)) h.1 ∙ ap (λ (l : List ℕ). l ++ expected ∷ (payload ++ rest)) (sym cells),
      let le = h.0 in let sized = h.2 in omega arith,
    )

pub packet_again : (expected : ℕ) (payload rest : List ℕ) → length payload ≤ most → first_packet expected (packet expected payload ++ rest) ≡ Whole payload rest
packet_again expected payload rest le =
    let n = length payload in
    let value : little_number 3 (packet expected payload ++ rest) ≡ n = little_number-reads_back 3 n (expected ∷ (payload ++ rest)) (omega arith) in
    let four : nat_lt (length (packet expected payload ++ rest)) 4 ≡ false = le-ltb (length (packet expected payload ++ rest)) 4 (omega arith) in
    let long : nat_lt (length (payload ++ rest)) n ≡ false = le-ltb (length (payload ++ rest)) n (omega (arith, length-append payload rest)) in
    ap (λ (t : Bool). cond t Wanting (headed expected (little_number 3 (packet expected payload ++ rest)) expected (payload ++ rest))) four
    ∙ ap (λ (m : ℕ). headed expected m expected (payload ++ rest)) value
    ∙ ap (λ (t : Bool). cond t (Refused (TooLarge n)) (cond (expected == expected) (cond (nat_lt (length (payload ++ rest)) n) Wanting (Whole (take n (payload ++ rest)) (drop n (payload ++ rest)))) (Refused (OutOfOrder expected expected)))) (le-ltb most n le)
    ∙ ap (λ (t : Bool). cond t (cond (nat_lt (length (payload ++ rest)) n) Wanting (Whole (take n (payload ++ rest)) (drop n (payload ++ rest)))) (Refused (OutOfOrder expected expected))) (eq-eqb expected expected refl)
    ∙ ap (λ (t : Bool). cond t Wanting (Whole (take n (payload ++ rest)) (drop n (payload ++ rest)))) long
    ∙ ap (λ (l : List ℕ). Whole l (drop n (payload ++ rest))) (take_at payload rest n refl)
    ∙ ap (λ (l : List ℕ). Whole payload l) (drop_at payload rest n refl)

pub refusal_found : (expected : ℕ) (bytes : List ℕ) (fault : WireFault) → IsBytes bytes → first_packet expected bytes ≡ Refused fault → IsRefused expected bytes fault
refusal_found expected [] fault fits e = absurd cc
refusal_found expected (a ∷ []) fault fits e = absurd cc
refusal_found expected (a ∷ b ∷ []) fault fits e = absurd cc
refusal_found expected (a ∷ b ∷ c ∷ []) fault fits e = absurd cc
refusal_found expected (a ∷ b ∷ c ∷ seq ∷ more) fault fits e =
    let n = little_number 3 (a ∷ b ∷ c ∷ seq ∷ more) in
    let four : nat_lt (length (a ∷ b ∷ c ∷ seq ∷ more)) 4 ≡ false = le-ltb (length (a ∷ b ∷ c ∷ seq ∷ more)) 4 (omega arith) in
    let f : headed expected n seq more ≡ Refused fault = sym (ap (λ (t : Bool). cond t Wanting (headed expected n seq more)) four) ∙ e in
    let cells = little_three a b c (seq ∷ more) fits.0 fits.1.0 fits.1.1.0 in
    let whole : a ∷ b ∷ c ∷ seq ∷ more ≡ little_bytes 3 n ++ seq ∷ more = ap (λ (l : List ℕ). l ++ seq ∷ more) (sym cells) in
    elim (headed_refused expected n seq more fault f) [
      | inl h ↦ subst (IsRefused expected (a ∷ b ∷ c ∷ seq ∷ more)) (sym h.0) (seq, more, whole, h.1, little_fits a b c (seq ∷ more) fits.0 fits.1.0 fits.1.1.0)
      | inr h ↦ subst (IsRefused expected (a ∷ b ∷ c ∷ seq ∷ more)) (sym h.0) (n, more, whole, h.1, refl, h.2)
    ]

-- a header is read as it was written
header_again : (expected n seq : ℕ) (more : List ℕ) → n < 2 ^ 24 → first_packet expected (little_bytes 3 n ++ seq ∷ more) ≡ headed expected n seq more
header_again expected n seq more lt =
    let value : little_number 3 (little_bytes 3 n ++ seq ∷ more) ≡ n = little_number-reads_back 3 n (seq ∷ more) (omega arith) in
    let four : nat_lt (length (little_bytes 3 n ++ seq ∷ more)) 4 ≡ false = le-ltb (length (little_bytes 3 n ++ seq ∷ more)) 4 (omega arith) in
    ap (λ (t : Bool). cond t Wanting (headed expected (little_number 3 (little_bytes 3 n ++ seq ∷ more)) seq more)) four ∙ ap (λ (m : ℕ). headed expected m seq more) value

pub refusal_again : (expected : ℕ) (bytes : List ℕ) (fault : WireFault) → IsRefused expected bytes fault → first_packet expected bytes ≡ Refused fault
refusal_again expected bytes (TooLarge n) h =
    let seq = h.0 in
    let more = h.1 in
    ap (first_packet expected) h.2 ∙ header_again expected n seq more h.4
    ∙ ap (λ (t : Bool). cond t (Refused (TooLarge n)) (cond (seq == expected) (cond (nat_lt (length more) n) Wanting (Whole (take n more) (drop n more))) (Refused (OutOfOrder expected seq)))) (lt-ltb most n h.3)
refusal_again expected bytes (OutOfOrder wanted seq) h =
    let n = h.0 in
    let more = h.1 in
    let le = h.3 in
    ap (first_packet expected) h.2 ∙ header_again expected n seq more (omega arith)
    ∙ ap (λ (t : Bool). cond t (Refused (TooLarge n)) (cond (seq == expected) (cond (nat_lt (length more) n) Wanting (Whole (take n more) (drop n more))) (Refused (OutOfOrder expected seq)))) (le-ltb most n le)
    ∙ ap (λ (t : Bool). cond t (cond (nat_lt (length more) n) Wanting (Whole (take n more) (drop n more))) (Refused (OutOfOrder expected seq))) (ne_eqb seq expected h.5)
    ∙ ap (λ (m : ℕ). Refused (OutOfOrder m seq)) (sym h.4)
refusal_again expected bytes NoMemory h = absurd h

-- ---- the whole stream

pub packets-append : (seq : ℕ) (a b : List (List ℕ)) → packets seq (a ++ b) ≡ packets seq a ++ packets (next_after seq a) b
packets-append seq [] b = refl
packets-append seq (p ∷ a) b = ap (λ (l : List ℕ). packet seq p ++ l) (packets-append (next seq) a b) ∙ sym (append_assoc (packet seq p) (packets (next seq) a) (packets (next_after (next seq) a) b))

pub next_after-append : (seq : ℕ) (a b : List (List ℕ)) → next_after seq (a ++ b) ≡ next_after (next_after seq a) b
next_after-append seq [] b = refl
next_after-append seq (p ∷ a) b = next_after-append (next seq) a b

AllFit-append : (a : List (List ℕ)) (p : List ℕ) → AllFit a → length p ≤ most → AllFit (a ++ p ∷ [])
AllFit-append [] p h le = (le, tt)
AllFit-append (x ∷ a) p h le = (h.0, AllFit-append a p h.1 le)

pub fed_on : (first : ℕ) (stream : List ℕ) (payloads : List (List ℕ)) (s : Stream) (piece : List ℕ) → IsBytes piece → HasGiven first stream payloads s → HasGiven first (stream ++ piece) payloads (with_held s (s.held ++ piece))
fed_on first stream payloads s piece fits h = record {
  are_bytes = IsBytes-append stream piece h.are_bytes fits;
  whole = ap (λ (l : List ℕ). l ++ piece) h.whole ∙ append_assoc (packets first payloads) s.held piece;
  number = h.number;
  fit = h.fit;
}

pub gave_on : (first : ℕ) (stream : List ℕ) (payloads : List (List ℕ)) (s : Stream) (payload rest : List ℕ) → first_packet s.expected s.held ≡ Whole payload rest → HasGiven first stream payloads s
    → HasGiven first stream (payloads ++ payload ∷ []) (given s rest)
gave_on first stream payloads s payload rest e h =
    let held_fits = IsBytes-rest (packets first payloads) s.held (subst IsBytes h.whole h.are_bytes) in
    let f = packet_found s.expected s.held payload rest held_fits e in
    record {
      are_bytes = h.are_bytes;
      whole =
          h.whole ∙ ap (λ (l : List ℕ). packets first payloads ++ l) f.0
          ∙ ap (λ (n : ℕ). packets first payloads ++ (packet n payload ++ rest)) h.number
          ∙ sym (append_assoc (packets first payloads) (packet (next_after first payloads) payload) rest)
          ∙ ap (λ (l : List ℕ). (packets first payloads ++ l) ++ rest) (sym (append-nil (packet (next_after first payloads) payload)))
          ∙ ap (λ (l : List ℕ). l ++ rest) (sym (packets-append first payloads (payload ∷ [])));
      number = ap next h.number ∙ sym (next_after-append first payloads (payload ∷ []));
      fit = AllFit-append payloads payload h.fit f.1;
    }

pub one_split : (first : ℕ) (stream : List ℕ) (ps qs : List (List ℕ)) (r t : List ℕ) → Splits first stream ps r → Splits first stream qs t → (ps ≡ qs) × (r ≡ t)
one_split first stream [] [] r t a b = (refl, sym a.whole ∙ b.whole)
one_split first stream [] (q ∷ qs) r t a b =
    let e : r ≡ packet first q ++ (packets (next first) qs ++ t) = sym a.whole ∙ b.whole ∙ append_assoc (packet first q) (packets (next first) qs) t in
    absurd (a.ends q (packets (next first) qs ++ t) (ap (first_packet first) e ∙ packet_again first q (packets (next first) qs ++ t) b.fit.0))
one_split first stream (p ∷ ps) [] r t a b =
    let e : t ≡ packet first p ++ (packets (next first) ps ++ r) = sym b.whole ∙ a.whole ∙ append_assoc (packet first p) (packets (next first) ps) r in
    absurd (b.ends p (packets (next first) ps ++ r) (ap (first_packet first) e ∙ packet_again first p (packets (next first) ps ++ r) a.fit.0))
one_split first stream (p ∷ ps) (q ∷ qs) r t a b =
    let x : List ℕ = packets (next first) ps ++ r in
    let y : List ℕ = packets (next first) qs ++ t in
    let k : Whole p x ≡ Whole q y =
    sym (packet_again first p x a.fit.0) ∙ ap (first_packet first) (sym (append_assoc (packet first p) (packets (next first) ps) r) ∙ sym a.whole ∙ b.whole ∙ append_assoc (packet first q) (packets (next first) qs) t)
    ∙ packet_again first q y b.fit.0 in
    let heads : p ≡ q = cc in
    let tails : x ≡ y = cc in
    let i = one_split (next first) x ps qs r t (record { whole = refl; fit = a.fit.1; ends = a.ends }) (record { whole = tails; fit = b.fit.1; ends = b.ends }) in
    (ap (λ (l : List (List ℕ)). p ∷ l) i.0 ∙ ap (λ (l : List ℕ). l ∷ qs) heads, i.1)

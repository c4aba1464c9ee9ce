-- What two files stand for after a crash inside an append.
use Rattle.std.proofs.Common.{◌≡◌, ◌≤◌, inl, inr, ⊎_elim, ℕ, ◌+◌, ◌-◌, ◌==◌, nat_le, nat_lt, Bool, true, false, not, ◌&&◌, ◌||◌, List, [], ◌∷◌, ◌++◌, length, take, drop, replicate, refl, sym, ◌∙◌, ap, subst, arith, append_assoc, length-append}
use Rattle.std.specs.Prelude.{Option, Some, None, bytes_eq, slice_index, is_some}
use Rattle.std.proofs.lemmas.Bool.Decides.{nat_tests}
use Rattle.std.proofs.lemmas.List.{take_at, append-nil}
use Rattle.std.proofs.lemmas.List.Sums.{sum_by-append}
use Rattle.byteorder.specs.Endian.{little_number, little_bytes}
use Rattle.byteorder.specs.Numbers.{little_number-reads_back, length-bytes_low_first}
use Rattle.disk_core.specs.DiskModel.{DiskState, IsSure, MayLeave, LeftSince, LeavesOnly, Becomes}
use Rattle.disk_core.proofs.Moments.{started}
use Rattle.record_log.specs.Format.{framed, mark}
use Rattle.record_log.specs.Recovery.{head_of, is_open, is_current, generation, records_past, records_of}
use Rattle.record_log.specs.Layout.{Reads, size_of, with_front}
use Rattle.record_log.specs.Files.{IsLog}
use Rattle.record_log.specs.Crash.{IsShut, IsOpened, IsTorn, Waits}
use Rattle.record_log.specs.LogView.{IsStored, CrashLeaves, AnyMoment, IsBeforeOrAfter}
use Rattle.record_log.proofs.Told.{some_same}
use Rattle.record_log.proofs.RecordReads.{past_drop, shut_none, reads_both, reads_one}

le_is : (a b : ℕ) → a ≤ b → nat_le a b ≡ true
le_is a b le = grind (arith, nat_tests)

pub head_front : (head rest : List ℕ) → length head ≡ 17 → head_of (head ++ rest) ≡ head
head_front head rest is =
    let none : 17 - length (head ++ rest) ≡ 0 = omega (arith, length-append head rest) in
    (λ i. take_at head rest 17 is i ++ replicate (none i) 0) ∙ append-nil head

-- a file with this head, and a byte behind it, opens as its head says
opens_as : (file head rest : List ℕ) (byte : ℕ) → length head ≡ 17 → file ≡ head ++ (byte ∷ rest) → is_open file ≡ (slice_index head 8 == 1)
opens_as file head rest byte size is =
    let long : nat_le 18 (length file) ≡ true = le_is 18 (length file) (omega (arith, ap length is, length-append head (byte ∷ rest))) in
    let front : head_of file ≡ head = ap head_of is ∙ head_front head (byte ∷ rest) size in
    λ i. long i && (slice_index (front i) 8 == 1)

-- behind the body stands at least the gate
behind_body : (head body rest : List ℕ) (gate : ℕ) → (byte : ℕ) × (tail : List ℕ) × ((head ++ body) ++ (gate ∷ rest) ≡ head ++ (byte ∷ tail))
behind_body head [] rest gate = (gate, rest, append_assoc head [] (gate ∷ rest))
behind_body head (b ∷ body) rest gate = (b, body ++ (gate ∷ rest), append_assoc head (b ∷ body) (gate ∷ rest))

abbrev marked_head : List ℕ → Bool
marked_head head = bytes_eq (take 8 head) mark

-- another file with the same head leads as this one does
pub relog : (a b c : List ℕ) (records more : List (List ℕ)) (gate place : ℕ) (log : IsLog a b records gate) (body : List ℕ) → IsShut (log.head ++ body) c → 17 + length body ≡ place → 17 + size_of more ≡ place → Reads body more → IsLog c b more place
relog a b c records more gate place log body shut length_body size reads =
    let a_split = behind_body log.head log.body log.shut.1 log.shut.0 in
    let c_split = behind_body log.head body shut.1 shut.0 in
    let a_is : a ≡ log.head ++ (a_split.0 ∷ a_split.1) = log.shut.3 ∙ a_split.2 in
    let c_is : c ≡ log.head ++ (c_split.0 ∷ c_split.1) = shut.3 ∙ c_split.2 in
    let opens : is_open c ≡ is_open a = opens_as c log.head c_split.1 c_split.0 log.length_head c_is ∙ sym (opens_as a log.head a_split.1 a_split.0 log.length_head a_is) in
    let front : head_of c ≡ head_of a = ap head_of c_is ∙ head_front log.head (c_split.0 ∷ c_split.1) log.length_head ∙ sym (ap head_of a_is ∙ head_front log.head (a_split.0 ∷ a_split.1) log.length_head) in
    let leading : is_current c b ≡ is_current a b = λ i. opens i && (not (is_open b) || nat_lt (generation b) (little_number 8 (drop 9 (front i)))) in
    record {
      marked = (λ i. marked_head (front i)) ∙ log.marked;
      other_marked = log.other_marked;
      leads = leading ∙ log.leads;
      head = log.head;
      body = body;
      length_head = log.length_head;
      length_body = length_body;
      size = size;
      shut = shut;
      reads = reads;
    }

-- what the current file stands for
past_head : (a b : List ℕ) (records : List (List ℕ)) (gate : ℕ) → IsLog a b records gate → records_past 17 a ≡ Some records
past_head a b records gate log =
    let shut = log.shut in
    ap (λ (l : List ℕ). records_past 17 l) (shut.3 ∙ append_assoc log.head log.body (shut.0 ∷ shut.1))
    ∙ past_drop 17 log.head (log.body ++ (shut.0 ∷ shut.1)) (sym log.length_head)
    ∙ log.reads (shut.0 ∷ shut.1)
    ∙ ap (λ o. with_front records o) (shut_none shut.0 shut.1 shut.2)
    ∙ ap (λ (l : List (List ℕ)). Some l) (append-nil records)

pub log_records : (a b : List ℕ) (records : List (List ℕ)) (gate : ℕ) → IsLog a b records gate → records_of a b ≡ Some records
log_records a b records gate log =
    let marked = log.marked in
    let other_marked = log.other_marked in
    let leads = log.leads in
    let past = past_head a b records gate log in
    rw (marked, other_marked, leads, past)

lead_one : (x y : Bool) (m n : ℕ) → (x && (not y || nat_lt n m)) ≡ true → (y && (not x || nat_lt m n)) ≡ false
lead_one false y m n is = absurd (cc is)
lead_one true false m n is = refl
lead_one true true m n is = lower m n is
  where
    lower : (m n : ℕ) → nat_lt n m ≡ true → nat_lt m n ≡ false
    lower m n is = grind (arith, nat_tests)

-- the order of the files doesn't matter
pub log_records_swapped : (a b : List ℕ) (records : List (List ℕ)) (gate : ℕ) → IsLog a b records gate → records_of b a ≡ Some records
log_records_swapped a b records gate log =
    let marked = log.marked in
    let other_marked = log.other_marked in
    let leads = log.leads in
    let behind : is_current b a ≡ false = lead_one (is_open a) (is_open b) (generation a) (generation b) leads in
    let past = past_head a b records gate log in
    rw (other_marked, marked, behind, leads, past)

pub front_of : (a b : List ℕ) (records : List (List ℕ)) (gate : ℕ) (log : IsLog a b records gate) → take gate a ≡ log.head ++ log.body
front_of a b records gate log =
    ap (λ (l : List ℕ). take gate l) log.shut.3 ∙ take_at (log.head ++ log.body) (log.shut.0 ∷ log.shut.1) gate (omega (arith, length-append log.head log.body, log.length_head, log.length_body))

pub shut_log : (a b c : List ℕ) (records : List (List ℕ)) (gate : ℕ) → IsLog a b records gate → IsShut (take gate a) c → IsLog c b records gate
shut_log a b c records gate log shut =
    relog a b c records records gate gate log log.body (subst (λ (f : List ℕ). IsShut f c) (front_of a b records gate log) shut) log.length_body log.size log.reads

reframed : (head body four payload rest : List ℕ) → (head ++ body) ++ (1 ∷ ((four ++ (payload ++ (0 ∷ []))) ++ rest)) ≡ (head ++ (body ++ (1 ∷ (four ++ payload)))) ++ (0 ∷ rest)
reframed head body four payload rest = simp append_assoc

pub size_more : (records : List (List ℕ)) (payload : List ℕ) → size_of (records ++ payload ∷ []) ≡ size_of records + (5 + length payload)
size_more records payload = omega (arith, sum_by-append (λ (r : List ℕ). 5 + length r) records (payload ∷ []))

pub opened_log : (a b c payload : List ℕ) (records : List (List ℕ)) (gate : ℕ) → length payload ≤ 8388608 → IsLog a b records gate → IsOpened (take gate a) (framed payload) c → IsLog c b (records ++ payload ∷ []) (gate + (5 + length payload))
opened_log a b c payload records gate short log opened =
    let four : List ℕ = little_bytes 4 (length payload) in
    let size_four : length four ≡ 4 = length-bytes_low_first 0 4 (length payload) in
    let number : little_number 4 four ≡ length payload = ap (λ (l : List ℕ). little_number 4 l) (sym (append-nil four)) ∙ little_number-reads_back 4 (length payload) [] (omega (arith, short)) in
    let is : c ≡ (log.head ++ (log.body ++ (1 ∷ (four ++ payload)))) ++ (0 ∷ opened.0) =
    opened.1 ∙ ap (λ (f : List ℕ). f ++ (1 ∷ (framed payload ++ opened.0))) (front_of a b records gate log) ∙ reframed log.head log.body four payload opened.0 in
    relog
    a
    b
    c
    records
    (records ++ payload ∷ [])
    gate
    (gate + (5 + length payload))
    log
    (log.body ++ (1 ∷ (four ++ payload)))
    (0, opened.0, (λ one. absurd (omega (arith, one))), is)
    (omega (arith, length-append log.body (1 ∷ (four ++ payload)), length-append four payload, size_four, log.length_body))
    (omega (arith, size_more records payload, log.size))
    (reads_both log.body (1 ∷ (four ++ payload)) records (payload ∷ []) log.reads (reads_one four payload size_four number short))

-- a disk that is sure leaves what it shows
pub sure_leaves : (b : DiskState) → IsSure b → (d : List ℕ) → MayLeave b.now d → d ≡ b.seen
sure_leaves b sure d left = subst (λ m. MayLeave m d) sure left

pub torn_pair : (a b : DiskState) (records : List (List ℕ)) (gate : ℕ) (payload : List ℕ) → length payload ≤ 8388608 → IsSure b → IsLog a.seen b.seen records gate
    → (c d : List ℕ) → IsTorn (take gate a.seen) (framed payload) c → MayLeave b.now d → IsBeforeOrAfter records payload c d
torn_pair a b records gate payload short sure log c d torn left =
    let is : d ≡ b.seen = sure_leaves b sure d left in
    subst
    (IsBeforeOrAfter records payload c)
    (sym is)
    (⊎_elim
    (λ shut. inl (log_records c b.seen records gate (shut_log a.seen b.seen c records gate log shut)))
    (λ opened. inr (log_records c b.seen (records ++ payload ∷ []) (gate + (5 + length payload)) (opened_log a.seen b.seen c payload records gate short log opened)))
    torn)

-- between the same two moments
pub left_now : (b : DiskState) (d : List ℕ) → LeftSince b b d → MayLeave b.now d
left_now b d left = (started b (MayLeave b.now) (λ bytes is. is)).each d left

-- a stored log waits for an append
pub waits : (o p : Option DiskState) (records : List (List ℕ)) (gate : ℕ) → IsStored o p records gate → is_some o ≡ is_some p → (s : DiskState) → o ≡ Some s → Waits s gate
waits o None records gate stored tells s is = absurd (cc (sym tells ∙ ap is_some is))
waits o (Some b) records gate stored tells s is =
    let told = stored s b is refl in
    let log = told.2 in
    record { sure = told.0; front = log.head ++ log.body; shut = log.shut; length_front = omega (arith, length-append log.head log.body, log.length_head, log.length_body) }

pub any_moment : (o p o' p' : Option DiskState) (records : List (List ℕ)) (gate : ℕ) (payload : List ℕ) → length payload ≤ 8388608 → IsStored o p records gate
    → Becomes (λ s t. LeavesOnly s t (IsTorn (take gate s.seen) (framed payload))) o o' → p' ≡ p → AnyMoment o p o' p' (IsBeforeOrAfter records payload)
any_moment o p o' p' records gate payload short stored left same a b is_a is_b =
    let st = stored a b is_a is_b in
    let told = subst (λ x. Becomes (λ s t. LeavesOnly s t (IsTorn (take gate s.seen) (framed payload))) x o') is_a left in
    let leaves = told.2 in (
      told.0,
      (
        b,
        (
          told.1,
          (
            same ∙ is_b,
            record {
              more = leaves.more;
              clock = leaves.clock;
              other_more = [];
              other_clock = sym (append-nil b.moments);
              each = λ c d left_c left_d. torn_pair a b records gate payload short st.1 st.2 c d (leaves.each c left_c) (left_now b d left_d);
            },
          ),
        ),
      ),
    )

pub any_moment_same : (o p o' p' : Option DiskState) (records : List (List ℕ)) (gate : ℕ) (payload : List ℕ) → IsStored o p records gate → o' ≡ o → p' ≡ p → AnyMoment o p o' p' (IsBeforeOrAfter records payload)
any_moment_same o p o' p' records gate payload stored same same_other a b is_a is_b =
    let st = stored a b is_a is_b in (
      a,
      (
        b,
        (
          same ∙ is_a,
          (
            same_other ∙ is_b,
            record {
              more = [];
              clock = sym (append-nil a.moments);
              other_more = [];
              other_clock = sym (append-nil b.moments);
              each = λ c d left_c left_d. inl ((λ i. records_of (sure_leaves a st.0 c (left_now a c left_c) i) (sure_leaves b st.1 d (left_now b d left_d) i)) ∙ log_records a.seen b.seen records gate st.2);
            },
          ),
        ),
      ),
    )

-- what is stored is left by each crash
pub stored_leaves : (o p : Option DiskState) (records : List (List ℕ)) (gate : ℕ) → IsStored o p records gate → CrashLeaves o p (λ c d. records_of c d ≡ Some records)
stored_leaves o p records gate stored a b is_a is_b c d left_c left_d =
    let st = stored a b is_a is_b in
    (λ i. records_of (sure_leaves a st.0 c left_c i) (sure_leaves b st.1 d left_d i)) ∙ log_records a.seen b.seen records gate st.2

-- after the append the new record is stored
pub stored_more : (o p o' p' : Option DiskState) (records : List (List ℕ)) (gate : ℕ) (payload : List ℕ) → length payload ≤ 8388608 → IsStored o p records gate
    → Becomes (λ s t. IsSure t × IsOpened (take gate s.seen) (framed payload) t.seen) o o' → p' ≡ p → IsStored o' p' (records ++ payload ∷ []) (gate + (5 + length payload))
stored_more None p o' p' records gate payload short stored done same a b is_a is_b = absurd (cc (sym is_a ∙ done))
stored_more (Some s) p o' p' records gate payload short stored done same a b is_a is_b =
    let st = stored s b refl (sym same ∙ is_b) in
    let t : done.0 ≡ a = some_same done.0 a (sym done.1 ∙ is_a) in
    let done_now = done.2 in
    let P : DiskState → Type 0 = λ x. IsSure x × IsSure b × IsLog x.seen b.seen (records ++ payload ∷ []) (gate + (5 + length payload)) in
    subst P t (done_now.0, st.1, opened_log s.seen b.seen done.0.seen payload records gate short st.2 done_now.1)

pub any_as : (o1 o p1 p o' p' : Option DiskState) (records1 records : List (List ℕ)) (payload : List ℕ) → o1 ≡ o → p1 ≡ p → records1 ≡ records
    → AnyMoment o1 p1 o' p' (IsBeforeOrAfter records1 payload) → AnyMoment o p o' p' (IsBeforeOrAfter records payload)
any_as o1 o p1 p o' p' records1 records payload same same_other same_records moments =
    let first = subst (λ (rs : List (List ℕ)). AnyMoment o1 p1 o' p' (IsBeforeOrAfter rs payload)) same_records moments in
    let second = subst (λ x. AnyMoment x p1 o' p' (IsBeforeOrAfter records payload)) same first in
    subst (λ x. AnyMoment o x o' p' (IsBeforeOrAfter records payload)) same_other second

-- How records are read one after the other.
use Rattle.std.proofs.Common.{◌≡◌, ◌≢◌, ◌≤◌, ◌<◌, ℕ, zero, suc, ◌+◌, ◌-◌, ◌==◌, nat_le, Bool, true, false, ◌&&◌, List, [], ◌∷◌, ◌++◌, length, take, drop, refl, sym, ◌∙◌, ap, subst, arith, append_assoc, length-append, length-drop, length-take, take-append-drop}
use Rattle.std.specs.Prelude.{Option, Some, None, option_map}
use Rattle.std.proofs.lemmas.Bool.Decides.{nat_tests}
use Rattle.std.proofs.lemmas.List.Sums.{sum_by-append}
use Rattle.std.proofs.lemmas.List.{take_at, drop_at, drop-drop}
use Rattle.byteorder.specs.Endian.{little_number}
use Rattle.byteorder.specs.Numbers.{little_from-append, little_from-take}
use Rattle.record_log.specs.Recovery.{records_past, is_whole, payload_at}
use Rattle.record_log.specs.Layout.{with_front, Reads, size_of, EndsAt}

-- the bytes passed over don't matter
pub past_drop : (n : ℕ) (bytes tail : List ℕ) → n ≡ length bytes → records_past n (bytes ++ tail) ≡ records_past 0 tail
past_drop zero [] tail is = refl
past_drop zero (b ∷ bytes) tail is = absurd (omega arith)
past_drop (suc n) [] tail is = absurd (omega arith)
past_drop (suc n) (b ∷ bytes) tail is = past_drop n bytes tail (omega arith)

-- no record yet
pub reads_none : Reads [] []
reads_none tail = empty (records_past 0 tail)
  where
    empty : (o : Option (List (List ℕ))) → o ≡ with_front [] o
    empty None = refl
    empty (Some more) = refl

front_front : (xs ys : List (List ℕ)) (o : Option (List (List ℕ))) → with_front xs (with_front ys o) ≡ with_front (xs ++ ys) o
front_front xs ys None = refl
front_front xs ys (Some more) = ap (λ (l : List (List ℕ)). Some l) (sym (append_assoc xs ys more))

-- one record after the others
pub reads_both : (a b : List ℕ) (xs ys : List (List ℕ)) → Reads a xs → Reads b ys → Reads (a ++ b) (xs ++ ys)
reads_both a b xs ys first second tail =
    ap (λ (l : List ℕ). records_past 0 l) (append_assoc a b tail) ∙ first (b ++ tail) ∙ ap (λ o. with_front xs o) (second tail) ∙ front_front xs ys (records_past 0 tail)

-- a gate that isn't open ends them
pub shut_none : (gate : ℕ) (rest : List ℕ) → gate ≢ 1 → records_past 0 (gate ∷ rest) ≡ Some []
shut_none gate rest shut = grind (arith, nat_tests)

-- an open gate and a whole record
pub whole_step : (bytes : List ℕ) → is_whole bytes ≡ true → records_past 0 (1 ∷ bytes) ≡ option_map (λ more. payload_at bytes ∷ more) (records_past (4 + little_number 4 bytes) bytes)
whole_step bytes whole = rw whole

pub broken_step : (bytes : List ℕ) → is_whole bytes ≡ false → records_past 0 (1 ∷ bytes) ≡ None
broken_step bytes broken = rw broken

pub whole_is : (bytes : List ℕ) (n : ℕ) → little_number 4 bytes ≡ n → 4 ≤ length bytes → n ≤ 8388608 → 4 + n ≤ length bytes → is_whole bytes ≡ true
whole_is bytes n number four short fits = rw number (grind (arith, nat_tests))

pub reads_one : (four payload : List ℕ) → length four ≡ 4 → little_number 4 four ≡ length payload → length payload ≤ 8388608 → Reads (1 ∷ (four ++ payload)) (payload ∷ [])
reads_one four payload size number short tail =
    let bytes : List ℕ = (four ++ payload) ++ tail in
    let split : bytes ≡ four ++ (payload ++ tail) = append_assoc four payload tail in
    let count : little_number 4 bytes ≡ length payload = ap (λ (l : List ℕ). little_number 4 l) split ∙ little_from-append 4 four (payload ++ tail) (omega arith) ∙ number in
    let long : length bytes ≡ 4 + length payload + length tail = omega (arith, length-append (four ++ payload) tail, length-append four payload) in
    let whole : is_whole bytes ≡ true = whole_is bytes (length payload) count (omega arith) short (omega arith) in
    let paid : payload_at bytes ≡ payload =
    (λ i. take (count i) (drop 4 (split i))) ∙ ap (λ (l : List ℕ). take (length payload) l) (drop_at four (payload ++ tail) 4 size) ∙ take_at payload tail (length payload) refl in
    let past : records_past (4 + little_number 4 bytes) bytes ≡ records_past 0 tail =
    ap (λ (n : ℕ). records_past (4 + n) bytes) count ∙ past_drop (4 + length payload) (four ++ payload) tail (omega (arith, length-append four payload)) in
    whole_step bytes whole ∙ (λ i. option_map (λ more. paid i ∷ more) (past i))

pub record Fits (bytes : List ℕ) : Type 0 where
  pub four : 4 ≤ length bytes
  pub short : little_number 4 bytes ≤ 8388608
  pub fits : 4 + little_number 4 bytes ≤ length bytes

pub and_left : (a b : Bool) → (a && b) ≡ true → a ≡ true
and_left true b is = refl
and_left false b is = absurd (cc is)

pub and_right : (a b : Bool) → (a && b) ≡ true → b ≡ true
and_right true b is = is
and_right false b is = absurd (cc is)

pub le_from : (a b : ℕ) → nat_le a b ≡ true → a ≤ b
le_from a b is = grind (arith, nat_tests)

pub whole_tells : (bytes : List ℕ) → is_whole bytes ≡ true → Fits bytes
whole_tells bytes whole =
    let n = little_number 4 bytes in
    let size = length bytes in
    let rest = and_right (nat_le 4 size) (nat_le n 8388608 && nat_le (4 + n) size) whole in
    record {
      four = le_from 4 size (and_left (nat_le 4 size) (nat_le n 8388608 && nat_le (4 + n) size) whole);
      short = le_from n 8388608 (and_left (nat_le n 8388608) (nat_le (4 + n) size) rest);
      fits = le_from (4 + n) size (and_right (nat_le n 8388608) (nat_le (4 + n) size) rest);
    }

-- the record that was found behind an open gate
pub reads_found : (bytes payload behind : List ℕ) → is_whole bytes ≡ true → payload ≡ payload_at bytes → behind ≡ drop (4 + little_number 4 bytes) bytes
    → (front : List ℕ) × (1 ∷ bytes ≡ front ++ behind) × (5 + length payload ≡ length front) × Reads front (payload ∷ [])
reads_found bytes payload behind whole is_payload is_behind =
    let n = little_number 4 bytes in
    let is = whole_tells bytes whole in
    let four : List ℕ = take 4 bytes in
    let rest : List ℕ = drop 4 bytes in
    let size : length four ≡ 4 = omega (arith, length-take 4 bytes, is.four) in
    let paid : length payload ≡ n = omega (arith, ap length is_payload, length-take n rest, length-drop 4 bytes, is.fits) in
    let tail : payload ++ behind ≡ rest = (λ i. is_payload i ++ is_behind i) ∙ ap (λ (l : List ℕ). take n rest ++ l) (sym (drop-drop n 4 bytes)) ∙ take-append-drop n rest in
    let split : (four ++ payload) ++ behind ≡ bytes = append_assoc four payload behind ∙ ap (λ (l : List ℕ). four ++ l) tail ∙ take-append-drop 4 bytes in
    (1 ∷ (four ++ payload), ap (λ (l : List ℕ). 1 ∷ l) (sym split), omega (arith, length-append four payload), reads_one four payload size (little_from-take 0 4 4 bytes (omega arith) ∙ sym paid) (omega (arith, is.short)))

pub loop_step : (bytes front rest after payload behind : List ℕ) (records new : List (List ℕ)) → bytes ≡ front ++ rest → rest ≡ 1 ∷ after → size_of records ≡ length front → Reads front records
    → is_whole after ≡ true → payload ≡ payload_at after → behind ≡ drop (4 + little_number 4 after) after → new ≡ records ++ payload ∷ []
    → (x : List ℕ) × (bytes ≡ x ++ behind) × (size_of new ≡ length x) × Reads x new
loop_step bytes front rest after payload behind records new split opens size reads whole is_payload is_behind is_new =
    let one = reads_found after payload behind whole is_payload is_behind in
    let sizes : size_of new ≡ size_of records + (0 + (5 + length payload)) = ap size_of is_new ∙ sum_by-append (λ (r : List ℕ). 5 + length r) records (payload ∷ []) in (
      front ++ one.0,
      split ∙ ap (λ (l : List ℕ). front ++ l) (opens ∙ one.1) ∙ sym (append_assoc front one.0 behind),
      omega (arith, sizes, length-append front one.0, one.2),
      subst (Reads (front ++ one.0)) (sym is_new) (reads_both front one.0 records (payload ∷ []) reads one.3),
    )

-- a gate that isn't open ends the records
pub ended : (bytes front rest : List ℕ) (records : List (List ℕ)) → bytes ≡ front ++ rest → size_of records ≡ length front → Reads front records → 0 < length rest
    → ((gate : ℕ) (behind : List ℕ) → rest ≡ gate ∷ behind → gate ≢ 1) → EndsAt bytes records (length bytes - length rest)
ended bytes front [] records split size reads some shut = absurd (omega arith)
ended bytes front (gate ∷ behind) records split size reads some shut =
    let long : length bytes ≡ length front + length (gate ∷ behind) = omega (arith, ap length split, length-append front (gate ∷ behind)) in
    record {
      front = front;
      gate = gate;
      rest = behind;
      split = split;
      shut = shut gate behind refl;
      length_front = omega arith;
      length_records = omega arith;
      reads = reads;
    }

pub not_empty : (b : Bool) (rest : List ℕ) → b ≡ (length rest == 0) → b ≡ false → 0 < length rest
not_empty b rest is isnt = grind (arith, nat_tests)

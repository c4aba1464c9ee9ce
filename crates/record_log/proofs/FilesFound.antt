-- What was read of two files, as what they stand for.
use Rattle.std.proofs.Common.{◌≡◌, ◌≤◌, ℕ, ◌+◌, ◌==◌, nat_le, nat_lt, Bool, true, false, not, ◌&&◌, ◌||◌, List, ◌∷◌, ◌++◌, length, take, drop, refl, sym, ◌∙◌, ap, subst, arith, append_assoc, length-take, take-append-drop}
use Rattle.std.specs.Prelude.{Option, None, bytes_eq, slice_index, if◌then◌else◌}
use Rattle.byteorder.specs.Endian.{little_number}
use Rattle.record_log.specs.Format.{mark}
use Rattle.record_log.specs.Recovery.{head_of, has_mark, is_open, is_current, generation, records_past, records_of, shown_of}
use Rattle.record_log.specs.Layout.{EndsAt}
use Rattle.record_log.specs.Files.{IsHead, IsLog, IsRefused, leads, shown_head}
use Rattle.record_log.specs.declared.files.Head.{Head}
use Rattle.record_log.proofs.RecordReads.{past_drop, and_left, le_from}

module _ (a b : List ℕ) (h k : Head) (of_a : IsHead a h) (of_b : IsHead b k) where
  pub mark_is : bytes_eq (take 8 h.bytes) mark ≡ has_mark a
  mark_is = ap (λ (l : List ℕ). bytes_eq (take 8 l) mark) of_a.bytes

  pub leads_is : leads h k ≡ is_current a b
  leads_is = λ i.
      (nat_le 18 (of_a.length_file i) && (slice_index (of_a.bytes i) 8 == 1))
      && (not (nat_le 18 (of_b.length_file i) && (slice_index (of_b.bytes i) 8 == 1)) || nat_lt (little_number 8 (drop 9 (of_b.bytes i))) (little_number 8 (drop 9 (of_a.bytes i))))

shown_choice : (c : Bool) (a b : List ℕ) (h k : Head) → IsHead a h → IsHead b k → IsHead (if c then b else a) (if c then k else h)
shown_choice true a b h k of_a of_b = of_b
shown_choice false a b h k of_a of_b = of_a

pub shown_is : (a b : List ℕ) (h k : Head) → IsHead a h → IsHead b k → IsHead (shown_of a b) (shown_head h k)
shown_is a b h k of_a of_b =
    let same : (bytes_eq (take 8 h.bytes) mark && not (bytes_eq (take 8 k.bytes) mark)) ≡ (has_mark a && not (has_mark b)) =
    λ i. mark_is a b h k of_a of_b i && not (mark_is b a k h of_b of_a i) in
    let P : Bool → Type 0 = λ c. IsHead (shown_of a b) (if c then k else h) in
    subst P (sym same) (shown_choice (has_mark a && not (has_mark b)) a b h k of_a of_b)

-- the file is long enough for its head
pub long_enough : (a b : List ℕ) → is_current a b ≡ true → 18 ≤ length a
long_enough a b is =
    let opens = and_left (is_open a) (not (is_open b) || nat_lt (generation b) (generation a)) is in
    le_from 18 (length a) (and_left (nat_le 18 (length a)) (slice_index (head_of a) 8 == 1) opens)

pub behind_head : (a : List ℕ) → 17 ≤ length a → records_past 17 a ≡ records_past 0 (drop 17 a)
behind_head a long = ap (λ (l : List ℕ). records_past 17 l) (sym (take-append-drop 17 a)) ∙ past_drop 17 (take 17 a) (drop 17 a) (omega (arith, length-take 17 a))

pub is_log : (a b : List ℕ) (records : List (List ℕ)) (size : ℕ) → has_mark a ≡ true → has_mark b ≡ true → is_current a b ≡ true → EndsAt (drop 17 a) records size → IsLog a b records (17 + size)
is_log a b records size marked other_marked leading ends =
    let long = long_enough a b leading in
    record {
      marked = marked;
      other_marked = other_marked;
      leads = leading;
      head = take 17 a;
      body = ends.front;
      length_head = omega (arith, length-take 17 a);
      length_body = omega (arith, ends.length_front);
      size = omega (arith, ends.length_records);
      shut = (ends.gate, ends.rest, ends.shut, sym (take-append-drop 17 a) ∙ ap (λ (l : List ℕ). take 17 a ++ l) ends.split ∙ sym (append_assoc (take 17 a) ends.front (ends.gate ∷ ends.rest)));
      reads = ends.reads;
    }

same_both : (c : Bool) (o : Option (List (List ℕ))) → (if c then o else o) ≡ o
same_both true o = refl
same_both false o = refl

pub none_unmarked : (a b : List ℕ) → (has_mark a && has_mark b) ≡ false → records_of a b ≡ None
none_unmarked a b isnt = rw isnt

pub none_current : (a b : List ℕ) → is_current a b ≡ false → is_current b a ≡ false → records_of a b ≡ None
none_current a b first second = rw (first, second) (same_both (has_mark a && has_mark b) None)

pub none_main : (a b : List ℕ) → is_current a b ≡ true → records_past 0 (drop 17 a) ≡ None → records_of a b ≡ None
none_main a b leading none =
    let past : records_past 17 a ≡ None = behind_head a (omega (arith, long_enough a b leading)) ∙ none in
    rw (leading, past) (same_both (has_mark a && has_mark b) None)

pub none_spare : (a b : List ℕ) → is_current a b ≡ false → is_current b a ≡ true → records_past 0 (drop 17 b) ≡ None → records_of a b ≡ None
none_spare a b first leading none =
    let past : records_past 17 b ≡ None = behind_head b (omega (arith, long_enough b a leading)) ∙ none in
    rw (first, leading, past) (same_both (has_mark a && has_mark b) None)

pub refused : (a b : List ℕ) (h k : Head) (found : List ℕ) (size : ℕ) → IsHead a h → IsHead b k → records_of a b ≡ None → found ≡ take 8 (shown_head h k).bytes → size ≡ (shown_head h k).length → IsRefused a b found size
refused a b h k found size of_a of_b none is_found is_size =
    let shows = shown_is a b h k of_a of_b in
    record { none = none; shows = is_found ∙ ap (λ (l : List ℕ). take 8 l) shows.bytes; shows_size = is_size ∙ shows.length_file }

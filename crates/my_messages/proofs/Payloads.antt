-- Each payload is read exactly where it is one of its form.
use Rattle.std.proofs.Common.{◌≡◌, ◌≢◌, ℕ, zero, suc, ◌+◌, ◌-◌, ◌*◌, ◌<◌, ◌⊎◌, Bool, false, cond, ◌==◌, List, [], ◌∷◌, ◌++◌, length, take, drop, replicate, Option, Some, None, Ok, Err, refl, sym, ap, subst, ◌∙◌, append_assoc, inl, inr, arith, ne_eqb}
use Rattle.std.specs.Prelude.{codes}
use Rattle.std.specs.Str.{IsUtf8}
use Rattle.simdutf8.specs.Steps.{Step, first}
use Rattle.std.proofs.lemmas.Bool.{eqb-true, eqb-false}
use Rattle.std.proofs.lemmas.List.{length-append, length-take, append-nil, take_at, drop_at, take-append-drop}
use Rattle.byteorder.specs.Endian.{little_from, little_number}
use Rattle.byteorder.specs.Numbers.{little_from-cons}
use Rattle.my_wire.specs.Grammar.{IsBytes, Then, Begins, IsExactly, IsEnd, ◌>>=◌}
use Rattle.my_wire.specs.Lenenc.{IsLenenc, width_of, lenenc_at}
use Rattle.my_wire.specs.declared.lenenc.Lenenc.{Lenenc}
use Rattle.my_wire.specs.declared.lenenc.Lenenc.TheVariants.{Number, Null, Short, Bad}
use Rattle.my_wire.proofs.Fields.{Both, Stuck, IsField, IsMessage, ok_is, bind_ok, bind_err, field_then, field_field, same_message, same_field, message_as}
use Rattle.my_wire.proofs.Lenencs.{chosen, has_width, lenenc_found, lenenc_again, lenenc_short, lenenc_front, no_number, one_positive}
use Rattle.my_messages.specs.Fields.{IsInt, IsNumber, IsUtf8Of, IsText, IsNulText, IsFixed}
use Rattle.my_messages.specs.Utf8.{sized_after, nul_after, all_after}
use Rattle.my_messages.specs.Reading.{literal_at, int_at, fixed_at, number_at, text_at, or_else, small_at, end_at, ok_at, err_at, switch_at, eof_at, count_from, count_at, definition_at, cell_at, cells_at}
use Rattle.my_messages.specs.Reply.{IsOkPacket, IsErrPacket, IsEofPacket, IsSwitchRequest, IsColumnCount, IsDefinition, IsCell, IsRowOf}
use Rattle.my_messages.specs.declared.reply.Column.{Column}
use Rattle.my_messages.specs.declared.reply.Reply.{Reply}
use Rattle.my_messages.specs.declared.reply.Reply.TheVariants as replies
use Rattle.my_messages.proofs.Forms.{Either, either_field, end_message, literal_field, int_field, fixed_field, number_field}
use Rattle.my_messages.proofs.Texts.{SizedAfter, NulAfter, AllAfter, sized_field, nul_field, all_message, start, steps_utf8, utf8_steps}

-- ---- a small number in each of its forms

-- a number of bytes that is 0 has no other byte
zero_cells : (bytes : List ℕ) → little_number (length bytes) bytes ≡ 0 → bytes ≡ replicate (length bytes) 0
zero_cells [] e = refl
zero_cells (b ∷ bytes) e =
    let rest : little_from 1 (length bytes) (b ∷ bytes) ≡ little_from 0 (length bytes) bytes = little_from-cons 0 (length bytes) b bytes in
    let here : b + 256 * little_from 1 (length bytes) (b ∷ bytes) ≡ 0 = e in
    let low : b ≡ 0 = omega (arith, here) in
    let high : little_number (length bytes) bytes ≡ 0 = omega (arith, here, rest) in
    ap (λ (l : List ℕ). b ∷ l) (zero_cells bytes high) ∙ ap (λ (k : ℕ). k ∷ replicate (length bytes) 0) low

-- a small number of bytes is its lowest byte
small_cells : (n : ℕ) (bytes : List ℕ) → n < 256 → 0 < length bytes → n ≡ little_number (length bytes) bytes → bytes ≡ n ∷ replicate (length bytes - 1) 0
small_cells n [] lt some e = absurd (omega arith)
small_cells n (b ∷ bytes) lt some e =
    let rest : little_from 1 (length bytes) (b ∷ bytes) ≡ little_from 0 (length bytes) bytes = little_from-cons 0 (length bytes) b bytes in
    let here : n ≡ b + 256 * little_from 1 (length bytes) (b ∷ bytes) = e in
    let low : b ≡ n = omega (arith, here) in
    let high : little_number (length bytes) bytes ≡ 0 = omega (arith, here, rest) in
    let fewer : length bytes ≡ length (b ∷ bytes) - 1 = omega arith in
    ap (λ (l : List ℕ). b ∷ l) (zero_cells bytes high) ∙ ap (λ (k : ℕ). k ∷ replicate (length bytes) 0) low ∙ ap (λ (m : ℕ). n ∷ replicate m 0) fewer

abbrev two_form : ℕ → List ℕ → List ℕ
two_form n tail = 0xFC ∷ n ∷ 0 ∷ tail

abbrev three_form : ℕ → List ℕ → List ℕ
three_form n tail = 0xFD ∷ n ∷ 0 ∷ 0 ∷ tail

abbrev eight_form : ℕ → List ℕ → List ℕ
eight_form n tail = 0xFE ∷ n ∷ 0 ∷ 0 ∷ 0 ∷ 0 ∷ 0 ∷ 0 ∷ 0 ∷ tail

abbrev Lit : List ℕ → Unit {0} → List ℕ → Type 0
Lit expected x bytes = bytes ≡ expected

abbrev Forms : ℕ → List ℕ → Unit {0} → List ℕ → Type 0
Forms n tail = Either (Lit (n ∷ tail)) (Either (Lit (two_form n tail)) (Either (Lit (three_form n tail)) (Lit (eight_form n tail))))

-- lists that begin differently
apart : (c d : ℕ) (s t a b f g : List ℕ) → c ≢ d → f ≡ c ∷ s → g ≡ d ∷ t → f ++ a ≡ g ++ b → ⊥
apart c d s t a b f g differ p q e =
    let k : c ∷ (s ++ a) ≡ d ∷ (t ++ b) = ap (λ (l : List ℕ). l ++ a) (sym p) ∙ e ∙ ap (λ (l : List ℕ). l ++ b) q in
    let same : c ≡ d = cc in differ same

forms_field : (n : ℕ) (tail : List ℕ) → n < 251 → IsBytes tail → IsField (Forms n tail) (small_at n tail)
unfolding small_at
forms_field n tail lt fits =
    let one : n < 256 = omega arith in
    let zeros : IsBytes (0 ∷ tail) = (omega arith, fits) in
    let a = literal_field (n ∷ tail) (one, fits) in
    let b = literal_field (two_form n tail) (omega arith, (one, zeros)) in
    let c = literal_field (three_form n tail) (omega arith, (one, (omega arith, zeros))) in
    let d = literal_field (eight_form n tail) (omega arith, (one, (omega arith, (omega arith, (omega arith, (omega arith, (omega arith, (omega arith, zeros)))))))) in
    let cd = either_field (Lit (three_form n tail)) (Lit (eight_form n tail)) (literal_at (three_form n tail)) (literal_at (eight_form n tail)) c d
    (λ x y f g u v p q e. apart 0xFD 0xFE (n ∷ 0 ∷ 0 ∷ tail) (n ∷ 0 ∷ 0 ∷ 0 ∷ 0 ∷ 0 ∷ 0 ∷ 0 ∷ tail) u v f g (λ k. omega (arith, k)) p q e) in
    let bcd = either_field (Lit (two_form n tail)) (Either (Lit (three_form n tail)) (Lit (eight_form n tail))) (literal_at (two_form n tail))
    (λ (bytes : List ℕ). or_else (literal_at (three_form n tail) bytes) (literal_at (eight_form n tail) bytes)) b cd
    (λ x y f g u v p q e. elim q [
      | inl h ↦ apart 0xFC 0xFD (n ∷ 0 ∷ tail) (n ∷ 0 ∷ 0 ∷ tail) u v f g (λ k. omega (arith, k)) p h e
      | inr h ↦ apart 0xFC 0xFE (n ∷ 0 ∷ tail) (n ∷ 0 ∷ 0 ∷ 0 ∷ 0 ∷ 0 ∷ 0 ∷ 0 ∷ tail) u v f g (λ k. omega (arith, k)) p h e
    ]) in
    either_field (Lit (n ∷ tail)) (Either (Lit (two_form n tail)) (Either (Lit (three_form n tail)) (Lit (eight_form n tail)))) (literal_at (n ∷ tail))
    (λ (bytes : List ℕ). or_else (literal_at (two_form n tail) bytes) (or_else (literal_at (three_form n tail) bytes) (literal_at (eight_form n tail) bytes))) a bcd
    (λ x y f g u v p q e. elim q [
      | inl h ↦ apart n 0xFC tail (n ∷ 0 ∷ tail) u v f g (λ k. omega (arith, k)) p h e
      | inr r ↦ elim r [
        | inl h ↦ apart n 0xFD tail (n ∷ 0 ∷ 0 ∷ tail) u v f g (λ k. omega (arith, k)) p h e
        | inr h ↦ apart n 0xFE tail (n ∷ 0 ∷ 0 ∷ 0 ∷ 0 ∷ 0 ∷ 0 ∷ 0 ∷ tail) u v f g (λ k. omega (arith, k)) p h e
      ]
    ])

-- the number, and then the tail
abbrev Small : ℕ → List ℕ → List ℕ → Type 0
Small n tail = Then (IsNumber n) (IsExactly tail)

forms_small : (n : ℕ) (tail : List ℕ) → n < 251 → (x : Unit {0}) (bytes : List ℕ) → Forms n tail x bytes → Small n tail bytes
forms_small n tail lt x bytes (inl e) = record { front = n ∷ []; rest = tail; whole = e; first = inl (lt, refl, refl); second = refl }
forms_small n tail lt x bytes (inr (inl e)) = record { front = two_form n []; rest = tail; whole = e; first = inr (refl, omega arith); second = refl }
forms_small n tail lt x bytes (inr (inr (inl e))) = record { front = three_form n []; rest = tail; whole = e; first = inr (refl, omega arith); second = refl }
forms_small n tail lt x bytes (inr (inr (inr e))) = record { front = eight_form n []; rest = tail; whole = e; first = inr (refl, omega arith); second = refl }

form_width : (lead w : ℕ) → width_of lead ≡ Some w → ((lead ≡ 0xFC) × (w ≡ 2)) ⊎ (((lead ≡ 0xFD) × (w ≡ 3)) ⊎ ((lead ≡ 0xFE) × (w ≡ 8)))
form_width lead w e =
    elim (chosen (lead == 0xFC) (Some 2) (cond (lead == 0xFD) (Some 3) (cond (lead == 0xFE) (Some 8) None)) (Some w) e) [
      | inl h ↦ inl (eqb-true lead 0xFC h.0, (let k : Some 2 ≡ Some w = h.1 in cc))
      | inr h ↦ elim (chosen (lead == 0xFD) (Some 3) (cond (lead == 0xFE) (Some 8) None) (Some w) h.1) [
        | inl i ↦ inr (inl (eqb-true lead 0xFD i.0, (let k : Some 3 ≡ Some w = i.1 in cc)))
        | inr i ↦ elim (chosen (lead == 0xFE) (Some 8) None (Some w) i.1) [
          | inl j ↦ inr (inr (eqb-true lead 0xFE j.0, (let k : Some 8 ≡ Some w = j.1 in cc)))
          | inr j ↦ absurd (let k : None ≡ Some w = j.1 in cc)
        ]
      ]
    ]

small_front : (n : ℕ) (tail front : List ℕ) → n < 251 → IsNumber n front → (x : Unit {0}) → Forms n tail x (front ++ tail)
small_front n tail [] lt h x = absurd h
small_front n tail (lead ∷ more) lt (inl h) x = inl (ap (λ (l : List ℕ). lead ∷ (l ++ tail)) h.1 ∙ ap (λ (k : ℕ). k ∷ tail) (sym h.2))
small_front n tail (lead ∷ more) lt (inr h) x =
    let w = has_width lead (length more) h.0 in
    let cells = small_cells n more (omega arith) w.some h.1 in
    elim (form_width lead (length more) h.0) [
      | inl k ↦ inr (inl (ap (λ (l : List ℕ). lead ∷ (l ++ tail)) (cells ∙ ap (λ (m : ℕ). n ∷ replicate (m - 1) 0) k.1) ∙ ap (λ (f : ℕ). f ∷ n ∷ 0 ∷ tail) k.0))
      | inr r ↦ elim r [
        | inl k ↦ inr (inr (inl (ap (λ (l : List ℕ). lead ∷ (l ++ tail)) (cells ∙ ap (λ (m : ℕ). n ∷ replicate (m - 1) 0) k.1) ∙ ap (λ (f : ℕ). f ∷ n ∷ 0 ∷ 0 ∷ tail) k.0)))
        | inr k ↦ inr (inr (inr (ap (λ (l : List ℕ). lead ∷ (l ++ tail)) (cells ∙ ap (λ (m : ℕ). n ∷ replicate (m - 1) 0) k.1) ∙ ap (λ (f : ℕ). f ∷ n ∷ 0 ∷ 0 ∷ 0 ∷ 0 ∷ 0 ∷ 0 ∷ 0 ∷ tail) k.0)))
      ]
    ]

small_field : (n : ℕ) (tail : List ℕ) → n < 251 → IsBytes tail → IsField (λ (x : Unit {0}) (bytes : List ℕ). Small n tail bytes) (small_at n tail)
small_field n tail lt fits =
    same_field (Forms n tail) (λ (x : Unit {0}) (bytes : List ℕ). Small n tail bytes) (small_at n tail) (forms_small n tail lt)
    (λ x bytes t. subst (Forms n tail x) (sym (t.whole ∙ ap (λ (l : List ℕ). t.front ++ l) t.second)) (small_front n tail t.front lt t.first x)) (forms_field n tail lt fits)

-- the number 0
zero_field : IsField (λ (x : Unit {0}) (bytes : List ℕ). IsNumber 0 bytes) (small_at 0 [])
zero_field =
    same_field (λ (x : Unit {0}) (bytes : List ℕ). Small 0 [] bytes) (λ (x : Unit {0}) (bytes : List ℕ). IsNumber 0 bytes) (small_at 0 [])
    (λ x bytes t. subst (IsNumber 0) (sym (t.whole ∙ ap (λ (l : List ℕ). t.front ++ l) t.second ∙ append-nil t.front)) t.first)
    (λ x bytes h. record { front = bytes; rest = []; whole = sym (append-nil bytes); first = h; second = refl }) (small_field 0 [] (omega arith) tt)

ascii_step : (x y z b : ℕ) → x < 128 → y < 128 → z < 128 → b < 128 → Step x y z b
ascii_step x y z b p q r s = first (omega arith, omega arith, omega arith) (inl s)

pub def_is_text : IsUtf8 (codes "def")
def_is_text =
    steps_utf8 (codes "def") (
      ascii_step 0 0 0 100 (omega arith) (omega arith) (omega arith) (omega arith),
      (ascii_step 0 0 100 101 (omega arith) (omega arith) (omega arith) (omega arith), (ascii_step 0 100 101 102 (omega arith) (omega arith) (omega arith) (omega arith), (omega arith, omega arith, omega arith))),
    )

-- the catalog of a definition
catalog_field : IsField (λ (x : Unit {0}) (bytes : List ℕ). IsText (codes "def") bytes) (small_at 3 (codes "def"))
catalog_field =
    same_field (λ (x : Unit {0}) (bytes : List ℕ). Small 3 (codes "def") bytes) (λ (x : Unit {0}) (bytes : List ℕ). IsText (codes "def") bytes) (small_at 3 (codes "def"))
    (λ x bytes t. record { front = t.front; rest = t.rest; whole = t.whole; first = t.first; second = (t.second, def_is_text) })
    (λ x bytes t. record { front = t.front; rest = t.rest; whole = t.whole; first = t.first; second = t.second.0 }) (small_field 3 (codes "def") (omega arith) (omega arith, (omega arith, (omega arith, tt))))

-- a text with its length
text_field : IsField IsText text_at
unfolding text_at
text_field =
    same_field (Both IsNumber (λ (n : ℕ). SizedAfter 0 0 0 n)) IsText text_at
    (λ t bytes h. record {
      front = h.1.front;
      rest = h.1.rest;
      whole = h.1.whole;
      first = subst (λ (n : ℕ). IsNumber n h.1.front) (sym h.1.second.sized) h.1.first;
      second = (h.1.second.whole, steps_utf8 t h.1.second.steps);
    })
    (λ t bytes h. (length t, record { front = h.front; rest = h.rest; whole = h.whole; first = h.first; second = record { whole = h.second.0; sized = refl; steps = utf8_steps t h.second.1 } }))
    (field_field IsNumber number_at (λ (n : ℕ). SizedAfter 0 0 0 n) (λ (n : ℕ). sized_after 0 0 0 n) number_field (λ n. sized_field n 0 0 0 start (omega arith)))

-- a text that NUL ends
nul_text_field : IsField IsNulText (nul_after 0 0 0)
nul_text_field =
    same_field (NulAfter 0 0 0) IsNulText (nul_after 0 0 0) (λ t bytes h. record { whole = h.whole; no_nul = h.no_nul; utf8 = steps_utf8 t h.steps })
    (λ t bytes h. record { whole = h.whole; no_nul = h.no_nul; steps = utf8_steps t h.utf8 }) (nul_field 0 0 0 start)

-- a text that the bytes end
whole_text_message : IsMessage IsUtf8Of (all_after 0 0 0)
whole_text_message =
    same_message (AllAfter 0 0 0) IsUtf8Of (all_after 0 0 0) (λ t bytes h. (h.whole, steps_utf8 t h.steps)) (λ t bytes h. record { whole = h.0; steps = utf8_steps t h.1 }) (all_message 0 0 0 start)

-- ---- payloads

-- an OK
abbrev pub OkReply : Reply → List ℕ → Type 0
OkReply y bytes = (affected : ℕ) × (status : ℕ) × (warnings : ℕ) × (y ≡ replies.Ok affected status warnings) × IsOkPacket affected status warnings bytes

abbrev ok_chain : Reply → List ℕ → Type 0
ok_chain = Both (Lit (0 ∷ [])) (λ (x0 : Unit {0}). Both IsNumber (λ (affected : ℕ). Both (λ (x : Unit {0}) (b : List ℕ). IsNumber 0 b) (λ (x1 : Unit {0}). Both (IsInt 2) (λ (status : ℕ). Both (IsInt 2) (λ (warnings : ℕ). λ (y : Reply) (b : List ℕ). (y ≡ replies.Ok affected status warnings) × IsEnd b)))))

ok_to : (y : Reply) (bytes : List ℕ) → ok_chain y bytes → OkReply y bytes
ok_to y bytes h = (h.1.second.0, h.1.second.1.second.1.second.0, h.1.second.1.second.1.second.1.second.0, h.1.second.1.second.1.second.1.second.1.second.0, record { front = h.1.front; rest = h.1.rest; whole = h.1.whole; first = h.1.first; second = record { front = h.1.second.1.front; rest = h.1.second.1.rest; whole = h.1.second.1.whole; first = h.1.second.1.first; second = record { front = h.1.second.1.second.1.front; rest = h.1.second.1.second.1.rest; whole = h.1.second.1.second.1.whole; first = h.1.second.1.second.1.first; second = record { front = h.1.second.1.second.1.second.1.front; rest = h.1.second.1.second.1.second.1.rest; whole = h.1.second.1.second.1.second.1.whole; first = h.1.second.1.second.1.second.1.first; second = record { front = h.1.second.1.second.1.second.1.second.1.front; rest = h.1.second.1.second.1.second.1.second.1.rest; whole = h.1.second.1.second.1.second.1.second.1.whole; first = h.1.second.1.second.1.second.1.second.1.first; second = h.1.second.1.second.1.second.1.second.1.second.1 } } } } })

ok_from : (y : Reply) (bytes : List ℕ) → OkReply y bytes → ok_chain y bytes
ok_from y bytes h = (tt, record { front = h.4.front; rest = h.4.rest; whole = h.4.whole; first = h.4.first; second = (h.0, record { front = h.4.second.front; rest = h.4.second.rest; whole = h.4.second.whole; first = h.4.second.first; second = (tt, record { front = h.4.second.second.front; rest = h.4.second.second.rest; whole = h.4.second.second.whole; first = h.4.second.second.first; second = (h.1, record { front = h.4.second.second.second.front; rest = h.4.second.second.second.rest; whole = h.4.second.second.second.whole; first = h.4.second.second.second.first; second = (h.2, record { front = h.4.second.second.second.second.front; rest = h.4.second.second.second.second.rest; whole = h.4.second.second.second.second.whole; first = h.4.second.second.second.second.first; second = (h.3, h.4.second.second.second.second.second) }) }) }) }) })

pub ok_message : IsMessage OkReply ok_at
unfolding ok_at
ok_message = same_message ok_chain OkReply ok_at ok_to ok_from (field_then (Lit (0 ∷ [])) (literal_at (0 ∷ [])) (λ (x0 : Unit {0}). Both IsNumber (λ (affected : ℕ). Both (λ (x : Unit {0}) (b : List ℕ). IsNumber 0 b) (λ (x1 : Unit {0}). Both (IsInt 2) (λ (status : ℕ). Both (IsInt 2) (λ (warnings : ℕ). λ (y : Reply) (b : List ℕ). (y ≡ replies.Ok affected status warnings) × IsEnd b))))) (λ (x0 : Unit {0}) (b0 : List ℕ). (number_at b0 >>= λ q1. ((small_at 0 []) q1.1 >>= λ q2. ((int_at 2) q2.1 >>= λ q3. ((int_at 2) q3.1 >>= λ q4. end_at (replies.Ok q1.0 q3.0 q4.0) q4.1))))) (literal_field (0 ∷ []) (omega arith, tt)) (λ x0. (field_then IsNumber number_at (λ (affected : ℕ). Both (λ (x : Unit {0}) (b : List ℕ). IsNumber 0 b) (λ (x1 : Unit {0}). Both (IsInt 2) (λ (status : ℕ). Both (IsInt 2) (λ (warnings : ℕ). λ (y : Reply) (b : List ℕ). (y ≡ replies.Ok affected status warnings) × IsEnd b)))) (λ (affected : ℕ) (b1 : List ℕ). ((small_at 0 []) b1 >>= λ q2. ((int_at 2) q2.1 >>= λ q3. ((int_at 2) q3.1 >>= λ q4. end_at (replies.Ok affected q3.0 q4.0) q4.1)))) number_field (λ affected. (field_then (λ (x : Unit {0}) (b : List ℕ). IsNumber 0 b) (small_at 0 []) (λ (x1 : Unit {0}). Both (IsInt 2) (λ (status : ℕ). Both (IsInt 2) (λ (warnings : ℕ). λ (y : Reply) (b : List ℕ). (y ≡ replies.Ok affected status warnings) × IsEnd b))) (λ (x1 : Unit {0}) (b2 : List ℕ). ((int_at 2) b2 >>= λ q3. ((int_at 2) q3.1 >>= λ q4. end_at (replies.Ok affected q3.0 q4.0) q4.1))) zero_field (λ x1. (field_then (IsInt 2) (int_at 2) (λ (status : ℕ). Both (IsInt 2) (λ (warnings : ℕ). λ (y : Reply) (b : List ℕ). (y ≡ replies.Ok affected status warnings) × IsEnd b)) (λ (status : ℕ) (b3 : List ℕ). ((int_at 2) b3 >>= λ q4. end_at (replies.Ok affected status q4.0) q4.1)) (int_field 2) (λ status. (field_then (IsInt 2) (int_at 2) (λ (warnings : ℕ). λ (y : Reply) (b : List ℕ). (y ≡ replies.Ok affected status warnings) × IsEnd b) (λ (warnings : ℕ) (b4 : List ℕ). end_at (replies.Ok affected status warnings) b4) (int_field 2) (λ warnings. end_message (replies.Ok affected status warnings)))))))))))

-- an ERR
abbrev pub ErrReply : Reply → List ℕ → Type 0
ErrReply y bytes = (number : ℕ) × (state : List ℕ) × (message : List ℕ) × (y ≡ replies.Err number state message) × IsErrPacket number state message bytes

abbrev err_chain : Reply → List ℕ → Type 0
err_chain = Both (Lit (0xFF ∷ [])) (λ (x0 : Unit {0}). Both (IsInt 2) (λ (number : ℕ). Both (Lit (codes "#")) (λ (x1 : Unit {0}). Both (IsFixed 5) (λ (state : List ℕ). λ (y : Reply) (b : List ℕ). (m : List ℕ) × (y ≡ replies.Err number state m) × IsUtf8Of m b))))

err_to : (y : Reply) (bytes : List ℕ) → err_chain y bytes → ErrReply y bytes
err_to y bytes h = (h.1.second.0, h.1.second.1.second.1.second.0, h.1.second.1.second.1.second.1.second.0, h.1.second.1.second.1.second.1.second.1, record { front = h.1.front; rest = h.1.rest; whole = h.1.whole; first = h.1.first; second = record { front = h.1.second.1.front; rest = h.1.second.1.rest; whole = h.1.second.1.whole; first = h.1.second.1.first; second = record { front = h.1.second.1.second.1.front; rest = h.1.second.1.second.1.rest; whole = h.1.second.1.second.1.whole; first = h.1.second.1.second.1.first; second = record { front = h.1.second.1.second.1.second.1.front; rest = h.1.second.1.second.1.second.1.rest; whole = h.1.second.1.second.1.second.1.whole; first = h.1.second.1.second.1.second.1.first; second = h.1.second.1.second.1.second.1.second.2 } } } })

err_from : (y : Reply) (bytes : List ℕ) → ErrReply y bytes → err_chain y bytes
err_from y bytes h = (tt, record { front = h.4.front; rest = h.4.rest; whole = h.4.whole; first = h.4.first; second = (h.0, record { front = h.4.second.front; rest = h.4.second.rest; whole = h.4.second.whole; first = h.4.second.first; second = (tt, record { front = h.4.second.second.front; rest = h.4.second.second.rest; whole = h.4.second.second.whole; first = h.4.second.second.first; second = (h.1, record { front = h.4.second.second.second.front; rest = h.4.second.second.second.rest; whole = h.4.second.second.second.whole; first = h.4.second.second.second.first; second = (h.2, h.3, h.4.second.second.second.second) }) }) }) })

pub err_message : IsMessage ErrReply err_at
unfolding err_at
err_message = same_message err_chain ErrReply err_at err_to err_from (field_then (Lit (0xFF ∷ [])) (literal_at (0xFF ∷ [])) (λ (x0 : Unit {0}). Both (IsInt 2) (λ (number : ℕ). Both (Lit (codes "#")) (λ (x1 : Unit {0}). Both (IsFixed 5) (λ (state : List ℕ). λ (y : Reply) (b : List ℕ). (m : List ℕ) × (y ≡ replies.Err number state m) × IsUtf8Of m b)))) (λ (x0 : Unit {0}) (b0 : List ℕ). ((int_at 2) b0 >>= λ q1. ((literal_at (codes "#")) q1.1 >>= λ q2. ((fixed_at 5) q2.1 >>= λ q3. (all_after 0 0 0 q3.1 >>= λ m. Ok (replies.Err q1.0 q3.0 m)))))) (literal_field (0xFF ∷ []) (omega arith, tt)) (λ x0. (field_then (IsInt 2) (int_at 2) (λ (number : ℕ). Both (Lit (codes "#")) (λ (x1 : Unit {0}). Both (IsFixed 5) (λ (state : List ℕ). λ (y : Reply) (b : List ℕ). (m : List ℕ) × (y ≡ replies.Err number state m) × IsUtf8Of m b))) (λ (number : ℕ) (b1 : List ℕ). ((literal_at (codes "#")) b1 >>= λ q2. ((fixed_at 5) q2.1 >>= λ q3. (all_after 0 0 0 q3.1 >>= λ m. Ok (replies.Err number q3.0 m))))) (int_field 2) (λ number. (field_then (Lit (codes "#")) (literal_at (codes "#")) (λ (x1 : Unit {0}). Both (IsFixed 5) (λ (state : List ℕ). λ (y : Reply) (b : List ℕ). (m : List ℕ) × (y ≡ replies.Err number state m) × IsUtf8Of m b)) (λ (x1 : Unit {0}) (b2 : List ℕ). ((fixed_at 5) b2 >>= λ q3. (all_after 0 0 0 q3.1 >>= λ m. Ok (replies.Err number q3.0 m)))) (literal_field (codes "#") (omega arith, tt)) (λ x1. (field_then (IsFixed 5) (fixed_at 5) (λ (state : List ℕ). λ (y : Reply) (b : List ℕ). (m : List ℕ) × (y ≡ replies.Err number state m) × IsUtf8Of m b) (λ (state : List ℕ) (b3 : List ℕ). (all_after 0 0 0 b3 >>= λ m. Ok (replies.Err number state m))) (fixed_field 5) (λ state. message_as (λ m. replies.Err number state m) IsUtf8Of (all_after 0 0 0) whole_text_message))))))))

-- a request to log in by another plugin
abbrev pub SwitchReply : Reply → List ℕ → Type 0
SwitchReply y bytes = (plugin : List ℕ) × (nonce : List ℕ) × (y ≡ replies.Switch plugin nonce) × IsSwitchRequest plugin nonce bytes

abbrev switch_chain : Reply → List ℕ → Type 0
switch_chain = Both (Lit (0xFE ∷ [])) (λ (x0 : Unit {0}). Both IsNulText (λ (plugin : List ℕ). Both (IsFixed 20) (λ (nonce : List ℕ). Both (Lit (0 ∷ [])) (λ (x1 : Unit {0}). λ (y : Reply) (b : List ℕ). (y ≡ replies.Switch plugin nonce) × IsEnd b))))

switch_to : (y : Reply) (bytes : List ℕ) → switch_chain y bytes → SwitchReply y bytes
switch_to y bytes h = (h.1.second.0, h.1.second.1.second.0, h.1.second.1.second.1.second.1.second.0, record { front = h.1.front; rest = h.1.rest; whole = h.1.whole; first = h.1.first; second = record { front = h.1.second.1.front; rest = h.1.second.1.rest; whole = h.1.second.1.whole; first = h.1.second.1.first; second = record { front = h.1.second.1.second.1.front; rest = h.1.second.1.second.1.rest; whole = h.1.second.1.second.1.whole; first = h.1.second.1.second.1.first; second = record { front = h.1.second.1.second.1.second.1.front; rest = h.1.second.1.second.1.second.1.rest; whole = h.1.second.1.second.1.second.1.whole; first = h.1.second.1.second.1.second.1.first; second = h.1.second.1.second.1.second.1.second.1 } } } })

switch_from : (y : Reply) (bytes : List ℕ) → SwitchReply y bytes → switch_chain y bytes
switch_from y bytes h = (tt, record { front = h.3.front; rest = h.3.rest; whole = h.3.whole; first = h.3.first; second = (h.0, record { front = h.3.second.front; rest = h.3.second.rest; whole = h.3.second.whole; first = h.3.second.first; second = (h.1, record { front = h.3.second.second.front; rest = h.3.second.second.rest; whole = h.3.second.second.whole; first = h.3.second.second.first; second = (tt, record { front = h.3.second.second.second.front; rest = h.3.second.second.second.rest; whole = h.3.second.second.second.whole; first = h.3.second.second.second.first; second = (h.2, h.3.second.second.second.second) }) }) }) })

pub switch_message : IsMessage SwitchReply switch_at
unfolding switch_at
switch_message = same_message switch_chain SwitchReply switch_at switch_to switch_from (field_then (Lit (0xFE ∷ [])) (literal_at (0xFE ∷ [])) (λ (x0 : Unit {0}). Both IsNulText (λ (plugin : List ℕ). Both (IsFixed 20) (λ (nonce : List ℕ). Both (Lit (0 ∷ [])) (λ (x1 : Unit {0}). λ (y : Reply) (b : List ℕ). (y ≡ replies.Switch plugin nonce) × IsEnd b)))) (λ (x0 : Unit {0}) (b0 : List ℕ). ((nul_after 0 0 0) b0 >>= λ q1. ((fixed_at 20) q1.1 >>= λ q2. ((literal_at (0 ∷ [])) q2.1 >>= λ q3. end_at (replies.Switch q1.0 q2.0) q3.1)))) (literal_field (0xFE ∷ []) (omega arith, tt)) (λ x0. (field_then IsNulText (nul_after 0 0 0) (λ (plugin : List ℕ). Both (IsFixed 20) (λ (nonce : List ℕ). Both (Lit (0 ∷ [])) (λ (x1 : Unit {0}). λ (y : Reply) (b : List ℕ). (y ≡ replies.Switch plugin nonce) × IsEnd b))) (λ (plugin : List ℕ) (b1 : List ℕ). ((fixed_at 20) b1 >>= λ q2. ((literal_at (0 ∷ [])) q2.1 >>= λ q3. end_at (replies.Switch plugin q2.0) q3.1))) nul_text_field (λ plugin. (field_then (IsFixed 20) (fixed_at 20) (λ (nonce : List ℕ). Both (Lit (0 ∷ [])) (λ (x1 : Unit {0}). λ (y : Reply) (b : List ℕ). (y ≡ replies.Switch plugin nonce) × IsEnd b)) (λ (nonce : List ℕ) (b2 : List ℕ). ((literal_at (0 ∷ [])) b2 >>= λ q3. end_at (replies.Switch plugin nonce) q3.1)) (fixed_field 20) (λ nonce. (field_then (Lit (0 ∷ [])) (literal_at (0 ∷ [])) (λ (x1 : Unit {0}). λ (y : Reply) (b : List ℕ). (y ≡ replies.Switch plugin nonce) × IsEnd b) (λ (x1 : Unit {0}) (b3 : List ℕ). end_at (replies.Switch plugin nonce) b3) (literal_field (0 ∷ []) (omega arith, tt)) (λ x1. end_message (replies.Switch plugin nonce)))))))))

-- an EOF

abbrev eof_chain : ℕ → List ℕ → Type 0
eof_chain = Both (Lit (0xFE ∷ [])) (λ (x0 : Unit {0}). Both (IsFixed 2) (λ (warnings : List ℕ). Both (IsInt 2) (λ (status : ℕ). λ (y : ℕ) (b : List ℕ). (y ≡ status) × IsEnd b)))

eof_to : (y : ℕ) (bytes : List ℕ) → eof_chain y bytes → IsEofPacket y bytes
eof_to y bytes h = subst (λ (n : ℕ). IsEofPacket n bytes) (sym h.1.second.1.second.1.second.0) (record { front = h.1.front; rest = h.1.rest; whole = h.1.whole; first = h.1.first; second = record { front = h.1.second.1.front; rest = h.1.second.1.rest; whole = h.1.second.1.whole; first = ap length h.1.second.1.first.0 ∙ h.1.second.1.first.1; second = record { front = h.1.second.1.second.1.front; rest = h.1.second.1.second.1.rest; whole = h.1.second.1.second.1.whole; first = h.1.second.1.second.1.first; second = h.1.second.1.second.1.second.1 } } })

eof_from : (y : ℕ) (bytes : List ℕ) → IsEofPacket y bytes → eof_chain y bytes
eof_from y bytes h = (tt, record { front = h.front; rest = h.rest; whole = h.whole; first = h.first; second = (h.second.front, record { front = h.second.front; rest = h.second.rest; whole = h.second.whole; first = (refl, h.second.first); second = (y, record { front = h.second.second.front; rest = h.second.second.rest; whole = h.second.second.whole; first = h.second.second.first; second = (refl, h.second.second.second) }) }) })

pub eof_message : IsMessage IsEofPacket eof_at
unfolding eof_at
eof_message = same_message eof_chain IsEofPacket eof_at eof_to eof_from (field_then (Lit (0xFE ∷ [])) (literal_at (0xFE ∷ [])) (λ (x0 : Unit {0}). Both (IsFixed 2) (λ (warnings : List ℕ). Both (IsInt 2) (λ (status : ℕ). λ (y : ℕ) (b : List ℕ). (y ≡ status) × IsEnd b))) (λ (x0 : Unit {0}) (b0 : List ℕ). ((fixed_at 2) b0 >>= λ q1. ((int_at 2) q1.1 >>= λ q2. end_at (q2.0) q2.1))) (literal_field (0xFE ∷ []) (omega arith, tt)) (λ x0. (field_then (IsFixed 2) (fixed_at 2) (λ (warnings : List ℕ). Both (IsInt 2) (λ (status : ℕ). λ (y : ℕ) (b : List ℕ). (y ≡ status) × IsEnd b)) (λ (warnings : List ℕ) (b1 : List ℕ). ((int_at 2) b1 >>= λ q2. end_at (q2.0) q2.1)) (fixed_field 2) (λ warnings. (field_then (IsInt 2) (int_at 2) (λ (status : ℕ). λ (y : ℕ) (b : List ℕ). (y ≡ status) × IsEnd b) (λ (status : ℕ) (b2 : List ℕ). end_at (status) b2) (int_field 2) (λ status. end_message (status)))))))

-- a column's definition

abbrev column_of : List ℕ → List ℕ → List ℕ → List ℕ → List ℕ → ℕ → ℕ → ℕ → ℕ → Column
column_of s t u n o c w k f = record { schema = s; table = t; org_table = u; name = n; org_name = o; charset = c; length = w; kind = k; flags = f }

abbrev definition_chain : Column → List ℕ → Type 0
definition_chain = Both (λ (x : Unit {0}) (b : List ℕ). IsText (codes "def") b) (λ (x0 : Unit {0}). Both IsText (λ (schema : List ℕ). Both IsText (λ (table : List ℕ). Both IsText (λ (org_table : List ℕ). Both IsText (λ (name : List ℕ). Both IsText (λ (org_name : List ℕ). Both (Lit (0x0C ∷ [])) (λ (x1 : Unit {0}). Both (IsInt 2) (λ (charset : ℕ). Both (IsInt 4) (λ (width : ℕ). Both (IsInt 1) (λ (kind : ℕ). Both (IsInt 2) (λ (flags : ℕ). Both (Lit (0 ∷ 0 ∷ 0 ∷ [])) (λ (x2 : Unit {0}). λ (y : Column) (b : List ℕ). (y ≡ column_of schema table org_table name org_name charset width kind flags) × IsEnd b))))))))))))

definition_to : (y : Column) (bytes : List ℕ) → definition_chain y bytes → IsDefinition y bytes
definition_to y bytes h = subst (λ (c : Column). IsDefinition c bytes) (sym h.1.second.1.second.1.second.1.second.1.second.1.second.1.second.1.second.1.second.1.second.1.second.1.second.0) (record { front = h.1.front; rest = h.1.rest; whole = h.1.whole; first = h.1.first; second = record { front = h.1.second.1.front; rest = h.1.second.1.rest; whole = h.1.second.1.whole; first = h.1.second.1.first; second = record { front = h.1.second.1.second.1.front; rest = h.1.second.1.second.1.rest; whole = h.1.second.1.second.1.whole; first = h.1.second.1.second.1.first; second = record { front = h.1.second.1.second.1.second.1.front; rest = h.1.second.1.second.1.second.1.rest; whole = h.1.second.1.second.1.second.1.whole; first = h.1.second.1.second.1.second.1.first; second = record { front = h.1.second.1.second.1.second.1.second.1.front; rest = h.1.second.1.second.1.second.1.second.1.rest; whole = h.1.second.1.second.1.second.1.second.1.whole; first = h.1.second.1.second.1.second.1.second.1.first; second = record { front = h.1.second.1.second.1.second.1.second.1.second.1.front; rest = h.1.second.1.second.1.second.1.second.1.second.1.rest; whole = h.1.second.1.second.1.second.1.second.1.second.1.whole; first = h.1.second.1.second.1.second.1.second.1.second.1.first; second = record { front = h.1.second.1.second.1.second.1.second.1.second.1.second.1.front; rest = h.1.second.1.second.1.second.1.second.1.second.1.second.1.rest; whole = h.1.second.1.second.1.second.1.second.1.second.1.second.1.whole; first = h.1.second.1.second.1.second.1.second.1.second.1.second.1.first; second = record { front = h.1.second.1.second.1.second.1.second.1.second.1.second.1.second.1.front; rest = h.1.second.1.second.1.second.1.second.1.second.1.second.1.second.1.rest; whole = h.1.second.1.second.1.second.1.second.1.second.1.second.1.second.1.whole; first = h.1.second.1.second.1.second.1.second.1.second.1.second.1.second.1.first; second = record { front = h.1.second.1.second.1.second.1.second.1.second.1.second.1.second.1.second.1.front; rest = h.1.second.1.second.1.second.1.second.1.second.1.second.1.second.1.second.1.rest; whole = h.1.second.1.second.1.second.1.second.1.second.1.second.1.second.1.second.1.whole; first = h.1.second.1.second.1.second.1.second.1.second.1.second.1.second.1.second.1.first; second = record { front = h.1.second.1.second.1.second.1.second.1.second.1.second.1.second.1.second.1.second.1.front; rest = h.1.second.1.second.1.second.1.second.1.second.1.second.1.second.1.second.1.second.1.rest; whole = h.1.second.1.second.1.second.1.second.1.second.1.second.1.second.1.second.1.second.1.whole; first = h.1.second.1.second.1.second.1.second.1.second.1.second.1.second.1.second.1.second.1.first; second = record { front = h.1.second.1.second.1.second.1.second.1.second.1.second.1.second.1.second.1.second.1.second.1.front; rest = h.1.second.1.second.1.second.1.second.1.second.1.second.1.second.1.second.1.second.1.second.1.rest; whole = h.1.second.1.second.1.second.1.second.1.second.1.second.1.second.1.second.1.second.1.second.1.whole; first = h.1.second.1.second.1.second.1.second.1.second.1.second.1.second.1.second.1.second.1.second.1.first; second = record { front = h.1.second.1.second.1.second.1.second.1.second.1.second.1.second.1.second.1.second.1.second.1.second.1.front; rest = h.1.second.1.second.1.second.1.second.1.second.1.second.1.second.1.second.1.second.1.second.1.second.1.rest; whole = h.1.second.1.second.1.second.1.second.1.second.1.second.1.second.1.second.1.second.1.second.1.second.1.whole; first = h.1.second.1.second.1.second.1.second.1.second.1.second.1.second.1.second.1.second.1.second.1.second.1.first; second = h.1.second.1.second.1.second.1.second.1.second.1.second.1.second.1.second.1.second.1.second.1.second.1.second.1 } } } } } } } } } } } })

definition_from : (y : Column) (bytes : List ℕ) → IsDefinition y bytes → definition_chain y bytes
definition_from y bytes h = (tt, record { front = h.front; rest = h.rest; whole = h.whole; first = h.first; second = (y.schema, record { front = h.second.front; rest = h.second.rest; whole = h.second.whole; first = h.second.first; second = (y.table, record { front = h.second.second.front; rest = h.second.second.rest; whole = h.second.second.whole; first = h.second.second.first; second = (y.org_table, record { front = h.second.second.second.front; rest = h.second.second.second.rest; whole = h.second.second.second.whole; first = h.second.second.second.first; second = (y.name, record { front = h.second.second.second.second.front; rest = h.second.second.second.second.rest; whole = h.second.second.second.second.whole; first = h.second.second.second.second.first; second = (y.org_name, record { front = h.second.second.second.second.second.front; rest = h.second.second.second.second.second.rest; whole = h.second.second.second.second.second.whole; first = h.second.second.second.second.second.first; second = (tt, record { front = h.second.second.second.second.second.second.front; rest = h.second.second.second.second.second.second.rest; whole = h.second.second.second.second.second.second.whole; first = h.second.second.second.second.second.second.first; second = (y.charset, record { front = h.second.second.second.second.second.second.second.front; rest = h.second.second.second.second.second.second.second.rest; whole = h.second.second.second.second.second.second.second.whole; first = h.second.second.second.second.second.second.second.first; second = (y.length, record { front = h.second.second.second.second.second.second.second.second.front; rest = h.second.second.second.second.second.second.second.second.rest; whole = h.second.second.second.second.second.second.second.second.whole; first = h.second.second.second.second.second.second.second.second.first; second = (y.kind, record { front = h.second.second.second.second.second.second.second.second.second.front; rest = h.second.second.second.second.second.second.second.second.second.rest; whole = h.second.second.second.second.second.second.second.second.second.whole; first = h.second.second.second.second.second.second.second.second.second.first; second = (y.flags, record { front = h.second.second.second.second.second.second.second.second.second.second.front; rest = h.second.second.second.second.second.second.second.second.second.second.rest; whole = h.second.second.second.second.second.second.second.second.second.second.whole; first = h.second.second.second.second.second.second.second.second.second.second.first; second = (tt, record { front = h.second.second.second.second.second.second.second.second.second.second.second.front; rest = h.second.second.second.second.second.second.second.second.second.second.second.rest; whole = h.second.second.second.second.second.second.second.second.second.second.second.whole; first = h.second.second.second.second.second.second.second.second.second.second.second.first; second = (refl, h.second.second.second.second.second.second.second.second.second.second.second.second) }) }) }) }) }) }) }) }) }) }) }) })

pub definition_message : IsMessage IsDefinition definition_at
unfolding definition_at
definition_message = same_message definition_chain IsDefinition definition_at definition_to definition_from (field_then (λ (x : Unit {0}) (b : List ℕ). IsText (codes "def") b) (small_at 3 (codes "def")) (λ (x0 : Unit {0}). Both IsText (λ (schema : List ℕ). Both IsText (λ (table : List ℕ). Both IsText (λ (org_table : List ℕ). Both IsText (λ (name : List ℕ). Both IsText (λ (org_name : List ℕ). Both (Lit (0x0C ∷ [])) (λ (x1 : Unit {0}). Both (IsInt 2) (λ (charset : ℕ). Both (IsInt 4) (λ (width : ℕ). Both (IsInt 1) (λ (kind : ℕ). Both (IsInt 2) (λ (flags : ℕ). Both (Lit (0 ∷ 0 ∷ 0 ∷ [])) (λ (x2 : Unit {0}). λ (y : Column) (b : List ℕ). (y ≡ column_of schema table org_table name org_name charset width kind flags) × IsEnd b)))))))))))) (λ (x0 : Unit {0}) (b0 : List ℕ). (text_at b0 >>= λ q1. (text_at q1.1 >>= λ q2. (text_at q2.1 >>= λ q3. (text_at q3.1 >>= λ q4. (text_at q4.1 >>= λ q5. ((literal_at (0x0C ∷ [])) q5.1 >>= λ q6. ((int_at 2) q6.1 >>= λ q7. ((int_at 4) q7.1 >>= λ q8. ((int_at 1) q8.1 >>= λ q9. ((int_at 2) q9.1 >>= λ q10. ((literal_at (0 ∷ 0 ∷ 0 ∷ [])) q10.1 >>= λ q11. end_at (column_of q1.0 q2.0 q3.0 q4.0 q5.0 q7.0 q8.0 q9.0 q10.0) q11.1)))))))))))) catalog_field (λ x0. (field_then IsText text_at (λ (schema : List ℕ). Both IsText (λ (table : List ℕ). Both IsText (λ (org_table : List ℕ). Both IsText (λ (name : List ℕ). Both IsText (λ (org_name : List ℕ). Both (Lit (0x0C ∷ [])) (λ (x1 : Unit {0}). Both (IsInt 2) (λ (charset : ℕ). Both (IsInt 4) (λ (width : ℕ). Both (IsInt 1) (λ (kind : ℕ). Both (IsInt 2) (λ (flags : ℕ). Both (Lit (0 ∷ 0 ∷ 0 ∷ [])) (λ (x2 : Unit {0}). λ (y : Column) (b : List ℕ). (y ≡ column_of schema table org_table name org_name charset width kind flags) × IsEnd b))))))))))) (λ (schema : List ℕ) (b1 : List ℕ). (text_at b1 >>= λ q2. (text_at q2.1 >>= λ q3. (text_at q3.1 >>= λ q4. (text_at q4.1 >>= λ q5. ((literal_at (0x0C ∷ [])) q5.1 >>= λ q6. ((int_at 2) q6.1 >>= λ q7. ((int_at 4) q7.1 >>= λ q8. ((int_at 1) q8.1 >>= λ q9. ((int_at 2) q9.1 >>= λ q10. ((literal_at (0 ∷ 0 ∷ 0 ∷ [])) q10.1 >>= λ q11. end_at (column_of schema q2.0 q3.0 q4.0 q5.0 q7.0 q8.0 q9.0 q10.0) q11.1))))))))))) text_field (λ schema. (field_then IsText text_at (λ (table : List ℕ). Both IsText (λ (org_table : List ℕ). Both IsText (λ (name : List ℕ). Both IsText (λ (org_name : List ℕ). Both (Lit (0x0C ∷ [])) (λ (x1 : Unit {0}). Both (IsInt 2) (λ (charset : ℕ). Both (IsInt 4) (λ (width : ℕ). Both (IsInt 1) (λ (kind : ℕ). Both (IsInt 2) (λ (flags : ℕ). Both (Lit (0 ∷ 0 ∷ 0 ∷ [])) (λ (x2 : Unit {0}). λ (y : Column) (b : List ℕ). (y ≡ column_of schema table org_table name org_name charset width kind flags) × IsEnd b)))))))))) (λ (table : List ℕ) (b2 : List ℕ). (text_at b2 >>= λ q3. (text_at q3.1 >>= λ q4. (text_at q4.1 >>= λ q5. ((literal_at (0x0C ∷ [])) q5.1 >>= λ q6. ((int_at 2) q6.1 >>= λ q7. ((int_at 4) q7.1 >>= λ q8. ((int_at 1) q8.1 >>= λ q9. ((int_at 2) q9.1 >>= λ q10. ((literal_at (0 ∷ 0 ∷ 0 ∷ [])) q10.1 >>= λ q11. end_at (column_of schema table q3.0 q4.0 q5.0 q7.0 q8.0 q9.0 q10.0) q11.1)))))))))) text_field (λ table. (field_then IsText text_at (λ (org_table : List ℕ). Both IsText (λ (name : List ℕ). Both IsText (λ (org_name : List ℕ). Both (Lit (0x0C ∷ [])) (λ (x1 : Unit {0}). Both (IsInt 2) (λ (charset : ℕ). Both (IsInt 4) (λ (width : ℕ). Both (IsInt 1) (λ (kind : ℕ). Both (IsInt 2) (λ (flags : ℕ). Both (Lit (0 ∷ 0 ∷ 0 ∷ [])) (λ (x2 : Unit {0}). λ (y : Column) (b : List ℕ). (y ≡ column_of schema table org_table name org_name charset width kind flags) × IsEnd b))))))))) (λ (org_table : List ℕ) (b3 : List ℕ). (text_at b3 >>= λ q4. (text_at q4.1 >>= λ q5. ((literal_at (0x0C ∷ [])) q5.1 >>= λ q6. ((int_at 2) q6.1 >>= λ q7. ((int_at 4) q7.1 >>= λ q8. ((int_at 1) q8.1 >>= λ q9. ((int_at 2) q9.1 >>= λ q10. ((literal_at (0 ∷ 0 ∷ 0 ∷ [])) q10.1 >>= λ q11. end_at (column_of schema table org_table q4.0 q5.0 q7.0 q8.0 q9.0 q10.0) q11.1))))))))) text_field (λ org_table. (field_then IsText text_at (λ (name : List ℕ). Both IsText (λ (org_name : List ℕ). Both (Lit (0x0C ∷ [])) (λ (x1 : Unit {0}). Both (IsInt 2) (λ (charset : ℕ). Both (IsInt 4) (λ (width : ℕ). Both (IsInt 1) (λ (kind : ℕ). Both (IsInt 2) (λ (flags : ℕ). Both (Lit (0 ∷ 0 ∷ 0 ∷ [])) (λ (x2 : Unit {0}). λ (y : Column) (b : List ℕ). (y ≡ column_of schema table org_table name org_name charset width kind flags) × IsEnd b)))))))) (λ (name : List ℕ) (b4 : List ℕ). (text_at b4 >>= λ q5. ((literal_at (0x0C ∷ [])) q5.1 >>= λ q6. ((int_at 2) q6.1 >>= λ q7. ((int_at 4) q7.1 >>= λ q8. ((int_at 1) q8.1 >>= λ q9. ((int_at 2) q9.1 >>= λ q10. ((literal_at (0 ∷ 0 ∷ 0 ∷ [])) q10.1 >>= λ q11. end_at (column_of schema table org_table name q5.0 q7.0 q8.0 q9.0 q10.0) q11.1)))))))) text_field (λ name. (field_then IsText text_at (λ (org_name : List ℕ). Both (Lit (0x0C ∷ [])) (λ (x1 : Unit {0}). Both (IsInt 2) (λ (charset : ℕ). Both (IsInt 4) (λ (width : ℕ). Both (IsInt 1) (λ (kind : ℕ). Both (IsInt 2) (λ (flags : ℕ). Both (Lit (0 ∷ 0 ∷ 0 ∷ [])) (λ (x2 : Unit {0}). λ (y : Column) (b : List ℕ). (y ≡ column_of schema table org_table name org_name charset width kind flags) × IsEnd b))))))) (λ (org_name : List ℕ) (b5 : List ℕ). ((literal_at (0x0C ∷ [])) b5 >>= λ q6. ((int_at 2) q6.1 >>= λ q7. ((int_at 4) q7.1 >>= λ q8. ((int_at 1) q8.1 >>= λ q9. ((int_at 2) q9.1 >>= λ q10. ((literal_at (0 ∷ 0 ∷ 0 ∷ [])) q10.1 >>= λ q11. end_at (column_of schema table org_table name org_name q7.0 q8.0 q9.0 q10.0) q11.1))))))) text_field (λ org_name. (field_then (Lit (0x0C ∷ [])) (literal_at (0x0C ∷ [])) (λ (x1 : Unit {0}). Both (IsInt 2) (λ (charset : ℕ). Both (IsInt 4) (λ (width : ℕ). Both (IsInt 1) (λ (kind : ℕ). Both (IsInt 2) (λ (flags : ℕ). Both (Lit (0 ∷ 0 ∷ 0 ∷ [])) (λ (x2 : Unit {0}). λ (y : Column) (b : List ℕ). (y ≡ column_of schema table org_table name org_name charset width kind flags) × IsEnd b)))))) (λ (x1 : Unit {0}) (b6 : List ℕ). ((int_at 2) b6 >>= λ q7. ((int_at 4) q7.1 >>= λ q8. ((int_at 1) q8.1 >>= λ q9. ((int_at 2) q9.1 >>= λ q10. ((literal_at (0 ∷ 0 ∷ 0 ∷ [])) q10.1 >>= λ q11. end_at (column_of schema table org_table name org_name q7.0 q8.0 q9.0 q10.0) q11.1)))))) (literal_field (0x0C ∷ []) (omega arith, tt)) (λ x1. (field_then (IsInt 2) (int_at 2) (λ (charset : ℕ). Both (IsInt 4) (λ (width : ℕ). Both (IsInt 1) (λ (kind : ℕ). Both (IsInt 2) (λ (flags : ℕ). Both (Lit (0 ∷ 0 ∷ 0 ∷ [])) (λ (x2 : Unit {0}). λ (y : Column) (b : List ℕ). (y ≡ column_of schema table org_table name org_name charset width kind flags) × IsEnd b))))) (λ (charset : ℕ) (b7 : List ℕ). ((int_at 4) b7 >>= λ q8. ((int_at 1) q8.1 >>= λ q9. ((int_at 2) q9.1 >>= λ q10. ((literal_at (0 ∷ 0 ∷ 0 ∷ [])) q10.1 >>= λ q11. end_at (column_of schema table org_table name org_name charset q8.0 q9.0 q10.0) q11.1))))) (int_field 2) (λ charset. (field_then (IsInt 4) (int_at 4) (λ (width : ℕ). Both (IsInt 1) (λ (kind : ℕ). Both (IsInt 2) (λ (flags : ℕ). Both (Lit (0 ∷ 0 ∷ 0 ∷ [])) (λ (x2 : Unit {0}). λ (y : Column) (b : List ℕ). (y ≡ column_of schema table org_table name org_name charset width kind flags) × IsEnd b)))) (λ (width : ℕ) (b8 : List ℕ). ((int_at 1) b8 >>= λ q9. ((int_at 2) q9.1 >>= λ q10. ((literal_at (0 ∷ 0 ∷ 0 ∷ [])) q10.1 >>= λ q11. end_at (column_of schema table org_table name org_name charset width q9.0 q10.0) q11.1)))) (int_field 4) (λ width. (field_then (IsInt 1) (int_at 1) (λ (kind : ℕ). Both (IsInt 2) (λ (flags : ℕ). Both (Lit (0 ∷ 0 ∷ 0 ∷ [])) (λ (x2 : Unit {0}). λ (y : Column) (b : List ℕ). (y ≡ column_of schema table org_table name org_name charset width kind flags) × IsEnd b))) (λ (kind : ℕ) (b9 : List ℕ). ((int_at 2) b9 >>= λ q10. ((literal_at (0 ∷ 0 ∷ 0 ∷ [])) q10.1 >>= λ q11. end_at (column_of schema table org_table name org_name charset width kind q10.0) q11.1))) (int_field 1) (λ kind. (field_then (IsInt 2) (int_at 2) (λ (flags : ℕ). Both (Lit (0 ∷ 0 ∷ 0 ∷ [])) (λ (x2 : Unit {0}). λ (y : Column) (b : List ℕ). (y ≡ column_of schema table org_table name org_name charset width kind flags) × IsEnd b)) (λ (flags : ℕ) (b10 : List ℕ). ((literal_at (0 ∷ 0 ∷ 0 ∷ [])) b10 >>= λ q11. end_at (column_of schema table org_table name org_name charset width kind flags) q11.1)) (int_field 2) (λ flags. (field_then (Lit (0 ∷ 0 ∷ 0 ∷ [])) (literal_at (0 ∷ 0 ∷ 0 ∷ [])) (λ (x2 : Unit {0}). λ (y : Column) (b : List ℕ). (y ≡ column_of schema table org_table name org_name charset width kind flags) × IsEnd b) (λ (x2 : Unit {0}) (b11 : List ℕ). end_at (column_of schema table org_table name org_name charset width kind flags) b11) (literal_field (0 ∷ 0 ∷ 0 ∷ []) (omega arith, (omega arith, (omega arith, tt)))) (λ x2. end_message (column_of schema table org_table name org_name charset width kind flags)))))))))))))))))))))))))

-- ---- the number of columns

-- bytes that begin with a number are that number alone
one_number : (front more : List ℕ) (v n : ℕ) → IsLenenc front v → IsLenenc (front ++ more) n → (v ≡ n) × (length more ≡ 0)
one_number front more v n h k =
    let a = lenenc_again front more v h in
    let b = lenenc_again (front ++ more) [] n k in
    let c : Number v (length front) ≡ Number n (length (front ++ more)) = sym a ∙ ap lenenc_at (sym (append-nil (front ++ more))) ∙ b in
    let sizes : length front ≡ length (front ++ more) = cc in
    (cc, omega (arith, sizes, length-append front more))

count_took : (bytes : List ℕ) (r : Lenenc) (n : ℕ) → lenenc_at bytes ≡ r → count_from bytes r ≡ Ok n → IsColumnCount n bytes
count_took bytes (Number v u) n is e =
    elim (chosen (v == 0) (Err (length (drop (u - 1) bytes))) (end_at v (drop u bytes)) (Ok n) e) [
      | inl h ↦ absurd (let k : Err (length (drop (u - 1) bytes)) ≡ Ok n = h.1 in cc)
      | inr h ↦
          let f = lenenc_found bytes v u is in
          let t = (end_message v).took (drop u bytes) n h.1 in
          let whole : take u bytes ≡ bytes = sym (append-nil (take u bytes)) ∙ ap (λ (l : List ℕ). take u bytes ++ l) (sym t.1) ∙ take-append-drop u bytes in
          let not_zero = eqb-false v 0 h.0 in
          let value = t.0 in
          (subst (λ (l : List ℕ). IsLenenc l n) whole (subst (IsLenenc (take u bytes)) (sym value) f.1), omega (arith, value))
    ]
count_took bytes Null n is e = absurd cc
count_took bytes Short n is e = absurd cc
count_took bytes Bad n is e = absurd cc

count_again : (bytes : List ℕ) (n : ℕ) → IsColumnCount n bytes → count_at bytes ≡ Ok n
count_again bytes n h =
    let at : lenenc_at bytes ≡ Number n (length bytes) = ap lenenc_at (sym (append-nil bytes)) ∙ lenenc_again bytes [] n h.0 in
    let pos = h.1 in
    let not_zero : (n == 0) ≡ false = ne_eqb n 0 (omega arith) in
    ap (count_from bytes) at ∙ ap (λ (t : Bool). cond t (Err (length (drop (length bytes - 1) bytes))) (end_at n (drop (length bytes) bytes))) not_zero
    ∙ ap (end_at n) (ap (drop (length bytes)) (sym (append-nil bytes)) ∙ drop_at bytes [] (length bytes) refl)

count_none : (bytes : List ℕ) (left : ℕ) → (lenenc_at bytes ≡ Null) ⊎ (lenenc_at bytes ≡ Bad) → left ≡ length bytes → Stuck IsColumnCount bytes left
count_none bytes left e is = record {
  before = [];
  after = bytes;
  split = refl;
  left_is = is;
  begins = record { value = one_positive.value; more = one_positive.more; are_bytes = one_positive.are_bytes; spells = one_positive.spells };
  bad = λ b more next begun. no_number bytes e b more next begun.value begun.more begun.spells.0;
}

count_zero : (bytes : List ℕ) (v u : ℕ) → lenenc_at bytes ≡ Number v u → v ≡ 0 → Stuck IsColumnCount bytes (length (drop (u - 1) bytes))
count_zero bytes v u is zero_is =
    let f = lenenc_found bytes v u is in
    let p = lenenc_front bytes v u is in
    record {
      before = take (u - 1) bytes;
      after = drop (u - 1) bytes;
      split = sym (take-append-drop (u - 1) bytes);
      left_is = refl;
      begins = record { value = p.1.value; more = p.1.more; are_bytes = p.1.are_bytes; spells = p.1.spells };
      bad = λ b more next begun.
          let le = f.0 in
          let pos = p.0 in
          let sized = length-take (u - 1) bytes in
          let all : bytes ≡ (take (u - 1) bytes ++ b ∷ []) ++ more = sym (take-append-drop (u - 1) bytes) ∙ ap (λ (l : List ℕ). take (u - 1) bytes ++ l) next ∙ sym (append_assoc (take (u - 1) bytes) (b ∷ []) more) in
          let len : length (take (u - 1) bytes ++ b ∷ []) ≡ u = omega (arith, length-append (take (u - 1) bytes) (b ∷ []), sized) in
          let front : take u bytes ≡ take (u - 1) bytes ++ b ∷ [] = ap (take u) all ∙ take_at (take (u - 1) bytes ++ b ∷ []) more u len in
          let one = one_number (take (u - 1) bytes ++ b ∷ []) begun.more v begun.value (subst (λ (l : List ℕ). IsLenenc l v) front f.1) begun.spells.0 in
          let same = one.0 in
          let positive = begun.spells.1 in
          omega (arith, same, zero_is);
    }

count_more : (bytes : List ℕ) (v u : ℕ) → lenenc_at bytes ≡ Number v u → v ≢ 0 → Stuck IsColumnCount bytes (length (drop u bytes))
count_more bytes v u is not_zero =
    let f = lenenc_found bytes v u is in
    record {
      before = take u bytes;
      after = drop u bytes;
      split = sym (take-append-drop u bytes);
      left_is = refl;
      begins = record { value = v; more = []; are_bytes = tt; spells = (subst (λ (l : List ℕ). IsLenenc l v) (sym (append-nil (take u bytes))) f.1, omega arith) };
      bad = λ b more next begun.
          let one = one_number (take u bytes) ((b ∷ []) ++ begun.more) v begun.value f.1 (subst (λ (l : List ℕ). IsLenenc l begun.value) (append_assoc (take u bytes) (b ∷ []) begun.more) begun.spells.0) in
          let none = one.1 in
          omega (arith, none);
    }

end_length : (v : ℕ) (bytes : List ℕ) (left : ℕ) → end_at v bytes ≡ Err left → length bytes ≡ left
end_length v [] left e = absurd cc
end_length v (b ∷ bytes) left e = cc

count_stuck : (bytes : List ℕ) (r : Lenenc) (left : ℕ) → lenenc_at bytes ≡ r → count_from bytes r ≡ Err left → Stuck IsColumnCount bytes left
count_stuck bytes (Number v u) left is e =
    elim (chosen (v == 0) (Err (length (drop (u - 1) bytes))) (end_at v (drop u bytes)) (Err left) e) [
      | inl h ↦ let k : Err (length (drop (u - 1) bytes)) ≡ Err left = h.1 in let same : length (drop (u - 1) bytes) ≡ left = cc in subst (Stuck IsColumnCount bytes) same (count_zero bytes v u is (eqb-true v 0 h.0))
      | inr h ↦
          let s = end_length v (drop u bytes) left h.1 in subst (Stuck IsColumnCount bytes) s (count_more bytes v u is (eqb-false v 0 h.0))
    ]
count_stuck bytes Null left is e = count_none bytes left (inl is) (let f : length bytes ≡ left = cc in sym f)
count_stuck bytes Bad left is e = count_none bytes left (inr is) (let f : length bytes ≡ left = cc in sym f)
count_stuck bytes Short left is e =
    let b = lenenc_short bytes is in
    let none : 0 ≡ left = cc in
    record {
      before = bytes;
      after = [];
      split = sym (append-nil bytes);
      left_is = sym none;
      begins = record { value = b.value; more = b.more; are_bytes = b.are_bytes; spells = b.spells };
      bad = λ d more next begun. (let f : [] ≡ d ∷ more = next in cc);
    }

pub count_message : IsMessage IsColumnCount count_at
count_message = record {
  took = λ bytes n e. count_took bytes (lenenc_at bytes) n refl e;
  again = λ bytes n h. count_again bytes n h;
  stuck = λ bytes left fits e. count_stuck bytes (lenenc_at bytes) left refl e;
  some = record { value = one_positive.value; more = one_positive.more; are_bytes = one_positive.are_bytes; spells = one_positive.spells };
}

-- ---- rows

number_first : (front rest : List ℕ) (n : ℕ) → IsNumber n front → (b : ℕ) (more : List ℕ) → front ++ rest ≡ b ∷ more → b ≡ 0xFB → ⊥
number_first [] rest n h b more is fb = absurd h
number_first (c ∷ front) rest n (inl h) b more is fb = let same : c ≡ b = cc in let lt = h.0 in omega (arith, same, fb)
number_first (c ∷ front) rest n (inr h) b more is fb = let same : c ≡ b = cc in let big = (has_width c (length front) h.0).big in omega (arith, same, fb)

-- a text doesn't begin with FB
text_first : (t bytes : List ℕ) → IsText t bytes → (b : ℕ) (more : List ℕ) → bytes ≡ b ∷ more → b ≢ 0xFB
text_first t bytes h b more is fb = number_first h.front h.rest (length t) h.first b more (sym h.whole ∙ is) fb

empty_front : (front rest : List ℕ) (n : ℕ) → IsNumber n front → front ++ rest ≡ [] → ⊥
empty_front [] rest n h is = absurd h
empty_front (c ∷ front) rest n h is = cc

no_text : (t bytes : List ℕ) → IsText t bytes → bytes ≡ [] → ⊥
no_text t bytes h is = empty_front h.front h.rest (length t) h.first (sym h.whole ∙ is)

cell_took : (bytes : List ℕ) (c : Option (List ℕ)) (rest : List ℕ) → cell_at bytes ≡ Ok (c, rest) → (front : List ℕ) × (bytes ≡ front ++ rest) × IsCell c front
unfolding cell_at
cell_took [] c rest e = absurd cc
cell_took (b ∷ bytes) c rest e =
    elim (chosen (b == 0xFB) (Ok (None, bytes)) (text_at (b ∷ bytes) >>= λ t. Ok (Some t.0, t.1)) (Ok (c, rest)) e) [
      | inl h ↦
          let p = ok_is (None, bytes) (c, rest) h.1 in
          let fb = eqb-true b 0xFB h.0 in (
            0xFB ∷ [],
            ap (λ (k : ℕ). k ∷ bytes) fb ∙ ap (λ (q : Option (List ℕ) × List ℕ). 0xFB ∷ q.1) p,
            subst (λ (o : Option (List ℕ)). IsCell o (0xFB ∷ [])) (ap (λ (q : Option (List ℕ) × List ℕ). q.0) p) refl,
          )
      | inr h ↦
          let a = bind_ok (text_at (b ∷ bytes)) (λ t. Ok (Some t.0, t.1)) (c, rest) h.1 in
          let p = ok_is (Some a.0.0, a.0.1) (c, rest) a.2 in
          let t = text_field.took (b ∷ bytes) a.0.0 a.0.1 a.1 in (
            t.0,
            t.1 ∙ ap (λ (q : Option (List ℕ) × List ℕ). t.0 ++ q.1) p,
            subst (λ (o : Option (List ℕ)). IsCell o t.0) (ap (λ (q : Option (List ℕ) × List ℕ). q.0) p) t.2,
          )
    ]

cell_text : (b : ℕ) (bytes : List ℕ) → b ≢ 0xFB → cell_at (b ∷ bytes) ≡ (text_at (b ∷ bytes) >>= λ t. Ok (Some t.0, t.1))
unfolding cell_at
cell_text b bytes n = ap (λ (t : Bool). cond t (Ok (None, bytes)) (text_at (b ∷ bytes) >>= λ t. Ok (Some t.0, t.1))) (ne_eqb b 0xFB n)

cell_again_text : (front rest t : List ℕ) → IsText t front → cell_at (front ++ rest) ≡ Ok (Some t, rest)
cell_again_text [] rest t h = absurd (no_text t [] h refl)
cell_again_text (b ∷ front) rest t h =
    cell_text b (front ++ rest) (text_first t (b ∷ front) h b front refl) ∙ ap (λ r. r >>= λ p. Ok (Some p.0, p.1)) (text_field.again (b ∷ front) rest t h)

cell_again_null : (rest : List ℕ) → cell_at (0xFB ∷ rest) ≡ Ok (None, rest)
unfolding cell_at
cell_again_null rest = refl

cell_begins : Begins IsCell []
cell_begins = record { value = None; more = 0xFB ∷ []; are_bytes = (omega arith, tt); spells = refl }

-- bytes that don't begin with FB are a front of no NULL
never_null : (before after : List ℕ) (b d : ℕ) (bytes more m : List ℕ) → b ≢ 0xFB → b ∷ bytes ≡ before ++ after → after ≡ d ∷ more → (before ++ d ∷ []) ++ m ≡ 0xFB ∷ [] → ⊥
never_null [] after b d bytes more m n split next e = let first : b ≡ d = (let k : b ∷ bytes ≡ d ∷ more = split ∙ next in cc) in let fb : d ≡ 0xFB = cc in n (first ∙ fb)
never_null (x ∷ before) after b d bytes more m n split next e = let first : b ≡ x = cc in let fb : x ≡ 0xFB = cc in n (first ∙ fb)

cell_bad : (b : ℕ) (bytes : List ℕ) (left : ℕ) → b ≢ 0xFB → (s : Stuck IsText (b ∷ bytes) left) (d : ℕ) (more : List ℕ) → s.after ≡ d ∷ more → (c : Option (List ℕ)) (m : List ℕ) → IsBytes m → IsCell c ((s.before ++ d ∷ []) ++ m) → ⊥
cell_bad b bytes left n s d more next None m fits h = never_null s.before s.after b d bytes more m n s.split next h
cell_bad b bytes left n s d more next (Some t) m fits h = s.bad d more next (record { value = t; more = m; are_bytes = fits; spells = h })

cell_stuck_text : (b : ℕ) (bytes : List ℕ) (left : ℕ) → b ≢ 0xFB → Stuck IsText (b ∷ bytes) left → Stuck IsCell (b ∷ bytes) left
cell_stuck_text b bytes left n s = record {
  before = s.before;
  after = s.after;
  split = s.split;
  left_is = s.left_is;
  begins = record { value = Some s.begins.value; more = s.begins.more; are_bytes = s.begins.are_bytes; spells = s.begins.spells };
  bad = λ d more next begun. cell_bad b bytes left n s d more next begun.value begun.more begun.are_bytes begun.spells;
}

cell_stuck : (bytes : List ℕ) (left : ℕ) → IsBytes bytes → cell_at bytes ≡ Err left → Stuck IsCell bytes left
unfolding cell_at
cell_stuck [] left fits e =
    let none : 0 ≡ left = cc in
    record { before = []; after = []; split = refl; left_is = sym none; begins = cell_begins; bad = λ b more next begun. (let f : [] ≡ b ∷ more = next in cc) }
cell_stuck (b ∷ bytes) left fits e =
    elim (chosen (b == 0xFB) (Ok (None, bytes)) (text_at (b ∷ bytes) >>= λ t. Ok (Some t.0, t.1)) (Err left) e) [
      | inl h ↦ absurd (let f : Ok (None, bytes) ≡ Err left = h.1 in cc)
      | inr h ↦ elim (bind_err (text_at (b ∷ bytes)) (λ t. Ok (Some t.0, t.1)) left h.1) [
        | inl f ↦ cell_stuck_text b bytes left (eqb-false b 0xFB h.0) (text_field.stuck (b ∷ bytes) left fits f)
        | inr f ↦ absurd (let g : Ok (Some f.0.0, f.0.1) ≡ Err left = f.2 in cc)
      ]
    ]

cell_again : (front rest : List ℕ) (c : Option (List ℕ)) → IsCell c front → cell_at (front ++ rest) ≡ Ok (c, rest)
cell_again front rest None h = ap (λ (l : List ℕ). cell_at (l ++ rest)) h ∙ cell_again_null rest
cell_again front rest (Some t) h = cell_again_text front rest t h

pub cell_field : IsField IsCell cell_at
cell_field = record { took = cell_took; again = cell_again; stuck = cell_stuck; some = cell_begins }

row_to : (n : ℕ) (cells : List (Option (List ℕ))) (bytes : List ℕ) → Both IsCell (λ (c : Option (List ℕ)) (cs : List (Option (List ℕ))) (b : List ℕ). (ds : List (Option (List ℕ))) × (cs ≡ c ∷ ds) × IsRowOf n ds b) cells bytes → IsRowOf (suc n) cells bytes
row_to n cells bytes h =
    let t = h.1 in
    subst (λ (cs : List (Option (List ℕ))). IsRowOf (suc n) cs bytes) (sym t.second.1) (ap suc t.second.2.0, record { front = t.front; rest = t.rest; whole = t.whole; first = t.first; second = t.second.2.1 })

row_from : (n : ℕ) (cells : List (Option (List ℕ))) (bytes : List ℕ) → IsRowOf (suc n) cells bytes → Both IsCell (λ (c : Option (List ℕ)) (cs : List (Option (List ℕ))) (b : List ℕ). (ds : List (Option (List ℕ))) × (cs ≡ c ∷ ds) × IsRowOf n ds b) cells bytes
row_from n [] bytes h = absurd (let e = h.0 in omega arith)
row_from n (c ∷ cells) bytes h =
    let t = h.1 in
    let sized = h.0 in
    (c, record { front = t.front; rest = t.rest; whole = t.whole; first = t.first; second = (cells, refl, (omega (arith, sized), t.second)) })

end_row_to : (cells : List (Option (List ℕ))) (bytes : List ℕ) → (cells ≡ []) × IsEnd bytes → IsRowOf 0 cells bytes
end_row_to cells bytes h = subst (λ (cs : List (Option (List ℕ))). IsRowOf 0 cs bytes) (sym h.0) (refl, h.1)

end_row_from : (cells : List (Option (List ℕ))) (bytes : List ℕ) → IsRowOf 0 cells bytes → (cells ≡ []) × IsEnd bytes
end_row_from [] bytes h = (refl, h.1)
end_row_from (c ∷ cells) bytes h = absurd (let e = h.0 in omega arith)

pub row_message : (n : ℕ) → IsMessage (IsRowOf n) (cells_at n)
unfolding cells_at
row_message zero = same_message (λ (cs : List (Option (List ℕ))) (b : List ℕ). (cs ≡ []) × IsEnd b) (IsRowOf 0) (cells_at 0) end_row_to end_row_from (end_message [])
row_message (suc n) =
    same_message (Both IsCell (λ (c : Option (List ℕ)) (cs : List (Option (List ℕ))) (b : List ℕ). (ds : List (Option (List ℕ))) × (cs ≡ c ∷ ds) × IsRowOf n ds b)) (IsRowOf (suc n)) (cells_at (suc n)) (row_to n) (row_from n)
    (field_then IsCell cell_at (λ (c : Option (List ℕ)) (cs : List (Option (List ℕ))) (b : List ℕ). (ds : List (Option (List ℕ))) × (cs ≡ c ∷ ds) × IsRowOf n ds b) (λ (c : Option (List ℕ)) (b : List ℕ). cells_at n b >>= λ ds. Ok (c ∷ ds))
    cell_field (λ c. message_as (λ (ds : List (Option (List ℕ))). c ∷ ds) (IsRowOf n) (cells_at n) (row_message n)))

-- Replies are read exactly, payload by payload.
use Rattle.std.proofs.Common.{◌≡◌, ◌≢◌, ℕ, zero, suc, ◌+◌, ◌-◌, ◌<◌, List, [], ◌∷◌, ◌++◌, length, Option, Some, None, Result, Ok, Err, refl, sym, ap, subst, ◌∙◌, append_assoc, inl, inr, arith}
use Rattle.std.proofs.lemmas.List.{length-append}
use Rattle.my_wire.specs.Grammar.{IsBytes, Then, FirstBad, IsExactly, ◌>>=◌}
use Rattle.my_wire.specs.Lenenc.{width_of}
use Rattle.my_wire.proofs.Fields.{IsMessage, message_as, same_message, is_first_bad}
use Rattle.my_wire.proofs.Lenencs.{has_width}
use Rattle.my_messages.specs.Fields.{IsNumber}
use Rattle.my_messages.specs.Reading.{or_else, ok_at, err_at, count_at, switch_at, eof_at, definition_at, cells_at}
use Rattle.my_messages.specs.Reply.{IsEofPacket, IsSwitchRequest, IsColumnCount, IsDefinition, IsRowOf, Each, IsResultset, IsReply}
use Rattle.my_messages.specs.Replies.{first_at, row_or_end, Goes, Gives, Stops, first_pushed, definition_pushed, end_pushed, row_pushed, push_at, IsFirst, IsRowOrEnd, Admits, InDefinitions, InRows, LeadsTo}
use Rattle.my_messages.specs.declared.reply.Column.{Column}
use Rattle.my_messages.specs.declared.reply.Reply.{Reply}
use Rattle.my_messages.specs.declared.reply.Reply.TheVariants as replies
use Rattle.my_messages.specs.declared.stage.FirstPayload.{FirstPayload}
use Rattle.my_messages.specs.declared.stage.FirstPayload.TheVariants.{Whole, Columns}
use Rattle.my_messages.specs.declared.stage.RowPayload.{RowPayload}
use Rattle.my_messages.specs.declared.stage.RowPayload.TheVariants.{Row, End}
use Rattle.my_messages.specs.declared.stage.Stage.{Stage}
use Rattle.my_messages.specs.declared.stage.Stage.TheVariants as stages
use Rattle.my_messages.proofs.Forms.{Either, either_message}
use Rattle.my_messages.proofs.Payloads.{OkReply, ErrReply, SwitchReply, ok_message, err_message, switch_message, eof_message, count_message, definition_message, row_message}

-- ---- the first payload

abbrev As : {X Y : Type 0} → (X → Y) → (X → List ℕ → Type 0) → Y → List ℕ → Type 0
As {X} {Y} f P y bytes = (x : X) × (y ≡ f x) × P x bytes

-- what the bytes of a literal and more begin with
first_byte : (c : ℕ) (P : List ℕ → Type 0) (bytes : List ℕ) → Then (IsExactly (c ∷ [])) P bytes → (rest : List ℕ) × (bytes ≡ c ∷ rest) × P rest
first_byte c P bytes t = (t.rest, t.whole ∙ ap (λ (l : List ℕ). l ++ t.rest) t.first, t.second)

heads : (c d : ℕ) (s t bytes : List ℕ) → c ≢ d → bytes ≡ c ∷ s → bytes ≡ d ∷ t → ⊥
heads c d s t bytes differ p q = let k : c ∷ s ≡ d ∷ t = sym p ∙ q in let same : c ≡ d = cc in differ same

-- a number of columns begins neither with 00 nor with FF, and with FE only in nine bytes
count_head : (n : ℕ) (bytes : List ℕ) → IsColumnCount n bytes → (c : ℕ) (rest : List ℕ) → bytes ≡ c ∷ rest → (c ≢ 0) × (c < 255)
count_head n [] h c rest is = absurd h.0
count_head n (b ∷ bytes) (inl k, pos) c rest is =
    let same : b ≡ c = cc in
    let lt = k.0 in
    let value = k.2 in
    ((λ z. omega (arith, same, value)), omega (arith, same))
count_head n (b ∷ bytes) (inr k, pos) c rest is =
    let same : b ≡ c = cc in
    let w = has_width b (length bytes) k.0 in
    let big = w.big in
    let small = w.small in
    ((λ z. omega (arith, same)), omega (arith, same))

count_size : (n : ℕ) (bytes : List ℕ) → IsColumnCount n bytes → length bytes < 10
count_size n [] h = absurd h.0
count_size n (b ∷ bytes) (inl k, pos) = omega (arith, ap length k.1)
count_size n (b ∷ bytes) (inr k, pos) = let few = (has_width b (length bytes) k.0).few in omega arith

switch_size : (plugin nonce bytes : List ℕ) → IsSwitchRequest plugin nonce bytes → 20 < length bytes
switch_size plugin nonce bytes t =
    let n = t.second.second in
    let sized = n.first.1 in
    let fixed = ap length n.first.0 in
    let a = length-append t.front t.rest in
    let b = length-append t.second.front t.second.rest in
    let c = length-append n.front n.rest in
    let x = ap length t.whole in
    let y = ap length t.second.whole in
    let z = ap length n.whole in
    let w = ap length t.first in
    omega (arith, sized, fixed, a, b, c, x, y, z, w)

abbrev FirstForm : FirstPayload → List ℕ → Type 0
FirstForm = Either (As Whole OkReply) (Either (As Whole ErrReply) (Either (As Columns IsColumnCount) (As Whole SwitchReply)))

first_form_message : IsMessage FirstForm first_at
unfolding first_at
first_form_message =
    let counted = message_as {Y = FirstPayload} Columns IsColumnCount count_at count_message in
    let switched = message_as {Y = FirstPayload} Whole SwitchReply switch_at switch_message in
    let refused = message_as {Y = FirstPayload} Whole ErrReply err_at err_message in
    let done = message_as {Y = FirstPayload} Whole OkReply ok_at ok_message in
    let three = either_message (As Columns IsColumnCount) (As Whole SwitchReply) (λ (b : List ℕ). count_at b >>= λ n. Ok (Columns n)) (λ (b : List ℕ). switch_at b >>= λ r. Ok (Whole r)) counted switched
    (λ x y bytes p q. let s = switch_size q.2.0 q.2.1 bytes q.2.3 in let c = count_size p.0 bytes p.2 in omega arith) in
    let two = either_message (As Whole ErrReply) (Either (As Columns IsColumnCount) (As Whole SwitchReply)) (λ (b : List ℕ). err_at b >>= λ r. Ok (Whole r))
    (λ (b : List ℕ). or_else (count_at b >>= λ n. Ok (Columns n)) (switch_at b >>= λ r. Ok (Whole r))) refused three
    (λ x y bytes p q. let e = first_byte 0xFF _ bytes p.2.4 in elim q [
      | inl c ↦ (let h = (count_head c.0 bytes c.2 0xFF e.0 e.1).1 in omega arith)
      | inr s ↦ (let f = first_byte 0xFE _ bytes s.2.3 in heads 0xFF 0xFE e.0 f.0 bytes (λ k. omega (arith, k)) e.1 f.1)
    ]) in
    either_message (As Whole OkReply) (Either (As Whole ErrReply) (Either (As Columns IsColumnCount) (As Whole SwitchReply))) (λ (b : List ℕ). ok_at b >>= λ r. Ok (Whole r))
    (λ (b : List ℕ). or_else (err_at b >>= λ r. Ok (Whole r)) (or_else (count_at b >>= λ n. Ok (Columns n)) (switch_at b >>= λ r. Ok (Whole r)))) done two
    (λ x y bytes p q. let e = first_byte 0 _ bytes p.2.4 in elim q [
      | inl r ↦ (let f = first_byte 0xFF _ bytes r.2.4 in heads 0 0xFF e.0 f.0 bytes (λ k. omega (arith, k)) e.1 f.1)
      | inr o ↦ elim o [
        | inl c ↦ (count_head c.0 bytes c.2 0 e.0 e.1).0 refl
        | inr s ↦ (let f = first_byte 0xFE _ bytes s.2.3 in heads 0 0xFE e.0 f.0 bytes (λ k. omega (arith, k)) e.1 f.1)
      ]
    ])

form_first : (x : FirstPayload) (bytes : List ℕ) → FirstForm x bytes → IsFirst x bytes
form_first x bytes (inl h) = subst (λ (y : FirstPayload). IsFirst y bytes) (sym (h.1 ∙ ap Whole h.2.3)) h.2.4
form_first x bytes (inr (inl h)) = subst (λ (y : FirstPayload). IsFirst y bytes) (sym (h.1 ∙ ap Whole h.2.3)) h.2.4
form_first x bytes (inr (inr (inl h))) = subst (λ (y : FirstPayload). IsFirst y bytes) (sym h.1) h.2
form_first x bytes (inr (inr (inr h))) = subst (λ (y : FirstPayload). IsFirst y bytes) (sym (h.1 ∙ ap Whole h.2.2)) h.2.3

first_form : (x : FirstPayload) (bytes : List ℕ) → IsFirst x bytes → FirstForm x bytes
first_form (Whole (replies.Ok a s w)) bytes h = inl (replies.Ok a s w, refl, (a, s, w, refl, h))
first_form (Whole (replies.Err n s m)) bytes h = inr (inl (replies.Err n s m, refl, (n, s, m, refl, h)))
first_form (Whole (replies.Rows c r s)) bytes h = absurd h
first_form (Whole (replies.Switch p n)) bytes h = inr (inr (inr (replies.Switch p n, refl, (p, n, refl, h))))
first_form (Columns n) bytes h = inr (inr (inl (n, refl, h)))

pub first_message : IsMessage IsFirst first_at
first_message = same_message FirstForm IsFirst first_at form_first first_form first_form_message

-- ---- a row or the end

pub eof_size : (status : ℕ) (bytes : List ℕ) → IsEofPacket status bytes → (length bytes ≡ 5) × ((rest : List ℕ) × (bytes ≡ 0xFE ∷ rest))
eof_size status bytes t =
    let n = t.second.second in
    let a = length-append t.front t.rest in
    let b = length-append t.second.front t.second.rest in
    let c = length-append n.front n.rest in
    let x = ap length t.whole in
    let y = ap length t.second.whole in
    let z = ap length n.whole in
    let w = ap length t.first in
    let u = t.second.first in
    let v = n.first.0 in
    let e = ap length n.second in
    let f = first_byte 0xFE _ bytes t in
    (omega (arith, a, b, c, x, y, z, w, u, v, e), (f.0, f.1))

number_size : (front more : List ℕ) (n : ℕ) → IsNumber n front → (rest : List ℕ) → front ++ more ≡ 0xFE ∷ rest → length front ≡ 9
number_size [] more n h rest is = absurd h
number_size (b ∷ front) more n (inl h) rest is = let same : b ≡ 0xFE = cc in let lt = h.0 in absurd (omega (arith, same))
number_size (b ∷ front) more n (inr h) rest is = let same : b ≡ 0xFE = cc in let e : Some 8 ≡ Some (length front) = ap width_of (sym same) ∙ h.0 in let k : 8 ≡ length front = cc in omega (arith, k)

-- a row that begins with FE has nine bytes or more
pub row_size : (n : ℕ) (cells : List (Option (List ℕ))) (bytes rest : List ℕ) → IsRowOf n cells bytes → bytes ≡ 0xFE ∷ rest → 8 < length bytes
row_size n [] bytes rest h is = absurd (let e : 0xFE ∷ rest ≡ [] = sym is ∙ h.1 in cc)
row_size n (None ∷ cells) bytes rest h is =
    let t = h.1 in
    absurd (heads 0xFE 0xFB rest t.rest bytes (λ k. omega (arith, k)) is (t.whole ∙ ap (λ (l : List ℕ). l ++ t.rest) t.first))
row_size n (Some text ∷ cells) bytes rest h is =
    let t = h.1 in
    let front = t.first.front in
    let f = number_size front (t.first.rest ++ t.rest) (length text) t.first.first rest (sym (append_assoc front t.first.rest t.rest) ∙ ap (λ (l : List ℕ). l ++ t.rest) (sym t.first.whole) ∙ sym t.whole ∙ is) in
    let a = length-append front t.first.rest in
    let b = length-append t.front t.rest in
    let x = ap length t.first.whole in
    let y = ap length t.whole in
    omega (arith, f, a, b, x, y)

abbrev RowForm : ℕ → RowPayload → List ℕ → Type 0
RowForm width = Either (As End IsEofPacket) (As Row (IsRowOf width))

row_form_message : (width : ℕ) → IsMessage (RowForm width) (row_or_end width)
unfolding row_or_end
row_form_message width =
    either_message (As End IsEofPacket) (As Row (IsRowOf width)) (λ (b : List ℕ). eof_at b >>= λ s. Ok (End s)) (λ (b : List ℕ). cells_at width b >>= λ cells. Ok (Row cells))
    (message_as {Y = RowPayload} End IsEofPacket eof_at eof_message) (message_as {Y = RowPayload} Row (IsRowOf width) (cells_at width) (row_message width))
    (λ x y bytes p q. let e = eof_size p.0 bytes p.2 in let r = row_size width q.0 bytes e.1.0 q.2 e.1.1 in let five = e.0 in omega arith)

form_row : (width : ℕ) (x : RowPayload) (bytes : List ℕ) → RowForm width x bytes → IsRowOrEnd width x bytes
form_row width x bytes (inl h) = subst (λ (y : RowPayload). IsRowOrEnd width y bytes) (sym h.1) h.2
form_row width x bytes (inr h) = subst (λ (y : RowPayload). IsRowOrEnd width y bytes) (sym h.1) h.2

row_form : (width : ℕ) (x : RowPayload) (bytes : List ℕ) → IsRowOrEnd width x bytes → RowForm width x bytes
row_form width (Row cells) bytes h = inr (cells, refl, h)
row_form width (End status) bytes h = inl (status, refl, h)

pub row_or_end_message : (width : ℕ) → IsMessage (IsRowOrEnd width) (row_or_end width)
row_or_end_message width = same_message (RowForm width) (IsRowOrEnd width) (row_or_end width) (form_row width) (row_form width) (row_form_message width)

-- ---- stages

pub goes_is : (s t : Stage) → Goes s ≡ Goes t → s ≡ t
goes_is s t e = cc

pub gives_is : (r q : Reply) → Gives r ≡ Gives q → r ≡ q
gives_is r q e = cc

stops_is : (a b : ℕ) → Stops a ≡ Stops b → a ≡ b
stops_is a b e = cc

Each-snoc : {X : Type 0} (P : X → List ℕ → Type 0) (xs : List X) (ps : List (List ℕ)) (x : X) (p : List ℕ) → Each P xs ps → P x p → Each P (xs ++ x ∷ []) (ps ++ p ∷ [])
Each-snoc P [] [] x p h k = (k, tt)
Each-snoc P [] (q ∷ ps) x p h k = absurd h
Each-snoc P (y ∷ xs) [] x p h k = absurd h
Each-snoc P (y ∷ xs) (q ∷ ps) x p h k = (h.0, Each-snoc P xs ps x p h.1 k)

first_goes : (p : List ℕ) (r : Result FirstPayload ℕ) (t : Stage) → first_at p ≡ r → first_pushed p r ≡ Goes t → LeadsTo (p ∷ []) t
first_goes p (Ok (Whole reply)) t is e = absurd cc
first_goes p (Ok (Columns n)) t is e =
    let h : IsColumnCount n p = first_message.took p (Columns n) is in
    let k : n ≡ 0 + n = omega arith in
    subst (LeadsTo (p ∷ [])) (goes_is (stages.Definitions n []) t e) (record { count = p; definitions = []; whole = refl; counted = subst (λ (m : ℕ). IsColumnCount m p) k h; defined = tt })
first_goes p (Err left) t is e = absurd cc

definition_goes : (owed : ℕ) (columns : List Column) (ps : List (List ℕ)) (p : List ℕ) (r : Result Column ℕ) (t : Stage) → InDefinitions (suc owed) columns ps → definition_at p ≡ r
    → definition_pushed owed columns p r ≡ Goes t → LeadsTo (ps ++ p ∷ []) t
definition_goes owed columns ps p (Ok c) t h is e =
    let k : length columns + suc owed ≡ length (columns ++ c ∷ []) + owed = omega (arith, length-append columns (c ∷ [])) in
    subst (LeadsTo (ps ++ p ∷ [])) (goes_is (stages.Definitions owed (columns ++ c ∷ [])) t e) (record {
      count = h.count;
      definitions = h.definitions ++ p ∷ [];
      whole = ap (λ (l : List (List ℕ)). l ++ p ∷ []) h.whole;
      counted = subst (λ (m : ℕ). IsColumnCount m h.count) k h.counted;
      defined = Each-snoc IsDefinition columns h.definitions c p h.defined (definition_message.took p c is);
    })
definition_goes owed columns ps p (Err left) t h is e = absurd cc

end_goes : (columns : List Column) (ps : List (List ℕ)) (p : List ℕ) (r : Result ℕ ℕ) (t : Stage) → InDefinitions 0 columns ps → eof_at p ≡ r → end_pushed columns p r ≡ Goes t → LeadsTo (ps ++ p ∷ []) t
end_goes columns ps p (Ok status) t h is e =
    let k : length columns + 0 ≡ length columns = omega arith in
    subst (LeadsTo (ps ++ p ∷ [])) (goes_is (stages.Rows columns []) t e) (record {
      count = h.count;
      definitions = h.definitions;
      first_end = p;
      row_payloads = [];
      first_status = status;
      whole = ap (λ (l : List (List ℕ)). l ++ p ∷ []) h.whole;
      counted = subst (λ (m : ℕ). IsColumnCount m h.count) k h.counted;
      defined = h.defined;
      definitions_end = eof_message.took p status is;
      rows_are = tt;
    })
end_goes columns ps p (Err left) t h is e = absurd cc

row_goes : (columns : List Column) (rows : List (List (Option (List ℕ)))) (ps : List (List ℕ)) (p : List ℕ) (r : Result RowPayload ℕ) (t : Stage) → InRows columns rows ps → row_or_end (length columns) p ≡ r
    → row_pushed columns rows p r ≡ Goes t → LeadsTo (ps ++ p ∷ []) t
row_goes columns rows ps p (Ok (Row cells)) t h is e =
    subst (LeadsTo (ps ++ p ∷ [])) (goes_is (stages.Rows columns (rows ++ cells ∷ [])) t e) (record {
      count = h.count;
      definitions = h.definitions;
      first_end = h.first_end;
      row_payloads = h.row_payloads ++ p ∷ [];
      first_status = h.first_status;
      whole = ap (λ (l : List (List ℕ)). l ++ p ∷ []) h.whole ∙ ap (λ (l : List (List ℕ)). h.count ∷ l) (append_assoc h.definitions (h.first_end ∷ h.row_payloads) (p ∷ []));
      counted = h.counted;
      defined = h.defined;
      definitions_end = h.definitions_end;
      rows_are = Each-snoc (IsRowOf (length columns)) rows h.row_payloads cells p h.rows_are ((row_or_end_message (length columns)).took p (Row cells) is);
    })
row_goes columns rows ps p (Ok (End status)) t h is e = absurd cc
row_goes columns rows ps p (Err left) t h is e = absurd cc

pub goes : (ps : List (List ℕ)) (s t : Stage) (p : List ℕ) → LeadsTo ps s → push_at s p ≡ Goes t → LeadsTo (ps ++ p ∷ []) t
unfolding push_at
goes ps stages.First t p h e = subst (λ (l : List (List ℕ)). LeadsTo (l ++ p ∷ []) t) (sym h) (first_goes p (first_at p) t refl e)
goes ps (stages.Definitions zero columns) t p h e = end_goes columns ps p (eof_at p) t h refl e
goes ps (stages.Definitions (suc owed) columns) t p h e = definition_goes owed columns ps p (definition_at p) t h refl e
goes ps (stages.Rows columns rows) t p h e = row_goes columns rows ps p (row_or_end (length columns) p) t h refl e
goes ps (stages.Refused place) t p h e = absurd h

-- ---- whole replies

first_reply : (r : Reply) (p : List ℕ) → IsFirst (Whole r) p → IsReply r (p ∷ [])
first_reply (replies.Ok a s w) p h = (p, refl, h)
first_reply (replies.Err n s m) p h = (p, refl, h)
first_reply (replies.Rows c r s) p h = absurd h
first_reply (replies.Switch a n) p h = (p, refl, h)

first_gives : (p : List ℕ) (x : Result FirstPayload ℕ) (r : Reply) → first_at p ≡ x → first_pushed p x ≡ Gives r → IsReply r (p ∷ [])
first_gives p (Ok (Whole reply)) r is e = subst (λ (q : Reply). IsReply q (p ∷ [])) (gives_is reply r e) (first_reply reply p (first_message.took p (Whole reply) is))
first_gives p (Ok (Columns n)) r is e = absurd cc
first_gives p (Err left) r is e = absurd cc

definition_gives : (owed : ℕ) (columns : List Column) (p : List ℕ) (x : Result Column ℕ) (r : Reply) → definition_pushed owed columns p x ≡ Gives r → ⊥
definition_gives owed columns p (Ok c) r e = cc
definition_gives owed columns p (Err left) r e = cc

end_gives : (columns : List Column) (p : List ℕ) (x : Result ℕ ℕ) (r : Reply) → end_pushed columns p x ≡ Gives r → ⊥
end_gives columns p (Ok status) r e = cc
end_gives columns p (Err left) r e = cc

row_gives : (columns : List Column) (rows : List (List (Option (List ℕ)))) (ps : List (List ℕ)) (p : List ℕ) (x : Result RowPayload ℕ) (r : Reply) → InRows columns rows ps → row_or_end (length columns) p ≡ x
    → row_pushed columns rows p x ≡ Gives r → IsReply r (ps ++ p ∷ [])
row_gives columns rows ps p (Ok (Row cells)) r h is e = absurd cc
row_gives columns rows ps p (Ok (End status)) r h is e =
    let made : IsResultset columns rows status (ps ++ p ∷ []) = record {
      count = h.count;
      definitions = h.definitions;
      first_end = h.first_end;
      row_payloads = h.row_payloads;
      last_end = p;
      first_status = h.first_status;
      whole = ap (λ (l : List (List ℕ)). l ++ p ∷ []) h.whole ∙ ap (λ (l : List (List ℕ)). h.count ∷ l) (append_assoc h.definitions (h.first_end ∷ h.row_payloads) (p ∷ []));
      counted = h.counted;
      defined = h.defined;
      definitions_end = h.definitions_end;
      rows_are = h.rows_are;
      rows_end = (row_or_end_message (length columns)).took p (End status) is;
    } in
    subst (λ (q : Reply). IsReply q (ps ++ p ∷ [])) (gives_is (replies.Rows columns rows status) r e) made
row_gives columns rows ps p (Err left) r h is e = absurd cc

pub gives : (ps : List (List ℕ)) (s : Stage) (p : List ℕ) (r : Reply) → LeadsTo ps s → push_at s p ≡ Gives r → IsReply r (ps ++ p ∷ [])
unfolding push_at
gives ps stages.First p r h e = subst (λ (l : List (List ℕ)). IsReply r (l ++ p ∷ [])) (sym h) (first_gives p (first_at p) r refl e)
gives ps (stages.Definitions zero columns) p r h e = absurd (end_gives columns p (eof_at p) r e)
gives ps (stages.Definitions (suc owed) columns) p r h e = absurd (definition_gives owed columns p (definition_at p) r e)
gives ps (stages.Rows columns rows) p r h e = row_gives columns rows ps p (row_or_end (length columns) p) r h refl e
gives ps (stages.Refused place) p r h e = absurd h

-- ---- refusals

some_bad : {X : Type 0} (P : X → List ℕ → Type 0) (bytes : List ℕ) (place : ℕ) → FirstBad P bytes place → FirstBad (λ (u : Unit {0}) (b : List ℕ). (x : X) × P x b) bytes place
some_bad P bytes place f = record {
  before = f.before;
  after = f.after;
  split = f.split;
  place_is = f.place_is;
  begins = record { value = tt; more = f.begins.more; are_bytes = f.begins.are_bytes; spells = (f.begins.value, f.begins.spells) };
  bad = λ b more next begun. f.bad b more next (record { value = begun.spells.0; more = begun.more; are_bytes = begun.are_bytes; spells = begun.spells.1 });
  none = λ u h. f.none h.0 h.1;
}

first_stops : (p : List ℕ) (r : Result FirstPayload ℕ) (place : ℕ) → first_pushed p r ≡ Stops place → (left : ℕ) × (r ≡ Err left) × (length p - left ≡ place)
first_stops p (Ok (Whole reply)) place e = absurd cc
first_stops p (Ok (Columns n)) place e = absurd cc
first_stops p (Err left) place e = (left, refl, stops_is (length p - left) place e)

definition_stops : (owed : ℕ) (columns : List Column) (p : List ℕ) (r : Result Column ℕ) (place : ℕ) → definition_pushed owed columns p r ≡ Stops place → (left : ℕ) × (r ≡ Err left) × (length p - left ≡ place)
definition_stops owed columns p (Ok c) place e = absurd cc
definition_stops owed columns p (Err left) place e = (left, refl, stops_is (length p - left) place e)

end_stops : (columns : List Column) (p : List ℕ) (r : Result ℕ ℕ) (place : ℕ) → end_pushed columns p r ≡ Stops place → (left : ℕ) × (r ≡ Err left) × (length p - left ≡ place)
end_stops columns p (Ok status) place e = absurd cc
end_stops columns p (Err left) place e = (left, refl, stops_is (length p - left) place e)

row_stops : (columns : List Column) (rows : List (List (Option (List ℕ)))) (p : List ℕ) (r : Result RowPayload ℕ) (place : ℕ) → row_pushed columns rows p r ≡ Stops place → (left : ℕ) × (r ≡ Err left) × (length p - left ≡ place)
row_stops columns rows p (Ok (Row cells)) place e = absurd cc
row_stops columns rows p (Ok (End status)) place e = absurd cc
row_stops columns rows p (Err left) place e = (left, refl, stops_is (length p - left) place e)

bad_at : {X : Type 0} (P : X → List ℕ → Type 0) (read : List ℕ → Result X ℕ) → IsMessage P read → (p : List ℕ) (place : ℕ) → IsBytes p → (left : ℕ) × (read p ≡ Err left) × (length p - left ≡ place)
    → FirstBad (λ (u : Unit {0}) (b : List ℕ). (x : X) × P x b) p place
bad_at {X} P read m p place fits h = some_bad P p place (subst (FirstBad P p) h.2 (is_first_bad P read m p h.0 fits h.1))

pub stops : (ps : List (List ℕ)) (s : Stage) (p : List ℕ) (place : ℕ) → LeadsTo ps s → IsBytes p → push_at s p ≡ Stops place → FirstBad (λ (u : Unit {0}) (b : List ℕ). Admits s b) p place
unfolding push_at
stops ps stages.First p place h fits e = bad_at IsFirst first_at first_message p place fits (first_stops p (first_at p) place e)
stops ps (stages.Definitions zero columns) p place h fits e = bad_at IsEofPacket eof_at eof_message p place fits (end_stops columns p (eof_at p) place e)
stops ps (stages.Definitions (suc owed) columns) p place h fits e = bad_at IsDefinition definition_at definition_message p place fits (definition_stops owed columns p (definition_at p) place e)
stops ps (stages.Rows columns rows) p place h fits e = bad_at (IsRowOrEnd (length columns)) (row_or_end (length columns)) (row_or_end_message (length columns)) p place fits (row_stops columns rows p (row_or_end (length columns) p) place e)
stops ps (stages.Refused place') p place h fits e = absurd h

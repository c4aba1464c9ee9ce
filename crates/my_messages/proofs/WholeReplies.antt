-- A reply is read to its end, and whatever a stage admits has one.
use Rattle.std.proofs.Common.{◌≡◌, ℕ, zero, suc, ◌⊎◌, List, [], ◌∷◌, ◌++◌, length, Option, refl, sym, ap, subst, ◌∙◌, append_assoc, inl, inr, arith}
use Rattle.std.proofs.lemmas.List.{append-nil}
use Rattle.my_wire.specs.Grammar.{IsBytes, FirstBad}
use Rattle.my_messages.specs.Reply.{IsEofPacket, IsDefinition, IsRowOf, Each, IsReply, IsTextValue, IsColumnValue, ok_bytes, eof_bytes, definition_bytes}
use Rattle.my_messages.specs.Replies.{Goes, Gives, Stops, first_pushed, definition_pushed, end_pushed, row_pushed, push_at, Admits, InDefinitions, InRows, LeadsTo, IsNext, Answers}
use Rattle.my_messages.specs.declared.reply.Column.{Column}
use Rattle.my_messages.specs.declared.reply.Reply.{Reply}
use Rattle.my_messages.specs.declared.reply.Reply.TheVariants as replies
use Rattle.my_messages.specs.declared.stage.FirstPayload.TheVariants.{Whole, Columns}
use Rattle.my_messages.specs.declared.stage.RowPayload.TheVariants.{Row, End}
use Rattle.my_messages.specs.declared.stage.Stage.{Stage}
use Rattle.my_messages.specs.declared.stage.Stage.TheVariants as stages
use Rattle.my_messages.proofs.Texts.{steps_utf8}
use Rattle.my_messages.proofs.Payloads.{eof_message, definition_message}
use Rattle.my_messages.proofs.ReplyRuns.{first_message, row_or_end_message, goes_is, gives_is, goes, gives, stops}
use Rattle.my_messages.proofs.Accepts.{accepts}
use Rattle.my_messages.proofs.Written.{written_ok, written_eof, written_definition}

-- ---- what a stage admits goes on

admitted : (s : Stage) (p : List ℕ) → Admits s p → ((r : Reply) × (push_at s p ≡ Gives r)) ⊎ ((t : Stage) × (push_at s p ≡ Goes t))
unfolding push_at
admitted stages.First p (Whole r, h) = inl (r, ap (first_pushed p) (first_message.again p (Whole r) h))
admitted stages.First p (Columns n, h) = inr (stages.Definitions n [], ap (first_pushed p) (first_message.again p (Columns n) h))
admitted (stages.Definitions zero columns) p (status, h) = inr (stages.Rows columns [], ap (end_pushed columns p) (eof_message.again p status h))
admitted (stages.Definitions (suc owed) columns) p (c, h) = inr (stages.Definitions owed (columns ++ c ∷ []), ap (definition_pushed owed columns p) (definition_message.again p c h))
admitted (stages.Rows columns rows) p (Row cells, h) = inr (stages.Rows columns (rows ++ cells ∷ []), ap (row_pushed columns rows p) ((row_or_end_message (length columns)).again p (Row cells) h))
admitted (stages.Rows columns rows) p (End status, h) = inl (replies.Rows columns rows status, ap (row_pushed columns rows p) ((row_or_end_message (length columns)).again p (End status) h))
admitted (stages.Refused place) p h = absurd h

-- ---- each stage that payloads lead to has an end

-- payloads that are the first of a reply
abbrev Ends : List (List ℕ) → Type 0
Ends ps = (more : List (List ℕ)) × (r : Reply) × IsReply r (ps ++ more)

-- one payload more
and_more : (ps : List (List ℕ)) (p : List ℕ) → Ends (ps ++ p ∷ []) → IsNext ps p
and_more ps p e = (e.0, e.1, subst (IsReply e.1) (append_assoc ps (p ∷ []) e.0) e.2)

begun : (ps : List (List ℕ)) (p : List ℕ) → IsNext ps p → Ends ps
begun ps p e = (p ∷ e.0, e.1, e.2)

-- a column whose texts are all empty
abbrev bare : Column
bare = record { schema = []; table = []; org_table = []; name = []; org_name = []; charset = 0; length = 0; kind = 0; flags = 0 }

empty_text : IsTextValue []
empty_text = (steps_utf8 [] (omega arith, omega arith, omega arith), omega arith)

bare_value : IsColumnValue bare
bare_value = record { schema = empty_text; table = empty_text; org_table = empty_text; name = empty_text; org_name = empty_text; charset = omega arith; width = omega arith; kind = omega arith; flags = omega arith }

rows_end : (columns : List Column) (rows : List (List (Option (List ℕ)))) (ps : List (List ℕ)) → InRows columns rows ps → Ends ps
unfolding push_at
rows_end columns rows ps h =
    let p = eof_bytes 0 in
    (p ∷ [], replies.Rows columns rows 0, gives ps (stages.Rows columns rows) p (replies.Rows columns rows 0) h (ap (row_pushed columns rows p) ((row_or_end_message (length columns)).again p (End 0) (written_eof 0 (omega arith)))))

definitions_end : (owed : ℕ) (columns : List Column) (ps : List (List ℕ)) → InDefinitions owed columns ps → Ends ps
unfolding push_at
definitions_end zero columns ps h =
    let p = eof_bytes 0 in
    begun ps p (and_more ps p (rows_end columns [] (ps ++ p ∷ []) (goes ps (stages.Definitions 0 columns) (stages.Rows columns []) p h (ap (end_pushed columns p) (eof_message.again p 0 (written_eof 0 (omega arith)))))))
definitions_end (suc owed) columns ps h =
    let p = definition_bytes bare in
    let more = columns ++ bare ∷ [] in
    begun ps p (and_more ps p (definitions_end owed more (ps ++ p ∷ []) (
    goes ps (stages.Definitions (suc owed) columns) (stages.Definitions owed more) p h (ap (definition_pushed owed columns p) (definition_message.again p bare (written_definition bare bare_value)))
    )))

stage_ends : (ps : List (List ℕ)) (s : Stage) → LeadsTo ps s → Ends ps
stage_ends ps stages.First h =
    let p = ok_bytes 0 0 0 in
    (p ∷ [], replies.Ok 0 0 0, subst (λ (l : List (List ℕ)). IsReply (replies.Ok 0 0 0) (l ++ p ∷ [])) (sym h) (p, refl, written_ok 0 0 0 (omega arith) (omega arith) (omega arith)))
stage_ends ps (stages.Definitions owed columns) h = definitions_end owed columns ps h
stage_ends ps (stages.Rows columns rows) h = rows_end columns rows ps h
stage_ends ps (stages.Refused place) h = absurd h

pub next_admitted : (ps : List (List ℕ)) (s : Stage) (p : List ℕ) → LeadsTo ps s → Admits s p → IsNext ps p
next_admitted ps s p h a =
    elim (admitted s p a) [
      | inl g ↦ ([], g.0, gives ps s p g.0 h g.1)
      | inr g ↦ and_more ps p (stage_ends (ps ++ p ∷ []) g.0 (goes ps s g.0 p h g.1))
    ]

-- what a stage refuses is bad for each reply that begins so
pub next_stops : (ps : List (List ℕ)) (s : Stage) (p : List ℕ) (place : ℕ) → LeadsTo ps s → IsBytes p → push_at s p ≡ Stops place → FirstBad (λ (u : Unit {0}) (b : List ℕ). IsNext ps b) p place
next_stops ps s p place h fits e =
    let f = stops ps s p place h fits e in
    record {
      before = f.before;
      after = f.after;
      split = f.split;
      place_is = f.place_is;
      begins = record { value = tt; more = f.begins.more; are_bytes = f.begins.are_bytes; spells = next_admitted ps s (f.before ++ f.begins.more) h f.begins.spells };
      bad = λ b more next begun. f.bad b more next (record { value = tt; more = begun.more; are_bytes = begun.are_bytes; spells = accepts ps s ((f.before ++ b ∷ []) ++ begun.more) begun.spells.0 begun.spells.1 h begun.spells.2 });
      none = λ u k. f.none tt (accepts ps s p k.0 k.1 h k.2);
    }

-- ---- a reply is answered as its payloads spell it

rows_answered : (columns : List Column) (rows done : List (List (Option (List ℕ)))) (ps : List (List ℕ)) (last : List ℕ) (status : ℕ) → Each (IsRowOf (length columns)) rows ps → IsEofPacket status last
    → Answers (stages.Rows columns done) (ps ++ last ∷ []) (replies.Rows columns (done ++ rows) status)
unfolding push_at
rows_answered columns [] done [] last status h k =
    let e : push_at (stages.Rows columns done) last ≡ Gives (replies.Rows columns done status) = ap (row_pushed columns done last) ((row_or_end_message (length columns)).again last (End status) k) in
    inl (refl, e ∙ ap (λ (l : List (List (Option (List ℕ)))). Gives (replies.Rows columns l status)) (sym (append-nil done)))
rows_answered columns [] done (p ∷ ps) last status h k = absurd h
rows_answered columns (row ∷ rows) done [] last status h k = absurd h
rows_answered columns (row ∷ rows) done (p ∷ ps) last status h k =
    inr (
      stages.Rows columns (done ++ row ∷ []),
      ap (row_pushed columns done p) ((row_or_end_message (length columns)).again p (Row row) h.0),
      subst (λ (l : List (List (Option (List ℕ)))). Answers (stages.Rows columns (done ++ row ∷ [])) (ps ++ last ∷ []) (replies.Rows columns l status)) (append_assoc done (row ∷ []) rows) (rows_answered columns rows (done ++ row ∷ []) ps last status h.1 k),
    )

definitions_answered : (columns done : List Column) (ps : List (List ℕ)) (last : List ℕ) (status : ℕ) (more : List (List ℕ)) (r : Reply) → Each IsDefinition columns ps → IsEofPacket status last
    → Answers (stages.Rows (done ++ columns) []) more r → Answers (stages.Definitions (length columns) done) (ps ++ last ∷ more) r
unfolding push_at
definitions_answered [] done [] last status more r h k m =
    inr (stages.Rows done [], ap (end_pushed done last) (eof_message.again last status k), subst (λ (l : List Column). Answers (stages.Rows l []) more r) (append-nil done) m)
definitions_answered [] done (p ∷ ps) last status more r h k m = absurd h
definitions_answered (c ∷ columns) done [] last status more r h k m = absurd h
definitions_answered (c ∷ columns) done (p ∷ ps) last status more r h k m =
    inr (
      stages.Definitions (length columns) (done ++ c ∷ []),
      ap (definition_pushed (length columns) done p) (definition_message.again p c h.0),
      definitions_answered columns (done ++ c ∷ []) ps last status more r h.1 k (subst (λ (l : List Column). Answers (stages.Rows l []) more r) (sym (append_assoc done (c ∷ []) columns)) m),
    )

pub answered : (r : Reply) (ps : List (List ℕ)) → IsReply r ps → Answers stages.First ps r
unfolding push_at
answered (replies.Ok a s w) ps h = subst (λ (l : List (List ℕ)). Answers stages.First l (replies.Ok a s w)) (sym h.1) (inl (refl, ap (first_pushed h.0) (first_message.again h.0 (Whole (replies.Ok a s w)) h.2)))
answered (replies.Err n s m) ps h = subst (λ (l : List (List ℕ)). Answers stages.First l (replies.Err n s m)) (sym h.1) (inl (refl, ap (first_pushed h.0) (first_message.again h.0 (Whole (replies.Err n s m)) h.2)))
answered (replies.Rows columns rows status) ps h =
    subst (λ (l : List (List ℕ)). Answers stages.First l (replies.Rows columns rows status)) (sym h.whole) (inr (
      stages.Definitions (length columns) [],
      ap (first_pushed h.count) (first_message.again h.count (Columns (length columns)) h.counted),
      definitions_answered columns [] h.definitions h.first_end h.first_status (h.row_payloads ++ h.last_end ∷ []) (replies.Rows columns rows status) h.defined h.definitions_end (
          rows_answered columns rows [] h.row_payloads h.last_end status h.rows_are h.rows_end
          ),
    ))
answered (replies.Switch a n) ps h = subst (λ (l : List (List ℕ)). Answers stages.First l (replies.Switch a n)) (sym h.1) (inl (refl, ap (first_pushed h.0) (first_message.again h.0 (Whole (replies.Switch a n)) h.2)))

one_answer : (s : Stage) (ps : List (List ℕ)) (r q : Reply) → Answers s ps r → Answers s ps q → r ≡ q
one_answer s [] r q h k = absurd h
one_answer s (p ∷ ps) r q (inl h) (inl k) = gives_is r q (sym h.1 ∙ k.1)
one_answer s (p ∷ ps) r q (inl h) (inr k) = absurd (let e : Gives r ≡ Goes k.0 = sym h.1 ∙ k.1 in cc)
one_answer s (p ∷ ps) r q (inr h) (inl k) = absurd (let e : Goes h.0 ≡ Gives q = sym h.1 ∙ k.1 in cc)
one_answer s (p ∷ ps) r q (inr h) (inr k) = one_answer h.0 ps r q h.2 (subst (λ (t : Stage). Answers t ps q) (sym (goes_is h.0 k.0 (sym h.1 ∙ k.1))) k.2)

pub spelled_once : (r q : Reply) (ps : List (List ℕ)) → IsReply r ps → IsReply q ps → r ≡ q
spelled_once r q ps h k = one_answer stages.First ps r q (answered r ps h) (answered q ps k)

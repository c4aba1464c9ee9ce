-- The payloads of a reply are never refused.
use Rattle.std.proofs.Common.{◌≡◌, ℕ, zero, suc, ◌+◌, ◌≤◌, ◌⊎◌, List, [], ◌∷◌, ◌++◌, length, Option, refl, sym, ap, subst, ◌∙◌, append_assoc, inl, inr, arith}
use Rattle.std.proofs.lemmas.Bool.{cases_lt}
use Rattle.std.proofs.lemmas.List.{length-append}
use Rattle.my_wire.proofs.Fields.{ok_is}
use Rattle.my_messages.specs.Reading.{count_at}
use Rattle.my_messages.specs.Reply.{IsEofPacket, IsColumnCount, IsDefinition, IsRowOf, Each, IsResultset, IsReply}
use Rattle.my_messages.specs.Replies.{IsFirst, Admits, InRows, LeadsTo}
use Rattle.my_messages.specs.declared.reply.Column.{Column}
use Rattle.my_messages.specs.declared.reply.Reply.{Reply}
use Rattle.my_messages.specs.declared.reply.Reply.TheVariants as replies
use Rattle.my_messages.specs.declared.stage.FirstPayload.{FirstPayload}
use Rattle.my_messages.specs.declared.stage.FirstPayload.TheVariants.{Whole, Columns}
use Rattle.my_messages.specs.declared.stage.RowPayload.TheVariants.{Row, End}
use Rattle.my_messages.specs.declared.stage.Stage.{Stage}
use Rattle.my_messages.specs.declared.stage.Stage.TheVariants as stages
use Rattle.my_messages.proofs.Payloads.{count_message}
use Rattle.my_messages.proofs.ReplyRuns.{eof_size, row_size}

-- two cuts of one list
cuts : {X : Type 0} (a : List X) (x : X) (b : List X) (c : List X) (y : X) (d : List X) → a ++ x ∷ b ≡ c ++ y ∷ d → length a ≤ length c
    → ((a ≡ c) × (x ≡ y) × (b ≡ d)) ⊎ ((m : List X) × (c ≡ a ++ x ∷ m))
cuts [] x b [] y d e le = inl (refl, cc, cc)
cuts [] x b (z ∷ c) y d e le = let same : x ≡ z = cc in inr (c, ap (λ k. k ∷ c) (sym same))
cuts (z ∷ a) x b [] y d e le = absurd (omega arith)
cuts (z ∷ a) x b (w ∷ c) y d e le =
    let heads : z ≡ w = cc in
    let tails : a ++ x ∷ b ≡ c ++ y ∷ d = cc in
    elim (cuts a x b c y d tails (omega arith)) [
      | inl h ↦ inl (ap (λ l. z ∷ l) h.0 ∙ ap (λ k. k ∷ c) heads, h.1, h.2)
      | inr h ↦ inr (h.0, ap (λ l. w ∷ l) h.1 ∙ ap (λ k. k ∷ (a ++ x ∷ h.0)) (sym heads))
    ]

Each-length : {X : Type 0} (P : X → List ℕ → Type 0) (xs : List X) (ps : List (List ℕ)) → Each P xs ps → length ps ≡ length xs
Each-length P [] [] h = refl
Each-length P [] (p ∷ ps) h = absurd h
Each-length P (x ∷ xs) [] h = absurd h
Each-length P (x ∷ xs) (p ∷ ps) h = ap suc (Each-length P xs ps h.1)

Each-middle : {X : Type 0} (P : X → List ℕ → Type 0) (xs : List X) (a : List (List ℕ)) (p : List ℕ) (b : List (List ℕ)) → Each P xs (a ++ p ∷ b) → (x : X) × P x p
Each-middle P [] [] p b h = absurd h
Each-middle P [] (q ∷ a) p b h = absurd h
Each-middle P (x ∷ xs) [] p b h = (x, h.0)
Each-middle P (x ∷ xs) (q ∷ a) p b h = Each-middle P xs a p b h.1

one_count : (n m : ℕ) (a b : List ℕ) → IsColumnCount n a → IsColumnCount m b → a ≡ b → n ≡ m
one_count n m a b h k same = ok_is n m (sym (count_message.again a n h) ∙ ap count_at same ∙ count_message.again b m k)

-- a reply of one payload has no second one
no_second : (a : List ℕ) (b : List (List ℕ)) (p : List ℕ) (more : List (List ℕ)) (payload : List ℕ) → (a ∷ b) ++ p ∷ more ≡ payload ∷ [] → ⊥
no_second a [] p more payload e = cc
no_second a (x ∷ b) p more payload e = cc

first_accepts : (r : Reply) (p : List ℕ) (more : List (List ℕ)) → IsReply r (p ∷ more) → (x : FirstPayload) × IsFirst x p
first_accepts (replies.Ok a s w) p more h = let same : p ≡ h.0 = (let e = h.1 in cc) in (Whole (replies.Ok a s w), subst (IsFirst (Whole (replies.Ok a s w))) (sym same) h.2)
first_accepts (replies.Err n s m) p more h = let same : p ≡ h.0 = (let e = h.1 in cc) in (Whole (replies.Err n s m), subst (IsFirst (Whole (replies.Err n s m))) (sym same) h.2)
first_accepts (replies.Rows columns rows status) p more h = let same : p ≡ h.count = (let e = h.whole in cc) in (Columns (length columns), subst (IsColumnCount (length columns)) (sym same) h.counted)
first_accepts (replies.Switch a n) p more h = let same : p ≡ h.0 = (let e = h.1 in cc) in (Whole (replies.Switch a n), subst (IsFirst (Whole (replies.Switch a n))) (sym same) h.2)

-- a result among whose payloads these come first
pub record Meets (count : List ℕ) (rest : List (List ℕ)) : Type 0 where
  pub columns : List Column
  pub rows : List (List (Option (List ℕ)))
  pub status : ℕ
  pub result : IsResultset columns rows status (count ∷ rest)

meets : (r : Reply) (count : List ℕ) (b : List (List ℕ)) (p : List ℕ) (more : List (List ℕ)) → IsReply r ((count ∷ b) ++ p ∷ more) → Meets count (b ++ p ∷ more)
meets (replies.Ok a s w) count b p more h = absurd (no_second count b p more h.0 h.1)
meets (replies.Err n s m) count b p more h = absurd (no_second count b p more h.0 h.1)
meets (replies.Rows columns rows status) count b p more h = record { columns = columns; rows = rows; status = status; result = h }
meets (replies.Switch a n) count b p more h = absurd (no_second count b p more h.0 h.1)

-- its count and what follows it
same_count : (count : List ℕ) (rest : List (List ℕ)) (m : Meets count rest) → count ≡ m.result.count
same_count count rest m = let e = m.result.whole in cc

same_rest : (count : List ℕ) (rest : List (List ℕ)) (m : Meets count rest) → rest ≡ m.result.definitions ++ m.result.first_end ∷ (m.result.row_payloads ++ m.result.last_end ∷ [])
same_rest count rest m = let e = m.result.whole in cc

definitions_accept : (owed : ℕ) (columns : List Column) (count : List ℕ) (definitions : List (List ℕ)) (p : List ℕ) (more : List (List ℕ)) → IsColumnCount (length columns + owed) count → Each IsDefinition columns definitions
    → Meets count (definitions ++ p ∷ more) → Admits (stages.Definitions owed columns) p
definitions_accept zero columns count definitions p more counted defined m =
    let k = m.result in
    let n = one_count (length columns + 0) (length m.columns) count k.count counted k.counted (same_count count (definitions ++ p ∷ more) m) in
    let a = Each-length IsDefinition columns definitions defined in
    let b = Each-length IsDefinition m.columns k.definitions k.defined in
    elim (cuts definitions p more k.definitions k.first_end (k.row_payloads ++ k.last_end ∷ []) (same_rest count (definitions ++ p ∷ more) m) (omega (arith, n, a, b))) [
      | inl h ↦ (k.first_status, subst (IsEofPacket k.first_status) (sym h.1) k.definitions_end)
      | inr h ↦ absurd (let c = ap length h.1 in let d = length-append definitions (p ∷ h.0) in omega (arith, n, a, b, c, d))
    ]
definitions_accept (suc owed) columns count definitions p more counted defined m =
    let k = m.result in
    let n = one_count (length columns + suc owed) (length m.columns) count k.count counted k.counted (same_count count (definitions ++ p ∷ more) m) in
    let a = Each-length IsDefinition columns definitions defined in
    let b = Each-length IsDefinition m.columns k.definitions k.defined in
    elim (cuts definitions p more k.definitions k.first_end (k.row_payloads ++ k.last_end ∷ []) (same_rest count (definitions ++ p ∷ more) m) (omega (arith, n, a, b))) [
      | inl h ↦ absurd (let c = ap length h.0 in omega (arith, n, a, b, c))
      | inr h ↦ Each-middle IsDefinition m.columns definitions p h.0 (subst (Each IsDefinition m.columns) h.1 k.defined)
    ]

rows_accept : (columns : List Column) (rows : List (List (Option (List ℕ)))) (r : Reply) (ps : List (List ℕ)) (p : List ℕ) (more : List (List ℕ)) → (s : InRows columns rows ps) → Meets s.count ((s.definitions ++ s.first_end ∷ s.row_payloads) ++ p ∷ more)
    → Admits (stages.Rows columns rows) p
rows_accept columns rows r ps p more s m =
    let k = m.result in
    let all = (s.definitions ++ s.first_end ∷ s.row_payloads) ++ p ∷ more in
    let n = one_count (length columns) (length m.columns) s.count k.count s.counted k.counted (same_count s.count all m) in
    let a = Each-length IsDefinition columns s.definitions s.defined in
    let b = Each-length IsDefinition m.columns k.definitions k.defined in
    let regrouped : s.definitions ++ s.first_end ∷ (s.row_payloads ++ p ∷ more) ≡ k.definitions ++ k.first_end ∷ (k.row_payloads ++ k.last_end ∷ []) =
    sym (append_assoc s.definitions (s.first_end ∷ s.row_payloads) (p ∷ more)) ∙ same_rest s.count all m in
    let rest : s.row_payloads ++ p ∷ more ≡ k.row_payloads ++ k.last_end ∷ [] =
    elim (cuts s.definitions s.first_end (s.row_payloads ++ p ∷ more) k.definitions k.first_end (k.row_payloads ++ k.last_end ∷ []) regrouped (omega (arith, n, a, b))) [
      | inl h ↦ h.2
      | inr h ↦ absurd (let c = ap length h.1 in let d = length-append s.definitions (s.first_end ∷ h.0) in omega (arith, n, a, b, c, d))
    ] in
    elim (cases_lt (length k.row_payloads) (length s.row_payloads)) [
      | inl lt ↦ elim (cuts k.row_payloads k.last_end [] s.row_payloads p more (sym rest) (omega arith)) [
        | inl h ↦ absurd (let c = ap length h.0 in omega (arith, c))
        | inr h ↦
            let row = Each-middle (IsRowOf (length columns)) rows k.row_payloads k.last_end h.0 (subst (Each (IsRowOf (length columns)) rows) h.1 s.rows_are) in
            let e = eof_size m.status k.last_end k.rows_end in
            let five = e.0 in
            let nine = row_size (length columns) row.0 k.last_end e.1.0 row.1 e.1.1 in
            absurd (omega arith)
      ]
      | inr le ↦ elim (cuts s.row_payloads p more k.row_payloads k.last_end [] rest le) [
        | inl h ↦ (End m.status, subst (IsEofPacket m.status) (sym h.1) k.rows_end)
        | inr h ↦
            let row = Each-middle (IsRowOf (length m.columns)) m.rows s.row_payloads p h.0 (subst (Each (IsRowOf (length m.columns)) m.rows) h.1 k.rows_are) in
            (Row row.0, subst (λ (w : ℕ). IsRowOf w row.0 p) (sym n) row.1)
      ]
    ]

pub accepts : (ps : List (List ℕ)) (s : Stage) (p : List ℕ) (more : List (List ℕ)) (r : Reply) → LeadsTo ps s → IsReply r (ps ++ p ∷ more) → Admits s p
accepts ps stages.First p more r h k = first_accepts r p more (subst (λ (l : List (List ℕ)). IsReply r (l ++ p ∷ more)) h k)
accepts ps (stages.Definitions owed columns) p more r h k =
    definitions_accept owed columns h.count h.definitions p more h.counted h.defined (meets r h.count h.definitions p more (subst (λ (l : List (List ℕ)). IsReply r (l ++ p ∷ more)) h.whole k))
accepts ps (stages.Rows columns rows) p more r h k =
    rows_accept columns rows r ps p more h (meets r h.count (h.definitions ++ h.first_end ∷ h.row_payloads) p more (subst (λ (l : List (List ℕ)). IsReply r (l ++ p ∷ more)) h.whole k))
accepts ps (stages.Refused place) p more r h k = absurd h

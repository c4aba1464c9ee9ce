-- Packets one after the other.
use Rattle.std.proofs.Common.{◌≡◌, ℕ, List, [], ◌∷◌, ◌++◌, refl, sym, ap, ◌∙◌, append_assoc}
use Rattle.std.proofs.lemmas.List.{append-nil}
use Rattle.my_wire.specs.Packets.{packet, packets, next, next_after}

pub packets-append : (seq : ℕ) (a b : List (List ℕ)) → packets seq (a ++ b) ≡ packets seq a ++ packets (next_after seq a) b
packets-append seq [] b = refl
packets-append seq (p ∷ a) b = ap (λ (l : List ℕ). packet seq p ++ l) (packets-append (next seq) a b) ∙ sym (append_assoc (packet seq p) (packets (next seq) a) (packets (next_after (next seq) a) b))

-- pieces that were added one by one
pieces : (p1 p2 p3 p4 p5 o1 o2 o3 o4 o5 : List ℕ) → o1 ≡ p1 → o2 ≡ o1 ++ p2 → o3 ≡ o2 ++ p3 → o4 ≡ o3 ++ p4 → o5 ≡ o4 ++ p5 → o5 ≡ p1 ++ (p2 ++ (p3 ++ (p4 ++ p5)))
pieces p1 p2 p3 p4 p5 o1 o2 o3 o4 o5 e1 e2 e3 e4 e5 =
    e5 ∙ ap (λ (l : List ℕ). l ++ p5) (e4 ∙ ap (λ (l : List ℕ). l ++ p4) (e3 ∙ ap (λ (l : List ℕ). l ++ p3) (e2 ∙ ap (λ (l : List ℕ). l ++ p2) e1))) ∙ simp append_assoc

-- the packets of a result that were written in order are those of its payloads
pub result_joined : (seq n1 n2 n3 n4 : ℕ) (count eof : List ℕ) (defs rows : List (List ℕ)) (o1 o2 o3 o4 o5 : List ℕ)
    → o1 ≡ packet seq count → n1 ≡ next seq → o2 ≡ o1 ++ packets n1 defs → n2 ≡ next_after n1 defs → o3 ≡ o2 ++ packet n2 eof → n3 ≡ next n2
    → o4 ≡ o3 ++ packets n3 rows → n4 ≡ next_after n3 rows → o5 ≡ o4 ++ packet n4 eof
    → o5 ≡ packets seq (count ∷ (defs ++ (eof ∷ (rows ++ eof ∷ []))))
result_joined seq n1 n2 n3 n4 count eof defs rows o1 o2 o3 o4 o5 e1 m1 e2 m2 e3 m3 e4 m4 e5 =
    let last : packets n3 (rows ++ eof ∷ []) ≡ packets n3 rows ++ packet n4 eof =
    packets-append n3 rows (eof ∷ []) ∙ ap (λ (n : ℕ). packets n3 rows ++ (packet n eof ++ [])) (sym m4) ∙ ap (λ (l : List ℕ). packets n3 rows ++ l) (append-nil (packet n4 eof)) in
    let middle : packets n2 (eof ∷ (rows ++ eof ∷ [])) ≡ packet n2 eof ++ (packets n3 rows ++ packet n4 eof) =
    ap (λ (n : ℕ). packet n2 eof ++ packets n (rows ++ eof ∷ [])) (sym m3) ∙ ap (λ (l : List ℕ). packet n2 eof ++ l) last in
    let begun : packets n1 (defs ++ (eof ∷ (rows ++ eof ∷ []))) ≡ packets n1 defs ++ (packet n2 eof ++ (packets n3 rows ++ packet n4 eof)) =
    packets-append n1 defs (eof ∷ (rows ++ eof ∷ [])) ∙ ap (λ (n : ℕ). packets n1 defs ++ packets n (eof ∷ (rows ++ eof ∷ []))) (sym m2) ∙ ap (λ (l : List ℕ). packets n1 defs ++ l) middle in
    let whole : packets seq (count ∷ (defs ++ (eof ∷ (rows ++ eof ∷ [])))) ≡ packet seq count ++ (packets n1 defs ++ (packet n2 eof ++ (packets n3 rows ++ packet n4 eof))) =
    ap (λ (n : ℕ). packet seq count ++ packets n (defs ++ (eof ∷ (rows ++ eof ∷ [])))) (sym m1) ∙ ap (λ (l : List ℕ). packet seq count ++ l) begun in
    pieces (packet seq count) (packets n1 defs) (packet n2 eof) (packets n3 rows) (packet n4 eof) o1 o2 o3 o4 o5 e1 e2 e3 e4 e5 ∙ sym whole

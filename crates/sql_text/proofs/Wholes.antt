-- Reading all of a text's tokens: a text of a rule, with a semicolon or none behind it.
use Rattle.std.proofs.Common.{◌≡◌, ℕ, suc, ◌<◌, Bool, false, List, [], ◌∷◌, ◌++◌, length, Result, Ok, Err, refl, sym, ap, subst, ◌∙◌, append_assoc, append-nil, arith, inl, inr}
use Rattle.sql_text.specs.declared.token.Fixed.TheVariants.{Semicolon}
use Rattle.sql_text.specs.declared.token.Token.{Token}
use Rattle.sql_text.specs.declared.fault.Stop.{Stop}
use Rattle.sql_text.specs.Reading.{◌>>=◌, optional_at, ended}
use Rattle.sql_text.specs.Places.{Begins, Allowed, IsFirstBad}
use Rattle.sql_text.proofs.Fields.{Reads, Rules, Near, Reach, Begun, IsField, stop_at, bind_ok, bind_err}

module _ {X : Type 0} (A : Rules X) (body : ℕ → Reads X) (first further : List ℕ) (field : (depth : ℕ) → IsField A depth (λ ts. body depth ts >>= λ s. optional_at Semicolon s.1 >>= λ e. Ok (s.0, e.1)) false first further) where
  abbrev with_end : X → Bool × List Token → Result (X × List Token) Stop
  with_end s e = Ok (s, e.1)

  abbrev to_end : X × List Token → Result (X × List Token) Stop
  to_end s = optional_at Semicolon s.1 >>= with_end s.0

  abbrev whole_at : ℕ → Reads X
  whole_at depth ts = body depth ts >>= to_end

  abbrev pair_ended : X × List Token → Result X Stop
  pair_ended p = ended p.0 p.1

  abbrev end_of : X × List Token → Result X Stop
  end_of s = optional_at Semicolon s.1 >>= λ e. ended s.0 e.1

  end_is : (s : X) (r : Result (Bool × List Token) Stop) → (r >>= λ e. ended s e.1) ≡ (r >>= with_end s >>= pair_ended)
  end_is s (Ok e) = refl
  end_is s (Err stop) = refl

  whole_is : (r : Result (X × List Token) Stop) → (r >>= end_of) ≡ (r >>= to_end >>= pair_ended)
  whole_is (Ok s) = end_is s.0 (optional_at Semicolon s.1)
  whole_is (Err stop) = refl

  abbrev pub read_at : ℕ → List Token → Result X Stop
  read_at depth ts = body depth ts >>= λ s. optional_at Semicolon s.1 >>= λ end. ended s.0 end.1

  statement_is : (depth : ℕ) (ts : List Token) → read_at depth ts ≡ (whole_at depth ts >>= pair_ended)
  statement_is depth ts = whole_is (body depth ts)

  ended_ok : (p : X × List Token) (s : X) → pair_ended p ≡ Ok s → (p.0 ≡ s) × (p.1 ≡ [])
  ended_ok (r, []) s e = (cc, refl)
  ended_ok (r, t ∷ ts) s e = absurd cc

  ended_err : (p : X × List Token) (stop : Stop) → pair_ended p ≡ Err stop → (b : Token) × (old : List Token) × (p.1 ≡ b ∷ old) × (stop ≡ stop_at false (suc (length old)))
  ended_err (r, []) stop e = absurd cc
  ended_err (r, t ∷ ts) stop e = (t, ts, refl, cc)

  -- what is read is a statement
  pub read_found : (depth : ℕ) (ts : List Token) (s : X) → read_at depth ts ≡ Ok s → A depth s ts
  read_found depth ts s e =
      let p = bind_ok (whole_at depth ts) pair_ended s (sym (statement_is depth ts) ∙ e) in
      let q = ended_ok p.0 s p.2 in
      let t = (field depth).took ts p.0.0 p.0.1 p.1 in
      let all : t.front ≡ ts = sym (t.split ∙ ap (λ (l : List Token). t.front ++ l) q.1 ∙ append-nil t.front) in
      subst (A depth s) all (subst (λ v. A depth v t.front) q.0 (t.spells depth (omega arith)))

  near_ended : (depth deeper : ℕ) (s : X) (r : Result (X × List Token) Stop) → Reach depth deeper s [] r → Near depth deeper s (r >>= pair_ended)
  near_ended depth deeper s (Ok p) h = subst (λ (q : X × List Token). Near depth deeper s (pair_ended q)) (sym h) refl
  near_ended depth deeper s (Err stop) h = h

  whole_near : (depth deeper : ℕ) (s : X) (ts : List Token) → A deeper s ts → Reach depth deeper s [] (whole_at depth ts)
  whole_near depth deeper s ts h = subst (λ (l : List Token). Reach depth deeper s [] (whole_at depth l)) (append-nil ts) ((field depth).again deeper s ts [] h tt)

  read_near : (depth deeper : ℕ) (s : X) (ts : List Token) → A deeper s ts → Near depth deeper s (read_at depth ts)
  read_near depth deeper s ts h = subst (Near depth deeper s) (sym (statement_is depth ts)) (near_ended depth deeper s (whole_at depth ts) (whole_near depth deeper s ts h))

  -- a statement is read
  pub read_again : (depth : ℕ) (s : X) (ts : List Token) → A depth s ts → read_at depth ts ≡ Ok s
  read_again depth s ts h =
      (elim (read_at depth ts) as (λ r. Near depth depth s r → r ≡ Ok s) [
        | Ok t ↦ λ n. ap Ok n
        | Err stop ↦ λ n. absurd (let l : depth < depth = n.1 in omega arith)
      ]) (read_near depth depth s ts h)

  -- no statement is read where reading stops
  never : (most : ℕ) (stop : Stop) (depth : ℕ) (s : X) (r : Result (X × List Token) Stop) → Allowed stop.deep most depth → r ≡ Err stop → Reach most depth s [] r → ⊥
  never most stop depth s r allowed e n =
      let m : Near {Y = X × List Token} most depth (s, []) (Err stop) = subst (Near {Y = X × List Token} most depth (s, [])) e n in
      let same : depth ≡ most = subst (λ d. Allowed d most depth) m.0 allowed in
      let less : most < depth = m.1 in
      omega arith

  begun_begins : (most : ℕ) (front : List Token) → Begun A most front → Begins A (suc most) front
  begun_begins most front b = record { value = b.value; more = b.more; spells = b.spells }

  stuck_bad : (most : ℕ) (ts : List Token) (stop : Stop) → whole_at most ts ≡ Err stop → IsFirstBad A most stop.deep ts stop.left
  stuck_bad most ts stop e =
      let s = (field most).stuck ts stop e in
      record {
        before = s.before;
        after = s.after;
        split = s.split;
        left_is = s.left;
        begins = begun_begins most s.before s.begins;
        bad = λ b old depth k allowed begun.
            let stays = s.stays b old begun.more k in
            never most (stop_at stop.deep (suc (length begun.more))) depth begun.value (whole_at most (s.before ++ (b ∷ begun.more))) allowed stays
            (whole_near most depth begun.value (s.before ++ (b ∷ begun.more)) (subst (A depth begun.value) (append_assoc s.before (b ∷ []) begun.more) begun.spells));
        none = λ v depth allowed h. never most stop depth v (whole_at most ts) allowed e (whole_near most depth v ts h);
        opens = λ d. let q = s.deep d in (q.0, q.1, q.2, q.3, begun_begins most (s.before ++ (q.0 ∷ [])) q.4);
      }

  -- more stands behind what is read
  behind_bad : (most : ℕ) (ts : List Token) (v : X) (b : Token) (old : List Token) → whole_at most ts ≡ Ok (v, b ∷ old) → IsFirstBad A most false ts (suc (length old))
  behind_bad most ts v b old e =
      let t = (field most).took ts v (b ∷ old) e in
      let further : (new : List Token) (s : X) (depth : ℕ) → A depth s (t.front ++ (b ∷ new)) → ⊥ = λ new s depth h.
      let n = whole_near most depth s (t.front ++ (b ∷ new)) h in
      let m : Near {Y = X × List Token} most depth (s, []) (Ok (v, b ∷ new)) = subst (Near {Y = X × List Token} most depth (s, [])) (t.looks b old new refl) n in
      let f : b ∷ new ≡ [] = ap (λ (p : X × List Token). p.1) m in
      cc in
      record {
        before = t.front;
        after = b ∷ old;
        split = t.split;
        left_is = refl;
        begins = record { value = v; more = []; spells = subst (A (suc most) v) (sym (append-nil t.front)) (t.spells (suc most) (omega arith)) };
        bad = λ c new depth k allowed begun.
            let same : b ≡ c = cc in
            further begun.more begun.value depth
            (subst (λ d. A depth begun.value (t.front ++ (d ∷ begun.more))) (sym same) (subst (A depth begun.value) (append_assoc t.front (c ∷ []) begun.more) begun.spells));
        none = λ s depth allowed h. further old s depth (subst (A depth s) t.split h);
        opens = λ d. absurd cc;
      }

  -- where reading stops, the first token stands that can't stand there
  pub read_bad : (most : ℕ) (ts : List Token) (stop : Stop) → read_at most ts ≡ Err stop → IsFirstBad A most stop.deep ts stop.left
  read_bad most ts stop e =
      elim (bind_err (whole_at most ts) pair_ended stop (sym (statement_is most ts) ∙ e)) [
        | inl h ↦ stuck_bad most ts stop h
        | inr h ↦
            let k = ended_err h.0 stop h.2 in
            let read : whole_at most ts ≡ Ok (h.0.0, k.0 ∷ k.1) = h.1 ∙ ap (λ (l : List Token). Ok (h.0.0, l)) k.2 in
            subst (λ (s : Stop). IsFirstBad A most s.deep ts s.left) (sym k.3) (behind_bad most ts h.0.0 k.0 k.1 read)
      ]

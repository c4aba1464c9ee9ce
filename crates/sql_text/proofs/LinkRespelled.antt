-- What is printed of a request has tokens that spell it.
use Rattle.std.proofs.Common.{◌≡◌, ℕ, ℤ, pos, negsuc, ◌<◌, ◌^◌, map, List, [], ◌∷◌, ◌++◌, length, Bool, true, false, cond, Option, Some, None, refl, sym, subst, arith, inl, inr, codes}
use Rattle.std.specs.Prelude.{nat_le}
use Rattle.std.specs.List.{flat_map}
use Rattle.std.specs.Str.{IsUtf8}
use Rattle.std.specs.Fmt.{signed_decimal}
use Rattle.std.proofs.lemmas.Fmt.{decimal_digit}
use Rattle.std.proofs.lemmas.Bool.Decides.{nat_tests}
use Rattle.sql_values.specs.Expressions.{is_big_int, big_int}
use Rattle.sql_values.specs.declared.value.Value.{Value}
use Rattle.sql_values.specs.declared.value.Value.TheVariants as values
use Rattle.sql_values.specs.declared.places.Xid.{Xid}
use Rattle.sql_text.specs.declared.link.LinkRequest.{LinkRequest}
use Rattle.sql_text.specs.declared.link.LinkRequest.TheVariants as requests
use Rattle.sql_text.specs.declared.link.ScanItems.{ScanItems}
use Rattle.sql_text.specs.declared.link.ScanItems.TheVariants as scanned
use Rattle.sql_text.specs.declared.token.Fixed.{Fixed}
use Rattle.sql_text.specs.declared.token.Fixed.TheVariants.{And, Between, By, Delete, From, In, Into, Limit, Order, Select, Values, Where, Commit, End, Prepare, Recover, Replace, Rollback, Start, Xa, Open, Close, Comma, Star, Semicolon}
use Rattle.sql_text.specs.declared.token.Token.{Token}
use Rattle.sql_text.specs.declared.token.Token.TheVariants as tokens
use Rattle.sql_text.specs.Rules.{Rule, is, one, ◌⊳◌, ◌▷◌, ◌∣◌, series, at_most_further, optional}
use Rattle.sql_text.specs.Tokens.{Placed, as_link, worded, link_word, tokens_of, link_tokens_of, placed_tokens}
use Rattle.sql_text.specs.Grammar.{count_of, name, aggregate, lock}
use Rattle.sql_text.specs.LinkGrammar.{key_of, as_number, value_of, part_of, xid, branch, scan_items, order, limit, scan, row, put, keys, delete, request, most_link_openings, IsRequest}
use Rattle.sql_text.specs.Printing.{quoted, name_text, joined_text, call_text, where_text, lock_text}
use Rattle.sql_text.specs.LinkPrinting.{xid_text, value_text, row_text, scan_items_text, order_text, limit_text, link_printed}
use Rattle.sql_text.proofs.Written.{AtomAt, Suffix, PrefixAt, prefix_of, nothing_behind, atom_suffix, prefix_atom, separator_atom, suffix_suffix, separator_alone, atom_tokens}
use Rattle.sql_text.proofs.Lexemes as lexemes
use Rattle.sql_text.proofs.Sound.{Sound, Sounds, escapes_utf8, tokens_sound}
use Rattle.sql_text.proofs.Told.{Told, Respells, first_sound, second_sound, mapped, unmapped, retold}
use Rattle.sql_text.proofs.Respelled.{name_told, series_told, few_told, enclosed_told}
use Rattle.sql_text.proofs.RespelledAggregates.{aggregate_told}
use Rattle.sql_text.proofs.RespelledOrders.{count_told}
use Rattle.sql_text.proofs.RespelledStatements.{where_told, lock_told}
use Rattle.sql_text.proofs.LinkWords as words
use Rattle.sql_text.proofs.LinkWords.{link_fixes}

abbrev TextsAt : Bool → List ℕ → List Token → Type 0
TextsAt operand bytes ts = AtomAt as_link operand bytes ts

abbrev Texts : List ℕ → List Token → Type 0
Texts bytes ts = TextsAt false bytes ts

abbrev Ends : List ℕ → List Token → Type 0
Ends bytes ts = Suffix as_link bytes ts

-- ---- numbers

big_case : (z k : ℤ) (b : Bool) → is_big_int z ≡ b → cond b (Some z) None ≡ Some k → (z ≡ k) × (is_big_int z ≡ true)
big_case z k true e h = (cc, e)
big_case z k false e h = absurd cc

big_is : (z k : ℤ) → big_int z ≡ Some k → (z ≡ k) × (is_big_int z ≡ true)
big_is z k h = big_case z k (is_big_int z) refl h

-- a number of 64 bits, as it is written
record Number (z : ℤ) : Type 0 where
  token : Token
  atom : Texts (signed_decimal z) (token ∷ [])
  key : key_of token ≡ Some z
  value : value_of token ≡ Some (values.Number z)

number_of : (z : ℤ) → is_big_int z ≡ true → Number z
number_of (pos n) h =
    let small : n < 2 ^ 63 = grind (arith, nat_tests) in
    record { token = tokens.Digits (pos n); atom = lexemes.digits_atom as_link link_fixes false n (omega arith); key = rw h refl; value = rw h refl }
number_of (negsuc n) h =
    let small : n < 2 ^ 63 = grind (arith, nat_tests) in
    record { token = tokens.Signed (negsuc n); atom = lexemes.minus_atom as_link link_fixes n (omega arith); key = rw h refl; value = rw h refl }

big_number : (z k : ℤ) → big_int z ≡ Some k → Number k
big_number z k h = let b = big_is z k h in number_of k (subst (λ v. is_big_int v ≡ true) b.0 b.1)

key_number : (t : Token) (k : ℤ) → key_of t ≡ Some k → Number k
key_number (tokens.Digits z) k h = big_number z k h
key_number (tokens.Signed z) k h = big_number z k h
key_number (tokens.Text t) k h = absurd cc
key_number (tokens.Fixed f) k h = absurd cc
key_number (tokens.Bare n) k h = absurd cc
key_number (tokens.Quoted n) k h = absurd cc
key_number tokens.Bad k h = absurd cc

as_number_is : (o : Option ℤ) (v : Value) → as_number o ≡ Some v → (k : ℤ) × (o ≡ Some k) × (values.Number k ≡ v)
as_number_is None v h = absurd cc
as_number_is (Some k) v h = (k, refl, cc)

number_value : (z : ℤ) (v : Value) → as_number (big_int z) ≡ Some v → Told Texts (one value_of) v (value_text v)
number_value z v h =
    let k = as_number_is (big_int z) v h in
    let n = big_number z k.0 k.1 in
    subst (λ (w : Value). Told Texts (one value_of) w (value_text w)) k.2 (n.token ∷ [], (n.token, refl, n.value), n.atom)

value_case : (t : Token) (v : Value) → value_of t ≡ Some v → Sound t → Told Texts (one value_of) v (value_text v)
value_case (tokens.Digits z) v h sound = number_value z v h
value_case (tokens.Signed z) v h sound = number_value z v h
value_case (tokens.Text t) v h sound =
    let same : values.Text t ≡ v = cc in
    subst (λ (w : Value). Told Texts (one value_of) w (value_text w)) same (tokens.Text t ∷ [], (tokens.Text t, refl, refl), lexemes.text_atom as_link link_fixes false t sound (escapes_utf8 t sound))
value_case (tokens.Fixed f) v h sound = absurd cc
value_case (tokens.Bare n) v h sound = absurd cc
value_case (tokens.Quoted n) v h sound = absurd cc
value_case tokens.Bad v h sound = absurd cc

key_told : Respells Texts (one key_of) signed_decimal
key_told k ts (t, e, h) sound = let n = key_number t k h in (n.token ∷ [], (n.token, refl, n.key), n.atom)

value_told : Respells Texts (one value_of) value_text
value_told v ts (t, e, h) sound = let s : Sounds (t ∷ []) = subst Sounds e sound in value_case t v h s.0

-- ---- branches

part_case : (t g : List ℕ) (b : Bool) → nat_le (length t) 64 ≡ b → cond b (Some t) None ≡ Some g → (t ≡ g) × (nat_le (length t) 64 ≡ true)
part_case t g true e h = (cc, e)
part_case t g false e h = absurd cc

part_of_text : (t : List ℕ) → nat_le (length t) 64 ≡ true → part_of (tokens.Text t) ≡ Some t
part_of_text t h = rw h refl

part_by : (operand : Bool) (t : Token) (g : List ℕ) → part_of t ≡ Some g → Sound t → Told (TextsAt operand) (one part_of) g (quoted g)
part_by operand (tokens.Text t) g h sound =
    let p = part_case t g (nat_le (length t) 64) refl h in
    subst (λ (l : List ℕ). Told (TextsAt operand) (one part_of) l (quoted l)) p.0
    (tokens.Text t ∷ [], (tokens.Text t, refl, part_of_text t p.1), lexemes.text_atom as_link link_fixes operand t sound (escapes_utf8 t sound))
part_by operand (tokens.Fixed f) g h sound = absurd cc
part_by operand (tokens.Bare n) g h sound = absurd cc
part_by operand (tokens.Quoted n) g h sound = absurd cc
part_by operand (tokens.Digits n) g h sound = absurd cc
part_by operand (tokens.Signed n) g h sound = absurd cc
part_by operand tokens.Bad g h sound = absurd cc

part_told : (operand : Bool) → Respells (TextsAt operand) (one part_of) quoted
part_told operand g ts (t, e, h) sound = let s : Sounds (t ∷ []) = subst Sounds e sound in part_by operand t g h s.0

-- the format behind its comma
format_suffix : Ends (codes ",1") (tokens.Fixed Comma ∷ tokens.Digits (pos 1) ∷ [])
format_suffix =
    subst (λ (l : List ℕ). Ends (codes "," ++ l) (tokens.Fixed Comma ∷ tokens.Digits (pos 1) ∷ [])) (decimal_digit 1 (omega arith))
    (separator_atom as_link (codes ",") (signed_decimal (pos 1)) (tokens.Fixed Comma ∷ []) (tokens.Digits (pos 1) ∷ []) (lexemes.comma_symbol as_link link_fixes) (lexemes.digits_atom as_link link_fixes false 1 (omega arith)))

-- it stands behind a word of link text
xid_told : Respells (TextsAt true) xid xid_text
xid_told x ts (g, s) sound =
    let first = s.second in
    let inner : Sounds first.0 = (let k : Sounds (tokens.Fixed Comma ∷ first.0) = subst Sounds first.1 (second_sound s sound) in k.1) in
    let q = first.2 in
    let behind = q.1.second in
    let f = behind.2 in
    let same : x ≡ record { gtrid = g; bqual = q.0 } = f.1.second.0 in
    let a = part_told true g s.front s.first (first_sound s sound) in
    let b = part_told false q.0 q.1.front q.1.first (first_sound q.1 inner) in
    let format : List Token = tokens.Fixed Comma ∷ tokens.Digits (pos 1) ∷ [] in
    let value : Xid = record { gtrid = g; bqual = q.0 } in
    retold (TextsAt true) xid xid_text x value same (
      a.0 ++ (tokens.Fixed Comma ∷ (b.0 ++ format)),
      (
        g,
        record {
          front = a.0;
          rest = tokens.Fixed Comma ∷ (b.0 ++ format);
          whole = refl;
          first = a.1;
          second = (
            b.0 ++ format,
            refl,
            (
              q.0,
              record {
                front = b.0;
                rest = format;
                whole = refl;
                first = b.1;
                second = (tokens.Digits (pos 1) ∷ [], refl, (1, record { front = tokens.Digits (pos 1) ∷ []; rest = []; whole = refl; first = (tokens.Digits (pos 1), refl, refl); second = (refl, refl) }));
              },
            ),
          );
        },
      ),
      atom_suffix as_link (quoted g) (codes "," ++ (quoted q.0 ++ codes ",1")) a.0 (tokens.Fixed Comma ∷ (b.0 ++ format)) a.2
          (separator_atom as_link (codes ",") (quoted q.0 ++ codes ",1") (tokens.Fixed Comma ∷ []) (b.0 ++ format) (lexemes.comma_symbol as_link link_fixes)
          (atom_suffix as_link (quoted q.0) (codes ",1") b.0 format b.2 format_suffix)),
    )

-- a branch's name behind two words
named_told : (f : Fixed) (of : Xid → LinkRequest) (word : List ℕ) → PrefixAt as_link false true word (tokens.Fixed Xa ∷ tokens.Fixed f ∷ []) → (r : LinkRequest) (ts : List Token) → (f ⊳ (xid ▷ λ x. is (of x))) r ts → Sounds ts
    → (x : Xid) × (r ≡ of x) × Told Texts (Xa ⊳ (f ⊳ (xid ▷ λ y. is (of y)))) (of x) (word ++ xid_text x)
named_told f of word p r ts (rest, e, h) sound =
    let inner : Sounds rest = (let k : Sounds (tokens.Fixed f ∷ rest) = subst Sounds e sound in k.1) in
    let u = unmapped xid of r rest h in
    let a = xid_told u.0 rest u.2 inner in (
      u.0,
      u.1,
      (
        tokens.Fixed Xa ∷ tokens.Fixed f ∷ a.0,
        (tokens.Fixed f ∷ a.0, refl, (a.0, refl, mapped xid (λ y. is (of y)) u.0 (of u.0) a.0 a.1 (refl, refl))),
        prefix_atom as_link word (xid_text u.0) (tokens.Fixed Xa ∷ tokens.Fixed f ∷ []) a.0 p a.2,
      ),
    )

branch_told : Respells Texts branch link_printed
unfolding link_printed
branch_told r ts (rest, e, h) sound =
    let inner : Sounds rest = (let k : Sounds (tokens.Fixed Xa ∷ rest) = subst Sounds e sound in k.1) in
    elim h [
      | inl a ↦
          let n = named_told Start requests.Start (codes "XA START ") words.start_prefix r rest a inner in
          retold Texts branch link_printed r (requests.Start n.0) n.1 (n.2.0, (n.2.1.0, n.2.1.1, inl n.2.1.2), n.2.2)
      | inr h ↦ elim h [
        | inl a ↦
            let n = named_told End requests.End (codes "XA END ") words.end_prefix r rest a inner in
            retold Texts branch link_printed r (requests.End n.0) n.1 (n.2.0, (n.2.1.0, n.2.1.1, inr (inl n.2.1.2)), n.2.2)
        | inr h ↦ elim h [
          | inl a ↦
              let n = named_told Prepare requests.Prepare (codes "XA PREPARE ") words.prepare_prefix r rest a inner in
              retold Texts branch link_printed r (requests.Prepare n.0) n.1 (n.2.0, (n.2.1.0, n.2.1.1, inr (inr (inl n.2.1.2))), n.2.2)
          | inr h ↦ elim h [
            | inl a ↦
                let n = named_told Commit requests.Commit (codes "XA COMMIT ") words.commit_prefix r rest a inner in
                retold Texts branch link_printed r (requests.Commit n.0) n.1 (n.2.0, (n.2.1.0, n.2.1.1, inr (inr (inr (inl n.2.1.2)))), n.2.2)
            | inr h ↦ elim h [
              | inl a ↦
                  let n = named_told Rollback requests.Rollback (codes "XA ROLLBACK ") words.rollback_prefix r rest a inner in
                  retold Texts branch link_printed r (requests.Rollback n.0) n.1 (n.2.0, (n.2.1.0, n.2.1.1, inr (inr (inr (inr (inl n.2.1.2))))), n.2.2)
              | inr a ↦
                  retold Texts branch link_printed r requests.Recover a.2.0
                  (tokens.Fixed Xa ∷ tokens.Fixed Recover ∷ [], (tokens.Fixed Recover ∷ [], refl, inr (inr (inr (inr (inr ([], refl, (refl, refl))))))), words.recover_atom)
            ]
          ]
        ]
      ]
    ]

-- ---- scans

items_told : (depth : ℕ) → Respells Texts (scan_items depth) scan_items_text
items_told depth i ts (inl (rest, e, h)) sound =
    retold Texts (scan_items depth) scan_items_text i scanned.All h.0
    (tokens.Fixed Star ∷ [], inl ([], refl, (refl, refl)), separator_alone as_link (codes "*") (tokens.Fixed Star ∷ []) (lexemes.star_symbol as_link link_fixes))
items_told depth i ts (inr (x, s)) sound =
    let u = unmapped (at_most_further 999 Comma (aggregate depth)) (λ l. scanned.Aggregates (x ∷ l)) i s.rest s.second in
    let a = aggregate_told as_link link_fixes depth x s.front s.first (first_sound s sound) in
    let b = few_told as_link link_fixes 999 Comma (aggregate depth) call_text (codes ", ") (lexemes.spaced_comma as_link link_fixes) (aggregate_told as_link link_fixes depth) u.0 s.rest u.2 (second_sound s sound) in
    retold Texts (scan_items depth) scan_items_text i (scanned.Aggregates (x ∷ u.0)) u.1 (
      a.0 ++ b.0,
      inr (x, record { front = a.0; rest = b.0; whole = refl; first = a.1; second = mapped (at_most_further 999 Comma (aggregate depth)) (λ l. is (scanned.Aggregates (x ∷ l))) u.0 (scanned.Aggregates (x ∷ u.0)) b.0 b.1 (refl, refl) }),
      atom_suffix as_link (call_text x) (flat_map (λ y. codes ", " ++ y) (map call_text u.0)) a.0 b.0 a.2 b.2,
    )

order_told : (items : ScanItems) → Respells Ends (order items) order_text
order_told scanned.All o ts (rest, e, (more, f, h)) sound =
    let outer : Sounds rest = (let k : Sounds (tokens.Fixed Order ∷ rest) = subst Sounds e sound in k.1) in
    let inner : Sounds more = (let k : Sounds (tokens.Fixed By ∷ more) = subst Sounds f outer in k.1) in
    let u = unmapped name Some o more h in
    let a = name_told as_link link_fixes u.0 more u.2 inner in
    retold Ends (order scanned.All) order_text o (Some u.0) u.1 (
      tokens.Fixed Order ∷ tokens.Fixed By ∷ a.0,
      (tokens.Fixed By ∷ a.0, refl, (a.0, refl, mapped name (λ k. is (Some k)) u.0 (Some u.0) a.0 a.1 (refl, refl))),
      separator_atom as_link (codes " ORDER BY ") (name_text u.0) (tokens.Fixed Order ∷ tokens.Fixed By ∷ []) a.0 (lexemes.order_by as_link link_fixes) a.2,
    )
order_told (scanned.Aggregates l) o ts h sound = retold Ends (order (scanned.Aggregates l)) order_text o None h.0 ([], (refl, refl), nothing_behind as_link)

limit_told : Respells Ends limit limit_text
limit_told l ts (inl (rest, e, h)) sound =
    let u = unmapped (one count_of) Some l rest h in
    let a = count_told as_link link_fixes u.0 rest u.2 in
    retold Ends limit limit_text l (Some u.0) u.1 (
      tokens.Fixed Limit ∷ a.0,
      inl (a.0, refl, mapped (one count_of) (λ n. is (Some n)) u.0 (Some u.0) a.0 a.1 (refl, refl)),
      separator_atom as_link (codes " LIMIT ") (signed_decimal (pos u.0)) (tokens.Fixed Limit ∷ []) a.0 (lexemes.limit_word as_link link_fixes) a.2,
    )
limit_told l ts (inr h) sound = retold Ends limit limit_text l None h.0 ([], inr (refl, refl), nothing_behind as_link)

scan_told : (depth : ℕ) → Respells Texts (scan depth) link_printed
unfolding link_printed
scan_told depth r ts (rest, e, (i, s)) sound =
    let inside : Sounds rest = (let k : Sounds (tokens.Fixed Select ∷ rest) = subst Sounds e sound in k.1) in
    let f = s.second in
    let after_from : Sounds f.0 = (let k : Sounds (tokens.Fixed From ∷ f.0) = subst Sounds f.1 (second_sound s inside) in k.1) in
    let t = f.2 in
    let w = t.1.second in
    let after_table : Sounds t.1.rest = second_sound t.1 after_from in
    let o = w.1.second in
    let after_where : Sounds w.1.rest = second_sound w.1 after_table in
    let n = o.1.second in
    let after_order : Sounds o.1.rest = second_sound o.1 after_where in
    let u = unmapped lock (λ m. requests.Scan (record { table = t.0; items = i; cond = w.0; order = o.0; limit = n.0; lock = m })) r n.1.rest n.1.second in
    let value : LinkRequest = requests.Scan (record { table = t.0; items = i; cond = w.0; order = o.0; limit = n.0; lock = u.0 }) in
    let a = items_told depth i s.front s.first (first_sound s inside) in
    let b = name_told as_link link_fixes t.0 t.1.front t.1.first (first_sound t.1 after_from) in
    let c = where_told as_link link_fixes depth w.0 w.1.front w.1.first (first_sound w.1 after_table) in
    let d = order_told i o.0 o.1.front o.1.first (first_sound o.1 after_where) in
    let g = limit_told n.0 n.1.front n.1.first (first_sound n.1 after_order) in
    let m = lock_told as_link link_fixes u.0 n.1.rest u.2 (second_sound n.1 after_order) in
    let last : List ℕ = limit_text n.0 ++ lock_text u.0 in
    let behind : List ℕ = where_text w.0 ++ (order_text o.0 ++ last) in
    retold Texts (scan depth) link_printed r value u.1 (
      tokens.Fixed Select ∷ (a.0 ++ (tokens.Fixed From ∷ (b.0 ++ (c.0 ++ (d.0 ++ (g.0 ++ m.0)))))),
      (
        a.0 ++ (tokens.Fixed From ∷ (b.0 ++ (c.0 ++ (d.0 ++ (g.0 ++ m.0))))),
        refl,
        (
          i,
          record {
            front = a.0;
            rest = tokens.Fixed From ∷ (b.0 ++ (c.0 ++ (d.0 ++ (g.0 ++ m.0))));
            whole = refl;
            first = a.1;
            second = (
              b.0 ++ (c.0 ++ (d.0 ++ (g.0 ++ m.0))),
              refl,
              (
                t.0,
                record {
                  front = b.0;
                  rest = c.0 ++ (d.0 ++ (g.0 ++ m.0));
                  whole = refl;
                  first = b.1;
                  second = (
                    w.0,
                    record {
                      front = c.0;
                      rest = d.0 ++ (g.0 ++ m.0);
                      whole = refl;
                      first = c.1;
                      second = (
                        o.0,
                        record {
                          front = d.0;
                          rest = g.0 ++ m.0;
                          whole = refl;
                          first = d.1;
                          second = (
                            n.0,
                            record {
                              front = g.0;
                              rest = m.0;
                              whole = refl;
                              first = g.1;
                              second = mapped lock (λ v. is (requests.Scan (record { table = t.0; items = i; cond = w.0; order = o.0; limit = n.0; lock = v }))) u.0 value m.0 m.1 (refl, refl);
                            },
                          );
                        },
                      );
                    },
                  );
                },
              ),
            );
          },
        ),
      ),
      prefix_atom as_link (codes "SELECT ") (scan_items_text i ++ (codes " FROM " ++ (name_text t.0 ++ behind))) (tokens.Fixed Select ∷ []) (a.0 ++ (tokens.Fixed From ∷ (b.0 ++ (c.0 ++ (d.0 ++ (g.0 ++ m.0)))))) (lexemes.select_prefix as_link link_fixes)
          (atom_suffix as_link (scan_items_text i) (codes " FROM " ++ (name_text t.0 ++ behind)) a.0 (tokens.Fixed From ∷ (b.0 ++ (c.0 ++ (d.0 ++ (g.0 ++ m.0))))) a.2
          (separator_atom as_link (codes " FROM ") (name_text t.0 ++ behind) (tokens.Fixed From ∷ []) (b.0 ++ (c.0 ++ (d.0 ++ (g.0 ++ m.0)))) (lexemes.from_text as_link link_fixes)
          (atom_suffix as_link (name_text t.0) behind b.0 (c.0 ++ (d.0 ++ (g.0 ++ m.0))) b.2
          (suffix_suffix as_link (where_text w.0) (order_text o.0 ++ last) c.0 (d.0 ++ (g.0 ++ m.0)) c.2
          (suffix_suffix as_link (order_text o.0) last d.0 (g.0 ++ m.0) d.2
          (suffix_suffix as_link (limit_text n.0) (lock_text u.0) g.0 m.0 g.2 m.2)))))),
    )

-- ---- writes

row_told : (depth : ℕ) → Respells Texts (row depth) row_text
row_told depth l ts h sound =
    let e = enclosed_told as_link link_fixes (series Comma (one value_of)) (λ r. joined_text (codes ",") (map value_text r)) (series_told as_link link_fixes Comma (one value_of) value_text (codes ",") (lexemes.comma_symbol as_link link_fixes) value_told) depth l ts h sound in
    let list : List Token = e.0 ++ (tokens.Fixed Close ∷ []) in (
      tokens.Fixed Open ∷ list,
      e.1,
      prefix_atom as_link (codes "(") (joined_text (codes ",") (map value_text l) ++ codes ")") (tokens.Fixed Open ∷ []) list (prefix_of as_link (codes "(") (tokens.Fixed Open ∷ []) (lexemes.open_symbol as_link link_fixes)) e.2,
    )

put_told : (depth : ℕ) → Respells Texts (put depth) link_printed
unfolding link_printed
put_told depth r ts (rest, e, (more, f, (t, s))) sound =
    let outer : Sounds rest = (let k : Sounds (tokens.Fixed Replace ∷ rest) = subst Sounds e sound in k.1) in
    let inner : Sounds more = (let k : Sounds (tokens.Fixed Into ∷ more) = subst Sounds f outer in k.1) in
    let v = s.second in
    let after : Sounds v.0 = (let k : Sounds (tokens.Fixed Values ∷ v.0) = subst Sounds v.1 (second_sound s inner) in k.1) in
    let u = unmapped (series Comma (row depth)) (requests.Put t) r v.0 v.2 in
    let a = name_told as_link link_fixes t s.front s.first (first_sound s inner) in
    let b = series_told as_link link_fixes Comma (row depth) row_text (codes ",") (lexemes.comma_symbol as_link link_fixes) (row_told depth) u.0 v.0 u.2 after in
    retold Texts (put depth) link_printed r (requests.Put t u.0) u.1 (
      tokens.Fixed Replace ∷ tokens.Fixed Into ∷ (a.0 ++ (tokens.Fixed Values ∷ b.0)),
      (
        tokens.Fixed Into ∷ (a.0 ++ (tokens.Fixed Values ∷ b.0)),
        refl,
        (
          a.0 ++ (tokens.Fixed Values ∷ b.0),
          refl,
          (
            t,
            record {
              front = a.0;
              rest = tokens.Fixed Values ∷ b.0;
              whole = refl;
              first = a.1;
              second = (b.0, refl, mapped (series Comma (row depth)) (λ k. is (requests.Put t k)) u.0 (requests.Put t u.0) b.0 b.1 (refl, refl));
            },
          ),
        ),
      ),
      prefix_atom as_link (codes "REPLACE INTO ") (name_text t ++ (codes " VALUES " ++ joined_text (codes ",") (map row_text u.0))) (tokens.Fixed Replace ∷ tokens.Fixed Into ∷ []) (a.0 ++ (tokens.Fixed Values ∷ b.0)) words.replace_into
          (atom_suffix as_link (name_text t) (codes " VALUES " ++ joined_text (codes ",") (map row_text u.0)) a.0 (tokens.Fixed Values ∷ b.0) a.2
          (separator_atom as_link (codes " VALUES ") (joined_text (codes ",") (map row_text u.0)) (tokens.Fixed Values ∷ []) b.0 (lexemes.values_text as_link link_fixes) b.2)),
    )

-- which rows go, behind the key's name
abbrev which : ℕ → List ℕ → List ℕ → Rule LinkRequest
which depth t k = (In ⊳ (keys depth ▷ λ l. is (requests.Del t k l))) ∣ (Between ⊳ (one key_of ▷ λ low. And ⊳ (one key_of ▷ λ high. is (requests.Clear t k low high))))

abbrev which_text : LinkRequest → List ℕ
which_text (requests.Del t k l) = codes " IN (" ++ (joined_text (codes ",") (map signed_decimal l) ++ codes ")")
which_text (requests.Clear t k low high) = codes " BETWEEN " ++ (signed_decimal low ++ (codes " AND " ++ signed_decimal high))
which_text _ = []

-- what it is, and its text
record Gone (depth : ℕ) (t k : List ℕ) (r : LinkRequest) : Type 0 where
  told : Told Ends (which depth t k) r (which_text r)
  text : link_printed r ≡ codes "DELETE FROM " ++ (name_text t ++ (codes " WHERE " ++ (name_text k ++ which_text r)))

which_told : (depth : ℕ) (t k : List ℕ) (r : LinkRequest) (ts : List Token) → which depth t k r ts → Sounds ts → Gone depth t k r
unfolding link_printed
which_told depth t k r ts (inl (rest, e, h)) sound =
    let inner : Sounds rest = (let f : Sounds (tokens.Fixed In ∷ rest) = subst Sounds e sound in f.1) in
    let u = unmapped (keys depth) (requests.Del t k) r rest h in
    let c = enclosed_told as_link link_fixes (series Comma (one key_of)) (λ l. joined_text (codes ",") (map signed_decimal l)) (series_told as_link link_fixes Comma (one key_of) signed_decimal (codes ",") (lexemes.comma_symbol as_link link_fixes) key_told) depth u.0 rest u.2 inner in
    let list : List Token = c.0 ++ (tokens.Fixed Close ∷ []) in
    subst (Gone depth t k) (sym u.1)
    (record {
      told = (
        tokens.Fixed In ∷ tokens.Fixed Open ∷ list,
        inl (tokens.Fixed Open ∷ list, refl, mapped (keys depth) (λ l. is (requests.Del t k l)) u.0 (requests.Del t k u.0) (tokens.Fixed Open ∷ list) c.1 (refl, refl)),
        separator_atom as_link (codes " IN (") (joined_text (codes ",") (map signed_decimal u.0) ++ codes ")") (tokens.Fixed In ∷ tokens.Fixed Open ∷ []) list (lexemes.in_text as_link link_fixes) c.2,
      );
      text = refl;
    })
which_told depth t k r ts (inr (rest, e, (low, s))) sound =
    let inner : Sounds rest = (let f : Sounds (tokens.Fixed Between ∷ rest) = subst Sounds e sound in f.1) in
    let later = s.second in
    let last : Sounds later.0 = (let f : Sounds (tokens.Fixed And ∷ later.0) = subst Sounds later.1 (second_sound s inner) in f.1) in
    let u = unmapped (one key_of) (requests.Clear t k low) r later.0 later.2 in
    let p = key_told low s.front s.first (first_sound s inner) in
    let q = key_told u.0 later.0 u.2 last in
    subst (Gone depth t k) (sym u.1)
    (record {
      told = (
        tokens.Fixed Between ∷ (p.0 ++ (tokens.Fixed And ∷ q.0)),
        inr (
          p.0 ++ (tokens.Fixed And ∷ q.0),
          refl,
          (
            low,
            record {
              front = p.0;
              rest = tokens.Fixed And ∷ q.0;
              whole = refl;
              first = p.1;
              second = (q.0, refl, mapped (one key_of) (λ high. is (requests.Clear t k low high)) u.0 (requests.Clear t k low u.0) q.0 q.1 (refl, refl));
            },
          ),
        ),
        separator_atom as_link (codes " BETWEEN ") (signed_decimal low ++ (codes " AND " ++ signed_decimal u.0)) (tokens.Fixed Between ∷ []) (p.0 ++ (tokens.Fixed And ∷ q.0)) (lexemes.between_text as_link link_fixes)
            (atom_suffix as_link (signed_decimal low) (codes " AND " ++ signed_decimal u.0) p.0 (tokens.Fixed And ∷ q.0) p.2
            (separator_atom as_link (codes " AND ") (signed_decimal u.0) (tokens.Fixed And ∷ []) q.0 (lexemes.and_text as_link link_fixes) q.2)),
      );
      text = refl;
    })

delete_told : (depth : ℕ) → Respells Texts (delete depth) link_printed
delete_told depth r ts (rest, e, (more, f, (t, s))) sound =
    let outer : Sounds rest = (let g : Sounds (tokens.Fixed Delete ∷ rest) = subst Sounds e sound in g.1) in
    let inner : Sounds more = (let g : Sounds (tokens.Fixed From ∷ more) = subst Sounds f outer in g.1) in
    let v = s.second in
    let after : Sounds v.0 = (let g : Sounds (tokens.Fixed Where ∷ v.0) = subst Sounds v.1 (second_sound s inner) in g.1) in
    let k = v.2 in
    let a = name_told as_link link_fixes t s.front s.first (first_sound s inner) in
    let b = name_told as_link link_fixes k.0 k.1.front k.1.first (first_sound k.1 after) in
    let g = which_told depth t k.0 r k.1.rest k.1.second (second_sound k.1 after) in
    let c = g.told in (
      tokens.Fixed Delete ∷ tokens.Fixed From ∷ (a.0 ++ (tokens.Fixed Where ∷ (b.0 ++ c.0))),
      (
        tokens.Fixed From ∷ (a.0 ++ (tokens.Fixed Where ∷ (b.0 ++ c.0))),
        refl,
        (
          a.0 ++ (tokens.Fixed Where ∷ (b.0 ++ c.0)),
          refl,
          (
            t,
            record {
              front = a.0;
              rest = tokens.Fixed Where ∷ (b.0 ++ c.0);
              whole = refl;
              first = a.1;
              second = (b.0 ++ c.0, refl, (k.0, record { front = b.0; rest = c.0; whole = refl; first = b.1; second = c.1 }));
            },
          ),
        ),
      ),
      subst (λ (l : List ℕ). Texts l (tokens.Fixed Delete ∷ tokens.Fixed From ∷ (a.0 ++ (tokens.Fixed Where ∷ (b.0 ++ c.0))))) (sym g.text)
          (prefix_atom as_link (codes "DELETE FROM ") (name_text t ++ (codes " WHERE " ++ (name_text k.0 ++ which_text r))) (tokens.Fixed Delete ∷ tokens.Fixed From ∷ []) (a.0 ++ (tokens.Fixed Where ∷ (b.0 ++ c.0))) (lexemes.delete_prefix as_link link_fixes)
          (atom_suffix as_link (name_text t) (codes " WHERE " ++ (name_text k.0 ++ which_text r)) a.0 (tokens.Fixed Where ∷ (b.0 ++ c.0)) a.2
          (separator_atom as_link (codes " WHERE ") (name_text k.0 ++ which_text r) (tokens.Fixed Where ∷ []) (b.0 ++ c.0) (lexemes.where_text as_link link_fixes)
          (atom_suffix as_link (name_text k.0) (which_text r) b.0 c.0 b.2 c.2)))),
    )

-- ---- requests

body_told : (depth : ℕ) → Respells Texts (branch ∣ scan depth ∣ put depth ∣ delete depth) link_printed
body_told depth r ts (inl h) sound = let a = branch_told r ts h sound in (a.0, inl a.1, a.2)
body_told depth r ts (inr (inl h)) sound = let a = scan_told depth r ts h sound in (a.0, inr (inl a.1), a.2)
body_told depth r ts (inr (inr (inl h))) sound = let a = put_told depth r ts h sound in (a.0, inr (inr (inl a.1)), a.2)
body_told depth r ts (inr (inr (inr h))) sound = let a = delete_told depth r ts h sound in (a.0, inr (inr (inr a.1)), a.2)

request_told : (depth : ℕ) → Respells Texts (request depth) link_printed
request_told depth x ts (r, q) sound =
    let same : x ≡ r = q.second.1.second.0 in
    let a = body_told depth r q.front q.first (first_sound q sound) in
    retold Texts (request depth) link_printed x r same (
      a.0,
      mapped (branch ∣ scan depth ∣ put depth ∣ delete depth) (λ v. optional Semicolon ▷ λ _. is v) r r a.0 a.1 (false, record { front = []; rest = []; whole = refl; first = inr (refl, refl); second = (refl, refl) }),
      a.2,
    )

-- ---- the tokens of a link text are sound

worded_sound : (o : Option Fixed) (n : List ℕ) → Sound (tokens.Bare n) → Sound (worded o n)
worded_sound None n h = h
worded_sound (Some f) n h = tt

link_sound : (t : Token) → Sound t → Sound (as_link t)
link_sound (tokens.Bare n) h = worded_sound (link_word n) n h
link_sound (tokens.Quoted n) h = h
link_sound (tokens.Fixed f) h = h
link_sound (tokens.Digits n) h = h
link_sound (tokens.Signed n) h = h
link_sound (tokens.Text t) h = h
link_sound tokens.Bad h = h

links_sound : (found : List Placed) → Sounds (map (λ (p : Placed). p.0) found) → Sounds (map (λ (p : Placed). as_link p.0) found)
links_sound [] h = tt
links_sound (p ∷ found) h = (link_sound p.0 h.0, links_sound found h.1)

link_tokens_sound : (text : List ℕ) → Sounds (link_tokens_of text)
unfolding tokens_of link_tokens_of
link_tokens_sound text = links_sound (placed_tokens text) (tokens_sound text)

pub printed_link_read : (text : List ℕ) (r : LinkRequest) → IsRequest (link_tokens_of text) r → IsUtf8 (link_printed r) × IsRequest (link_tokens_of (link_printed r)) r
unfolding link_tokens_of placed_tokens
printed_link_read text r h =
    let a = request_told most_link_openings r (link_tokens_of text) h (link_tokens_sound text) in
    (a.2.utf8, subst (λ (ts : List Token). request most_link_openings r ts) (sym (atom_tokens as_link (link_printed r) a.0 a.2)) a.1)

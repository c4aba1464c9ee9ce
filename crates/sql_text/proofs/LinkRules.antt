-- Each reading function of link text reads its rule.
use Rattle.std.proofs.Common.{◌≡◌, ℕ, ℤ, pos, Bool, true, false, cond, List, [], ◌∷◌, Some, None, Result, Ok, Err, refl}
use Rattle.sql_values.specs.declared.value.Value.{Value}
use Rattle.sql_values.specs.declared.value.Value.TheVariants as values
use Rattle.sql_values.specs.declared.places.Xid.{Xid}
use Rattle.sql_text.specs.declared.link.LinkRequest.{LinkRequest}
use Rattle.sql_text.specs.declared.link.LinkRequest.TheVariants as requests
use Rattle.sql_text.specs.declared.link.ScanItems.{ScanItems}
use Rattle.sql_text.specs.declared.link.ScanItems.TheVariants as scanned
use Rattle.sql_text.specs.declared.link.AggregateCall.{AggregateCall}
use Rattle.sql_text.specs.declared.token.Fixed.TheVariants.{And, Between, By, Delete, From, In, Into, Limit, Order, Select, Values, Where, Commit, End, Prepare, Recover, Replace, Rollback, Start, Xa, Comma, Star, Semicolon}
use Rattle.sql_text.specs.declared.token.Token.{Token}
use Rattle.sql_text.specs.declared.token.Token.TheVariants as tokens
use Rattle.sql_text.specs.declared.fault.Stop.{Stop}
use Rattle.sql_text.specs.Rules.{Rule, is, one, ◌⊳◌, ◌▷◌, ◌∣◌, series, at_most_further}
use Rattle.sql_text.specs.Grammar.{count_of, aggregate}
use Rattle.sql_text.specs.LinkGrammar.{key_of, value_of, part_of, format_of, xid, branch, scan_items, order, limit, scan, row, put, keys, delete, request}
use Rattle.sql_text.specs.Reading.{◌>>=◌, begins, expect, optional_at, one_at, aggregate_at, series_at, further_at, with_front}
use Rattle.sql_text.specs.LinkReading.{xid_at, named_at, behind_xa_at, branch_at, scan_items_at, order_at, limit_at, scan_at, row_at, put_at, keys_at, del_at, clear_at, which_at, delete_at, request_body_at}
use Rattle.sql_text.proofs.Fields.{Reads, Rules, kind_of, member, IsField, is_field, one_field}
use Rattle.sql_text.proofs.Choices.{begins_tells, same_reader, either_field, fixed_or, optional_field}
use Rattle.sql_text.proofs.Nested.{parenthesized_field, few_field, series_field}
use Rattle.sql_text.proofs.ReadRules.{both, behind_fixed, known_as, name_field, count_field, aggregate_kinds, aggregate_field, where_field, lock_field}

-- ---- single tokens

key_covers : (t : Token) (x : ℤ) → key_of t ≡ Some x → member (kind_of t) (101 ∷ 102 ∷ []) ≡ true
key_covers (tokens.Digits n) x h = refl
key_covers (tokens.Signed n) x h = refl
key_covers (tokens.Bare n) x h = absurd cc
key_covers (tokens.Quoted n) x h = absurd cc
key_covers (tokens.Fixed f) x h = absurd cc
key_covers (tokens.Text t) x h = absurd cc
key_covers tokens.Bad x h = absurd cc

key_field : (depth : ℕ) → IsField (λ _. one key_of) depth (one_at key_of) false (101 ∷ 102 ∷ []) []
key_field depth = one_field key_of (101 ∷ 102 ∷ []) depth (record { cover = key_covers; token = tokens.Digits (pos 1); example = pos 1; known = refl })

value_covers : (t : Token) (x : Value) → value_of t ≡ Some x → member (kind_of t) (101 ∷ 102 ∷ 103 ∷ []) ≡ true
value_covers (tokens.Digits n) x h = refl
value_covers (tokens.Signed n) x h = refl
value_covers (tokens.Text t) x h = refl
value_covers (tokens.Bare n) x h = absurd cc
value_covers (tokens.Quoted n) x h = absurd cc
value_covers (tokens.Fixed f) x h = absurd cc
value_covers tokens.Bad x h = absurd cc

value_field : (depth : ℕ) → IsField (λ _. one value_of) depth (one_at value_of) false (101 ∷ 102 ∷ 103 ∷ []) []
value_field depth = one_field value_of (101 ∷ 102 ∷ 103 ∷ []) depth (record { cover = value_covers; token = tokens.Digits (pos 1); example = values.Number (pos 1); known = refl })

part_covers : (t : Token) (x : List ℕ) → part_of t ≡ Some x → member (kind_of t) (103 ∷ []) ≡ true
part_covers (tokens.Text t) x h = refl
part_covers (tokens.Digits n) x h = absurd cc
part_covers (tokens.Signed n) x h = absurd cc
part_covers (tokens.Bare n) x h = absurd cc
part_covers (tokens.Quoted n) x h = absurd cc
part_covers (tokens.Fixed f) x h = absurd cc
part_covers tokens.Bad x h = absurd cc

part_field : (depth : ℕ) → IsField (λ _. one part_of) depth (one_at part_of) false (103 ∷ []) []
part_field depth = one_field part_of (103 ∷ []) depth (record { cover = part_covers; token = tokens.Text []; example = []; known = refl })

format_covers : (t : Token) (x : ℕ) → format_of t ≡ Some x → member (kind_of t) (101 ∷ []) ≡ true
format_covers (tokens.Digits n) x h = refl
format_covers (tokens.Signed n) x h = absurd cc
format_covers (tokens.Text t) x h = absurd cc
format_covers (tokens.Bare n) x h = absurd cc
format_covers (tokens.Quoted n) x h = absurd cc
format_covers (tokens.Fixed f) x h = absurd cc
format_covers tokens.Bad x h = absurd cc

format_field : (depth : ℕ) → IsField (λ _. one format_of) depth (one_at format_of) false (101 ∷ []) []
format_field depth = one_field format_of (101 ∷ []) depth (record { cover = format_covers; token = tokens.Digits (pos 1); example = 1; known = refl })

-- ---- branches

xid_field : (depth : ℕ) → IsField (λ _. xid) depth xid_at false (103 ∷ []) []
unfolding xid_at
xid_field depth = known_as (103 ∷ []) [] refl refl
    (both (part_field depth) (λ g. behind_fixed Comma (both (part_field depth) (λ b. behind_fixed Comma (both (format_field depth) (λ _. is_field (record { gtrid = g; bqual = b }) depth) refl)) refl)) refl)

named_field : (of : Xid → LinkRequest) (depth : ℕ) → IsField (λ _. xid ▷ λ x. is (of x)) depth (named_at of) false (103 ∷ []) []
named_field of depth = known_as (103 ∷ []) [] refl refl (both (xid_field depth) (λ x. is_field (of x) depth) refl)

branch_field : (depth : ℕ) → IsField (λ _. branch) depth branch_at false (45 ∷ []) []
unfolding branch_at behind_xa_at
branch_field depth =
    behind_fixed Xa
    (fixed_or Start (λ _. xid ▷ λ x. is (requests.Start x)) (named_at requests.Start) _ _ depth false false (103 ∷ []) [] (29 ∷ 37 ∷ 26 ∷ 40 ∷ 38 ∷ []) [] (named_field requests.Start depth)
    (fixed_or End (λ _. xid ▷ λ x. is (requests.End x)) (named_at requests.End) _ _ depth false false (103 ∷ []) [] (37 ∷ 26 ∷ 40 ∷ 38 ∷ []) [] (named_field requests.End depth)
    (fixed_or Prepare (λ _. xid ▷ λ x. is (requests.Prepare x)) (named_at requests.Prepare) _ _ depth false false (103 ∷ []) [] (26 ∷ 40 ∷ 38 ∷ []) [] (named_field requests.Prepare depth)
    (fixed_or Commit (λ _. xid ▷ λ x. is (requests.Commit x)) (named_at requests.Commit) _ _ depth false false (103 ∷ []) [] (40 ∷ 38 ∷ []) [] (named_field requests.Commit depth)
    (fixed_or Rollback (λ _. xid ▷ λ x. is (requests.Rollback x)) (named_at requests.Rollback) (λ _. Recover ⊳ is requests.Recover) (λ ts. expect Recover ts >>= λ rest. Ok (requests.Recover, rest)) depth false false (103 ∷ []) [] (38 ∷ []) [] (named_field requests.Rollback depth)
    (behind_fixed Recover (is_field requests.Recover depth)) refl) refl) refl) refl) refl)

-- ---- scans

abbrev calls_of : List AggregateCall × List Token → Result (ScanItems × List Token) Stop
calls_of l = Ok (scanned.Aggregates l.0, l.1)

abbrev calls_behind : AggregateCall → List AggregateCall × List Token → Result (ScanItems × List Token) Stop
calls_behind a l = Ok (scanned.Aggregates (a ∷ l.0), l.1)

calls_again : (a : AggregateCall) (r : Result (List AggregateCall × List Token) Stop) → (r >>= calls_behind a) ≡ (with_front (a ∷ []) r >>= calls_of)
calls_again a (Ok l) = refl
calls_again a (Err stop) = refl

abbrev calls_read : ℕ → AggregateCall × List Token → Result (ScanItems × List Token) Stop
calls_read depth a = with_front (a.0 ∷ []) (further_at 999 Comma (aggregate_at depth) a.1) >>= calls_of

abbrev calls_put : ℕ → AggregateCall × List Token → Result (ScanItems × List Token) Stop
calls_put depth a = further_at 999 Comma (aggregate_at depth) a.1 >>= calls_behind a.0

calls_are : (depth : ℕ) (r : Result (AggregateCall × List Token) Stop) → (r >>= calls_put depth) ≡ (r >>= calls_read depth)
calls_are depth (Ok a) = calls_again a.0 (further_at 999 Comma (aggregate_at depth) a.1)
calls_are depth (Err stop) = refl

abbrev some_calls : Rules ScanItems
some_calls n = aggregate n ▷ λ a. at_most_further 999 Comma (aggregate n) ▷ λ l. is (scanned.Aggregates (a ∷ l))

some_calls_field : (depth : ℕ) → IsField some_calls depth (λ ts. aggregate_at depth ts >>= calls_read depth) false aggregate_kinds (15 ∷ [])
some_calls_field depth =
    same_reader some_calls depth (λ ts. aggregate_at depth ts >>= calls_put depth) (λ ts. aggregate_at depth ts >>= calls_read depth) false aggregate_kinds (15 ∷ [])
    (known_as aggregate_kinds (15 ∷ []) refl refl
    (both (aggregate_field depth) (λ a. both (few_field 999 Comma aggregate (aggregate_at depth) depth aggregate_kinds [] (aggregate_field depth) refl) (λ l. is_field (scanned.Aggregates (a ∷ l)) depth) refl) refl))
    (λ ts. calls_are depth (aggregate_at depth ts))

scan_items_field : (depth : ℕ) → IsField scan_items depth (scan_items_at depth) false (17 ∷ aggregate_kinds) (15 ∷ [])
unfolding scan_items_at
scan_items_field depth = known_as (17 ∷ aggregate_kinds) (15 ∷ []) refl refl
    (fixed_or Star (λ _. is scanned.All) (λ ts. Ok (scanned.All, ts)) some_calls (λ ts. aggregate_at depth ts >>= calls_read depth) depth true false [] [] aggregate_kinds (15 ∷ [])
    (is_field scanned.All depth) (some_calls_field depth) refl)

-- a rule that has tokens, among rules that may have none
maybe_empty : {X : Type 0} {A : Rules X} {depth : ℕ} {read : Reads X} {empty : Bool} {first further : List ℕ} → IsField A depth read empty first further → IsField A depth read true first further
maybe_empty {X} {A} {depth} {read} {empty} {first} {further} field = record {
  took = field.took;
  stuck = field.stuck;
  some = field.some;
  again = field.again;
  begins = field.begins;
  solid = λ n x h. refl;
}

order_field : (items : ScanItems) (depth : ℕ) → IsField (λ _. order items) depth (order_at items) true (36 ∷ []) []
unfolding order_at
order_field scanned.All depth = maybe_empty (known_as (36 ∷ []) [] refl refl (behind_fixed Order (behind_fixed By (both (name_field depth) (λ k. is_field (Some k) depth) refl))))
order_field (scanned.Aggregates l) depth = known_as (36 ∷ []) [] refl refl (is_field None depth)

limit_field : (depth : ℕ) → IsField (λ _. limit) depth limit_at true (31 ∷ []) (31 ∷ [])
unfolding limit_at
limit_field depth = known_as (31 ∷ []) (31 ∷ []) refl refl
    (fixed_or Limit (λ _. one count_of ▷ λ n. is (Some n)) (λ ts. one_at count_of ts >>= λ n. Ok (Some n.0, n.1)) (λ _. is None) (λ ts. Ok (None, ts)) depth false true (101 ∷ []) [] [] []
    (known_as (101 ∷ []) [] refl refl (both (count_field depth) (λ n. is_field (Some n) depth) refl)) (is_field None depth) refl)

scan_field : (depth : ℕ) → IsField scan depth (scan_at depth) false (10 ∷ []) []
unfolding scan_at
scan_field depth = known_as (10 ∷ []) [] refl refl
    (behind_fixed Select
    (both (scan_items_field depth) (λ i. behind_fixed From (both (name_field depth) (λ t. both (where_field depth) (λ c. both (order_field i depth) (λ o. both (limit_field depth) (λ n. both (lock_field depth) (λ m.
    is_field (requests.Scan (record { table = t; items = i; cond = c; order = o; limit = n; lock = m })) depth) refl) refl) refl) refl) refl)) refl))

-- ---- writes

row_field : (depth : ℕ) → IsField row depth (row_at depth) false (13 ∷ []) []
unfolding row_at
row_field depth = parenthesized_field (series Comma (one value_of)) depth (series_at Comma (one_at value_of)) false (101 ∷ 102 ∷ 103 ∷ []) (15 ∷ [])
    (λ n. known_as (101 ∷ 102 ∷ 103 ∷ []) (15 ∷ []) refl refl (series_field Comma (λ _. one value_of) (one_at value_of) n (101 ∷ 102 ∷ 103 ∷ []) [] (value_field n) refl)) refl

rows_field : (depth : ℕ) → IsField (λ n. series Comma (row n)) depth (series_at Comma (row_at depth)) false (13 ∷ []) (15 ∷ [])
rows_field depth = known_as (13 ∷ []) (15 ∷ []) refl refl (series_field Comma row (row_at depth) depth (13 ∷ []) [] (row_field depth) refl)

put_field : (depth : ℕ) → IsField put depth (put_at depth) false (39 ∷ []) (15 ∷ [])
unfolding put_at
put_field depth = known_as (39 ∷ []) (15 ∷ []) refl refl
    (behind_fixed Replace (behind_fixed Into (both (name_field depth) (λ t. behind_fixed Values (both (rows_field depth) (λ r. is_field (requests.Put t r) depth) refl)) refl)))

keys_field : (depth : ℕ) → IsField keys depth (keys_at depth) false (13 ∷ []) []
unfolding keys_at
keys_field depth = parenthesized_field (series Comma (one key_of)) depth (series_at Comma (one_at key_of)) false (101 ∷ 102 ∷ []) (15 ∷ [])
    (λ n. known_as (101 ∷ 102 ∷ []) (15 ∷ []) refl refl (series_field Comma (λ _. one key_of) (one_at key_of) n (101 ∷ 102 ∷ []) [] (key_field n) refl)) refl

abbrev listed_keys : List ℕ → List ℕ → Rules LinkRequest
listed_keys t k n = keys n ▷ λ l. is (requests.Del t k l)

abbrev bounded_keys : List ℕ → List ℕ → Rule LinkRequest
bounded_keys t k = Between ⊳ (one key_of ▷ λ low. And ⊳ (one key_of ▷ λ high. is (requests.Clear t k low high)))

del_field : (t k : List ℕ) (depth : ℕ) → IsField (listed_keys t k) depth (del_at depth t k) false (13 ∷ []) []
unfolding del_at
del_field t k depth = known_as (13 ∷ []) [] refl refl (both (keys_field depth) (λ l. is_field (requests.Del t k l) depth) refl)

clear_field : (t k : List ℕ) (depth : ℕ) → IsField (λ _. bounded_keys t k) depth (clear_at t k) false (2 ∷ []) []
unfolding clear_at
clear_field t k depth = known_as (2 ∷ []) [] refl refl
    (behind_fixed Between (both (key_field depth) (λ low. behind_fixed And (both (key_field depth) (λ high. is_field (requests.Clear t k low high) depth) refl)) refl))

which_field : (t k : List ℕ) (depth : ℕ) → IsField (λ n. (In ⊳ listed_keys t k n) ∣ bounded_keys t k) depth (which_at depth t k) false (4 ∷ 2 ∷ []) []
unfolding which_at
which_field t k depth = fixed_or In (listed_keys t k) (del_at depth t k) (λ _. bounded_keys t k) (clear_at t k) depth false false (13 ∷ []) [] (2 ∷ []) [] (del_field t k depth) (clear_field t k depth) refl

delete_field : (depth : ℕ) → IsField delete depth (delete_at depth) false (28 ∷ []) []
unfolding delete_at
delete_field depth = known_as (28 ∷ []) [] refl refl
    (behind_fixed Delete (behind_fixed From (both (name_field depth) (λ t. behind_fixed Where (both (name_field depth) (λ k. which_field t k depth) refl)) refl)))

-- ---- requests

written_field : (depth : ℕ) → IsField (λ n. put n ∣ delete n) depth (λ ts. cond (begins Replace ts) (put_at depth ts) (delete_at depth ts)) false (39 ∷ 28 ∷ []) (15 ∷ [])
written_field depth = known_as (39 ∷ 28 ∷ []) (15 ∷ []) refl refl
    (either_field put (put_at depth) delete (delete_at depth) (begins Replace) depth false (39 ∷ []) (15 ∷ []) (28 ∷ []) [] (put_field depth) (delete_field depth) (begins_tells Replace) refl)

asked_field : (depth : ℕ) → IsField (λ n. scan n ∣ put n ∣ delete n) depth (λ ts. cond (begins Select ts) (scan_at depth ts) (cond (begins Replace ts) (put_at depth ts) (delete_at depth ts))) false (10 ∷ 39 ∷ 28 ∷ []) (15 ∷ [])
asked_field depth = known_as (10 ∷ 39 ∷ 28 ∷ []) (15 ∷ []) refl refl
    (either_field scan (scan_at depth) (λ n. put n ∣ delete n) (λ ts. cond (begins Replace ts) (put_at depth ts) (delete_at depth ts)) (begins Select) depth false (10 ∷ []) [] (39 ∷ 28 ∷ []) (15 ∷ []) (scan_field depth) (written_field depth) (begins_tells Select) refl)

body_field : (depth : ℕ) → IsField (λ n. branch ∣ scan n ∣ put n ∣ delete n) depth (request_body_at depth) false (45 ∷ 10 ∷ 39 ∷ 28 ∷ []) (15 ∷ [])
unfolding request_body_at
body_field depth = known_as (45 ∷ 10 ∷ 39 ∷ 28 ∷ []) (15 ∷ []) refl refl
    (either_field (λ _. branch) branch_at (λ n. scan n ∣ put n ∣ delete n) (λ ts. cond (begins Select ts) (scan_at depth ts) (cond (begins Replace ts) (put_at depth ts) (delete_at depth ts))) (begins Xa) depth false (45 ∷ []) [] (10 ∷ 39 ∷ 28 ∷ []) (15 ∷ [])
    (branch_field depth) (asked_field depth) (begins_tells Xa) refl)

-- a request and its end
pub request_field : (depth : ℕ) → IsField request depth (λ ts. request_body_at depth ts >>= λ r. optional_at Semicolon r.1 >>= λ e. Ok (r.0, e.1)) false (45 ∷ 10 ∷ 39 ∷ 28 ∷ []) (18 ∷ 15 ∷ [])
request_field depth = known_as (45 ∷ 10 ∷ 39 ∷ 28 ∷ []) (18 ∷ 15 ∷ []) refl refl
    (both (body_field depth) (λ r. both (optional_field Semicolon depth) (λ _. is_field r depth) refl) refl)

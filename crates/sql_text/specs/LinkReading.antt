-- Reading the tokens of a link text from left to right.
use Rattle.std.specs.Prelude.{ℕ, ℤ, List, [], ◌∷◌, Option, Some, None, Result, Ok, if◌then◌else◌}
use Rattle.sql_values.specs.declared.value.Value.{Value}
use Rattle.sql_values.specs.declared.places.Xid.{Xid}
use Rattle.sql_text.specs.declared.link.LinkRequest.{LinkRequest}
use Rattle.sql_text.specs.declared.link.LinkRequest.TheVariants as requests
use Rattle.sql_text.specs.declared.link.ScanItems.{ScanItems}
use Rattle.sql_text.specs.declared.link.ScanItems.TheVariants as scanned
use Rattle.sql_text.specs.declared.token.Fixed.TheVariants.{And, Between, By, Delete, From, In, Into, Limit, Order, Select, Values, Where, Commit, End, Prepare, Recover, Replace, Rollback, Start, Xa, Comma, Star, Semicolon}
use Rattle.sql_text.specs.declared.token.Token.{Token}
use Rattle.sql_text.specs.declared.fault.Stop.{Stop}
use Rattle.sql_text.specs.Reading.{◌>>=◌, begins, behind, expect, optional_at, one_at, name_at, aggregate_at, where_at, lock_at, series_at, further_at, with_front, parenthesized_at, ended}
use Rattle.sql_text.specs.Grammar.{count_of}
use Rattle.sql_text.specs.LinkGrammar.{key_of, value_of, part_of, format_of}

-- ---- branches

unfoldable pub xid_at : List Token → Result (Xid × List Token) Stop
xid_at ts = one_at part_of ts >>= λ g. expect Comma g.1 >>= λ rest. one_at part_of rest >>= λ b. expect Comma b.1 >>= λ rest. one_at format_of rest >>= λ f.
    Ok (record { gtrid = g.0; bqual = b.0 }, f.1)

-- a branch's name, for this request
abbrev pub named_at : (Xid → LinkRequest) → List Token → Result (LinkRequest × List Token) Stop
named_at of ts = xid_at ts >>= λ x. Ok (of x.0, x.1)

unfoldable pub behind_xa_at : List Token → Result (LinkRequest × List Token) Stop
behind_xa_at ts =
    if begins Start ts then named_at requests.Start (behind ts)
    else (if begins End ts then named_at requests.End (behind ts)
    else (if begins Prepare ts then named_at requests.Prepare (behind ts)
    else (if begins Commit ts then named_at requests.Commit (behind ts)
    else (if begins Rollback ts then named_at requests.Rollback (behind ts)
    else (expect Recover ts >>= λ rest. Ok (requests.Recover, rest))))))

unfoldable pub branch_at : List Token → Result (LinkRequest × List Token) Stop
branch_at ts = expect Xa ts >>= behind_xa_at

-- ---- scans

unfoldable pub scan_items_at : ℕ → List Token → Result (ScanItems × List Token) Stop
scan_items_at depth ts =
    if begins Star ts then Ok (scanned.All, behind ts)
    else (aggregate_at depth ts >>= λ a. with_front (a.0 ∷ []) (further_at 999 Comma (aggregate_at depth) a.1) >>= λ l. Ok (scanned.Aggregates l.0, l.1))

unfoldable pub order_at : ScanItems → List Token → Result (Option (List ℕ) × List Token) Stop
order_at scanned.All ts = expect Order ts >>= λ rest. expect By rest >>= λ rest. name_at rest >>= λ k. Ok (Some k.0, k.1)
order_at (scanned.Aggregates l) ts = Ok (None, ts)

unfoldable pub limit_at : List Token → Result (Option ℕ × List Token) Stop
limit_at ts = if begins Limit ts then (one_at count_of (behind ts) >>= λ n. Ok (Some n.0, n.1)) else Ok (None, ts)

unfoldable pub scan_at : ℕ → List Token → Result (LinkRequest × List Token) Stop
scan_at depth ts =
    expect Select ts >>= λ rest. scan_items_at depth rest >>= λ i. expect From i.1 >>= λ rest. name_at rest >>= λ t. where_at depth t.1 >>= λ c.
    order_at i.0 c.1 >>= λ o. limit_at o.1 >>= λ n. lock_at n.1 >>= λ m.
    Ok (requests.Scan (record { table = t.0; items = i.0; cond = c.0; order = o.0; limit = n.0; lock = m.0 }), m.1)

-- ---- writes

unfoldable pub row_at : ℕ → List Token → Result (List Value × List Token) Stop
row_at depth ts = parenthesized_at (series_at Comma (one_at value_of)) depth ts

unfoldable pub put_at : ℕ → List Token → Result (LinkRequest × List Token) Stop
put_at depth ts = expect Replace ts >>= λ rest. expect Into rest >>= λ rest. name_at rest >>= λ t. expect Values t.1 >>= λ rest. series_at Comma (row_at depth) rest >>= λ r.
    Ok (requests.Put t.0 r.0, r.1)

unfoldable pub keys_at : ℕ → List Token → Result (List ℤ × List Token) Stop
keys_at depth ts = parenthesized_at (series_at Comma (one_at key_of)) depth ts

unfoldable pub del_at : ℕ → List ℕ → List ℕ → List Token → Result (LinkRequest × List Token) Stop
del_at depth t k ts = keys_at depth ts >>= λ l. Ok (requests.Del t k l.0, l.1)

unfoldable pub clear_at : List ℕ → List ℕ → List Token → Result (LinkRequest × List Token) Stop
clear_at t k ts = expect Between ts >>= λ rest. one_at key_of rest >>= λ low. expect And low.1 >>= λ rest. one_at key_of rest >>= λ high. Ok (requests.Clear t k low.0 high.0, high.1)

unfoldable pub which_at : ℕ → List ℕ → List ℕ → List Token → Result (LinkRequest × List Token) Stop
which_at depth t k ts = if begins In ts then del_at depth t k (behind ts) else clear_at t k ts

unfoldable pub delete_at : ℕ → List Token → Result (LinkRequest × List Token) Stop
delete_at depth ts = expect Delete ts >>= λ rest. expect From rest >>= λ rest. name_at rest >>= λ t. expect Where t.1 >>= λ rest. name_at rest >>= λ k. which_at depth t.0 k.0 k.1

unfoldable pub request_body_at : ℕ → List Token → Result (LinkRequest × List Token) Stop
request_body_at depth ts =
    if begins Xa ts then branch_at ts
    else (if begins Select ts then scan_at depth ts
    else (if begins Replace ts then put_at depth ts
    else delete_at depth ts))

-- all of the tokens
unfoldable pub request_at : ℕ → List Token → Result LinkRequest Stop
request_at depth ts = request_body_at depth ts >>= λ r. optional_at Semicolon r.1 >>= λ end. ended r.0 end.1

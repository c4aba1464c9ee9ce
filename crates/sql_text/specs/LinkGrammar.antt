-- The grammar of what a front asks a backend, rule by rule.
use Rattle.std.specs.Prelude.{ℕ, ℤ, pos, negsuc, ◌==◌, List, ◌∷◌, length, Option, Some, None, nat_le, if◌then◌else◌}
use Rattle.sql_values.specs.declared.value.Value.{Value}
use Rattle.sql_values.specs.declared.value.Value.TheVariants as values
use Rattle.sql_values.specs.declared.places.Xid.{Xid}
use Rattle.sql_text.specs.declared.link.LinkRequest.{LinkRequest}
use Rattle.sql_text.specs.declared.link.LinkRequest.TheVariants as requests
use Rattle.sql_text.specs.declared.link.ScanItems.{ScanItems}
use Rattle.sql_text.specs.declared.link.ScanItems.TheVariants as scanned
use Rattle.sql_text.specs.declared.token.Fixed.TheVariants.{And, Between, By, Delete, From, In, Into, Limit, Order, Select, Values, Where, Commit, End, Prepare, Recover, Replace, Rollback, Start, Xa, Comma, Star, Semicolon}
use Rattle.sql_text.specs.declared.token.Token.{Token}
use Rattle.sql_text.specs.declared.token.Token.TheVariants as tokens
use Rattle.sql_text.specs.Rules.{Rule, is, one, ◌⊳◌, ◌▷◌, ◌∣◌, optional, series, at_most_further, parenthesized}
use Rattle.sql_values.specs.Expressions.{big_int}
use Rattle.sql_text.specs.Grammar.{count_of, name, aggregate, where_cond, lock}

-- THE VALUES OF SINGLE TOKENS

-- a key
abbrev pub key_of : Token → Option ℤ
key_of (tokens.Digits n) = big_int n
key_of (tokens.Signed n) = big_int n
key_of _ = None

abbrev pub as_number : Option ℤ → Option Value
as_number None = None
as_number (Some n) = Some (values.Number n)

-- a value of a row: a number of 64 bits or a text
abbrev pub value_of : Token → Option Value
value_of (tokens.Digits n) = as_number (big_int n)
value_of (tokens.Signed n) = as_number (big_int n)
value_of (tokens.Text t) = Some (values.Text t)
value_of _ = None

-- a part of a branch's name: a text of at most 64 bytes
abbrev pub part_of : Token → Option (List ℕ)
part_of (tokens.Text t) = if nat_le (length t) 64 then Some t else None
part_of _ = None

abbrev pub only_one : ℤ → Option ℕ
only_one (pos n) = if n == 1 then Some 1 else None
only_one (negsuc n) = None

-- the format of a branch's name, which is 1
abbrev pub format_of : Token → Option ℕ
format_of (tokens.Digits n) = only_one n
format_of _ = None

-- BRANCHES

-- xid = text "," text "," 1
abbrev pub xid : Rule Xid
xid = one part_of ▷ λ g. Comma ⊳ (one part_of ▷ λ b. Comma ⊳ (one format_of ▷ λ _. is (record { gtrid = g; bqual = b })))

-- branch = XA (START xid | END xid | PREPARE xid | COMMIT xid | ROLLBACK xid | RECOVER)
abbrev pub branch : Rule LinkRequest
branch =
    Xa ⊳ ((Start ⊳ (xid ▷ λ x. is (requests.Start x))) ∣ (End ⊳ (xid ▷ λ x. is (requests.End x))) ∣ (Prepare ⊳ (xid ▷ λ x. is (requests.Prepare x)))
    ∣ (Commit ⊳ (xid ▷ λ x. is (requests.Commit x))) ∣ (Rollback ⊳ (xid ▷ λ x. is (requests.Rollback x))) ∣ (Recover ⊳ is requests.Recover))

-- SCANS

-- items = "*" | aggregate {"," aggregate}, at most 1,000 of them
abbrev pub scan_items : ℕ → Rule ScanItems
scan_items depth = (Star ⊳ is scanned.All) ∣ (aggregate depth ▷ λ a. at_most_further 999 Comma (aggregate depth) ▷ λ l. is (scanned.Aggregates (a ∷ l)))

-- order = ORDER BY name, there exactly where the items are all columns
abbrev pub order : ScanItems → Rule (Option (List ℕ))
order scanned.All = Order ⊳ (By ⊳ (name ▷ λ k. is (Some k)))
order (scanned.Aggregates l) = is None

-- limit = [LIMIT digits]
abbrev pub limit : Rule (Option ℕ)
limit = (Limit ⊳ (one count_of ▷ λ n. is (Some n))) ∣ is None

-- scan = SELECT items FROM name [WHERE cond] order limit lock
abbrev pub scan : ℕ → Rule LinkRequest
scan depth =
    Select ⊳ (scan_items depth ▷ λ i. From ⊳ (name ▷ λ t. where_cond depth ▷ λ c. order i ▷ λ o. limit ▷ λ n. lock ▷ λ m.
    is (requests.Scan (record { table = t; items = i; cond = c; order = o; limit = n; lock = m }))))

-- WRITES

-- row = "(" value {"," value} ")"
abbrev pub row : ℕ → Rule (List Value)
row depth = parenthesized (series Comma (one value_of)) depth

-- put = REPLACE INTO name VALUES row {"," row}
abbrev pub put : ℕ → Rule LinkRequest
put depth = Replace ⊳ (Into ⊳ (name ▷ λ t. Values ⊳ (series Comma (row depth) ▷ λ r. is (requests.Put t r))))

abbrev pub keys : ℕ → Rule (List ℤ)
keys depth = parenthesized (series Comma (one key_of)) depth

-- delete = DELETE FROM name WHERE name (IN "(" key {"," key} ")" | BETWEEN key AND key)
abbrev pub delete : ℕ → Rule LinkRequest
delete depth =
    Delete ⊳ (From ⊳ (name ▷ λ t. Where ⊳ (name ▷ λ k. (In ⊳ (keys depth ▷ λ l. is (requests.Del t k l)))
    ∣ (Between ⊳ (one key_of ▷ λ low. And ⊳ (one key_of ▷ λ high. is (requests.Clear t k low high)))))))

-- request = (branch | scan | put | delete) [";"]
abbrev pub request : ℕ → Rule LinkRequest
request depth = (branch ∣ scan depth ∣ put depth ∣ delete depth) ▷ λ r. optional Semicolon ▷ λ _. is r

-- how many openings may stand inside one another in link text
abbrev pub most_link_openings : ℕ
most_link_openings = 65

-- the tokens are a request
abbrev pub IsRequest : List Token → LinkRequest → Type 0
IsRequest ts r = request most_link_openings r ts

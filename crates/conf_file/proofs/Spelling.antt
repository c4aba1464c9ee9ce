-- Columns are read just as they are spelled.
use Rattle.std.proofs.Common.{◌≡◌, ◌≤◌, ◌<◌, ◌+◌, nat_lt, ℕ, Bool, true, false, ◌==◌, if◌then◌else◌, List, [], ◌∷◌, ◌++◌, length, length-append, get_or, take, drop, codes, Option, Some, None, refl, sym, ap, ◌∙◌, arith}
use Rattle.std.proofs.lemmas.Bool.{and_parts, eqb-true, false≢true}
use Rattle.std.proofs.lemmas.Bool.Decides.{nat_tests}
use Rattle.std.proofs.lemmas.List.Sums.{split_at_first, passes_at_first, prefix_len-le-length, position_or_len_is, AllPass-from_list_all}
use Rattle.std.proofs.Math.ListN.{get_or-append}
use Rattle.std.proofs.Math.Seq.{get_or-append_seam, take-append_seam, drop-append-add}
use Rattle.std.specs.Cmp.Lexicographic.{same_text}
use Rattle.std.specs.List.{list_all, position_or_len, before_first, after_first}
use Rattle.std.specs.Option.{option_map, option_and_then, unwrap_or}
use Rattle.sql_values.specs.Names.{is_name, begins_name, continues_name}
use Rattle.sql_values.specs.declared.table.ColumnDef.{ColumnDef}
use Rattle.sql_values.specs.declared.table.Kind.{Kind}
use Rattle.sql_values.specs.declared.table.Kind.TheVariants.{BigInt, VarChar}
use Rattle.conf_file.specs.Columns.{column_of, kind_of, is_blank}
use Rattle.conf_file.specs.Laws.{ColumnsAreSpelled, IsColumnText, IsKindText}
use Rattle.conf_file.specs.Texts.{is_same, number_within, between}
use Rattle.conf_file.proofs.Addresses.{written_within, within_written}
use Rattle.conf_file.proofs.Cuts.{between_ends, cut_text}

some_is : {A : Type 0} (a b : A) → Some a ≡ Some b → a ≡ b
some_is a b same = ap (λ o. unwrap_or o a) same

varchar_of : (text digits : List ℕ) (length : Option ℕ) (kind : Kind) → text ≡ codes "VARCHAR(" ++ (digits ++ codes ")") → number_within 1 1024 digits ≡ length →
    option_map VarChar length ≡ Some kind → IsKindText text kind
varchar_of text digits None kind is found told = cc
varchar_of text digits (Some most) kind is found told =
    let same : VarChar most ≡ kind = some_is (VarChar most) kind told in
    let (writes, above, below) = written_within 1 1024 most digits found in
    rw (← same) (digits, is, writes, above, below)

varchar_text : (text : List ℕ) (digits : Option (List ℕ)) (kind : Kind) → between (codes "VARCHAR(") (codes ")") text ≡ digits →
    option_map VarChar (option_and_then (number_within 1 1024) digits) ≡ Some kind → IsKindText text kind
varchar_text text None kind cut is = cc
varchar_text text (Some digits) kind cut is = varchar_of text digits _ kind (cut_text (codes "VARCHAR(") (codes ")") text digits cut) refl is

kind_by : (text : List ℕ) (kind : Kind) (big : Bool) → big ≡ is_same text (codes "BIGINT") →
    (if big then Some BigInt else option_map VarChar (option_and_then (number_within 1 1024) (between (codes "VARCHAR(") (codes ")") text))) ≡ Some kind → IsKindText text kind
kind_by text kind true big is =
    let same : BigInt ≡ kind = some_is BigInt kind is in rw (← same) (same_text text (codes "BIGINT") big)
kind_by text kind false big is = varchar_text text _ kind refl is

kind_text : (text : List ℕ) (kind : Kind) → kind_of text ≡ Some kind → IsKindText text kind
kind_text text kind is = kind_by text kind _ refl is

text_kind : (text : List ℕ) (kind : Kind) → IsKindText text kind → kind_of text ≡ Some kind
text_kind text BigInt is = rw is refl
text_kind text (VarChar most) (digits, is, writes, above, below) =
    let other : is_same text (codes "BIGINT") ≡ false = rw is refl in
    let cut : between (codes "VARCHAR(") (codes ")") text ≡ Some digits = sym (between_ends (codes "VARCHAR(") digits (codes ")") text is) in
    rw (other, cut, within_written 1 1024 most digits writes above below) refl

abbrev column_with : List ℕ → Kind → ColumnDef
column_with name kind = record { name = name; kind = kind }

abbrev column_by : Bool → Bool → List ℕ → Option Kind → Option ColumnDef
column_by without good name kind = if without then None else if good then option_map (column_with name) kind else None

cut_at_blank : (text : List ℕ) → (position_or_len is_blank text == length text) ≡ false → text ≡ before_first is_blank text ++ 32 ∷ after_first is_blank text
cut_at_blank text other =
    let least : position_or_len is_blank text ≤ length text = prefix_len-le-length _ text in
    let within : position_or_len is_blank text < length text = grind (arith, nat_tests) in
    split_at_first is_blank text 0 within ∙ ap (λ b. before_first is_blank text ++ b ∷ after_first is_blank text) (eqb-true _ 32 (passes_at_first is_blank text 0 within))

column_of_parts : (text : List ℕ) (column : ColumnDef) (without good : Bool) (kind : Option Kind) → without ≡ (position_or_len is_blank text == length text) →
    good ≡ is_name (before_first is_blank text) → kind ≡ kind_of (after_first is_blank text) → column_by without good (before_first is_blank text) kind ≡ Some column → IsColumnText text column
column_of_parts text column true good kind without_is good_is kind_is is = cc
column_of_parts text column false false kind without_is good_is kind_is is = cc
column_of_parts text column false true None without_is good_is kind_is is = cc
column_of_parts text column false true (Some kind) without_is good_is kind_is is =
    let same : column_with (before_first is_blank text) kind ≡ column = some_is (column_with (before_first is_blank text) kind) column is in
    rw (← same) (after_first is_blank text, cut_at_blank text (sym without_is), sym good_is, kind_text (after_first is_blank text) kind (sym kind_is))

no_blank_byte : (b : ℕ) (blank : Bool) → blank ≡ is_blank b → continues_name b ≡ true → blank ≡ false
no_blank_byte b true blank continues =
    let is : b ≡ 32 = eqb-true b 32 (sym blank) in absurd (false≢true (rw is at continues))
no_blank_byte b false blank continues = refl

all_continue : (name : List ℕ) → is_name name ≡ true → list_all continues_name name ≡ true
all_continue [] good = refl
all_continue (b ∷ bytes) good =
    let (begins, more) = and_parts (begins_name b) _ good in
    let (short, continue) = and_parts (nat_lt (length bytes) 64) (list_all continues_name bytes) more in
    rw (begins, continue) refl

no_blank : (name : List ℕ) → is_name name ≡ true → (k : ℕ) → k < length name → is_blank (get_or name k 0) ≡ false
no_blank name good k below = no_blank_byte (get_or name k 0) _ refl (AllPass-from_list_all continues_name name (all_continue name good) k 0 below)

first_blank : (name kind : List ℕ) → is_name name ≡ true → position_or_len is_blank (name ++ 32 ∷ kind) ≡ length name
first_blank name kind good =
    position_or_len_is is_blank (name ++ 32 ∷ kind) (length name) 0 (rw length-append (omega arith))
    (λ k below. rw (get_or-append name (32 ∷ kind) 0 k below) (no_blank name good k below)) (λ within. rw (get_or-append_seam name 32 kind 0) refl)

column_at : (text : List ℕ) (place : ℕ) → position_or_len is_blank text ≡ place →
    column_of text ≡ column_by (place == length text) (is_name (take place text)) (take place text) (kind_of (drop (place + 1) text))
column_at text place is = rw is refl

spelled_column : (name kind : List ℕ) (k : Kind) → is_name name ≡ true → kind_of kind ≡ Some k → column_of (name ++ 32 ∷ kind) ≡ Some (column_with name k)
spelled_column name kind k good is =
    let inside : (length name == length (name ++ 32 ∷ kind)) ≡ false = rw length-append (grind (arith, nat_tests)) in
    let rest : drop (length name + 1) (name ++ 32 ∷ kind) ≡ kind = drop-append-add name (32 ∷ kind) 1 in
    column_at (name ++ 32 ∷ kind) (length name) (first_blank name kind good) ∙ rw (inside, take-append_seam, rest, good, is) refl

column_text : (text : List ℕ) (column : ColumnDef) → IsColumnText text column → column_of text ≡ Some column
column_text text column (kind, is, good, kind_is) = rw is (spelled_column column.name kind column.kind good (text_kind kind column.kind kind_is))

pub columns_are_spelled : ColumnsAreSpelled
columns_are_spelled text column = (λ is. column_of_parts text column _ _ _ refl refl refl is, column_text text column)

-- The partitions of a plan have all rows that it is about.
use Rattle.std.proofs.Common.{◌≡◌, ℕ, suc, zero, ℤ, pos, negsuc, Bool, true, false, cond, not, ◌||◌, List, [], ◌∷◌, map, Option, Some, None, Result, Ok, Err, refl, arith, sym, ◌∙◌, ap, subst, option_and_then, unwrap_or}
use Rattle.std.specs.Prelude.{slice_get, FitsSigned}
use Rattle.std.specs.Int.{w64}
use Rattle.std.specs.List.{Contains, list_any}
use Rattle.std.specs.Option.{option_map, option_map_or}
use Rattle.std.proofs.lemmas.Cmp.{int_eq_equiv}
use Rattle.std.proofs.lemmas.Int.{ints}
use Rattle.std.proofs.lemmas.Map.Views.{list_any-from_Contains}
use Rattle.std.proofs.lemmas.Option.{slice_get-map}
use Rattle.sql_values.specs.declared.literal.Literal.{Literal}
use Rattle.sql_values.specs.declared.literal.Literal.TheVariants as literal
use Rattle.sql_values.specs.declared.places.Interval.{Interval}
use Rattle.sql_values.specs.declared.storage.StoreFault.{StoreFault}
use Rattle.sql_values.specs.declared.table.ColumnDef.{ColumnDef}
use Rattle.sql_values.specs.declared.table.Kind.{Kind}
use Rattle.sql_values.specs.declared.table.Kind.TheVariants.{BigInt, VarChar}
use Rattle.sql_values.specs.declared.table.TableDef.{TableDef}
use Rattle.sql_values.specs.declared.tree.Comparison.TheVariants.{Equal}
use Rattle.sql_values.specs.declared.tree.Cond.{Cond, Cond-F}
use Rattle.sql_values.specs.declared.tree.Cond.TheFolds.{fold-roll-Cond}
use Rattle.sql_values.specs.declared.tree.Cond.TheVariants.{rolls-In}
use Rattle.sql_values.specs.declared.value.Value.{Value}
use Rattle.sql_values.specs.declared.value.Value.TheVariants as value
use Rattle.sql_values.specs.Conditions.{cond_holds, compares}
use Rattle.sql_values.specs.Expressions.{is_big_int, number_of}
use Rattle.sql_values.specs.KeySets.{AreKeys}
use Rattle.sql_values.specs.Storing.{stored, is_within}
use Rattle.part_rules.specs.declared.rule.Rule.{Rule}
use Rattle.part_rules.specs.Keeps.{keeps, layer_keeps, names_key, is_listed}
use Rattle.part_rules.specs.KeyRows.{HasOwnKeyName}
use Rattle.part_rules.specs.Placing.{part}
use Rattle.part_rules.specs.Pruned.{IsPruned}
use Rattle.part_rules.proofs.KeptKeys.{no_row_is_missed as no_row_missed}
use Rattle.stmt_plan.specs.Inserts.{slots, targets, slot_value, row_of, rows_of, row_key, held, in_keys, key_name}
use Rattle.stmt_plan.specs.Laws.{NoRowIsMissed, InsertsAreCovered}
use Rattle.stmt_plan.specs.Plans.{keeps_key}

-- by cases on the condition
not_missed : (table : TableDef) (rule : Rule) (row : List Value) (key : ℤ) (p : ℕ) (keys : List Interval) (parts : List ℕ) (pushed : Option Cond) →
    HasOwnKeyName table → slice_get row table.key ≡ Some (value.Number key) → FitsSigned w64 key →
    option_map_or (cond_holds (table ∷ []) row) pushed true ≡ true → AreKeys keys (keeps_key table pushed) → IsPruned rule keys parts → part rule key ≡ Some p → Contains parts p
not_missed table rule row key p keys parts None own at fits holds are pruned place = pruned.all p (key, are key fits, place)
not_missed table rule row key p keys parts (Some c) own at fits holds are pruned place =
    no_row_missed table row key c rule keys parts p own at fits holds are pruned place

pub no_row_is_missed : NoRowIsMissed
no_row_is_missed number table rule s plan row key p is_table is_plan at fits holds place =
    not_missed table rule row key p plan.keys plan.parts plan.cond
    (λ j other column there here same. is_table.apart j table.key other column there here same)
    at fits holds is_plan.keys is_plan.parts place

big_int_fits : (z : ℤ) → is_big_int z ≡ true → FitsSigned w64 z
big_int_fits (pos n) small = grind (arith, ints)
big_int_fits (negsuc n) small = grind (arith, ints)

number_held : (b : Bool) (z : ℤ) (fault : StoreFault) → (b ≡ true → is_big_int z ≡ true) →
    is_big_int (number_of (held (cond {A = Result Value StoreFault} b (Ok (value.Number z)) (Err fault)))) ≡ true
number_held true z fault small = small refl
number_held false z fault small = refl

text_held : (b : Bool) (t : List ℕ) (fault : StoreFault) →
    is_big_int (number_of (held (cond {A = Result Value StoreFault} b (Ok (value.Text t)) (Err fault)))) ≡ true
text_held true t fault = refl
text_held false t fault = refl

-- the number of what a column holds is a BIGINT
held_fits : (l : Literal) (kind : Kind) → is_big_int (number_of (held (stored l kind))) ≡ true
held_fits literal.Null kind = refl
held_fits (literal.Number z) BigInt = number_held (is_big_int z) z _ (λ small. small)
held_fits (literal.Number z) (VarChar most) = refl
held_fits (literal.Text t) BigInt = refl
held_fits (literal.Text t) (VarChar most) = text_held (is_within most t) t _

slot_fits : (literals : List Literal) (slot : Option (ColumnDef × Option ℕ)) →
    is_big_int (option_map_or number_of (option_map (slot_value literals) slot) (pos 0)) ≡ true
slot_fits literals None = refl
slot_fits literals (Some (column, place)) = held_fits (unwrap_or (option_and_then (slice_get literals) place) literal.Null) column.kind

row_fits : (literals : List Literal) (places : List (ColumnDef × Option ℕ)) (key : ℕ) → is_big_int (row_key key (row_of places literals)) ≡ true
row_fits literals places key =
    subst (λ (v : Option Value). is_big_int (option_map_or number_of v (pos 0)) ≡ true) (sym (slice_get-map (slot_value literals) places key)) (slot_fits literals (slice_get places key))

-- what all results of a function have, each element of its map has
Contains-mapped : {X Y : Type 0} (f : X → Y) (P : Y → Type 0) → ((x : X) → P (f x)) → (xs : List X) (y : Y) → Contains (map f xs) y → P y
Contains-mapped f P all [] y there = absurd (omega (arith, there.1))
Contains-mapped f P all (x ∷ xs) y (zero, within, is) = subst P is (all x)
Contains-mapped f P all (x ∷ xs) y (suc k, within, is) = Contains-mapped f P all xs y (k, omega arith, is)

pub Contains-map : {X Y : Type 0} (f : X → Y) (xs : List X) (x : X) → Contains xs x → Contains (map f xs) (f x)
Contains-map f [] x there = absurd (omega (arith, there.1))
Contains-map f (y ∷ xs) x (zero, within, is) = (zero, omega arith, ap f is)
Contains-map f (y ∷ xs) x (suc k, within, is) =
    let later : Contains (map f xs) (f x) = Contains-map f xs x (k, omega arith, is) in
    (suc later.0, omega (arith, later.1), later.2)

any_map : {X Y : Type 0} (test : Y → Bool) (f : X → Y) (xs : List X) → list_any test (map f xs) ≡ list_any (λ x. test (f x)) xs
any_map test f [] = refl
any_map test f (x ∷ xs) = ap (λ (b : Bool). test (f x) || b) (any_map test f xs)

listed : (key : ℤ) (list : List ℤ) → Contains list key → is_listed key (map literal.Number list) ≡ true
listed key list there = any_map (compares Equal (literal.Number key)) literal.Number list ∙ list_any-from_Contains int_eq_equiv key list there

in_keeps : (table : TableDef) (key : ℤ) (list : List ℤ) → Contains list key → keeps table key (in_keys table list) ≡ true
in_keeps table key list there =
    ap (keeps table key) (sym (rolls-In (record { table = None; column = key_name table }) false (map literal.Number list)))
    ∙ fold-roll-Cond Bool (layer_keeps table key) (Cond-F.In (record { table = None; column = key_name table }) false (map literal.Number list))
    ∙ or_so (names_key table (record { table = None; column = key_name table })) (listed key list there)
  where
    or_so : {kept : Bool} (named : Bool) → kept ≡ true → (not named || kept) ≡ true
    or_so true so = so
    or_so false so = refl

pub inserts_are_covered : InsertsAreCovered
inserts_are_covered number table rule insert plan row p is_plan there place =
    let places : List (ColumnDef × Option ℕ) = slots table.columns (targets table.columns insert.columns) in
    let small : is_big_int (row_key table.key row) ≡ true = Contains-mapped (row_of places) (λ (r : List Value). is_big_int (row_key table.key r) ≡ true) (λ literals. row_fits literals places table.key) insert.rows row there in
    let fits : FitsSigned w64 (row_key table.key row) = big_int_fits (row_key table.key row) small in
    let asked : Contains is_plan.cond.list (row_key table.key row) = (is_plan.cond.rising.same (row_key table.key row)).1 (Contains-map (row_key table.key) (rows_of table insert.columns insert.rows) row there) in
    is_plan.parts.all p (
      row_key table.key row,
      is_plan.keys (row_key table.key row) fits ∙ ap (λ (c : Option Cond). keeps_key table c (row_key table.key row)) is_plan.cond.in_list ∙ in_keeps table (row_key table.key row) is_plan.cond.list asked,
      place,
    )

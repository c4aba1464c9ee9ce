-- The partitions in which rows are written are among those that their statement asks.
use Rattle.std.proofs.Common.{◌≡◌, ℕ, ℤ, ◌&&◌, ◌||◌, not, Bool, true, false, List, [], ◌∷◌, map, Option, None, refl, sym, ◌∙◌, ap}
use Rattle.std.specs.Prelude.{IsSome}
use Rattle.std.specs.List.{AllByRecursion, Contains, list_any}
use Rattle.std.specs.Ordering.{int_eq}
use Rattle.std.proofs.lemmas.Bool.{and_from}
use Rattle.std.proofs.lemmas.Cmp.{int_eq_equiv}
use Rattle.std.proofs.lemmas.Map.Views.{list_any-from_Contains}
use Rattle.sql_values.specs.declared.literal.Literal.TheVariants as literal
use Rattle.sql_values.specs.declared.table.TableDef.{TableDef}
use Rattle.sql_values.specs.declared.tree.Cond.{Cond, Cond-F}
use Rattle.sql_values.specs.declared.tree.Cond.TheFolds.{fold-roll-Cond}
use Rattle.sql_values.specs.declared.tree.Cond.TheVariants.{rolls-In}
use Rattle.part_rules.specs.declared.rule.Rule.{Rule}
use Rattle.part_rules.specs.Keeps.{keeps, layer_keeps, names_key, is_listed}
use Rattle.part_rules.specs.KeyRows.{HasOwnKeyName}
use Rattle.part_rules.specs.Placing.{part}
use Rattle.sql_text.specs.declared.statement.Insert.{Insert}
use Rattle.sql_text.specs.declared.statement.TableStatement.TheVariants as statement
use Rattle.stmt_plan.specs.Inserts.{rows_of, row_key, key_name, in_keys}
use Rattle.stmt_plan.specs.Plans.{keeps_key}
use Rattle.plain_tables.specs.Inserts.{put_all, without, AreRows}
use Rattle.plain_tables.specs.Partitions.{lies_in, IsTable}
use Rattle.plain_tables.specs.Rows.{Row, key_of, HasKey, holds_on, kept, FitsColumns}
use Rattle.plain_tables.specs.Statements.{Puts, Dels}
use Rattle.plain_tables.proofs.Members.{all_of, kept_passes, mapped_from}
use Rattle.plain_tables.proofs.Merged.{key_is_kept}
use Rattle.txn_phases.specs.Deeds.{keys_in, news_in, placed, placed_key}
use Rattle.front_core.specs.Asked.{rising, pushed, lies_at, owns}
use Rattle.front_core.proofs.Rising.{rising_rises}
use Rattle.front_core.proofs.Parting.{some_bigint}
use Rattle.phase_law.proofs.Dels.{dels_are_written, keys_have_parts, rest_have}
use Rattle.phase_law.proofs.Lists.{into_map}
use Rattle.phase_law.proofs.Puts.{puts_are_written}
use Rattle.phase_law.proofs.Writes.{IsWritten}

-- THE CONDITION KEEPS THEM

any_number : (key : ℤ) (list : List ℤ) → is_listed key (map literal.Number list) ≡ list_any (int_eq key) list
any_number key [] = refl
any_number key (k ∷ ks) = ap (λ b. int_eq key k || b) (any_number key ks)

or_so : (named : Bool) {kept : Bool} → kept ≡ true → (not named || kept) ≡ true
or_so true so = so
or_so false so = refl

in_keeps : (def : TableDef) (key : ℤ) (list : List ℤ) → Contains list key → keeps def key (in_keys def list) ≡ true
in_keeps def key list there =
    ap (keeps def key) (sym (rolls-In (record { table = None; column = key_name def }) false (map literal.Number list)))
    ∙ (fold-roll-Cond Bool (layer_keeps def key) (Cond-F.In (record { table = None; column = key_name def }) false (map literal.Number list))
    ∙ or_so (names_key def (record { table = None; column = key_name def })) (any_number key list ∙ list_any-from_Contains int_eq_equiv key list there))

-- PARTITIONS

-- a partition in which a new row of an INSERT lies is asked
new_row_is_asked : (def : TableDef) (rule : Rule) (insert : Insert) (row : Row) (p : ℕ) → Contains (rows_of def insert.columns insert.rows) row → HasKey def row → lies_in def rule p row ≡ true
    → owns rule (keeps_key def (pushed def (statement.Insert insert))) p ≡ true
new_row_is_asked def rule insert row p c has lies =
    let keys : List ℤ = map (row_key def.key) (rows_of def insert.columns insert.rows) in
    let kept_key : keeps_key def (pushed def (statement.Insert insert)) (key_of def row) ≡ true =
    in_keeps def (key_of def row) (rising keys) (((rising_rises keys).same (key_of def row)).1 (into_map (row_key def.key) (rows_of def insert.columns insert.rows) row c)) in
    some_bigint (λ key. keeps_key def (pushed def (statement.Insert insert)) key && lies_at rule p key) (key_of def row) has.fits (and_from _ _ kept_key lies)

-- and so is one in which the key lies of a row that the condition keeps
found_is_asked : (def : TableDef) (rule : Rule) (cond : Option Cond) (rows : List Row) (row : Row) (p : ℕ) → HasOwnKeyName def → IsTable def rule rows → Contains (kept def cond rows) row → lies_in def rule p row ≡ true
    → owns rule (keeps_key def cond) p ≡ true
found_is_asked def rule cond rows row p own table c lies =
    let both = kept_passes (holds_on def cond) rows row c in
    let has : HasKey def row = all_of (HasKey def) rows row table.keyed both.0 in
    let kept_key : keeps_key def cond (key_of def row) ≡ true = key_is_kept def cond row own has both.1 in
    some_bigint (λ key. keeps_key def cond key && lies_at rule p key) (key_of def row) has.fits (and_from _ _ kept_key lies)

-- WHAT IS WRITTEN

-- the new rows of an INSERT
pub new_rows_are_written : (def : TableDef) (rule : Rule) (insert : Insert) (rows : List Row) → IsTable def rule rows → AreRows def rule (rows_of def insert.columns insert.rows)
    → AllByRecursion (FitsColumns def) (rows_of def insert.columns insert.rows)
    → IsWritten def rule (owns rule (keeps_key def (pushed def (statement.Insert insert)))) rows (λ p. Puts (news_in (map (placed def rule) (rows_of def insert.columns insert.rows)) p))
    (put_all def rows (rows_of def insert.columns insert.rows))
new_rows_are_written def rule insert rows table are fit =
    let news : List Row = rows_of def insert.columns insert.rows in
    puts_are_written def rule (owns rule (keeps_key def (pushed def (statement.Insert insert)))) rows news table are fit
    (λ row p c lies. new_row_is_asked def rule insert row p c (all_of (HasKey def) news row are.keyed c) lies)

-- rows with keys of rows that the condition keeps
pub changes_are_written : (def : TableDef) (rule : Rule) (cond : Option Cond) (rows news : List Row) → HasOwnKeyName def → IsTable def rule rows → AreRows def rule news → AllByRecursion (FitsColumns def) news
    → ((new : Row) → Contains news new → Contains (map (key_of def) (kept def cond rows)) (key_of def new))
    → IsWritten def rule (owns rule (keeps_key def cond)) rows (λ p. Puts (news_in (map (placed def rule) news) p)) (put_all def rows news)
changes_are_written def rule cond rows news own table are fit among =
    puts_are_written def rule (owns rule (keeps_key def cond)) rows news table are fit
    (λ new p c lies.
    let old = mapped_from (key_of def) (kept def cond rows) (key_of def new) (among new c) in
    found_is_asked def rule cond rows old.0 p own table old.1 (ap (lies_at rule p) old.2 ∙ lies))

-- the keys of rows that the condition keeps
pub found_keys_are_written : (def : TableDef) (rule : Rule) (cond : Option Cond) (rows : List Row) → HasOwnKeyName def → IsTable def rule rows
    → IsWritten def rule (owns rule (keeps_key def cond)) rows (λ p. Dels (keys_in (map (placed_key rule) (map (key_of def) (kept def cond rows))) p)) (without def (map (key_of def) (kept def cond rows)) rows)
found_keys_are_written def rule cond rows own table =
    dels_are_written def rule (owns rule (keeps_key def cond)) rows (map (key_of def) (kept def cond rows))
    (keys_have_parts def rule (kept def cond rows) (rest_have (λ row. IsSome (part rule (key_of def row))) (holds_on def cond) rows table.placed))
    (λ key p c lies.
    let row = mapped_from (key_of def) (kept def cond rows) key c in
    found_is_asked def rule cond rows row.0 p own table row.1 (ap (lies_at rule p) row.2 ∙ lies))

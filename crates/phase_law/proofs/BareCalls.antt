-- Aggregates without the names of tables fit each table with the same columns, and mean the same there.
use Rattle.std.proofs.Common.{◌≡◌, ℕ, true, List, [], ◌∷◌, map, Some, None, refl, ◌∙◌, ap, cond, flat_map}
use Rattle.std.specs.List.{list_all}
use Rattle.std.specs.Option.{option_or}
use Rattle.std.proofs.lemmas.Bool.{and_parts}
use Rattle.sql_values.specs.declared.table.Kind.TheVariants.{BigInt}
use Rattle.sql_values.specs.declared.table.TableDef.{TableDef}
use Rattle.sql_values.specs.Kinds.{are_comparable}
use Rattle.sql_text.specs.declared.link.AggregateCall.{AggregateCall}
use Rattle.sql_text.specs.declared.link.AggregateCall.TheVariants as call
use Rattle.sql_text.specs.declared.statement.AggregateItem.{AggregateItem}
use Rattle.sql_text.specs.declared.statement.SelectItems.{SelectItems}
use Rattle.sql_text.specs.declared.statement.SelectItems.TheVariants as items
use Rattle.front_rows.specs.declared.aggregate.Aggregate.{Aggregate}
use Rattle.stmt_plan.specs.Selects.{aggregate_of, bare_call, bare_name, call_columns, call_fits, called, calls_fit, item_columns, items_by}
use Rattle.branch_store.specs.declared.fault.BranchFault.TheVariants as fault
use Rattle.branch_store.specs.Faults.{call_fault, calls_fault, items_fault, sum_fault}
use Rattle.phase_law.proofs.Bare.{AreKnown, bare_is_known, bare_kind, known_alone, known_parts}

module _ (def : TableDef) (n m : List ℕ) where
  -- THEY FIT

  call_known : (c : AggregateCall) → AreKnown def n (call_columns c) → call_fits (called def n) c ≡ true → call_fault (called def m) (bare_call c) ≡ None
  call_known call.Count known fits = refl
  call_known (call.Sum name) known fits =
      let is = known_alone def n name known in
      ap (λ b. option_or (cond b (Some (fault.NoColumn name.column)) None) (sum_fault (called def m) (call.Sum (bare_name name)))) (bare_is_known def n m name is)
      ∙ (ap (λ k. cond (are_comparable k (Some BigInt)) None (Some fault.TypeMismatch)) (bare_kind def n m name is)
      ∙ ap (λ b. cond b None (Some fault.TypeMismatch)) fits)
  call_known (call.Min name) known fits = ap (λ b. cond b (Some (fault.NoColumn name.column)) None) (bare_is_known def n m name (known_alone def n name known))
  call_known (call.Max name) known fits = ap (λ b. cond b (Some (fault.NoColumn name.column)) None) (bare_is_known def n m name (known_alone def n name known))

  calls_known : (list : List AggregateItem) → AreKnown def n (flat_map (λ (item : AggregateItem). call_columns item.call) list) → list_all (λ (item : AggregateItem). call_fits (called def n) item.call) list ≡ true
      → calls_fault (called def m) (map (λ (item : AggregateItem). bare_call item.call) list) ≡ None
  calls_known [] known fits = refl
  calls_known (item ∷ list) known fits =
      let both = known_parts def n (call_columns item.call) (flat_map (λ (item : AggregateItem). call_columns item.call) list) known in
      let each = and_parts (call_fits (called def n) item.call) (list_all (λ (item : AggregateItem). call_fits (called def n) item.call) list) fits in
      ap (λ o. option_or o (calls_fault (called def m) (map (λ (item : AggregateItem). bare_call item.call) list))) (call_known item.call both.0 each.0) ∙ calls_known list both.1 each.1

  -- what is asked for under one name of the table may be asked for under another
  pub items_known : (list : SelectItems) → AreKnown def n (item_columns list) → calls_fit (called def n) list ≡ true → items_fault (called def m) (items_by list) ≡ None
  items_known items.All known fits = refl
  items_known (items.Columns list) known fits = refl
  items_known (items.Aggregates list) known fits = calls_known list known fits

-- THEY MEAN THE SAME

call_alike : (def : TableDef) (m : List ℕ) (c : AggregateCall) → aggregate_of (called def m) (bare_call c) ≡ aggregate_of def (bare_call c)
call_alike def m call.Count = refl
call_alike def m (call.Sum name) = refl
call_alike def m (call.Min name) = refl
call_alike def m (call.Max name) = refl

pub calls_alike : (def : TableDef) (m : List ℕ) (list : List AggregateItem)
    → map (aggregate_of (called def m)) (map (λ (item : AggregateItem). bare_call item.call) list) ≡ map (aggregate_of def) (map (λ (item : AggregateItem). bare_call item.call) list)
calls_alike def m [] = refl
calls_alike def m (item ∷ list) =
    ap (λ (a : Aggregate). a ∷ map (aggregate_of (called def m)) (map (λ (item : AggregateItem). bare_call item.call) list)) (call_alike def m item.call)
    ∙ ap (λ l. aggregate_of def (bare_call item.call) ∷ l) (calls_alike def m list)

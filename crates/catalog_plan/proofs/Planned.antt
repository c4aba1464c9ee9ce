-- What is said of a table's parts is said of the table that was found.
use Rattle.std.proofs.Common.{◌≡◌, ◌⊎◌, ℕ, List, Option, Some, None, sym, ap, subst, inl, inr, slice_get, unwrap_or, option_map}
use Rattle.sql_values.specs.declared.table.TableDef.{TableDef}
use Rattle.part_rules.specs.declared.rule.Rule.{Rule}
use Rattle.catalog.specs.declared.tables.Table.{Table}
use Rattle.sql_text.specs.declared.statement.TableStatement.{TableStatement}
use Rattle.stmt_plan.specs.declared.fault.StmtFault.{StmtFault}
use Rattle.stmt_plan.specs.declared.fault.StmtFault.TheVariants.{NoMemory}
use Rattle.stmt_plan.specs.declared.planned.Plan.{Plan}
use Rattle.stmt_plan.specs.Plans.{IsPlan}
use Rattle.stmt_plan.specs.Refusals.{refusal}
use Rattle.catalog_plan.specs.declared.fault.PlanFault.TheVariants as told
use Rattle.catalog_plan.specs.Plans.{table_of, IsFound, IsPlanned, IsRefused}

module _ (tables : List Table) (s : TableStatement) (name : List ℕ) (named : name ≡ table_of s) (number : ℕ) (def : TableDef) (rule : Rule)
    (found : (table : Table) → slice_get tables number ≡ Some table → IsFound tables name number table) where
  found_so : (table : Table) → slice_get tables number ≡ Some table → IsFound tables (table_of s) number table
  found_so table there = subst (λ n. IsFound tables n number table) named (found table there)

  -- a fact of the definition and the rule is one of the table that has them
  of_table : (P : TableDef → Rule → Type 0) (table : Table) → table.def ≡ def → table.rule ≡ rule → P def rule → P table.def table.rule
  of_table P table same_def same_rule holds = subst (λ d. P d table.rule) (sym same_def) (subst (P def) (sym same_rule) holds)

  pub planned_by : (plan : Plan) (o : Option Table) → slice_get tables number ≡ o → option_map (λ (t : Table). t.def) o ≡ Some def → option_map (λ (t : Table). t.rule) o ≡ Some rule
      → refusal def rule s ≡ None → IsPlan number def rule s plan → IsPlanned tables s plan
  planned_by plan None there def_is rule_is passes is = absurd (let no : None ≡ Some def = def_is in cc)
  planned_by plan (Some table) there def_is rule_is passes is =
      let same_def : table.def ≡ def = ap (λ o. unwrap_or o def) def_is in
      let same_rule : table.rule ≡ rule = ap (λ o. unwrap_or o rule) rule_is in
      record {
        number = number;
        table = table;
        found = found_so table there;
        passes = of_table (λ d r. refusal d r s ≡ None) table same_def same_rule passes;
        planned = of_table (λ d r. IsPlan number d r s plan) table same_def same_rule is;
      }

  pub refused_by : (fault : StmtFault) (o : Option Table) → slice_get tables number ≡ o → option_map (λ (t : Table). t.def) o ≡ Some def → option_map (λ (t : Table). t.rule) o ≡ Some rule
      → (fault ≡ NoMemory) ⊎ (refusal def rule s ≡ Some fault) → IsRefused tables s (told.Statement fault)
  refused_by fault None there def_is rule_is why = absurd (let no : None ≡ Some def = def_is in cc)
  refused_by fault (Some table) there def_is rule_is (inl full) = inl full
  refused_by fault (Some table) there def_is rule_is (inr breaks) =
      let same_def : table.def ≡ def = ap (λ o. unwrap_or o def) def_is in
      let same_rule : table.rule ≡ rule = ap (λ o. unwrap_or o rule) rule_is in
      inr (number, table, found_so table there, of_table (λ d r. refusal d r s ≡ Some fault) table same_def same_rule breaks)

-- A statement without a plan is answered as the front's definition says.
use Rattle.std.proofs.Common.{◌≡◌, ℕ, false, List, sym, ◌∙◌, ap, inl, inr}
use Rattle.std.proofs.lemmas.Bool.{both_ways}
use Rattle.catalog.specs.Views.{View}
use Rattle.catalog_plan.specs.declared.fault.PlanFault.TheVariants.{NoTable, Statement as Breaks}
use Rattle.catalog_plan.specs.Plans.{IsRefused, table_of}
use Rattle.sql_replies.specs.Errors.{no_table_reply, plan_reply}
use Rattle.sql_text.specs.declared.statement.TableStatement.{TableStatement}
use Rattle.stmt_plan.specs.declared.fault.StmtFault.{StmtFault}
use Rattle.front_core.specs.Core.{answers, begins_at, begins_on, table_named}
use Rattle.front_core.specs.Planned.{is_no_memory}
use Rattle.front_core.proofs.Named.{found_is_named, not_found_not_named}

pub unnamed : (catalog : View) (drawn : ℕ) (s : TableStatement) (name : List ℕ) → IsRefused catalog.tables s (NoTable name) → answers drawn (no_table_reply name) ≡ begins_at catalog drawn s (table_named catalog.tables (table_of s))
unnamed catalog drawn s name (same, none) =
    ap (λ (n : List ℕ). answers drawn (no_table_reply n)) same ∙ sym (ap (begins_at catalog drawn s) (not_found_not_named catalog.tables (table_of s) none))

pub broken : (catalog : View) (drawn : ℕ) (s : TableStatement) (fault : StmtFault) → is_no_memory fault ≡ false → IsRefused catalog.tables s (Breaks fault) → answers drawn (plan_reply fault) ≡ begins_at catalog drawn s (table_named catalog.tables (table_of s))
broken catalog drawn s fault told (inl starved) = absurd (both_ways (is_no_memory fault) told (ap is_no_memory starved))
broken catalog drawn s fault told (inr (number, table, found, breaks)) =
    sym (ap (begins_at catalog drawn s) (found_is_named catalog.tables (table_of s) number table found) ∙ ap (begins_on catalog drawn s number table) breaks)

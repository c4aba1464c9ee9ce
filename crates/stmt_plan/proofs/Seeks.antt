-- The first name of a column that passes a test, part by part.
use Rattle.std.proofs.Common.{◌≡◌, ℕ, Bool, true, false, cond, List, [], ◌∷◌, ◌++◌, refl, ap, ◌∙◌, find, Option, None, Some}
use Rattle.std.specs.Option.{option_map, option_or}
use Rattle.std.proofs.lemmas.Grind.{common_steps}
use Rattle.std.proofs.lemmas.List.Folds.{find-append}
use Rattle.sql_values.specs.declared.table.TableDef.{TableDef}
use Rattle.sql_values.specs.declared.tree.ColumnName.{ColumnName}
use Rattle.sql_values.specs.Checks.{first_column, is_unknown}
use Rattle.stmt_plan.specs.declared.fault.StmtFault.TheVariants.{NoColumn}
use Rattle.stmt_plan.specs.Chosen.{unknown_fault}

map_or : {X Y : Type 0} (f : X → Y) (first second : Option X) →
    option_map f (option_or first second) ≡ option_or (option_map f first) (option_map f second)
map_or f None second = refl
map_or f (Some x) second = refl

pub first-append : (test : ColumnName → Bool) (xs ys : List ColumnName) →
    first_column test (xs ++ ys) ≡ option_or (first_column test xs) (first_column test ys)
unfolding first_column
first-append test xs ys = rw find-append (map_or (λ (name : ColumnName). name.column) (find test xs) (find test ys))

pub first-nil : (test : ColumnName → Bool) → first_column test [] ≡ None
unfolding first_column
first-nil test = refl

-- by what the test says of the first name
named_or : (b : Bool) (name : ColumnName) (rest : Option ColumnName) →
    option_map (λ (n : ColumnName). n.column) (cond b (Some name) rest) ≡ cond b (Some name.column) (option_map (λ (n : ColumnName). n.column) rest)
named_or true name rest = refl
named_or false name rest = refl

pub first-cons : (test : ColumnName → Bool) (name : ColumnName) (names : List ColumnName) →
    first_column test (name ∷ names) ≡ cond (test name) (Some name.column) (first_column test names)
unfolding first_column
first-cons test name names = named_or (test name) name (find test names)

none_first : (first rest : Option (List ℕ)) → option_map NoColumn first ≡ None → option_map NoColumn (option_or first rest) ≡ option_map NoColumn rest
none_first None rest none = refl
none_first (Some n) rest none = let no : Some (NoColumn n) ≡ None = none in cc

-- past names that are all known
pub past_known : (table : TableDef) (names rest : List ColumnName) → unknown_fault table names ≡ None → unknown_fault table (names ++ rest) ≡ unknown_fault table rest
past_known table names rest none =
    ap (option_map NoColumn) (first-append (is_unknown (table ∷ [])) names rest)
    ∙ none_first (first_column (is_unknown (table ∷ [])) names) (first_column (is_unknown (table ∷ [])) rest) none

pub ruleset seeks = (common_steps, first-append, first-nil, first-cons)

-- The key that is found among columns.
use Rattle.std.proofs.Common.{◌≡◌, ℕ, suc, zero, ◌<◌, Bool, true, false, cond, not, ◌&&◌, List, [], ◌∷◌, Some, None, length, refl, sym, ap, ◌∙◌, subst, arith, nat_lt, ◌^◌}
use Rattle.std.specs.List.{slice_get, list_any}
use Rattle.std.specs.Option.{option_map}
use Rattle.std.proofs.lemmas.Option.{same_Some}
use Rattle.sql_values.specs.declared.table.ColumnDef.{ColumnDef}
use Rattle.sql_values.specs.declared.table.Kind.{Kind}
use Rattle.sql_values.specs.declared.table.Kind.TheVariants.{BigInt, VarChar}
use Rattle.sql_values.specs.declared.table.TableDef.{TableDef}
use Rattle.part_rules.specs.KeyRows.{HasOwnKeyName}
use Rattle.conf_file.specs.declared.entries.TableEntry.{TableEntry}
use Rattle.catalog.specs.Columns.{columns_of, is_named, is_big_int, key_from, key_place, keyed, defined, def_of, numbered}
use Rattle.catalog.specs.Searches.{name_of}
use Rattle.catalog.proofs.Options.{there, mapped, chosen, and_true}

big_int : (kind : Kind) → is_big_int kind ≡ true → kind ≡ BigInt
big_int BigInt h = refl
big_int (VarChar n) h = absurd (cc)

none_before : (name : List ℕ) (c : ColumnDef) (cs : List ColumnDef) (b : Bool) → is_named name c ≡ b → not (list_any (is_named name) (c ∷ cs)) ≡ true → (b ≡ false) × (not (list_any (is_named name) cs) ≡ true)
none_before name c cs true is h = absurd (let gone : not (list_any (is_named name) (c ∷ cs)) ≡ false = rw is refl in cc)
none_before name c cs false is h = (refl, (rw is at h))

no_other : (name : List ℕ) (cs : List ColumnDef) (j : ℕ) (other : ColumnDef) → not (list_any (is_named name) cs) ≡ true → slice_get cs j ≡ Some other → is_named name other ≡ false
no_other name [] j other h k = absurd (cc)
no_other name (c ∷ cs) zero other h k =
    let both = none_before name c cs (is_named name c) refl h in
    subst (λ (o : ColumnDef). is_named name o ≡ false) (same_Some c other k) both.0
no_other name (c ∷ cs) (suc j) other h k = no_other name cs j other (none_before name c cs (is_named name c) refl h).1 k

-- what stands at the place, and elsewhere
pub record IsKey (name : List ℕ) (columns : List ColumnDef) (place : ℕ) : Type 0 where
  pub within : place < length columns
  pub kind : (column : ColumnDef) → slice_get columns place ≡ Some column → column.kind ≡ BigInt
  pub named : (column : ColumnDef) → slice_get columns place ≡ Some column → is_named name column ≡ true
  pub alone : (j : ℕ) (other : ColumnDef) → slice_get columns j ≡ Some other → is_named name other ≡ true → j ≡ place

true_or_false : (b : Bool) → b ≡ true → b ≡ false → ⊥
true_or_false b is not_so = let e : true ≡ false = sym is ∙ not_so in cc

alone_first : (name : List ℕ) (c : ColumnDef) (cs : List ColumnDef) → not (list_any (is_named name) cs) ≡ true → (j : ℕ) (other : ColumnDef) → slice_get (c ∷ cs) j ≡ Some other → is_named name other ≡ true → j ≡ 0
alone_first name c cs none zero other at named = refl
alone_first name c cs none (suc j) other at named = absurd (true_or_false (is_named name other) named (no_other name cs j other none at))

key_first : (name : List ℕ) (c : ColumnDef) (cs : List ColumnDef) → is_named name c ≡ true → (is_big_int c.kind && not (list_any (is_named name) cs)) ≡ true → IsKey name (c ∷ cs) 0
key_first name c cs named test =
    let both = and_true (is_big_int c.kind) (not (list_any (is_named name) cs)) test in
    record {
      within = omega arith;
      kind = λ column at. subst (λ (o : ColumnDef). o.kind ≡ BigInt) (same_Some c column at) (big_int c.kind both.0);
      named = λ column at. subst (λ (o : ColumnDef). is_named name o ≡ true) (same_Some c column at) named;
      alone = alone_first name c cs both.1;
    }

alone_later : (name : List ℕ) (c : ColumnDef) (cs : List ColumnDef) (k : ℕ) → is_named name c ≡ false → ((j : ℕ) (other : ColumnDef) → slice_get cs j ≡ Some other → is_named name other ≡ true → j ≡ k)
    → (j : ℕ) (other : ColumnDef) → slice_get (c ∷ cs) j ≡ Some other → is_named name other ≡ true → j ≡ suc k
alone_later name c cs k unnamed alone zero other at named = absurd (true_or_false (is_named name c) (subst (λ (o : ColumnDef). is_named name o ≡ true) (sym (same_Some c other at)) named) unnamed)
alone_later name c cs k unnamed alone (suc j) other at named = ap suc (alone j other at named)

key_later : (name : List ℕ) (c : ColumnDef) (cs : List ColumnDef) (k : ℕ) → is_named name c ≡ false → IsKey name cs k → IsKey name (c ∷ cs) (suc k)
key_later name c cs k unnamed key = record {
  within = let below = key.within in omega arith;
  kind = λ column at. key.kind column at;
  named = λ column at. key.named column at;
  alone = alone_later name c cs k unnamed key.alone;
}

key_by : (name : List ℕ) (c : ColumnDef) (cs : List ColumnDef) (k : ℕ) (b : Bool) → is_named name c ≡ b → ((i : ℕ) → key_from name cs ≡ Some i → IsKey name cs i)
    → cond b (cond (is_big_int c.kind && not (list_any (is_named name) cs)) (Some 0) None) (option_map suc (key_from name cs)) ≡ Some k → IsKey name (c ∷ cs) k
key_by name c cs k true named later h =
    let found = chosen (is_big_int c.kind && not (list_any (is_named name) cs)) (Some 0) k h in
    subst (λ (i : ℕ). IsKey name (c ∷ cs) i) (same_Some 0 k found.1) (key_first name c cs named found.0)
key_by name c cs k false unnamed later h =
    let found = mapped suc (key_from name cs) k h in
    subst (λ (i : ℕ). IsKey name (c ∷ cs) i) found.gives (key_later name c cs found.at unnamed (later found.at found.is))

pub key_is : (name : List ℕ) (columns : List ColumnDef) (place : ℕ) → key_from name columns ≡ Some place → IsKey name columns place
key_is name [] k h = absurd (cc)
key_is name (c ∷ cs) k h = key_by name c cs k (is_named name c) refl (λ i found. key_is name cs i found) h

-- the key of a definition that is made
pub record IsKeyed (def : TableDef) : Type 0 where
  pub within : def.key < length def.columns
  pub kind : (column : ColumnDef) → slice_get def.columns def.key ≡ Some column → column.kind ≡ BigInt
  pub own_name : HasOwnKeyName def

same_name : (name : List ℕ) (a b : ColumnDef) → a.name ≡ b.name → is_named name b ≡ true → is_named name a ≡ true
same_name name a b same named = rw same named

keyed_by : (name : List ℕ) (columns : List ColumnDef) (place : ℕ) (key : List ℕ) → IsKey key columns place → IsKeyed (record { name = name; columns = columns; key = place })
keyed_by name columns place key found = record {
  within = found.within;
  kind = found.kind;
  own_name = λ j other column at there same. found.alone j other at (same_name key other column same (found.named column there));
}

pub def_keyed : (table : TableEntry) (def : TableDef) → def_of table ≡ Some def → IsKeyed def
unfolding def_of
def_keyed table def h =
    let named = there (defined table) (name_of table.name) def h in
    let read = there (keyed named.at table.key) (columns_of table) def named.gives in
    let placed = mapped (λ (place : ℕ). record { name = named.at; columns = read.at; key = place }) (key_place table.key read.at) def read.gives in
    let found = there numbered (key_from table.key read.at) placed.at placed.is in
    let same = chosen (nat_lt found.at (2 ^ 32)) (Some found.at) placed.at found.gives in
    let place : found.at ≡ placed.at = same_Some found.at placed.at same.1 in
    let key = subst (λ (i : ℕ). IsKey table.key read.at i) place (key_is table.key read.at found.at found.is) in
    subst IsKeyed placed.gives (keyed_by named.at read.at placed.at table.key key)

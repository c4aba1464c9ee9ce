-- What the rules of a file are for.
use Rattle.std.specs.Prelude.{◌≡◌, ◌↔◌, ◌≤◌, ℕ, true, List, ◌∷◌, ◌++◌, codes, Some, None}
use Rattle.std.specs.List.{IsDistinct}
use Rattle.std.specs.Str.Parse.{IsNumeral, digits_value}
use Rattle.sql_values.specs.Names.{IsName}
use Rattle.sql_values.specs.declared.table.ColumnDef.{ColumnDef}
use Rattle.sql_values.specs.declared.table.Kind.{Kind}
use Rattle.sql_values.specs.declared.table.Kind.TheVariants.{BigInt, VarChar}
use Rattle.conf_file.specs.Columns.{column_of}
use Rattle.conf_file.specs.Names.{all_free, first_taken}
use Rattle.conf_file.specs.Texts.{is_same, is_address}

-- no name of a space is taken exactly where no two of its names are equal
abbrev pub FreeNamesDiffer : Type 0
FreeNamesDiffer = (names : List (List ℕ)) → (first_taken all_free names ≡ None) ↔ IsDistinct is_same names

-- the text is decimal digits that write this number
abbrev pub Writes : List ℕ → ℕ → Type 0
Writes text number = IsNumeral 10 text × (digits_value 10 text ≡ number)

-- the text is a host, a colon, and a port
abbrev pub IsHostAndPort : List ℕ → Type 0
IsHostAndPort text = (host : List ℕ) × (digits : List ℕ) × (port : ℕ) × (text ≡ host ++ 58 ∷ digits) × Writes digits port × (port ≤ 65535)

-- an address is just such a text
abbrev pub AddressesHavePorts : Type 0
AddressesHavePorts = (text : List ℕ) → (is_address text ≡ true) ↔ IsHostAndPort text

-- the text is that of a type
abbrev pub IsKindText : List ℕ → Kind → Type 0
IsKindText text BigInt = text ≡ codes "BIGINT"
IsKindText text (VarChar most) = (digits : List ℕ) × (text ≡ codes "VARCHAR(" ++ (digits ++ codes ")")) × Writes digits most × (1 ≤ most) × (most ≤ 1024)

-- the text is that of a column: its name, a blank, and its type
abbrev pub IsColumnText : List ℕ → ColumnDef → Type 0
IsColumnText text column = (kind : List ℕ) × (text ≡ column.name ++ 32 ∷ kind) × IsName column.name × IsKindText kind column.kind

-- a text is read as a column just where it is that column's text
abbrev pub ColumnsAreSpelled : Type 0
ColumnsAreSpelled = (text : List ℕ) (column : ColumnDef) → (column_of text ≡ Some column) ↔ IsColumnText text column

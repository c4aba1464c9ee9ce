-- What is read of a file, and which rule a file breaks first.
use Rattle.std.specs.Prelude.{◌≡◌, ◌≤◌, ◌<◌, ◌^◌, ℕ, List, length, Option, Some, None, Result, Ok, Err, ◌⊎◌, IsUtf8}
use Rattle.std.specs.Option.{option_or, option_map}
use Rattle.toml.specs.Data.{Members}
use Rattle.toml.specs.Parse.{parse_document}
use Rattle.conf_file.specs.declared.entries.ConfFile.{ConfFile}
use Rattle.conf_file.specs.declared.fault.FileFault.{FileFault}
use Rattle.conf_file.specs.declared.fault.FileFault.TheVariants.{TooLarge, NotToml, MissingKey, UnknownKey, WrongType, BadName, BadStored, RepeatedName, TooMany, NoMemory}
use Rattle.conf_file.specs.Keys.{missing_key, unknown_key, wrong_type}
use Rattle.conf_file.specs.Entries.{file_of}
use Rattle.conf_file.specs.Names.{bad_name, repeated_name}
use Rattle.conf_file.specs.Counts.{too_many}

-- the first rule of keys that a tree breaks
abbrev pub keys_fault : Members → Option FileFault
keys_fault tree =
    option_or (option_map MissingKey (missing_key tree)) (option_or (option_map UnknownKey (unknown_key tree)) (option_map WrongType (wrong_type tree)))

-- the first rule of entries that a file breaks
abbrev pub entries_fault : ConfFile → Option FileFault
entries_fault file = option_or (bad_name file) (option_or (option_map RepeatedName (repeated_name file)) (option_map TooMany (too_many file)))

-- a check tells this fault, or that it found none; it may tell want of memory in its place
abbrev pub Tells : Option FileFault → Result (Unit {0}) FileFault → Type 0
Tells fault (Ok done) = fault ≡ None
Tells fault (Err told) = (told ≡ NoMemory) ⊎ (fault ≡ Some told)

-- the bytes are at most 2^20 of UTF-8, and write this tree in TOML
abbrev pub IsTree : List ℕ → Members → Type 0
IsTree bytes tree = (length bytes ≤ 2 ^ 20) × IsUtf8 bytes × (parse_document bytes ≡ Some tree)

-- the bytes write a tree of which this holds
abbrev pub OfTree : List ℕ → (Members → Type 0) → Type 0
OfTree bytes P = (tree : Members) × IsTree bytes tree × P tree

-- the bytes write a tree whose keys are right, and this holds of its entries
abbrev pub OfEntries : List ℕ → (ConfFile → Type 0) → Type 0
OfEntries bytes P =
    OfTree bytes (λ tree. (missing_key tree ≡ None) × (unknown_key tree ≡ None) × (wrong_type tree ≡ None) × P (file_of tree))

-- the file breaks no rule, and has these entries
abbrev pub IsRead : List ℕ → ConfFile → Type 0
IsRead bytes file =
    OfEntries bytes (λ entries. (bad_name entries ≡ None) × (repeated_name entries ≡ None) × (too_many entries ≡ None) × (file ≡ entries))

-- this is the rule that the file breaks first
abbrev pub IsFirstFault : List ℕ → FileFault → Type 0
IsFirstFault bytes TooLarge = 2 ^ 20 < length bytes
IsFirstFault bytes NotToml = (length bytes ≤ 2 ^ 20) × (IsUtf8 bytes → parse_document bytes ≡ None)
IsFirstFault bytes (MissingKey key) = OfTree bytes (λ tree. missing_key tree ≡ Some key)
IsFirstFault bytes (UnknownKey key) = OfTree bytes (λ tree. (missing_key tree ≡ None) × (unknown_key tree ≡ Some key))
IsFirstFault bytes (WrongType key) = OfTree bytes (λ tree. (missing_key tree ≡ None) × (unknown_key tree ≡ None) × (wrong_type tree ≡ Some key))
IsFirstFault bytes (BadName name) = OfEntries bytes (λ entries. bad_name entries ≡ Some (BadName name))
IsFirstFault bytes (BadStored user) = OfEntries bytes (λ entries. bad_name entries ≡ Some (BadStored user))
IsFirstFault bytes (RepeatedName name) = OfEntries bytes (λ entries. (bad_name entries ≡ None) × (repeated_name entries ≡ Some name))
IsFirstFault bytes (TooMany what) =
    OfEntries bytes (λ entries. (bad_name entries ≡ None) × (repeated_name entries ≡ None) × (too_many entries ≡ Some what))
IsFirstFault bytes NoMemory = Unit {0}

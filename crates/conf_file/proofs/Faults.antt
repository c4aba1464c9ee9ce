-- Which fault comes first.
use Rattle.std.proofs.Common.{◌↔◌, ◌≤◌, ◌<◌, ◌^◌, length, Result, Err, IfErr, arith, ◌≡◌, ℕ, List, [], ◌∷◌, Bool, true, false, Option, Some, None, not, ◌&&◌, codes, if◌then◌else◌, ◌⊎◌, inl, inr, refl, sym, ap, subst}
use Rattle.std.specs.Option.{option_or, option_map, unwrap_or}
use Rattle.toml.specs.Data.{Members}
use Rattle.conf_file.specs.declared.entries.ConfFile.{ConfFile}
use Rattle.conf_file.specs.declared.entries.UserEntry.{UserEntry}
use Rattle.conf_file.specs.declared.entries.HostEntry.{HostEntry}
use Rattle.conf_file.specs.declared.entries.TableEntry.{TableEntry}
use Rattle.conf_file.specs.declared.entries.PartEntry.{PartEntry}
use Rattle.conf_file.specs.declared.fault.FileFault.{FileFault}
use Rattle.conf_file.specs.declared.fault.FileFault.TheVariants.{TooLarge, NotToml, MissingKey, UnknownKey, WrongType, BadName, BadStored, RepeatedName, TooMany, NoMemory}
use Rattle.conf_file.specs.declared.fault.TooMany.{TooMany as Excess}
use Rattle.conf_file.specs.Counts.{too_many}
use Rattle.conf_file.specs.Entries.{file_of}
use Rattle.conf_file.specs.Files.{keys_fault, entries_fault, IsTree, IsRead, IsFirstFault}
use Rattle.conf_file.specs.Keys.{first_some, missing_key, unknown_key, wrong_type}
use Rattle.sql_values.specs.Names.{is_name}
use Rattle.conf_file.specs.Texts.{is_same, is_short_name, is_stored_form}
use Rattle.conf_file.specs.Names.{is_user, bad_name, repeated_name, unless_good, front_fault, user_fault, stored_fault, server_fault, monitor_fault, table_fault, part_fault, parts_fault}

some_same : (a b : FileFault) → Some a ≡ Some b → a ≡ b
some_same a b same = ap (λ o. unwrap_or o a) same

told_first : (bytes : List ℕ) (a b : FileFault) → Some a ≡ Some b → IsFirstFault bytes a → IsFirstFault bytes b
told_first bytes a b same first = subst (IsFirstFault bytes) (some_same a b same) first

of_keys : (bytes : List ℕ) (tree : Members) (m u w : Option (List ℕ)) (e : FileFault) → missing_key tree ≡ m → unknown_key tree ≡ u → wrong_type tree ≡ w → IsTree bytes tree →
    option_or (option_map MissingKey m) (option_or (option_map UnknownKey u) (option_map WrongType w)) ≡ Some e → IsFirstFault bytes e
of_keys bytes tree (Some key) u w e missing unknown wrong is told = told_first bytes (MissingKey key) e told (tree, is, missing)
of_keys bytes tree None (Some key) w e missing unknown wrong is told = told_first bytes (UnknownKey key) e told (tree, is, (missing, unknown))
of_keys bytes tree None None (Some key) e missing unknown wrong is told = told_first bytes (WrongType key) e told (tree, is, (missing, unknown, wrong))
of_keys bytes tree None None None e missing unknown wrong is told = cc

-- the fault of a tree's keys is the file's first
pub keys_told : (bytes : List ℕ) (tree : Members) (e : FileFault) → IsTree bytes tree → (e ≡ NoMemory) ⊎ (keys_fault tree ≡ Some e) → IsFirstFault bytes e
keys_told bytes tree e is (inl none) = subst (IsFirstFault bytes) (sym none) tt
keys_told bytes tree e is (inr told) = of_keys bytes tree _ _ _ e refl refl refl is told

nothing_left : (a b : Option FileFault) → option_or a b ≡ None → (a ≡ None) × (b ≡ None)
nothing_left None b none = (refl, none)
nothing_left (Some e) b none = cc

nothing_there : {A : Type 0} (f : A → FileFault) (o : Option A) → option_map f o ≡ None → o ≡ None
nothing_there f None none = refl
nothing_there f (Some a) none = cc

right_keys : (tree : Members) → keys_fault tree ≡ None → (missing_key tree ≡ None) × (unknown_key tree ≡ None) × (wrong_type tree ≡ None)
right_keys tree none =
    let (missing, more) = nothing_left _ _ none in
    let (unknown, wrong) = nothing_left _ _ more in
    (nothing_there MissingKey _ missing, nothing_there UnknownKey _ unknown, nothing_there WrongType _ wrong)

-- a fault of names is a bad name or a bad stored password
abbrev IsOfNames : Option FileFault → Type 0
IsOfNames None = Unit {0}
IsOfNames (Some (BadName name)) = Unit {0}
IsOfNames (Some (BadStored user)) = Unit {0}
IsOfNames (Some TooLarge) = ⊥
IsOfNames (Some NotToml) = ⊥
IsOfNames (Some (MissingKey key)) = ⊥
IsOfNames (Some (UnknownKey key)) = ⊥
IsOfNames (Some (WrongType key)) = ⊥
IsOfNames (Some (RepeatedName name)) = ⊥
IsOfNames (Some (TooMany what)) = ⊥
IsOfNames (Some NoMemory) = ⊥

either_of_names : (a b : Option FileFault) → IsOfNames a → IsOfNames b → IsOfNames (option_or a b)
either_of_names None b of_a of_b = of_b
either_of_names (Some e) b of_a of_b = of_a

first_of_names : {A : Type 0} (fault : A → Option FileFault) → ((x : A) → IsOfNames (fault x)) → (xs : List A) → IsOfNames (first_some fault xs)
first_of_names fault each [] = tt
first_of_names fault each (x ∷ xs) = either_of_names (fault x) (first_some fault xs) (each x) (first_of_names fault each xs)

good_of_names : (good : Bool) (name : List ℕ) → IsOfNames (unless_good good name)
good_of_names true name = tt
good_of_names false name = tt

stored_of_names : (good : Bool) (name : List ℕ) → IsOfNames (if good then None else Some (BadStored name))
stored_of_names true name = tt
stored_of_names false name = tt

user_of_names : (user : UserEntry) → IsOfNames (user_fault user)
user_of_names user =
    either_of_names (unless_good (is_name user.name) user.name) (stored_fault user) (good_of_names (is_name user.name) user.name)
    (stored_of_names (is_stored_form user.password) user.name)

front_of_names : (file : ConfFile) → IsOfNames (front_fault file)
front_of_names file =
    either_of_names (unless_good (is_short_name file.front.name) file.front.name) (unless_good (is_user file.users file.front.user) file.front.user)
    (good_of_names (is_short_name file.front.name) file.front.name) (good_of_names (is_user file.users file.front.user) file.front.user)

server_of_names : (server : HostEntry) → IsOfNames (server_fault server)
server_of_names server = good_of_names (is_short_name server.name && not (is_same server.name (codes "front"))) server.name

monitor_of_names : (monitor : HostEntry) → IsOfNames (monitor_fault monitor)
monitor_of_names monitor = good_of_names (is_short_name monitor.name) monitor.name

table_of_names : (table : TableEntry) → IsOfNames (table_fault table)
table_of_names table = good_of_names (is_name table.name) table.name

part_of_names : (part : PartEntry) → IsOfNames (part_fault part)
part_of_names part = good_of_names (is_name part.name) part.name

parts_of_names : (table : TableEntry) → IsOfNames (parts_fault table)
parts_of_names table = first_of_names part_fault part_of_names table.parts

bad_of_names : (file : ConfFile) → IsOfNames (bad_name file)
unfolding bad_name
bad_of_names file =
    let tables : Option FileFault = option_or (first_some table_fault file.tables) (first_some parts_fault file.tables) in
    let monitors : Option FileFault = option_or (first_some monitor_fault file.monitors) tables in
    let servers : Option FileFault = option_or (first_some server_fault file.servers) monitors in
    let users : Option FileFault = option_or (first_some user_fault file.users) servers in
    either_of_names (front_fault file) users (front_of_names file)
    (either_of_names (first_some user_fault file.users) servers (first_of_names user_fault user_of_names file.users)
    (either_of_names (first_some server_fault file.servers) monitors (first_of_names server_fault server_of_names file.servers)
    (either_of_names (first_some monitor_fault file.monitors) tables (first_of_names monitor_fault monitor_of_names file.monitors)
    (either_of_names (first_some table_fault file.tables) (first_some parts_fault file.tables) (first_of_names table_fault table_of_names file.tables)
    (first_of_names parts_fault parts_of_names file.tables)))))

module _ (bytes : List ℕ) (tree : Members) (is : IsTree bytes tree) (right : (missing_key tree ≡ None) × (unknown_key tree ≡ None) × (wrong_type tree ≡ None)) where
  bad_told : (fault : FileFault) → bad_name (file_of tree) ≡ Some fault → IsOfNames (Some fault) → IsFirstFault bytes fault
  bad_told (BadName name) told of_names = (tree, is, (right.0, right.1, right.2, told))
  bad_told (BadStored user) told of_names = (tree, is, (right.0, right.1, right.2, told))
  bad_told TooLarge told of_names = absurd of_names
  bad_told NotToml told of_names = absurd of_names
  bad_told (MissingKey key) told of_names = absurd of_names
  bad_told (UnknownKey key) told of_names = absurd of_names
  bad_told (WrongType key) told of_names = absurd of_names
  bad_told (RepeatedName name) told of_names = absurd of_names
  bad_told (TooMany what) told of_names = absurd of_names
  bad_told NoMemory told of_names = absurd of_names

  of_entries : (b : Option FileFault) (r : Option (List ℕ)) (t : Option Excess) (e : FileFault) → bad_name (file_of tree) ≡ b → repeated_name (file_of tree) ≡ r → too_many (file_of tree) ≡ t →
      option_or b (option_or (option_map RepeatedName r) (option_map TooMany t)) ≡ Some e → IsFirstFault bytes e
  of_entries (Some fault) r t e bad repeated many told = told_first bytes fault e told (bad_told fault bad (subst IsOfNames bad (bad_of_names (file_of tree))))
  of_entries None (Some name) t e bad repeated many told = told_first bytes (RepeatedName name) e told (tree, is, (right.0, right.1, right.2, (bad, repeated)))
  of_entries None None (Some what) e bad repeated many told = told_first bytes (TooMany what) e told (tree, is, (right.0, right.1, right.2, (bad, repeated, many)))
  of_entries None None None e bad repeated many told = cc

-- the fault of the entries of a tree whose keys are right is the file's first
pub entries_told : (bytes : List ℕ) (tree : Members) (e : FileFault) → IsTree bytes tree → keys_fault tree ≡ None → (e ≡ NoMemory) ⊎ (entries_fault (file_of tree) ≡ Some e) → IsFirstFault bytes e
entries_told bytes tree e is right (inl none) = subst (IsFirstFault bytes) (sym none) tt
entries_told bytes tree e is right (inr told) = of_entries bytes tree is (right_keys tree right) _ _ _ e refl refl refl told

-- a file that breaks no rule is read
pub read_right : (bytes : List ℕ) (tree : Members) (file : ConfFile) → IsTree bytes tree → keys_fault tree ≡ None → file ≡ file_of tree → entries_fault (file_of tree) ≡ None → IsRead bytes file
read_right bytes tree file is right same none =
    let (missing, unknown, wrong) = right_keys tree right in
    let (bad, more) = nothing_left _ _ none in
    let (repeated, many) = nothing_left _ _ more in
    (tree, is, (missing, unknown, wrong, (bad, nothing_there RepeatedName _ repeated, nothing_there TooMany _ many, same)))

-- no file that isn't too large is told to be so
pub large_told : (bytes : List ℕ) (r : Result ConfFile FileFault) → length bytes ≤ 2 ^ 20 → IfErr r (IsFirstFault bytes) → (r ≡ Err TooLarge) ↔ (2 ^ 20 < length bytes)
large_told bytes r small told = (λ is. subst (λ t. IfErr t (IsFirstFault bytes)) is told, λ large. absurd (omega arith))

-- A file that is read has few entries.
use Rattle.std.proofs.Common.{◌≡◌, ℕ, ◌≤◌, ◌<◌, ◌^◌, Bool, true, false, cond, nat_lt, List, Option, Some, None, length, arith, sym, refl, subst}
use Rattle.std.proofs.lemmas.Bool.Decides.{nat_tests}
use Rattle.conf_file.specs.declared.entries.ConfFile.{ConfFile}
use Rattle.conf_file.specs.declared.fault.TooMany.TheVariants.{Servers, Monitors, Tables}
use Rattle.conf_file.specs.Counts.{too_many}
use Rattle.conf_file.specs.Entries.{file_of}
use Rattle.conf_file.specs.Files.{IsRead}

passed : {X : Type 0} (b : Bool) (x : X) (o : Option X) → cond b (Some x) o ≡ None → (b ≡ false) × (o ≡ None)
passed true x o h = absurd (cc)
passed false x o h = (refl, h)

few : (n : ℕ) → nat_lt 64 n ≡ false → n < 2 ^ 32
few n h = let small : n ≤ 64 = grind (arith, nat_tests) in omega arith

few_servers : (n : ℕ) → nat_lt 16 n ≡ false → n < 2 ^ 32
few_servers n h = let small : n ≤ 16 = grind (arith, nat_tests) in omega arith

pub record Few (file : ConfFile) : Type 0 where
  pub servers : length file.servers < 2 ^ 32
  pub tables : length file.tables < 2 ^ 32

counted : (file : ConfFile) → too_many file ≡ None → Few file
counted file h =
    let servers = passed (nat_lt 16 (length file.servers)) Servers _ h in
    let monitors = passed (nat_lt 9 (length file.monitors)) Monitors _ servers.1 in
    let tables = passed (nat_lt 64 (length file.tables)) Tables _ monitors.1 in
    record { servers = few_servers (length file.servers) servers.0; tables = few (length file.tables) tables.0 }

pub read_few : (bytes : List ℕ) (file : ConfFile) → IsRead bytes file → Few file
read_few bytes file read = subst Few (sym read.2.3.3) (counted (file_of read.0) read.2.3.2)

-- Addresses end with a colon and a port.
use Rattle.std.proofs.Common.{◌≡◌, ◌≤◌, ℕ, Bool, true, false, ◌&&◌, ◌||◌, ◌==◌, if◌then◌else◌, is_some, List, [], ◌∷◌, ◌++◌, length, nat_lt, nat_le, Option, Some, None, inl, inr, refl, ap, arith}
use Rattle.std.proofs.lemmas.Bool.{cases_Bool, and_parts, ltb-true, leb-true, eqb-true}
use Rattle.std.proofs.lemmas.Bool.Decides.{nat_tests}
use Rattle.std.specs.Char.{is_ascii_digit}
use Rattle.std.specs.List.{list_all}
use Rattle.std.specs.Option.{unwrap_or}
use Rattle.std.specs.Str.Parse.{digits_value}
use Rattle.conf_file.specs.Laws.{AddressesHavePorts, IsHostAndPort, Writes}
use Rattle.conf_file.specs.Texts.{is_address, is_port, number_within}
use Rattle.conf_file.proofs.Numbers.{digits}

picked : (a b c d : Bool) (v n : ℕ) → (if (a && b) && (c && d) then Some v else None) ≡ Some n → (a ≡ true) × (b ≡ true) × (c ≡ true) × (d ≡ true) × (v ≡ n)
picked true true true true v n is = (refl, refl, refl, refl, ap (λ o. unwrap_or o v) is)
picked true true true false v n is = cc
picked true true false d v n is = cc
picked true false c d v n is = cc
picked false b c d v n is = cc

-- a number within bounds is what digits write
pub written_within : (low high number : ℕ) (text : List ℕ) → number_within low high text ≡ Some number → Writes text number × (low ≤ number) × (number ≤ high)
written_within low high number text is =
    let (some, all, above, below, same) = picked (nat_lt 0 (length text)) (list_all is_ascii_digit text) (nat_le low (digits_value 10 text)) (nat_le (digits_value 10 text) high) (digits_value 10 text) number is in
    (((ltb-true 0 (length text) some, digits.to text all), same), rw (← same) (leb-true low (digits_value 10 text) above), rw (← same) (leb-true (digits_value 10 text) high below))

-- what digits write is a number within bounds, where it lies there
pub within_written : (low high number : ℕ) (text : List ℕ) → Writes text number → low ≤ number → number ≤ high → number_within low high text ≡ Some number
within_written low high number text ((some, all), same) above below =
    let all_digits : list_all is_ascii_digit text ≡ true = digits.from text all in rw (all_digits, same) (grind (arith, nat_tests))

some_number : (o : Option ℕ) → is_some o ≡ true → (n : ℕ) × (o ≡ Some n)
some_number None some = cc
some_number (Some n) some = (n, refl)

or_true : (a b : Bool) → b ≡ true → (a || b) ≡ true
or_true true b is = refl
or_true false b is = is

or_parts : (a b : Bool) → (a || b) ≡ true → a ≡ false → b ≡ true
or_parts true b is none = cc
or_parts false b is none = is

host_and_port : (text : List ℕ) → is_address text ≡ true → IsHostAndPort text
host_and_port [] is = cc
host_and_port (b ∷ bytes) is =
    elim (cases_Bool (b == 58 && is_port bytes)) [
      | inl here ↦
          let (colon, port) = and_parts (b == 58) (is_port bytes) here in
          let (number, within) = some_number (number_within 0 65535 bytes) port in
          let (writes, above, below) = written_within 0 65535 number bytes within in
          ([], bytes, number, ap (λ c. c ∷ bytes) (eqb-true b 58 colon), writes, below)
      | inr further ↦
          let (host, port, number, same, writes, below) = host_and_port bytes (or_parts (b == 58 && is_port bytes) (is_address bytes) is further) in
          (b ∷ host, port, number, ap (λ t. b ∷ t) same, writes, below)
    ]

address_of : (host port : List ℕ) → is_port port ≡ true → is_address (host ++ 58 ∷ port) ≡ true
address_of [] port is = ap (λ b. b || is_address port) is
address_of (b ∷ host) port is = or_true (b == 58 && is_port (host ++ 58 ∷ port)) (is_address (host ++ 58 ∷ port)) (address_of host port is)

address_with : (text : List ℕ) → IsHostAndPort text → is_address text ≡ true
address_with text (host, port, number, same, writes, below) =
    rw same (address_of host port (ap is_some (within_written 0 65535 number port writes (omega arith) below)))

pub addresses_have_ports : AddressesHavePorts
addresses_have_ports text = (host_and_port text, address_with text)

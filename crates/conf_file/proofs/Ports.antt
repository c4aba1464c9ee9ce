-- The port is what stands after the last colon.
use Rattle.std.proofs.Common.{◌≡◌, ◌≢◌, ℕ, suc, ◌<◌, if◌then◌else◌, Some, None, is_some, Bool, true, false, ◌==◌, ◌&&◌, ◌||◌, List, [], ◌∷◌, ◌++◌, length, length-append, get_or, take, sym, refl, ap, ◌∙◌, arith}
use Rattle.std.proofs.lemmas.Bool.Decides.{nat_tests}
use Rattle.std.proofs.lemmas.List.{take-append-drop}
use Rattle.std.proofs.lemmas.List.Folds.{list_all_at}
use Rattle.std.proofs.lemmas.Str.Pattern.{NoCharPasses-char, drop_at_char}
use Rattle.std.proofs.Math.Seq.{get_or-append_seam}
use Rattle.std.specs.Char.{is_ascii_digit}
use Rattle.std.specs.Str.{NoCharPasses}
use Rattle.std.specs.Str.Pattern.{RFindsChar, SplitsAroundMatch}
use Rattle.conf_file.specs.Texts.{is_port, is_address}

abbrev HasNoColon : List ℕ → Type 0
HasNoColon bytes = (i : ℕ) → i < length bytes → get_or bytes i 0 ≢ 58

false_or : (a b : Bool) → ((a && false) || b) ≡ b
false_or true b = refl
false_or false b = refl

or_false : (a : Bool) → (a || false) ≡ a
or_false true = refl
or_false false = refl

no_number : (a b c : Bool) (v : ℕ) → b ≡ false → is_some (if (a && b) && c then Some v else None) ≡ false
no_number true b c v e = rw e
no_number false b c v e = refl

colon_is_no_digit : (bytes : List ℕ) (i : ℕ) → i < length bytes → get_or bytes i 0 ≡ 58 → is_port bytes ≡ false
colon_is_no_digit bytes i lt is =
    let no_digit : is_ascii_digit (get_or bytes i 0) ≡ false = rw is in no_number _ _ _ _ (list_all_at is_ascii_digit bytes i 0 lt no_digit)

no_address_at : (b : ℕ) (port rest : Bool) → b ≢ 58 → rest ≡ false → ((b == 58 && port) || rest) ≡ false
no_address_at b port rest other none = grind (arith, nat_tests)

no_address : (bytes : List ℕ) → HasNoColon bytes → is_address bytes ≡ false
no_address [] none = refl
no_address (b ∷ bytes) none = no_address_at b _ _ (none 0 (omega arith)) (no_address bytes (λ i lt. none (suc i) (omega arith)))

at_last_colon : (host port : List ℕ) → HasNoColon port → is_address (host ++ 58 ∷ port) ≡ is_port port
at_last_colon [] port none = rw (no_address port none) (or_false (is_port port))
at_last_colon (b ∷ host) port none =
    let inside : is_port (host ++ 58 ∷ port) ≡ false =
    colon_is_no_digit (host ++ 58 ∷ port) (length host) (rw length-append (omega arith)) (get_or-append_seam host 58 port 0) in
    rw (inside, false_or) (at_last_colon host port none)

-- the text ends with a port where what stands after its last colon is one
pub port_found : (text host port : List ℕ) → SplitsAroundMatch (RFindsChar 58) text host port → is_port port ≡ is_address text
port_found text host port (i, j, (none, at), front, back, below, front_size, back_size) =
    let none_after : HasNoColon port = λ k lt. NoCharPasses-char 58 port k (rw back none) (omega arith) lt in
    let cut : text ≡ take i text ++ 58 ∷ port = sym (take-append-drop i text) ∙ ap (λ t. take i text ++ t) (drop_at_char 58 text i j at (omega arith) ∙ rw back refl) in
    sym (rw cut (at_last_colon (take i text) port none_after))

-- no text without a colon ends with a port
pub no_port_found : (text : List ℕ) → NoCharPasses (λ d. d == 58) text → false ≡ is_address text
no_port_found text none = sym (no_address text (λ k lt. NoCharPasses-char 58 text k none (omega arith) lt))

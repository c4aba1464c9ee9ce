-- Protocol::Packet: the payload's length in three bytes, the lowest first, the packet's number, and the payload.
use Rattle.std.specs.Prelude.{◌≡◌, ◌≢◌, ℕ, ◌+◌, ◌^◌, ◌%◌, ◌<◌, ◌≤◌, List, [], ◌∷◌, ◌++◌, length, take, drop, slice_index, Option, Some, None, Result, Ok, Err, nat_lt, ◌==◌, if◌then◌else◌}
use Rattle.byteorder.specs.Endian.{little_number, little_bytes}
use Rattle.my_wire.specs.Grammar.{IsBytes}
use Rattle.my_wire.specs.declared.packet.Packet.{Packet}
use Rattle.my_wire.specs.declared.packet.WireFault.{WireFault}
use Rattle.my_wire.specs.declared.packet.WireFault.TheVariants.{TooLarge, OutOfOrder, NoMemory}

-- the most bytes of a payload
abbrev pub most : ℕ
most = 1048576

-- the number after a packet's
abbrev pub next : ℕ → ℕ
next seq = (seq + 1) % 2 ^ 8

-- a packet's bytes
abbrev pub packet : ℕ → List ℕ → List ℕ
packet seq payload = little_bytes 3 (length payload) ++ seq ∷ payload

-- packets with these payloads, numbered from that number on
abbrev pub packets : ℕ → List (List ℕ) → List ℕ
packets seq [] = []
packets seq (payload ∷ payloads) = packet seq payload ++ packets (next seq) payloads

-- the number after so many packets
abbrev pub next_after : ℕ → List (List ℕ) → ℕ
next_after seq [] = seq
next_after seq (payload ∷ payloads) = next_after (next seq) payloads

-- what stands at the front of a stream: less than a packet, a packet's payload and the bytes after it, or a header that is refused
pub data Found : Type 0 where
  Wanting : Found
  Whole : List ℕ → List ℕ → Found
  Refused : WireFault → Found

-- what a header of that length and number, with these bytes after it, begins
abbrev pub headed : ℕ → ℕ → ℕ → List ℕ → Found
headed expected n seq bytes =
    if nat_lt most n then Refused (TooLarge n)
    else if seq == expected then (if nat_lt (length bytes) n then Wanting else Whole (take n bytes) (drop n bytes))
    else Refused (OutOfOrder expected seq)

-- what stands at the front of these bytes, where a packet of that number is expected
abbrev pub first_packet : ℕ → List ℕ → Found
first_packet expected bytes = if nat_lt (length bytes) 4 then Wanting else headed expected (little_number 3 bytes) (slice_index bytes 3) (drop 4 bytes)

-- a reader of packets: the bytes not given yet, the number that the next packet is to have, and the refusal that it answers for good
pub record Stream : Type 0 where
  pub held : List ℕ
  pub expected : ℕ
  pub refused : Option WireFault

-- what a reader finds: its refusal, if there is one, else what stands at the front of its bytes
abbrev pub found_by : Option WireFault → ℕ → List ℕ → Found
found_by None expected bytes = first_packet expected bytes
found_by (Some fault) expected bytes = Refused fault

abbrev pub found : Stream → Found
found s = found_by s.refused s.expected s.held

-- a reader with these bytes in place of its own
abbrev pub with_held : Stream → List ℕ → Stream
with_held s bytes = record { held = bytes; expected = s.expected; refused = s.refused }

-- a reader after it gave a packet
abbrev pub given : Stream → List ℕ → Stream
given s rest = record { held = rest; expected = next s.expected; refused = s.refused }

-- a reader that answers this refusal for good
abbrev pub refusing : Stream → WireFault → Stream
refusing s fault = record { held = s.held; expected = s.expected; refused = Some fault }

-- the number that is expected from now on: after a refusal the old one
abbrev pub number_from : Option WireFault → ℕ → ℕ → ℕ
number_from None old new = new
number_from (Some fault) old new = old

-- a reader of which that number is expected from now on
abbrev pub restarted : Stream → ℕ → Stream
restarted s expected = record { held = s.held; expected = number_from s.refused s.expected expected; refused = s.refused }

-- a reader after that answer: a packet's bytes are given, a refusal is kept for good, and nothing else changes
abbrev pub after : Stream → Result (Option Packet) WireFault → Stream
after s (Ok None) = s
after s (Ok (Some p)) = given s (drop (length p.payload + 4) s.held)
after s (Err (TooLarge n)) = refusing s (TooLarge n)
after s (Err (OutOfOrder expected seq)) = refusing s (OutOfOrder expected seq)
after s (Err NoMemory) = s

-- a header that is refused: by its length, else by its number
abbrev pub IsRefused : ℕ → List ℕ → WireFault → Type 0
IsRefused expected bytes (TooLarge n) = (seq : ℕ) × (more : List ℕ) × (bytes ≡ little_bytes 3 n ++ seq ∷ more) × (most < n) × (n < 2 ^ 24)
IsRefused expected bytes (OutOfOrder wanted seq) = (n : ℕ) × (more : List ℕ) × (bytes ≡ little_bytes 3 n ++ seq ∷ more) × (n ≤ most) × (wanted ≡ expected) × (seq ≢ expected)
IsRefused expected bytes NoMemory = ⊥

-- payloads that fit a packet
abbrev pub AllFit : List (List ℕ) → Type 0
AllFit [] = Unit {0}
AllFit (payload ∷ payloads) = (length payload ≤ most) × AllFit payloads

-- a reader that expected that number of its first packet was fed this stream of bytes and has given these payloads
pub record HasGiven (first : ℕ) (stream : List ℕ) (payloads : List (List ℕ)) (s : Stream) : Type 0 where
  pub are_bytes : IsBytes stream
  pub whole : stream ≡ packets first payloads ++ s.held
  pub number : s.expected ≡ next_after first payloads
  pub fit : AllFit payloads

-- a stream is packets with these payloads, and then bytes at whose front none stands
pub record Splits (first : ℕ) (stream : List ℕ) (payloads : List (List ℕ)) (rest : List ℕ) : Type 0 where
  pub whole : stream ≡ packets first payloads ++ rest
  pub fit : AllFit payloads
  pub ends : (payload more : List ℕ) → first_packet (next_after first payloads) rest ≡ Whole payload more → ⊥

-- What is put together from bytes is bytes. Assumes nothing.
use Rattle.std.specs.Prelude.{Option, Some, None}
use Prim.Native.Nat.{ℕ, zero, suc, ◌+◌, ◌-◌, ◌/◌, ◌<◌}
use mathlib.Core.List.{List, [], ◌∷◌, ◌++◌}
use native.Mathlib.Omega.{arith}
use lib.ListN.{length, set}
use Rattle.octets.specs.Be.{bytes}
use Rattle.octets.specs.Bytes.{Bytes}
use Rattle.octets.specs.Laid.{laid}
use Rattle.ft_number.specs.declared.FtNumber.{FtNumber}
use Rattle.ft_number.specs.declared.MessageId.{MessageId}
use Rattle.ft_number.specs.declared.Timeout.{Timeout}
use Rattle.tlv.specs.Tlv.{parameters_type, session_type, protection_type, ack_type}
use Rattle.message.specs.Reading.{initialization_type, keepalive_type}
use Rattle.message_writer.specs.declared.OwnParameters.{OwnParameters}
use Rattle.message_writer.specs.Forms.{tlv_bytes, message_bytes, ack_tlv, parameters_tlv, mode_byte, unknown_bit, init_bytes, keepalive_bytes, raised_to, raised, ft_tlvs, protected_bytes, session_tlv, reconnect_flag, save_flag}

pub record Octets (s : List ℕ) : Type 0 where
  pub each : Bytes s

none : Octets []
none = record { each = λ i. omega arith }

one : {x : ℕ} → x < 256 → Octets (x ∷ [])
one {x} l = record { each = at }
  where
    at : Bytes (x ∷ [])
    at zero = l
    at (suc i) = omega arith

pub append_each : (s t : List ℕ) → Bytes s → Bytes t → Bytes (s ++ t)
append_each [] t bs bt i = bt i
append_each (x ∷ s) t bs bt zero = bs 0
append_each (x ∷ s) t bs bt (suc i) = append_each s t (λ j. bs (suc j)) bt i

joins : {s t : List ℕ} → Octets s → Octets t → Octets (s ++ t)
joins {s} {t} a b = record { each = append_each s t a.each b.each }

set_each : (s : List ℕ) (at x : ℕ) → Bytes s → x < 256 → Bytes (set s at x)
set_each [] at x bs l i = omega arith
set_each (y ∷ s) zero x bs l zero = l
set_each (y ∷ s) zero x bs l (suc i) = bs (suc i)
set_each (y ∷ s) (suc at) x bs l zero = bs 0
set_each (y ∷ s) (suc at) x bs l (suc i) = set_each s at x (λ j. bs (suc j)) l i

pub laid_each : (s : List ℕ) (at : ℕ) (p : List ℕ) → Bytes s → Bytes p → Bytes (laid s at p)
unfolding laid
laid_each s at [] bs bp = bs
laid_each s at (x ∷ p) bs bp = laid_each (set s at x) (suc at) p (set_each s at x bs (bp 0)) (λ j. bp (suc j))

pub number_octets : (w v : ℕ) → Octets (bytes w v)
number_octets zero v = none
number_octets (suc w) v = joins (number_octets w (v / 256)) (one (omega arith))

-- ---- the messages that we write
tlv_octets : (number : ℕ) {value : List ℕ} → Octets value → Octets (tlv_bytes number value)
tlv_octets number {value} a = joins (number_octets 2 number) (joins (number_octets 2 (length value)) a)

ack_octets : (ack : Option FtNumber) → Octets (ack_tlv ack)
ack_octets None = none
ack_octets (Some a) = tlv_octets ack_type (number_octets 4 a.0)

message_octets : (number : ℕ) (id : MessageId) {tlvs : List ℕ} → Octets tlvs → Octets (message_bytes number id tlvs)
message_octets number id {tlvs} a = joins (joins (number_octets 2 number) (joins (number_octets 2 (4 + length tlvs)) (number_octets 4 id.0))) a

parameters_octets : (p : OwnParameters) → Octets (parameters_tlv p)
parameters_octets p =
    joins (number_octets 2 parameters_type) (joins (number_octets 2 14) (joins (number_octets 2 1) (joins (number_octets 2 p.keepalive)
    (joins (number_octets 1 (mode_byte p.ondemand)) (joins (number_octets 1 0) (joins (number_octets 2 p.pdulength) (joins (number_octets 4 p.lsr) (number_octets 2 p.space))))))))

session_octets : (ack : Option FtNumber) (said : Timeout) → Octets (session_tlv ack said)
session_octets ack (Timeout.Seconds n) = tlv_octets (unknown_bit + session_type) (joins (number_octets 2 (reconnect_flag ack)) (number_octets 2 n))
session_octets ack (Timeout.Milliseconds n) =
    tlv_octets (unknown_bit + session_type)
    (joins (number_octets 2 (reconnect_flag ack + save_flag)) (joins (number_octets 2 0) (joins (number_octets 4 n) (number_octets 4 0))))

pub init_octets : (id : MessageId) (p : OwnParameters) (said : Timeout) (ack : Option FtNumber) → Octets (init_bytes id p said ack)
init_octets id p said ack =
    message_octets initialization_type id (joins (parameters_octets p) (joins (session_octets ack said) (ack_octets ack)))

pub alive_octets : (id : MessageId) (ack : Option FtNumber) → Octets (keepalive_bytes id ack)
alive_octets id ack = message_octets keepalive_type id (ack_octets ack)

pub protected_octets : (m : List ℕ) (n : FtNumber) (ack : Option FtNumber) → Octets m → Octets (protected_bytes m n ack)
unfolding raised
protected_octets m n ack a =
    let size : ℕ = length m + length (ft_tlvs n ack) - 4 in
    let head : Octets (raised_to m size) = record { each = laid_each m 2 (bytes 2 size) a.each (number_octets 2 size).each } in
    joins head (joins (tlv_octets protection_type (number_octets 4 n.0)) (ack_octets ack))

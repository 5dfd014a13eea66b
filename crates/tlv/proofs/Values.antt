-- What a TLV's place says: its part lies within the message, its label is one, its numbers have their widths. Assumes nothing.
use Rattle.std.specs.Prelude.{Option, Some, None, unwrap_or}
use Prim.Native.Nat.{ℕ, zero, suc, ◌+◌, ◌-◌, ◌*◌, ◌/◌, ◌^◌, ◌≤◌, ◌<◌}
use mathlib.Core.Bool.{Bool, true, false}
use mathlib.Core.List.{List, [], ◌∷◌}
use mathlib.Core.Path.{◌≡◌, refl, ap}
use native.Mathlib.Omega.{arith}
use lib.Dec.{eqb}
use lib.ListN.{length, drop, take}
use borrow.Author.Tests.{eqb-false}
use Rattle.octets.specs.Be.{be_at}
use Rattle.octets.specs.Bytes.{Bytes}
use Rattle.octets.specs.Part.{part}
use Rattle.octets.specs.Pick.{pick}
use Rattle.octets.proofs.Be.{be_at-lt}
use Rattle.octets.proofs.Bytes.{be_at-drop}
use Rattle.octets.proofs.Choice.{by_test, cleared, pick_all}
use Rattle.ft_number.specs.declared.FtNumber.{FtNumber}
use Rattle.ft_number.specs.declared.MessageId.{MessageId}
use Rattle.ft_number.specs.declared.Timeout.{Timeout}
use Rattle.ft_number.specs.Timeout.{TimeoutFits}
use Rattle.tlv.specs.declared.Fec.{Fec}
use Rattle.tlv.specs.declared.Parameters.{Parameters}
use Rattle.tlv.specs.declared.Part.{Part}
use Rattle.tlv.specs.declared.Session.{Session}
use Rattle.tlv.specs.declared.walk.Tlv.{Tlv}
use Rattle.tlv.specs.Element.{prefix_length, is_wildcard, is_prefix, masked_to, prefix_of, fec_of, entry_of, entry_by}
use Rattle.tlv.specs.Tlv.{published_length, largest_label}
use Rattle.tlv.specs.Value.{Within, fec_at, part_at, field_at, number_at, id_at, parameters_at, top_bit, timeout_at, session_at}
use Rattle.tlv.proofs.Elements.{masked_le, prefix_length_lem}
use Rattle.tlv.proofs.Places.{Lies}

-- the value's part lies within the message
pub record InMessage (m : List ℕ) (part : Part) : Type 0 where
  pub starts : part.start ≤ part.end
  pub ends : part.end ≤ length m

pub part_in : (m : List ℕ) (place : ℕ) → Within m place (be_at 2 m (place + 2)) → InMessage m (part_at m place)
unfolding part_at
part_in m place within = go (eqb place 0) refl
  where
    go : (b : Bool) → eqb place 0 ≡ b → InMessage m (pick b (record { start = 0; end = 0 }) (record { start = place + 4; end = place + 4 + be_at 2 m (place + 2) }))
    go true q = record { starts = omega arith; ends = omega arith }
    go false q = record { starts = omega arith; ends = within (eqb-false place 0 q) }

-- a label that was found is no higher than the largest
pub field_low : (m : List ℕ) (place l : ℕ) → Lies m Tlv.Label place → field_at m place ≡ Some l → l ≤ largest_label
unfolding field_at
field_low m place l lies e =
    let p = cleared (eqb place 0) None (Some (be_at 4 m (place + 4))) (Some l) (λ z. cc) e in
    let value : be_at 4 m (place + 4) ≡ l = cc p.1 in
    let low : be_at 4 (drop place m) 4 ≤ largest_label = (lies (eqb-false place 0 p.0)).low in
    omega (arith, be_at-drop 4 place m 4)

-- ---- the widths of the numbers in a message of bytes
module _ (m : List ℕ) (byte : Bytes m) (place : ℕ) where
  pub number_width : (a : FtNumber) → number_at m place ≡ Some a → a.0 < 4294967296
  unfolding number_at
  number_width a e =
      let p = cleared (eqb place 0) None (Some (record { 0 = be_at 4 m (place + 4) })) (Some a) (λ z. cc) e in
      let n : be_at 4 m (place + 4) ≡ a.0 = cc p.1 in
      rw (← n) (be_at-lt 4 m (place + 4) byte)

  pub id_width : (n : ℕ) (id : MessageId) → id_at m place n ≡ Some id → id.0 < 4294967296
  unfolding id_at
  id_width n id e =
      let p = cleared (eqb place 0) None (Some (record { 0 = be_at 4 m (place + 4 + n) })) (Some id) (λ z. cc) e in
      let k : be_at 4 m (place + 4 + n) ≡ id.0 = cc p.1 in
      rw (← k) (be_at-lt 4 m (place + 4 + n) byte)

  pub parameters_width : (ka mp : ℕ) → parameters_at m place ≡ Some (record { keepalive = ka; pdulength = mp }) → (ka < 65536) × (mp < 65536)
  unfolding parameters_at
  parameters_width ka mp e =
      let p = cleared (eqb place 0) None (Some (record { keepalive = be_at 2 m (place + 6); pdulength = be_at 2 m (place + 10) })) (Some (record { keepalive = ka; pdulength = mp })) (λ z. cc) e in
      let said : Parameters = record { keepalive = ka; pdulength = mp } in
      let k : be_at 2 m (place + 6) ≡ ka = ap (λ (x : Option Parameters). (unwrap_or x said).keepalive) p.1 in
      let n : be_at 2 m (place + 10) ≡ mp = ap (λ (x : Option Parameters). (unwrap_or x said).pdulength) p.1 in
      (rw (← k) (be_at-lt 2 m (place + 6) byte), rw (← n) (be_at-lt 2 m (place + 10) byte))

  timeout_width : TimeoutFits (timeout_at m place)
  timeout_width =
      pick_all TimeoutFits (eqb (be_at 2 m (place + 2)) published_length) {x = Timeout.Milliseconds (be_at 4 m (place + 8))} {y = Timeout.Seconds (be_at 2 m (place + 6))}
      (be_at-lt 4 m (place + 8) byte) (be_at-lt 2 m (place + 6) byte)

  pub session_width : (r : Bool) (t : Timeout) → session_at m place ≡ Some (record { reconnect = r; timeout = t }) → TimeoutFits t
  unfolding session_at
  session_width r t e =
      let p = cleared (eqb place 0) None (Some (record { reconnect = top_bit (be_at 4 m (place + 4)); timeout = timeout_at m place })) (Some (record { reconnect = r; timeout = t })) (λ z. cc) e in
      let k : timeout_at m place ≡ t = ap (λ (x : Option Session). (unwrap_or x (record { reconnect = r; timeout = t })).timeout) p.1 in
      rw (← k) timeout_width

-- ---- the entry of a FEC has 64 bits
bytes_drop : (n : ℕ) (s : List ℕ) → Bytes s → Bytes (drop n s)
bytes_drop zero s byte i = byte i
bytes_drop (suc n) [] byte i = byte i
bytes_drop (suc n) (x ∷ xs) byte i = bytes_drop n xs (λ j. byte (suc j)) i

bytes_take : (n : ℕ) (s : List ℕ) → Bytes s → Bytes (take n s)
bytes_take zero s byte i = omega arith
bytes_take (suc n) [] byte i = byte i
bytes_take (suc n) (x ∷ xs) byte zero = byte 0
bytes_take (suc n) (x ∷ xs) byte (suc i) = bytes_take n xs (λ j. byte (suc j)) i

prefix_width : (value : List ℕ) → Bytes value → is_prefix value ≡ true → entry_of (prefix_of value) < 18446744073709551616
unfolding masked_to
prefix_width value byte e =
    let n : prefix_length value ≤ 32 = prefix_length_lem value e in
    let v : be_at 4 value 4 < 4294967296 = be_at-lt 4 value 4 byte in
    let b : be_at 4 value 4 / 2 ^ (32 - prefix_length value) * 2 ^ (32 - prefix_length value) ≤ be_at 4 value 4 = masked_le (32 - prefix_length value) (be_at 4 value 4) in
    omega (arith, n, v, b)

fec_width : (value : List ℕ) → Bytes value → entry_by (Some (fec_of value)) < 18446744073709551616
unfolding fec_of
fec_width value byte =
    by_test (is_wildcard value) (λ w. rw w (omega arith)) (λ w. rw w
    (by_test (is_prefix value) (λ p. rw p (prefix_width value byte p)) (λ p. rw p (omega arith))))

pub entry_width : (m : List ℕ) → Bytes m → (place : ℕ) → entry_by (fec_at m place) < 18446744073709551616
unfolding fec_at
entry_width m byte place =
    pick_all (λ (f : Option Fec). entry_by f < 18446744073709551616) (eqb place 0) (omega arith)
    (fec_width (part m (place + 4) (place + 4 + be_at 2 m (place + 2)))
    (bytes_take (place + 4 + be_at 2 m (place + 2) - (place + 4)) (drop (place + 4) m) (bytes_drop (place + 4) m byte)))

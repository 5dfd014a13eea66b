-- The entry of a FEC is right: it is masked once, and masked again it is the same. Assumes nothing.
use Rattle.std.specs.Prelude.{Option, Some}
use Prim.Native.Nat.{ℕ, ◌+◌, ◌-◌, ◌*◌, ◌/◌, ◌%◌, ◌^◌, ◌≤◌, ◌<◌}
use mathlib.Core.Bool.{true}
use mathlib.Core.List.{List}
use mathlib.Core.Logic.{⊎_elim}
use mathlib.Core.Path.{◌≡◌, refl, ap}
use native.Mathlib.Omega.{arith}
use lib.Dec.{eqb}
use lib.ListN.{get_or, drop, length-take, get_or-eq_default}
use lib.Pow.{shl-shr}
use borrow.Author.Tests.{eq-eqb, le-leb}
use Rattle.octets.specs.Be.{be_at}
use Rattle.octets.specs.Bytes.{Bytes}
use Rattle.octets.specs.Part.{part}
use Rattle.octets.proofs.Be.{be_at-lt}
use Rattle.octets.proofs.Choice.{below_or_not, by_test, pick_all}
use Rattle.octets.proofs.Part.{part-at}
use Rattle.tlv.specs.declared.Fec.{Fec}
use Rattle.tlv.specs.Element.{entry_by, entry_of, fec_of, is_prefix, is_wildcard, masked_to, prefix_length, prefix_of}
use Rattle.tlv.specs.Value.{fec_at}
use Rattle.tlv.proofs.Elements.{masked_le, prefix_length_lem}
use Rattle.fec_index.specs.Entries.{entry_ok, word_span, is_entry, length_in}
use Rattle.fec_index.proofs.Counted.{none_right}

masked_low : (n v : ℕ) → masked_to n v ≤ v
unfolding masked_to
masked_low n v = masked_le (32 - n) v

masked_twice : (n v : ℕ) → masked_to n (masked_to n v) ≡ masked_to n v
unfolding masked_to
masked_twice n v = ap (λ (x : ℕ). x * 2 ^ (32 - n)) (shl-shr (v / 2 ^ (32 - n)) (32 - n))

-- ---- an entry of its length and its bits
module _ (n b e : ℕ) (is : e ≡ 0x0100000000000000 + n * 0x0001000000000000 + b) (short : n ≤ 32) (low : b < word_span) (masked : masked_to n b ≡ b) where
  fields_right_lem : entry_ok e ≡ true
  unfolding entry_ok is_entry
  fields_right_lem =
      let upper : e / word_span ≡ 16777216 + n * 65536 = omega arith in
      let whole : e / word_span / 65536 ≡ 256 + n = omega arith in
      let length-is : length_in e ≡ n = omega arith in
      let bits_are : e % word_span ≡ b = omega arith in
      by_test (eqb e 0) (λ z. rw z) (λ z.
      rw (z, eq-eqb (e / word_span / 16777216) 1 (omega arith), length-is, le-leb n 32 short, eq-eqb (e / word_span % 65536) 0 (omega arith), bits_are)
      (eq-eqb (masked_to n b) b masked))

-- ---- of the bytes of a value
prefix_right : (value : List ℕ) → Bytes value → is_prefix value ≡ true → entry_ok (entry_of (prefix_of value)) ≡ true
prefix_right value byte p =
    let n : ℕ = prefix_length value in
    let v : ℕ = be_at 4 value 4 in
    let wide : v < word_span = be_at-lt 4 value 4 byte in
    let low : masked_to n v ≤ v = masked_low n v in
    fields_right_lem n (masked_to n v) (entry_of (prefix_of value)) refl (prefix_length_lem value p) (omega arith) (masked_twice n v)

pub fec_right : (value : List ℕ) → Bytes value → entry_ok (entry_by (Some (fec_of value))) ≡ true
unfolding fec_of
fec_right value byte =
    by_test (is_wildcard value) (λ w. rw w none_right) (λ w. rw w
    (by_test (is_prefix value) (λ p. rw p (prefix_right value byte p)) (λ p. rw p none_right)))

-- ---- of a message
part_bytes : (m : List ℕ) (a b : ℕ) → Bytes m → Bytes (part m a b)
part_bytes m a b byte i =
    ⊎_elim
    (λ (inside : i < b - a). rw (part-at m a b i inside) (byte (a + i)))
    (λ (past : b - a ≤ i).
    let none : get_or (part m a b) i 0 ≡ 0 = get_or-eq_default (part m a b) 0 {n = i} (omega (arith, length-take (b - a) (drop a m))) in
    omega arith)
    (below_or_not i (b - a))

pub at_right : (m : List ℕ) → Bytes m → (place : ℕ) → entry_ok (entry_by (fec_at m place)) ≡ true
unfolding fec_at
at_right m byte place =
    pick_all (λ (f : Option Fec). entry_ok (entry_by f) ≡ true) (eqb place 0) none_right
    (fec_right (part m (place + 4) (place + 4 + be_at 2 m (place + 2))) (part_bytes m (place + 4) (place + 4 + be_at 2 m (place + 2)) byte))

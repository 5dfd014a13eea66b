-- A FEC of one IPv4 prefix is read off exactly the bytes of such an element, and two have one entry exactly if they are of one prefix. Assumes nothing.
use Prim.Native.Nat.{ℕ, ◌+◌, ◌-◌, ◌≤◌, ◌<◌}
use mathlib.Core.Bool.{true, false}
use mathlib.Core.List.{List, [], ◌∷◌}
use mathlib.Core.Logic.{◌≢◌}
use mathlib.Core.Path.{◌≡◌}
use native.Mathlib.Nat.{lt_of_le_of_lt}
use native.Mathlib.Omega.{arith}
use lib.Dec.{eqb, leb}
use lib.ListN.{length, get_or, drop}
use borrow.Author.Tests.{eqb-true, eq-eqb, ne_eqb, le-leb}
use Rattle.octets.specs.Be.{be_at}
use Rattle.octets.specs.Bytes.{Bytes}
use Rattle.octets.proofs.Be.{be_at-lt}
use Rattle.octets.proofs.Choice.{both_true, by_test}
use Rattle.tlv.specs.declared.Fec.{Fec}
use Rattle.tlv.specs.declared.Ipv4Prefix.{Ipv4Prefix}
use Rattle.tlv.specs.Element.{prefix_bytes, prefix_length, is_wildcard, is_prefix, masked_to, prefix_of, fec_of, entry_of}
use Rattle.tlv.specs.Prefixes.{IsElement, SamePrefix}
use Rattle.tlv.proofs.Elements.{masked_le, masked_same, same_masked, prefix_length_lem}

-- the prefix of an element, bits past its length masked
abbrev pub element_prefix : ℕ → List ℕ → Ipv4Prefix
element_prefix bits prefix = record { length = bits; bits = masked_to bits (be_at 4 prefix 0) }

-- ---- an element is read as its prefix,
element_is : (bits : ℕ) (prefix : List ℕ) → bits ≤ 32 → length prefix ≡ prefix_bytes bits → is_prefix (2 ∷ 0 ∷ 1 ∷ bits ∷ prefix) ≡ true
unfolding is_prefix
element_is bits prefix short whole = rw (le-leb bits 32 short) (eq-eqb (length (2 ∷ 0 ∷ 1 ∷ bits ∷ prefix)) (4 + prefix_bytes bits) (omega (arith, whole)))

element_longer : (bits : ℕ) (prefix : List ℕ) → is_wildcard (2 ∷ 0 ∷ 1 ∷ bits ∷ prefix) ≡ false
unfolding is_wildcard
element_longer bits prefix = rw (ne_eqb (length (2 ∷ 0 ∷ 1 ∷ bits ∷ prefix)) 1 (λ z. omega arith))

pub element_fec : (value : List ℕ) (bits : ℕ) (prefix : List ℕ) → IsElement value bits prefix → fec_of value ≡ Fec.Prefix (element_prefix bits prefix)
unfolding fec_of
element_fec value bits prefix e = rw (e.bytes, element_longer bits prefix, element_is bits prefix e.short e.whole)

-- ---- and nothing else is read as a prefix
pub prefix_element : (value : List ℕ) → Bytes value → is_prefix value ≡ true → IsElement value (prefix_length value) (drop 4 value)
unfolding is_prefix
prefix_element value byte e =
    let a = both_true (eqb (get_or value 0 0) 2) _ e in
    let b = both_true (eqb (be_at 2 value 1) 1) _ a.1 in
    let c = both_true (leb (prefix_length value) 32) _ b.1 in
    by value (eqb-true (get_or value 0 0) 2 a.0) (eqb-true (be_at 2 value 1) 1 b.0) (prefix_length_lem value e)
    (eqb-true (length value) (4 + prefix_bytes (prefix_length value)) c.1) (byte 1) (byte 2)
  where
    by : (value : List ℕ) → get_or value 0 0 ≡ 2 → be_at 2 value 1 ≡ 1 → prefix_length value ≤ 32 → length value ≡ 4 + prefix_bytes (prefix_length value)
        → get_or value 1 0 < 256 → get_or value 2 0 < 256 → IsElement value (prefix_length value) (drop 4 value)
    by [] a f s n p q = absurd (omega arith)
    by (x ∷ []) a f s n p q = absurd (omega arith)
    by (x ∷ y ∷ []) a f s n p q = absurd (omega arith)
    by (x ∷ y ∷ z ∷ []) a f s n p q = absurd (omega arith)
    by (x ∷ y ∷ z ∷ bits ∷ prefix) a f s n p q =
        let none : y ≡ 0 = omega arith in
        let one : z ≡ 1 = omega arith in
        record { bytes = rw (a, none, one); short = s; whole = omega arith }

pub fec_element : (value : List ℕ) → Bytes value → (p : Ipv4Prefix) → fec_of value ≡ Fec.Prefix p
    → IsElement value p.length (drop 4 value) × (p ≡ element_prefix p.length (drop 4 value))
unfolding fec_of
fec_element value byte p e =
    by_test (is_wildcard value)
    (λ w. let z : Fec.Wildcard ≡ Fec.Prefix p = rw w at e in absurd (apart z))
    (λ w. by_test (is_prefix value)
    (λ y.
    let found : Fec.Prefix (prefix_of value) ≡ Fec.Prefix p = rw (w, y) at e in
    let same : prefix_of value ≡ p = cc in
    let element = prefix_element value byte y in
    rw (← same) (element, rw element.bytes))
    (λ n. let z : Fec.Other ≡ Fec.Prefix p = rw (w, n) at e in absurd (other z)))
  where
    apart : Fec.Wildcard ≡ Fec.Prefix p → ⊥
    apart z = let q : ◌≡◌ {A = ℕ} 0 1 = cc in omega arith

    other : Fec.Other ≡ Fec.Prefix p → ⊥
    other z = let q : ◌≡◌ {A = ℕ} 0 1 = cc in omega arith

-- ---- the entries
-- a prefix's is not that of other FECs
pub entry_some : (p : Ipv4Prefix) → entry_of p ≢ 0
entry_some p z = omega arith

-- it says length and bits
entry_parts : (p q : Ipv4Prefix) → p.bits < 4294967296 → q.bits < 4294967296 → entry_of p ≡ entry_of q → (p.length ≡ q.length) × (p.bits ≡ q.bits)
entry_parts p q x y e = (omega arith, omega arith)

masked_width : (n v : ℕ) → v < 4294967296 → masked_to n v < 4294967296
unfolding masked_to
masked_width n v h = lt_of_le_of_lt (masked_le (32 - n) v) h

module _ (n : ℕ) (prefix : List ℕ) (m : ℕ) (other : List ℕ) where
  pub same_entry : SamePrefix n prefix m other → entry_of (element_prefix n prefix) ≡ entry_of (element_prefix m other)
  same_entry s =
      let bits : masked_to n (be_at 4 prefix 0) ≡ masked_to n (be_at 4 other 0) = masked_same n (be_at 4 prefix 0) (be_at 4 other 0) s.bits in
      rw (← s.length, bits)

  pub entry_same : Bytes prefix → Bytes other → entry_of (element_prefix n prefix) ≡ entry_of (element_prefix m other) → SamePrefix n prefix m other
  entry_same x y e =
      let parts = entry_parts (element_prefix n prefix) (element_prefix m other) (masked_width n (be_at 4 prefix 0) (be_at-lt 4 prefix 0 x))
      (masked_width m (be_at 4 other 0) (be_at-lt 4 other 0 y)) e in
      record {
        length = parts.0;
        bits = same_masked n (be_at 4 prefix 0) (be_at 4 other 0) (rw (← parts.0) at parts.1);
      }

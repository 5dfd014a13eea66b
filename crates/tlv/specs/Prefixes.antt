-- What a FEC of one IPv4 prefix is, byte by byte, and when two of them are of one prefix: their entries say exactly that
-- (`element_fec`, `fec_element`, `same_entry`, `entry_same` in proofs/Prefixes.antt).
use Rattle.std.specs.Prelude.{ℕ, ◌-◌, ◌/◌, ◌^◌, ◌≤◌, List, ◌∷◌, ◌≡◌, length}
use Rattle.octets.specs.Be.{be_at}
use Rattle.tlv.specs.Element.{prefix_bytes}

-- 02: "one well-formed IPv4 prefix element": RFC 3036's 02, family 00 01, the length in bits and exactly the bytes that it needs
pub record IsElement (value : List ℕ) (bits : ℕ) (prefix : List ℕ) : Type 0 where
  pub bytes : value ≡ 2 ∷ 0 ∷ 1 ∷ bits ∷ prefix
  pub short : bits ≤ 32
  pub whole : length prefix ≡ prefix_bytes bits

-- two prefixes are one: as long as each other, and the same up to that length; bits past it do not count
pub record SamePrefix (n : ℕ) (prefix : List ℕ) (m : ℕ) (other : List ℕ) : Type 0 where
  pub length : n ≡ m
  pub bits : be_at 4 prefix 0 / 2 ^ (32 - n) ≡ be_at 4 other 0 / 2 ^ (32 - n)

-- The FEC by the bytes of its value, and its entry in the index.
-- 01: "the wildcard FEC (one element of type 1)". 02: "Only a FEC of one well-formed IPv4 prefix element is indexed; others stay as in 01."
-- RFC 3036: a prefix element is 02, the address family (IPv4: 00 01), the length in bits, and as many bytes of the prefix as that needs.
use Rattle.std.specs.Prelude.{Option, Some, None, ℕ, ◌+◌, ◌-◌, ◌*◌, ◌/◌, ◌^◌, Bool, List, eqb, leb, length, get_or}
use Rattle.octets.specs.Be.{be_at}
use Rattle.octets.specs.Pick.{pick, both}
use Rattle.tlv.specs.declared.Fec.{Fec}
use Rattle.tlv.specs.declared.Ipv4Prefix.{Ipv4Prefix}

unfoldable pub is_wildcard : List ℕ → Bool
is_wildcard value = both (eqb (length value) 1) (eqb (get_or value 0 0) 1)

-- the bytes that a prefix of so many bits takes
abbrev pub prefix_bytes : ℕ → ℕ
prefix_bytes bits = (bits + 7) / 8

-- the length in bits
abbrev pub prefix_length : List ℕ → ℕ
prefix_length value = get_or value 3 0

-- well-formed: at most 32 bits, and nothing behind the bytes that it needs
unfoldable pub is_prefix : List ℕ → Bool
is_prefix value =
    both (eqb (get_or value 0 0) 2)
    (both (eqb (be_at 2 value 1) 1)
    (both (leb (prefix_length value) 32) (eqb (length value) (4 + prefix_bytes (prefix_length value)))))

-- "prefix with zeros past its length"
unfoldable pub masked_to : ℕ → ℕ → ℕ
masked_to bits v = v / 2 ^ (32 - bits) * 2 ^ (32 - bits)

-- behind the value's end a byte counts as 0, as do the bits past the length
abbrev pub prefix_of : List ℕ → Ipv4Prefix
prefix_of value = record { length = prefix_length value; bits = masked_to (prefix_length value) (be_at 4 value 4) }

unfoldable pub fec_of : List ℕ → Fec
fec_of value = pick (is_wildcard value) Fec.Wildcard (pick (is_prefix value) (Fec.Prefix (prefix_of value)) Fec.Other)

-- 02: "1, length, two zeros, prefix with zeros past its length; zeros for other FECs": an entry's eight bytes, read as one number
abbrev pub entry_of : Ipv4Prefix → ℕ
entry_of p = 0x0100000000000000 + p.length * 0x0001000000000000 + p.bits

abbrev pub entry_by : Option Fec → ℕ
entry_by None = 0
entry_by (Some Fec.Wildcard) = 0
entry_by (Some (Fec.Prefix p)) = entry_of p
entry_by (Some Fec.Other) = 0

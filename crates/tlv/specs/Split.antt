-- What a message splits into: its head and whole TLVs, and the place of each listed one. This is what the walk (specs/Walk.antt) means, said without it.
-- 01: "Malformed: .. lengths that don't add up exactly; a wrong length of a listed TLV; a listed TLV twice; a label above 1,048,575".
use Rattle.std.specs.Prelude.{ℕ, ◌+◌, ◌≤◌, true, ◌≡◌, length, take}
use mathlib.Core.List.{List, [], ◌∷◌, ◌++◌, flatten}
use Rattle.octets.specs.Be.{be_at}
use Rattle.tlv.specs.declared.Found.{Found}
use Rattle.tlv.specs.declared.walk.Tlv.{Tlv}
use Rattle.tlv.specs.Tlv.{length_fits, head_of, label_value, largest_label}
use Rattle.tlv.specs.Walk.{head_size}

-- "TLV: U, F, 14-bit type (2), length (2), value": the bytes t are one TLV, neither more nor fewer; a listed one has its length,
-- and a label is no higher than the largest
pub record IsTlv (t : List ℕ) : Type 0 where
  pub adds : 4 + be_at 2 t 2 ≡ length t
  pub fits : length_fits (head_of t) (be_at 2 t 2) ≡ true
  pub low : label_value (head_of t) t ≤ largest_label

pub data AreTlvs : List (List ℕ) → Type 0 where
  none : AreTlvs []
  one : {t : List ℕ} {ts : List (List ℕ)} → IsTlv t → AreTlvs ts → AreTlvs (t ∷ ts)

-- none of the TLVs is this one
abbrev pub Lacks : List (List ℕ) → Tlv → Type 0
Lacks [] tlv = Unit {0}
Lacks (t ∷ ts) tlv = (head_of t ≡ tlv → ⊥) × Lacks ts tlv

-- the TLV is one of the list
abbrev pub IsListed : Tlv → Type 0
IsListed tlv = tlv ≡ Tlv.Other → ⊥

-- "a listed TLV twice": behind a listed one there is no second
abbrev pub Once : List (List ℕ) → Type 0
Once [] = Unit {0}
Once (t ∷ ts) = (IsListed (head_of t) → Lacks ts (head_of t)) × Once ts

-- one of the TLVs, which lie from `from` on, is this one, and it stands at the place: behind all that are before it
pub record StandsAt (from : ℕ) (tlvs : List (List ℕ)) (tlv : Tlv) (place : ℕ) : Type 0 where
  pub before : List (List ℕ)
  pub it : List ℕ
  pub behind : List (List ℕ)
  pub split : tlvs ≡ before ++ (it ∷ behind)
  pub is : head_of it ≡ tlv
  pub at : place ≡ from + length (flatten before)

-- the place of a TLV: where it stands; 0 where it does not
pub data PlaceIs (from : ℕ) (tlvs : List (List ℕ)) (tlv : Tlv) (place : ℕ) : Type 0 where
  nowhere : Lacks tlvs tlv → place ≡ 0 → PlaceIs from tlvs tlv place
  there : StandsAt from tlvs tlv place → PlaceIs from tlvs tlv place

-- the message m is its head and these TLVs, and `found` says where the listed ones stand.
-- "Message: U bit and type (2), length (2, bytes after it), message ID (4), TLVs"
pub record HasTlvs (m : List ℕ) (tlvs : List (List ℕ)) (found : Found) : Type 0 where
  pub head : head_size ≤ length m
  pub adds : be_at 2 m 2 + 4 ≡ length m
  pub joined : take head_size m ++ flatten tlvs ≡ m
  pub whole : AreTlvs tlvs
  pub once : Once tlvs
  pub fec : PlaceIs head_size tlvs Tlv.Fec found.fec
  pub label : PlaceIs head_size tlvs Tlv.Label found.label
  pub status : PlaceIs head_size tlvs Tlv.Status found.status
  pub parameters : PlaceIs head_size tlvs Tlv.Parameters found.parameters
  pub session : PlaceIs head_size tlvs Tlv.Session found.session
  pub protection : PlaceIs head_size tlvs Tlv.Protection found.protection
  pub ack : PlaceIs head_size tlvs Tlv.Ack found.ack
  pub requestid : PlaceIs head_size tlvs Tlv.RequestId found.requestid

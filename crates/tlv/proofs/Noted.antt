-- What one TLV makes of the places found before it, and the head of a message, by the tests and the calls of the code. Assumes nothing.
use Rattle.std.specs.Prelude.{Option, Some, None}
use Prim.Native.Nat.{ℕ, ◌+◌, ◌-◌, ◌≤◌, ◌<◌}
use mathlib.Core.Bool.{Bool, true, false, not}
use mathlib.Core.List.{List}
use mathlib.Core.Path.{◌≡◌, sym, ◌∙◌, ap}
use native.Mathlib.Omega.{arith}
use lib.ListN.{length, take, drop}
use lib.Seq.{take_all}
use borrow.Author.Tests.{eq-eqb, ne_eqb, lt-ltb, le-ltb, eqb-true, not-true, not-false}
use Rattle.octets.specs.Be.{be_at}
use Rattle.octets.proofs.Bytes.{be_at-drop}
use Rattle.tlv.specs.declared.Found.{Found}
use Rattle.tlv.specs.declared.walk.Tlv.{Tlv}
use Rattle.tlv.specs.Tlv.{length_fits, label_value, largest_label}
use Rattle.tlv.specs.Walk.{place_of, placed_of, noted_of, walk_of, none_found, head_size, tlvs_of}

module _ (f : Found) (tlv : Tlv) (n at : ℕ) (ts : List ℕ) (fits : Bool) (fitsq : fits ≡ length_fits tlv n) where
  pub noted_length : not fits ≡ true → None ≡ noted_of f tlv n at ts
  unfolding noted_of
  noted_length h = simp (sym fitsq ∙ not-true fits h)

  module _ (h : not fits ≡ false) (place : ℕ) (placeq : place ≡ place_of f tlv) where
    pub noted_twice : (place ≡ 0 → ⊥) → None ≡ noted_of f tlv n at ts
    unfolding noted_of
    noted_twice k = simp (sym fitsq ∙ not-false fits h, sym placeq, ne_eqb place 0 k)

    module _ (k : place ≡ 0) (label : ℕ) (labelq : label ≡ label_value tlv ts) where
      pub noted_high : largest_label < label → None ≡ noted_of f tlv n at ts
      unfolding noted_of
      noted_high l = simp (sym fitsq ∙ not-false fits h, sym placeq, eq-eqb place 0 k, sym labelq, lt-ltb largest_label label l)

      pub noted_whole : (g : Found) → g ≡ placed_of f tlv at → label ≤ largest_label → Some g ≡ noted_of f tlv n at ts
      unfolding noted_of
      noted_whole g e l = simp (sym fitsq ∙ not-false fits h, sym placeq, eq-eqb place 0 k, sym labelq, le-ltb largest_label label l, e)

pub fits_is : (tlv : Tlv) (n : ℕ) (fits : Bool) → fits ≡ length_fits tlv n → not fits ≡ false → length_fits tlv n ≡ true
fits_is tlv n fits q h = sym q ∙ not-false fits h

pub ruleset notes = (fits_is, noted_length, noted_twice, noted_high, noted_whole)

-- the value of Generic Label, which lies within the message
module _ (tlv : Tlv) (is : tlv ≡ Tlv.Label) (s : List ℕ) (at : ℕ) where
  pub label_room : (n : ℕ) → length_fits tlv n ≡ true → 4 + n ≤ length s - at → at + 4 + 4 ≤ length s
  label_room n fits room = omega (arith, eqb-true n 4 (rw is at fits))

  pub label_read : (label : ℕ) → label ≡ be_at 4 s (at + 4) → label ≡ label_value tlv (drop at s)
  label_read label e = rw is (e ∙ sym (be_at-drop 4 at s 4))

pub ruleset labels = (label_room, label_read)

-- the head of a message
module _ (m : List ℕ) where
  pub head_short : length m < head_size → None ≡ tlvs_of m
  unfolding tlvs_of
  head_short h = simp (lt-ltb (length m) head_size h)

  module _ (h : head_size ≤ length m) (n : ℕ) (nq : n ≡ be_at 2 m 2) where
    pub head_wrong : (n + 4 ≡ length m → ⊥) → None ≡ tlvs_of m
    unfolding tlvs_of
    head_wrong e = simp (le-ltb (length m) head_size h, sym nq, ne_eqb (n + 4) (length m) e)

    pub head_whole : n + 4 ≡ length m → (w : Option Found) → w ≡ walk_of head_size (drop head_size m) none_found → w ≡ tlvs_of m
    unfolding tlvs_of
    head_whole e w is = simp (le-ltb (length m) head_size h, sym nq, eq-eqb (n + 4) (length m) e, is)

  -- a message that is lent on from its start is the message
  pub lent-on : (w : Option Found) → w ≡ tlvs_of (take (length m - 0) (drop 0 m)) → w ≡ tlvs_of m
  lent-on w is = is ∙ ap tlvs_of (take_all (length m - 0) m (omega arith))

pub ruleset heads = (head_short, head_wrong, head_whole)

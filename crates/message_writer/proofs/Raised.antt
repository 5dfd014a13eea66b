-- A message with TLVs behind it and its length raised: its fields, and the walk over it. Assumes nothing.
use Rattle.std.specs.Prelude.{Some}
use Prim.Native.Nat.{ℕ, ◌+◌, ◌-◌, ◌^◌, ◌≤◌, ◌<◌}
use mathlib.Core.List.{List, ◌++◌}
use mathlib.Core.Path.{◌≡◌, refl, sym, ap, ◌∙◌}
use native.Mathlib.Nat.{add-zero, mod-eq_of_lt}
use native.Mathlib.Omega.{arith}
use lib.ListN.{length, take, drop, length-drop}
use lib.Seq.{length-take-le, take-append-le, drop-append-le, drop-drop}
use borrow.Author.Tests.{eq-eqb, le-ltb}
use borrow.Rule.Slice.PartMut.{take_put, drop_put}
use Rattle.octets.specs.Be.{be_at, bytes}
use Rattle.octets.proofs.Be.{be_at-part}
use Rattle.octets.proofs.Bytes.{be_at-append, be_at_behind, be_at-bytes}
use Rattle.octets.proofs.Laid.{laid-between}
use Rattle.octets.proofs.Part.{part-after}
use Rattle.tlv.specs.declared.Found.{Found}
use Rattle.tlv.specs.Walk.{none_found, walk_of, head_size, tlvs_of}
use Rattle.tlv.proofs.Places.{WholeTlvs, whole_tlvs}
use Rattle.message_writer.specs.Forms.{raised_to, raised}
use Rattle.message_writer.proofs.Append.{walk_append}
use Rattle.message_writer.proofs.Puts.{length-raised_to, length-raised}

-- a number that has the width is read back from its bytes
pub bytes_read : (w v : ℕ) → v < 256 ^ w → be_at w (bytes w v) 0 ≡ v
bytes_read w v small = be_at-bytes w v ∙ mod-eq_of_lt small

-- a field behind the length is as it was
field_behind : (m : List ℕ) (size w at : ℕ) → 4 ≤ length m → 4 ≤ at → be_at w (raised_to m size) at ≡ be_at w m at
field_behind m size w at head h =
    let here : at + 0 ≡ at = add-zero at in
    let room : 0 + w ≤ at + w - at = omega arith in
    ap (be_at w (raised_to m size)) (sym here)
    ∙ sym (be_at-part w (at + w - at) at 0 (raised_to m size) room)
    ∙ ap (λ (l : List ℕ). be_at w l 0) (part-after m 2 4 (bytes 2 size) at (at + w) (omega arith) head refl h)
    ∙ be_at-part w (at + w - at) at 0 m room
    ∙ ap (be_at w m) here

-- what stands before the length, the length, and what stands behind it
raised-lent : (m : List ℕ) (size : ℕ) → 4 ≤ length m → raised_to m size ≡ take 2 m ++ (bytes 2 size ++ drop 2 (drop 2 m))
raised-lent m size h = sym (laid-between m 2 4 (bytes 2 size) (omega arith) h refl)

module _ (m t : List ℕ) (head : 8 ≤ length m) where
  pub raised_field : (w at : ℕ) → 4 ≤ at → at + w ≤ length m → be_at w (raised m t) at ≡ be_at w m at
  unfolding raised
  raised_field w at h room =
      let size : ℕ = length m + length t - 4 in
      be_at-append w (raised_to m size) t at (omega (arith, length-raised_to m head size)) ∙ field_behind m size w at (omega arith) h

  pub raised-number : be_at 2 (raised m t) 0 ≡ be_at 2 m 0
  unfolding raised
  raised-number =
      let size : ℕ = length m + length t - 4 in
      let front : length (take 2 m) ≡ 2 = length-take-le 2 m (omega arith) in
      be_at-append 2 (raised_to m size) t 0 (omega (arith, length-raised_to m head size))
      ∙ ap (λ (l : List ℕ). be_at 2 l 0) (raised-lent m size (omega arith))
      ∙ be_at-append 2 (take 2 m) (bytes 2 size ++ drop 2 (drop 2 m)) 0 (omega arith)
      ∙ be_at-part 2 2 0 0 m (omega arith)

  pub raised_size : length m + length t - 4 < 256 ^ 2 → be_at 2 (raised m t) 2 ≡ length m + length t - 4
  unfolding raised
  raised_size small =
      let size : ℕ = length m + length t - 4 in
      let front : length (take 2 m) ≡ 2 = length-take-le 2 m (omega arith) in
      let there : 2 ≡ length (take 2 m) + 0 = omega arith in
      be_at-append 2 (raised_to m size) t 2 (omega (arith, length-raised_to m head size))
      ∙ ap (λ (l : List ℕ). be_at 2 l 2) (raised-lent m size (omega arith))
      ∙ be_at_behind 2 (take 2 m) (bytes 2 size ++ drop 2 (drop 2 m)) 2 0 there
      ∙ be_at-append 2 (bytes 2 size) (drop 2 (drop 2 m)) 0 (omega arith)
      ∙ bytes_read 2 size small

  -- the TLVs are those of the message, and then those behind it
  pub raised_tlvs : drop head_size (raised m t) ≡ drop head_size m ++ t
  unfolding raised
  raised_tlvs =
      let size : ℕ = length m + length t - 4 in
      drop-append-le 8 (raised_to m size) t (omega (arith, length-raised_to m head size))
      ∙ ap (λ (l : List ℕ). l ++ t)
      (sym (drop-drop 4 4 (raised_to m size)) ∙ ap (drop 4) (ap (drop 4) (raised-lent m size (omega arith)) ∙ drop_put 2 4 m (bytes 2 size) (omega arith) (omega arith) refl) ∙ drop-drop 4 4 m)

  -- the type and the message ID stand as they stood
  pub raised_front : take 2 (raised m t) ≡ take 2 m
  unfolding raised
  raised_front =
      let size : ℕ = length m + length t - 4 in
      take-append-le 2 (raised_to m size) t (omega (arith, length-raised_to m head size))
      ∙ ap (take 2) (raised-lent m size (omega arith))
      ∙ take_put 2 2 m (bytes 2 size) (omega arith)

  pub raised_behind : take 4 (drop 4 (raised m t)) ≡ take 4 (drop 4 m)
  unfolding raised
  raised_behind =
      let size : ℕ = length m + length t - 4 in
      ap (take 4)
      (drop-append-le 4 (raised_to m size) t (omega (arith, length-raised_to m head size))
      ∙ ap (λ (l : List ℕ). l ++ t) (ap (drop 4) (raised-lent m size (omega arith)) ∙ drop_put 2 4 m (bytes 2 size) (omega arith) (omega arith) refl))
      ∙ take-append-le 4 (drop 4 m) t (omega (arith, length-drop 4 m))

-- TLVs behind a message are read at the message's old end, after what it said
pub raised_walk : (m t : List ℕ) (f : Found) → length m + length t - 4 < 256 ^ 2 → tlvs_of m ≡ Some f → tlvs_of (raised m t) ≡ walk_of (length m) t f
unfolding tlvs_of
raised_walk m t f small e =
    let w : WholeTlvs m f = whole_tlvs m f e in
    let head : 8 ≤ length m = w.head in
    let l : length (raised m t) ≡ length m + length t = length-raised m head t in
    let size : be_at 2 (raised m t) 2 ≡ length m + length t - 4 = raised_size m t head small in
    let ends : 8 + length (drop 8 m) ≡ length m = omega (arith, length-drop 8 m) in
    simp (
      le-ltb (length (raised m t)) 8 (omega arith),
      eq-eqb (be_at 2 (raised m t) 2 + 4) (length (raised m t)) (omega arith),
      raised_tlvs m t head,
    )
    (walk_append 8 (drop 8 m) t none_found f w.tlvs ∙ ap (λ (x : ℕ). walk_of x t f) ends)

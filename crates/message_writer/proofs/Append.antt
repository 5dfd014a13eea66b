-- The walk over two runs of TLVs: the second starts where the first ends, with what the first found. Assumes nothing.
use Rattle.std.specs.Prelude.{Some, None}
use Prim.Native.Nat.{ℕ, ◌+◌, ◌-◌, ◌≤◌, ◌<◌}
use mathlib.Core.Bool.{Bool, true, false}
use mathlib.Core.List.{List, ◌++◌}
use mathlib.Core.Path.{◌≡◌, refl, sym, ◌∙◌, ap}
use native.Mathlib.Nat.{add-zero}
use native.Mathlib.Omega.{arith}
use lib.Dec.{eqb, ltb}
use lib.ListN.{length, drop, length-drop, length-append}
use lib.Seq.{drop-append-le}
use borrow.Author.Tests.{ne_eqb, le-ltb}
use Rattle.octets.specs.Be.{be_at}
use Rattle.octets.specs.Pick.{pick}
use Rattle.octets.proofs.Bytes.{be_at-append}
use Rattle.octets.proofs.Fix.{size_ind}
use Rattle.tlv.specs.declared.Found.{Found}
use Rattle.tlv.specs.declared.walk.Tlv.{Tlv}
use Rattle.tlv.specs.declared.walk.Turn.{Turn}
use Rattle.tlv.specs.Tlv.{length_fits, head_of, size_of, label_value, largest_label}
use Rattle.tlv.specs.Walk.{place_of, placed_of, noted_of, turn_of, Rest, left_of, on_turn, walk_of}
use Rattle.tlv.proofs.Turns.{Goes, goes, walk_rest, walk_step}
use Rattle.tlv.proofs.Whole.{end_empty, head_append, label_append}

noted_append : (f : Found) (tlv : Tlv) (n at : ℕ) (ts us : List ℕ) → 4 + n ≤ length ts → noted_of f tlv n at (ts ++ us) ≡ noted_of f tlv n at ts
unfolding noted_of
noted_append f tlv n at ts us h = go (length_fits tlv n) refl
  where
    go : (b : Bool) → length_fits tlv n ≡ b
        → pick b (pick (eqb (place_of f tlv) 0) (pick (ltb largest_label (label_value tlv (ts ++ us))) None (Some (placed_of f tlv at))) None) None
        ≡ pick b (pick (eqb (place_of f tlv) 0) (pick (ltb largest_label (label_value tlv ts)) None (Some (placed_of f tlv at))) None) None
    go true q = rw (label_append tlv n ts us q h)
    go false q = refl

-- the size of the TLV that stands first is the same with more behind it
pub size_append : (ts us : List ℕ) → 4 ≤ length ts → size_of (ts ++ us) ≡ size_of ts
size_append ts us h = ap (λ (n : ℕ). 4 + n) (be_at-append 2 ts us 2 (omega arith))

-- a TLV that is taken is taken with more behind it
turn-append : (f g : Found) (at n : ℕ) (ts us : List ℕ) → turn_of f at ts ≡ Turn.Next g n → turn_of f at (ts ++ us) ≡ Turn.Next g n
unfolding turn_of
turn-append f g at n ts us e =
    let w : Goes f g at n ts = goes f g at n ts e in
    let m : 4 + be_at 2 ts 2 ≤ length ts = omega (arith, w.size, w.within) in
    let l : length (ts ++ us) ≡ length ts + length us = length-append ts us in
    let size : size_of ts ≡ n = sym w.size in
    simp (
      head_append ts us (omega arith),
      be_at-append 2 ts us 2 (omega arith),
      ne_eqb (length (ts ++ us)) 0 (λ z. omega arith),
      le-ltb (length (ts ++ us)) (size_of ts) (omega arith),
      noted_append f (head_of ts) (be_at 2 ts 2) at ts us m,
      w.noted,
    )
    (ap (Turn.Next g) size)

abbrev Appends : List ℕ → Rest → Type 0
Appends us r = (g : Found) → walk_rest r ≡ Some g → walk_of r.at (r.bytes ++ us) r.found ≡ walk_of (r.at + length r.bytes) us g

walk_rest-append : (us : List ℕ) (r : Rest) → Appends us r
walk_rest-append us = size_ind left_of (Appends us) step
  where
    step : (r : Rest) → ((t : Rest) → left_of t < left_of r → Appends us t) → Appends us r
    step r ih g e = go (turn_of r.found r.at r.bytes) refl (sym (walk_step r.at r.bytes r.found) ∙ e)
      where
        go : (t : Turn) → turn_of r.found r.at r.bytes ≡ t → on_turn walk_rest r t ≡ Some g
            → walk_of r.at (r.bytes ++ us) r.found ≡ walk_of (r.at + length r.bytes) us g
        go Turn.End q h = let same : r.found ≡ g = cc in rw (end_empty r.found r.at r.bytes q, add-zero, same)
        go Turn.Malformed q h = let z : ◌≡◌ {A = ℕ} 0 1 = cc in absurd (omega arith)
        go (Turn.Next f n) q h =
            let w : Goes r.found f r.at n r.bytes = goes r.found f r.at n r.bytes q in
            let d : length (drop n r.bytes) ≡ length r.bytes - n = length-drop n r.bytes in
            let within : n ≤ length r.bytes = w.within in
            let some : 4 ≤ n = omega (arith, w.size) in
            let a : r.at + n + length (drop n r.bytes) ≡ r.at + length r.bytes = omega arith in
            walk_step r.at (r.bytes ++ us) r.found
            ∙ rw (turn-append r.found f r.at n r.bytes us q, drop-append-le n r.bytes us within) refl
            ∙ ih (record { at = r.at + n; bytes = drop n r.bytes; found = f }) (omega arith) g h
            ∙ ap (λ (x : ℕ). walk_of x us g) a

-- the walk over two runs of TLVs is that over the first, then over the second with what the first found
pub walk_append : (at : ℕ) (ts us : List ℕ) (f g : Found) → walk_of at ts f ≡ Some g → walk_of at (ts ++ us) f ≡ walk_of (at + length ts) us g
walk_append at ts us f g e = walk_rest-append us (record { at = at; bytes = ts; found = f }) g e

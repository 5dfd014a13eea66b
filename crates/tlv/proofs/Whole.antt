-- One whole TLV: what it says whatever stands behind it, and that a turn takes it exactly where it may stand. Assumes nothing.
use Rattle.std.specs.Prelude.{Option, Some, None}
use Prim.Native.Nat.{ℕ, ◌+◌, ◌%◌, ◌≤◌}
use mathlib.Core.Bool.{Bool, true, false}
use mathlib.Core.List.{List, [], ◌∷◌, ◌++◌}
use mathlib.Core.Path.{◌≡◌, refl, sym, ap, ◌∙◌}
use native.Mathlib.Omega.{arith}
use lib.Dec.{eqb, ltb}
use lib.ListN.{length, take, drop, length-append, take-append-drop}
use lib.Seq.{length-take-le}
use borrow.Author.Tests.{eq-eqb, ne_eqb, le-ltb, eqb-true}
use Rattle.octets.specs.Be.{be_at}
use Rattle.octets.specs.Pick.{pick}
use Rattle.octets.proofs.Bytes.{be_at-append}
use Rattle.octets.proofs.Choice.{no}
use Rattle.tlv.specs.declared.Found.{Found}
use Rattle.tlv.specs.declared.walk.Tlv.{Tlv}
use Rattle.tlv.specs.declared.walk.Turn.{Turn}
use Rattle.tlv.specs.Split.{IsTlv}
use Rattle.tlv.specs.Tlv.{tlv_of, length_fits, type_range, head_of, size_of, label_value, largest_label}
use Rattle.tlv.specs.Walk.{place_of, placed_of, noted_of, taken_of, turn_of}
use Rattle.tlv.proofs.Places.{Noted, noted}
use Rattle.tlv.proofs.Turns.{Goes}

-- the TLV that stands first is the same with more behind it
pub head_append : (ts us : List ℕ) → 4 ≤ length ts → head_of (ts ++ us) ≡ head_of ts
head_append ts us h = ap (λ (n : ℕ). tlv_of (n % type_range)) (be_at-append 2 ts us 0 (omega arith))

pub label_append : (tlv : Tlv) (n : ℕ) (ts us : List ℕ) → length_fits tlv n ≡ true → 4 + n ≤ length ts → label_value tlv (ts ++ us) ≡ label_value tlv ts
label_append Tlv.Fec n ts us fits h = refl
label_append Tlv.Label n ts us fits h = be_at-append 4 ts us 4 (omega (arith, eqb-true n 4 fits))
label_append Tlv.Status n ts us fits h = refl
label_append Tlv.Parameters n ts us fits h = refl
label_append Tlv.Session n ts us fits h = refl
label_append Tlv.Protection n ts us fits h = refl
label_append Tlv.Ack n ts us fits h = refl
label_append Tlv.RequestId n ts us fits h = refl
label_append Tlv.Other n ts us fits h = refl

-- a turn takes a whole TLV that has no place yet, and gives it the place where it stands
pub whole-taken : (f : Found) (at : ℕ) (t us : List ℕ) → IsTlv t → place_of f (head_of t) ≡ 0
    → turn_of f at (t ++ us) ≡ Turn.Next (placed_of f (head_of t) at) (length t)
unfolding turn_of noted_of
whole-taken f at t us w once =
    let size : 4 + be_at 2 t 2 ≡ length t = w.adds in
    let all : length (t ++ us) ≡ length t + length us = length-append t us in
    simp (
      head_append t us (omega arith),
      be_at-append 2 t us 2 (omega arith),
      label_append (head_of t) (be_at 2 t 2) t us w.fits (omega arith),
      ne_eqb (length (t ++ us)) 0 (λ z. omega arith),
      le-ltb (length (t ++ us)) (length t) (omega arith),
      w.fits,
      eq-eqb (place_of f (head_of t)) 0 once,
      le-ltb largest_label (label_value (head_of t) t) w.low,
      size,
    )

-- the TLV t was taken at the place `at`: it is whole, it had no place before, and now it has this one
pub record Taken (f g : Found) (at : ℕ) (t : List ℕ) : Type 0 where
  pub whole : IsTlv t
  pub once : place_of f (head_of t) ≡ 0
  pub is : placed_of f (head_of t) at ≡ g

-- a turn that goes on has taken the TLV that stands first
pub turn-taken : (f g : Found) (at n : ℕ) (ts : List ℕ) → Goes f g at n ts → Taken f g at (take n ts)
turn-taken f g at n ts w =
    let t : List ℕ = take n ts in
    let us : List ℕ = drop n ts in
    let both : t ++ us ≡ ts = take-append-drop n ts in
    let long : length t ≡ n = length-take-le n ts w.within in
    let size : n ≡ 4 + be_at 2 ts 2 = w.size in
    let field : be_at 2 ts 2 ≡ be_at 2 t 2 = ap (λ (l : List ℕ). be_at 2 l 2) (sym both) ∙ be_at-append 2 t us 2 (omega arith) in
    let head : head_of ts ≡ head_of t = ap head_of (sym both) ∙ head_append t us (omega arith) in
    let k : Noted f g (head_of ts) (be_at 2 ts 2) at ts = noted f g (head_of ts) (be_at 2 ts 2) at ts w.noted in
    let label : label_value (head_of ts) ts ≡ label_value (head_of ts) t =
    ap (label_value (head_of ts)) (sym both) ∙ label_append (head_of ts) (be_at 2 ts 2) t us k.fits (omega arith) in
    record {
      whole = record { adds = omega arith; fits = rw (head, field) at k.fits; low = rw (label, head) at k.low };
      once = rw head at k.once;
      is = rw head at k.is;
    }

nil : (ts : List ℕ) → length ts ≡ 0 → ts ≡ []
nil [] e = refl
nil (x ∷ xs) e = absurd (omega arith)

-- a turn ends where there is nothing more, and only there
pub nothing_ends : (f : Found) (at : ℕ) → turn_of f at [] ≡ Turn.End
unfolding turn_of
nothing_ends f at = refl

pub end_empty : (f : Found) (at : ℕ) (ts : List ℕ) → turn_of f at ts ≡ Turn.End → ts ≡ []
unfolding turn_of
end_empty f at ts e = go (eqb (length ts) 0) (ltb (length ts) (size_of ts)) (noted_of f (head_of ts) (be_at 2 ts 2) at ts) refl e
  where
    go : (b₁ b₂ : Bool) (w : Option Found) → eqb (length ts) 0 ≡ b₁ → pick b₁ Turn.End (pick b₂ Turn.Malformed (taken_of w (size_of ts))) ≡ Turn.End → ts ≡ []
    go true b₂ w q h = nil ts (eqb-true (length ts) 0 q)
    go false true w q h = no cc
    go false false None q h = no cc
    go false false (Some g) q h = no cc

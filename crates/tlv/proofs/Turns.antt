-- Laws of a turn, of the walk, and of a loop that makes it. Assumes nothing.
use Rattle.std.specs.Prelude.{Option, Some, None}
use Prim.Native.Nat.{ℕ, ◌+◌, ◌-◌, ◌≤◌, ◌<◌, ◌%◌, ◌^◌}
use mathlib.Core.Bool.{Bool, true, false}
use mathlib.Core.List.{List}
use mathlib.Core.Path.{◌≡◌, refl, sym, ◌∙◌, ap}
use native.Mathlib.Nat.{add-zero}
use native.Mathlib.Omega.{arith}
use lib.Dec.{eqb, ltb}
use lib.ListN.{length, drop, length-drop}
use lib.Seq.{drop-drop}
use borrow.Author.Tests.{eq-eqb, ne_eqb, lt-ltb, le-ltb, ltb-false}
use mir.Syntax.{w64}
use mir.Val.{Fits}
use Rattle.octets.specs.Be.{be_at}
use Rattle.octets.specs.Pick.{pick}
use Rattle.octets.proofs.Bytes.{be_at-drop}
use Rattle.octets.proofs.Fix.{fix-step, Shrinks}
use Rattle.tlv.specs.declared.Found.{Found}
use Rattle.tlv.specs.declared.walk.Turn.{Turn}
use Rattle.tlv.specs.Tlv.{tlv_of, head_of, size_of}
use Rattle.tlv.specs.Walk.{noted_of, taken_of, turn_of, Rest, left_of, on_turn, step_of, walk_of}

-- what a turn that goes on has taken: one whole TLV that was noted
pub record Goes (f g : Found) (at n : ℕ) (ts : List ℕ) : Type 0 where
  pub size : n ≡ size_of ts
  pub within : n ≤ length ts
  pub noted : noted_of f (head_of ts) (be_at 2 ts 2) at ts ≡ Some g

pub goes : (f g : Found) (at n : ℕ) (ts : List ℕ) → turn_of f at ts ≡ Turn.Next g n → Goes f g at n ts
unfolding turn_of
goes f g at n ts e = go (eqb (length ts) 0) (ltb (length ts) (size_of ts)) (noted_of f (head_of ts) (be_at 2 ts 2) at ts) refl refl e
  where
    go : (b₁ b₂ : Bool) (w : Option Found) → ltb (length ts) (size_of ts) ≡ b₂ → noted_of f (head_of ts) (be_at 2 ts 2) at ts ≡ w
        → pick b₁ Turn.End (pick b₂ Turn.Malformed (taken_of w (size_of ts))) ≡ Turn.Next g n → Goes f g at n ts
    go true b₂ w q k h = let z : ◌≡◌ {A = ℕ} 0 1 = cc in absurd (omega arith)
    go false true w q k h = let z : ◌≡◌ {A = ℕ} 0 1 = cc in absurd (omega arith)
    go false false None q k h = let z : ◌≡◌ {A = ℕ} 0 1 = cc in absurd (omega arith)
    go false false (Some f') q k h =
        let e' : size_of ts ≡ n = cc in
        let f'' : f' ≡ g = cc in
        record { size = sym e'; within = omega (arith, ltb-false (length ts) (size_of ts) q); noted = cc }

shrinks : Shrinks left_of step_of
shrinks g h r e = go (turn_of r.found r.at r.bytes) refl
  where
    go : (t : Turn) → turn_of r.found r.at r.bytes ≡ t → on_turn g r t ≡ on_turn h r t
    go Turn.End q = refl
    go Turn.Malformed q = refl
    go (Turn.Next f n) q = let w = goes r.found f r.at n r.bytes q in e _ (omega (arith, length-drop n r.bytes))

-- the walk over what is left
abbrev pub walk_rest : Rest → Option Found
walk_rest r = walk_of r.at r.bytes r.found

-- the walk is one turn, and the walk
pub walk_step : (at : ℕ) (ts : List ℕ) (f : Found) → walk_of at ts f ≡ on_turn walk_rest (record { at = at; bytes = ts; found = f }) (turn_of f at ts)
unfolding walk_of
walk_step at ts f = fix-step left_of step_of None shrinks (record { at = at; bytes = ts; found = f })

-- a turn of the loop, by what its call answered
module _ (s : List ℕ) (at : ℕ) (f : Found) (w : Turn) (is : w ≡ turn_of f at (drop at s)) where
  turned : (all : Option Found) → walk_of at (drop at s) f ≡ all → on_turn walk_rest (record { at = at; bytes = drop at s; found = f }) w ≡ all
  turned all inv = rw is (sym (walk_step at (drop at s) f) ∙ inv)

  pub loop_end : (all : Option Found) → walk_of at (drop at s) f ≡ all → w ≡ Turn.End → Some f ≡ all
  loop_end all inv e = rw e at (turned all inv)

  pub loop_malformed : (all : Option Found) → walk_of at (drop at s) f ≡ all → w ≡ Turn.Malformed → None ≡ all
  loop_malformed all inv e = rw e at (turned all inv)

  module _ (g : Found) (n : ℕ) (e : w ≡ Turn.Next g n) where
    pub loop_next : (all : Option Found) → walk_of at (drop at s) f ≡ all → walk_of (at + n) (drop (at + n) s) g ≡ all
    loop_next all inv = rw (e, drop-drop) at (turned all inv)

    loop_goes : Goes f g at n (drop at s)
    loop_goes = goes f g at n (drop at s) (sym is ∙ e)

    pub loop_in : at ≤ length s → at + n ≤ length s
    loop_in h = let x = loop_goes in omega (arith, length-drop at s)

    pub loop_less : at ≤ length s → length s - (at + n) < length s - at
    loop_less h = let x = loop_goes in omega (arith, length-drop at s)

    pub loop_fits : at ≤ length s → length s < 2 ^ 64 → Fits w64 (at + n)
    loop_fits h k = let x = loop_in h in omega arith

pub ruleset loops = (loop_end, loop_malformed, loop_next, loop_in, loop_less, loop_fits)

-- what stands at a place, by the tests and the calls of the code
module _ (s : List ℕ) (at : ℕ) (f : Found) where
  -- over the numbers that the code has read
  at_is : (n t : ℕ) → n ≡ be_at 2 s (at + 2) → t ≡ be_at 2 s at → {w : Turn}
      → w ≡ pick (eqb (length (drop at s)) 0) Turn.End (pick (ltb (length (drop at s)) (4 + n)) Turn.Malformed (taken_of (noted_of f (tlv_of (t % 16384)) n at (drop at s)) (4 + n)))
      → w ≡ turn_of f at (drop at s)
  unfolding turn_of
  at_is n t nq tq e =
      let n' : n ≡ be_at 2 (drop at s) 2 = nq ∙ sym (be_at-drop 2 at s 2) in
      let t' : t ≡ be_at 2 (drop at s) 0 = tq ∙ sym (be_at-drop 2 at s 0 ∙ ap (be_at 2 s) (add-zero at)) in
      rw (n', t') at e

  pub at_end : length s - at ≡ 0 → Turn.End ≡ turn_of f at (drop at s)
  unfolding turn_of
  at_end z = simp (length-drop, eq-eqb (length s - at) 0 z)

  pub at-short : (length s - at ≡ 0 → ⊥) → length s - at < 4 → Turn.Malformed ≡ turn_of f at (drop at s)
  unfolding turn_of
  at-short z h =
      simp (length-drop, ne_eqb (length s - at) 0 z, lt-ltb (length s - at) (size_of (drop at s)) (omega arith))

  module _ (n : ℕ) (nq : n ≡ be_at 2 s (at + 2)) (z : length s - at ≡ 0 → ⊥) where
    pub at-over : length s - at < 4 + n → Turn.Malformed ≡ turn_of f at (drop at s)
    at-over h = at_is n _ nq refl (simp (length-drop, ne_eqb (length s - at) 0 z, lt-ltb (length s - at) (4 + n) h))

    module _ (t : ℕ) (w : Option Found) (wq : w ≡ noted_of f (tlv_of (t % 16384)) n at (drop at s)) (tq : t ≡ be_at 2 s at) (h : 4 + n ≤ length s - at) where
      at_tlv : taken_of w (4 + n) ≡ turn_of f at (drop at s)
      at_tlv = at_is n t nq tq (simp (wq, length-drop, ne_eqb (length s - at) 0 z, le-ltb (length s - at) (4 + n) h))

      pub at-whole : (g : Found) → w ≡ Some g → Turn.Next g (4 + n) ≡ turn_of f at (drop at s)
      at-whole g e = rw e at at_tlv

      pub at_malformed : w ≡ None → Turn.Malformed ≡ turn_of f at (drop at s)
      at_malformed e = rw e at at_tlv

pub ruleset turns = (at_end, at-short, at-over, at-whole, at_malformed)

-- Blocks written to a medium one after the other: where they are all that differs, the medium becomes the image. Assumes nothing.
use Prim.Native.Nat.{ℕ, zero, suc, ◌+◌, ◌-◌, ◌*◌, ◌/◌, ◌%◌, ◌≤◌, ◌<◌}
use mathlib.Core.Bool.{Bool, true, false}
use mathlib.Core.List.{List, [], ◌∷◌, ◌++◌}
use mathlib.Core.Logic.{◌≢◌}
use mathlib.Core.Path.{◌≡◌, refl, sym, ap, ◌∙◌}
use native.Mathlib.Omega.{arith}
use lib.Dec.{eqb}
use lib.ListN.{length, take, get_or}
use lib.Seq.{ext_get_or}
use borrow.Author.Tests.{eqb-true, eqb-false}
use Rattle.octets.specs.Pick.{pick}
use Rattle.octets.proofs.Choice.{by_test}
use Rattle.octets.proofs.Part.{part-at}
use Rattle.block.specs.Check.{block_size}
use Rattle.block0.specs.Layout.{slot_count}
use Rattle.image.specs.Sizes.{block, block_count, blocks_from, further, further_count, image_size, request_block, with_block}
use Rattle.image.proofs.Blocks.{length-block, length-put, block-put, block-other}
use Rattle.calls.specs.Outcomes.{bits_of}
use Rattle.call_meaning.specs.Medium.{told, with_bits, written}

-- ---- images of equal blocks are equal
same_blocks : (x y : List ℕ) → length x ≡ image_size → length y ≡ image_size → ((k : ℕ) → block x k ≡ block y k) → x ≡ y
same_blocks x y lx ly same =
    ext_get_or 0 x y (lx ∙ sym ly) (λ i h.
    let k = i / 512 in
    let place : k * 512 + i % 512 ≡ i = omega arith in
    let inside : i % 512 < k * 512 + 512 - k * 512 = omega arith in
    ap (λ (j : ℕ). get_or x j 0) (sym place)
    ∙ sym (part-at x (k * 512) (k * 512 + 512) (i % 512) inside)
    ∙ ap (λ (b : List ℕ). get_or b (i % 512) 0) (same k)
    ∙ part-at y (k * 512) (k * 512 + 512) (i % 512) inside
    ∙ ap (λ (j : ℕ). get_or y j 0) place)

-- ---- any list of blocks
abbrev pub Without : ℕ → List ℕ → Type 0
Without k [] = Unit {0}
Without k (b ∷ bs) = (k ≢ b) × Without k bs

abbrev pub Within : List ℕ → Type 0
Within [] = Unit {0}
Within (b ∷ bs) = (b < block_count) × Within bs

-- blocks written one after the other: where they are all that differs, the medium becomes the image
pub written_all : (medium next bs : List ℕ) → length medium ≡ image_size → length next ≡ image_size → Within bs
    → ((k : ℕ) → Without k bs → block next k ≡ block medium k) → written medium next bs ≡ next
written_all medium next [] lm ln within same = same_blocks medium next lm ln (λ k. sym (same k tt))
written_all medium next (b ∷ bs) lm ln within same =
    let inside : b * 512 + 512 ≤ length medium = omega (arith, within.0) in
    let long : length (block next b) ≡ block_size = length-block next b (omega (arith, within.0)) in
    written_all (with_block medium b (block next b)) next bs (length-put medium b (block next b) ∙ lm) ln within.1 (λ k w.
    by_test (eqb k b)
    (λ e. let q : k ≡ b = eqb-true k b e in rw q (sym (block-put medium b (block next b) inside long)))
    (λ n. let a : k ≢ b = eqb-false k b n in same k (a, w) ∙ sym (block-other medium b (block next b) inside long k a)))

-- what holds of the medium wherever the power may go before all of them are written
abbrev Stops : (List ℕ → Type 0) → List ℕ → List ℕ → List ℕ → Type 0
Stops P medium next [] = Unit {0}
Stops P medium next (b ∷ bs) = P medium × Stops P (with_block medium b (block next b)) next bs

fewer_written : (P : List ℕ → Type 0) (medium next bs : List ℕ) (n : ℕ) → n < length bs → Stops P medium next bs → P (written medium next (take n bs))
fewer_written P medium next [] n less stops = absurd (omega arith)
fewer_written P medium next (b ∷ bs) zero less stops = stops.0
fewer_written P medium next (b ∷ bs) (suc n) less stops = fewer_written P (with_block medium b (block next b)) next bs n (omega arith) stops.1

-- ---- the further blocks that the bits of an outcome name
abbrev chosen : (ℕ → Bool) → List ℕ → List ℕ
chosen named [] = []
chosen named (b ∷ bs) = pick (named b) (b ∷ []) [] ++ chosen named bs

module _ (named : ℕ → Bool) where
  bits_read : (bs : List ℕ) → with_bits (bits_of named bs) bs ≡ chosen named bs
  bits_read [] = refl
  bits_read (b ∷ bs) =
      let rest : ℕ = bits_of named bs in
      by_test (named b)
      (λ t.
      let odd : (1 + 2 * rest) % 2 ≡ 1 = omega arith in
      let less : (1 + 2 * rest) / 2 ≡ rest = omega arith in
      rw (t, odd, less) (ap (λ (l : List ℕ). b ∷ l) (bits_read bs)))
      (λ f.
      let even : (0 + 2 * rest) % 2 ≡ 0 = omega arith in
      let less : (0 + 2 * rest) / 2 ≡ rest = omega arith in
      rw (f, even, less) (bits_read bs))

  none_chosen : (n b : ℕ) → ((k : ℕ) → b ≤ k → named k ≡ false) → chosen named (blocks_from b n) ≡ []
  none_chosen zero b none = refl
  none_chosen (suc n) b none = rw (none b (omega arith), none_chosen n (b + 1) (λ k l. none k (omega arith)))

  one_chosen : (n b c : ℕ) → b ≤ c → c < b + n → ((k : ℕ) → b ≤ k → k ≢ c → named k ≡ false) → chosen named (blocks_from b n) ≡ pick (named c) (c ∷ []) []
  one_chosen zero b c low high others = absurd (omega arith)
  one_chosen (suc n) b c low high others =
      by_test (eqb b c)
      (λ t.
      let e : b ≡ c = eqb-true b c t in
      rw (e, none_chosen n (c + 1) (λ k l. others k (omega arith) (omega arith))) (by_test (named c) (λ y. rw y) (λ y. rw y)))
      (λ f. let apart : b ≢ c = eqb-false b c f in let low' : b + 1 ≤ c = omega arith in rw (others b (omega arith) apart) (one_chosen n (b + 1) c low' (omega arith) (λ k l. others k (omega arith))))

  -- where at most block c of them is another, they are that one or none
  pub further_read : (c : ℕ) → request_block ≤ c → c < block_count → ((k : ℕ) → request_block ≤ k → k ≢ c → named k ≡ false)
      → with_bits (bits_of named further) further ≡ pick (named c) (c ∷ []) []
  further_read c low high others = bits_read further ∙ one_chosen further_count request_block c low high others

-- ---- the blocks that an outcome tells: of the further ones at most block c
module _ (c : ℕ) (low : slot_count < c) where
  abbrev told_one : Bool → ℕ → Bool → Bool → List ℕ
  told_one none slot r z = told none slot (pick r (c ∷ []) []) z

  pub told-within : (none : Bool) (slot : ℕ) (r z : Bool) → slot ≤ slot_count → c < block_count → Within (told_one none slot r z)
  told-within true slot true true small high = (high, (omega arith, tt))
  told-within true slot true false small high = (high, tt)
  told-within true slot false true small high = (omega arith, tt)
  told-within true slot false false small high = tt
  told-within false slot true true small high = (omega arith, (high, (omega arith, tt)))
  told-within false slot true false small high = (omega arith, (high, tt))
  told-within false slot false true small high = (omega arith, (omega arith, tt))
  told-within false slot false false small high = (omega arith, tt)

  -- a block that is not told is neither the slot's, nor a further block or a block 0 that changed
  pub not-zeroth : (none : Bool) (slot : ℕ) (r z : Bool) → Without 0 (told_one none slot r z) → z ≡ false
  not-zeroth true slot true true w = absurd (w.1.0 refl)
  not-zeroth true slot true false w = refl
  not-zeroth true slot false true w = absurd (w.0 refl)
  not-zeroth true slot false false w = refl
  not-zeroth false slot true true w = absurd (w.1.1.0 refl)
  not-zeroth false slot true false w = refl
  not-zeroth false slot false true w = absurd (w.1.0 refl)
  not-zeroth false slot false false w = refl

  pub not-further : (none : Bool) (slot : ℕ) (r z : Bool) → Without c (told_one none slot r z) → r ≡ false
  not-further true slot true z w = absurd (w.0 refl)
  not-further true slot false z w = refl
  not-further false slot true z w = absurd (w.1.0 refl)
  not-further false slot false z w = refl

  pub not-slot : (none : Bool) (slot : ℕ) (r z : Bool) (k : ℕ) → none ≡ eqb slot 0 → k ≢ 0 → Without k (told_one none slot r z) → k ≢ slot
  not-slot true slot r z k is some w = λ e. some (e ∙ eqb-true slot 0 (sym is))
  not-slot false slot r z k is some w = w.0

  -- fewer than all of them: nothing, the slot alone, or the slot, if there is one, and the further block
  module _ (P : List ℕ → Type 0) (medium next : List ℕ) where
    told_stops : (none : Bool) (slot : ℕ) (r z : Bool) → P medium → (none ≡ false → P (with_block medium slot (block next slot)))
        → (r ≡ true → P (with_block (pick none medium (with_block medium slot (block next slot))) c (block next c))) → Stops P medium next (told_one none slot r z)
    told_stops true slot true true nothing alone both = (nothing, (both refl, tt))
    told_stops true slot true false nothing alone both = (nothing, tt)
    told_stops true slot false true nothing alone both = (nothing, tt)
    told_stops true slot false false nothing alone both = tt
    told_stops false slot true true nothing alone both = (nothing, (alone refl, (both refl, tt)))
    told_stops false slot true false nothing alone both = (nothing, (alone refl, tt))
    told_stops false slot false true nothing alone both = (nothing, (alone refl, tt))
    told_stops false slot false false nothing alone both = (nothing, tt)

    pub fewer_told : (none : Bool) (slot : ℕ) (r z : Bool) (n : ℕ) → n < length (told_one none slot r z) → P medium → (none ≡ false → P (with_block medium slot (block next slot)))
        → (r ≡ true → P (with_block (pick none medium (with_block medium slot (block next slot))) c (block next c))) → P (written medium next (take n (told_one none slot r z)))
    fewer_told none slot r z n less nothing alone both = fewer_written P medium next (told_one none slot r z) n less (told_stops none slot r z nothing alone both)

-- Which further blocks a call tells: those whose bytes are others, at most the one that it writes. Assumes nothing.
use Prim.Native.Nat.{ℕ, zero, suc, ◌+◌, ◌-◌, ◌≤◌, ◌<◌}
use mathlib.Core.Bool.{Bool, false}
use mathlib.Core.List.{List}
use mathlib.Core.Logic.{◌≢◌}
use mathlib.Core.Path.{◌≡◌, refl}
use native.Mathlib.Omega.{arith}
use lib.Dec.{eqb}
use lib.ListN.{length}
use borrow.Author.Tests.{eqb-true, eqb-false}
use Rattle.octets.specs.Pick.{pick}
use Rattle.octets.proofs.Choice.{by_test}
use Rattle.octets.proofs.Differ.{differ_self}
use Rattle.block0.specs.declared.Header.{Header}
use Rattle.image.specs.Events.{break_of, release_of}
use Rattle.image.specs.Sizes.{block, blocks_from, further_count, image_size, request_block}
use Rattle.image.specs.State.{store0}
use Rattle.image.proofs.Stored.{zeroth-other}
use Rattle.calls.specs.Further.{bit_at}
use Rattle.calls.specs.Outcomes.{bits_of, further_bits, is_other}

module _ (named : ℕ → Bool) where
  -- none of the blocks is named
  pub bits_none : (n b : ℕ) → ((k : ℕ) → b ≤ k → named k ≡ false) → bits_of named (blocks_from b n) ≡ 0
  bits_none zero b none = refl
  bits_none (suc n) b none = rw (none b (omega arith), bits_none n (b + 1) (λ k l. none k (omega arith)))

  -- at most block c is
  pub bits_one : (n b c : ℕ) → b ≤ c → c < b + n → ((k : ℕ) → b ≤ k → k ≢ c → named k ≡ false) → bits_of named (blocks_from b n) ≡ pick (named c) (bit_at (c - b)) 0
  bits_one zero b c low high others = absurd (omega arith)
  bits_one (suc n) b c low high others =
      by_test (eqb b c)
      (λ t.
      let e : b ≡ c = eqb-true b c t in
      let z : c - c ≡ 0 = omega arith in
      rw (e, z, bits_none n (c + 1) (λ k l. others k (omega arith) (omega arith))) (by_test (named c) (λ y. rw y) (λ y. rw y)))
      (λ f.
      let apart : b ≢ c = eqb-false b c f in
      let more : c - b ≡ suc (c - (b + 1)) = omega arith in
      rw (others b (omega arith) apart, more, bits_one n (b + 1) c (omega arith) (omega arith) (λ k l. others k (omega arith))) (by_test (named c) (λ y. rw y (omega arith)) (λ y. rw y)))

-- an image that stays tells none
pub further_self : (im : List ℕ) → further_bits im im ≡ 0
further_self im = bits_none (is_other im im) further_count request_block (λ k l. differ_self (block im k))

-- a store of block 0 leaves the further blocks, so do a break and a release
module _ (im : List ℕ) (size : length im ≡ image_size) where
  pub further_none : (h : Header) (ls : List ℕ) → further_bits im (store0 im h ls) ≡ 0
  further_none h ls = bits_none (is_other im (store0 im h ls)) further_count request_block (λ k l. rw (zeroth-other im size h ls k (omega arith), differ_self (block im k)))

  pub further_break : further_bits im (break_of im) ≡ 0
  unfolding break_of
  further_break = further_none _ _

  pub further-release : further_bits im (release_of im) ≡ 0
  unfolding release_of
  further-release = further_none _ _

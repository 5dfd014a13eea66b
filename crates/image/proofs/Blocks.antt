-- One block of an image put, and the others as they were. Assumes nothing.
use Prim.Native.Nat.{ℕ, ◌+◌, ◌-◌, ◌*◌, ◌≤◌, ◌<◌}
use mathlib.Core.List.{List, ◌++◌}
use mathlib.Core.Logic.{◌≢◌}
use mathlib.Core.Path.{◌≡◌, ◌∙◌, sym, ap}
use native.Mathlib.Omega.{arith, ne_cases}
use lib.ListN.{length, take, take-append-drop, drop}
use Rattle.octets.proofs.Laid.{length-laid, laid-between}
use Rattle.octets.proofs.Part.{length_part, part_same, part-before, part-after}
use Rattle.block.specs.Check.{block_size}
use Rattle.image.specs.Sizes.{block, with_block}

pub length-block : (image : List ℕ) (b : ℕ) → b * block_size + block_size ≤ length image → length (block image b) ≡ block_size
length-block image b h = length_part image (b * 512) (b * 512 + 512) h ∙ omega arith

pub length-put : (image : List ℕ) (b : ℕ) (p : List ℕ) → length (with_block image b p) ≡ length image
length-put image b p = length-laid image (b * 512) p

module _ (image : List ℕ) (b : ℕ) (p : List ℕ) (inside : b * block_size + block_size ≤ length image) (long : length p ≡ block_size) where
  fits : length p ≡ b * 512 + 512 - b * 512
  fits = long ∙ omega arith

  -- a block that was written is read back
  pub block-put : block (with_block image b p) b ≡ p
  block-put = part_same image (b * 512) (b * 512 + 512) p (omega arith) inside fits

  -- every other block is as it was
  pub block-other : (c : ℕ) → c ≢ b → block (with_block image b p) c ≡ block image c
  block-other c apart =
      ne_cases c b (block (with_block image b p) c ≡ block image c) apart
      (λ (l : c < b). part-before image (b * 512) (b * 512 + 512) p (c * 512) (c * 512 + 512) (omega arith) inside fits (omega arith) (omega arith))
      (λ (l : b < c). part-after image (b * 512) (b * 512 + 512) p (c * 512) (c * 512 + 512) (omega arith) inside fits (omega arith))

-- a block that is there already
pub put_same : (image : List ℕ) (b : ℕ) → b * block_size + block_size ≤ length image → with_block image b (block image b) ≡ image
put_same image b inside =
    let fits : length (block image b) ≡ b * 512 + 512 - b * 512 = length_part image (b * 512) (b * 512 + 512) inside in
    sym (laid-between image (b * 512) (b * 512 + 512) (block image b) (omega arith) inside fits)
    ∙ ap (λ (l : List ℕ). take (b * 512) image ++ l) (take-append-drop (b * 512 + 512 - b * 512) (drop (b * 512) image))
    ∙ take-append-drop (b * 512) image

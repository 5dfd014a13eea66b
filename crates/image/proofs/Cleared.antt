-- Blocks that are emptied one after the other, and the others as they were. Assumes nothing.
use Prim.Native.Nat.{ℕ, zero, suc, ◌+◌, ◌-◌, ◌*◌, ◌≤◌, ◌<◌}
use mathlib.Core.List.{List}
use mathlib.Core.Path.{◌≡◌, refl, ap, ◌∙◌}
use native.Mathlib.Omega.{arith}
use lib.ListN.{length, get_or}
use Rattle.block.specs.Check.{block_size}
use Rattle.word_block.specs.Layout.{word_block, no_words}
use Rattle.word_block.proofs.Written.{length-word_block}
use Rattle.image.specs.Sizes.{block, block_count, blocks_from, cleared, with_block}
use Rattle.image.proofs.Blocks.{length-put, block-other, block-put}

-- ---- the blocks from one on
pub from_length : (b n : ℕ) → length (blocks_from b n) ≡ n
from_length b zero = refl
from_length b (suc n) = ap suc (from_length (b + 1) n)

pub from_at : (b n k : ℕ) → k < n → get_or (blocks_from b n) k 0 ≡ b + k
from_at b zero k l = absurd (omega arith)
from_at b (suc n) zero l = omega arith
from_at b (suc n) (suc k) l = from_at (b + 1) n k (omega arith) ∙ omega arith

-- ---- they are emptied
pub length-cleared : (n b : ℕ) (image : List ℕ) → length (cleared image (blocks_from b n)) ≡ length image
length-cleared zero b image = refl
length-cleared (suc n) b image = length-cleared n (b + 1) (with_block image b (word_block no_words)) ∙ length-put image b (word_block no_words)

-- a block before them keeps its bytes
pub cleared-before : (n b : ℕ) (image : List ℕ) → (b + n) * block_size ≤ length image → (c : ℕ) → c < b → block (cleared image (blocks_from b n)) c ≡ block image c
cleared-before zero b image room c l = refl
cleared-before (suc n) b image room c l =
    cleared-before n (b + 1) (with_block image b (word_block no_words)) (omega (arith, length-put image b (word_block no_words))) c (omega arith)
    ∙ block-other image b (word_block no_words) (omega arith) (length-word_block no_words) c (omega arith)

-- each of them is empty
pub cleared_at : (n b : ℕ) (image : List ℕ) → (b + n) * block_size ≤ length image → (k : ℕ) → k < n → block (cleared image (blocks_from b n)) (b + k) ≡ word_block no_words
cleared_at zero b image room k l = absurd (omega arith)
cleared_at (suc n) b image room zero l =
    let e : b + 0 ≡ b = omega arith in
    rw e
    (cleared-before n (b + 1) (with_block image b (word_block no_words)) (omega (arith, length-put image b (word_block no_words))) b (omega arith)
    ∙ block-put image b (word_block no_words) (omega arith) (length-word_block no_words))
cleared_at (suc n) b image room (suc k) l =
    let e : b + suc k ≡ b + 1 + k = omega arith in
    rw e (cleared_at n (b + 1) (with_block image b (word_block no_words)) (omega (arith, length-put image b (word_block no_words))) k (omega arith))

-- ---- a loop that has come to block b
pub cleared_end : (image : List ℕ) (b : ℕ) {all : List ℕ} → block_count ≤ b → cleared image (blocks_from b (block_count - b)) ≡ all → image ≡ all
cleared_end image b past inv =
    let none : block_count - b ≡ 0 = omega arith in
    rw none at inv

pub cleared-next : (image : List ℕ) (b : ℕ) {all next : List ℕ} → b < block_count → next ≡ with_block image b (word_block no_words)
    → cleared image (blocks_from b (block_count - b)) ≡ all → cleared next (blocks_from (b + 1) (block_count - (b + 1))) ≡ all
cleared-next image b inside e inv =
    let more : block_count - b ≡ suc (block_count - (b + 1)) = omega arith in
    rw e (rw more at inv)

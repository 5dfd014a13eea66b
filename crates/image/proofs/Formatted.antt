-- An image of zeros, and a new image. Assumes nothing.
use Rattle.std.specs.Prelude.{Ok, Err}
use Prim.Native.Nat.{ℕ, ◌+◌, ◌*◌, ◌≤◌}
use mathlib.Core.List.{List}
use mathlib.Core.Path.{◌≡◌, refl, sym, ◌∙◌}
use native.Mathlib.Omega.{arith}
use lib.ListN.{length, replicate}
use lib.Seq.{ext_get_or}
use borrow.Author.Tests.{eq-eqb, ne_eqb}
use Rattle.octets.specs.Laid.{laid}
use Rattle.octets.proofs.Fill.{length_zeros, zeros_at}
use Rattle.octets.proofs.Laid.{laid_all}
use Rattle.octets.proofs.Part.{part-at}
use Rattle.block.specs.Check.{block_size}
use Rattle.image.specs.declared.ImageFault.{ImageFault}
use Rattle.image.specs.Events.{size_verdict, release_of, new_image, formatted_image}
use Rattle.image.specs.Sizes.{image_size, block, cleared, further}
use Rattle.image.proofs.Blocks.{length-block}

-- a block of zeros
pub block_zeros : (n b : ℕ) → b * block_size + block_size ≤ n → block (replicate n 0) b ≡ replicate block_size 0
block_zeros n b h =
    let long : length (block (replicate n 0) b) ≡ block_size = length-block (replicate n 0) b (rw length_zeros h) in
    ext_get_or 0 (block (replicate n 0) b) (replicate block_size 0) (long ∙ sym (length_zeros block_size)) (λ i l.
    part-at (replicate n 0) (b * 512) (b * 512 + 512) i (omega arith) ∙ zeros_at n (b * 512 + i) ∙ sym (zeros_at block_size i))

module _ (s : List ℕ) where
  pub format_refused : (length s ≡ image_size → ⊥) → ((Err ImageFault.WrongSize) ≡ size_verdict s) × (s ≡ formatted_image s)
  unfolding size_verdict formatted_image
  format_refused h = simp (ne_eqb (length s) image_size h) (refl, refl)

  pub format-done : length s ≡ image_size → {z c t : List ℕ} → z ≡ laid s 0 (replicate image_size 0) → c ≡ cleared z further → t ≡ release_of c
      → ((Ok tt) ≡ size_verdict s) × (t ≡ formatted_image s)
  unfolding size_verdict formatted_image new_image release_of
  format-done size ez ec et =
      simp (eq-eqb (length s) image_size size) (refl, et ∙ rw (ec, ez, laid_all s (replicate image_size 0) (length_zeros image_size ∙ sym size)))

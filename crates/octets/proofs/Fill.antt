-- Zeros. Assumes nothing.
use Rattle.std.proofs.lemmas.List.{replicate-append-replicate}
use Prim.Native.Nat.{ℕ, zero, suc, ◌+◌}
use mathlib.Core.List.{List, [], ◌∷◌}
use mathlib.Core.Path.{◌≡◌, refl, sym, ap, ◌∙◌}
use lib.ListN.{length, get_or, set, replicate, length-replicate}
use Rattle.octets.specs.Laid.{laid}
use Rattle.octets.proofs.Laid.{laid-laid}

-- said at ℕ, so that no check writes a large list out
pub length_zeros : (n : ℕ) → length {A = ℕ} (replicate n 0) ≡ n
length_zeros n = length-replicate n 0

pub zeros_at : (n i : ℕ) → ◌≡◌ {A = ℕ} (get_or (replicate n 0) i 0) 0
zeros_at zero i = refl
zeros_at (suc n) zero = refl
zeros_at (suc n) (suc i) = zeros_at n i

-- one zero more
pub laid_zero : (s : List ℕ) (at i : ℕ) → set (laid s at (replicate i 0)) (at + i) 0 ≡ laid s at (replicate (i + 1) 0)
unfolding laid
laid_zero s at i =
    ap (λ (k : ℕ). set (laid s at (replicate i 0)) (at + k) 0) (sym (length_zeros i))
    ∙ laid-laid s at (replicate i 0) (0 ∷ [])
    ∙ ap (laid s at) (replicate-append-replicate i 1 0)

-- The laws of `be_at`, each once over the width. Assumes nothing.
use Prim.Native.Nat.{ℕ, zero, suc, ◌+◌, ◌*◌, ◌^◌, ◌≤◌, ◌<◌}
use mathlib.Core.List.{List}
use mathlib.Core.Logic.{⊎_elim}
use mathlib.Core.Path.{◌≡◌, refl, sym, ap, ◌∙◌}
use native.Mathlib.Nat.{add-zero, pow-suc, eq-or-lt_of_le, le_of_suc-le-suc}
use native.Mathlib.Omega.{arith}
use lib.ListN.{get_or, take, drop}
use lib.Seq.{get_or-take, get_or-drop}
use Rattle.octets.specs.Be.{be_at}
use Rattle.octets.specs.Bytes.{Bytes}

-- each step is uniform, the first too
pub be_at-suc : (w : ℕ) (s : List ℕ) (at : ℕ) → be_at (suc w) s at ≡ be_at w s at * 256 + get_or s (at + w) 0
be_at-suc zero s at = rw add-zero (omega arith)
be_at-suc (suc w) s at = refl

-- two lists that agree on a field's bytes hold the same number there, also at another offset
pub be_at_same : (w : ℕ) (s t : List ℕ) (at to : ℕ) → ((k : ℕ) → k < w → get_or s (at + k) 0 ≡ get_or t (to + k) 0) → be_at w s at ≡ be_at w t to
be_at_same zero s t at to same = refl
be_at_same (suc w) s t at to same =
    rw (be_at-suc w s at, be_at-suc w t to) (cc (be_at_same w s t at to (λ k h. same k (omega arith)), same w (omega arith)))

pub pos : (w : ℕ) → 0 < 256 ^ w
pos zero = omega arith
pos (suc w) = omega (arith, pos w)

-- a field of a part of a list is a field of the list
pub be_at-part : (w n from at : ℕ) (s : List ℕ) → at + w ≤ n → be_at w (take n (drop from s)) at ≡ be_at w s (from + at)
be_at-part w n from at s fits =
    be_at_same w (take n (drop from s)) s at (from + at) (λ k h.
    let inside : at + k < n = omega arith in
    rw (get_or-take, get_or-drop) (ap (λ (i : ℕ). get_or s i 0) (omega arith)))

-- w bytes spell a number of that width
pub be_at-lt : (w : ℕ) (s : List ℕ) (at : ℕ) → Bytes s → be_at w s at < 256 ^ w
be_at-lt zero s at byte = omega arith
be_at-lt (suc w) s at byte = rw (be_at-suc, pow-suc) (omega (arith, byte (at + w), be_at-lt w s at byte))

-- a field of bytes that are zero is zero, and so are the bytes of a field that is
pub zeros_be_at : (w : ℕ) (s : List ℕ) (at : ℕ) → ((k : ℕ) → k < w → get_or s (at + k) 0 ≡ 0) → be_at w s at ≡ 0
zeros_be_at zero s at z = refl
zeros_be_at (suc w) s at z = rw (be_at-suc, zeros_be_at w s at (λ k l. z k (omega arith)), z w (omega arith))

pub be_at_zeros : (w : ℕ) (s : List ℕ) (at : ℕ) → be_at w s at ≡ 0 → (k : ℕ) → k < w → get_or s (at + k) 0 ≡ 0
be_at_zeros zero s at e k l = absurd (omega arith)
be_at_zeros (suc w) s at e k l =
    let sum : be_at w s at * 256 + get_or s (at + w) 0 ≡ 0 = sym (be_at-suc w s at) ∙ e in
    ⊎_elim
    (λ (h : k ≡ w). rw h (omega arith))
    (λ (h : k < w). be_at_zeros w s at (omega arith) k h)
    (eq-or-lt_of_le (le_of_suc-le-suc l))

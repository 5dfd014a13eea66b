-- A ring of slots read as a list. Assumes nothing.
use Prim.Native.Nat.{ℕ, zero, suc, ◌+◌, ◌-◌, ◌%◌, ◌≤◌, ◌<◌}
use mathlib.Core.List.{[], ◌∷◌, ◌++◌}
use mathlib.Core.Path.{◌≡◌, refl, ap, ◌∙◌}
use native.Mathlib.Omega.{arith}
use lib.ListN.{length, get_or, drop}
use Rattle.block0.specs.Layout.{slot_count}
use Rattle.image.specs.Ring.{ring}
use Rattle.image.specs.Sizes.{slot_at}

pub ring-length : {A : Type 0} (sl : ℕ → A) (f n : ℕ) → length (ring sl f n) ≡ n
unfolding ring
ring-length sl f zero = refl
ring-length sl f (suc n) = ap suc (ring-length sl (f + 1) n)

-- two rings that agree on the live slots
pub ring_same : {A : Type 0} (sl sm : ℕ → A) (f n : ℕ) → ((i : ℕ) → i < n → sl (slot_at f i) ≡ sm (slot_at f i)) → ring sl f n ≡ ring sm f n
unfolding ring
ring_same sl sm f zero same = refl
ring_same sl sm f (suc n) same =
    let e : f + 0 ≡ f = omega arith in
    let first : sl (f % slot_count) ≡ sm (f % slot_count) = rw e at (same 0 (omega arith)) in
    rw (first, ring_same sl sm (f + 1) n (λ i l. let e : f + suc i ≡ f + 1 + i = omega arith in rw e at (same (suc i) (omega arith))))

-- only the place modulo 64 counts
pub ring-mod : {A : Type 0} (sl : ℕ → A) (n f g : ℕ) → f % slot_count ≡ g % slot_count → ring sl f n ≡ ring sl g n
unfolding ring
ring-mod sl zero f g e = refl
ring-mod sl (suc n) f g e = rw (e, ring-mod sl n (f + 1) (g + 1) (omega arith))

-- one more at the end
pub ring_snoc : {A : Type 0} (sl : ℕ → A) (f n : ℕ) → ring sl f (n + 1) ≡ ring sl f n ++ (sl (slot_at f n) ∷ [])
unfolding ring
ring_snoc sl f zero = ap (λ (k : ℕ). sl (k % slot_count) ∷ []) (omega arith)
ring_snoc sl f (suc n) =
    let e : f + suc n ≡ f + 1 + n = omega arith in
    let g : suc n + 1 ≡ suc (n + 1) = omega arith in
    rw (g, e) (ap (◌∷◌ (sl (f % slot_count))) (ring_snoc sl (f + 1) n))

-- the one at place i
pub ring-at : {A : Type 0} (sl : ℕ → A) (d : A) (f n i : ℕ) → i < n → get_or (ring sl f n) i d ≡ sl (slot_at f i)
unfolding ring
ring-at sl d f zero i h = absurd (omega arith)
ring-at sl d f (suc n) zero h = ap (λ (k : ℕ). sl (k % slot_count)) (omega arith)
ring-at sl d f (suc n) (suc i) h = ring-at sl d (f + 1) n i (omega arith) ∙ ap (λ (k : ℕ). sl (k % slot_count)) (omega arith)

-- the first k let go
pub ring-drop : {A : Type 0} (sl : ℕ → A) (f n k : ℕ) → k ≤ n → drop k (ring sl f n) ≡ ring sl (slot_at f k) (n - k)
unfolding ring
ring-drop sl f n zero h =
    let e : n - 0 ≡ n = omega arith in
    rw e (ring-mod sl n f (slot_at f 0) (omega arith))
ring-drop sl f zero (suc k) h = absurd (omega arith)
ring-drop sl f (suc n) (suc k) h =
    let e : suc n - suc k ≡ n - k = omega arith in
    ring-drop sl (f + 1) n k (omega arith)
    ∙ rw e (ring-mod sl (n - k) (slot_at (f + 1) k) (slot_at f (suc k)) (omega arith))

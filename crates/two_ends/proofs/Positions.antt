-- Positions in a history and their numbers on the circle. Assumes nothing.
use Rattle.std.specs.Prelude.{Some}
use Prim.Native.Nat.{ℕ, zero, suc, ◌+◌, ◌-◌, ◌≤◌}
use mathlib.Core.Path.{◌≡◌, sym, ap, ◌∙◌}
use native.Mathlib.Omega.{arith}
use borrow.Author.Tests.{le-ltb}
use Rattle.ft_number.specs.Ack.{ack_of}
use Rattle.ft_number.specs.Circle.{circle, next, after, steps_of}
use Rattle.ft_number.proofs.Circle.{after-add, after_none, after-suc, steps-after}
use Rattle.protocol.specs.Phases.{count_of}

-- the number of the k-th message: the k-th successor of "none"
abbrev pub num : ℕ → ℕ
num k = after k 0

pub num-le : (k : ℕ) → num k ≤ circle
num-le zero = rw (after_none 0) (omega arith)
num-le (suc k) = rw (after-suc k 0) (omega arith)

-- n successors on
pub num-after : (k n : ℕ) → after n (num k) ≡ num (k + n)
num-after k n = sym (after-add n k 0) ∙ ap num (omega arith)

pub num-next : (k : ℕ) → next (num k) ≡ num (suc k)
num-next k = sym (after-suc k 0)

-- the steps from one to a later one in the window
pub num-steps : (j k : ℕ) → j ≤ k → k ≤ j + 64 → steps_of (num j) (num k) ≡ Some (k - j)
num-steps j k low high =
    let there : j + (k - j) ≡ k = omega arith in
    ap (steps_of (num j)) (sym (num-after j (k - j) ∙ ap num there)) ∙ steps-after (num j) (k - j) (num-le j) (omega arith)

pub num-count : (j k : ℕ) → j ≤ k → k ≤ j + 64 → count_of (steps_of (num j) (num k)) ≡ k - j
num-count j k low high = ap count_of (num-steps j k low high)

-- an acknowledgement of a place in the window is right, and releases the places up to it
pub num_ack : (r i k : ℕ) → r ≤ k → k ≤ i → i ≤ r + 64 → ack_of (num r) (num i) (num k) ≡ Some (k - r)
unfolding ack_of
num_ack r i k low few high =
    let near : k ≤ r + 64 = omega arith in
    let far : r ≤ i = omega arith in
    rw (num-steps r k low near, num-steps r i far high, le-ltb (i - r) (k - r) (omega arith))

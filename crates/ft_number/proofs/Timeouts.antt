-- What the lesser timeout means, zero counting as infinite, and that its unit does not matter. Assumes nothing.
use Prim.Native.Nat.{ℕ, zero, suc, min, ◌*◌, ◌^◌, ◌<◌, ◌≤◌}
use mathlib.Core.Logic.{⊎_elim}
use mathlib.Core.Path.{◌≡◌, refl, sym, ◌∙◌}
use native.Mathlib.Nat.{zero-mul, mul-zero, mul-le-mul_right, le_of_lt}
use native.Mathlib.Numerals.{unary_clauses}
use native.Mathlib.Omega.{arith}
use Rattle.octets.proofs.Choice.{below_or_not}
use Rattle.ft_number.specs.declared.Form.{Form}
use Rattle.ft_number.specs.declared.Proposal.{Proposal}
use Rattle.ft_number.specs.declared.Timeout.{Timeout}
use Rattle.ft_number.specs.Timeout.{lesser_of, millis_per_second, millis_of, default_timeout, proposed_of, TimeoutFits}

-- zero is its neutral element ..
pub lesser_none : (a : ℕ) → (lesser_of 0 a ≡ a) × (lesser_of a 0 ≡ a)
unfolding lesser_of
lesser_none zero = (refl, refl)
lesser_none (suc a) = (refl, refl)

-- the order does not matter
pub lesser_commutes : (a b : ℕ) → lesser_of a b ≡ lesser_of b a
unfolding lesser_of
lesser_commutes zero zero = refl
lesser_commutes zero (suc b) = refl
lesser_commutes (suc a) zero = refl
lesser_commutes (suc a) (suc b) = omega arith

-- .. and it alone gives zero
pub lesser_zero : (a b : ℕ) → lesser_of a b ≡ 0 → (a ≡ 0) × (b ≡ 0)
unfolding lesser_of
lesser_zero zero b e = (refl, e)
lesser_zero (suc a) zero e = absurd (omega arith)
lesser_zero (suc a) (suc b) e = absurd (omega arith)

-- it is never longer than a side that is not infinite, and is one of the two
pub record Lesser (a b r : ℕ) : Type 0 where
  pub left : 0 < a → r ≤ a
  pub right : 0 < b → r ≤ b
  pub finite : 0 < a → 0 < r
  pub either : (r < a → r ≡ b) × (r < b → r ≡ a)

-- it is never longer than a side that is not 0
pub lesser_is : (a b : ℕ) → Lesser a b (lesser_of a b)
unfolding lesser_of
lesser_is zero b = record { left = λ l. absurd (omega arith); right = λ l. omega arith; finite = λ l. absurd (omega arith); either = (λ l. refl, λ l. absurd (omega arith)) }
lesser_is (suc a) zero = record { left = λ l. omega arith; right = λ l. absurd (omega arith); finite = λ l. omega arith; either = (λ l. absurd (omega arith), λ l. refl) }
lesser_is (suc a) (suc b) = record { left = λ l. omega arith; right = λ l. omega arith; finite = λ l. omega arith; either = (λ l. omega arith, λ l. omega arith) }

-- two finite timeouts: the lesser
lesser_some : (a b : ℕ) → 0 < a → 0 < b → lesser_of a b ≡ min a b
unfolding lesser_of
lesser_some zero b h k = absurd (omega arith)
lesser_some (suc a) zero h k = absurd (omega arith)
lesser_some (suc a) (suc b) h k = refl

-- nor does the grouping
pub lesser_assoc : (a b c : ℕ) → lesser_of (lesser_of a b) c ≡ lesser_of a (lesser_of b c)
unfolding lesser_of
lesser_assoc zero b c = refl
lesser_assoc (suc a) zero c = refl
lesser_assoc (suc a) (suc b) zero = (lesser_none (min (suc a) (suc b))).1
lesser_assoc (suc a) (suc b) (suc c) =
    lesser_some (min (suc a) (suc b)) (suc c) (omega arith) (omega arith)
    ∙ omega arith
    ∙ sym (lesser_some (suc a) (min (suc b) (suc c)) (omega arith) (omega arith))

-- two timeouts that fit a field have a lesser one that fits it
pub lesser_below : (a b n : ℕ) → a < n → b < n → lesser_of a b < n
unfolding lesser_of
lesser_below zero b n h k = k
lesser_below (suc a) zero n h k = h
lesser_below (suc a) (suc b) n h k = omega arith

-- ---- the unit
min_times : (a b k : ℕ) → min (a * k) (b * k) ≡ min a b * k
min_times a b k =
    ⊎_elim
    (λ (l : a < b). let up : a * k ≤ b * k = mul-le-mul_right k (le_of_lt l) in is a (omega arith) (omega arith))
    (λ (l : b ≤ a). let up : b * k ≤ a * k = mul-le-mul_right k l in is b (omega arith) (omega arith))
    (below_or_not a b)
  where
    is : (x : ℕ) → min a b ≡ x → min (a * k) (b * k) ≡ x * k → min (a * k) (b * k) ≡ min a b * k
    is x e f = rw e f

-- the lesser of multiples is the multiple of the lesser, for every factor
pub lesser_times : (a b k : ℕ) → lesser_of (a * k) (b * k) ≡ lesser_of a b * k
unfolding lesser_of
lesser_times zero b k = rw (zero-mul k)
lesser_times (suc a) zero k = rw (zero-mul k) (lesser_none (suc a * k)).1
lesser_times (suc a) (suc b) zero = simp (mul-zero)
lesser_times (suc a) (suc b) (suc k) =
    lesser_some (suc a * suc k) (suc b * suc k) (simp unary_clauses (omega arith)) (simp unary_clauses (omega arith)) ∙ min_times (suc a) (suc b) (suc k)

-- so two ends that propose in seconds agree on the lesser of the seconds
pub lesser_seconds : (a b : ℕ) → lesser_of (millis_of (Timeout.Seconds a)) (millis_of (Timeout.Seconds b)) ≡ millis_of (Timeout.Seconds (lesser_of a b))
lesser_seconds a b = lesser_times a b millis_per_second

-- what a form can say has 32 bits in milliseconds
pub millis_fits : (t : Timeout) → TimeoutFits t → millis_of t < 256 ^ 4
millis_fits (Timeout.Seconds s) h = omega arith
millis_fits (Timeout.Milliseconds n) h = h

-- the number that a form says
abbrev pub said_of : Timeout → ℕ
said_of (Timeout.Seconds s) = s
said_of (Timeout.Milliseconds n) = n

-- zero, for ever, is said as zero in either form, and as nothing else
pub millis_zero : (t : Timeout) → (millis_of t ≡ 0 → said_of t ≡ 0) × (said_of t ≡ 0 → millis_of t ≡ 0)
millis_zero (Timeout.Seconds s) = (λ e. omega arith, λ e. omega arith)
millis_zero (Timeout.Milliseconds n) = (λ e. e, λ e. e)

-- where the owner gives none the two forms propose the same time
pub default_same : (form : Form) → millis_of (proposed_of (Proposal.NotGiven form)) ≡ default_timeout * millis_per_second
default_same Form.Draft = refl
default_same Form.Published = refl

-- Laws of the definitions on numbers, over plain values: the functions' proofs cite them. Assume nothing.
use Rattle.std.specs.Prelude.{Option, Some, None}
use Prim.Native.Nat.{ℕ, zero, suc, ◌≤◌, ◌<◌, ◌-◌, ◌^◌, min}
use mathlib.Core.Path.{◌≡◌, refl}
use native.Mathlib.Omega.{arith}
use lib.IntN.{pos, neg_ℤ, ◌-ℤ◌, +ℤ_idl}
use borrow.Author.Tests.{le-leb, lt-leb, le-ltb, lt-ltb, eq-eqb, ne_eqb}
use mir.Facts.{to_z_pos, to_z-of_z}
use mir.Syntax.{Width, w32}
use mir.Val.{hbits, SFits, to_z, of_z}
use Rattle.ft_number.specs.Ack.{ack_of}
use Rattle.ft_number.specs.Circle.{circle, forward, steps_of}
use Rattle.ft_number.specs.Distance.{distance_of}
use Rattle.ft_number.specs.Timeout.{lesser_of}

-- The cases of each definition. A premise on numbers is `omega`'s at a need; a premise `e` is a callee's `.ensures`, and `g` what a match told.
pub lesser_of_lem : (a b r : ℕ) → ((a ≡ 0 → r ≡ b) × (b ≡ 0 → r ≡ a) × (0 < a → 0 < b → r ≡ min a b)) → r ≡ lesser_of a b
unfolding lesser_of
lesser_of_lem zero b r h = h.0 refl
lesser_of_lem (suc a) zero r h = h.1 refl
lesser_of_lem (suc a) (suc b) r h = h.2 (omega arith) (omega arith)

pub steps_none : (a b : ℕ) → a ≡ 0 → Some b ≡ steps_of a b
unfolding steps_of
steps_none a b h = rw (eq-eqb a 0 h)

pub steps_never : (a b : ℕ) → (a ≡ 0 → ⊥) → b ≡ 0 → None ≡ steps_of a b
unfolding steps_of
steps_never a b h k = simp (ne_eqb a 0 h, eq-eqb b 0 k)

pub steps_on : (a b : ℕ) {d : ℕ} → (a ≡ 0 → ⊥) → (b ≡ 0 → ⊥) → d ≡ forward a b → Some d ≡ steps_of a b
unfolding steps_of
steps_on a b h k e = simp (ne_eqb a 0 h, ne_eqb b 0 k, e)

pub unreachable : (r i a : ℕ) {s : Option ℕ} → s ≡ steps_of r a → s ≡ None → None ≡ ack_of r i a
unfolding ack_of
unreachable r i a e g = rw (← e, g)

module _ (r i a : ℕ) {s t : Option ℕ} {k : ℕ} (e₁ : s ≡ steps_of r a) (g₁ : s ≡ Some k) (e₂ : t ≡ steps_of r i) where
  pub none_issued : t ≡ None → None ≡ ack_of r i a
  unfolding ack_of
  none_issued g₂ = rw (← e₁, ← e₂, g₁, g₂)

  pub releases : {n : ℕ} → t ≡ Some n → k ≤ n → Some k ≡ ack_of r i a
  unfolding ack_of
  releases g₂ h = rw (← e₁, ← e₂, g₁, g₂, le-ltb _ _ h)

  pub past : {n : ℕ} → t ≡ Some n → n < k → None ≡ ack_of r i a
  unfolding ack_of
  past g₂ h = rw (← e₁, ← e₂, g₁, g₂, lt-ltb _ _ h)

-- The negation of an m that fits, at a signed width: the machine has it as 0 - m.
neg_fits : (w : Width) (m : ℕ) → m < 2 ^ hbits w → SFits w (neg_ℤ (pos m))
neg_fits w zero h = record { sfits = h }
neg_fits w (suc m) h = record { sfits = omega arith }

module _ (w : Width) (m : ℕ) (h : m < 2 ^ hbits w) where
  minus_is : pos 0 -ℤ to_z w m ≡ neg_ℤ (pos m)
  minus_is = rw (to_z_pos w h) (+ℤ_idl (neg_ℤ (pos m)))

  pub minus_fits : SFits w (pos 0 -ℤ to_z w m)
  minus_fits = rw minus_is (neg_fits w m h)

  pub minus : to_z w (of_z w (pos 0 -ℤ to_z w m)) ≡ neg_ℤ (pos m)
  minus = rw minus_is (to_z-of_z (neg_fits w m h))

pub refused : (a b : ℕ) → ((a ≡ 0 → ⊥) → b ≡ 0) → None ≡ distance_of a b
unfolding distance_of
refused zero b h = refl
refused (suc a) b h =
    let some : suc a ≡ 0 → ⊥ = λ z. omega arith in
    simp (ne_eqb (suc a) 0 some, eq-eqb b 0 (h some))

module _ (a b : ℕ) {d : ℕ} (h : a ≡ 0 → ⊥) (k : b ≡ 0 → ⊥) (e : d ≡ forward a b) where
  pub ahead : d ≤ 2147483647 → Some (to_z w32 d) ≡ distance_of a b
  unfolding distance_of
  ahead l = simp (ne_eqb a 0 h, ne_eqb b 0 k, ← e, le-leb d 2147483647 l, to_z_pos w32 {n = d} (omega arith))

  pub behind : 2147483647 < d → Some (to_z w32 (of_z w32 (pos 0 -ℤ to_z w32 (circle - d)))) ≡ distance_of a b
  unfolding distance_of
  behind l = simp (ne_eqb a 0 h, ne_eqb b 0 k, ← e, lt-leb d 2147483647 l, minus w32 (circle - d) (omega arith))

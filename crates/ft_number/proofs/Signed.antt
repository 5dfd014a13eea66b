-- What the signed distance means: so many successors lead forward from one number to the other, or back. Assumes nothing.
use Rattle.std.specs.Prelude.{Option, Some, None}
use Prim.Native.Nat.{ℕ, zero, suc, ◌+◌, ◌-◌, ◌%◌, ◌<◌, ◌≤◌}
use mathlib.Core.Bool.{Bool, true, false}
use mathlib.Core.Path.{◌≡◌, refl, sym, ap, ◌∙◌}
use native.Mathlib.Omega.{arith}
use lib.Dec.{leb}
use lib.IntN.{ℤ, pos, negsuc, neg_ℤ}
use borrow.Author.Tests.{leb-true, leb-false, le-leb, lt-leb, ne_eqb}
use Rattle.octets.specs.Pick.{pick}
use Rattle.ft_number.specs.Circle.{circle, after, forward}
use Rattle.ft_number.specs.Distance.{half, shorter, distance_of}
use Rattle.ft_number.proofs.Circle.{after_none, after_is}

-- z places on from a is b, and that is the shorter way: forward by successors of a, or back by successors of b
abbrev pub Leads : ℕ → ℕ → ℤ → Type 0
Leads a b (pos k) = (after k a ≡ b) × (k ≤ half) × (forward a b ≡ k)
Leads a b (negsuc k) = (after (suc k) b ≡ a) × (suc k ≤ half) × (forward a b + suc k ≡ circle)

-- the distance between two numbers on the circle is given
pub distance_is : (a b : ℕ) → 0 < a → 0 < b → distance_of a b ≡ Some (shorter (forward a b))
unfolding distance_of
distance_is a b la lb = simp (ne_eqb a 0 (λ (z : a ≡ 0). omega arith), ne_eqb b 0 (λ (z : b ≡ 0). omega arith))

module _ (a b : ℕ) (la : 0 < a) (ha : a ≤ circle) (lb : 0 < b) (hb : b ≤ circle) where
  back : (m : ℕ) → forward a b + m ≡ circle → 0 < m → m ≤ half → Leads a b (neg_ℤ (pos m))
  back zero e l h = absurd (omega arith)
  back (suc m) e l h = (after_is (suc m) b hb (omega arith) ∙ omega arith, h, e)

  ahead : (k : ℕ) → forward a b ≡ k → k ≤ half → Leads a b (pos k)
  ahead zero e h = (after_none a ∙ omega arith, h, e)
  ahead (suc k) e h = (after_is (suc k) a ha (omega arith) ∙ omega arith, h, e)

  -- k: k successors lead there, and k is the forward count; -k: k successors lead back, and both counts add up to the circle
  pub distance_leads : Leads a b (shorter (forward a b))
  distance_leads = by (leb (forward a b) half) refl
    where
      by : (t : Bool) → leb (forward a b) half ≡ t → Leads a b (pick t (pos (forward a b)) (neg_ℤ (pos (circle - forward a b))))
      by true e = ahead (forward a b) refl (leb-true _ _ e)
      by false e = let l : half < forward a b = leb-false _ _ e in back (circle - forward a b) (omega arith) (omega arith) (omega arith)

-- the same way walked from its other end
abbrev pub negated : Option ℤ → Option ℤ
negated (Some z) = Some (neg_ℤ z)
negated None = None

neg_neg : (z : ℤ) → neg_ℤ (neg_ℤ z) ≡ z
neg_neg (pos zero) = refl
neg_neg (pos (suc n)) = refl
neg_neg (negsuc n) = refl

shorter_back : (d : ℕ) → d < circle → shorter ((circle - d) % circle) ≡ neg_ℤ (shorter d)
shorter_back zero h = refl
shorter_back (suc d) h = by (leb (suc d) half) refl
  where
    rest : (circle - suc d) % circle ≡ circle - suc d
    rest = omega arith

    by : (t : Bool) → leb (suc d) half ≡ t → shorter ((circle - suc d) % circle) ≡ neg_ℤ (pick t (pos (suc d)) (neg_ℤ (pos (circle - suc d))))
    by true e =
        let l : suc d ≤ half = leb-true _ _ e in
        let same : circle - (circle - suc d) ≡ suc d = omega arith in
        rw rest (simp (lt-leb (circle - suc d) half (omega arith), same))
    by false e =
        let l : half < suc d = leb-false _ _ e in
        rw (rest, neg_neg) (simp (le-leb (circle - suc d) half (omega arith)))

-- the distance back is the distance negated
pub distance_antisymmetric : (a b : ℕ) → a ≤ circle → b ≤ circle → distance_of b a ≡ negated (distance_of a b)
unfolding distance_of
distance_antisymmetric zero zero ha hb = refl
distance_antisymmetric zero (suc b) ha hb = simp (ne_eqb (suc b) 0 (λ (z : suc b ≡ 0). omega arith))
distance_antisymmetric (suc a) zero ha hb = simp (ne_eqb (suc a) 0 (λ (z : suc a ≡ 0). omega arith))
distance_antisymmetric (suc a) (suc b) ha hb =
    let e : forward (suc b) (suc a) ≡ (circle - forward (suc a) (suc b)) % circle = omega arith in
    distance_is (suc b) (suc a) (omega arith) (omega arith)
    ∙ ap Some (ap shorter e ∙ shorter_back (forward (suc a) (suc b)) (omega arith))
    ∙ sym (ap negated (distance_is (suc a) (suc b) (omega arith) (omega arith)))

-- What the numbers' definitions mean: `steps_of` counts successors and is the fewest there are, the count is unique within the circle, and an ACK
-- that is right names a number on the way from R to I. Assumes nothing.
use Rattle.std.specs.Prelude.{Option, Some, None}
use Prim.Native.Nat.{ℕ, zero, suc, ◌+◌, ◌-◌, ◌%◌, ◌<◌, ◌≤◌}
use mathlib.Core.Bool.{Bool, true, false}
use mathlib.Core.Path.{◌≡◌, refl, sym, ap, ◌∙◌}
use native.Mathlib.Numerals.{add-one}
use native.Mathlib.Omega.{arith}
use lib.Dec.{ltb}
use borrow.Author.Tests.{ne_eqb, ltb-false}
use Rattle.octets.specs.Pick.{pick}
use Rattle.ft_number.specs.Ack.{in_window, ack_of}
use Rattle.ft_number.specs.Circle.{circle, next, after, forward, steps_of}
use Rattle.ft_number.proofs.Laws.{steps_none, steps_on}

-- the successor of "none" is 1, and the number after the last is 1 again
pub ends : (next 0 ≡ 1) × (next circle ≡ 1)
ends = (refl, refl)

pub after_none : (n : ℕ) → after 0 n ≡ n
unfolding after
after_none n = refl

-- "none" advanced by nothing
pub advanced_none : (k n : ℕ) → n + k ≡ 0 → 0 ≡ after k n
unfolding after
advanced_none zero n e = omega arith
advanced_none (suc k) n e = absurd (omega arith)

-- the k-th successor in one formula
pub after_is : (k n : ℕ) → n ≤ circle → 0 < n + k → after k n ≡ (n + k - 1) % circle + 1
unfolding after
after_is zero n h p = omega arith
after_is (suc zero) n h p = omega arith
after_is (suc (suc k)) n h p = ap next (after_is (suc k) n h (omega arith)) ∙ omega arith

-- the successors go on
pub after-suc : (k n : ℕ) → after (suc k) n ≡ next (after k n)
unfolding after
after-suc k n = refl

pub after-add : (j k n : ℕ) → after (j + k) n ≡ after j (after k n)
after-add zero k n = let e : 0 + k ≡ k = omega arith in rw e (sym (after_none (after k n)))
after-add (suc j) k n = let e : suc j + k ≡ suc (j + k) = omega arith in rw (e, after-suc (j + k) n, after-add j k n, after-suc j (after k n))

-- a successor is a number of the circle
pub after_small : (k n : ℕ) → after (k + 1) n ≤ circle
after_small k n = rw (add-one k, after-suc k n) (omega arith)

-- what a count says of the two numbers
pub record Counted (a b k : ℕ) : Type 0 where
  pub from_none : a ≡ 0 → k ≡ b
  pub some : 0 < a → 0 < b
  pub on : 0 < a → k ≡ forward a b

pub counted : (a b k : ℕ) → steps_of a b ≡ Some k → Counted a b k
unfolding steps_of
counted zero b k e = record { from_none = λ z. cc; some = λ l. absurd (omega arith); on = λ l. absurd (omega arith) }
counted (suc a) zero k e =
    let n : steps_of (suc a) zero ≡ None = simp (ne_eqb (suc a) 0 (λ (z : suc a ≡ 0). omega arith)) in
    let z : ◌≡◌ {A = ℕ} 0 1 = cc in
    absurd (omega arith)
counted (suc a) (suc b) k e =
    let n : Some (forward (suc a) (suc b)) ≡ steps_of (suc a) (suc b) = steps_on (suc a) (suc b) (λ z. omega arith) (λ z. omega arith) refl in
    record { from_none = λ z. absurd (omega arith); some = λ l. omega arith; on = λ l. cc }

-- k steps are k successors
pub steps_reach : (a b k : ℕ) → a ≤ circle → b ≤ circle → steps_of a b ≡ Some k → after k a ≡ b
steps_reach zero b zero ha hb e = let c = counted zero b zero e in after_none 0 ∙ c.from_none refl
steps_reach zero b (suc k) ha hb e = let c = counted zero b (suc k) e in after_is (suc k) 0 ha (omega arith) ∙ omega (arith, c.from_none refl)
steps_reach (suc a) b zero ha hb e =
    let c = counted (suc a) b zero e in
    after_none (suc a) ∙ omega (arith, c.some (omega arith), c.on (omega arith))
steps_reach (suc a) b (suc k) ha hb e =
    let c = counted (suc a) b (suc k) e in
    after_is (suc k) (suc a) ha (omega arith) ∙ omega (arith, c.some (omega arith), c.on (omega arith))

-- and no fewer lead there
pub steps_fewest : (a b k j : ℕ) → a ≤ circle → steps_of a b ≡ Some k → after j a ≡ b → k ≤ j
steps_fewest zero b k zero ha e r = omega (arith, (counted zero b k e).from_none refl, after_none 0)
steps_fewest zero b k (suc j) ha e r = omega (arith, (counted zero b k e).from_none refl, after_is (suc j) 0 ha (omega arith))
steps_fewest (suc a) b k zero ha e r = omega (arith, (counted (suc a) b k e).on (omega arith), after_none (suc a))
steps_fewest (suc a) b k (suc j) ha e r = omega (arith, (counted (suc a) b k e).on (omega arith), after_is (suc j) (suc a) ha (omega arith))

-- two counts below the circle that lead to one number are one count
pub steps_unique : (a j k : ℕ) → a ≤ circle → j < circle → k < circle → after j a ≡ after k a → j ≡ k
steps_unique a zero zero ha hj hk e = refl
steps_unique a zero (suc k) ha hj hk e = omega (arith, after_none a, after_is (suc k) a ha (omega arith))
steps_unique a (suc j) zero ha hj hk e = omega (arith, after_none a, after_is (suc j) a ha (omega arith))
steps_unique a (suc j) (suc k) ha hj hk e = omega (arith, after_is (suc j) a ha (omega arith), after_is (suc k) a ha (omega arith))

-- the steps to the k-th successor are k
pub steps-after : (a k : ℕ) → a ≤ circle → k < circle → steps_of a (after k a) ≡ Some k
steps-after zero zero ha hk = sym (steps_none 0 (after 0 0) refl) ∙ ap Some (after_none 0)
steps-after zero (suc k) ha hk =
    let e : after (suc k) 0 ≡ suc k = after_is (suc k) 0 ha (omega arith) ∙ omega arith in
    sym (steps_none 0 (after (suc k) 0) refl) ∙ ap Some e
steps-after (suc a) zero ha hk =
    let e : 0 ≡ forward (suc a) (suc a) = omega arith in
    rw (after_none (suc a)) (sym (steps_on (suc a) (suc a) (λ z. omega arith) (λ z. omega arith) e))
steps-after (suc a) (suc k) ha hk =
    let s : after (suc k) (suc a) ≡ (suc a + suc k - 1) % circle + 1 = after_is (suc k) (suc a) ha (omega arith) in
    let e : suc k ≡ forward (suc a) (after (suc k) (suc a)) = omega arith in
    sym (steps_on (suc a) (after (suc k) (suc a)) (λ z. omega arith) (λ z. omega arith) e)

-- past the number that k steps lead to lie the rest of the steps
pub steps-rest : (r i a k n : ℕ) → r ≤ circle → i ≤ circle → a ≤ circle → n < circle → steps_of r a ≡ Some k → steps_of r i ≡ Some n → k ≤ n → steps_of a i ≡ Some (n - k)
steps-rest r i a k n lr li la ln ea ei few =
    let sum : (n - k) + k ≡ n = omega arith in
    let there : after (n - k) a ≡ i =
    ap (after (n - k)) (sym (steps_reach r a k lr la ea)) ∙ sym (after-add (n - k) k r) ∙ ap (λ (x : ℕ). after x r) sum ∙ steps_reach r i n lr li ei in
    rw there at (steps-after a (n - k) la (omega arith))

-- an acknowledgement that releases k names the k-th number after R, and no more than were issued
pub record Acknowledged (r i a k : ℕ) : Type 0 where
  pub names : steps_of r a ≡ Some k
  pub issued : ℕ
  pub window : steps_of r i ≡ Some issued
  pub few : k ≤ issued

-- an ACK that releases k names the k-th number after R, and at least k were issued
pub ack_releases : (r i a k : ℕ) → ack_of r i a ≡ Some k → Acknowledged r i a k
unfolding ack_of
ack_releases r i a k e = by (steps_of r a) (steps_of r i) refl refl e
  where
    chosen : (j n : ℕ) (b : Bool) → ltb n j ≡ b → steps_of r a ≡ Some j → steps_of r i ≡ Some n → pick b None (Some j) ≡ Some k → Acknowledged r i a k
    chosen j n true t p q e = let z : ◌≡◌ {A = ℕ} 0 1 = cc in absurd (omega arith)
    chosen j n false t p q e = let same : j ≡ k = cc in record { names = p ∙ ap Some same; issued = n; window = q; few = omega (arith, ltb-false n j t) }

    by : (s t : Option ℕ) → steps_of r a ≡ s → steps_of r i ≡ t → in_window s t ≡ Some k → Acknowledged r i a k
    by (Some j) (Some n) p q e = chosen j n (ltb n j) refl p q e
    by (Some j) None p q e = let z : ◌≡◌ {A = ℕ} 0 1 = cc in absurd (omega arith)
    by None t p q e = let z : ◌≡◌ {A = ℕ} 0 1 = cc in absurd (omega arith)

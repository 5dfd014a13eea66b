-- An ACK is right, and releases k, exactly if it is the k-th successor of R and k is at most the steps from R to I; every other ACK is a
-- sequence error. The only premise is that the three are numbers (0 to 0xFFFFFFFF).
use Rattle.std.specs.Prelude.{Option, Some, None}
use Prim.Native.Nat.{ℕ, zero, suc, ◌<◌, ◌≤◌}
use mathlib.Core.Path.{◌≡◌, refl, sym, ap, ◌∙◌}
use native.Mathlib.Omega.{arith}
use Rattle.ft_number.specs.Ack.{ack_of}
use Rattle.ft_number.specs.AckRight.{Right}
use Rattle.ft_number.specs.Circle.{circle, after, forward, steps_of}
use Rattle.ft_number.proofs.Circle.{after_none, after_is, steps_reach, steps_fewest, steps-after, ack_releases}
use Rattle.ft_number.proofs.Laws.{steps_none, steps_on, releases}

module _ (r i a : ℕ) (lr : r ≤ circle) (li : i ≤ circle) (la : a ≤ circle) where
  pub right_if_released : (k : ℕ) → ack_of r i a ≡ Some k → Right r i a k
  right_if_released k e =
      let c = ack_releases r i a k e in
      record {
        names = steps_reach r a k lr la c.names;
        issued = c.issued;
        reaches = steps_reach r i c.issued lr li c.window;
        soonest = λ j there. steps_fewest r i c.issued j lr c.window there;
        up_to = c.few;
      }

-- a successor of a number is never "none"
some_after : (n k : ℕ) → 0 < n → n ≤ circle → 0 < after k n
some_after n zero p l = omega (arith, after_none n)
some_after n (suc k) p l = omega (arith, after_is (suc k) n l (omega arith))

-- as many steps as lead anywhere on the way, counted
count-after : (r i a j n : ℕ) → r ≤ circle → i ≤ circle → after n r ≡ i → ((m : ℕ) → after m r ≡ i → n ≤ m) → j ≤ n → after j r ≡ a → steps_of r a ≡ Some j
count-after zero i a j n lr li there soonest few names = sym (steps_none 0 a refl) ∙ ap Some (sym (names_itself j within names))
  where
    count_i : steps_of 0 i ≡ Some i
    count_i = sym (steps_none 0 i refl)

    within : j ≤ circle
    within = omega (arith, soonest i (steps_reach 0 i i lr li count_i))

    names_itself : (j : ℕ) → j ≤ circle → after j 0 ≡ a → j ≡ a
    names_itself zero l e = omega (arith, after_none 0)
    names_itself (suc j) l e = omega (arith, after_is (suc j) 0 lr (omega arith))
count-after (suc r) i a j n lr li there soonest few names = rw names at (steps-after (suc r) j lr short)
  where
    some : 0 < i
    some = rw there at (some_after (suc r) n (omega arith) lr)

    count_i : steps_of (suc r) i ≡ Some (forward (suc r) i)
    count_i = sym (steps_on (suc r) i (λ z. omega arith) (λ z. omega (arith, some)) refl)

    short : j < circle
    short = omega (arith, soonest (forward (suc r) i) (steps_reach (suc r) i (forward (suc r) i) lr li count_i))

module _ (r i a : ℕ) (lr : r ≤ circle) (li : i ≤ circle) (la : a ≤ circle) where
  pub released_if_right : (k : ℕ) → Right r i a k → ack_of r i a ≡ Some k
  released_if_right k x =
      let ea : steps_of r a ≡ Some k = count-after r i a k x.issued lr li x.reaches x.soonest x.up_to x.names in
      let ei : steps_of r i ≡ Some x.issued = count-after r i i x.issued x.issued lr li x.reaches x.soonest (omega arith) x.reaches in
      sym (releases r i a (sym ea) refl (sym ei) refl x.up_to)

  -- "Anything else, zero after R has moved included, is a sequence error."
  pub else_error : ((k : ℕ) → Right r i a k → ⊥) → ack_of r i a ≡ None
  else_error none = by (ack_of r i a) refl
    where
      by : (x : Option ℕ) → ack_of r i a ≡ x → x ≡ None
      by (Some k) e = absurd (none k (right_if_released r i a lr li la k e))
      by None e = refl

  pub error_only_else : ack_of r i a ≡ None → (k : ℕ) → Right r i a k → ⊥
  error_only_else e k x =
      let y : Some k ≡ None = sym (released_if_right k x) ∙ e in
      let z : ◌≡◌ {A = ℕ} 0 1 = cc in
      omega arith

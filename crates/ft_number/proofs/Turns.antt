-- The next number: the cases of its definition, and what it means by successors alone. Assumes nothing.
use Rattle.std.specs.Prelude.{Result, Ok, Err, Option, Some, None}
use Prim.Native.Nat.{ℕ, zero, suc, ◌-◌, ◌≤◌, ◌<◌}
use mathlib.Core.Bool.{Bool, true, false}
use mathlib.Core.Path.{◌≡◌, refl, sym, ap, ◌∙◌}
use native.Mathlib.Omega.{arith}
use lib.Dec.{ltb}
use borrow.Author.Tests.{eq-eqb, ne_eqb, lt-ltb, le-ltb, ltb-true}
use Rattle.octets.proofs.Choice.{by_test}
use Rattle.ft_number.specs.declared.TurnError.{TurnError}
use Rattle.ft_number.specs.Circle.{circle, next, after, steps_of}
use Rattle.ft_number.specs.Turn.{farthest, steps_turn, number_turn}
use Rattle.ft_number.proofs.Circle.{after_none, after-suc, steps-after, steps_reach}

-- ---- the cases
pub turn-zero : (resumed : Bool) (s n : ℕ) → n ≡ 0 → (Err TurnError.ZeroNumber) ≡ number_turn resumed s n
unfolding number_turn
turn-zero resumed s n h = rw (eq-eqb n 0 h)

module _ (resumed : Bool) (s n : ℕ) (some : n ≡ 0 → ⊥) {t : Option ℕ} (e : t ≡ steps_of s n) where
  turn_by : {u : Result ℕ TurnError} → u ≡ steps_turn (farthest resumed) t → u ≡ number_turn resumed s n
  unfolding number_turn
  turn_by q = rw (ne_eqb n 0 some, ← e) q

  pub turn_never : t ≡ None → (Err TurnError.OutOfTurn) ≡ number_turn resumed s n
  turn_never g = turn_by (rw g)

  module _ {k : ℕ} (g : t ≡ Some k) where
    pub turn_same : k ≡ 0 → (Err TurnError.OutOfTurn) ≡ number_turn resumed s n
    turn_same z = turn_by (rw (g, z))

    pub turn_far : {far : ℕ} → far ≡ farthest resumed → far < k → (Err TurnError.OutOfTurn) ≡ number_turn resumed s n
    turn_far f l = turn_by (rw g (past k (omega (arith, f))))
      where
        past : (k : ℕ) → farthest resumed < k → (Err TurnError.OutOfTurn) ≡ steps_turn (farthest resumed) (Some k)
        past zero l = absurd (omega arith)
        past (suc k) l = rw (le-ltb k (farthest resumed) (omega arith))

    pub turn_in : {far : ℕ} → far ≡ farthest resumed → (k ≡ 0 → ⊥) → k ≤ far → (Ok (k - 1)) ≡ number_turn resumed s n
    turn_in f z l = turn_by (rw g (near k z (omega (arith, f))))
      where
        near : (k : ℕ) → (k ≡ 0 → ⊥) → k ≤ farthest resumed → (Ok (k - 1)) ≡ steps_turn (farthest resumed) (Some k)
        near zero z l = absurd (z refl)
        near (suc k) z l = let e : suc k - 1 ≡ k = omega arith in rw (lt-ltb k (farthest resumed) (omega arith), e)

-- ---- by successors: n is in turn with k left out exactly if it is the k-th after the successor of s, and no farther than allowed
clash : {P : Type 0} {k : ℕ} → (Err TurnError.OutOfTurn) ≡ Ok k → P
clash e = let z : ◌≡◌ {A = ℕ} 0 1 = cc in absurd (omega arith)

steps_in : (far : ℕ) (t : Option ℕ) (k : ℕ) → steps_turn far t ≡ Ok k → (t ≡ Some (suc k)) × (k < far)
steps_in far None k e = clash e
steps_in far (Some zero) k e = clash e
steps_in far (Some (suc j)) k e =
    by_test (ltb j far)
    (λ t. let same : j ≡ k = cc in (ap (λ (x : ℕ). Some (suc x)) same, omega (arith, same, ltb-true j far t)))
    (λ n. clash (rw n at e))

pub turn_means : (resumed : Bool) (s n k : ℕ) → s ≤ circle → n ≤ circle → number_turn resumed s n ≡ Ok k → (after (suc k) s ≡ n) × (k < farthest resumed)
unfolding number_turn
turn_means resumed s zero k ls ln e = let z : ◌≡◌ {A = ℕ} 0 1 = cc in absurd (omega arith)
turn_means resumed s (suc n) k ls ln e =
    let i = steps_in (farthest resumed) (steps_of s (suc n)) k (rw (ne_eqb (suc n) 0 (λ (z : suc n ≡ 0). omega arith)) at e) in
    (steps_reach s (suc n) (suc k) ls ln i.0, i.1)

some_next : (k s : ℕ) → after (suc k) s ≡ 0 → ⊥
some_next k s e = omega (arith, after-suc k s)

pub means_turn : (resumed : Bool) (s k : ℕ) → s ≤ circle → k < farthest resumed → number_turn resumed s (after (suc k) s) ≡ Ok k
means_turn resumed s k ls l =
    let e : suc k - 1 ≡ k = omega arith in
    sym (rw e at (turn_in resumed s (after (suc k) s) (some_next k s) {t = steps_of s (after (suc k) s)} refl (steps-after s (suc k) ls (omega (arith, near resumed))) refl (λ z. omega arith) (omega arith)))
  where
    near : (r : Bool) → farthest r ≤ 64
    near true = omega arith
    near false = omega arith

-- an unresumed connection: the successor alone, and nothing left out
pub unresumed_turn : (s n k : ℕ) → s ≤ circle → n ≤ circle → number_turn false s n ≡ Ok k → (k ≡ 0) × (n ≡ next s)
unresumed_turn s n zero ls ln e = (refl, sym (turn_means false s n 0 ls ln e).0 ∙ after-suc 0 s ∙ ap next (after_none s))
unresumed_turn s n (suc k) ls ln e = absurd (omega (arith, (turn_means false s n (suc k) ls ln e).1))

-- zero alone is answered as zero
apart : {P : Type 0} {k : ℕ} → ◌≡◌ {A = Result ℕ TurnError} (Ok k) (Err TurnError.ZeroNumber) → P
apart e = let z : ◌≡◌ {A = ℕ} 0 1 = cc in absurd (omega arith)

never : {P : Type 0} → ◌≡◌ {A = Result ℕ TurnError} (Err TurnError.OutOfTurn) (Err TurnError.ZeroNumber) → P
never e = let z : ◌≡◌ {A = ℕ} 0 1 = cc in absurd (omega arith)

steps-number : {P : Type 0} (far : ℕ) (t : Option ℕ) → steps_turn far t ≡ Err TurnError.ZeroNumber → P
steps-number far None e = never e
steps-number far (Some zero) e = never e
steps-number far (Some (suc k)) e = by_test (ltb k far) (λ t. apart (rw t at e)) (λ f. never (rw f at e))

pub turn_is_zero : (resumed : Bool) (s n : ℕ) → number_turn resumed s n ≡ Err TurnError.ZeroNumber → n ≡ 0
unfolding number_turn
turn_is_zero resumed s zero e = refl
turn_is_zero resumed s (suc n) e = steps-number (farthest resumed) (steps_of s (suc n)) (rw (ne_eqb (suc n) 0 (λ (z : suc n ≡ 0). omega arith)) at e)

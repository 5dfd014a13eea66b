-- The codes that a label takes at its user. Assumes nothing.
use Rattle.std.specs.Prelude.{Result, Ok, Err}
use Prim.Native.Nat.{ℕ, zero, suc, ◌≤◌, ◌<◌}
use mathlib.Core.Bool.{true}
use mathlib.Core.List.{List, [], ◌∷◌, ◌++◌}
use mathlib.Core.Logic.{◌⊎◌, inl, inr, ⊎_elim}
use mathlib.Core.Path.{◌≡◌, refl, ap}
use native.Mathlib.Nat.{eq-or-lt_of_le}
use native.Mathlib.Omega.{arith}
use lib.Dec.{eqb}
use Rattle.octets.proofs.Choice.{by_test, pick_all}
use Rattle.label_list.specs.declared.LabelMessage.TheVariants.{Mapping, Withdraw}
use Rattle.label_list.specs.declared.Side.TheVariants.{Used}
use Rattle.label_list.specs.Rules.{code_received}
use Rattle.label_list.specs.Word.{on_side}
use Rattle.label_list.proofs.Standing.{within_range}
use Rattle.label_events.specs.Change.{code_at}
use Rattle.message.specs.declared.Kind.{Kind}
use Rattle.message.specs.declared.SubmissionError.{SubmissionError}
use Rattle.message.specs.Submission.{submission_of}
use Rattle.label_meaning.proofs.Step.{code_proper}
use Rattle.two_ends.specs.Agree.{code_by, code_after, IsUsed}
use Rattle.two_ends.proofs.Sixless.{NoSix}

-- ---- at its user a label is absent, in use, asked back or releasing
pub data Fit : ℕ → Type 0 where
  absent : Fit 0
  in_use : Fit 3
  asked : Fit 4
  releasing : Fit 5

fit_by : (c : ℕ) → 3 ≤ c → c ≤ 5 → Fit c
fit_by zero l h = absurd (omega arith)
fit_by (suc zero) l h = absurd (omega arith)
fit_by (suc (suc zero)) l h = absurd (omega arith)
fit_by (suc (suc (suc zero))) l h = in_use
fit_by (suc (suc (suc (suc zero)))) l h = asked
fit_by (suc (suc (suc (suc (suc zero))))) l h = releasing
fit_by (suc (suc (suc (suc (suc (suc c)))))) l h = absurd (omega arith)

below : (c : ℕ) → c ≤ 6 → (c ≡ 6 → ⊥) → c ≤ 5
below c h n = ⊎_elim (λ (e : c ≡ 6). absurd (n e)) (λ (l : c < 6). omega arith) (eq-or-lt_of_le h)

pub fit : (ls : List ℕ) → NoSix ls → (l : ℕ) → Fit (code_at ls Used l)
unfolding on_side
fit ls n l = by (code_at ls Used l) (code_proper ls Used l) (n l)
  where
    by : (c : ℕ) → (c ≡ 0) ⊎ (on_side Used c ≡ true) → (c ≡ 6 → ⊥) → Fit c
    by c p six =
        ⊎_elim
        (λ (z : c ≡ 0). rw z absent)
        (λ (on : on_side Used c ≡ true). let q : (3 ≤ c) × (c ≤ 6) = within_range 3 6 c on in fit_by c q.0 (below c q.1 six))
        p

-- ---- after a Mapping it is in use or asked back
pub mapping_used : {c : ℕ} → Fit c → IsUsed (code_received Mapping true c)
unfolding code_received
mapping_used absent = inl refl
mapping_used in_use = inl refl
mapping_used asked = inr refl
mapping_used releasing = inl refl

fit_used : {c : ℕ} → IsUsed c → Fit c
fit_used u = ⊎_elim (λ (e : _ ≡ 3). rw e in_use) (λ (e : _ ≡ 4). rw e asked) u

withdraw_fit : {c : ℕ} → Fit c → Fit (code_received Withdraw true c)
unfolding code_received
withdraw_fit absent = absent
withdraw_fit in_use = asked
withdraw_fit asked = asked
withdraw_fit releasing = releasing

withdraw_used : {c : ℕ} → IsUsed c → IsUsed (code_received Withdraw true c)
unfolding code_received
withdraw_used u = ⊎_elim (λ (e : _ ≡ 3). rw e (inr refl)) (λ (e : _ ≡ 4). rw e (inr refl)) u

-- ---- one message
by_code : (P : ℕ → Type 0) (l c : ℕ) (j : Result (Kind × ℕ) SubmissionError) → P c → P (code_received Mapping true c) → P (code_received Withdraw true c) → P (code_by l c j)
by_code P l c (Err SubmissionError.Malformed) p mapped withdrawn = p
by_code P l c (Err SubmissionError.Refused) p mapped withdrawn = p
by_code P l c (Ok (Kind.Mapping, k)) p mapped withdrawn = pick_all P (eqb k l) mapped p
by_code P l c (Ok (Kind.Withdraw, k)) p mapped withdrawn = pick_all P (eqb k l) withdrawn p
by_code P l c (Ok (Kind.Release, k)) p mapped withdrawn = p
by_code P l c (Ok (Kind.Address, k)) p mapped withdrawn = p
by_code P l c (Ok (Kind.AddressWithdraw, k)) p mapped withdrawn = p
by_code P l c (Ok (Kind.ResourcesAvailable, k)) p mapped withdrawn = p
by_code P l c (Ok (Kind.Request id, k)) p mapped withdrawn = p
by_code P l c (Ok (Kind.Abort id, k)) p mapped withdrawn = p
by_code P l c (Ok (Kind.NoResources, k)) p mapped withdrawn = p
by_code P l c (Ok (Kind.NoKind, k)) p mapped withdrawn = p

fit_code_by : (l c : ℕ) (j : Result (Kind × ℕ) SubmissionError) → Fit c → Fit (code_by l c j)
fit_code_by l c j f = by_code Fit l c j f (fit_used (mapping_used f)) (withdraw_fit f)

pub used_code_by : (l c : ℕ) (j : Result (Kind × ℕ) SubmissionError) → IsUsed c → IsUsed (code_by l c j)
used_code_by l c j u = by_code IsUsed l c j u (mapping_used (fit_used u)) (withdraw_used u)

-- ---- all of them
pub fit_after : (l c : ℕ) (ms : List (List ℕ)) → Fit c → Fit (code_after l c ms)
fit_after l c [] f = f
fit_after l c (m ∷ ms) f = fit_after l (code_by l c (submission_of m)) ms (fit_code_by l c (submission_of m) f)

pub after_snoc : (l c : ℕ) (ms : List (List ℕ)) (m : List ℕ) → code_after l c (ms ++ (m ∷ [])) ≡ code_by l (code_after l c ms) (submission_of m)
after_snoc l c [] m = refl
after_snoc l c (x ∷ ms) m = after_snoc l (code_by l c (submission_of x)) ms m

-- ---- from releasing or from absent: a message leaves both as they are, or makes them the same
pub five-zero_by : (l : ℕ) (j : Result (Kind × ℕ) SubmissionError) → ((code_by l 5 j ≡ 5) × (code_by l 0 j ≡ 0)) ⊎ (code_by l 5 j ≡ code_by l 0 j)
unfolding code_received
five-zero_by l (Err SubmissionError.Malformed) = inl (refl, refl)
five-zero_by l (Err SubmissionError.Refused) = inl (refl, refl)
five-zero_by l (Ok (Kind.Mapping, k)) = by_test (eqb k l) (λ t. rw t (inr refl)) (λ n. rw n (inl (refl, refl)))
five-zero_by l (Ok (Kind.Withdraw, k)) = by_test (eqb k l) (λ t. rw t (inl (refl, refl))) (λ n. rw n (inl (refl, refl)))
five-zero_by l (Ok (Kind.Release, k)) = inl (refl, refl)
five-zero_by l (Ok (Kind.Address, k)) = inl (refl, refl)
five-zero_by l (Ok (Kind.AddressWithdraw, k)) = inl (refl, refl)
five-zero_by l (Ok (Kind.ResourcesAvailable, k)) = inl (refl, refl)
five-zero_by l (Ok (Kind.Request id, k)) = inl (refl, refl)
five-zero_by l (Ok (Kind.Abort id, k)) = inl (refl, refl)
five-zero_by l (Ok (Kind.NoResources, k)) = inl (refl, refl)
five-zero_by l (Ok (Kind.NoKind, k)) = inl (refl, refl)

pub five-zero-after : (l : ℕ) (ms : List (List ℕ)) → ((code_after l 5 ms ≡ 5) × (code_after l 0 ms ≡ 0)) ⊎ (code_after l 5 ms ≡ code_after l 0 ms)
five-zero-after l [] = inl (refl, refl)
five-zero-after l (m ∷ ms) =
    ⊎_elim
    (λ (e : (code_by l 5 (submission_of m) ≡ 5) × (code_by l 0 (submission_of m) ≡ 0)). rw (e.0, e.1) (five-zero-after l ms))
    (λ (e : code_by l 5 (submission_of m) ≡ code_by l 0 (submission_of m)). inr (ap (λ (c : ℕ). code_after l c ms) e))
    (five-zero_by l (submission_of m))

pub five-zero : (l : ℕ) (ms : List (List ℕ)) → IsUsed (code_after l 5 ms) → IsUsed (code_after l 0 ms)
five-zero l ms u =
    ⊎_elim
    (λ (e : (code_after l 5 ms ≡ 5) × (code_after l 0 ms ≡ 0)).
    ⊎_elim (λ (three : code_after l 5 ms ≡ 3). absurd (omega arith)) (λ (four : code_after l 5 ms ≡ 4). absurd (omega arith)) u)
    (λ (e : code_after l 5 ms ≡ code_after l 0 ms). rw e at u)
    (five-zero-after l ms)

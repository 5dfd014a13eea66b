-- What a Send passes over: Requests whose Abort is held behind them, one after the other, and never all that is held. Assumes nothing.
use Prim.Native.Nat.{ℕ, zero, suc, ◌-◌, ◌<◌, ◌≤◌}
use mathlib.Core.Bool.{true, false, false≢true}
use mathlib.Core.List.{List, [], ◌∷◌, ◌++◌}
use mathlib.Core.Path.{◌≡◌, refl}
use native.Mathlib.Omega.{arith}
use lib.ListN.{length, drop, length-drop}
use Rattle.octets.proofs.Choice.{by_test}
use Rattle.ft_number.specs.declared.MessageId.{MessageId}
use Rattle.message.specs.declared.Kind.{Kind}
use Rattle.message.specs.Submission.{submission_of}
use Rattle.protocol.specs.LeftOut.{aborts_id, is_aborted, is_undone, kind_held, left_out_from, next_place, passed_over, undone_by}
use Rattle.protocol.specs.Phases.{issued_count}
use Rattle.protocol.specs.State.{State, held}

-- ---- an Abort among some messages
pub aborted_some : (id : MessageId) (ms : List (List ℕ)) → is_aborted id ms ≡ true → 0 < length ms
unfolding is_aborted
aborted_some id [] e = absurd (false≢true e)
aborted_some id (m ∷ ms) e = omega arith

-- is among more
pub aborted_grow : (id : MessageId) (ms more : List (List ℕ)) → is_aborted id ms ≡ true → is_aborted id (ms ++ more) ≡ true
unfolding is_aborted
aborted_grow id [] more e = absurd (false≢true e)
aborted_grow id (m ∷ ms) more e =
    by_test (aborts_id id (kind_held (submission_of m)))
    (λ t. rw t)
    (λ f. rw f (aborted_grow id ms more (rw f at e)))

-- ---- a Request with its Abort behind it
-- by its kind: none but a Request's can be
by_request : (P : Kind → Type 0) (k : Kind) (ms : List (List ℕ)) → ((id : MessageId) → is_aborted id ms ≡ true → P (Kind.Request id)) → undone_by k ms ≡ true → P k
by_request P Kind.Mapping ms r e = absurd (false≢true e)
by_request P Kind.Withdraw ms r e = absurd (false≢true e)
by_request P Kind.Release ms r e = absurd (false≢true e)
by_request P Kind.Address ms r e = absurd (false≢true e)
by_request P Kind.AddressWithdraw ms r e = absurd (false≢true e)
by_request P Kind.ResourcesAvailable ms r e = absurd (false≢true e)
by_request P (Kind.Request id) ms r e = r id e
by_request P (Kind.Abort id) ms r e = absurd (false≢true e)
by_request P Kind.NoResources ms r e = absurd (false≢true e)
by_request P Kind.NoKind ms r e = absurd (false≢true e)

pub undone-request : (P : Kind → Type 0) (m : List ℕ) (ms : List (List ℕ)) → ((id : MessageId) → is_aborted id ms ≡ true → P (Kind.Request id))
    → is_undone (m ∷ ms) ≡ true → P (kind_held (submission_of m))
undone-request P m ms r e = by_request P (kind_held (submission_of m)) ms r e

-- something is behind it
undone_some : (m : List ℕ) (ms : List (List ℕ)) → is_undone (m ∷ ms) ≡ true → 0 < length ms
undone_some m ms e = undone-request (λ k. 0 < length ms) m ms (λ id a. aborted_some id ms a) e

-- it stays so whatever is queued later
pub undone_grow : (ms more : List (List ℕ)) → is_undone ms ≡ true → is_undone (ms ++ more) ≡ true
undone_grow [] more e = absurd (false≢true e)
undone_grow (m ∷ ms) more e = undone-request (λ k. undone_by k (ms ++ more) ≡ true) m ms (λ id a. aborted_grow id ms more a) e

-- ---- so many are passed over
pub passed-within : (n : ℕ) (ms : List (List ℕ)) → passed_over n ms ≤ n
unfolding passed_over
passed-within zero ms = omega arith
passed-within (suc n) [] = omega arith
passed-within (suc n) (m ∷ ms) =
    by_test (is_undone (m ∷ ms))
    (λ t. rw t (omega (arith, passed-within n ms)))
    (λ f. rw f (omega arith))

-- "8 cannot hide": never all of them, since an Abort is behind each
pub passed_below : (n : ℕ) (ms : List (List ℕ)) → 0 < length ms → passed_over n ms < length ms
unfolding passed_over
passed_below zero ms l = l
passed_below (suc n) [] l = l
passed_below (suc n) (m ∷ ms) l =
    by_test (is_undone (m ∷ ms))
    (λ t. rw t (omega (arith, passed_below n ms (undone_some m ms t))))
    (λ f. rw f (omega arith))

-- each is a Request with its Abort behind it, and has a number
pub passed-undone : (n : ℕ) (ms : List (List ℕ)) (j : ℕ) → j < passed_over n ms → (is_undone (drop j ms) ≡ true) × (j < n)
unfolding passed_over
passed-undone zero ms j l = absurd (omega arith)
passed-undone (suc n) [] j l = absurd (omega arith)
passed-undone (suc n) (m ∷ ms) zero l = by_test (is_undone (m ∷ ms)) (λ t. (t, omega arith)) (λ f. absurd (omega (arith, rw f at l)))
passed-undone (suc n) (m ∷ ms) (suc j) l =
    by_test (is_undone (m ∷ ms))
    (λ t. let p = passed-undone n ms j (omega (arith, rw t at l)) in (p.0, omega (arith, p.1)))
    (λ f. absurd (omega (arith, rw f at l)))

-- and the next is none, unless it has no number
pub passed_stops : (n : ℕ) (ms : List (List ℕ)) → passed_over n ms < n → is_undone (drop (passed_over n ms) ms) ≡ false
unfolding passed_over
passed_stops zero ms l = absurd (omega arith)
passed_stops (suc n) [] l = refl
passed_stops (suc n) (m ∷ ms) l =
    by_test (is_undone (m ∷ ms))
    (λ t. rw t (passed_stops n ms (omega (arith, rw t at l))))
    (λ f. rw f f)

-- ---- of what is held
module _ (s : State) (sent : ℕ) where
  -- what is sent next is held
  pub next-held : sent < held s → next_place s sent < held s
  next-held l =
      let d = length-drop sent s.queue in
      omega (arith, d, passed_below (issued_count s - sent) (drop sent s.queue) (omega (arith, d)))

  -- where all that has a number was sent, nothing is left out
  pub none_passed : issued_count s ≤ sent → left_out_from s sent ≡ 0
  none_passed l = omega (arith, passed-within (issued_count s - sent) (drop sent s.queue))

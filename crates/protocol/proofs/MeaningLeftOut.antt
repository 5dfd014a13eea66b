-- What is left out, place by place: exactly the numbered Requests whose Abort is held behind them, from the count sent on up to the first message that is none.
-- Assumes nothing.
use Rattle.std.specs.Prelude.{Result, Ok, Err}
use Prim.Native.Nat.{ℕ, zero, suc, ◌+◌, ◌-◌, ◌<◌}
use mathlib.Core.Bool.{true, false, true≢false, false≢true}
use mathlib.Core.List.{List, [], ◌∷◌}
use mathlib.Core.Path.{◌≡◌, refl, sym, ap, ◌∙◌}
use native.Mathlib.Omega.{arith}
use lib.ListN.{length, get_or, drop, length-drop}
use lib.Seq.{drop-cons, drop-drop, get_or-drop}
use borrow.Author.Tests.{eq-eqb, eqb-true}
use Rattle.octets.proofs.Choice.{by_test}
use Rattle.ft_number.specs.declared.MessageId.{MessageId}
use Rattle.message.specs.declared.Kind.{Kind}
use Rattle.message.specs.declared.SubmissionError.{SubmissionError}
use Rattle.message.specs.Submission.{submission_of}
use Rattle.protocol.specs.LeftOut.{aborts_id, is_aborted, is_undone, kind_held, next_place, passed_over}
use Rattle.protocol.specs.MeaningSend.{LeftOutAt, PassesOver}
use Rattle.protocol.specs.Phases.{issued_count}
use Rattle.protocol.specs.State.{State, held}
use Rattle.protocol.proofs.PassedOver.{next-held, passed_stops, passed-undone, undone-request}

-- ---- an Abort that names the ID is among these
pub record AbortAmong (id : MessageId) (ms : List (List ℕ)) : Type 0 where
  pub at : ℕ
  pub inside : at < length ms
  pub named : MessageId
  pub label : ℕ
  pub abort : submission_of (get_or ms at []) ≡ Ok (Kind.Abort named, label)
  pub same : named.0 ≡ id.0

aborts_kind : (P : Kind → Type 0) (id : MessageId) (k : Kind) → ((named : MessageId) → named.0 ≡ id.0 → P (Kind.Abort named)) → aborts_id id k ≡ true → P k
aborts_kind P id Kind.Mapping r e = absurd (false≢true e)
aborts_kind P id Kind.Withdraw r e = absurd (false≢true e)
aborts_kind P id Kind.Release r e = absurd (false≢true e)
aborts_kind P id Kind.Address r e = absurd (false≢true e)
aborts_kind P id Kind.AddressWithdraw r e = absurd (false≢true e)
aborts_kind P id Kind.ResourcesAvailable r e = absurd (false≢true e)
aborts_kind P id (Kind.Request other) r e = absurd (false≢true e)
aborts_kind P id (Kind.Abort named) r e = r named (eqb-true named.0 id.0 e)
aborts_kind P id Kind.NoResources r e = absurd (false≢true e)
aborts_kind P id Kind.NoKind r e = absurd (false≢true e)

first_abort : (id : MessageId) (m : List ℕ) (ms : List (List ℕ)) (x : Result (Kind × ℕ) SubmissionError) → submission_of m ≡ x → aborts_id id (kind_held x) ≡ true → AbortAmong id (m ∷ ms)
first_abort id m ms (Err SubmissionError.Malformed) e t = absurd (false≢true t)
first_abort id m ms (Err SubmissionError.Refused) e t = absurd (false≢true t)
first_abort id m ms (Ok (k, l)) e t =
    aborts_kind (λ k. submission_of m ≡ Ok (k, l) → AbortAmong id (m ∷ ms)) id k
    (λ named same q. record { at = 0; inside = omega arith; named = named; label = l; abort = q; same = same }) t e

aborted_means : (id : MessageId) (ms : List (List ℕ)) → is_aborted id ms ≡ true → AbortAmong id ms
unfolding is_aborted
aborted_means id [] e = absurd (false≢true e)
aborted_means id (m ∷ ms) e =
    by_test (aborts_id id (kind_held (submission_of m)))
    (λ t. first_abort id m ms (submission_of m) refl t)
    (λ f.
    let a : AbortAmong id ms = aborted_means id ms (rw f at e) in
    record { at = suc a.at; inside = omega (arith, a.inside); named = a.named; label = a.label; abort = a.abort; same = a.same })

means_aborted : (id named : MessageId) (label : ℕ) (ms : List (List ℕ)) (j : ℕ) → j < length ms → submission_of (get_or ms j []) ≡ Ok (Kind.Abort named, label)
    → named.0 ≡ id.0 → is_aborted id ms ≡ true
unfolding is_aborted
means_aborted id named label [] j l e s = absurd (omega arith)
means_aborted id named label (m ∷ ms) zero l e s = rw (e, eq-eqb named.0 id.0 s)
means_aborted id named label (m ∷ ms) (suc j) l e s =
    by_test (aborts_id id (kind_held (submission_of m))) (λ t. rw t) (λ f. rw f (means_aborted id named label ms j (omega arith) e s))

-- ---- the message at a place of the queue
held-request : (x : Result (Kind × ℕ) SubmissionError) (id : MessageId) → kind_held x ≡ Kind.Request id → (label : ℕ) × (x ≡ Ok (Kind.Request id, label))
held-request (Err SubmissionError.Malformed) id e = let z : ◌≡◌ {A = ℕ} 0 1 = cc in absurd (omega arith)
held-request (Err SubmissionError.Refused) id e = let z : ◌≡◌ {A = ℕ} 0 1 = cc in absurd (omega arith)
held-request (Ok (k, l)) id e = (l, ap (λ (x : Kind). Ok (x, l)) e)

module _ (s : State) (place : ℕ) (l : place < held s) where
  at_place : drop place s.queue ≡ get_or s.queue place [] ∷ drop (suc place) s.queue
  at_place = drop-cons s.queue place [] l

  pub left_out_at : place < issued_count s → is_undone (drop place s.queue) ≡ true → LeftOutAt s place
  left_out_at numbered e =
      let m = get_or s.queue place [] in
      let ms = drop (suc place) s.queue in
      undone-request (λ k. kind_held (submission_of m) ≡ k → LeftOutAt s place) m ms (λ id a q.
      let r = held-request (submission_of m) id q in
      let b : AbortAmong id ms = aborted_means id ms a in
      record {
        numbered = numbered;
        id = id;
        label = r.0;
        request = r.1;
        later = suc place + b.at;
        behind = omega arith;
        inside = omega (arith, b.inside, length-drop (suc place) s.queue);
        named = b.named;
        beside = b.label;
        abort = rw (get_or-drop (suc place) s.queue b.at []) at b.abort;
        same = b.same;
      }) (rw at_place at e) refl

  pub at-left_out : LeftOutAt s place → is_undone (drop place s.queue) ≡ true
  at-left_out o =
      let j : suc place + (o.later - suc place) ≡ o.later = omega (arith, o.behind) in
      rw (at_place, o.request)
      (means_aborted o.id o.named o.beside (drop (suc place) s.queue) (o.later - suc place) (omega (arith, o.inside, o.behind, length-drop (suc place) s.queue))
      (rw (get_or-drop (suc place) s.queue (o.later - suc place) [], j) o.abort) o.same)

-- ---- what a Send passes over, and where it stops
module _ (s : State) (sent : ℕ) (l : sent < held s) where
  abbrev rest : List (List ℕ)
  rest = drop sent s.queue

  abbrev numbers : ℕ
  numbers = issued_count s - sent

  from_rest : (j : ℕ) → drop j rest ≡ drop (sent + j) s.queue
  from_rest j = drop-drop j sent s.queue

  pub passes_over : PassesOver s sent (next_place s sent)
  passes_over = record {
    from = omega arith;
    each = λ p low high.
        let e : sent + (p - sent) ≡ p = omega arith in
        let u = passed-undone numbers rest (p - sent) (omega arith) in
        left_out_at s p (omega (arith, next-held s sent l)) (omega (arith, u.1)) (rw (from_rest (p - sent), e) at u.0);
    stops = λ o.
        let u : is_undone (drop (next_place s sent) s.queue) ≡ true = at-left_out s (next_place s sent) (next-held s sent l) o in
        let f : is_undone (drop (passed_over numbers rest) rest) ≡ false = passed_stops numbers rest (omega (arith, o.numbered)) in
        true≢false (sym (rw (from_rest (passed_over numbers rest)) u) ∙ f);
    some = next-held s sent l;
  }

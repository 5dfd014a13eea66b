-- The walk over the Requests that a Send passes over, and what block 0's numbers say of them. Assumes nothing.
use Rattle.std.specs.Prelude.{Option}
use Prim.Native.Nat.{ℕ, zero, suc, ◌+◌, ◌-◌, ◌≤◌, ◌<◌}
use mathlib.Core.Bool.{Bool, true, false}
use mathlib.Core.List.{List, [], ◌∷◌}
use mathlib.Core.Path.{◌≡◌, refl, sym, ap, ◌∙◌}
use native.Mathlib.Numerals.{add-one}
use native.Mathlib.Omega.{arith}
use lib.ListN.{length, get_or, drop, take, length-drop}
use lib.Seq.{drop-cons, drop-drop, take_all}
use Rattle.ft_number.specs.declared.MessageId.{MessageId}
use Rattle.block0.specs.declared.Header.{Header}
use Rattle.message.specs.declared.Kind.{Kind}
use Rattle.message.specs.Reading.{id_in}
use Rattle.message.specs.Storable.{kind_in}
use Rattle.message.specs.Submission.{submission_of}
use Rattle.image.specs.State.{decode}
use Rattle.image.specs.Verdict.{IsSound}
use Rattle.image.proofs.Queue.{queue_length}
use Rattle.protocol.specs.LeftOut.{is_undone, kind_held, left_out_from, passed_over}
use Rattle.protocol.specs.Phases.{count_of, issued_count}
use Rattle.protocol.proofs.PassedOver.{none_passed}
use Rattle.calls.specs.State.{state_of, state_of_numbers}
use Rattle.call_meaning.proofs.Putting.{image_window}
use Rattle.send.specs.Aborted.{aborted_ids, is_among}
use Rattle.send.proofs.Aborted.{kind_in_lem, none_undone, request-held, among_aborted}

-- ---- the message at a place of the queue
module _ (queue : List (List ℕ)) (i : ℕ) (inside : i < length queue) where
  abbrev here : List ℕ
  here = get_or queue i []

  at_place : drop i queue ≡ here ∷ drop (i + 1) queue
  at_place = drop-cons queue i [] inside ∙ rw add-one

  pub undone_none : {k : ℕ} → k ≡ kind_in (submission_of here) → (k ≡ 7 → ⊥) → false ≡ is_undone (drop i queue)
  undone_none e n = rw at_place (none_undone (kind_held (submission_of here)) (drop (i + 1) queue) (λ q. n (e ∙ kind_in_lem (submission_of here) ∙ q)))

  pub undone_among : {k : ℕ} {m : List ℕ} {id : MessageId} {ids : List (Option MessageId)} {b : Bool} → k ≡ kind_in (submission_of here) → k ≡ 7 → m ≡ here → id ≡ id_in m
      → ids ≡ aborted_ids (drop (i + 1) queue) → b ≡ is_among id ids → b ≡ is_undone (drop i queue)
  undone_among {id = id} ek k em ei es eb =
      let request : kind_held (submission_of here) ≡ Kind.Request id = request-held here (sym ek ∙ k) ∙ ap Kind.Request (sym (ei ∙ ap id_in em)) in
      rw (at_place, request) (eb ∙ ap (is_among id) es ∙ among_aborted id (drop (i + 1) queue))

-- the IDs behind one more
drop_aborted : (n : ℕ) (ms : List (List ℕ)) → drop n (aborted_ids ms) ≡ aborted_ids (drop n ms)
drop_aborted zero ms = refl
drop_aborted (suc n) [] = refl
drop_aborted (suc n) (m ∷ ms) = drop_aborted n ms

pub behind_is : (queue : List (List ℕ)) (from i : ℕ) {ids : List (Option MessageId)} → ids ≡ aborted_ids (drop from queue)
    → take (length ids - (i + 1)) (drop (i + 1) ids) ≡ aborted_ids (drop (from + i + 1) queue)
behind_is queue from i {ids} e =
    let q : from + (i + 1) ≡ from + i + 1 = omega arith in
    take_all (length ids - (i + 1)) (drop (i + 1) ids) (simp length-drop (omega arith))
    ∙ ap (drop (i + 1)) e
    ∙ drop_aborted (i + 1) (drop from queue)
    ∙ ap aborted_ids (drop-drop (i + 1) from queue ∙ ap (λ (n : ℕ). drop n queue) q)

-- ---- a walk that has passed over i of the n that have a number: what is left to say is of the rest
pub record Passing (n : ℕ) (ms : List (List ℕ)) (i : ℕ) : Type 0 where
  pub inside : i ≤ n
  pub rest : passed_over n ms ≡ i + passed_over (n - i) (drop i ms)

passed_one : (n : ℕ) (m : List ℕ) (ms : List (List ℕ)) → is_undone (m ∷ ms) ≡ true → passed_over (suc n) (m ∷ ms) ≡ suc (passed_over n ms)
unfolding passed_over
passed_one n m ms t = rw t

pub passed_none : (n : ℕ) (ms : List (List ℕ)) → is_undone ms ≡ false → passed_over n ms ≡ 0
unfolding passed_over
passed_none zero ms f = refl
passed_none (suc n) [] f = refl
passed_none (suc n) (m ∷ ms) f = rw f

pub passing_all : (n : ℕ) (ms : List (List ℕ)) (i : ℕ) → Passing n ms i → n ≤ i → n ≡ passed_over n ms
unfolding passed_over
passing_all n ms i p h = let z : n - i ≡ 0 = omega arith in let none : passed_over (n - i) (drop i ms) ≡ 0 = rw z in omega (arith, p.inside, p.rest, none)

module _ (queue : List (List ℕ)) (from n i : ℕ) (p : Passing n (drop from queue) i) (within : from + n ≤ length queue) (h : i < n) where
  abbrev ms : List (List ℕ)
  ms = drop from queue

  pub passing_one : is_undone (drop (from + i) queue) ≡ true → Passing n ms (i + 1)
  passing_one t =
      let m : List ℕ = get_or ms i [] in
      let next : drop i ms ≡ m ∷ drop (i + 1) ms = drop-cons ms i [] (omega (arith, length-drop from queue)) ∙ rw add-one in
      let fewer : n - i ≡ suc (n - (i + 1)) = omega arith in
      let one : passed_over (n - i) (drop i ms) ≡ suc (passed_over (n - (i + 1)) (drop (i + 1) ms)) =
      rw (fewer, next) (passed_one (n - (i + 1)) m (drop (i + 1) ms) (rw (← drop-drop i from queue, next) at t)) in
      record { inside = omega arith; rest = omega (arith, p.rest, one) }

  pub passing_stops : is_undone (drop (from + i) queue) ≡ false → i ≡ passed_over n ms
  passing_stops f = omega (arith, p.rest, passed_none (n - i) (drop i ms) (rw (← drop-drop i from queue) at f))

-- ---- of an image: what the code was told of its message and of block 0's numbers
module _ (im : List ℕ) (sent : ℕ) where
  pub no_request_lem : {k : ℕ} → sent < (decode im).header.held → k ≡ kind_in (submission_of (get_or (decode im).queue sent [])) → (k ≡ 7 → ⊥) → 0 ≡ left_out_from (state_of im) sent
  no_request_lem l e n =
      sym (passed_none (issued_count (state_of im) - sent) (drop sent (decode im).queue) (sym (undone_none (decode im).queue sent (rw queue_length l) e n)))

  module _ {h : Header} {issued : ℕ} (eh : h ≡ (decode im).header) (ei : issued ≡ issued_count (state_of_numbers h)) where
    issued_is : issued ≡ issued_count (state_of im)
    unfolding issued_count
    issued_is = rw (ei, eh)

    pub none_unsent : issued ≤ sent → 0 ≡ left_out_from (state_of im) sent
    none_unsent l = sym (none_passed (state_of im) sent (rw issued_is at l))

    -- those that have a number are held
    pub numbered-held : IsSound im → sent < issued → sent + (issued - sent) ≤ (decode im).header.held
    unfolding issued_count
    numbered-held s l = let w = image_window im s in omega (arith, issued_is, w.within, queue_length im, ap count_of w.reaches)

    pub left_out_is : {r : ℕ} → r ≡ passed_over (issued - sent) (drop sent (decode im).queue) → r ≡ left_out_from (state_of im) sent
    left_out_is e = rw issued_is at e

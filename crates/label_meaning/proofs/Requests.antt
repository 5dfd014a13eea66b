-- The life of a Request: no event but one makes it, and it stays until it is ended at its place. Assumes nothing.
use Rattle.std.specs.Prelude.{Option, Some, None}
use Prim.Native.Nat.{ℕ, ◌+◌, ◌*◌, ◌≤◌, ◌<◌}
use mathlib.Core.Bool.{Bool, true, false, true≢false, false≢true}
use mathlib.Core.List.{List}
use mathlib.Core.Logic.{◌≢◌, inr, ⊎_elim}
use mathlib.Core.Path.{◌≡◌, refl, sym, ◌∙◌}
use native.Mathlib.Omega.{arith}
use lib.Dec.{eqb}
use lib.ListN.{length, get_or, set, length-set}
use lib.Seq.{get_or-set_same}
use borrow.Author.Tests.{eqb-true, eq-eqb, ne_eqb, eqb-false}
use Rattle.octets.proofs.Choice.{by_test, pick_all, no}
use Rattle.label_list.specs.declared.LabelMessage.{LabelMessage}
use Rattle.label_list.specs.declared.LabelMessage.TheVariants.{Mapping, Withdraw, Release}
use Rattle.label_list.specs.declared.Side.{Side}
use Rattle.label_list.specs.declared.SweepRule.{SweepRule}
use Rattle.label_list.specs.declared.SweepRule.TheVariants.{WithdrawAll, ReleaseAll, AfterBreak}
use Rattle.label_list.specs.Find.{find_of}
use Rattle.label_list.specs.Rules.{sent_side, received_side, code_accepted, code_acked, code_received, code_swept}
use Rattle.label_list.specs.Sweep.{word_swept, swept_of, word_reached, reached_of}
use Rattle.label_list.specs.Word.{label_count, label_of, code_of, word_of, is_free, on_side, request_word, is_request, without_protection, listable, stands_for, request_code}
use Rattle.label_list.proofs.OpenIds.{request_inside}
use Rattle.label_list.proofs.Reached.{found_in_lem, found_place, found_passes}
use Rattle.label_list.proofs.Standing.{within_range, stands_parts, request_stands, request_word_lem, side-plain}
use Rattle.label_events.specs.declared.Meets.{Meets}
use Rattle.label_events.specs.Accept.{plan_by, plan_of, accepted_by, accepted_of}
use Rattle.label_events.specs.Ack.{acked_at}
use Rattle.label_events.specs.Change.{code_at, take_free, change_at, changed, move_to, placed_at}
use Rattle.label_events.specs.Reach.{Reach, Those, Label, Nothing}
use Rattle.label_events.specs.Receive.{received_change, every_received, received_with, received_of, moves_by}
use Rattle.label_events.specs.Requests.{ended_at, room_at}
use Rattle.label_meaning.specs.Event.{LabelEvent, Accepted, Acked, Received, Asked, Ended, Broken, after_event}
use Rattle.label_meaning.specs.Requests.{ends_at}
use Rattle.label_meaning.proofs.Effect.{at-index, FreeAt, free_first}
use Rattle.label_meaning.proofs.Proper.{Proper, accepted_proper, acked_proper, received_proper}
use Rattle.label_meaning.proofs.Step.{code_proper, room_is_free}
use Rattle.label_meaning.proofs.Swept.{swept_request, swept_at}

-- The Requests of a list afterwards: none is new, and all are there but the one at that place.
record RequestsStay (before after : List ℕ) (ended : Option ℕ) : Type 0 where
  pub old : (i : ℕ) → is_request (get_or after i 0) ≡ true → is_request (get_or before i 0) ≡ true
  pub still : (i : ℕ) → ended ≢ Some i → is_request (get_or before i 0) ≡ true → is_request (get_or after i 0) ≡ true

same_requests : (words : List ℕ) (ended : Option ℕ) → RequestsStay words words ended
same_requests words ended = record { old = λ i e. e; still = λ i apart e. e }

then_requests : {before mid after : List ℕ} {ended : Option ℕ} → RequestsStay before mid ended → RequestsStay mid after None → RequestsStay before after ended
then_requests x y =
    record {
      old = λ i e. x.old i (y.old i e);
      still = λ i apart e. y.still i (λ z. no cc) (x.still i apart e);
    }

-- ---- words that are no Request's
module _ (w : ℕ) where
  pub free-plain : w ≡ 0 → is_request w ≡ false
  unfolding is_request
  free-plain e = rw e

  stands_plain : (s : Side) (l : ℕ) → stands_for s l w ≡ true → is_request w ≡ false
  stands_plain s l e =
      by_test (is_request w) (λ t. absurd (true≢false (sym e ∙ request_stands s l w (request_word_lem w t)))) (λ f. f)

proper_plain : (s : Side) (c : ℕ) → Proper s c → c ≢ request_code
proper_plain s c h = ⊎_elim (λ (z : c ≡ 0). λ e. omega arith) (λ (on : on_side s c ≡ true). side-plain s c on) h

written-plain : (l c : ℕ) → l < label_count → c ≢ request_code → is_request (word_of l c) ≡ false
unfolding is_request word_of
written-plain l c h plain = by_test (eqb c 0) (λ z. rw z) (λ z. rw z (ne_eqb (l + label_count * c) request_word (λ e. omega arith)))

-- ---- one word is another, a Request's neither before nor afterwards
set_requests : (words : List ℕ) (i w : ℕ) → i < length words → is_request (get_or words i 0) ≡ false → is_request w ≡ false → RequestsStay words (set words i w) None
set_requests words i w inside was new =
    record {
      old = λ j. at-index words i w inside (λ (x : ℕ). is_request x ≡ true → is_request (get_or words j 0) ≡ true) j (λ e t. absurd (true≢false (sym t ∙ new))) (λ e t. t);
      still = λ j apart t. at-index words i w inside (λ (x : ℕ). is_request x ≡ true) j (λ e. absurd (true≢false (sym (rw e at t) ∙ was))) (λ e. t);
    }

module _ (words : List ℕ) (s : Side) (l c : ℕ) (small : l < label_count) (plain : c ≢ request_code) where
  found_requests : (i : ℕ) → Some i ≡ find_of (stands_for s l) words → RequestsStay words (set words i (word_of l c)) None
  found_requests i e =
      set_requests words i (word_of l c) (found_place words (Some i) i (found_in_lem (stands_for s l) words e) refl)
      (stands_plain (get_or words i 0) s l (found_passes (stands_for s l) words i e refl)) (written-plain l c small plain)

  free_requests : (room : Option ℕ) → FreeAt words room → RequestsStay words (changed words (take_free room (word_of l c))) None
  unfolding changed
  free_requests (Some j) free = set_requests words j (word_of l c) free.0 (free-plain (get_or words j 0) free.1) (written-plain l c small plain)
  free_requests None free = same_requests words None

  change_requests : (f room : Option ℕ) → f ≡ find_of (stands_for s l) words → FreeAt words room → RequestsStay words (changed words (change_at f room l c)) None
  unfolding change_at changed
  change_requests (Some i) room e free = found_requests i e
  change_requests None room e free =
      by_test (eqb c 0) (λ z. rw z (same_requests words None)) (λ z. rw z (free_requests room free))

  -- a label that moves
  move_requests : (i : ℕ) (room : Option ℕ) → Some i ≡ find_of (stands_for s l) words → FreeAt words room → RequestsStay words (changed words (move_to i room (word_of l c))) None
  unfolding changed
  move_requests i (Some j) e free =
      let inside : i < length words = found_place words (Some i) i (found_in_lem (stands_for s l) words e) refl in
      let was : is_request (get_or words i 0) ≡ false = stands_plain (get_or words i 0) s l (found_passes (stands_for s l) words i e refl) in
      let empty : get_or (set words i 0) j 0 ≡ 0 = at-index words i 0 inside (λ (x : ℕ). x ≡ 0) j (λ same. refl) (λ apart. free.1) in
      then_requests (set_requests words i 0 inside was (free-plain 0 refl))
      (set_requests (set words i 0) j (word_of l c) (rw (length-set words i 0) free.0) (free-plain (get_or (set words i 0) j 0) empty) (written-plain l c small plain))
  move_requests i None e free = same_requests words None

  placed_requests : (b : Bool) (f room : Option ℕ) → f ≡ find_of (stands_for s l) words → FreeAt words room → RequestsStay words (changed words (placed_at b f room l c)) None
  unfolding placed_at
  placed_requests true (Some i) room e free = move_requests i room e free
  placed_requests true None room e free = change_requests None room e free
  placed_requests false f room e free = change_requests f room e free

-- ---- a sweep leaves a Request's word, and makes none
abbrev WasRequest : ℕ → ℕ → Type 0
WasRequest c d = d ≡ request_code → c ≡ request_code

rule-keeps : (r : SweepRule) (c : ℕ) → WasRequest c (code_swept r c)
unfolding code_swept code_received
rule-keeps WithdrawAll c = pick_all (WasRequest c) (eqb c 3) (λ e. omega arith) (pick_all (WasRequest c) (eqb c without_protection) (λ e. omega arith) (λ e. e))
rule-keeps ReleaseAll c =
    pick_all (WasRequest c) (eqb c 1) (λ e. omega arith)
    (pick_all (WasRequest c) (eqb c 2) (λ e. omega arith) (pick_all (WasRequest c) (eqb c 8) (λ e. omega arith) (λ e. e)))
rule-keeps AfterBreak c = pick_all (WasRequest c) (eqb c without_protection) (λ e. omega arith) (λ e. e)

own_word : (w : ℕ) → is_request (word_of (label_of w) (code_of w)) ≡ true → is_request w ≡ true
unfolding is_request word_of
own_word w t =
    by_test
    (eqb (code_of w) 0)
    (λ z. absurd (false≢true (rw z at t)))
    (λ z. eq-eqb w request_word (omega (arith, eqb-true (label_of w + label_count * code_of w) request_word (rw z at t))))

swept_old : (r : SweepRule) (w : ℕ) → is_request (word_swept r w) ≡ true → is_request w ≡ true
unfolding word_swept
swept_old r w t =
    by_test
    (eqb (code_swept r (code_of w)) request_code)
    (λ e.
    let seven : code_swept r (code_of w) ≡ request_code = eqb-true (code_swept r (code_of w)) request_code e in
    own_word w (rw (seven, ← rule-keeps r (code_of w) seven) at t))
    (λ e. absurd (true≢false (sym t ∙ written-plain (label_of w) (code_swept r (code_of w)) (omega arith) (eqb-false (code_swept r (code_of w)) request_code e))))

reached-old : (reached : ℕ → Bool) (r : SweepRule) (w : ℕ) → is_request (word_reached reached r w) ≡ true → is_request w ≡ true
unfolding word_reached
reached-old reached r w t = by_test (reached (label_of w)) (λ y. swept_old r w (rw y at t)) (λ n. rw n at t)

pub request_itself : is_request request_word ≡ true
unfolding is_request
request_itself = refl

reached_requests : (words : List ℕ) (reached : ℕ → Bool) (r : SweepRule) → RequestsStay words (reached_of words reached r) None
reached_requests words reached r =
    record {
      old = λ i t. reached-old reached r (get_or words i 0) (rw (swept_at words reached r i) at t);
      still = λ i apart t. rw (swept_at words reached r i, request_word_lem (get_or words i 0) t, swept_request reached r) request_itself;
    }

swept_requests : (words : List ℕ) (r : SweepRule) → RequestsStay words (swept_of words r) None
unfolding word_reached
swept_requests words r = reached_requests words (λ k. true) r

-- ---- each event
module _ (words : List ℕ) where
  next_requests : (m : LabelMessage) (l : ℕ) (n : Option ℕ) → l < label_count → code_accepted m (code_at words (sent_side m) l) ≡ n
      → RequestsStay words (accepted_by words (plan_by n words (sent_side m) l)).1 None
  next_requests m l (Some c) small e =
      change_requests words (sent_side m) l c small (proper_plain (sent_side m) c (accepted_proper m (code_at words (sent_side m) l) c e))
      (find_of (stands_for (sent_side m) l) words) (find_of is_free words) refl (free_first words (find_of is_free words) refl)
  next_requests m l None small e = same_requests words None

  accepted_requests : (m : LabelMessage) (l : ℕ) → RequestsStay words (accepted_of words m l).1 None
  unfolding accepted_of plan_of
  accepted_requests m l =
      by_test
      (listable l)
      (λ may.
      let range : (16 ≤ l) × (l ≤ 1048575) = within_range 16 1048575 l may in
      rw may (next_requests m l (code_accepted m (code_at words (sent_side m) l)) (omega arith) refl))
      (λ may. rw may (same_requests words None))

  acked_requests : (m : LabelMessage) (l : ℕ) (f : Option ℕ) → f ≡ find_of (stands_for (sent_side m) l) words → RequestsStay words (acked_at f words m l) None
  unfolding acked_at
  acked_requests m l (Some i) e =
      let parts : (on_side (sent_side m) (code_of (get_or words i 0)) ≡ true) × (label_of (get_or words i 0) ≡ l) =
      stands_parts (sent_side m) l (get_or words i 0) (found_passes (stands_for (sent_side m) l) words i e refl) in
      let c : ℕ = code_acked m (code_of (get_or words i 0)) in
      found_requests words (sent_side m) l c (omega (arith, parts.1)) (proper_plain (sent_side m) c (acked_proper m (code_of (get_or words i 0)) (inr parts.0))) i e
  acked_requests m l None e = same_requests words None

  every_requests : (m : LabelMessage) (reached : ℕ → Bool) → RequestsStay words (every_received m reached words) None
  unfolding every_received
  every_requests Mapping reached = same_requests words None
  every_requests Withdraw reached = reached_requests words reached WithdrawAll
  every_requests Release reached = reached_requests words reached ReleaseAll

  with_requests : (room : Option ℕ) → FreeAt words room → (another : Bool) (m : LabelMessage) (p : Bool) (t : Reach) → RequestsStay words (received_with words room another m p t).1 None
  unfolding received_with received_change changed
  with_requests room free another m p (Label l) =
      let c : ℕ = code_received m p (code_at words (received_side m) l) in
      by_test
      (listable l)
      (λ may.
      let range : (16 ≤ l) × (l ≤ 1048575) = within_range 16 1048575 l may in
      rw may
      (placed_requests words (received_side m) l c (omega arith)
      (proper_plain (received_side m) c (received_proper m p (code_at words (received_side m) l) (code_proper words (received_side m) l)))
      (moves_by m another) (find_of (stands_for (received_side m) l) words) room refl free))
      (λ may. rw may (same_requests words None))
  with_requests room free another m p (Those reached) = every_requests m reached
  with_requests room free another m p Nothing = same_requests words None

  -- where a Request was ended none is open
  ended-closed : (i : ℕ) → is_request (get_or (ended_at (Some i) words) i 0) ≡ false
  unfolding ended_at
  ended-closed i =
      by_test
      (is_request (get_or words i 0))
      (λ t. rw t (free-plain (get_or (set words i 0) i 0) (get_or-set_same words i 0 0 (request_inside words i t))))
      (λ f. rw f f)

  ended_requests : (r : Option ℕ) → RequestsStay words (ended_at r words) r
  unfolding ended_at
  ended_requests (Some i) =
      by_test
      (is_request (get_or words i 0))
      (λ t.
      let inside : i < length words = request_inside words i t in
      rw t
      (record {
        old = λ j. at-index words i 0 inside (λ (x : ℕ). is_request x ≡ true → is_request (get_or words j 0) ≡ true) j (λ e u. rw e t) (λ e u. u);
        still = λ j apart u. at-index words i 0 inside (λ (x : ℕ). is_request x ≡ true) j (λ e. absurd (apart (rw e))) (λ e. u);
      }))
      (λ f. rw f (same_requests words (Some i)))
  ended_requests None = same_requests words None

  asked-still : (room : Option ℕ) → FreeAt words room → (i : ℕ) → is_request (get_or words i 0) ≡ true → is_request (get_or (changed words (take_free room request_word)) i 0) ≡ true
  unfolding changed
  asked-still (Some j) free i t = at-index words j request_word free.0 (λ (x : ℕ). is_request x ≡ true) i (λ e. request_itself) (λ e. t)
  asked-still None free i t = t

after-ended : (words : List ℕ) (x : Meets) (m : LabelMessage) (p : Bool) (t : Reach) → RequestsStay (ended_at x.request words) (received_of words x m p t).1 None
after-ended words x m p t =
    with_requests (ended_at x.request words) (room_at x.request x.spare words) (room_is_free x.request x.spare words) x.another m p t

step_requests : (words : List ℕ) (e : LabelEvent) → e ≢ Asked → RequestsStay words (after_event words e) (ends_at e)
unfolding after_event
step_requests words (Accepted m l) other = accepted_requests words m l
step_requests words (Acked m l) other = acked_requests words m l (find_of (stands_for (sent_side m) l) words) refl
step_requests words (Received x m p t) other = then_requests (ended_requests words x.request) (after-ended words x m p t)
step_requests words Asked other = absurd (other refl)
step_requests words (Ended r) other = ended_requests words r
step_requests words Broken other = swept_requests words AfterBreak

-- No event but that of asking makes a Request.
pub request-old : (words : List ℕ) (e : LabelEvent) → e ≢ Asked → (i : ℕ) → is_request (get_or (after_event words e) i 0) ≡ true → is_request (get_or words i 0) ≡ true
request-old words e other = (step_requests words e other).old

-- A Request is open until an event ends it at its place.
pub request-still : (words : List ℕ) (e : LabelEvent) (i : ℕ) → ends_at e ≢ Some i → is_request (get_or words i 0) ≡ true → is_request (get_or (after_event words e) i 0) ≡ true
unfolding after_event
request-still words (Accepted m l) = (step_requests words (Accepted m l) (λ z. no cc)).still
request-still words (Acked m l) = (step_requests words (Acked m l) (λ z. no cc)).still
request-still words (Received r m p t) = (step_requests words (Received r m p t) (λ z. no cc)).still
request-still words Asked = λ i apart. asked-still words (find_of is_free words) (free_first words (find_of is_free words) refl) i
request-still words (Ended r) = (step_requests words (Ended r) (λ z. no cc)).still
request-still words Broken = (step_requests words Broken (λ z. no cc)).still

-- Then it is open no more.
pub request_ends : (words : List ℕ) (e : LabelEvent) (i : ℕ) → ends_at e ≡ Some i → is_request (get_or (after_event words e) i 0) ≡ false
unfolding after_event
request_ends words (Accepted m l) i at = no cc
request_ends words (Acked m l) i at = no cc
request_ends words (Received x m p t) i at =
    by_test
    (is_request (get_or (received_of words x m p t).1 i 0))
    (λ u.
    let was : is_request (get_or (ended_at x.request words) i 0) ≡ true = (after-ended words x m p t).old i u in
    absurd (true≢false (sym (rw at at was) ∙ ended-closed words i)))
    (λ f. f)
request_ends words Asked i at = no cc
request_ends words (Ended r) i at = rw at (ended-closed words i)
request_ends words Broken i at = no cc

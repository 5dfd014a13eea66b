-- A round moves R, I and S to their successor; so rounds lead to 0xFFFFFFFE, and two messages more go over the wrap. Assumes nothing.
use Rattle.std.specs.Prelude.{Some, None, Ok}
use Prim.Native.Nat.{ℕ, zero, suc, ◌≤◌}
use mathlib.Core.Bool.{true, false}
use mathlib.Core.List.{List, [], ◌∷◌, ◌++◌}
use mathlib.Core.Path.{◌≡◌, refl, sym, ap, ◌∙◌}
use native.Mathlib.Omega.{arith}
use borrow.Author.Tests.{ne_eqb}
use Rattle.octets.specs.Laid.{laid}
use Rattle.ft_number.specs.declared.FtNumber.{FtNumber}
use Rattle.ft_number.specs.Ack.{ack_of}
use Rattle.ft_number.specs.Circle.{after, circle, next, steps_of}
use Rattle.ft_number.specs.Turn.{number_turn}
use Rattle.ft_number.proofs.Circle.{after_is, after_none, after-suc, steps-after}
use Rattle.ft_number.proofs.Turns.{means_turn}
use Rattle.label_list.specs.Counting.{counting}
use Rattle.label_list.specs.Word.{is_request, lists_label, on_side}
use Rattle.tlv.specs.Walk.{none_found}
use Rattle.label_events.specs.Requests.{ended_at}
use Rattle.message.specs.declared.Kind.{Kind}
use Rattle.message.specs.declared.Message.{Message}
use Rattle.message.specs.declared.MessageType.{MessageType}
use Rattle.message.specs.Kinds.{kind_of}
use Rattle.message.specs.Reading.{reading_of}
use Rattle.message.specs.Submission.{no_label, submission_of}
use Rattle.message_writer.specs.Forms.{keepalive_bytes, protected_bytes, raised}
use Rattle.message_writer.specs.Payload.{payload_of}
use Rattle.message_writer.specs.ReadBack.{keepalive_message, own_message, protected_message}
use Rattle.message_writer.proofs.Kept.{protected_payload}
use Rattle.message_writer.proofs.Own.{keepalive_reads}
use Rattle.message_writer.proofs.Protected.{protected_reads}
use Rattle.protocol.specs.declared.Answer.{Answer}
use Rattle.protocol.specs.Accepting.{accepted_as, is_barred, ids_accepted, index_accepted}
use Rattle.protocol.specs.Acked.{acked, released_kind, released_labels}
use Rattle.protocol.specs.Answers.{effect_of}
use Rattle.protocol.specs.KeepAlive.{keepalive}
use Rattle.protocol.specs.Labels.{label_effect, protection_rule, answers, answered_at}
use Rattle.protocol.specs.LeftOut.{passed_over}
use Rattle.protocol.specs.Phases.{issued_count, phase_fits, up_with}
use Rattle.protocol.specs.Receive.{ack_on, ft_rule, labels_rule, message_rule, received_state, taken, receive}
use Rattle.protocol.specs.Send.{ack_asked, place_sent, queue_number, numbered, send_bytes, send_next, send_rule, sent_state}
use Rattle.protocol.specs.State.{State, with_queue, with_released}
use Rattle.protocol.specs.Step.{Step, admitted, settle, stepped}
use Rattle.protocol.specs.Submit.{kind_rule, submit, submit_rule, submitted}
use Rattle.two_ends.specs.Calls.{offered, sent, wrote}
use Rattle.two_ends.specs.Runs.{delivers, keepalives, run, sends, event_at, submits}
use Rattle.two_ends.specs.World.{World, swap}
use Rattle.two_ends.proofs.Positions.{num-le}
use Rattle.stored_ends.proofs.Follows.{run-append}
use Rattle.two_ends_runs.specs.Cabinets.{address, alive as reply, deliver, id, kept_with, room, send}
use Rattle.two_ends_runs.specs.Tales.{begin, ending}
use Rattle.two_ends_runs.specs.Wrap.{crossed, crossing, round, rounds, sevens, wrap, wrap_ends}
use Rattle.two_ends_runs.proofs.Opened.{everything}

-- R, I, and what is held at a
abbrev sender : ℕ → ℕ → List (List ℕ) → State
sender r i q = with_queue (with_released (kept_with i 0) (record { 0 = r })) q

abbrev number : ℕ → FtNumber
number n = record { 0 = n }

-- the Address message as it is read
abbrev plain : Message
plain =
    own_message MessageType.Address 768 (record { 0 = 7 }) none_found None (record { start = 0; end = 0 }) None None

plain_reads : reading_of (address 7) ≡ Some plain
unfolding everything
plain_reads = refl

plain_submits : submission_of (address 7) ≡ Ok (Kind.Address, no_label)
unfolding everything
plain_submits = refl

-- a world in which both are up: a's state, what it has sent on this connection, accepted and let go, b's state and what it has secured, and the two lines
abbrev pub up : State → ℕ → List (List ℕ) → List (List ℕ) → State → List (List ℕ) → List (List ℕ) → List (List ℕ) → World
up s sent accepted letgo t secured ab ba = record {
  a = record { state = s; phase = up_with false sent; joined = true; begun = true; history = record { accepted = accepted; letgo = letgo; secured = []; left = [] } };
  b = record { state = t; phase = up_with false 0; joined = true; begun = true; history = record { accepted = []; letgo = []; secured = secured; left = [] } };
  ab = ab;
  ba = ba;
  started = true;
  unreleased = true;
}

-- nothing is held or under way; b has secured all that a has sent, and the last of it had that number
abbrev pub quiet_at : ℕ → List (List ℕ) → World
quiet_at n before = up (kept_with n 0) 0 before before (kept_with 0 n) before [] []

begins_quiet : begin [] ≡ quiet_at 0 []
unfolding everything
begins_quiet = refl

module _ (x : ℕ) (low : x ≤ circle) where
  abbrev y : ℕ
  y = next x

  steps_none : steps_of x x ≡ Some 0
  steps_none = rw (after_none x) at (steps-after x 0 low (omega arith))

  steps_one : steps_of x y ≡ Some 1
  unfolding after
  steps_one = steps-after x 1 low (omega arith)

  -- ---- a accepts 7, and sends it
  submits_it : submit (kept_with x 0) (up_with false 0) (address 7) ≡ stepped Answer.Done (sender x x (address 7 ∷ [])) (up_with false 0) []
  unfolding submit settle admitted phase_fits issued_count effect_of submit_rule kind_rule is_barred accepted_as ids_accepted index_accepted submitted counting is_request lists_label on_side
  submits_it = rw (steps_none, plain_submits)

  abbrev carried : List ℕ
  carried = protected_bytes (address 7) (number y) (Some (number 0))

  sends_it : send_next (sender x x (address 7 ∷ [])) (up_with false 0) true room ≡ stepped Answer.Done (sender x y (address 7 ∷ [])) (up_with false 1) carried
  unfolding send_next settle admitted phase_fits send_rule send_bytes queue_number ack_asked sent_state numbered effect_of issued_count after raised laid place_sent passed_over
  sends_it = rw steps_none

  -- ---- b takes it
  abbrev borne : Message
  borne = protected_message plain 8 (number y) (Some (number 0))

  carried_reads : reading_of carried ≡ Some borne
  carried_reads =
      protected_reads (address 7) plain (number y) (Some (number 0)) plain_reads (record { session = refl; protection = refl; ack = refl })
      (omega arith) (omega arith) (omega arith)

  carried_payload : payload_of carried ≡ address 7
  carried_payload =
      protected_payload (address 7) plain (number y) (Some (number 0)) plain_reads (record { session = refl; protection = refl; ack = refl }) (omega arith) (omega arith)

  in_turn : number_turn false x y ≡ Ok 0
  unfolding after
  in_turn = means_turn false x 0 low (omega arith)

  takes_it : receive (kept_with 0 x) (up_with false 0) carried ≡ stepped Answer.Done (kept_with 0 y) (up_with false 0) []
  unfolding receive settle admitted phase_fits issued_count effect_of ft_rule message_rule labels_rule protection_rule label_effect kind_of ack_on ack_of steps_of received_state taken acked released_labels answers answered_at ended_at counting is_request lists_label on_side
  takes_it = rw (carried_reads, ne_eqb y 0 (omega arith), in_turn)

  -- ---- b acknowledges it, and a lets it go
  abbrev alive : List ℕ
  alive = keepalive_bytes id (Some (number y))

  says_it : keepalive (kept_with 0 y) (up_with false 0) id room ≡ stepped Answer.Done (kept_with 0 y) (up_with false 0) alive
  unfolding everything
  says_it = refl

  alive_reads : reading_of alive ≡ Some (keepalive_message id (Some (number y)))
  alive_reads = keepalive_reads id (Some (number y)) (omega arith) (omega arith)

  lets_go : receive (sender x y (address 7 ∷ [])) (up_with false 1) alive ≡ stepped Answer.Done (kept_with y 0) (up_with false 0) []
  unfolding receive settle admitted phase_fits issued_count effect_of ft_rule message_rule labels_rule protection_rule label_effect kind_of ack_on ack_of received_state taken acked released_labels released_kind answers answered_at ended_at counting is_request lists_label on_side
  lets_go = rw (alive_reads, steps_one, plain_submits)

  -- ---- the round, event by event
  module _ (before : List (List ℕ)) where
    abbrev more : List (List ℕ)
    more = before ++ (address 7 ∷ [])

    abbrev holding : State
    holding = sender x y (address 7 ∷ [])

    abbrev w₁ : World
    w₁ = up (sender x x (address 7 ∷ [])) 0 more before (kept_with 0 x) before [] []

    abbrev w₂ : World
    w₂ = up holding 1 more before (kept_with 0 x) before (carried ∷ []) []

    abbrev w₃ : World
    w₃ = up holding 1 more before (kept_with 0 y) more [] []

    abbrev w₄ : World
    w₄ = up holding 1 more before (kept_with 0 y) more [] (alive ∷ [])

    accepts : event_at (quiet_at x before) true (submits (address 7)) ≡ w₁
    accepts = ap (offered (quiet_at x before) (address 7)) submits_it

    writes : event_at w₁ true (sends true room) ≡ w₂
    writes = ap (sent w₁) sends_it

    secures : event_at w₂ false delivers ≡ w₃
    secures = rw (takes_it, carried_reads, carried_payload)

    acknowledges : event_at w₃ false (keepalives id room) ≡ w₄
    acknowledges = ap (λ (z : Step). swap (wrote (swap w₃) z)) says_it

    releases : event_at w₄ true delivers ≡ quiet_at y more
    releases = rw (lets_go, alive_reads)

    one_round : run (quiet_at x before) round ≡ quiet_at y more
    one_round =
        ap (λ (w : World). run w (send true ∷ deliver false ∷ reply false ∷ deliver true ∷ [])) accepts
        ∙ ap (λ (w : World). run w (deliver false ∷ reply false ∷ deliver true ∷ [])) writes
        ∙ ap (λ (w : World). run w (reply false ∷ deliver true ∷ [])) secures
        ∙ ap (λ (w : World). run w (deliver true ∷ [])) acknowledges
        ∙ releases

-- ---- so many of them, from two new cabinets
pub rounds_lead : (n : ℕ) → begin (rounds n) ≡ quiet_at (after n 0) (sevens n)
unfolding rounds sevens
rounds_lead zero = rw (after_none 0) begins_quiet
rounds_lead (suc n) =
    run-append (begin []) (rounds n) round
    ∙ ap (λ (w : World). run w round) (rounds_lead n)
    ∙ one_round (after n 0) (num-le n) (sevens n)
    ∙ ap (λ (k : ℕ). quiet_at k (sevens n ++ (address 7 ∷ []))) (sym (after-suc n 0))

pub last_number : after 0xFFFFFFFE 0 ≡ 0xFFFFFFFE
last_number = after_is 0xFFFFFFFE 0 (omega arith) (omega arith)

crosses : (before : List (List ℕ)) → ending (run (quiet_at 0xFFFFFFFE before) crossing) ≡ crossed before
unfolding everything
crosses before = refl

pub wrap_is : ending wrap ≡ wrap_ends
wrap_is =
    ap ending
    (run-append (begin []) (rounds 0xFFFFFFFE) crossing
    ∙ ap (λ (w : World). run w crossing) (rounds_lead 0xFFFFFFFE ∙ ap (λ (k : ℕ). quiet_at k (sevens 0xFFFFFFFE)) last_number))
    ∙ crosses (sevens 0xFFFFFFFE)

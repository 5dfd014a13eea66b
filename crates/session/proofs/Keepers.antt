-- No wrong keeper of 01's list meets the promises. Assumes nothing.
use Prim.Native.Nat.{ℕ, ◌+◌, ◌-◌, ◌≤◌, ◌<◌}
use mathlib.Core.Bool.{Bool, true, false, true≢false}
use mathlib.Core.List.{List, []}
use mathlib.Core.Logic.{inl, inr}
use mathlib.Core.Path.{◌≡◌, refl, sym, ap, ◌∙◌}
use native.Mathlib.Omega.{arith}
use lib.ListN.{length, length-drop}
use Rattle.message.specs.Reading.{reading_of}
use Rattle.protocol.specs.declared.Answer.{Answer}
use Rattle.protocol.specs.declared.Phase.{Phase}
use Rattle.protocol.specs.Acked.{acked}
use Rattle.protocol.specs.Answers.{effect_of, is_done}
use Rattle.protocol.specs.Calls.{Call, formats, submits, sends, receives, step}
use Rattle.protocol.specs.Init.{fresh}
use Rattle.protocol.specs.Judged.{judged}
use Rattle.protocol.specs.Phases.{phase_fits, up_with}
use Rattle.protocol.specs.Proper.{Proper}
use Rattle.protocol.specs.Receive.{ack_count, ack_on, received_state, receive_rule, taken}
use Rattle.protocol.specs.State.{State, held}
use Rattle.protocol.specs.Step.{Step}
use Rattle.protocol.specs.Submit.{submit_rule}
use Rattle.protocol.proofs.Queues.{received_queue, receive_state}
use Rattle.protocol.proofs.Settles.{step_answer}
use Rattle.protocol.proofs.Settling.{admitted_is}
use Rattle.calls.specs.Outcomes.{After, settle_of}
use Rattle.calls.specs.State.{state_of}
use Rattle.connect.specs.Start.{format_of}
use Rattle.session.specs.Call.{leaves}
use Rattle.session.specs.Keepers.{InventsCount, InventsHeld, InventsReleased, Is, Keeper, Meets, Taking, Wrong, state_before, state_left, always_refuses, one_answer, one_answer_to_messages, one_count, never_stores, only_nods, invents_counts}
use Rattle.session.proofs.Fresh.{Sending, begun, begun_stands, begun_state, second_send}
use Rattle.session.proofs.Queued.{one_more-held}
use Rattle.session.proofs.Refines.{refines}
use Rattle.session.proofs.Round.{Alive, alive_none, alive-taken, alive_two, rounded, rounded_stands, rounded_state}
use Rattle.session.proofs.Sample.{address, address-taken, alive_with, alive_right, alive_wrong, alive-bytes, terms, address-bytes}

-- ---- what the calls answer to a fresh session
says : (c : Call) → Proper c (up_with false 0) → (leaves c begun (up_with false 0) []).outcome.answer ≡ judged c (fresh terms) (up_with false 0) 0
says c p =
    ap (λ (x : Step). x.answer) (refines begun (up_with false 0) (begun_stands false) [] c p)
    ∙ step_answer c (state_of begun) (up_with false 0) 0
    ∙ ap (λ (s : State). judged c s (up_with false 0) 0) begun_state

fits : phase_fits (up_with false 0) (fresh terms) ≡ true
fits = rw begun_state at (begun_stands false).fits

-- it takes the Address message
begun-takes : (leaves (submits address) begun (up_with false 0) []).outcome.answer ≡ Answer.Done
unfolding judged fresh
begun-takes = says (submits address) address-bytes ∙ admitted_is (fresh terms) (up_with false 0) fits (submit_rule (fresh terms) (up_with false 0) address) ∙ address-taken (fresh terms) (up_with false 0) refl (omega arith)

-- a KeepAlive by the number that it acknowledges
alive_says : (n : ℕ) → n < 256 → {a : Answer} → receive_rule (fresh terms) (up_with false 0) (reading_of (alive_with 0 0 0 n)) ≡ a → (leaves (receives (alive_with 0 0 0 n)) begun (up_with false 0) []).outcome.answer ≡ a
unfolding judged
alive_says n low e =
    says (receives (alive_with 0 0 0 n)) (alive-bytes 0 0 0 n (omega arith) (omega arith) (omega arith) low)
    ∙ admitted_is (fresh terms) (up_with false 0) fits (receive_rule (fresh terms) (up_with false 0) (reading_of (alive_with 0 0 0 n)))
    ∙ e

module _ (keeper : Keeper) (meets : Meets keeper) where
  same_answer : (c : Call) (im : List ℕ) (ph : Phase) (out : List ℕ) → (keeper c im ph out).outcome.answer ≡ (leaves c im ph out).outcome.answer
  same_answer c im ph out = ap (λ (x : After). x.outcome.answer) (meets c im ph out)

  same_image : (c : Call) (im : List ℕ) (ph : Phase) (out : List ℕ) → (keeper c im ph out).image ≡ (leaves c im ph out).image
  same_image c im ph out = ap (λ (x : After). x.image) (meets c im ph out)

  -- what it answers to the first Address message of a fresh session
  takes_one : (keeper (submits address) begun (up_with false 0) []).outcome.answer ≡ Answer.Done
  takes_one = same_answer (submits address) begun (up_with false 0) [] ∙ begun-takes

  refuser_fails : ((im : List ℕ) (ph : Phase) (m : List ℕ) → is_done (keeper (submits m) im ph []).outcome.answer ≡ false) → ⊥
  refuser_fails wrong = true≢false (sym (ap is_done takes_one) ∙ wrong begun (up_with false 0) address)

  wrong_size : (keeper formats [] Phase.Idle []).outcome.answer ≡ Answer.WrongSize
  unfolding leaves format_of settle_of effect_of
  wrong_size = same_answer formats [] Phase.Idle []

  constant_fails : (a : Answer) → ((c : Call) (im : List ℕ) (ph : Phase) (out : List ℕ) → (keeper c im ph out).outcome.answer ≡ a) → ⊥
  constant_fails a wrong =
      let e : Answer.Done ≡ Answer.WrongSize = sym takes_one ∙ wrong (submits address) begun (up_with false 0) [] ∙ sym (wrong formats [] Phase.Idle []) ∙ wrong_size in
      let z : ◌≡◌ {A = ℕ} 0 1 = cc in omega arith

  deaf_fails : (a : Answer) → ((im : List ℕ) (ph : Phase) (m : List ℕ) → (keeper (receives m) im ph []).outcome.answer ≡ a) → ⊥
  deaf_fails a wrong =
      let said : (n : ℕ) → (leaves (receives (alive_with 0 0 0 n)) begun (up_with false 0) []).outcome.answer ≡ a =
      λ n. sym (same_answer (receives (alive_with 0 0 0 n)) begun (up_with false 0) []) ∙ wrong begun (up_with false 0) (alive_with 0 0 0 n) in
      let e : Answer.Done ≡ Answer.AckSequenceError = sym (alive_says 0 (omega arith) alive_right) ∙ said 0 ∙ sym (said 1) ∙ alive_says 1 (omega arith) alive_wrong in
      let z : ◌≡◌ {A = ℕ} 0 1 = cc in omega arith

  storeless_fails : ((im : List ℕ) (ph : Phase) (m : List ℕ) → (keeper (submits m) im ph []).image ≡ im) → ⊥
  storeless_fails wrong =
      let still : held (state_of (leaves (submits address) begun (up_with false 0) []).image) ≡ held (state_of begun) =
      ap (λ (i : List ℕ). held (state_of i)) (sym (same_image (submits address) begun (up_with false 0) []) ∙ wrong begun (up_with false 0) address) in
      omega (arith, one_more-held begun (up_with false 0) (begun_stands false) address [] address-bytes begun-takes)

  nodder_fails : (r : Bool) → ((im : List ℕ) (sent : ℕ) (ask : Bool) (out : List ℕ) → 1 ≤ sent → (keeper (sends ask) im (up_with r sent) out).outcome.written ≡ 0) → ⊥
  nodder_fails r wrong =
      let x : Sending r = second_send r in
      let silent : (leaves (sends false) x.image (up_with r 1) x.lent).outcome.written ≡ 0 =
      sym (ap (λ (x : After). x.outcome.written) (meets (sends false) x.image (up_with r 1) x.lent)) ∙ wrong x.image 1 false x.lent (omega arith) in
      omega (arith, x.writes)

  inventor_fails : InventsHeld keeper → ⊥
  inventor_fails w =
      w.invented
      (ap (λ (i : List ℕ). held (state_of i)) (same_image (submits w.message) w.image w.phase [])
      ∙ one_more-held w.image w.phase w.standing w.message [] w.bytes (sym (same_answer (submits w.message) w.image w.phase []) ∙ w.done))

  -- a message taken leaves what the protocol's Receive leaves
  left_is : (w : Taking keeper) → state_left w ≡ received_state (state_before w) w.read
  unfolding step
  left_is w =
      let e = refines w.image (Phase.UpFT w.progress) w.standing [] (receives w.message) w.bytes in
      let d = sym (ap (λ (x : Step). x.answer) e) ∙ sym (same_answer (receives w.message) w.image (Phase.UpFT w.progress) []) ∙ w.done in
      ap (λ (i : List ℕ). state_of i) (same_image (receives w.message) w.image (Phase.UpFT w.progress) [])
      ∙ ap (λ (x : Step). x.state) e
      ∙ receive_state (state_of w.image) w.progress w.message w.read w.whole d

  count_left : (w : Taking keeper) → held (state_left w) ≡ held (state_before w) - ack_count (ack_on (state_before w) w.read)
  count_left w =
      ap (λ (t : State). held t) (left_is w)
      ∙ ap length (received_queue (state_before w) w.read).0
      ∙ length-drop (ack_count (ack_on (state_before w) w.read)) (state_before w).queue

  counter_fails : InventsCount keeper → ⊥
  counter_fails w = w.invented (count_left w.taking)

  releaser_fails : InventsReleased keeper → ⊥
  unfolding received_state taken acked
  releaser_fails w = w.invented (ap (λ (t : State). t.released.0) (left_is w.taking))

  abbrev takes-alive : {n : ℕ} → Alive n → Taking keeper
  takes-alive x = record {
    image = rounded;
    progress = record { sent = 2; resumed = false };
    message = x.message;
    read = x.read;
    standing = rounded_stands;
    bytes = x.bytes;
    whole = x.whole;
    done = same_answer (receives x.message) rounded (up_with false 2) [] ∙ alive-taken x;
  }

  -- P4 and P7: "R=0xFFFFFFFE, I=1: ACK 1 releases 2; .. ACK 0xFFFFFFFE releases none"
  module _ (k : ℕ) (wrong : (w : Taking keeper) → held (state_before w) ≡ held (state_left w) + k) where
    released : (n : ℕ) → Alive n → 2 ≡ (2 - n) + k
    released n x =
        let w = takes-alive x in
        let count : ack_count (ack_on (state_of rounded) x.read) ≡ n = rw rounded_state (ap ack_count x.count) in
        let before : held (state_of rounded) ≡ 2 = ap (λ (t : State). held t) rounded_state in
        let left : held (state_left w) ≡ 2 - n = count_left w ∙ rw (before, count) in
        sym before ∙ wrong w ∙ ap (λ (h : ℕ). h + k) left

    one_count_fails : ⊥
    one_count_fails = omega (arith, released 2 alive_two, released 0 alive_none)

-- ---- the list: whichever it is, it does not meet the promises
pub no_wrong_keeper : (w : Wrong) (keeper : Keeper) → Is w keeper → Meets keeper → ⊥
unfolding Is
no_wrong_keeper always_refuses keeper wrong meets = refuser_fails keeper meets wrong
no_wrong_keeper one_answer keeper wrong meets = constant_fails keeper meets wrong.0 wrong.1
no_wrong_keeper one_answer_to_messages keeper wrong meets = deaf_fails keeper meets wrong.0 wrong.1
no_wrong_keeper one_count keeper wrong meets = one_count_fails keeper meets wrong.0 wrong.1
no_wrong_keeper never_stores keeper wrong meets = storeless_fails keeper meets wrong
no_wrong_keeper only_nods keeper wrong meets = nodder_fails keeper meets wrong.0 wrong.1
no_wrong_keeper invents_counts keeper (inl wrong) meets = inventor_fails keeper meets wrong
no_wrong_keeper invents_counts keeper (inr (inl wrong)) meets = counter_fails keeper meets wrong
no_wrong_keeper invents_counts keeper (inr (inr wrong)) meets = releaser_fails keeper meets wrong

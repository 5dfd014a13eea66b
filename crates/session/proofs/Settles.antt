-- Every call is its tests' answer, settled: so what holds of the four ways to end holds of every call. Assumes nothing.
use Prim.Native.Nat.{ℕ}
use mathlib.Core.Bool.{false, not, true≢false}
use mathlib.Core.List.{List}
use mathlib.Core.Path.{◌≡◌, refl, ap, ◌∙◌}
use lib.Dec.{eqb}
use lib.ListN.{length}
use Rattle.octets.specs.Pick.{pick}
use Rattle.octets.proofs.Choice.{by_test}
use Rattle.image.specs.Sizes.{image_size}
use Rattle.image.specs.Verdict.{verdict}
use Rattle.protocol.specs.declared.Answer.{Answer}
use Rattle.protocol.specs.declared.Effect.{Effect}
use Rattle.protocol.specs.declared.Phase.{Phase}
use Rattle.protocol.specs.Answers.{effect_of, is_done}
use Rattle.protocol.specs.Calls.{Call, formats, restores, fails, opens, greets, passes, submits, sends, keeps-alive, receives, step}
use Rattle.protocol.specs.Judged.{judged, done}
use Rattle.protocol.specs.Step.{settle}
use Rattle.protocol.proofs.Effects.{act-done, done_is}
use Rattle.protocol.proofs.Settles.{settles, done_answer}
use Rattle.calls.specs.Outcomes.{After, call_of, checked, failed_on, left_by, released_on, settle_of, step_stored, untouched}
use Rattle.calls.specs.State.{state_of}
use Rattle.calls.proofs.Called.{call_settles}
use Rattle.connect.specs.Start.{format_of, formatted, restore_of}
use Rattle.connect.specs.Writers.{open_of, keepalive_of}
use Rattle.init.specs.Received.{init_received_of}
use Rattle.receive.specs.Call.{receive_of}
use Rattle.send.specs.Send.{send_of}
use Rattle.submit.specs.Call.{submit_of}
use Rattle.timers.specs.Events.{connection_failed_of, time_passed_of}
use Rattle.session.specs.Call.{further_put, given, leaves, lent, makes_image, slots_left}

-- ---- nine calls are the protocol's step on what the image stands for; Format makes an image
pub called : (c : Call) (im : List ℕ) (ph : Phase) (out : List ℕ) → makes_image c ≡ false
    → leaves c im ph out ≡ call_of im (given c ph) (lent c out) (slots_left c (state_of im) ph) (further_put c (state_of im) ph) (step c (state_of im) ph (length out))
unfolding leaves step restore_of connection_failed_of open_of init_received_of time_passed_of submit_of send_of keepalive_of receive_of
called formats im ph out other = absurd (true≢false other)
called restores im ph out other = refl
called fails im ph out other = refl
called (opens id own proposal) im ph out other = refl
called (greets m) im ph out other = refl
called (passes elapsed) im ph out other = refl
called (submits m) im ph out other = refl
called (sends ask) im ph out other = refl
called (keeps-alive id) im ph out other = refl
called (receives m) im ph out other = refl

-- ---- what its tests answer, 12, 10 and 11 first, and what it leaves where they answer Done
unfoldable pub answer_on : Call → List ℕ → Phase → List ℕ → Answer
answer_on c im ph out = pick (makes_image c) (pick (not (eqb (length im) image_size)) Answer.WrongSize Answer.Done) (checked (verdict im) (judged c (state_of im) ph (length out)))

unfoldable pub done_on : Call → List ℕ → Phase → List ℕ → After
done_on c im ph out = pick (makes_image c) formatted (step_stored im (slots_left c (state_of im) ph) (further_put c (state_of im) ph) (done c (state_of im) ph) (lent c out))

-- the phase that it is given matters only to the tests
given-settle : (c : Call) (im : List ℕ) (ph : Phase) (out : List ℕ) → makes_image c ≡ false
    → call_of im (given c ph) (lent c out) (slots_left c (state_of im) ph) (further_put c (state_of im) ph) (settle (judged c (state_of im) ph (length out)) (state_of im) ph (done c (state_of im) ph))
    ≡ call_of im (given c ph) (lent c out) (slots_left c (state_of im) ph) (further_put c (state_of im) ph) (settle (judged c (state_of im) ph (length out)) (state_of im) (given c ph) (done c (state_of im) ph))
unfolding judged settle effect_of
given-settle formats im ph out other = absurd (true≢false other)
given-settle restores im ph out other = refl
given-settle fails im ph out other = refl
given-settle (opens id own proposal) im ph out other = refl
given-settle (greets m) im ph out other = refl
given-settle (passes elapsed) im ph out other = refl
given-settle (submits m) im ph out other = refl
given-settle (sends ask) im ph out other = refl
given-settle (keeps-alive id) im ph out other = refl
given-settle (receives m) im ph out other = refl

settles_other : (c : Call) (im : List ℕ) (ph : Phase) (out : List ℕ) → makes_image c ≡ false
    → leaves c im ph out
    ≡ settle_of (checked (verdict im) (judged c (state_of im) ph (length out))) (given c ph) im (lent c out) (step_stored im (slots_left c (state_of im) ph) (further_put c (state_of im) ph) (done c (state_of im) ph) (lent c out))
settles_other c im ph out other =
    called c im ph out other
    ∙ ap (call_of im (given c ph) (lent c out) (slots_left c (state_of im) ph) (further_put c (state_of im) ph)) (settles c (state_of im) ph (length out))
    ∙ given-settle c im ph out other
    ∙ call_settles im (given c ph) (lent c out) (slots_left c (state_of im) ph) (further_put c (state_of im) ph) (judged c (state_of im) ph (length out)) (state_of im) (done c (state_of im) ph) (done_answer c (state_of im) ph)

-- every call is the answer of its tests, settled
pub settles_on : (c : Call) (im : List ℕ) (ph : Phase) (out : List ℕ) → leaves c im ph out ≡ settle_of (answer_on c im ph out) (given c ph) im (lent c out) (done_on c im ph out)
unfolding answer_on done_on leaves format_of
settles_on formats im ph out = refl
settles_on restores im ph out = settles_other restores im ph out refl
settles_on fails im ph out = settles_other fails im ph out refl
settles_on (opens id own proposal) im ph out = settles_other (opens id own proposal) im ph out refl
settles_on (greets m) im ph out = settles_other (greets m) im ph out refl
settles_on (passes elapsed) im ph out = settles_other (passes elapsed) im ph out refl
settles_on (submits m) im ph out = settles_other (submits m) im ph out refl
settles_on (sends ask) im ph out = settles_other (sends ask) im ph out refl
settles_on (keeps-alive id) im ph out = settles_other (keeps-alive id) im ph out refl
settles_on (receives m) im ph out = settles_other (receives m) im ph out refl

module _ (c : Call) (im : List ℕ) (ph : Phase) (out : List ℕ) where
  by_effect : (f : Effect) → effect_of (answer_on c im ph out) ≡ f → leaves c im ph out ≡ left_by f (answer_on c im ph out) (given c ph) im (lent c out) (done_on c im ph out)
  unfolding settle_of
  by_effect f e = settles_on c im ph out ∙ rw e

  acts : effect_of (answer_on c im ph out) ≡ Effect.Act → answer_on c im ph out ≡ Answer.Done
  acts e = by_test (is_done (answer_on c im ph out)) (λ t. done_is (answer_on c im ph out) t) (λ n. absurd (act-done (answer_on c im ph out) e n))

  -- ---- the four ways to end, by what the answer does
  pub ends : (P : After → Type 0)
      → (effect_of (answer_on c im ph out) ≡ Effect.Nothing → P (untouched (answer_on c im ph out) (given c ph) im (lent c out)))
      → (effect_of (answer_on c im ph out) ≡ Effect.Fail → P (failed_on (answer_on c im ph out) im (lent c out)))
      → (effect_of (answer_on c im ph out) ≡ Effect.Release → P (released_on (answer_on c im ph out) im (lent c out)))
      → (answer_on c im ph out ≡ Answer.Done → P (done_on c im ph out))
      → P (leaves c im ph out)
  ends P nothing breaks releases does = by (effect_of (answer_on c im ph out)) refl
    where
      by : (f : Effect) → effect_of (answer_on c im ph out) ≡ f → P (leaves c im ph out)
      by Effect.Nothing e = rw (by_effect Effect.Nothing e) (nothing e)
      by Effect.Fail e = rw (by_effect Effect.Fail e) (breaks e)
      by Effect.Release e = rw (by_effect Effect.Release e) (releases e)
      by Effect.Act e = rw (by_effect Effect.Act e) (does (acts e))

-- The answer to an event, and what it leaves; the premises are what the callees ensure. Assumes nothing.
use Prim.Native.Nat.{ℕ}
use mathlib.Core.Bool.{Bool, true, false, not}
use mathlib.Core.List.{List, []}
use mathlib.Core.Path.{◌≡◌, refl, sym, ap, ◌∙◌}
use lib.Dec.{leb}
use borrow.Author.Tests.{eq-eqb, ne_eqb}
use Rattle.octets.specs.Bytes.{Bytes}
use Rattle.octets.specs.Laid.{laid}
use Rattle.octets.specs.Pick.{pick}
use Rattle.octets.proofs.Choice.{pick_all}
use Rattle.octets.proofs.Differ.{differ_self}
use Rattle.block0.specs.declared.Header.{Header}
use Rattle.image.specs.Sizes.{block}
use Rattle.image.specs.State.{decode}
use Rattle.image.specs.Verdict.{IsSound}
use Rattle.protocol.specs.declared.Answer.{Answer}
use Rattle.protocol.specs.declared.Phase.{Phase}
use Rattle.protocol.specs.Answers.{effect_of, is_done}
use Rattle.protocol.specs.ConnectionFailed.{connection_failed}
use Rattle.protocol.specs.Phases.{connected, waiting}
use Rattle.protocol.specs.State.{State}
use Rattle.protocol.specs.Step.{where_open, Step, failed_with, released_with, unchanged}
use Rattle.protocol.specs.TimePassed.{expired, time_passed}
use Rattle.protocol.proofs.Settling.{Harmless, done_harmless}
use Rattle.calls.specs.declared.Outcome.{Outcome}
use Rattle.calls.specs.Outcomes.{After, after_with, refusal, released_on, failed_on, admitted_on, settle_of, step_stored}
use Rattle.calls.specs.State.{state_of, state_of_numbers}
use Rattle.calls.specs.Storing.{stay, empty, same}
use Rattle.calls.proofs.Called.{call_is}
use Rattle.calls.proofs.FurtherBits.{further_self}
use Rattle.calls.proofs.Putting.{put_same}
use Rattle.calls.proofs.Settled.{admitted-done, admit_refused, admit_passed, admitted_is, admitted-sound}
use Rattle.call_meaning.proofs.Calling.{own_refused}
use Rattle.call_meaning.proofs.Refusals.{admitted_harmless, settle-does}
use Rattle.timers.specs.Events.{connection_failed_of, time_passed_of, event_rule}

-- ---- the tests
module _ (im : List ℕ) (ph : Phase) (may : Bool) {r : Answer} (e : r ≡ admitted_on im ph Answer.Done) where
  pub event_first : is_done r ≡ false → r ≡ admitted_on im ph (event_rule may)
  event_first n = admit_refused im ph e (event_rule may) n

  pub event_phase : {t : Bool} → is_done r ≡ true → may ≡ t → where_open t Answer.Done ≡ admitted_on im ph (event_rule may)
  unfolding event_rule
  event_phase d m = rw m (sym (admitted_is (admit_passed im ph e d) _))

-- ---- the timeout
pub never_expires : (s : State) (elapsed : ℕ) → s.terms.timeout ≡ 0 → false ≡ expired s elapsed
unfolding expired
never_expires s elapsed z = rw (eq-eqb s.terms.timeout 0 z)

pub expires : (s : State) (elapsed : ℕ) → (s.terms.timeout ≡ 0 → ⊥) → leb s.terms.timeout elapsed ≡ expired s elapsed
unfolding expired
expires s elapsed n = rw (ne_eqb s.terms.timeout 0 n)

-- ---- the event
event_harmless : (may : Bool) → Harmless (event_rule may)
unfolding effect_of event_rule
event_harmless may = pick_all Harmless (not may) (λ n. refl) done_harmless

module _ (im : List ℕ) (ph : Phase) (may : Bool) {m : Bool} {r : Answer} (em : m ≡ may) (er : r ≡ admitted_on im ph (event_rule m)) where
  is_answer : r ≡ admitted_on im ph (event_rule may)
  is_answer = er ∙ ap (λ (b : Bool). admitted_on im ph (event_rule b)) em

  pub event_refused : (done : After) {x : Outcome} → is_done r ≡ false → x ≡ refusal r ph → after_with x im [] ≡ settle_of (admitted_on im ph (event_rule may)) ph im [] done
  event_refused done n e =
      let a : Answer = admitted_on im ph (event_rule may) in
      own_refused a ph im [] done (admitted_harmless im ph _ (event_harmless may) (ap is_done (sym is_answer) ∙ n))
      (e ∙ ap (λ (b : Answer). refusal b ph) is_answer)

  pub event-done : (done : After) {x : After} → is_done r ≡ true → x ≡ done → x ≡ settle_of (admitted_on im ph (event_rule may)) ph im [] done
  event-done done d e = e ∙ sym (settle-does (admitted_on im ph (event_rule may)) ph im [] done (ap is_done (sym is_answer) ∙ d))

  pub event-sound : is_done r ≡ true → IsSound im
  event-sound d = admitted-sound (admitted-done im ph (event_rule may) (ap is_done (sym is_answer) ∙ d)).0

-- ---- connection failed
pub failed_settles : (im : List ℕ) (ph : Phase) → settle_of (admitted_on im ph (event_rule (connected ph))) ph im [] (failed_on Answer.Done im []) ≡ connection_failed_of im ph
unfolding connection_failed_of connection_failed failed_on event_rule
failed_settles im ph = sym (call_is im ph [] stay same (event_rule (connected ph)) (failed_with Answer.Done (state_of im)) refl)

-- ---- time passed
module _ (im : List ℕ) (ph : Phase) (elapsed : ℕ) where
  abbrev step : Step
  step = pick (expired (state_of im) elapsed) (released_with Answer.Done) (unchanged Answer.Done (state_of im) ph)

  abbrev pub passed_on : After
  passed_on = step_stored im (pick (expired (state_of im) elapsed) empty stay) same step []

  pub passed_settles : settle_of (admitted_on im ph (event_rule (waiting ph))) ph im [] passed_on ≡ time_passed_of im ph elapsed
  unfolding time_passed_of time_passed event_rule
  passed_settles =
      sym (call_is im ph [] (pick (expired (state_of im) elapsed) empty stay) same (event_rule (waiting ph)) step
      (pick_all (λ (x : Step). x.answer ≡ Answer.Done) (expired (state_of im) elapsed) refl refl))

  module _ {h : Header} {t : Bool} (eh : h ≡ (decode im).header) (et : t ≡ expired (state_of_numbers h) elapsed) where
    read : {b : Bool} → t ≡ b → expired (state_of im) elapsed ≡ b
    unfolding expired
    read e = rw eh at (sym et ∙ e)

    pub too_early_lem : IsSound im → Bytes im → {x : Outcome} → t ≡ false → x ≡ refusal Answer.Done ph → after_with x im [] ≡ passed_on
    unfolding laid
    too_early_lem s byte e p = rw (read e, put_same im s byte, differ_self (block im 0), further_self im, p)

    pub late : {x : After} → t ≡ true → x ≡ released_on Answer.Done im [] → x ≡ passed_on
    unfolding released_on
    late e p = rw (read e) p

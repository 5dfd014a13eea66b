-- The tests of Send next before that of the room, and what they tell. Assumes nothing.
use Prim.Native.Nat.{ℕ, ◌+◌, ◌≤◌, ◌<◌}
use mathlib.Core.Bool.{Bool, true, false, not}
use mathlib.Core.List.{List}
use mathlib.Core.Path.{◌≡◌, refl, sym, ap, ◌∙◌}
use native.Mathlib.Omega.{arith}
use lib.Dec.{leb}
use borrow.Author.Tests.{le-leb, lt-leb, leb-false, not-false}
use Rattle.octets.specs.Pick.{pick}
use Rattle.octets.proofs.Choice.{no, pick_all}
use Rattle.block0.specs.declared.Header.{Header}
use Rattle.image.specs.State.{decode}
use Rattle.image.specs.Verdict.{IsSound}
use Rattle.image.proofs.Queue.{queue_length}
use Rattle.image.proofs.Sound.{sound_valid}
use Rattle.protocol.specs.declared.Answer.{Answer}
use Rattle.protocol.specs.declared.Phase.{Phase}
use Rattle.protocol.specs.Answers.{effect_of, is_done}
use Rattle.protocol.specs.LeftOut.{left_out_from}
use Rattle.protocol.specs.Phases.{is_up_ft, sent_of}
use Rattle.protocol.specs.Send.{send_rule}
use Rattle.protocol.specs.State.{held}
use Rattle.protocol.proofs.PassedOver.{next-held}
use Rattle.protocol.proofs.Settling.{Harmless, done_harmless}
use Rattle.calls.specs.declared.Outcome.{Outcome}
use Rattle.calls.specs.Outcomes.{After, after_with, refusal, admitted_on, settle_of}
use Rattle.calls.specs.State.{state_of}
use Rattle.calls.proofs.Settled.{Admitted, admitted-done, admitted-other, admit_refused, admit_passed, admitted_is, admitted-sound}
use Rattle.call_meaning.proofs.Calling.{own_refused}
use Rattle.call_meaning.proofs.Refusals.{admitted_harmless}

-- ---- the tests; the premises are what the callees ensure
module _ (im : List ℕ) (ph : Phase) (a : Answer) {r : Answer} (e : r ≡ admitted_on im ph Answer.Done) where
  pub judge_first : is_done r ≡ false → r ≡ admitted_on im ph (send_rule (state_of im) ph a)
  judge_first n = admit_refused im ph e (send_rule (state_of im) ph a) n

  module _ (d : is_done r ≡ true) where
    pub judge_sound : IsSound im
    judge_sound = admitted-sound (admit_passed im ph e d)

    own_tests : {c : Answer} → c ≡ send_rule (state_of im) ph a → c ≡ admitted_on im ph (send_rule (state_of im) ph a)
    own_tests t = t ∙ sym (admitted_is (admit_passed im ph e d) (send_rule (state_of im) ph a))

    module _ {b : Bool} (eb : b ≡ is_up_ft ph) where
      pub judge_down : b ≡ false → Answer.WrongPhase ≡ admitted_on im ph (send_rule (state_of im) ph a)
      unfolding send_rule
      judge_down f = own_tests (rw (← eb, f))

      module _ (up : b ≡ true) {h : Header} {sent : ℕ} (eh : h ≡ (decode im).header) (es : sent ≡ sent_of ph) where
        pub judge_none : h.held ≤ sent → Answer.NothingUnsent ≡ admitted_on im ph (send_rule (state_of im) ph a)
        unfolding send_rule
        judge_none l = own_tests (rw (← eb, up, queue_length im, ← eh, ← es, le-leb h.held sent l))

        pub judge_some : sent < h.held → a ≡ admitted_on im ph (send_rule (state_of im) ph a)
        unfolding send_rule
        judge_some l = own_tests (rw (← eb, up, queue_length im, ← eh, ← es, lt-leb h.held sent l))

-- ---- what they tell
-- a message that is held and not sent on this connection
pub record Sendable (im : List ℕ) (ph : Phase) : Type 0 where
  pub admitted : Admitted im ph
  pub up : is_up_ft ph ≡ true
  pub some : sent_of ph < held (state_of im)

pub sendable_sound : {im : List ℕ} {ph : Phase} → Sendable im ph → IsSound im
sendable_sound d = admitted-sound d.admitted

pub sendable_held : {im : List ℕ} {ph : Phase} → Sendable im ph → sent_of ph < (decode im).header.held
sendable_held {im} d = rw (← queue_length im) d.some

-- the place of what is sent
module _ {im : List ℕ} {ph : Phase} (d : Sendable im ph) {sent left : ℕ} (es : sent ≡ sent_of ph) (el : left ≡ left_out_from (state_of im) sent) where
  -- it is held
  pub place-held : sent + left < (decode im).header.held
  place-held = rw (el, es, ← queue_length im) (next-held (state_of im) (sent_of ph) d.some)

  -- no more than 64 are
  pub place_few : sent + left < 64
  place_few = omega (arith, place-held, (sound_valid im (sendable_sound d)).held)

rule_harmless : (u l : Bool) → Harmless (pick u Answer.WrongPhase (pick l Answer.NothingUnsent Answer.Done))
unfolding effect_of
rule_harmless u l = pick_all Harmless u (λ n. refl) (pick_all Harmless l (λ n. refl) done_harmless)

rule-other : (u l : Bool) (a : Answer) → is_done (pick u Answer.WrongPhase (pick l Answer.NothingUnsent Answer.Done)) ≡ false
    → pick u Answer.WrongPhase (pick l Answer.NothingUnsent Answer.Done) ≡ pick u Answer.WrongPhase (pick l Answer.NothingUnsent a)
rule-other true l a n = refl
rule-other false true a n = refl
rule-other false false a n = no (cc)

rule-done : (u l : Bool) (a : Answer) → is_done (pick u Answer.WrongPhase (pick l Answer.NothingUnsent a)) ≡ true → (u ≡ false) × (l ≡ false)
rule-done true l a t = no (cc)
rule-done false true a t = no (cc)
rule-done false false a t = (refl, refl)

pub judged_sendable : (im : List ℕ) (ph : Phase) (a : Answer) {r : Answer} → r ≡ admitted_on im ph (send_rule (state_of im) ph a) → is_done r ≡ true → Sendable im ph
unfolding send_rule
judged_sendable im ph a e t =
    let p = admitted-done im ph (send_rule (state_of im) ph a) (ap is_done (sym e) ∙ t) in
    let q = rule-done (not (is_up_ft ph)) (leb (held (state_of im)) (sent_of ph)) a p.1 in
    record { admitted = p.0; up = not-false (is_up_ft ph) q.0; some = leb-false (held (state_of im)) (sent_of ph) q.1 }

-- a refusal before the room is tested is the same whatever the room
pub judged_refused : (im : List ℕ) (ph : Phase) (room : Answer) (o : List ℕ) (done : After) {r : Answer} {x : Outcome}
    → r ≡ admitted_on im ph (send_rule (state_of im) ph Answer.Done) → is_done r ≡ false → x ≡ refusal r ph
    → after_with x im o ≡ settle_of (admitted_on im ph (send_rule (state_of im) ph room)) ph im o done
unfolding send_rule
judged_refused im ph room o done e n ex =
    let own : Answer = send_rule (state_of im) ph Answer.Done in
    let full : Answer = send_rule (state_of im) ph room in
    let down : Bool = not (is_up_ft ph) in
    let none : Bool = leb (held (state_of im)) (sent_of ph) in
    let refused : is_done (admitted_on im ph own) ≡ false = ap is_done (sym e) ∙ n in
    let same : admitted_on im ph own ≡ admitted_on im ph full = admitted-other im ph own full (rule-other down none room) refused in
    rw (← same) (own_refused (admitted_on im ph own) ph im o done (admitted_harmless im ph own (rule_harmless down none) refused) (ex ∙ ap (λ (a : Answer). refusal a ph) e))

-- then the room decides
pub sendable_rule : {im : List ℕ} {ph : Phase} → Sendable im ph → (room : Answer) → admitted_on im ph (send_rule (state_of im) ph room) ≡ room
unfolding send_rule
sendable_rule {im} {ph} d room = admitted_is d.admitted _ ∙ (rw (d.up, lt-leb (held (state_of im)) (sent_of ph) d.some))

-- The returns of `init_received`. Assumes nothing.
use Rattle.std.specs.Prelude.{Ok, Err, Result, Option}
use Prim.Native.Nat.{ℕ}
use mathlib.Core.Bool.{true, false}
use mathlib.Core.List.{List, []}
use mathlib.Core.Path.{ap, sym, ◌≡◌, refl, ◌∙◌}
use Rattle.block0.specs.declared.Header.{Header}
use Rattle.message.specs.declared.Message.{Message}
use Rattle.message.specs.Reading.{reading_of}
use Rattle.image.specs.State.{decode}
use Rattle.image.specs.Verdict.{IsSound}
use Rattle.image.proofs.Sound.{sound_valid}
use Rattle.protocol.specs.declared.Answer.{Answer}
use Rattle.protocol.specs.declared.Phase.{Phase}
use Rattle.protocol.specs.declared.Start.{Start}
use Rattle.protocol.specs.Answers.{effect_of, is_done}
use Rattle.protocol.specs.Init.{start_of, start_answer, start_phase, start_state, init_start, init_received}
use Rattle.protocol.specs.Phases.{awaits, proposal_of}
use Rattle.protocol.specs.Step.{where_open, stepped}
use Rattle.calls.specs.declared.Outcome.{Outcome}
use Rattle.calls.specs.Outcomes.{After, after_with, refusal, untouched, admitted_on, settle_of}
use Rattle.calls.specs.State.{state_of_numbers, state_of}
use Rattle.calls.specs.Storing.{same}
use Rattle.calls.proofs.Called.{call_is}
use Rattle.calls.proofs.Ends.{settle_other}
use Rattle.call_meaning.proofs.Calling.{call_refused, call_own, own_done, own_refused}
use Rattle.init.specs.Fitting.{StartFits}
use Rattle.init.specs.Received.{start_slots, begun_on, init_received_of}
use Rattle.init.proofs.Fitting.{start_fits}
use Rattle.init.proofs.Starts.{start_alone}

module _ (im : List ℕ) (ph : Phase) (m : List ℕ) where
  own : Answer
  own = where_open (awaits ph) (start_answer (init_start (state_of im) ph m))

  init_is : init_received_of im ph m ≡ settle_of (admitted_on im ph own) ph im [] (begun_on im ph (init_start (state_of im) ph m))
  unfolding init_received_of init_received begun_on own
  init_is =
      let st = init_start (state_of im) ph m in
      call_is im ph [] (start_slots st) same own (stepped Answer.Done (start_state (state_of im) st) (start_phase ph st) []) refl

  module _ {r : Answer} (e : r ≡ admitted_on im ph Answer.Done) where
    pub init_refused : {x : Outcome} → is_done r ≡ false → x ≡ refusal r ph → after_with x im [] ≡ init_received_of im ph m
    init_refused n p = call_refused im ph e [] own (begun_on im ph (init_start (state_of im) ph m)) n p ∙ sym init_is

    module _ (t : is_done r ≡ true) where
      owned : {x : After} → x ≡ settle_of own ph im [] (begun_on im ph (init_start (state_of im) ph m)) → x ≡ init_received_of im ph m
      owned p = call_own im ph e [] own (begun_on im ph (init_start (state_of im) ph m)) t p ∙ sym init_is

      pub init_barred : {x : Outcome} → awaits ph ≡ false → x ≡ refusal Answer.WrongPhase ph → after_with x im [] ≡ init_received_of im ph m
      unfolding effect_of own
      init_barred f p = owned (rw f (own_refused Answer.WrongPhase ph im [] (begun_on im ph (init_start (state_of im) ph m)) refl p))

      module _ (w : awaits ph ≡ true) {h : Header} {p : ℕ} {rd : Option Message} {st : Result Start Answer} (eh : h ≡ (decode im).header) (ep : p ≡ proposal_of ph) (er : rd ≡ reading_of m)
          (es : st ≡ start_of (state_of_numbers h) p rd) where
        start_is : st ≡ init_start (state_of im) ph m
        start_is = es ∙ rw (eh, ep, er) (start_alone (decode im).header (decode im).labels (decode im).ids (decode im).index (decode im).queue (proposal_of ph) (reading_of m))

        pub init_fits : IsSound im → StartFits (decode im).header.held st
        init_fits s = rw (es, eh) (start_fits (decode im).header (sound_valid im s).window p rd)

        -- what the start is answered
        settled : {a : Answer} → a ≡ start_answer st → {x : After} → x ≡ settle_of a ph im [] (begun_on im ph st) → x ≡ init_received_of im ph m
        unfolding own
        settled ea q = owned (rw (w, ← start_is, ← ea) q)

        pub init_settled : IsSound im → {a : Answer} → st ≡ Err a → {x : After} → x ≡ settle_of a ph im [] (untouched a ph im []) → x ≡ init_received_of im ph m
        init_settled s {a} e q =
            let n : is_done a ≡ false = rw e at (init_fits s) in
            settled (sym (ap start_answer e)) (q ∙ settle_other a ph im [] (untouched a ph im []) (begun_on im ph st) n)

        pub init-begun : {start : Start} → st ≡ Ok start → {x : After} → x ≡ begun_on im ph (Ok start) → x ≡ init_received_of im ph m
        init-begun e q = settled (sym (ap start_answer e)) (rw (← e) at (own_done Answer.Done ph im [] (begun_on im ph _) refl q))

-- Power lost in a Submit after its first store: the slot is on the medium, and nothing else of the call is. Assumes nothing.
use Prim.Native.Nat.{ℕ, ◌<◌}
use mathlib.Core.Bool.{Bool}
use mathlib.Core.List.{List, [], ◌∷◌, ◌++◌}
use mathlib.Core.Logic.{◌≢◌}
use mathlib.Core.Path.{◌≡◌, refl, sym, ap, ◌∙◌}
use native.Mathlib.Omega.{arith}
use lib.ListN.{length, length-append}
use borrow.Author.Tests.{ne_eqb, lt-ltb}
use Rattle.octets.specs.Bytes.{Bytes}
use Rattle.block0.specs.Layout.{slot_count}
use Rattle.image.specs.Sizes.{block_of, further}
use Rattle.image.specs.State.{decode, store_slot}
use Rattle.image.proofs.Stored.{slot-other, slots-put}
use Rattle.protocol.specs.declared.Answer.{Answer}
use Rattle.protocol.specs.declared.Phase.{Phase}
use Rattle.protocol.specs.Calls
use Rattle.protocol.specs.Calls.{step}
use Rattle.protocol.specs.Judged.{done}
use Rattle.protocol.specs.State.{State}
use Rattle.protocol.specs.Step.{Step}
use Rattle.protocol.specs.Submit.{submit}
use Rattle.calls.specs.Outcomes.{After}
use Rattle.calls.specs.State.{state_of}
use Rattle.calls.specs.Storing.{Further, next_slot, one_more, Slots}
use Rattle.calls.proofs.Slots.{SlotFits, fits_place, slot_alone}
use Rattle.two_ends.specs.Runs.{act, restarts, submits}
use Rattle.two_ends.specs.Start.{Afresh}
use Rattle.two_ends.specs.World.{Lasts, World}
use Rattle.call_meaning.specs.Medium.{Same, committed, stores, with_bits}
use Rattle.call_meaning.specs.Standing.{Standing}
use Rattle.call_meaning.proofs.Slots.{slot_same}
use Rattle.submit.specs.Call.{submitted_further}
use Rattle.session.specs.Call.{leaves}
use Rattle.session.proofs.Medium.{fewer_same}
use Rattle.session.proofs.Queued.{block0-stored, slot-stored}
use Rattle.session.proofs.Refines.{refines}
use Rattle.session.proofs.Told.{further_fits, slots_fit}
use Rattle.stored_ends.specs.Pair.{AllProperHappenings, Happening, Pair, happen, cut, left, run_stored}
use Rattle.stored_ends.specs.SlotAlone.{CutInSubmit, SlotAlone, at_cut}
use Rattle.stored_ends.specs.Start.{Holder, Sound, begins, opener_of}
use Rattle.stored_ends.proofs.Stored.{judged-done, leaves-stored}
use Rattle.stored_ends.proofs.Theorem.{follows}
use Rattle.stored_ends.proofs.Tracks.{Both, Tracks, restarts_tracks, same_stands}

-- ---- of an image
module _ (im : List ℕ) (ph : Phase) (st : Standing im ph) (m : List ℕ) (byte : Bytes m) (d : (leaves (Calls.submits m) im ph []).outcome.answer ≡ Answer.Done) where
  abbrev k : ℕ
  k = next_slot (decode im).header

  abbrev x : After
  x = leaves (Calls.submits m) im ph []

  -- the stores are told: the slot behind the newest, a further block that changed, then block 0
  pub submit-told : stores x.outcome ≡ block_of k ∷ (with_bits x.outcome.further further ++ (0 ∷ []))
  submit-told =
      let some : block_of k ≢ 0 = omega arith in
      rw (slot-stored im ph st m [] byte d, block0-stored im ph st m [] byte d, ne_eqb (block_of k) 0 some)

  more-told : 1 < length (stores x.outcome)
  more-told = rw submit-told (omega (arith, length-append (with_bits x.outcome.further further) (0 ∷ [])))

  abbrev slots : Slots
  slots = one_more m

  abbrev further-put : Further
  further-put = submitted_further (state_of im).table m

  fits : SlotFits im slots
  fits = slots_fit (Calls.submits m) im ph 0 (judged-done (Calls.submits m) im ph [] refl d st)

  pub slot-committed : committed 1 im x ≡ store_slot im k m
  slot-committed =
      let some : block_of k ≢ 0 = omega arith in
      rw (submit-told, leaves-stored (Calls.submits m) im ph [] refl d)
      (slot_alone im st.sound.size (done (Calls.submits m) (state_of im) ph).state slots further-put fits (fits_place im further-put (further_fits (Calls.submits m) im ph)) some)

  pub slot_alone_is : SlotAlone im (committed 1 im x) m
  slot_alone_is =
      let low : k < slot_count = omega arith in
      let size = st.sound.size in
      rw slot-committed
      (record {
        slot = slots-put im size k low m fits.0;
        others = slot-other im size k low m fits.0;
        zeroth = slot-other im size k low m fits.0 0 (omega arith);
        state = rw (slot_same im st.sound slots fits).state;
      })

-- ---- of two cabinets
-- what a Submit answers at a is what the rules answer
pub submit_answers : {z : Pair} {w : World} → Tracks z w → (m : List ℕ) → Bytes m → (left (submits m) z.world z.own []).outcome.answer ≡ (submit w.a.state w.a.phase m).answer
unfolding step
submit_answers {z} {w} t m byte =
    let s = t.both.own in
    ap (λ (y : Step). y.answer) (refines z.own.image z.world.a.phase s.stand [] (Calls.submits m) byte)
    ∙ ap (λ (q : State). (submit q z.world.a.phase m).answer) (sym s.state)
    ∙ ap (λ (u : World). (submit u.a.state u.a.phase m).answer) t.world

module _ (z : Pair) (b : Both z) (m : List ℕ) (byte : Bytes m) (d : (left (submits m) z.world z.own []).outcome.answer ≡ Answer.Done) where
  pub cut_in_submit : CutInSubmit z m
  cut_in_submit = record {
    alone = rw b.own.medium (slot_alone_is z.own.image z.world.a.phase b.own.stand m byte d);
    restarts = rw (lt-ltb 1 _ (more-told z.own.image z.world.a.phase b.own.stand m byte d));
  }

  same_cut : Same z.own.image (at_cut z m)
  same_cut =
      rw b.own.medium
      (fewer_same (Calls.submits m) z.own.image z.world.a.phase [] refl b.own.stand 1 (more-told z.own.image z.world.a.phase b.own.stand m byte d))

  pub cut_stands : Standing (at_cut z m) z.world.a.phase
  cut_stands = same_stands b.own (at_cut z m) same_cut

  -- to the rules it is a restart
  pub cut_restarts : Tracks (happen z (cut 1 (submits m) [])) (act z.world restarts)
  cut_restarts = rw cut_in_submit.restarts (restarts_tracks z.world z.own z.peer b.own b.peer (at_cut z m) same_cut)

-- ---- THE THEOREM: over any run of two cabinets, with power cut anywhere before, in the Submit of any message that would be accepted
pub slot_alone_stored : (x y : Holder) → Sound x → Sound y → Afresh (opener_of x) (opener_of y) → (vs : List (Bool × Happening)) → AllProperHappenings vs
    → Lasts (run_stored (begins x y) vs).world → (m : List ℕ) → Bytes m → (left (submits m) (run_stored (begins x y) vs).world (run_stored (begins x y) vs).own []).outcome.answer ≡ Answer.Done
    → CutInSubmit (run_stored (begins x y) vs) m
slot_alone_stored x y sx sy afresh vs p k m byte d = cut_in_submit (run_stored (begins x y) vs) (follows x y sx sy afresh vs p k).both m byte d

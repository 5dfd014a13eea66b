-- What a call tells its owner: whether block 0 and the further blocks changed, and the slot, which is not live; every other block keeps its bytes. Assumes nothing.
use Rattle.std.specs.Prelude.{Result, Ok, Err, Option, Some, None}
use Prim.Native.Nat.{ℕ, ◌<◌, ◌≤◌}
use mathlib.Core.Bool.{Bool, true, false, true≢false}
use mathlib.Core.List.{List}
use mathlib.Core.Path.{◌≡◌, refl, sym, ap, ◌∙◌}
use native.Mathlib.Omega.{arith}
use lib.Dec.{eqb}
use lib.ListN.{length, get_or}
use borrow.Author.Tests.{eqb-true, eqb-false}
use Rattle.octets.specs.Differ.{differ}
use Rattle.octets.specs.Pick.{pick}
use Rattle.octets.proofs.Choice.{no, by_test}
use Rattle.octets.proofs.Differ.{differ_self}
use Rattle.ft_number.specs.declared.MessageId.{MessageId}
use Rattle.label_list.specs.declared.LabelMessage.{LabelMessage}
use Rattle.label_list.specs.declared.Side.{Side}
use Rattle.label_list.specs.Find.{find_of, is_found}
use Rattle.label_list.specs.Requests.{open_at}
use Rattle.label_list.specs.Rules.{sent_side}
use Rattle.label_list.specs.Word.{is_free, request_word, stands_for}
use Rattle.block0.specs.Layout.{slot_count}
use Rattle.label_events.specs.Accept.{plan_change, plan_of}
use Rattle.label_events.specs.Change.{take_free, taken_at}
use Rattle.label_events.specs.Requests.{asked_plan}
use Rattle.message.specs.declared.Kind.{Kind}
use Rattle.message.specs.declared.Message.{Message}
use Rattle.message.specs.declared.SubmissionError.{SubmissionError}
use Rattle.message.specs.Reading.{reading_of}
use Rattle.message.specs.Submission.{submission_of, entry_in}
use Rattle.label_meaning.proofs.Effect.{free_word}
use Rattle.label_meaning.proofs.Requests.{free-plain}
use Rattle.image.specs.declared.ImageFault.{ImageFault}
use Rattle.image.specs.Sizes.{block, block_of, request_block}
use Rattle.image.specs.State.{NotLive, decode}
use Rattle.image.specs.Verdict.{IsSound, verdict}
use Rattle.image.proofs.Queue.{queue_length}
use Rattle.image.proofs.Sound.{sound_parts}
use Rattle.protocol.specs.declared.Answer.{Answer}
use Rattle.protocol.specs.declared.Effect.{Effect}
use Rattle.protocol.specs.declared.Phase.{Phase}
use Rattle.protocol.specs.declared.Start.{Start}
use Rattle.protocol.specs.Answers.{effect_of}
use Rattle.protocol.specs.Calls.{Call, formats, restores, fails, opens, greets, passes, submits, sends, keeps-alive, receives}
use Rattle.protocol.specs.Init.{init_start}
use Rattle.protocol.specs.Judged.{judged, done}
use Rattle.protocol.specs.State.{State}
use Rattle.protocol.specs.Step.{Step, failed_with, released_with}
use Rattle.protocol.specs.Submit.{submit_rule}
use Rattle.protocol.specs.TimePassed.{expired}
use Rattle.protocol.proofs.Effects.{done_is}
use Rattle.protocol.proofs.Settling.{admitted-done}
use Rattle.protocol.proofs.Submits.{done_accepted}
use Rattle.calls.specs.Outcomes.{After, checked, failed_on, released_on, step_stored, untouched, is_other}
use Rattle.calls.specs.State.{state_of}
use Rattle.calls.specs.Storing.{Slots, stay, empty, Further, same, stored}
use Rattle.calls.proofs.FurtherBits.{further_self}
use Rattle.calls.proofs.Slots.{SlotFits, slot-idle, other_blocks, FurtherFits, fits_place, further_high, further_block, slot_low}
use Rattle.init.specs.Received.{start_slots}
use Rattle.receive.specs.Call.{received_slots, received_further}
use Rattle.receive.proofs.Taken.{dead_fits, received_fits}
use Rattle.submit.specs.Call.{further_left}
use Rattle.submit.specs.Change.{accepted_change, accepted_further, id_put}
use Rattle.session.specs.Call.{leaves, lent, makes_image, slots_left, further_put}
use Rattle.session.specs.Told.{KeepsOthers, TellsBlock0, TellsFurther, OneFurther}
use Rattle.session.proofs.Settles.{answer_on, done_on, ends}
use Rattle.session.proofs.Taking.{accepted_dead}

-- ---- a message that is put into a slot may be held, and there is room: by a Submit that is done
start_fits : (im : List ℕ) (s : Result Start Answer) → SlotFits im (start_slots s)
start_fits im (Err a) = tt
start_fits im (Ok Start.Plain) = tt
start_fits im (Ok (Start.Fresh t)) = tt
start_fits im (Ok (Start.Resumed t k a)) = tt

taken_fits : (im : List ℕ) (s : State) (ph : Phase) (r : Option Message) → SlotFits im (received_slots s ph r)
taken_fits im s Phase.Idle r = tt
taken_fits im s (Phase.InitWait v) r = tt
taken_fits im s (Phase.UpFT u) None = tt
taken_fits im s (Phase.UpFT u) (Some g) = tt
taken_fits im s Phase.UpPlain r = tt
taken_fits im s Phase.Failed r = tt

passed_fits : (im : List ℕ) (b : Bool) → SlotFits im (pick b empty stay)
passed_fits im true = tt
passed_fits im false = tt

-- an ID is put where the word is free, an entry where it lists no label
asked_fits : (im : List ℕ) (id : MessageId) (label : ℕ) → FurtherFits im (id_put (accepted_change (state_of im).table (Kind.Request id) label) id)
unfolding accepted_change asked_plan
asked_fits im id label = by (is_found (open_at id (state_of im).table.words (state_of im).table.ids)) (find_of is_free (state_of im).table.words) refl
  where
    by : (b : Bool) (f : Option ℕ) → find_of is_free (state_of im).table.words ≡ f
        → FurtherFits im (id_put (plan_change (pick b None (Some (take_free f request_word)))) id)
    by true f e = tt
    by false (Some i) e = free-plain (get_or (decode im).labels i 0) (free_word (decode im).labels i (sym e) refl)
    by false None e = tt

submitted_fits : (im : List ℕ) (j : Result (Kind × ℕ) SubmissionError) (entry : ℕ) → FurtherFits im (further_left (state_of im).table j entry)
unfolding accepted_further accepted_change sent_side
submitted_fits im (Err SubmissionError.Malformed) entry = tt
submitted_fits im (Err SubmissionError.Refused) entry = tt
submitted_fits im (Ok (Kind.Mapping, label)) entry =
    dead_fits im (taken_at (find_of (stands_for Side.Given label) (decode im).labels) (plan_change (plan_of (decode im).labels LabelMessage.Mapping label))) entry
    (accepted_dead (decode im).labels LabelMessage.Mapping label)
submitted_fits im (Ok (Kind.Withdraw, label)) entry = tt
submitted_fits im (Ok (Kind.Release, label)) entry = tt
submitted_fits im (Ok (Kind.Address, label)) entry = tt
submitted_fits im (Ok (Kind.AddressWithdraw, label)) entry = tt
submitted_fits im (Ok (Kind.ResourcesAvailable, label)) entry = tt
submitted_fits im (Ok (Kind.Request id, label)) entry = asked_fits im id label
submitted_fits im (Ok (Kind.Abort id, label)) entry = tt
submitted_fits im (Ok (Kind.NoResources, label)) entry = tt
submitted_fits im (Ok (Kind.NoKind, label)) entry = tt

heard_fits : (im : List ℕ) (ph : Phase) (r : Option Message) → FurtherFits im (received_further (state_of im) ph r)
heard_fits im Phase.Idle r = tt
heard_fits im (Phase.InitWait v) r = tt
heard_fits im (Phase.UpFT u) None = tt
heard_fits im (Phase.UpFT u) (Some g) = received_fits im g
heard_fits im Phase.UpPlain r = tt
heard_fits im Phase.Failed r = tt

pub further_fits : (c : Call) (im : List ℕ) (ph : Phase) → FurtherFits im (further_put c (state_of im) ph)
further_fits formats im ph = tt
further_fits restores im ph = tt
further_fits fails im ph = tt
further_fits (opens id own proposal) im ph = tt
further_fits (greets m) im ph = tt
further_fits (passes elapsed) im ph = tt
further_fits (submits m) im ph = submitted_fits im (submission_of m) (entry_in m)
further_fits (sends ask) im ph = tt
further_fits (keeps-alive id) im ph = tt
further_fits (receives m) im ph = heard_fits im ph (reading_of m)

pub slots_fit : (c : Call) (im : List ℕ) (ph : Phase) (room : ℕ) → judged c (state_of im) ph room ≡ Answer.Done → SlotFits im (slots_left c (state_of im) ph)
unfolding judged
slots_fit formats im ph room d = tt
slots_fit restores im ph room d = tt
slots_fit fails im ph room d = tt
slots_fit (opens id own proposal) im ph room d = tt
slots_fit (greets m) im ph room d = start_fits im (init_start (state_of im) ph m)
slots_fit (passes elapsed) im ph room d = passed_fits im (expired (state_of im) elapsed)
slots_fit (submits m) im ph room d =
    let a = done_accepted (state_of im) ph m (done_is (submit_rule (state_of im) ph m) (admitted-done (state_of im) ph (submit_rule (state_of im) ph m) (rw d))) in
    (a.storable, rw (queue_length im) at a.room)
slots_fit (sends ask) im ph room d = tt
slots_fit (keeps-alive id) im ph room d = tt
slots_fit (receives m) im ph room d = taken_fits im (state_of im) ph (reading_of m)

-- ---- a call that does more than refuse was given a sound image
checked-done : (v : Result Unit ImageFault) (a : Answer) → checked v a ≡ Answer.Done → (v ≡ Ok tt) × (a ≡ Answer.Done)
checked-done (Ok tt) a e = (refl, e)
checked-done (Err ImageFault.WrongSize) a e = no (cc)
checked-done (Err (ImageFault.BadBlock b)) a e = no (cc)
checked-done (Err (ImageFault.BadField b)) a e = no (cc)

checked-more : (v : Result Unit ImageFault) (a : Answer) → (effect_of (checked v a) ≡ Effect.Nothing → ⊥) → v ≡ Ok tt
unfolding effect_of
checked-more (Ok tt) a more = refl
checked-more (Err ImageFault.WrongSize) a more = absurd (more refl)
checked-more (Err (ImageFault.BadBlock b)) a more = absurd (more refl)
checked-more (Err (ImageFault.BadField b)) a more = absurd (more refl)

-- what a call leaves that works on an image: as it was, or a state stored with a ring of slots
module _ (c : Call) (im : List ℕ) (ph : Phase) (out : List ℕ) (other : makes_image c ≡ false) where
  answer : Answer
  answer = judged c (state_of im) ph (length out)

  answers : answer_on c im ph out ≡ checked (verdict im) answer
  unfolding answer_on answer
  answers = rw other

  -- what holds of an image left as it was, and of a state stored where the slot may be written, holds of every call
  pub every : (P : After → Type 0) → ((a : Answer) (q : Phase) (o : List ℕ) → P (untouched a q im o))
      → ((slots : Slots) (f : Further) (x : Step) (o : List ℕ) → IsSound im → SlotFits im slots → FurtherFits im f → P (step_stored im slots f x o)) → P (leaves c im ph out)
  unfolding failed_on released_on done_on answer effect_of
  every P still puts =
      ends c im ph out P
      (λ e. still _ _ _)
      (λ e. puts stay same (failed_with (answer_on c im ph out) (state_of im)) (lent c out) (sound (λ n. let z : ◌≡◌ {A = ℕ} 0 1 = (let q = sym e ∙ n in cc) in omega arith)) tt tt)
      (λ e. puts empty same (released_with (answer_on c im ph out)) (lent c out) (sound (λ n. let z : ◌≡◌ {A = ℕ} 0 1 = (let q = sym e ∙ n in cc) in omega arith)) tt tt)
      (λ d.
      let q = checked-done (verdict im) (judged c (state_of im) ph (length out)) (sym answers ∙ d) in
      rw other (puts (slots_left c (state_of im) ph) (further_put c (state_of im) ph) (done c (state_of im) ph) (lent c out) (sound_parts im q.0) (slots_fit c im ph (length out) q.1) (further_fits c im ph)))
    where
      sound : (effect_of (answer_on c im ph out) ≡ Effect.Nothing → ⊥) → IsSound im
      sound more = sound_parts im (checked-more (verdict im) (judged c (state_of im) ph (length out)) (λ n. more (ap effect_of answers ∙ n)))

  -- `block0` is set exactly where block 0's bytes are others than before
  pub block0-told : TellsBlock0 im (leaves c im ph out)
  block0-told = every (TellsBlock0 im) (λ a q o. sym (differ_self (block im 0))) (λ slots f x o s sf ff. refl)

  -- so of `further` and the further blocks
  pub further-told : TellsFurther im (leaves c im ph out)
  further-told = every (TellsFurther im) (λ a q o. sym (further_self im)) (λ slots f x o s sf ff. refl)

  -- of which at most one is another
  pub one_further : OneFurther im (leaves c im ph out)
  one_further =
      every (OneFurther im)
      (λ a q o j k lj lk tj tk. absurd (true≢false (sym tj ∙ differ_self (block im j))))
      (λ slots f x o s sf ff j k lj lk tj tk. own slots f x s sf ff j lj tj ∙ sym (own slots f x s sf ff k lk tk))
    where
      own : (slots : Slots) (f : Further) (x : Step) → IsSound im → SlotFits im slots → FurtherFits im f → (j : ℕ) → request_block ≤ j
          → is_other im (stored im slots f x.state) j ≡ true → j ≡ further_block f
      own slots f x s sf ff j low t =
          by_test (eqb j (further_block f)) (λ y. eqb-true j (further_block f) y) (λ n.
          let slot = slot_low im s.size slots in
          let kept : block (stored im slots f x.state) j ≡ block im j =
          other_blocks im s.size x.state slots f sf (fits_place im f ff) j (omega arith) (eqb-false j (further_block f) n) (omega (arith, slot)) in
          absurd (true≢false (sym t ∙ ap (differ (block im j)) kept ∙ differ_self (block im j))))

  -- "A call stores at most one slot": every block but that, the further ones and block 0 keeps its bytes
  pub others_kept : KeepsOthers im (leaves c im ph out)
  others_kept =
      every (KeepsOthers im) (λ a q o k zero low slot. refl) (λ slots f x o s sf ff k zero low slot.
      other_blocks im s.size x.state slots f sf (fits_place im f ff) k zero (omega (arith, further_high f)) slot)

  -- ".. one that isn't live"
  pub slot-not-live : (j : ℕ) → (leaves c im ph out).outcome.slot ≡ block_of j → (j < slot_count) × NotLive im j
  slot-not-live =
      every (λ (x : After). (j : ℕ) → x.outcome.slot ≡ block_of j → (j < slot_count) × NotLive im j)
      (λ a q o j e. absurd (omega arith))
      (λ slots f x o s sf ff. slot-idle im s.size slots sf)

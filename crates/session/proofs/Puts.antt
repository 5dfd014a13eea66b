-- What a call does where it is done can be stored: the state is lawful, and its queue is what becomes of the ring of slots. Assumes nothing.
use Rattle.std.specs.Prelude.{Result, Ok, Err, Option, Some, None}
use Prim.Native.Nat.{ℕ, ◌≤◌, ◌<◌}
use mathlib.Core.Bool.{Bool, true, false, true≢false}
use mathlib.Core.List.{List}
use mathlib.Core.Logic.{⊎_elim}
use mathlib.Core.Path.{◌≡◌, refl, sym, ap, ◌∙◌}
use native.Mathlib.Omega.{arith}
use lib.Dec.{ltb, eqb}
use lib.ListN.{get_or, length, length-set, get_or-eq_default, set}
use lib.Seq.{get_or-set_other, get_or-set_same}
use borrow.Author.Tests.{eqb-false, eqb-true}
use Rattle.octets.specs.Bytes.{Bytes}
use Rattle.octets.specs.Pick.{pick}
use Rattle.octets.proofs.Choice.{pick_all, below_or_not, by_test}
use Rattle.octets.proofs.Fill.{zeros_at}
use Rattle.label_list.specs.declared.LabelMessage.{LabelMessage}
use Rattle.label_list.specs.declared.Side.{Side}
use Rattle.label_list.specs.Counting.{counting}
use Rattle.label_list.specs.Find.{find_of}
use Rattle.label_list.specs.Word.{lists_label, word_count, stands_for}
use Rattle.tlv.specs.Element.{entry_by}
use Rattle.block0.specs.declared.Header.{Header}
use Rattle.fec_index.specs.Entries.{entry_ok}
use Rattle.fec_index.proofs.Counted.{listed_at, none_right}
use Rattle.label_events.specs.Accept.{plan_change, plan_of}
use Rattle.label_events.specs.Change.{put_at, taken_at}
use Rattle.message.specs.declared.Kind.{Kind}
use Rattle.message.specs.declared.Message.{Message}
use Rattle.message.specs.declared.SubmissionError.{SubmissionError}
use Rattle.message.specs.Reading.{reading_of}
use Rattle.message.specs.Submission.{submission_of, entry_in}
use Rattle.image.specs.State.{decode}
use Rattle.image.proofs.Fecs.{entry_in_right, read_right}
use Rattle.image.proofs.Queue.{queue_length}
use Rattle.image.proofs.Sound.{sound_valid, sound_right}
use Rattle.protocol.specs.declared.Answer.{Answer}
use Rattle.protocol.specs.declared.Phase.{Phase}
use Rattle.protocol.specs.declared.Start.{Start}
use Rattle.protocol.specs.Accepting.{index_accepted}
use Rattle.protocol.specs.Acked.{acked, ack_borne}
use Rattle.protocol.specs.Calls.{Call, formats, restores, fails, opens, greets, passes, submits, sends, keeps-alive, receives}
use Rattle.protocol.specs.Init.{fresh, init_start, resumed, start_state}
use Rattle.protocol.specs.Judged.{judged, done}
use Rattle.protocol.specs.Lawful.{Lawful}
use Rattle.protocol.specs.Phases.{issued_count, proposal_of}
use Rattle.protocol.specs.Proper.{Proper}
use Rattle.protocol.specs.Receive.{received_state, taken, taken_as, ack_count, ack_on, message_takes}
use Rattle.protocol.specs.Send.{numbered, sent_state, place_sent}
use Rattle.protocol.specs.State.{State, held, released_state, Table, no_table}
use Rattle.protocol.specs.Step.{unchanged, released_with, broken}
use Rattle.protocol.specs.Submit.{submitted, accepted_index}
use Rattle.protocol.specs.TimePassed.{expired}
use Rattle.protocol.proofs.KeepingCalls.{lawful_step}
use Rattle.protocol.proofs.Queues.{count_held, sent_stays, start-within, StartWithin}
use Rattle.protocol.proofs.Settles.{step-does}
use Rattle.calls.specs.State.{state_of}
use Rattle.calls.specs.Storing.{Slots, stay, empty, one_more, fewer, first_after, same, Further}
use Rattle.call_meaning.specs.Standing.{Standing}
use Rattle.call_meaning.proofs.Putting.{QueueAfter, lawful_image, not_kept, state_ids, state_index}
use Rattle.call_meaning.proofs.Refining.{Kept}
use Rattle.init.specs.Received.{start_slots}
use Rattle.receive.specs.Call.{received_slots, received_further}
use Rattle.submit.specs.Call.{submitted_further}
use Rattle.session.specs.Call.{makes_image, slots_left, further_put}
use Rattle.session.proofs.Ids.{Borne, none_borne, broken-borne, taken-borne, submitted-borne, acked-borne}
use Rattle.session.proofs.Index.{Indexed, acked_indexed, broken_indexed, none_indexed_left, submitted_indexed, taken_indexed}
use Rattle.session.proofs.Told.{slots_fit, further_fits}

-- kept stays as it was, unless the ring is empty
abbrev KeptAs : State → Slots → State → Type 0
KeptAs s stay t = t.kept ≡ s.kept
KeptAs s empty t = Unit {0}
KeptAs s (one_more m) t = t.kept ≡ s.kept
KeptAs s (fewer k) t = t.kept ≡ s.kept

-- the ring of slots and the state that is stored with it
abbrev Fits : List ℕ → Slots → State → Type 0
Fits im slots t = QueueAfter im slots t.queue × KeptAs (state_of im) slots t

module _ (im : List ℕ) (ph : Phase) (st : Standing im ph) where
  -- an image that keeps nothing has an empty ring that begins at slot 0
  rests : (state_of im).kept ≡ false → ((decode im).header.first ≡ 0) × ((decode im).header.held ≡ 0)
  rests f =
      let e = ((sound_valid im st.sound).idle (not_kept im st.sound st.range f)).0 in
      (ap (λ (h : Header). h.first) e, ap (λ (h : Header). h.held) e)

  first_zero : (slots : Slots) (t : State) → Fits im slots t → t.kept ≡ false → first_after (decode im).header slots ≡ 0
  first_zero stay t f n = (rests (sym f.1 ∙ n)).0
  first_zero empty t f n = refl
  first_zero (one_more m) t f n = (rests (sym f.1 ∙ n)).0
  first_zero (fewer k) t f n =
      let r = rests (sym f.1 ∙ n) in
      let none : k ≡ 0 = omega (arith, f.0.1, r.1) in
      rw (none, r.0)

  -- ---- each call
  pub law : Lawful (state_of im)
  law = lawful_image im st.sound st.range

  low : {n : ℕ} → n ≤ held (state_of im) → n ≤ (decode im).header.held
  low l = rw (queue_length im) at l

  start_fits : (s : Result Start Answer) → StartWithin (held (state_of im)) s → Fits im (start_slots s) (start_state (state_of im) s)
  unfolding fresh resumed acked
  start_fits (Err a) w = (refl, refl)
  start_fits (Ok Start.Plain) w = (refl, tt)
  start_fits (Ok (Start.Fresh t)) w = (refl, tt)
  start_fits (Ok (Start.Resumed t k a)) w = ((refl, low w), refl)

  taken_fits : (p : Phase) (r : Option Message) → Fits im (received_slots (state_of im) p r) (taken_as (state_of im) p r).state
  unfolding received_state taken acked
  taken_fits Phase.Idle r = (refl, refl)
  taken_fits (Phase.InitWait v) r = (refl, refl)
  taken_fits (Phase.UpFT u) None = (refl, refl)
  taken_fits (Phase.UpFT u) (Some g) = ((refl, low (count_held (state_of im) law.window g)), refl)
  taken_fits Phase.UpPlain r = (refl, refl)
  taken_fits Phase.Failed r = (refl, refl)

  passed_fits : (b : Bool) → Fits im (pick b empty stay) (pick b (released_with Answer.Done) (unchanged Answer.Done (state_of im) ph)).state
  passed_fits true = (refl, tt)
  passed_fits false = (refl, refl)

  sent_kept : (n : ℕ) → (sent_state (state_of im) n).kept ≡ (state_of im).kept
  unfolding sent_state numbered
  sent_kept n = pick_all (λ (t : State). t.kept ≡ (state_of im).kept) (ltb n (issued_count (state_of im))) {x = state_of im} {y = numbered (state_of im) n} refl refl

  done_fits : (c : Call) (room : ℕ) → makes_image c ≡ false → judged c (state_of im) ph room ≡ Answer.Done → Fits im (slots_left c (state_of im) ph) (done c (state_of im) ph).state
  unfolding judged done submitted
  done_fits formats room other d = absurd (true≢false other)
  done_fits restores room other d = (refl, refl)
  done_fits fails room other d = (refl, refl)
  done_fits (opens id own proposal) room other d = (refl, refl)
  done_fits (greets m) room other d = start_fits (init_start (state_of im) ph m) (start-within (state_of im) law.window (proposal_of ph) (reading_of m))
  done_fits (passes elapsed) room other d = passed_fits (expired (state_of im) elapsed)
  done_fits (submits m) room other d =
      let f = slots_fit (submits m) im ph room d in
      ((refl, f.0, f.1), refl)
  done_fits (sends ask) room other d = ((sent_stays (state_of im) (place_sent (state_of im) ph)).0, sent_kept (place_sent (state_of im) ph))
  done_fits (keeps-alive id) room other d = (refl, refl)
  done_fits (receives m) room other d = taken_fits ph (reading_of m)

  -- ---- the IDs are those of block 65, and the entries those of blocks 66 and 67
  -- each entry that counts is right
  abbrev Rights : State → Type 0
  Rights s = (i : ℕ) → entry_ok (get_or s.table.index i 0) ≡ true

  right_now : Rights (state_of im)
  unfolding decode
  right_now = sound_right im st.sound

  -- what the further blocks bear, where that becomes of them, is what the state says
  pub record Bears (f : Further) (s : State) : Type 0 where
    pub ids : Borne im law f s
    pub index : Indexed im law f s
    pub right : Rights s

  same_bears : Bears same (state_of im)
  same_bears = record { ids = state_ids im; index = state_index im; right = right_now }

  none_bears : (s : State) → s.table ≡ no_table → Bears same s
  none_bears s e = record { ids = none_borne im law s e; index = none_indexed_left im law s e; right = λ i. rw (e, zeros_at word_count i) none_right }

  counted_right : (ws xs : List ℕ) → ((i : ℕ) → entry_ok (get_or xs i 0) ≡ true) → (i : ℕ) → entry_ok (get_or (counting 0 lists_label ws xs) i 0) ≡ true
  counted_right ws xs right i = rw (listed_at ws xs i) (pick_all (λ (e : ℕ). entry_ok e ≡ true) (lists_label (get_or ws i 0)) (right i) none_right)

  put_right : (place : Option ℕ) (entry : ℕ) (xs : List ℕ) → entry_ok entry ≡ true → ((i : ℕ) → entry_ok (get_or xs i 0) ≡ true) → (i : ℕ) → entry_ok (get_or (put_at place entry xs) i 0) ≡ true
  put_right (Some j) entry xs ok right i =
      by_test (eqb i j)
      (λ y.
      rw (eqb-true i j y)
      (⊎_elim
      (λ (inside : j < length xs). rw (get_or-set_same xs j entry 0 inside) ok)
      (λ (past : length xs ≤ j). rw (get_or-eq_default (set xs j entry) 0 {n = j} (rw (length-set xs j entry) past)) none_right)
      (below_or_not j (length xs))))
      (λ n. rw (get_or-set_other xs j i entry 0 (eqb-false i j n)) (right i))
  put_right None entry xs ok right i = right i

  broken-bears : Bears same (broken (state_of im))
  broken-bears = record { ids = broken-borne im law; index = broken_indexed im law; right = counted_right _ _ right_now }

  acked_right : (k a : ℕ) → Rights (acked (state_of im) k a)
  unfolding acked
  acked_right k a = counted_right _ _ right_now

  start-bears : (s : Result Start Answer) → Bears same (start_state (state_of im) s)
  unfolding fresh resumed
  start-bears (Err a) = same_bears
  start-bears (Ok Start.Plain) = none_bears released_state refl
  start-bears (Ok (Start.Fresh t)) = none_bears (fresh t) refl
  start-bears (Ok (Start.Resumed t k a)) = record { ids = acked-borne im law k a.0; index = acked_indexed im law k a.0; right = acked_right k a.0 }

  taken_right : (k a : ℕ) (g : Message) → entry_ok (entry_by g.fec) ≡ true → Rights (taken (state_of im).table.words (acked (state_of im) k a) g)
  unfolding taken
  taken_right k a g ok =
      let t : Table = (acked (state_of im) k a).table in
      counted_right _ _ (put_right (message_takes (state_of im).table.words t g) (entry_by g.fec) t.index ok (acked_right k a))

  read_bears : (p : Phase) (m : List ℕ) → Bytes m → Bears (received_further (state_of im) p (reading_of m)) (taken_as (state_of im) p (reading_of m)).state
  unfolding received_state
  read_bears p m byte = by p (reading_of m) (read_right m byte)
    where
      by : (p : Phase) (r : Option Message) → ((g : Message) → r ≡ Some g → entry_ok (entry_by g.fec) ≡ true) → Bears (received_further (state_of im) p r) (taken_as (state_of im) p r).state
      by Phase.Idle r ok = same_bears
      by (Phase.InitWait v) r ok = same_bears
      by (Phase.UpFT u) None ok = same_bears
      by (Phase.UpFT u) (Some g) ok =
          let k : ℕ = ack_count (ack_on (state_of im) g) in
          let a : ℕ = ack_borne (state_of im) g.ack in
          record { ids = taken-borne im law k a g; index = taken_indexed im law k a g; right = taken_right k a g (ok g refl) }
      by Phase.UpPlain r ok = same_bears
      by Phase.Failed r ok = same_bears

  passed-bears : (b : Bool) → Bears same (pick b (released_with Answer.Done) (unchanged Answer.Done (state_of im) ph)).state
  passed-bears true = none_bears released_state refl
  passed-bears false = same_bears

  numbered-bears : (n : ℕ) → Bears same (numbered (state_of im) n)
  unfolding numbered
  numbered-bears n = record { ids = state_ids im; index = state_index im; right = right_now }

  sent-bears : (n : ℕ) → Bears same (sent_state (state_of im) n)
  unfolding sent_state
  sent-bears n = pick_all (Bears same) (ltb n (issued_count (state_of im))) {x = state_of im} {y = numbered (state_of im) n} same_bears (numbered-bears n)

  accepted_right : (j : Result (Kind × ℕ) SubmissionError) (entry : ℕ) → entry_ok entry ≡ true → (i : ℕ) → entry_ok (get_or (accepted_index (state_of im).table j entry) i 0) ≡ true
  unfolding index_accepted
  accepted_right (Err SubmissionError.Malformed) entry ok = right_now
  accepted_right (Err SubmissionError.Refused) entry ok = right_now
  accepted_right (Ok (Kind.Mapping, label)) entry ok =
      put_right (taken_at (find_of (stands_for Side.Given label) (state_of im).table.words) (plan_change (plan_of (state_of im).table.words LabelMessage.Mapping label))) entry
      (state_of im).table.index ok right_now
  accepted_right (Ok (Kind.Withdraw, label)) entry ok = right_now
  accepted_right (Ok (Kind.Release, label)) entry ok = right_now
  accepted_right (Ok (Kind.Address, label)) entry ok = right_now
  accepted_right (Ok (Kind.AddressWithdraw, label)) entry ok = right_now
  accepted_right (Ok (Kind.ResourcesAvailable, label)) entry ok = right_now
  accepted_right (Ok (Kind.Request id, label)) entry ok = right_now
  accepted_right (Ok (Kind.Abort id, label)) entry ok = right_now
  accepted_right (Ok (Kind.NoResources, label)) entry ok = right_now
  accepted_right (Ok (Kind.NoKind, label)) entry ok = right_now

  submitted-bears : (m : List ℕ) → Bytes m → Bears (submitted_further (state_of im).table m) (submitted (state_of im) m)
  unfolding submitted
  submitted-bears m byte = record {
    ids = submitted-borne im law m;
    index = submitted_indexed im law m;
    right = counted_right _ _ (accepted_right (submission_of m) (entry_in m) (entry_in_right m byte));
  }

  done-bears : (c : Call) → makes_image c ≡ false → Proper c ph → Bears (further_put c (state_of im) ph) (done c (state_of im) ph).state
  unfolding done
  done-bears formats other p = absurd (true≢false other)
  done-bears restores other p = broken-bears
  done-bears fails other p = broken-bears
  done-bears (opens id own proposal) other p = same_bears
  done-bears (greets m) other p = start-bears (init_start (state_of im) ph m)
  done-bears (passes elapsed) other p = passed-bears (expired (state_of im) elapsed)
  done-bears (submits m) other p = submitted-bears m p
  done-bears (sends ask) other p = sent-bears (place_sent (state_of im) ph)
  done-bears (keeps-alive id) other p = same_bears
  done-bears (receives m) other p = read_bears ph m p

  -- ---- so it is kept
  pub done-keeps : (c : Call) (room : ℕ) → makes_image c ≡ false → Proper c ph → judged c (state_of im) ph room ≡ Answer.Done
      → Kept im (slots_left c (state_of im) ph) (further_put c (state_of im) ph) (done c (state_of im) ph)
  done-keeps c room other p d =
      let l = rw (step-does c (state_of im) ph room d) at (lawful_step c (state_of im) ph room p law st.fits) in
      let f = done_fits c room other d in
      let b = done-bears c other p in
      record {
        puts = record {
          lawful = l.0;
          queue = f.0;
          fits = further_fits c im ph;
          widths = st.range.ids;
          ids = b.ids;
          index = b.index;
          right = b.right;
          first = first_zero (slots_left c (state_of im) ph) (done c (state_of im) ph).state f;
        };
        fits = l.1;
      }

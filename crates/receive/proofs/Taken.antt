-- What a message leaves, by its answer. Assumes nothing.
use Rattle.std.specs.Prelude.{Result, Option, Some, None}
use Prim.Native.Nat.{ℕ, ◌-◌, ◌<◌}
use mathlib.Core.Bool.{Bool, true, false, false≢true}
use mathlib.Core.List.{List, []}
use mathlib.Core.Path.{◌≡◌, refl, sym, ap, ◌∙◌}
use native.Mathlib.Omega.{arith}
use lib.ListN.{length, take, drop, length-drop}
use Rattle.octets.specs.Bytes.{Bytes}
use Rattle.octets.specs.Differ.{differ}
use Rattle.octets.specs.Laid.{laid}
use Rattle.octets.proofs.Choice.{by_test, both_true}
use Rattle.octets.proofs.Differ.{differ_self}
use Rattle.ft_number.specs.declared.MessageId.{MessageId}
use Rattle.ft_number.specs.declared.TurnError.{TurnError}
use Rattle.ft_number.specs.Turn.{turn_gap}
use Rattle.label_list.specs.declared.LabelMessage.{LabelMessage}
use Rattle.label_list.specs.Find.{FoundIn}
use Rattle.tlv.specs.Element.{entry_by}
use Rattle.block0.specs.declared.Header.{Header}
use Rattle.label_events.specs.declared.Meets.{Meets}
use Rattle.label_events.specs.declared.Touched.{Touched}
use Rattle.label_events.specs.Receive.{received_place}
use Rattle.label_events.specs.Requests.{ended_at}
use Rattle.message.specs.declared.Message.{Message}
use Rattle.message.specs.Reading.{reading_of}
use Rattle.image.specs.Sizes.{block, slot_at}
use Rattle.image.specs.State.{decode, store0}
use Rattle.image.specs.Verdict.{IsSound}
use Rattle.image.proofs.Entered.{sound-entry, sound_wide}
use Rattle.image.proofs.Entries.{decode-entry}
use Rattle.image.proofs.Queue.{queue_length}
use Rattle.image.proofs.Ranges.{labels-count}
use Rattle.image.proofs.Requests.{Fewer}
use Rattle.image.proofs.Sound.{sound_valid}
use Rattle.protocol.specs.declared.Answer.{Answer}
use Rattle.protocol.specs.declared.Phase.{Phase}
use Rattle.protocol.specs.declared.Progress.{Progress}
use Rattle.protocol.specs.Acked.{acked, released_labels}
use Rattle.protocol.specs.Answers.{effect_of, is_done}
use Rattle.protocol.specs.Cases.{may_receive}
use Rattle.protocol.specs.Labels.{label_effect, is_protected, brings_another, effect_labels, effect_takes, meets, answered_at, answers, request_at}
use Rattle.protocol.specs.Phases.{up_with}
use Rattle.protocol.specs.Receive.{turn_borne, ack_on, ack_count, after_ack, message_takes, taken, received_state, taken_as, read_rule, ft_rule, plain_rule, receive_rule, receive}
use Rattle.protocol.specs.State.{State, Table}
use Rattle.protocol.proofs.Cases.{wrong_by}
use Rattle.protocol.proofs.Effects.{done_is}
use Rattle.protocol.proofs.Settles.{taken-done}
use Rattle.calls.specs.declared.Outcome.{Outcome}
use Rattle.calls.specs.Freeing.{frees_none}
use Rattle.calls.specs.Further.{further_told}
use Rattle.calls.specs.Outcomes.{After, after_with, further_bits, refusal, untouched, admitted_on, settle_of}
use Rattle.calls.specs.State.{state_of_numbers, state_of}
use Rattle.calls.specs.Storing.{Further, entry_put, fewer, further_stored, header_for, same, stored}
use Rattle.calls.proofs.Called.{call_is}
use Rattle.calls.proofs.Ends.{settle_other}
use Rattle.calls.proofs.Freeing.{none_freed}
use Rattle.calls.proofs.FurtherBits.{further_self}
use Rattle.calls.proofs.Putting.{kept_is, put_same}
use Rattle.calls.proofs.Slots.{FurtherFits, HasPlace, further_high, further-other}
use Rattle.calls.proofs.Told.{HasWidth, further-told}
use Rattle.call_meaning.proofs.Calling.{call_refused, call_own, own_done, own_refused}
use Rattle.receive.specs.Call.{Taken, taken_ft, receive_of, received_further, received_slots, taken_on, header_taken}
use Rattle.receive.specs.Speed.{touches_none, labels_stay, leaves_words, names_none}
use Rattle.receive.proofs.Answered.{released_fewer}
use Rattle.receive.proofs.Judged.{ack_read, borne_read}
use Rattle.receive.proofs.Takes.{DeadAt, received_dead}

-- where the label words stay they are those that the message leaves
stay_labels : (s : State) (g : Message) (k : ℕ) → k ≡ ack_count (ack_on s g) → labels_stay s k g ≡ true → s.table.words ≡ (received_state s g).table.words
unfolding received_state taken acked answered_at ended_at
stay_labels s g k ek y =
    let p = both_true (leaves_words g) (frees_none (take k s.queue)) y in
    let q = both_true (touches_none (label_effect g)) (names_none (answers g)) p.0 in
    let freed : released_labels (take (ack_count (ack_on s g)) s.queue) s.table.words ≡ s.table.words = rw (← ek) (none_freed (take k s.queue) s.table.words p.1) in
    sym freed ∙ by (label_effect g) (answers g) (after_ack s g).table (meets s.table.words (after_ack s g).table g) refl q.0 q.1
  where
    by : (f : Option (LabelMessage × Touched)) (j : Option MessageId) (t : Table) (x : Meets) → x.request ≡ request_at t j → touches_none f ≡ true → names_none j ≡ true
        → t.words ≡ effect_labels t x (is_protected g.protection) f
    by None None t x e n u = rw e
    by None (Some id) t x e n u = absurd (false≢true u)
    by (Some (m, w)) j t x e n u = absurd (false≢true n)

-- what is said of the header read is said of the image
pub count_read : (im : List ℕ) (g : Message) {h : Header} {k : ℕ} → h ≡ (decode im).header → k ≡ ack_count (ack_on (state_of_numbers h) g) → k ≡ ack_count (ack_on (state_of im) g)
count_read im g eh ek = ek ∙ ap ack_count (ack_read im g eh)

-- what is stored is the state that the message makes
module _ (im : List ℕ) (sound : IsSound im) (g : Message) {h h' : Header} {k : ℕ} (eh : h ≡ (decode im).header) (ek : k ≡ ack_count (ack_on (state_of im) g))
    (eh' : h' ≡ header_taken h k g) where
  -- block 0's numbers are those of that state
  numbers : h' ≡ header_for (slot_at (decode im).header.first (ack_count (ack_on (state_of im) g))) (received_state (state_of im) g)
  unfolding received_state taken acked
  numbers =
      let n : length (drop k (decode im).queue) ≡ (decode im).header.held - k = length-drop k (decode im).queue ∙ ap (λ (j : ℕ). j - k) (queue_length im) in
      rw (← ek, n, kept_is (decode im).header.kept (sound_valid im sound).kept, ← borne_read im g.ack eh) (eh' ∙ rw eh)

  pub put : {im' ws : List ℕ} {d : Type 0} → ws ≡ (received_state (state_of im) g).table.words → (im' ≡ store0 im h' ws) × d
      → (im' ≡ stored im (fewer (ack_count (ack_on (state_of im) g))) same (received_state (state_of im) g)) × d
  put ew e = (e.0 ∙ rw (numbers, ew), e.1)

  pub put_stays : {im' : List ℕ} {d : Type 0} → labels_stay (state_of im) k g ≡ true → (im' ≡ store0 im h' (decode im).labels) × d
      → (im' ≡ stored im (fewer (ack_count (ack_on (state_of im) g))) same (received_state (state_of im) g)) × d
  put_stays y e = put (stay_labels (state_of im) g k ek y) e

-- ---- the place at which a label takes a word lists none before the call
module _ (im : List ℕ) (g : Message) where
  abbrev left : Table
  left = (after_ack (state_of im) g).table

  abbrev taking : Option ℕ
  taking = message_takes (decode im).labels left g

  pub takes_none : DeadAt (decode im).labels taking
  unfolding acked received_place
  takes_none = by (label_effect g)
    where
      fewer : (length left.words ≡ length (decode im).labels) × Fewer left.words (decode im).labels
      fewer = released_fewer (take (ack_count (ack_on (state_of im) g)) (decode im).queue) (decode im).labels

      by : (e : Option (LabelMessage × Touched)) → DeadAt (decode im).labels (effect_takes left (meets (decode im).labels left g) (is_protected g.protection) e)
      by None = tt
      by (Some (m, (Touched.Label l))) =
          received_dead (decode im).labels left.words fewer.0 fewer.1 (answered_at left g) (brings_another left g) m (is_protected g.protection) l
      by (Some (m, Touched.Every)) = tt
      by (Some (m, (Touched.Prefix entry))) = tt
      by (Some (m, Touched.Nothing)) = tt

none_inside : (words : List ℕ) (f : Option ℕ) → DeadAt words f → FoundIn words f
none_inside words (Some j) p = p.0
none_inside words None p = tt

-- so an entry may be put there
pub dead_fits : (im : List ℕ) (f : Option ℕ) (entry : ℕ) → DeadAt (decode im).labels f → FurtherFits im (entry_put f entry)
dead_fits im (Some j) entry p = (omega (arith, p.0, labels-count im), p.1)
dead_fits im None entry p = tt

pub received_fits : (im : List ℕ) (g : Message) → FurtherFits im (entry_put (taking im g) (entry_by g.fec))
received_fits im g = dead_fits im (taking im g) (entry_by g.fec) (takes_none im g)

-- an entry that is put leaves the image sound and the state as it was
module _ (im : List ℕ) (sound : IsSound im) (entry : ℕ) where
  entry-sound : (f : Option ℕ) → DeadAt (decode im).labels f → IsSound (further_stored im (entry_put f entry))
  entry-sound (Some j) p = sound-entry im sound j entry (omega (arith, p.0, labels-count im)) p.1
  entry-sound None p = sound

  entry_decodes : (f : Option ℕ) → DeadAt (decode im).labels f → decode (further_stored im (entry_put f entry)) ≡ decode im
  entry_decodes (Some j) p = decode-entry im sound.size j (omega (arith, p.0, labels-count im)) entry (sound_wide im sound) p.1
  entry_decodes None p = refl

  has_place : (f : Option ℕ) → DeadAt (decode im).labels f → HasPlace (entry_put f entry)
  has_place (Some j) p = omega (arith, p.0, labels-count im)
  has_place None p = tt

  has_width : (f : Option ℕ) → DeadAt (decode im).labels f → entry < 18446744073709551616 → HasWidth (entry_put f entry)
  has_width (Some j) p w = (omega (arith, p.0, labels-count im), w)
  has_width None p w = tt

-- ---- the act, after its judgement
module _ (im : List ℕ) (g : Message) (words : List ℕ) (t : Taken im g words) {takes : Option ℕ} (at : takes ≡ taking im g) where
  listed : DeadAt (decode im).labels takes
  listed = rw at (takes_none im g)

  pub takes_inside : FoundIn (decode im).labels takes
  takes_inside = none_inside (decode im).labels takes listed

  module _ {entry : ℕ} (ee : entry ≡ entry_by g.fec) {im₁ : List ℕ} (e₁ : im₁ ≡ further_stored im (entry_put takes entry)) where
    same_state : decode im₁ ≡ decode im
    same_state = rw e₁ (entry_decodes im t.sound entry takes listed)

    -- with the entry stored it is as before
    pub still-taken : Taken im₁ g words
    still-taken = record {
      sound = rw e₁ (entry-sound im t.sound entry takes listed);
      within = rw same_state t.within;
      labels = rw same_state t.labels;
      count = t.count;
    }

    pub still_header : {h : Header} → h ≡ (decode im).header → h ≡ (decode im₁).header
    still_header eh = rw same_state eh

    pub still-count : {h : Header} {k : ℕ} → h ≡ (decode im).header → k ≡ ack_count (ack_on (state_of_numbers h) g) → k ≡ ack_count (ack_on (state_of im₁) g)
    still-count eh ek = count_read im₁ g (still_header eh) ek

    abbrev f : Further
    f = entry_put (taking im g) (entry_by g.fec)

    -- then block 0
    pub take_is : (u : Progress) {im₂ : List ℕ} {h : Header} {k n gap told : ℕ} {turn : Result ℕ TurnError} {b : Bool} → Bytes im → entry_by g.fec < 18446744073709551616
        → h ≡ (decode im).header → k ≡ ack_count (ack_on (state_of_numbers h) g) → turn ≡ turn_borne u.resumed h.secured.0 g.protection
        → told ≡ further_told im (entry_put takes entry)
        → (im₂ ≡ stored im₁ (fewer (ack_count (ack_on (state_of im₁) g))) same (received_state (state_of im₁) g)) × (b ≡ differ (block im₁ 0) (block im₂ 0)) → n ≡ u.sent - k → gap ≡ turn_gap turn
        → after_with (record { answer = Answer.Done; phase = up_with u.resumed n; written = 0; slot = 0; block0 = b; further = told; leftout = gap }) im₂ [] ≡ taken_ft im u g
    unfolding laid
    take_is u {im₂} {told = told} {b = b} byte wide eh ek et ef e en el =
        rw (bit, block0_is, stores, en, ek, el, et, ack_read im g eh, eh)
      where
        fits : DeadAt (decode im).labels (taking im g)
        fits = takes_none im g

        first : im₁ ≡ further_stored im f
        first = e₁ ∙ rw (at, ee)

        stores : im₂ ≡ stored im (fewer (ack_count (ack_on (state_of im) g))) f (received_state (state_of im) g)
        stores = e.0 ∙ rw (same_state, first)

        bit : told ≡ further_bits im (stored im (fewer (ack_count (ack_on (state_of im) g))) f (received_state (state_of im) g))
        bit = ef ∙ rw (at, ee) (sym (further-told im t.sound (fewer (ack_count (ack_on (state_of im) g))) tt (received_state (state_of im) g) f byte (has_width im t.sound (entry_by g.fec) (taking im g) fits wide)))

        same0 : block im₁ 0 ≡ block im 0
        same0 = ap (λ (x : List ℕ). block x 0) first ∙ further-other im t.sound.size f (has_place im t.sound (entry_by g.fec) (taking im g) fits) 0 (omega (arith, further_high f))

        block0_is : b ≡ differ (block im 0) (block im₂ 0)
        block0_is = e.1 ∙ ap (λ (x : List ℕ). differ x (block im₂ 0)) same0

-- ---- how the answer settles
module _ (im : List ℕ) (u : Progress) (g : Message) {a : Answer} (e : a ≡ ft_rule (state_of im) u.resumed g) {x : After} where
  pub ft_settled : is_done a ≡ false → x ≡ settle_of a (Phase.UpFT u) im [] (untouched a (Phase.UpFT u) im [])
      → x ≡ settle_of (ft_rule (state_of im) u.resumed g) (Phase.UpFT u) im [] (taken_ft im u g)
  ft_settled n p = rw (← e) (p ∙ settle_other a (Phase.UpFT u) im [] (untouched a (Phase.UpFT u) im []) (taken_ft im u g) n)

  pub ft_taken : is_done a ≡ true → x ≡ taken_ft im u g → x ≡ settle_of (ft_rule (state_of im) u.resumed g) (Phase.UpFT u) im [] (taken_ft im u g)
  ft_taken t p = rw (← e) (own_done a (Phase.UpFT u) im [] (taken_ft im u g) t p)

-- Done in UpPlain changes nothing
plain-untouched : (im : List ℕ) → IsSound im → Bytes im → (r : Option Message) → taken_on im Phase.UpPlain r ≡ untouched Answer.Done Phase.UpPlain im []
unfolding laid
plain-untouched im s byte r = rw (put_same im s byte, differ_self (block im 0), further_self im)

pub plain_settled : (im : List ℕ) → IsSound im → Bytes im → (g : Message) {a : Answer} {x : After} → a ≡ plain_rule g → x ≡ settle_of a Phase.UpPlain im [] (untouched a Phase.UpPlain im [])
    → x ≡ settle_of (plain_rule g) Phase.UpPlain im [] (taken_on im Phase.UpPlain (Some g))
plain_settled im s byte g {a} e p =
    rw (← e, plain-untouched im s byte (Some g))
    (by_test (is_done a)
    (λ t. p ∙ ap (λ (z : Answer). settle_of a Phase.UpPlain im [] (untouched z Phase.UpPlain im [])) (done_is a t))
    (λ n. p ∙ settle_other a Phase.UpPlain im [] (untouched a Phase.UpPlain im []) (untouched Answer.Done Phase.UpPlain im []) n))

-- what was read decides the rule
module _ (im : List ℕ) (ph : Phase) (rule : Message → Answer) (m : List ℕ) {r : Option Message} (e : r ≡ reading_of m) {x : After} where
  pub read_malformed : (d : After) → r ≡ None → x ≡ settle_of Answer.MalformedReceived ph im [] d
      → x ≡ settle_of (read_rule (reading_of m) rule) ph im [] (taken_on im ph (reading_of m))
  read_malformed d t p = rw (← e, t) (p ∙ settle_other Answer.MalformedReceived ph im [] d (taken_on im ph None) refl)

  pub read_whole : {g : Message} → r ≡ Some g → x ≡ settle_of (rule g) ph im [] (taken_on im ph (Some g))
      → x ≡ settle_of (read_rule (reading_of m) rule) ph im [] (taken_on im ph (reading_of m))
  read_whole t p = rw (← e, t) p

-- ---- the call
module _ (im : List ℕ) (ph : Phase) (m : List ℕ) where
  call : receive_of im ph m ≡ settle_of (admitted_on im ph (receive_rule (state_of im) ph (reading_of m))) ph im [] (taken_on im ph (reading_of m))
  unfolding receive_of receive
  call =
      call_is im ph [] (received_slots (state_of im) ph (reading_of m)) (received_further (state_of im) ph (reading_of m)) (receive_rule (state_of im) ph (reading_of m)) (taken_as (state_of im) ph (reading_of m))
      (taken-done (state_of im) ph (reading_of m))

  module _ {a : Answer} (e : a ≡ admitted_on im ph Answer.Done) where
    pub receive_refused : {r : Outcome} → is_done a ≡ false → r ≡ refusal a ph → after_with r im [] ≡ receive_of im ph m
    receive_refused n p = call_refused im ph e [] (receive_rule (state_of im) ph (reading_of m)) (taken_on im ph (reading_of m)) n p ∙ sym call

    module _ (t : is_done a ≡ true) where
      own : {x : After} → x ≡ settle_of (receive_rule (state_of im) ph (reading_of m)) ph im [] (taken_on im ph (reading_of m)) → x ≡ receive_of im ph m
      own p = call_own im ph e [] (receive_rule (state_of im) ph (reading_of m)) (taken_on im ph (reading_of m)) t p ∙ sym call

      -- the phases in which nothing is received
      pub receive_barred : {r : Outcome} → may_receive ph ≡ false → r ≡ refusal Answer.WrongPhase ph → after_with r im [] ≡ receive_of im ph m
      unfolding effect_of
      receive_barred f p = own (rw (wrong_by (state_of im) ph (reading_of m) f) (own_refused Answer.WrongPhase ph im [] (taken_on im ph (reading_of m)) refl p))

      -- those in which the message is judged
      pub receive_judges : (up : Phase) {x : After} → ph ≡ up → x ≡ settle_of (receive_rule (state_of im) up (reading_of m)) up im [] (taken_on im up (reading_of m)) → x ≡ receive_of im ph m
      receive_judges up q p = own (rw q p)

-- Receive on an image: the protocol's step, and in UpFT the ACK frees the oldest slots; a Mapping that takes a word puts its entry into block 66 or 67.
use Rattle.std.specs.Prelude.{Option, Some, None, ℕ, ◌-◌, ◌≤◌, false, List, [], ◌≡◌, length}
use Rattle.label_list.specs.Word.{word_count}
use Rattle.tlv.specs.Element.{entry_by}
use Rattle.block0.specs.declared.Header.{Header}
use Rattle.label_events.specs.declared.Meets.{Meets}
use Rattle.message.specs.declared.Message.{Message}
use Rattle.message.specs.Kinds.{kind_of}
use Rattle.message.specs.Reading.{reading_of}
use Rattle.image.specs.Sizes.{slot_at}
use Rattle.image.specs.State.{decode}
use Rattle.image.specs.Verdict.{IsSound}
use Rattle.protocol.specs.declared.Answer.{Answer}
use Rattle.protocol.specs.declared.Phase.{Phase}
use Rattle.protocol.specs.declared.Progress.{Progress}
use Rattle.protocol.specs.Acked.{ack_borne}
use Rattle.protocol.specs.Labels.{effect_labels, effect_reception, effect_takes, is_protected, label_effect, meets}
use Rattle.protocol.specs.Receive.{ack_count, ack_on, after_ack, heard_marks, message_labels, message_takes, receive, received_state, reception_rule, secured_by, taken_as}
use Rattle.protocol.specs.State.{State, Table}
use Rattle.calls.specs.Outcomes.{After, call_of, step_stored}
use Rattle.calls.specs.State.{marks_of, state_of, state_of_numbers}
use Rattle.calls.specs.Storing.{Further, same, entry_put, Slots, stay, fewer, marks_byte}
use Rattle.receive.specs.Speed.{labels_stay}

abbrev pub received_slots : State → Phase → Option Message → Slots
received_slots s Phase.Idle r = stay
received_slots s (Phase.InitWait v) r = stay
received_slots s (Phase.UpFT u) None = stay
received_slots s (Phase.UpFT u) (Some g) = fewer (ack_count (ack_on s g))
received_slots s Phase.UpPlain r = stay
received_slots s Phase.Failed r = stay

-- what becomes of the further blocks: a Mapping that takes a word puts the entry of its FEC there
abbrev pub received_further : State → Phase → Option Message → Further
received_further s Phase.Idle r = same
received_further s (Phase.InitWait v) r = same
received_further s (Phase.UpFT u) None = same
received_further s (Phase.UpFT u) (Some g) = entry_put (message_takes s.table.words (after_ack s g).table g) (entry_by g.fec)
received_further s Phase.UpPlain r = same
received_further s Phase.Failed r = same

unfoldable pub receive_of : List ℕ → Phase → List ℕ → After
receive_of im ph m = call_of im ph [] (received_slots (state_of im) ph (reading_of m)) (received_further (state_of im) ph (reading_of m)) (receive (state_of im) ph m)

-- what Done leaves, whatever the phase, and in UpFT
abbrev pub taken_on : List ℕ → Phase → Option Message → After
taken_on im ph r = step_stored im (received_slots (state_of im) ph r) (received_further (state_of im) ph r) (taken_as (state_of im) ph r) []

abbrev pub taken_ft : List ℕ → Progress → Message → After
taken_ft im u g = taken_on im (Phase.UpFT u) (Some g)

-- block 0's numbers after the ACK, which releases the oldest k messages held, and the message
abbrev pub header_taken : Header → ℕ → Message → Header
header_taken h k g = record {
  released = record { 0 = ack_borne (state_of_numbers h) g.ack };
  issued = h.issued;
  secured = secured_by h.secured g.protection;
  first = slot_at h.first k;
  held = h.held - k;
  timeout = h.timeout;
  kept = h.kept;
  marks = marks_byte (heard_marks (marks_of h.marks) (kind_of g));
  keepalive = h.keepalive;
  maxpdu = h.maxpdu;
}

-- ---- what the code is told
-- 21 comes last
abbrev pub effect_rule : List ℕ → Table → Message → Answer
effect_rule old t g = reception_rule (effect_reception t (meets old t g) (is_protected g.protection) (label_effect g))

-- what the code finds that the message meets serves as well
pub record Serves (old : List ℕ) (t : Table) (g : Message) (x : Meets) : Type 0 where
  pub reception : effect_reception t x (is_protected g.protection) (label_effect g) ≡ effect_reception t (meets old t g) (is_protected g.protection) (label_effect g)
  pub labels : effect_labels t x (is_protected g.protection) (label_effect g) ≡ message_labels old t g
  pub place : effect_takes t x (is_protected g.protection) (label_effect g) ≡ message_takes old t g

-- the words are those that the message leaves, and the place is the one at which its label takes a word
pub record Changed (old : List ℕ) (t : Table) (g : Message) (words : List ℕ) (taken : Option ℕ) : Type 0 where
  pub labels : words ≡ message_labels old t g
  pub place : taken ≡ message_takes old t g

-- the same after its ACK; where no label may change the words were not read
pub record Told (s : State) (g : Message) (words : List ℕ) (taken : Option ℕ) : Type 0 where
  pub labels : labels_stay s (ack_count (ack_on s g)) g ≡ false → words ≡ (received_state s g).table.words
  pub place : taken ≡ message_takes s.table.words (after_ack s g).table g

-- what the act is told of a message that was judged Done, and of the words lent to it
pub record Taken (im : List ℕ) (g : Message) (words : List ℕ) : Type 0 where
  pub sound : IsSound im
  pub within : ack_count (ack_on (state_of im) g) ≤ (decode im).header.held
  pub labels : labels_stay (state_of im) (ack_count (ack_on (state_of im) g)) g ≡ false → words ≡ (received_state (state_of im) g).table.words
  pub count : length words ≡ word_count

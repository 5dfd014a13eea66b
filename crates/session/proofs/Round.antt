-- A session whose numbers have just gone round, as P4 to P7 have it: "R=0xFFFFFFFE, I=1", both messages held. Assumes nothing.
use Rattle.std.specs.Prelude.{Some}
use Prim.Native.Nat.{ℕ, ◌≤◌, ◌<◌}
use mathlib.Core.Bool.{true≢false, false}
use mathlib.Core.List.{List, [], ◌∷◌, ◌++◌}
use mathlib.Core.Path.{◌≡◌, refl, ap, ◌∙◌}
use native.Mathlib.Omega.{arith}
use lib.ListN.{length}
use Rattle.octets.specs.Bytes.{Bytes}
use Rattle.octets.proofs.Fill.{zeros_at}
use Rattle.block.specs.Run.{Words}
use Rattle.ft_number.specs.Ack.{ack_of}
use Rattle.ft_number.specs.Circle.{steps_of}
use Rattle.label_list.specs.Find.{any}
use Rattle.label_list.specs.Word.{word_count}
use Rattle.block0.specs.Layout.{slot_count, no_labels}
use Rattle.fec_index.proofs.Counted.{none_right}
use Rattle.message.specs.declared.Message.{Message}
use Rattle.message.specs.Kinds.{kind_of}
use Rattle.message.specs.Reading.{reading_of}
use Rattle.message_writer.specs.ReadBack.{keepalive_message}
use Rattle.message_writer.proofs.Own.{keepalive_reads}
use Rattle.image.specs.Events.{new_image}
use Rattle.image.specs.State.{decode, stored_ids, stored_index}
use Rattle.image.specs.Verdict.{IsSound}
use Rattle.image.proofs.Changes.{new_sound, in_range_released, new_decodes, none_indexed}
use Rattle.image.proofs.Queue.{queue_length}
use Rattle.image.proofs.Requests.{no_ids}
use Rattle.protocol.specs.declared.Answer.{Answer}
use Rattle.protocol.specs.Calls.{receives}
use Rattle.protocol.specs.Init.{fresh}
use Rattle.protocol.specs.Judged.{judged}
use Rattle.protocol.specs.Labels.{label_effect, protection_rule}
use Rattle.protocol.specs.Lawful.{Lawful}
use Rattle.protocol.specs.Phases.{issued_count, phase_fits, up_with}
use Rattle.protocol.specs.Receive.{ack_on, ft_rule, labels_rule, message_rule, receive_rule}
use Rattle.protocol.specs.State.{State, capacity, with_issued, with_queue, with_released}
use Rattle.protocol.specs.Step.{Step}
use Rattle.protocol.proofs.KeepingQueue.{AllStorable, queued_storable}
use Rattle.protocol.proofs.KeepingStates.{lawful_fresh}
use Rattle.protocol.proofs.Settles.{step_answer}
use Rattle.protocol.proofs.Settling.{admitted_is}
use Rattle.calls.specs.State.{state_of}
use Rattle.calls.specs.Storing.{Slots, empty, one_more, stored, same}
use Rattle.call_meaning.specs.Standing.{Standing}
use Rattle.call_meaning.proofs.Putting.{Puts, QueueAfter, put-sound, put_state_lem, put_range}
use Rattle.call_meaning.proofs.Stands.{puts_stands}
use Rattle.session.specs.Call.{leaves}
use Rattle.session.proofs.Refines.{refines}
use Rattle.session.proofs.Sample.{address, address_storable, alive_with, alive-bytes, terms}

-- the session that a first Init leads to, with R = 0xFFFFFFFE, that I, and those messages held
abbrev pub round : ℕ → List (List ℕ) → State
round i q = with_queue (with_issued (with_released (fresh terms) (record { 0 = 0xFFFFFFFE })) (record { 0 = i })) q

-- so many of the messages held are issued
pub record Issued (i n : ℕ) (q : List (List ℕ)) : Type 0 where
  pub low : i < 4294967296
  pub reaches : steps_of 0xFFFFFFFE i ≡ Some n
  pub within : n ≤ length q

lawful_round : (i n : ℕ) (q : List (List ℕ)) → Issued i n q → length q ≤ capacity → AllStorable q → Lawful (round i q)
unfolding fresh
lawful_round i n q issued few each =
    let law = lawful_fresh terms (record { timeout = omega arith; keepalive = omega arith; maxpdu = omega arith }) in
    record {
      released = omega arith;
      issued = issued.low;
      secured = law.secured;
      terms = law.terms;
      few = few;
      window = record { steps = n; reaches = issued.reaches; within = issued.within };
      words = law.words;
      labels = law.labels;
      ids = law.ids;
      width = law.width;
      counted = law.counted;
      once = law.once;
      index = law.index;
      indexed = law.indexed;
      entries = law.entries;
      storable = each;
      idle = λ z. absurd (true≢false z);
    }

module _ (i n : ℕ) (q : List (List ℕ)) (issued : Issued i n q) (few : length q ≤ capacity) (each : AllStorable q) where
  -- stored over an image that leads there
  puts : (im : List ℕ) → Words word_count (decode im).ids → (slots : Slots) → QueueAfter im slots q → Puts im slots same (round i q)
  unfolding fresh any
  puts im widths slots after = record {
    lawful = lawful_round i n q issued few each;
    queue = after;
    fits = tt;
    widths = widths;
    ids = no_ids no_labels refl word_count refl (stored_ids im);
    index = none_indexed (stored_index im);
    right = λ j. rw (zeros_at word_count j) none_right;
    first = λ z. absurd (true≢false z);
  }

-- one message more
one_behind : (im : List ℕ) (i : ℕ) (q : List (List ℕ)) → state_of im ≡ round i q → length q < slot_count → QueueAfter im (one_more address) (q ++ (address ∷ []))
one_behind im i q e room =
    let is : (decode im).queue ≡ q = ap (λ (t : State). t.queue) e in
    (rw is, address_storable, omega (arith, queue_length im, ap length is))

none_each : AllStorable []
none_each i l = absurd (omega arith)

one_each : AllStorable (address ∷ [])
one_each = queued_storable [] address none_each address_storable

-- ---- none held, one, two; with two both are issued
new_widths : Words word_count (decode new_image).ids
new_widths = rw new_decodes in_range_released.ids

puts₀ : Puts new_image empty same (round 0xFFFFFFFE [])
unfolding steps_of
puts₀ = puts 0xFFFFFFFE 0 [] (record { low = omega arith; reaches = refl; within = omega arith }) (omega arith) none_each new_image new_widths empty refl

abbrev image₀ : List ℕ
image₀ = stored new_image empty same (round 0xFFFFFFFE [])

sound₀ : IsSound image₀
sound₀ = put-sound new_image new_sound empty same (round 0xFFFFFFFE []) puts₀

widths₀ : Words word_count (decode image₀).ids
widths₀ = (put_range new_image new_sound empty same (round 0xFFFFFFFE []) puts₀).ids

puts₁ : Puts image₀ (one_more address) same (round 0xFFFFFFFE (address ∷ []))
unfolding steps_of
puts₁ =
    puts 0xFFFFFFFE 0 (address ∷ []) (record { low = omega arith; reaches = refl; within = omega arith }) (omega arith) one_each image₀ widths₀ (one_more address)
    (one_behind image₀ 0xFFFFFFFE [] (put_state_lem new_image new_sound empty same (round 0xFFFFFFFE []) puts₀) (omega arith))

abbrev image₁ : List ℕ
image₁ = stored image₀ (one_more address) same (round 0xFFFFFFFE (address ∷ []))

sound₁ : IsSound image₁
sound₁ = put-sound image₀ sound₀ (one_more address) same (round 0xFFFFFFFE (address ∷ [])) puts₁

widths₁ : Words word_count (decode image₁).ids
widths₁ = (put_range image₀ sound₀ (one_more address) same (round 0xFFFFFFFE (address ∷ [])) puts₁).ids

puts₂ : Puts image₁ (one_more address) same (round 1 (address ∷ address ∷ []))
unfolding steps_of
puts₂ =
    puts 1 2 (address ∷ address ∷ []) (record { low = omega arith; reaches = refl; within = omega arith }) (omega arith)
    (queued_storable (address ∷ []) address one_each address_storable) image₁ widths₁ (one_more address)
    (one_behind image₁ 0xFFFFFFFE (address ∷ []) (put_state_lem image₀ sound₀ (one_more address) same (round 0xFFFFFFFE (address ∷ [])) puts₁) (omega arith))

unfoldable pub rounded : List ℕ
rounded = stored image₁ (one_more address) same (round 1 (address ∷ address ∷ []))

pub rounded_state : state_of rounded ≡ round 1 (address ∷ address ∷ [])
unfolding rounded
rounded_state = put_state_lem image₁ sound₁ (one_more address) same (round 1 (address ∷ address ∷ [])) puts₂

pub rounded_stands : Standing rounded (up_with false 2)
unfolding rounded phase_fits fresh issued_count steps_of
rounded_stands = puts_stands sound₁ puts₂ refl

-- ---- a KeepAlive that it takes, by how many its ACK releases
pub record Alive (k : ℕ) : Type 0 where
  pub message : List ℕ
  pub read : Message
  pub bytes : Bytes message
  pub whole : reading_of message ≡ Some read
  pub taken : ft_rule (round 1 (address ∷ address ∷ [])) false read ≡ Answer.Done
  pub count : ack_on (round 1 (address ∷ address ∷ [])) read ≡ Some k

-- P4: "ACK 1 releases 2"
pub alive_two : Alive 2
unfolding fresh ft_rule message_rule ack_on ack_of steps_of labels_rule protection_rule label_effect kind_of
alive_two = record {
  message = alive_with 0 0 0 1;
  read = keepalive_message (record { 0 = 1 }) (Some (record { 0 = 1 }));
  bytes = alive-bytes 0 0 0 1 (omega arith) (omega arith) (omega arith) (omega arith);
  whole = keepalive_reads (record { 0 = 1 }) (Some (record { 0 = 1 })) (omega arith) (omega arith);
  taken = refl;
  count = refl;
}

-- P7: "ACK 0xFFFFFFFE releases none"
pub alive_none : Alive 0
unfolding fresh ft_rule message_rule ack_on ack_of steps_of labels_rule protection_rule label_effect kind_of
alive_none = record {
  message = alive_with 255 255 255 254;
  read = keepalive_message (record { 0 = 1 }) (Some (record { 0 = 0xFFFFFFFE }));
  bytes = alive-bytes 255 255 255 254 (omega arith) (omega arith) (omega arith) (omega arith);
  whole = keepalive_reads (record { 0 = 1 }) (Some (record { 0 = 0xFFFFFFFE })) (omega arith) (omega arith);
  taken = refl;
  count = refl;
}

-- the call takes it
pub alive-taken : {k : ℕ} → (x : Alive k) → (leaves (receives x.message) rounded (up_with false 2) []).outcome.answer ≡ Answer.Done
unfolding judged
alive-taken x =
    ap (λ (y : Step). y.answer) (refines rounded (up_with false 2) rounded_stands [] (receives x.message) x.bytes)
    ∙ step_answer (receives x.message) (state_of rounded) (up_with false 2) 0
    ∙ admitted_is (state_of rounded) (up_with false 2) rounded_stands.fits (receive_rule (state_of rounded) (up_with false 2) (reading_of x.message))
    ∙ rw (x.whole, rounded_state) x.taken

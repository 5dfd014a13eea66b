-- A session just begun, with messages queued and sent one after the other: the images that the wrong keepers are tried on. Assumes nothing.
use Prim.Native.Nat.{ℕ, ◌+◌, ◌≤◌, ◌<◌}
use mathlib.Core.Bool.{Bool, true, false}
use mathlib.Core.List.{List, [], ◌∷◌}
use mathlib.Core.Path.{◌≡◌, refl, ap, ◌∙◌}
use native.Mathlib.Omega.{arith}
use lib.ListN.{length, length-append, take, length-take}
use borrow.Author.Tests.{le-leb, le-ltb, lt-leb}
use Rattle.octets.proofs.Fill.{zeros_at}
use Rattle.ft_number.specs.Circle.{steps_of}
use Rattle.label_list.specs.Find.{any}
use Rattle.label_list.specs.Word.{word_count}
use Rattle.block0.specs.Layout.{no_labels}
use Rattle.fec_index.proofs.Counted.{none_right}
use Rattle.message.specs.Storable.{Storable}
use Rattle.message_writer.specs.Forms.{ft_tlvs}
use Rattle.message_writer.proofs.Puts.{length-raised}
use Rattle.image.specs.Events.{new_image}
use Rattle.image.specs.State.{stored_ids, stored_index}
use Rattle.image.proofs.Changes.{new_sound, in_range_released, new_decodes, none_indexed}
use Rattle.image.proofs.Requests.{no_ids}
use Rattle.protocol.specs.declared.Phase.{Phase}
use Rattle.protocol.specs.Calls.{submits, sends, step}
use Rattle.protocol.specs.Init.{fresh}
use Rattle.protocol.specs.Judged.{judged, done}
use Rattle.protocol.specs.Phases.{issued_count, phase_fits, up_with}
use Rattle.protocol.specs.Send.{ack_asked, queue_message, queue_number, numbered, place_sent, send_bytes, send_rule, sent_state}
use Rattle.protocol.specs.State.{State, capacity, held}
use Rattle.protocol.specs.Step.{Step}
use Rattle.protocol.specs.Submit.{submit_rule, submitted}
use Rattle.protocol.proofs.KeepingNumbers.{numbered_issued}
use Rattle.protocol.proofs.KeepingStates.{lawful_fresh}
use Rattle.protocol.proofs.PassedOver.{none_passed}
use Rattle.protocol.proofs.Settles.{step-does}
use Rattle.protocol.proofs.Settling.{admitted_is}
use Rattle.calls.specs.State.{state_of}
use Rattle.calls.specs.Storing.{same, empty, stored}
use Rattle.call_meaning.specs.Seen.{seen}
use Rattle.call_meaning.specs.Standing.{Standing}
use Rattle.call_meaning.proofs.Putting.{Puts, lawful_image, put_state_lem}
use Rattle.call_meaning.proofs.Stands.{puts_stands}
use Rattle.session.specs.Call.{leaves}
use Rattle.session.proofs.Refines.{refines, stands}
use Rattle.session.proofs.Sample.{address, address-bytes, address-taken, terms}

-- ---- the session that a first Init leads to
unfoldable pub begun : List ℕ
begun = stored new_image empty same (fresh terms)

begun_puts : Puts new_image empty same (fresh terms)
unfolding fresh any
begun_puts = record {
  lawful = lawful_fresh terms (record { timeout = omega arith; keepalive = omega arith; maxpdu = omega arith });
  queue = refl;
  fits = tt;
  widths = rw new_decodes in_range_released.ids;
  ids = no_ids no_labels refl word_count refl (stored_ids new_image);
  index = none_indexed (stored_index new_image);
  right = λ i. rw (zeros_at word_count i) none_right;
  first = λ f. refl;
}

pub begun_state : state_of begun ≡ fresh terms
unfolding begun
begun_state = put_state_lem new_image new_sound empty same (fresh terms) begun_puts

pub begun_stands : (r : Bool) → Standing begun (up_with r 0)
unfolding begun phase_fits fresh
begun_stands r = puts_stands new_sound begun_puts (le-leb 0 (issued_count (fresh terms)) (omega arith))

-- ---- a session in UpFT with so many messages held, and so many sent, which are those that have a number
pub record Holding (r : Bool) (sent n : ℕ) : Type 0 where
  pub image : List ℕ
  pub stand : Standing image (up_with r sent)
  pub kept : (state_of image).kept ≡ true
  pub count : held (state_of image) ≡ n
  pub numbers : issued_count (state_of image) ≡ sent

first : (r : Bool) → Holding r 0 0
unfolding fresh issued_count steps_of
first r = record {
  image = begun;
  stand = begun_stands r;
  kept = ap (λ (t : State). t.kept) begun_state;
  count = ap (λ (t : State). held t) begun_state;
  numbers = ap issued_count begun_state;
}

-- what the protocol's step leaves is what the call leaves
module _ {r : Bool} {sent n : ℕ} (h : Holding r sent n) where
  abbrev s : State
  s = state_of h.image

  abbrev up : Phase
  up = up_with r sent

  -- one message more
  queued : n < capacity → step (submits address) s up 0 ≡ done (submits address) s up
  unfolding judged
  queued room =
      step-does (submits address) s up 0
      (admitted_is s up h.stand.fits (submit_rule s up address) ∙ address-taken s up h.kept (rw h.count room))

  pub queue_one : n < capacity → Holding r sent (n + 1)
  unfolding done submitted issued_count
  queue_one room =
      let e = refines h.image up h.stand [] (submits address) address-bytes ∙ queued room in
      let left : state_of (leaves (submits address) h.image up []).image ≡ submitted s address = ap (λ (x : Step). x.state) e in
      record {
        image = (leaves (submits address) h.image up []).image;
        stand = rw (ap (λ (x : Step). x.phase) e) at (stands h.image up h.stand [] (submits address) address-bytes);
        kept = ap (λ (t : State). t.kept) left ∙ h.kept;
        count = ap (λ (t : State). held t) left ∙ length-append s.queue (address ∷ []) ∙ ap (λ (k : ℕ). k + 1) h.count;
        numbers = ap issued_count left ∙ h.numbers;
      }

  -- a send, with just the room that it needs; nothing is left out, since nothing that has a number is unsent
  module _ (some : sent < n) where
    abbrev room : List ℕ
    room = send_bytes s (place_sent s up) false

    next_place_lem : place_sent s up ≡ sent
    unfolding place_sent
    next_place_lem = omega (arith, none_passed s sent (omega (arith, h.numbers)))

    sent_one : step (sends false) s up (length room) ≡ done (sends false) s up
    unfolding judged send_rule
    sent_one =
        step-does (sends false) s up (length room)
        (admitted_is s up h.stand.fits _ ∙ rw (lt-leb (held s) sent (rw h.count some), le-ltb (length room) (length room) (omega arith)))

    seen_one : seen (leaves (sends false) h.image up room) ≡ done (sends false) s up
    seen_one = refines h.image up h.stand room (sends false) tt ∙ sent_one

    -- it is the first without a number, and gets one
    left_one : state_of (leaves (sends false) h.image up room).image ≡ numbered s sent
    unfolding done sent_state
    left_one = ap (λ (x : Step). x.state) seen_one ∙ rw (next_place_lem, le-ltb sent (issued_count s) (omega (arith, h.numbers)))

    phase_one : (leaves (sends false) h.image up room).outcome.phase ≡ up_with r (sent + 1)
    unfolding done
    phase_one = ap (λ (x : Step). x.phase) seen_one ∙ ap (λ (place : ℕ). up_with r (place + 1)) next_place_lem

    pub send_one : Holding r (sent + 1) n
    unfolding numbered
    send_one =
        let law = lawful_image h.image h.stand.sound h.stand.range in
        record {
          image = (leaves (sends false) h.image up room).image;
          stand = rw phase_one at (stands h.image up h.stand room (sends false) tt);
          kept = ap (λ (t : State). t.kept) left_one ∙ h.kept;
          count = ap (λ (t : State). held t) left_one ∙ h.count;
          numbers = ap issued_count left_one ∙ numbered_issued s law.released sent (omega (arith, some, h.count, law.few));
        }

    -- it writes the message and FT Protection
    pub writes_some : 1 ≤ (leaves (sends false) h.image up room).outcome.written
    unfolding done send_bytes
    writes_some =
        let law = lawful_image h.image h.stand.sound h.stand.range in
        let place : ℕ = place_sent s up in
        let one : Storable (queue_message s place) = law.storable place (rw (next_place_lem, h.count) some) in
        let w : length (take (leaves (sends false) h.image up room).outcome.written (leaves (sends false) h.image up room).out) ≡ length room =
        ap (λ (x : Step). length x.output) seen_one in
        let l : length room ≡ length (queue_message s place) + length (ft_tlvs (queue_number s place) (ack_asked false s)) =
        length-raised (queue_message s place) one.low (ft_tlvs (queue_number s place) (ack_asked false s)) in
        omega (arith, w, l, one.low, length-take (leaves (sends false) h.image up room).outcome.written (leaves (sends false) h.image up room).out)

-- ---- the second send of a connection
pub record Sending (r : Bool) : Type 0 where
  pub image : List ℕ
  pub lent : List ℕ
  pub writes : 1 ≤ (leaves (sends false) image (up_with r 1) lent).outcome.written

-- the second send of a connection writes the second message
pub second_send : (r : Bool) → Sending r
second_send r =
    let two : Holding r 0 2 = queue_one (queue_one (first r) (omega arith)) (omega arith) in
    let one-sent : Holding r 1 2 = send_one two (omega arith) in
    record { image = one-sent.image; lent = room one-sent (omega arith); writes = writes_some one-sent (omega arith) }

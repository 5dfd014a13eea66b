-- The numbers: how far they reach after an ACK and after a message was numbered, and that no message's number changes. Assumes nothing.
use Rattle.std.specs.Prelude.{Some}
use Prim.Native.Nat.{ℕ, ◌+◌, ◌-◌, ◌≤◌, ◌<◌}
use mathlib.Core.Bool.{Bool, true, false}
use mathlib.Core.Path.{◌≡◌, refl, sym, ap, ◌∙◌}
use native.Mathlib.Numerals.{add-one}
use native.Mathlib.Omega.{arith}
use lib.Dec.{ltb}
use lib.ListN.{length-drop}
use borrow.Author.Tests.{le-ltb}
use Rattle.octets.specs.Pick.{pick}
use Rattle.ft_number.specs.Ack.{ack_of}
use Rattle.ft_number.specs.Circle.{next, after, steps_of}
use Rattle.ft_number.proofs.Circle.{after_none, after-suc, after-add, after_small, steps-after, steps_reach, steps-rest, Acknowledged, ack_releases}
use Rattle.protocol.specs.Acked.{acked}
use Rattle.protocol.specs.Lawful.{Window, Lawful}
use Rattle.protocol.specs.Phases.{issued_count}
use Rattle.protocol.specs.Send.{queue_number, numbered, sent_state}
use Rattle.protocol.specs.State.{State, held, capacity}

-- ---- what is issued
module _ (s : State) (w : Window s) where
  -- the count of issued messages is that of the window
  pub window_count : issued_count s ≡ w.steps
  unfolding issued_count
  window_count = rw w.reaches

  pub issued_held : issued_count s ≤ held s
  issued_held = omega (arith, window_count, w.within)

-- ---- an ACK that releases
module _ (s : State) (w : Window s) (a k : ℕ) (e : ack_of s.released.0 s.issued.0 a ≡ Some k) where
  acks : Acknowledged s.released.0 s.issued.0 a k
  acks = ack_releases s.released.0 s.issued.0 a k e

  same : acks.issued ≡ w.steps
  same = let p : Some acks.issued ≡ Some w.steps = sym acks.window ∙ w.reaches in cc

  -- it names no more than are held
  pub ack_held : k ≤ held s
  ack_held = omega (arith, acks.few, same, w.within)

  module _ (lr : s.released.0 < 4294967296) (li : s.issued.0 < 4294967296) (la : a < 4294967296) (few : held s ≤ capacity) where
    rest : steps_of a s.issued.0 ≡ Some (w.steps - k)
    rest =
        steps-rest s.released.0 s.issued.0 a k w.steps (omega arith) (omega arith) (omega arith) (omega (arith, w.within)) acks.names w.reaches
        (omega (arith, acks.few, same))

    -- and then R to I stays within held
    pub ack_window : Window (acked s k a)
    unfolding acked
    ack_window = record { steps = w.steps - k; reaches = rest; within = rw (length-drop k s.queue) (omega (arith, w.within)) }

    -- as many fewer have a number
    pub ack_issued : issued_count (acked s k a) ≡ issued_count s - k
    unfolding issued_count acked
    ack_issued = rw (rest, w.reaches)

-- to acknowledge R again releases nothing
pub ack_again : (s : State) → s.released.0 < 4294967296 → Window s → ack_of s.released.0 s.issued.0 s.released.0 ≡ Some 0
unfolding ack_of
ack_again s lr w =
    let none : steps_of s.released.0 s.released.0 ≡ Some 0 = rw (after_none s.released.0) at (steps-after s.released.0 0 (omega arith) (omega arith)) in
    rw (none, w.reaches, le-ltb w.steps 0 (omega arith))

-- ---- a message that is numbered
pub number_fits : (s : State) (sent : ℕ) → (queue_number s sent).0 < 4294967296
unfolding queue_number
number_fits s sent = omega (arith, after_small sent s.released.0)

-- the first message that has no number gets the number after I
pub number-next : (s : State) → Lawful s → (sent : ℕ) → sent ≡ issued_count s → (queue_number s sent).0 ≡ next s.issued.0
unfolding queue_number
number-next s law sent e =
    let reached : after (issued_count s) s.released.0 ≡ s.issued.0 =
    rw (window_count s law.window)
    (steps_reach s.released.0 s.issued.0 law.window.steps (omega (arith, law.released)) (omega (arith, law.issued)) law.window.reaches) in
    rw (add-one sent, after-suc sent, e, reached)

-- then it is the last that has one
module _ (s : State) (lr : s.released.0 < 4294967296) (sent : ℕ) (few : sent < capacity) where
  steps-numbered : steps_of s.released.0 (queue_number s sent).0 ≡ Some (sent + 1)
  unfolding queue_number
  steps-numbered = steps-after s.released.0 (sent + 1) (omega arith) (omega arith)

  pub numbered_issued : issued_count (numbered s sent) ≡ sent + 1
  unfolding issued_count numbered
  numbered_issued = rw steps-numbered

  pub numbered_window : sent < held s → Window (numbered s sent)
  unfolding numbered
  numbered_window l = record { steps = sent + 1; reaches = steps-numbered; within = omega arith }

-- ---- no message's number changes
-- as older ones are released
pub number_kept : (s : State) (k place : ℕ) → queue_number (acked s k (after k s.released.0)) place ≡ queue_number s (k + place)
unfolding queue_number acked
number_kept s k place =
    let e : place + 1 + k ≡ k + place + 1 = omega arith in
    let f : after (place + 1) (after k s.released.0) ≡ after (k + place + 1) s.released.0 =
    sym (after-add (place + 1) k s.released.0) ∙ ap (λ (x : ℕ). after x s.released.0) e in
    λ i. record { 0 = f i }

-- as one is sent
pub number_stays : (s : State) (sent place : ℕ) → queue_number (sent_state s sent) place ≡ queue_number s place
unfolding queue_number sent_state numbered
number_stays s sent place = by (ltb sent (issued_count s))
  where
    by : (b : Bool) → queue_number (pick b s (numbered s sent)) place ≡ queue_number s place
    by true = refl
    by false = refl

-- Over every run: a message left out is never sent afterwards, numbers never change, and both ends agree on whether a connection is resumed. Assumes nothing.
use Prim.Native.Nat.{ℕ, ◌+◌, ◌-◌, ◌<◌}
use mathlib.Core.Bool.{Bool, true, false, true≢false}
use mathlib.Core.List.{List, []}
use mathlib.Core.Path.{◌≡◌, sym, ap, ◌∙◌}
use native.Mathlib.Omega.{arith}
use lib.ListN.{length, drop, get_or}
use lib.Seq.{drop-drop, get_or-drop}
use Rattle.octets.proofs.Choice.{by_test}
use Rattle.ft_number.specs.Circle.{after}
use Rattle.protocol.specs.LeftOut.{left_out_from, next_place}
use Rattle.protocol.specs.MeaningSend.{LeftOutAt}
use Rattle.protocol.specs.Phases.{issued_count, resumed_of, sent_of}
use Rattle.protocol.specs.Send.{place_sent, queue_message, queue_number}
use Rattle.protocol.specs.State.{State, held}
use Rattle.protocol.proofs.MeaningLeftOut.{left_out_at, passes_over}
use Rattle.protocol.proofs.PassedOver.{next-held, none_passed}
use Rattle.two_ends.specs.LeftOut.{is_left}
use Rattle.two_ends.specs.Omitted.{Omits, SameConnection, Up}
use Rattle.two_ends.specs.Runs.{AllProperEvents, Event, run}
use Rattle.two_ends.specs.Start.{Afresh, Fit, Opener, start}
use Rattle.two_ends.specs.World.{End, History, Lasts}
use Rattle.two_ends.proofs.Begun.{at-start}
use Rattle.two_ends.proofs.Books.{gone-length, numbered, window}
use Rattle.two_ends.proofs.Half.{Half, Rcv}
use Rattle.two_ends.proofs.Invariant.{Dir, Side, later, live, side_of, snd_of}
use Rattle.two_ends.proofs.Packets.{Packet}
use Rattle.two_ends.proofs.Theorem.{at-run}

-- ---- one end that has begun, by its parts
module _ (s : State) (h : History) (sent : ℕ) {up jo re : Bool} {y : Rcv (List ℕ)} {dat : List (ℕ × List ℕ)} {acks : List ℕ} (p : Half (snd_of s h) sent up jo re y dat acks) where
  gone : length h.letgo ≡ p.r
  gone = gone-length p.books

  issued_is : issued_count s ≡ p.i - p.r
  unfolding issued_count
  issued_is = window p.books

  place_is : (place : ℕ) → drop place s.queue ≡ drop (length h.letgo + place) h.accepted
  place_is place = rw gone (ap (λ (l : List (List ℕ)). drop place l) p.books.que ∙ drop-drop place p.r h.accepted)

  left_stays : (place : ℕ) → place < held s → is_left h.left (length h.letgo + place) ≡ true → LeftOutAt s place
  left_stays place l e =
      let m = p.marks (length h.letgo + place) e in
      left_out_at s place l (omega (arith, m.0, gone, issued_is)) (rw (place_is place) m.1)

  left_unsent : sent < held s → is_left h.left (length h.letgo + next_place s sent) ≡ false
  left_unsent l =
      by_test (is_left h.left (length h.letgo + next_place s sent))
      (λ t. absurd ((passes_over s sent l).stops (left_stays (next_place s sent) (next-held s sent l) t)))
      (λ f. f)

  number_is : (place : ℕ) → (queue_number s place).0 ≡ after (length h.letgo + place + 1) 0
  unfolding queue_number
  number_is place =
      let e : p.r + (place + 1) ≡ length h.letgo + place + 1 = omega (arith, gone) in
      numbered p.books place ∙ ap (λ (k : ℕ). after k 0) e

  message_is : (place : ℕ) → queue_message s place ≡ get_or h.accepted (length h.letgo + place) []
  message_is place = rw gone (ap (λ (l : List (List ℕ)). get_or l place []) p.books.que ∙ get_or-drop p.r h.accepted place [])

omits : (x : End) {y : Side} {to fro : List Packet} → x.begun ≡ true → Dir (side_of x) y to fro → Omits x
unfolding place_sent
omits x g d =
    let p = rw g at d.half in
    record {
      stays = left_stays x.state x.history (sent_of x.phase) p;
      unsent = left_unsent x.state x.history (sent_of x.phase) p;
      numbers = number_is x.state x.history (sent_of x.phase) p;
      messages = λ place l. message_is x.state x.history (sent_of x.phase) p place;
    }

-- ---- two ends on one connection
live_is : (x : End) → Up x → live (side_of x) ≡ true
live_is x u = rw (u.on, u.up)

later_is : (x : End) → Up x → later (side_of x) ≡ resumed_of x.phase
later_is x u = rw (live_is x u)

first_none : (s : State) (h : History) (sent : ℕ) (re : Bool) {y : Rcv (List ℕ)} {dat : List (ℕ × List ℕ)} {acks : List ℕ} → Half (snd_of s h) sent true true re y dat acks → re ≡ false
    → (h.left ≡ []) × (left_out_from s sent ≡ 0)
first_none s h sent true p e = absurd (true≢false e)
first_none s h sent false p e = (p.line.first.1, none_passed s sent (omega (arith, p.line.first.0, issued_is s h sent p)))

same : (x y : End) {to fro : List Packet} → x.begun ≡ true → Up x → Up y → later (side_of x) ≡ later (side_of y) → Dir (side_of x) (side_of y) to fro → SameConnection x y
same x y g ux uy e d = record {
  agree = sym (later_is x ux) ∙ e ∙ later_is y uy;
  none = λ q. first_none x.state x.history (sent_of x.phase) (resumed_of x.phase) (rw (g, ux.on, ux.up) at d.half) q;
}

-- ---- THE THEOREMS
module _ (x y : Opener) (fx : Fit x) (fy : Fit y) (f : Afresh x y) (vs : List (Bool × Event)) (p : AllProperEvents vs) (k : Lasts (run (start x y) vs)) where
  abbrev a : End
  a = (run (start x y) vs).a

  abbrev b : End
  b = (run (start x y) vs).b

  pub omitted : (a.begun ≡ true → Omits a) × (b.begun ≡ true → Omits b)
  omitted =
      let i = (at-run (start x y) vs p (at-start x y fx fy f) k).2 in
      (λ g. omits a g i.out, λ g. omits b g i.back)

  pub connected_alike : Up a → Up b → a.begun ≡ true → b.begun ≡ true → SameConnection a b × SameConnection b a
  connected_alike ua ub ga gb =
      let i = (at-run (start x y) vs p (at-start x y fx fy f) k).2 in
      (same a b ga ua ub i.agree i.out, same b a gb ub ua (sym i.agree) i.back)

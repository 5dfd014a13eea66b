-- What Send next leaves: the state, the bytes, the numbers. Assumes nothing.
use Rattle.std.specs.Prelude.{Some, None}
use Prim.Native.Nat.{ℕ, ◌≤◌, ◌<◌, ◌-◌}
use mathlib.Core.Bool.{Bool, true, false}
use mathlib.Core.List.{List}
use mathlib.Core.Path.{◌≡◌, refl, ap}
use native.Mathlib.Omega.{arith}
use lib.Dec.{ltb}
use lib.ListN.{length, drop}
use borrow.Author.Tests.{lt-ltb, le-ltb, lt-leb}
use Rattle.octets.specs.Pick.{pick}
use Rattle.octets.proofs.Choice.{pick_all}
use Rattle.message_writer.specs.Forms.{protected_bytes}
use Rattle.protocol.specs.declared.Answer.{Answer}
use Rattle.protocol.specs.declared.Phase.{Phase}
use Rattle.protocol.specs.declared.Progress.{Progress}
use Rattle.protocol.specs.Lawful.{Lawful}
use Rattle.protocol.specs.MeaningSend.{SentFrom, NumberedFrom}
use Rattle.protocol.specs.Phases.{phase_fits, issued_count}
use Rattle.protocol.specs.Send.{queue_message, queue_number, ack_asked, send_bytes, send_rule, numbered, sent_state, send_next, place_sent, send_deed}
use Rattle.protocol.specs.State.{State, held}
use Rattle.protocol.specs.Step.{room_for}
use Rattle.protocol.proofs.KeepingNumbers.{number-next, number_stays}
use Rattle.protocol.proofs.KeepingPhases.{up_fits}
use Rattle.protocol.proofs.MeaningLeftOut.{passes_over}
use Rattle.protocol.proofs.PassedOver.{passed-within}
use Rattle.protocol.proofs.Settling.{admitted-does}

asked : (ask : Bool) (s : State) → ack_asked ask s ≡ pick ask (Some s.secured) None
unfolding ack_asked
asked true s = refl
asked false s = refl

module _ (s : State) (u : Progress) (fits : phase_fits (Phase.UpFT u) s ≡ true) where
  abbrev place : ℕ
  place = place_sent s (Phase.UpFT u)

  -- a message unsent and enough room: it is sent
  pub send-leaves : (ask : Bool) (room : ℕ) → u.sent < held s → length (send_bytes s place ask) ≤ room → SentFrom s u place ask (send_next s (Phase.UpFT u) ask room)
  unfolding send_next send_rule send_bytes place_sent
  send-leaves ask room l enough =
      let bytes : List ℕ = send_bytes s place ask in
      let own : Answer = send_rule s (Phase.UpFT u) (room_for bytes room) in
      let d : own ≡ Answer.Done = rw (lt-leb (held s) u.sent l, le-ltb room (length bytes) enough) in
      rw (admitted-does s (Phase.UpFT u) fits own d (send_deed s (Phase.UpFT u) ask))
      (record {
        answer = refl;
        phase = refl;
        state = refl;
        output = ap (protected_bytes (queue_message s place) (queue_number s place)) (asked ask s);
        passes = passes_over s u.sent l;
        leftout = refl;
      })

  -- one without a number is the first without
  place_first : issued_count s ≤ place → place ≡ issued_count s
  unfolding place_sent
  place_first l = omega (arith, (up_fits s u fits).1, passed-within (issued_count s - u.sent) (drop u.sent s.queue))

  -- "it numbers it if it has no number"
  pub send-numbers : Lawful s → NumberedFrom s place
  unfolding sent_state numbered
  send-numbers law =
      let b : Bool = ltb place (issued_count s) in
      record {
        again = λ l. rw (lt-ltb place (issued_count s) l);
        first = λ l. number-next s law place (omega (arith, place_first l));
        moves = λ l. rw (le-ltb place (issued_count s) l);
        others = λ other. number_stays s place other;
        released = pick_all (λ (x : State). x.released ≡ s.released) b {x = s} {y = numbered s place} refl refl;
        secured = pick_all (λ (x : State). x.secured ≡ s.secured) b {x = s} {y = numbered s place} refl refl;
        kept = pick_all (λ (x : State). x.kept ≡ s.kept) b {x = s} {y = numbered s place} refl refl;
        terms = pick_all (λ (x : State). x.terms ≡ s.terms) b {x = s} {y = numbered s place} refl refl;
        marks = pick_all (λ (x : State). x.marks ≡ s.marks) b {x = s} {y = numbered s place} refl refl;
        table = pick_all (λ (x : State). x.table ≡ s.table) b {x = s} {y = numbered s place} refl refl;
        queue = pick_all (λ (x : State). x.queue ≡ s.queue) b {x = s} {y = numbered s place} refl refl;
      }

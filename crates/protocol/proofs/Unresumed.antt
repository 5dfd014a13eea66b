-- On a connection that is not resumed nothing is ever left out: all that has a number was sent on it, and no call changes that. Assumes nothing.
use Rattle.std.specs.Prelude.{Result, Ok, Err, Option, Some, None}
use Prim.Native.Nat.{ℕ, ◌+◌, ◌-◌, ◌≤◌}
use mathlib.Core.Bool.{Bool, true, false, true≢false, false≢true}
use mathlib.Core.List.{List}
use mathlib.Core.Path.{◌≡◌, refl, sym, ap, ◌∙◌}
use native.Mathlib.Omega.{arith}
use borrow.Author.Tests.{le-ltb}
use Rattle.octets.specs.Bytes.{Bytes}
use Rattle.octets.specs.Pick.{pick}
use Rattle.octets.proofs.Choice.{pick_all}
use Rattle.ft_number.specs.Circle.{steps_of}
use Rattle.message.specs.declared.Message.{Message}
use Rattle.message.specs.Reading.{reading_of}
use Rattle.message.proofs.Widths.{Widths, read_widths}
use Rattle.protocol.specs.declared.Answer.{Answer}
use Rattle.protocol.specs.declared.Phase.{Phase}
use Rattle.protocol.specs.declared.Start.{Start}
use Rattle.protocol.specs.Calls.{Call, formats, restores, fails, opens, greets, passes, submits, sends, keeps-alive, receives, step}
use Rattle.protocol.specs.Init.{fresh, start_phase, start_state, init_start}
use Rattle.protocol.specs.Judged.{judged, done}
use Rattle.protocol.specs.Lawful.{Lawful}
use Rattle.protocol.specs.LeftOut.{left_out_from}
use Rattle.protocol.specs.MeaningSend.{AllSent}
use Rattle.protocol.specs.Phases.{phase_fits, is_up_ft, issued_count, resumed_of, resting_phase, sent_of, up_with}
use Rattle.protocol.specs.Proper.{Proper}
use Rattle.protocol.specs.Receive.{ack_count, ack_on, receive_rule, taken_as}
use Rattle.protocol.specs.Send.{place_sent, send_room, send_rule, sent_state}
use Rattle.protocol.specs.State.{State}
use Rattle.protocol.specs.Step.{Step}
use Rattle.protocol.specs.Submit.{submitted}
use Rattle.protocol.specs.TimePassed.{expired}
use Rattle.protocol.proofs.Cases.{cases, done-takes}
use Rattle.protocol.proofs.KeepingCalls.{own_done}
use Rattle.protocol.proofs.KeepingNumbers.{numbered_issued}
use Rattle.protocol.proofs.KeepingPhases.{LawfulIn}
use Rattle.protocol.proofs.KeepingReceive.{received_issued}
use Rattle.protocol.proofs.PassedOver.{none_passed}
use Rattle.protocol.proofs.Sends.{Sendable, sendable}
use Rattle.protocol.proofs.Settles.{ends}

-- nothing is left out then
pub none_left_out : (s : State) (ph : Phase) → AllSent s ph → is_up_ft ph ≡ true → resumed_of ph ≡ false → left_out_from s (sent_of ph) ≡ 0
none_left_out s ph all up un = none_passed s (sent_of ph) (omega (arith, all up un))

abbrev Sent : Step → Type 0
Sent x = AllSent x.state x.phase

resting_sent : (s t : State) → AllSent t (resting_phase s)
resting_sent s t = by s.kept
  where
    by : (k : Bool) → AllSent t (pick k Phase.Failed Phase.Idle)
    by true = λ up un. absurd (false≢true up)
    by false = λ up un. absurd (false≢true up)

-- ---- the peer's Init: a fresh session has no number yet
start-sent : (s : State) (ph : Phase) → AllSent s ph → (st : Result Start Answer) → AllSent (start_state s st) (start_phase ph st)
unfolding fresh issued_count steps_of
start-sent s ph all (Err a) = all
start-sent s ph all (Ok Start.Plain) = λ up un. absurd (false≢true up)
start-sent s ph all (Ok (Start.Fresh t)) = λ up un. refl
start-sent s ph all (Ok (Start.Resumed t k a)) = λ up un. absurd (true≢false un)

-- ---- a message sent is the first without a number, and gets one
send-sent : (s : State) (ph : Phase) → Lawful s → AllSent s ph → Sendable s ph → AllSent (sent_state s (place_sent s ph)) (up_with (resumed_of ph) (place_sent s ph + 1))
unfolding sent_state place_sent
send-sent s ph law all x = λ up un.
    let e : sent_of ph ≡ issued_count s = all x.up un in
    let none : left_out_from s (sent_of ph) ≡ 0 = none_left_out s ph all x.up un in
    let l : issued_count s ≤ place_sent s ph = omega (arith, e) in
    rw (le-ltb (place_sent s ph) (issued_count s) l) (sym (numbered_issued s law.released (place_sent s ph) (omega (arith, x.place, law.few))))

-- ---- a message received
take-sent : (s : State) (ph : Phase) (m : List ℕ) → LawfulIn s ph → Bytes m → AllSent s ph → receive_rule s ph (reading_of m) ≡ Answer.Done → Sent (taken_as s ph (reading_of m))
take-sent s Phase.Idle m st byte all d = all
take-sent s (Phase.InitWait v) m st byte all d = all
take-sent s (Phase.UpFT u) m st byte all d = by (reading_of m) (read_widths m byte) d
  where
    by : (rd : Option Message) → ((g : Message) → rd ≡ Some g → Widths g) → receive_rule s (Phase.UpFT u) rd ≡ Answer.Done → Sent (taken_as s (Phase.UpFT u) rd)
    by None w e = all
    by (Some g) w e = λ up un.
        let t = done-takes (rw e at (cases s (Phase.UpFT u) (Some g))) in
        ap (λ (n : ℕ). n - ack_count (ack_on s g)) (all refl un) ∙ sym (received_issued s st.0 u st.1 g (w g refl) (ack_count (ack_on s g)) t.turn.protection.ack.acks)
take-sent s Phase.UpPlain m st byte all d = all
take-sent s Phase.Failed m st byte all d = all

submitted_issued : (s : State) (m : List ℕ) → issued_count (submitted s m) ≡ issued_count s
unfolding issued_count submitted
submitted_issued s m = refl

done-sent : (c : Call) (s : State) (ph : Phase) (room : ℕ) → Proper c ph → LawfulIn s ph → AllSent s ph → judged c s ph room ≡ Answer.Done → Sent (done c s ph)
unfolding judged done
done-sent formats s ph room p st all d = λ up un. absurd (false≢true up)
done-sent restores s ph room p st all d = resting_sent s _
done-sent fails s ph room p st all d = resting_sent s _
done-sent (opens id own proposal) s ph room p st all d = λ up un. absurd (false≢true up)
done-sent (greets m) s ph room p st all d = start-sent s ph all (init_start s ph m)
done-sent (passes elapsed) s ph room p st all d = pick_all Sent (expired s elapsed) (λ up un. absurd (false≢true up)) all
done-sent (submits m) s ph room p st all d = λ up un. all up un ∙ sym (submitted_issued s m)
done-sent (sends ask) s ph room p st all d = send-sent s ph st.0 all (sendable s ph (send_room s ph ask room) (rw (own_done s ph (send_rule s ph (send_room s ph ask room)) d)))
done-sent (keeps-alive id) s ph room p st all d = all
done-sent (receives m) s ph room p st all d = take-sent s ph m st p all (own_done s ph (receive_rule s ph (reading_of m)) d)

-- ---- every call
pub all_sent : (c : Call) (s : State) (ph : Phase) (room : ℕ) → Proper c ph → Lawful s → phase_fits ph s ≡ true → AllSent s ph
    → AllSent (step c s ph room).state (step c s ph room).phase
all_sent c s ph room p law fits all =
    ends c s ph room Sent
    (λ e. all)
    (λ e. resting_sent s _)
    (λ e. λ up un. absurd (false≢true up))
    (λ e. done-sent c s ph room p (law, fits) all e)

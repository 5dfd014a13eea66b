-- A received message that is taken leaves a state that stands. Assumes nothing.
use Rattle.std.specs.Prelude.{Option, Some, None}
use Prim.Native.Nat.{ℕ, ◌-◌, ◌≤◌, ◌<◌}
use mathlib.Core.Bool.{true}
use mathlib.Core.List.{List}
use mathlib.Core.Path.{◌≡◌, refl, ◌∙◌}
use native.Mathlib.Omega.{arith}
use Rattle.octets.specs.Bytes.{Bytes}
use Rattle.ft_number.specs.declared.FtNumber.{FtNumber}
use Rattle.message.specs.declared.Message.{Message}
use Rattle.message.specs.Reading.{reading_of}
use Rattle.message.proofs.Widths.{Widths, read_widths}
use Rattle.protocol.specs.declared.Answer.{Answer}
use Rattle.protocol.specs.declared.Phase.{Phase}
use Rattle.protocol.specs.declared.Progress.{Progress}
use Rattle.protocol.specs.Acked.{ack_borne, acked}
use Rattle.protocol.specs.Lawful.{Lawful}
use Rattle.protocol.specs.Phases.{phase_fits, issued_count, up_with}
use Rattle.protocol.specs.Receive.{ack_on, ack_count, secured_by, taken, received_state, received_phase, receive_rule, taken_as}
use Rattle.protocol.specs.State.{State}
use Rattle.protocol.proofs.Cases.{cases, done-takes}
use Rattle.protocol.proofs.KeepingNumbers.{ack_issued}
use Rattle.protocol.proofs.KeepingPhases.{LawfulIn, fits_up, up_fits}
use Rattle.protocol.proofs.KeepingStates.{lawful_acked, lawful_taken}

number_width : (n : FtNumber) → n.0 < 4294967296 → (f : Option FtNumber) → ((a : FtNumber) → f ≡ Some a → a.0 < 4294967296) → (secured_by n f).0 < 4294967296
number_width n l None w = l
number_width n l (Some a) w = w a refl

borne_width : (s : State) → s.released.0 < 4294967296 → (f : Option FtNumber) → ((a : FtNumber) → f ≡ Some a → a.0 < 4294967296) → ack_borne s f < 4294967296
borne_width s l None w = l
borne_width s l (Some a) w = w a refl

taken_issued : (old : List ℕ) (s : State) (g : Message) → issued_count (taken old s g) ≡ issued_count s
unfolding issued_count taken
taken_issued old s g = refl

module _ (s : State) (law : Lawful s) (u : Progress) (fits : phase_fits (Phase.UpFT u) s ≡ true) (g : Message) (w : Widths g) where
  up : (s.kept ≡ true) × (u.sent ≤ issued_count s)
  up = up_fits s u fits

  borne : ack_borne s g.ack < 4294967296
  borne = borne_width s law.released g.ack w.ack

  -- as many fewer have a number
  pub received_issued : (k : ℕ) → ack_on s g ≡ Some k → issued_count (received_state s g) ≡ issued_count s - k
  unfolding received_state ack_on
  received_issued k e =
      let a : ℕ = ack_borne s g.ack in
      rw e (taken_issued s.table.words (acked s k a) g ∙ ack_issued s law.window a k e law.released law.issued borne law.few)

  -- and as many fewer count as sent
  received_stands : (k : ℕ) → ack_on s g ≡ Some k → LawfulIn (received_state s g) (received_phase s (Phase.UpFT u) g)
  unfolding received_state ack_on acked taken
  received_stands k e =
      let a : ℕ = ack_borne s g.ack in
      let n : Lawful (acked s k a) = lawful_acked s law a k borne e in
      let fewer : issued_count (received_state s g) ≡ issued_count s - k = received_issued k e in
      let fits : phase_fits (up_with u.resumed (u.sent - k)) (received_state s g) ≡ true =
      fits_up (received_state s g) u.resumed (u.sent - k) up.0 (omega (arith, up.1, fewer)) in
      rw e (lawful_taken (acked s k a) n up.0 s.table.words g (number_width s.secured law.secured g.protection w.protection) w.entry, rw e at fits)

-- whatever was read
pub taken_stands : (s : State) (ph : Phase) (m : List ℕ) → LawfulIn s ph → Bytes m → receive_rule s ph (reading_of m) ≡ Answer.Done → LawfulIn (taken_as s ph (reading_of m)).state (taken_as s ph (reading_of m)).phase
taken_stands s Phase.Idle m st byte d = st
taken_stands s (Phase.InitWait v) m st byte d = st
taken_stands s (Phase.UpFT u) m st byte d = by (reading_of m) (read_widths m byte) d
  where
    by : (rd : Option Message) → ((g : Message) → rd ≡ Some g → Widths g) → receive_rule s (Phase.UpFT u) rd ≡ Answer.Done → LawfulIn (taken_as s (Phase.UpFT u) rd).state (taken_as s (Phase.UpFT u) rd).phase
    by None w e = st
    by (Some g) w e =
        let t = done-takes (rw e at (cases s (Phase.UpFT u) (Some g))) in
        received_stands s st.0 u st.1 g (w g refl) (ack_count (ack_on s g)) t.turn.protection.ack.acks
taken_stands s Phase.UpPlain m st byte d = st
taken_stands s Phase.Failed m st byte d = st

-- What Open and KeepAlive leave and write. Assumes nothing.
use Rattle.std.specs.Prelude.{Option, Some, None}
use Prim.Native.Nat.{ℕ, ◌≤◌}
use mathlib.Core.Bool.{true, false}
use mathlib.Core.List.{List}
use mathlib.Core.Path.{◌≡◌, refl, ap, ◌∙◌}
use lib.ListN.{length}
use borrow.Author.Tests.{le-ltb}
use Rattle.ft_number.specs.declared.FtNumber.{FtNumber}
use Rattle.ft_number.specs.declared.MessageId.{MessageId}
use Rattle.ft_number.specs.declared.Proposal.{Proposal}
use Rattle.ft_number.specs.Timeout.{proposed_of}
use Rattle.message.specs.Reading.{reading_of}
use Rattle.message_writer.specs.declared.OwnParameters.{OwnParameters}
use Rattle.message_writer.specs.Forms.{init_bytes}
use Rattle.message_writer.proofs.Own.{init_reads, keepalive_reads}
use Rattle.protocol.specs.declared.Answer.{Answer}
use Rattle.protocol.specs.declared.Phase.{Phase}
use Rattle.protocol.specs.declared.Progress.{Progress}
use Rattle.protocol.specs.KeepAlive.{alive_bytes, keepalive}
use Rattle.protocol.specs.MeaningWriters.{OpenedFrom, AliveFrom}
use Rattle.protocol.specs.Open.{kept_ack, open_bytes, open_session, awaiting}
use Rattle.protocol.specs.Phases.{phase_fits, may_open}
use Rattle.protocol.specs.State.{State}
use Rattle.protocol.specs.Step.{stepped, room_for, where_open}
use Rattle.protocol.specs.Writer.{writer}
use Rattle.protocol.proofs.Settling.{admitted-does}

-- ---- our Init: with kept state R is set and the ACK is S, without R is clear and no ACK is borne
module _ (s : State) (ph : Phase) (id : MessageId) (own : OwnParameters) (proposal : Proposal) (room : ℕ) (fits : phase_fits ph s ≡ true) (may : may_open ph ≡ true)
    (enough : length (open_bytes s id own proposal) ≤ room) where
  opened : {ack : Option FtNumber} → kept_ack s ≡ ack → OpenedFrom s id own proposal ack (open_session s ph id own proposal room)
  unfolding open_session writer
  opened {ack} e =
      let bytes : List ℕ = open_bytes s id own proposal in
      let d : where_open (may_open ph) (room_for bytes room) ≡ Answer.Done = rw (may, le-ltb room (length bytes) enough) in
      rw (admitted-does s ph fits (where_open (may_open ph) (room_for bytes room)) d (stepped Answer.Done s (awaiting proposal) bytes))
      (record { answer = refl; state = refl; phase = refl; reads = λ f. ap (λ (k : Option FtNumber). reading_of (init_bytes id own (proposed_of proposal) k)) e ∙ init_reads id own (proposed_of proposal) ack f })

  -- our Init as the peer reads it: with kept state R, the ACK S and the timeout proposed, in the form that was named
  pub open_kept : s.kept ≡ true → OpenedFrom s id own proposal (Some s.secured) (open_session s ph id own proposal room)
  unfolding kept_ack
  open_kept k = opened (rw k)

  -- without it neither R nor an ACK
  pub open_fresh : s.kept ≡ false → OpenedFrom s id own proposal None (open_session s ph id own proposal room)
  unfolding kept_ack
  open_fresh k = opened (rw k)

-- ---- KeepAlive
module _ (s : State) (id : MessageId) (room : ℕ) where
  -- in UpFT 16 bytes with the ACK S
  pub alive-up : (u : Progress) → phase_fits (Phase.UpFT u) s ≡ true → 16 ≤ room → AliveFrom s (Phase.UpFT u) id (Some s.secured) 16 (keepalive s (Phase.UpFT u) id room)
  unfolding keepalive writer
  alive-up u fits enough =
      let ph : Phase = Phase.UpFT u in
      let d : room_for (alive_bytes s ph id) room ≡ Answer.Done = rw (le-ltb room 16 enough) in
      rw (admitted-does s ph fits (room_for (alive_bytes s ph id) room) d (stepped Answer.Done s ph (alive_bytes s ph id)))
      (record { answer = refl; state = refl; phase = refl; size = refl; reads = keepalive_reads id (Some s.secured) })

  -- in UpPlain 8 bytes without
  pub alive-plain : phase_fits Phase.UpPlain s ≡ true → 8 ≤ room → AliveFrom s Phase.UpPlain id None 8 (keepalive s Phase.UpPlain id room)
  unfolding keepalive writer
  alive-plain fits enough =
      let ph : Phase = Phase.UpPlain in
      let d : room_for (alive_bytes s ph id) room ≡ Answer.Done = rw (le-ltb room 8 enough) in
      rw (admitted-does s ph fits (room_for (alive_bytes s ph id) room) d (stepped Answer.Done s ph (alive_bytes s ph id)))
      (record { answer = refl; state = refl; phase = refl; size = refl; reads = keepalive_reads id None })

-- An end opens a new connection. Assumes nothing.
use Rattle.std.specs.Prelude.{Option, Some}
use Prim.Native.Nat.{ℕ, ◌<◌}
use mathlib.Core.Bool.{Bool, true, false, true≢false}
use mathlib.Core.List.{List, [], ◌∷◌, map}
use mathlib.Core.Logic.{◌⊎◌, inl, ⊎_elim}
use mathlib.Core.Path.{◌≡◌, refl, sym, ap, ◌∙◌}
use native.Mathlib.Omega.{arith}
use Rattle.octets.specs.Pick.{pick}
use Rattle.ft_number.specs.declared.Form.{Form}
use Rattle.ft_number.specs.declared.FtNumber.{FtNumber}
use Rattle.ft_number.specs.declared.MessageId.{MessageId}
use Rattle.ft_number.specs.declared.Proposal.{Proposal}
use Rattle.ft_number.specs.Timeout.{proposed_of, TimeoutFits}
use Rattle.message_writer.specs.declared.OwnParameters.{OwnParameters}
use Rattle.message_writer.specs.Forms.{init_bytes}
use Rattle.message_writer.specs.ReadBack.{InitFits}
use Rattle.protocol.specs.declared.Answer.{Answer}
use Rattle.protocol.specs.declared.Phase.{Phase}
use Rattle.protocol.specs.Answers.{is_done}
use Rattle.protocol.specs.Open.{open_bytes, open_session, kept_ack, awaiting}
use Rattle.protocol.specs.Phases.{may_open}
use Rattle.protocol.specs.State.{State}
use Rattle.protocol.specs.Step.{Step, stepped}
use Rattle.protocol.proofs.Quiet.{Quiet}
use Rattle.protocol.proofs.Writers.{Wrote, writer_says}
use Rattle.two_ends.specs.Calls.{called, put, on, opened, replaced, plainly}
use Rattle.two_ends.specs.Runs.{Widths, ProposalFits}
use Rattle.two_ends.specs.World.{History, End, World}
use Rattle.two_ends.proofs.Direction.{half_secured}
use Rattle.two_ends.proofs.Invariant.{Ready, Inv, Holds, Good}
use Rattle.two_ends.proofs.Packets.{Packet, again, bytes_of}
use Rattle.two_ends.proofs.Quiet.{quietly}
use Rattle.two_ends.proofs.Resting.{at_plain}
use Rattle.two_ends.proofs.Sides.{dir_open, dir_open_peer}
use Rattle.two_ends.proofs.Worlds.{ended, kept_one, at-replaced, Settled}

-- what is proposed has the width of its form
pub proposed_fits : (t : Proposal) → ProposalFits t → TimeoutFits (proposed_of t)
proposed_fits (Proposal.Given t) f = f
proposed_fits (Proposal.NotGiven Form.Draft) f = omega arith
proposed_fits (Proposal.NotGiven Form.Published) f = omega arith

module _ (now : State) (id : MessageId) (p : OwnParameters) (t : Proposal) (widths : Widths id p) (fits : ProposalFits t) where
  -- with kept state R is set, and the ACK is S
  kept_borne : now.kept ≡ true → kept_ack now ≡ Some now.secured
  unfolding kept_ack
  kept_borne k = rw k

  bytes_are : now.kept ≡ true → open_bytes now id p t ≡ bytes_of (again id p (proposed_of t) now.secured)
  bytes_are k = ap (λ (ack : Option FtNumber). init_bytes id p (proposed_of t) ack) (kept_borne k)

  init_fits : now.secured.0 < 4294967296 → InitFits id p (proposed_of t) (Some now.secured)
  init_fits small = record {
    id = omega (arith, widths.id);
    keepalive = omega (arith, widths.keepalive);
    pdulength = omega (arith, widths.pdulength);
    timeout = proposed_fits t fits;
    ack = omega (arith, small);
  }

module _ (now : State) (h : History) (id : MessageId) (p : OwnParameters) (t : Proposal) (widths : Widths id p) (fits : ProposalFits t) {b : End} {ab ba : List (List ℕ)} where
  -- an end in Failed is on no connection, and its line is empty
  opens_from : (pa pb : List Packet) → pa ≡ [] → Inv (ended now Phase.Failed false true h) b ab ba pa pb
      → Settled (ended now (awaiting t) true true h) b (put true ab (stepped Answer.Done now (awaiting t) (open_bytes now id p t))) ba
  opens_from pa pb none i =
      let own : Ready (ended now (awaiting t) true true h) = record {
        few = i.own.few;
        possible = refl;
        keeping = i.own.keeping;
        okays = i.own.okays;
        waiting = λ q. absurd (true≢false q);
        linked = λ q. refl;
      } in
      let packet : Packet = again id p (proposed_of t) now.secured in
      let empty : ab ≡ [] = i.line_a ∙ ap (map bytes_of) none in
      let small : now.secured.0 < 4294967296 = omega (arith, half_secured i.back.half) in
      inl (
        refl,
        (
          packet ∷ [],
          pb,
          record {
            line_a = rw (empty, bytes_are now id p t widths fits (kept_one i.own));
            line_b = i.line_b;
            own = own;
            peer = i.peer;
            out = dir_open now now.kept (proposed_of t) h id p (init_fits now id p t widths fits small) (rw none at i.out);
            back = dir_open_peer now now.kept (proposed_of t) h id p (rw none at i.back);
            agree = i.agree;
          },
        ),
      )

  opening : (ph : Phase) (jo bg : Bool) → may_open ph ≡ true → Holds (ended now ph jo bg h) b ab ba
      → Settled (ended now (awaiting t) true bg h) b (put true ab (stepped Answer.Done now (awaiting t) (open_bytes now id p t))) ba
  opening Phase.Idle jo bg u s = absurd (true≢false (sym s.2.own.possible))
  opening (Phase.InitWait v) jo bg u s = absurd (true≢false (sym u))
  opening (Phase.UpFT on) jo bg u s = absurd (true≢false (sym u))
  opening Phase.UpPlain jo bg u s = absurd (true≢false (sym u))
  opening Phase.Failed true bg u s = absurd (true≢false (sym (s.2.own.linked refl)))
  opening Phase.Failed false false u s = absurd (true≢false (sym (s.2.own.waiting refl).on))
  opening Phase.Failed false true u s = opens_from s.0 s.1 s.2.out.shape.0 s.2

-- ---- the call
module _ (w : World) (id : MessageId) (p : OwnParameters) (t : Proposal) (room : ℕ) (widths : Widths id p) (fits : ProposalFits t) (g : Good w) where
  abbrev now : State
  now = w.a.state

  abbrev ph : Phase
  ph = w.a.phase

  abbrev x : Step
  x = open_session now ph id p t room

  abbrev Opened : Type 0
  Opened = Wrote now (may_open ph) (awaiting t) (open_bytes now id p t) x

  says : Opened ⊎ Quiet now ph x
  unfolding open_session
  says = writer_says now ph (may_open ph) (awaiting t) (open_bytes now id p t) room

  opens_by : (d : Bool) → is_done x.answer ≡ d → Good (pick d (replaced w (on (called w.a x w.a.history)) (put true w.ab x) w.ba) (plainly w x))
  opens_by true e =
      at-replaced w (on (called w.a x w.a.history)) (put true w.ab x) w.ba (λ kp k.
      let s = g kp in
      ⊎_elim
      (λ (o : Opened). rw o.is (opening now w.a.history id p t widths fits ph w.a.joined w.a.begun o.may_write s))
      (λ (q : Quiet now ph x). absurd (true≢false (sym e ∙ q.still)))
      says)
  opens_by false e =
      at_plain w x g (λ s k.
      ⊎_elim
      (λ (o : Opened). let done : is_done x.answer ≡ true = rw o.is in absurd (true≢false (sym done ∙ e)))
      (λ (q : Quiet now ph x). quietly w.a x q s)
      says)

  pub at_opens : Good (opened w x)
  at_opens = opens_by (is_done x.answer) refl

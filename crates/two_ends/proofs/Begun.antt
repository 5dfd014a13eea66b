-- The start of a run. Assumes nothing.
use Prim.Native.Nat.{◌<◌, ◌≤◌, ℕ}
use mathlib.Core.Bool.{false, true, false≢true}
use mathlib.Core.List.{[], ◌∷◌}
use mathlib.Core.Logic.{inl, inr, ⊎_elim}
use mathlib.Core.Path.{refl, sym, ◌≡◌}
use native.Mathlib.Omega.{arith}
use lib.ListN.{length}
use borrow.Author.Tests.{le-ltb}
use Rattle.octets.proofs.Choice.{pick_all}
use Rattle.ft_number.specs.Timeout.{proposed_of}
use Rattle.ft_number.proofs.Circle.{after_none}
use Rattle.message_writer.specs.ReadBack.{AckFits}
use Rattle.protocol.specs.declared.Answer.{Answer}
use Rattle.protocol.specs.declared.Phase.{Phase}
use Rattle.protocol.specs.Open.{kept_ack, open_session}
use Rattle.protocol.specs.Phases.{may_open, phase_fits}
use Rattle.protocol.specs.State.{released_state, State}
use Rattle.protocol.specs.Step.{where_open, room_for, stepped}
use Rattle.protocol.specs.Writer.{writer}
use Rattle.protocol.proofs.Settling.{admitted_is, settle-does}
use Rattle.two_ends.specs.Start.{Opener, opening_end, start, Fit, RZero, Afresh, first_init}
use Rattle.two_ends.specs.World.{no_history}
use Rattle.two_ends.proofs.Half.{Half}
use Rattle.two_ends.proofs.Invariant.{side_of, snd_of, rcv_of, Leads, Ready, Dir, Good}
use Rattle.two_ends.proofs.Opening.{proposed_fits}
use Rattle.two_ends.proofs.Packets.{Packet, first, Fine}

-- the first Init of an end
abbrev packet : Opener → Packet
packet o = first o.id o.parameters (proposed_of o.proposal) (kept_ack o.state)

pub kept_fits : (s : State) → s.secured.0 < 4294967296 → AckFits (kept_ack s)
unfolding kept_ack
kept_fits s l = pick_all AckFits s.kept (omega arith) tt

pub fine : (o : Opener) → Fit o → Fine (packet o)
fine o s = record {
  id = omega (arith, s.widths.id);
  keepalive = omega (arith, s.widths.keepalive);
  pdulength = omega (arith, s.widths.pdulength);
  timeout = proposed_fits o.proposal s.proposal;
  ack = kept_fits o.state s.range;
}

ready : (o : Opener) → Fit o → Ready (opening_end o)
ready o s = record {
  few = s.few;
  possible = refl;
  keeping = refl;
  okays = tt;
  waiting = λ q. record { on = refl; waits = refl; nothing = refl };
  linked = λ q. refl;
}

-- nothing is accepted, let go or secured, and the Init on its way says so
nothing : Half (snd_of released_state no_history) 0 false true false (rcv_of released_state no_history) [] (0 ∷ [])
nothing = record {
  r = 0;
  i = 0;
  s = 0;
  e = 0;
  books = record {
    is_r = sym (after_none 0);
    is_i = sym (after_none 0);
    is_s = sym (after_none 0);
    rel = refl;
    que = refl;
    sec = refl;
    rs = omega arith;
    si = omega arith;
    ia = omega arith;
    room = omega arith;
  };
  sent_i = omega arith;
  marks = λ j e. absurd (false≢true e);
  flow = refl;
  line = record { none = refl; rising = (0, sym (after_none 0), omega arith, omega arith) };
}

direction : (x y : Opener) → Fit x → Leads y.state.kept (kept_ack x.state) → Dir (side_of (opening_end x)) (side_of (opening_end y)) (packet x ∷ []) (packet y ∷ [])
direction x y s l = record { half = nothing; shape = (refl, l, tt); fines = (fine x s, tt) }

-- R is zero on one side
leads : (x y : Opener) → Afresh x y → Leads y.state.kept (kept_ack x.state)
unfolding kept_ack
leads x y f =
    ⊎_elim
    (λ (zero : RZero x). inl (rw zero))
    (λ (zero : RZero y). inr zero)
    f

other : (x y : Opener) → Afresh x y → Afresh y x
other x y f = ⊎_elim (λ (zero : RZero x). inr zero) (λ (zero : RZero y). inl zero) f

pub at-start : (x y : Opener) → Fit x → Fit y → Afresh x y → Good (start x y)
at-start x y sx sy f k = (
  packet x ∷ [],
  packet y ∷ [],
  record {
    line_a = refl;
    line_b = refl;
    own = ready x sx;
    peer = ready y sy;
    out = direction x y sx (leads x y f);
    back = direction y x sy (leads y x (other x y f));
    agree = refl;
  },
)

-- ---- the start is what Open leaves of a cabinet at rest: the state as it was, the phase, and the Init
pub opener_opens : (o : Opener) (ph : Phase) (room : ℕ) → phase_fits ph o.state ≡ true → may_open ph ≡ true → length (first_init o) ≤ room
    → open_session o.state ph o.id o.parameters o.proposal room ≡ stepped Answer.Done o.state (opening_end o).phase (first_init o)
unfolding open_session writer
opener_opens o ph room fits may l =
    rw (admitted_is o.state ph fits (where_open (may_open ph) (room_for (first_init o) room)), may, le-ltb room (length (first_init o)) l)
    (settle-does Answer.Done o.state ph (stepped Answer.Done o.state (opening_end o).phase (first_init o)) refl)

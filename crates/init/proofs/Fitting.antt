-- A start releases no more messages than are held. Assumes nothing.
use Rattle.std.specs.Prelude.{Option, Some, None}
use Prim.Native.Nat.{ℕ, ◌≤◌}
use mathlib.Core.Bool.{true, not}
use mathlib.Core.Path.{refl, ◌≡◌}
use native.Mathlib.Omega.{arith}
use borrow.Author.Tests.{leb-true}
use Rattle.octets.proofs.Choice.{pick_all}
use Rattle.ft_number.specs.declared.FtNumber.{FtNumber}
use Rattle.ft_number.specs.Ack.{ack_of}
use Rattle.ft_number.specs.Circle.{steps_of}
use Rattle.ft_number.proofs.Circle.{Acknowledged, ack_releases}
use Rattle.tlv.specs.declared.Parameters.{Parameters}
use Rattle.tlv.specs.declared.Session.{Session}
use Rattle.block0.specs.declared.Header.{Header}
use Rattle.block0.specs.Fields.{at_most}
use Rattle.message.specs.declared.Message.{Message}
use Rattle.protocol.specs.declared.Terms.{Terms}
use Rattle.protocol.specs.Init.{terms_of, resumed_by, equal_parameters, both_set, peer_set, session_start, parameters_start, start_of}
use Rattle.protocol.specs.Received.{is_init}
use Rattle.calls.specs.State.{state_of_numbers}
use Rattle.init.specs.Fitting.{StartFits}

-- an ACK that releases names no more than are held
ack_held : (h : Header) (a k : ℕ) → at_most h.held (steps_of h.released.0 h.issued.0) ≡ true
    → ack_of h.released.0 h.issued.0 a ≡ Some k → k ≤ h.held
ack_held h a k window e =
    let c : Acknowledged h.released.0 h.issued.0 a k = ack_releases h.released.0 h.issued.0 a k e in
    omega (arith, c.few, leb-true c.issued h.held (rw c.window at window))

module _ (h : Header) (window : at_most h.held (steps_of h.released.0 h.issued.0) ≡ true) where
  ack_fits : (t : Terms) (a : ℕ) (x : Option ℕ) → ack_of h.released.0 h.issued.0 a ≡ x → StartFits h.held (resumed_by t a x)
  ack_fits t a (Some k) e = ack_held h a k window e
  ack_fits t a None e = refl

  both_fits : (t : Terms) (a : ℕ) → StartFits h.held (both_set (state_of_numbers h) t a)
  unfolding both_set
  both_fits t a =
      pick_all (StartFits h.held) (not (equal_parameters (state_of_numbers h).terms t)) refl (ack_fits t a (ack_of h.released.0 h.issued.0 a) refl)

  peer_fits : (t : Terms) (ack : Option FtNumber) → StartFits h.held (peer_set (state_of_numbers h) t ack)
  peer_fits t None = refl
  peer_fits t (Some a) = pick_all (StartFits h.held) (state_of_numbers h).kept (both_fits t a.0) tt

  module _ (p : ℕ) where
    session_fits : (ka mp : ℕ) (ack : Option FtNumber) (s : Option Session) → StartFits h.held (session_start (state_of_numbers h) p ka mp ack s)
    session_fits ka mp ack None = tt
    session_fits ka mp ack (Some x) = pick_all (StartFits h.held) x.reconnect (peer_fits (terms_of p x.timeout ka mp) ack) tt

    parameters_fit : (ack : Option FtNumber) (s : Option Session) (q : Option Parameters) → StartFits h.held (parameters_start (state_of_numbers h) p ack s q)
    parameters_fit ack s None = refl
    parameters_fit ack s (Some x) = session_fits x.keepalive x.pdulength ack s

    pub start_fits : (rd : Option Message) → StartFits h.held (start_of (state_of_numbers h) p rd)
    unfolding start_of
    start_fits None = refl
    start_fits (Some g) = pick_all (StartFits h.held) (not (is_init g.typename)) refl (parameters_fit g.ack g.session g.parameters)

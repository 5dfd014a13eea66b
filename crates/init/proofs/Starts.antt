-- How an Init is judged, test by test, and that block 0's numbers decide it alone. Assumes nothing.
use Rattle.std.specs.Prelude.{Option, Some, None, Result, Ok, Err}
use Prim.Native.Nat.{ℕ}
use mathlib.Core.Bool.{Bool, true, false, not}
use mathlib.Core.List.{List}
use mathlib.Core.Path.{◌≡◌, refl}
use borrow.Author.Tests.{eq-eqb, ne_eqb, not-true, not-false}
use Rattle.ft_number.specs.declared.FtNumber.{FtNumber}
use Rattle.ft_number.specs.declared.Timeout.{Timeout}
use Rattle.ft_number.specs.Ack.{ack_of}
use Rattle.ft_number.specs.Timeout.{lesser_of, millis_of}
use Rattle.tlv.specs.declared.Parameters.{Parameters}
use Rattle.tlv.specs.declared.Session.{Session}
use Rattle.block0.specs.declared.Header.{Header}
use Rattle.message.specs.declared.Message.{Message}
use Rattle.protocol.specs.declared.Answer.{Answer}
use Rattle.protocol.specs.declared.Start.{Start}
use Rattle.protocol.specs.declared.Terms.{Terms}
use Rattle.protocol.specs.Init.{terms_of, resumed_by, both_set, peer_set, session_start, parameters_start, start_of}
use Rattle.protocol.specs.Received.{is_init}
use Rattle.protocol.specs.State.{State}
use Rattle.calls.specs.State.{state_by, state_of_numbers}

-- ---- both R set
module _ (s : State) (t : Terms) (a : ℕ) where
  pub both-keepalive : (s.terms.keepalive ≡ t.keepalive → ⊥) → (Err Answer.ParametersChanged) ≡ both_set s t a
  unfolding both_set
  both-keepalive n = rw (ne_eqb s.terms.keepalive t.keepalive n)

  pub both_maxpdu : s.terms.keepalive ≡ t.keepalive → (s.terms.maxpdu ≡ t.maxpdu → ⊥) → (Err Answer.ParametersChanged) ≡ both_set s t a
  unfolding both_set
  both_maxpdu e n = rw (eq-eqb s.terms.keepalive t.keepalive e, ne_eqb s.terms.maxpdu t.maxpdu n)

  pub both_ack : {k k' : Option ℕ} → s.terms.keepalive ≡ t.keepalive → s.terms.maxpdu ≡ t.maxpdu → k ≡ ack_of s.released.0 s.issued.0 a → k ≡ k'
      → resumed_by t a k' ≡ both_set s t a
  unfolding both_set
  both_ack e f p g = rw (eq-eqb s.terms.keepalive t.keepalive e, eq-eqb s.terms.maxpdu t.maxpdu f, ← p, g)

-- ---- the peer's R set
module _ (s : State) (t : Terms) {ack : Option FtNumber} where
  pub peer_absent : ack ≡ None → (Err Answer.BadInit) ≡ peer_set s t ack
  peer_absent g = rw g

  module _ {n : ℕ} (g : ack ≡ Some (record { 0 = n })) where
    pub peer_fresh : s.kept ≡ false → (Ok (Start.Fresh t)) ≡ peer_set s t ack
    peer_fresh k = rw (g, k)

    pub peer_both : {st : Result Start Answer} → s.kept ≡ true → st ≡ both_set s t n → st ≡ peer_set s t ack
    unfolding both_set
    peer_both k e = rw (g, k) e

-- ---- an Init with FT Session
module _ (s : State) (p ka mp : ℕ) (ack : Option FtNumber) {f : Option Session} {r : Bool} {n : Timeout} (g : f ≡ Some (record { reconnect = r; timeout = n })) {agreed : ℕ} (e : agreed ≡ lesser_of p (millis_of n)) where
  pub session_fresh : not r ≡ true → (Ok (Start.Fresh (record { timeout = agreed; keepalive = ka; maxpdu = mp }))) ≡ session_start s p ka mp ack f
  session_fresh b = rw (g, not-true r b, e)

  pub session_peer : {st : Result Start Answer} → not r ≡ false → st ≡ peer_set s (record { timeout = agreed; keepalive = ka; maxpdu = mp }) ack
      → st ≡ session_start s p ka mp ack f
  session_peer b q = rw (g, not-false r b) (rw e at q)

-- ---- a message
module _ (s : State) (p : ℕ) {rd : Option Message} {g : Message} (w : rd ≡ Some g) where
  pub start-other : is_init g.typename ≡ false → (Err Answer.MalformedReceived) ≡ start_of s p rd
  unfolding start_of
  start-other f = rw (w, f)

  pub start-init : {st : Result Start Answer} → is_init g.typename ≡ true → st ≡ parameters_start s p g.ack g.session g.parameters
      → st ≡ start_of s p rd
  unfolding start_of
  start-init f e = rw (w, f) e

pub start_malformed : (s : State) (p : ℕ) {rd : Option Message} → rd ≡ None → (Err Answer.MalformedReceived) ≡ start_of s p rd
unfolding start_of
start_malformed s p w = rw w

-- ---- neither the label words, IDs and entries nor the messages held are asked
module _ (h : Header) (words ids index : List ℕ) (queue : List (List ℕ)) (p : ℕ) where
  both_alone : (t : Terms) (a : ℕ) → both_set (state_of_numbers h) t a ≡ both_set (state_by h words ids index queue) t a
  unfolding both_set
  both_alone t a = refl

  peer_alone : (t : Terms) (ack : Option FtNumber) → peer_set (state_of_numbers h) t ack ≡ peer_set (state_by h words ids index queue) t ack
  peer_alone t None = refl
  peer_alone t (Some a) = rw (both_alone t a.0)

  session_alone : (ka mp : ℕ) (ack : Option FtNumber) (s : Option Session) → session_start (state_of_numbers h) p ka mp ack s ≡ session_start (state_by h words ids index queue) p ka mp ack s
  session_alone ka mp ack None = refl
  session_alone ka mp ack (Some x) = rw (peer_alone (terms_of p x.timeout ka mp) ack)

  parameters_alone : (ack : Option FtNumber) (s : Option Session) (q : Option Parameters) → parameters_start (state_of_numbers h) p ack s q ≡ parameters_start (state_by h words ids index queue) p ack s q
  parameters_alone ack s None = refl
  parameters_alone ack s (Some x) = session_alone x.keepalive x.pdulength ack s

  pub start_alone : (rd : Option Message) → start_of (state_of_numbers h) p rd ≡ start_of (state_by h words ids index queue) p rd
  unfolding start_of
  start_alone None = refl
  start_alone (Some g) = rw (parameters_alone g.ack g.session g.parameters)

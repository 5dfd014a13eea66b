-- The judgement of an Init is the list of its cases. Assumes nothing.
use Rattle.std.specs.Prelude.{Option, Some, None, Result, Ok, Err}
use Prim.Native.Nat.{ℕ}
use mathlib.Core.Bool.{Bool, true, false, not}
use mathlib.Core.Path.{ap, ◌∙◌, ◌≡◌, refl}
use lib.Dec.{eqb}
use borrow.Author.Tests.{eq-eqb, eqb-true, eqb-false}
use Rattle.octets.specs.Pick.{pick, both}
use Rattle.octets.proofs.Choice.{by_test, no}
use Rattle.ft_number.specs.declared.FtNumber.{FtNumber}
use Rattle.ft_number.specs.declared.Timeout.{Timeout}
use Rattle.ft_number.specs.Ack.{ack_of}
use Rattle.tlv.specs.declared.Parameters.{Parameters}
use Rattle.tlv.specs.declared.Session.{Session}
use Rattle.message.specs.declared.Message.{Message}
use Rattle.message.specs.declared.MessageType.{MessageType}
use Rattle.protocol.specs.declared.Answer.{Answer}
use Rattle.protocol.specs.declared.Start.{Start}
use Rattle.protocol.specs.Init.{terms_of, resumed_by, both_set, peer_set, session_start, parameters_start, start_of}
use Rattle.protocol.specs.InitCases.{InitWith, Reconnects, SameParameters, StartCase, unread, another_type, without-parameters, without_ack, without_session, peer_clear, ours_clear, parameters-changed, sequence_error, resumes}
use Rattle.protocol.specs.Received.{is_init}
use Rattle.protocol.specs.State.{State}

-- ---- an Init is told from every other message
pub init_type : (t : MessageType) → is_init t ≡ true → t ≡ MessageType.Initialization
init_type MessageType.Notification e = no (cc)
init_type MessageType.Initialization e = refl
init_type MessageType.KeepAlive e = no (cc)
init_type MessageType.Address e = no (cc)
init_type MessageType.AddressWithdraw e = no (cc)
init_type MessageType.Mapping e = no (cc)
init_type MessageType.Request e = no (cc)
init_type MessageType.Withdraw e = no (cc)
init_type MessageType.Release e = no (cc)
init_type MessageType.Abort e = no (cc)
init_type MessageType.Other e = no (cc)

pub type_init : (t : MessageType) → t ≡ MessageType.Initialization → is_init t ≡ true
type_init t e = rw e

-- ---- the judgement, case by case
module _ (s : State) (p : ℕ) (g : Message) where
  abbrev Here : Result Start Answer → Type 0
  Here st = StartCase s p (Some g) st

  both-case : {ka mp : ℕ} {n : Timeout} {a : FtNumber} → Reconnects s g ka mp n a → Here (both_set s (terms_of p n ka mp) a.0)
  unfolding both_set
  both-case {ka} {mp} {n} {a} b = by (eqb s.terms.keepalive ka) refl (eqb s.terms.maxpdu mp) refl (ack_of s.released.0 s.issued.0 a.0) refl
    where
      by : (x : Bool) → eqb s.terms.keepalive ka ≡ x → (y : Bool) → eqb s.terms.maxpdu mp ≡ y → (k : Option ℕ) → ack_of s.released.0 s.issued.0 a.0 ≡ k
          → Here (pick (not (both x y)) (Err Answer.ParametersChanged) (resumed_by (terms_of p n ka mp) a.0 k))
      by true e true f (Some k) q = resumes b (eqb-true s.terms.keepalive ka e, eqb-true s.terms.maxpdu mp f) q
      by true e true f None q = sequence_error b (eqb-true s.terms.keepalive ka e, eqb-true s.terms.maxpdu mp f) q
      by true e false f k q = parameters-changed b (λ same. eqb-false s.terms.maxpdu mp f same.1)
      by false e y f k q = parameters-changed b (λ same. eqb-false s.terms.keepalive ka e same.0)

  peer_case : {ka mp : ℕ} {n : Timeout} → InitWith g ka mp → g.session ≡ Some (record { reconnect = true; timeout = n }) → (ack : Option FtNumber) → g.ack ≡ ack → Here (peer_set s (terms_of p n ka mp) ack)
  peer_case i e None q = without_ack i e q
  peer_case {ka} {mp} {n} i e (Some a) q = by s.kept refl
    where
      by : (b : Bool) → s.kept ≡ b → Here (pick b (both_set s (terms_of p n ka mp) a.0) (Ok (Start.Fresh (terms_of p n ka mp))))
      by true k = both-case (record { init = i; session = e; ack = q; kept = k })
      by false k = ours_clear i e q k

  session_case : {ka mp : ℕ} → InitWith g ka mp → (x : Option Session) → g.session ≡ x → Here (session_start s p ka mp g.ack x)
  session_case i None e = without_session i e
  session_case {ka} {mp} i (Some x) e = by x.reconnect refl
    where
      with : {r : Bool} → x.reconnect ≡ r → g.session ≡ Some (record { reconnect = r; timeout = x.timeout })
      with q = e ∙ ap (λ (r : Bool). Some (record { reconnect = r; timeout = x.timeout })) q

      by : (r : Bool) → x.reconnect ≡ r → Here (pick r (peer_set s (terms_of p x.timeout ka mp) g.ack) (Ok (Start.Fresh (terms_of p x.timeout ka mp))))
      by true q = peer_case i (with q) g.ack refl
      by false q = peer_clear i (with q)

  parameters-case : is_init g.typename ≡ true → (x : Option Parameters) → g.parameters ≡ x → Here (parameters_start s p g.ack g.session x)
  parameters-case i None e = without-parameters i e
  parameters-case i (Some x) e = session_case (record { init = i; parameters = e }) g.session refl

-- every start is a case of the list,
pub start-cases : (s : State) (p : ℕ) (rd : Option Message) → StartCase s p rd (start_of s p rd)
unfolding start_of
start-cases s p None = unread
start-cases s p (Some g) = by (is_init g.typename) refl
  where
    by : (b : Bool) → is_init g.typename ≡ b
        → StartCase s p (Some g) (pick (not b) (Err Answer.MalformedReceived) (parameters_start s p g.ack g.session g.parameters))
    by true e = parameters-case s p g e g.parameters refl
    by false e = another_type e

-- ---- and each case has its start
module _ (s : State) (p : ℕ) where
  init_is : {g : Message} {ka mp : ℕ} → InitWith g ka mp → {x : Option Session} → g.session ≡ x → start_of s p (Some g) ≡ session_start s p ka mp g.ack x
  unfolding start_of
  init_is i e = rw (i.init, i.parameters, e)

  both_is : {g : Message} {ka mp : ℕ} {n : Timeout} {a : FtNumber} → Reconnects s g ka mp n a → start_of s p (Some g) ≡ both_set s (terms_of p n ka mp) a.0
  both_is b = init_is b.init b.session ∙ rw (b.ack, b.kept)

  same_is : (ka mp : ℕ) → SameParameters s ka mp → both (eqb s.terms.keepalive ka) (eqb s.terms.maxpdu mp) ≡ true
  same_is ka mp e = rw (eq-eqb s.terms.keepalive ka e.0, eq-eqb s.terms.maxpdu mp e.1)

  other_is : (ka mp : ℕ) → (SameParameters s ka mp → ⊥) → both (eqb s.terms.keepalive ka) (eqb s.terms.maxpdu mp) ≡ false
  other_is ka mp d =
      by_test (eqb s.terms.keepalive ka)
      (λ t.
      by_test (eqb s.terms.maxpdu mp)
      (λ u. absurd (d (eqb-true s.terms.keepalive ka t, eqb-true s.terms.maxpdu mp u)))
      (λ u. rw (t, u)))
      (λ f. rw f)

  -- and each case is its start: 22, 23, 35, 34, and the three ways to begin
  pub case-start : {rd : Option Message} {st : Result Start Answer} → StartCase s p rd st → start_of s p rd ≡ st
  unfolding start_of both_set
  case-start unread = refl
  case-start (another_type i) = rw i
  case-start (without-parameters i q) = rw (i, q)
  case-start (without_ack i e q) = init_is i e ∙ rw q
  case-start (without_session i e) = init_is i e
  case-start (peer_clear i e) = init_is i e
  case-start (ours_clear i e q k) = init_is i e ∙ rw (q, k)
  case-start (parameters-changed {ka = ka} {mp = mp} b d) = both_is b ∙ rw (other_is ka mp d)
  case-start (sequence_error {ka = ka} {mp = mp} b e q) = both_is b ∙ rw (same_is ka mp e, q)
  case-start (resumes {ka = ka} {mp = mp} b e q) = both_is b ∙ rw (same_is ka mp e, q)

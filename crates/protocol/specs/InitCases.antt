-- The peer's Init case by case: what was read, and the start that it leads to. `start-cases` in proofs/InitCases.antt says that the judgement is this list.
-- 01: "Init: 12, 1, 22, 23, 35, 34"; "35 and 34 arise only with both R set; FT ACK on an Init with R clear, and FT Protection on any Init, are ignored."
use Rattle.std.specs.Prelude.{Option, Some, None, Result, Ok, Err, ℕ, true, false, ◌≡◌}
use Rattle.ft_number.specs.declared.FtNumber.{FtNumber}
use Rattle.ft_number.specs.declared.Timeout.{Timeout}
use Rattle.ft_number.specs.Ack.{ack_of}
use Rattle.message.specs.declared.Message.{Message}
use Rattle.protocol.specs.declared.Answer.{Answer}
use Rattle.protocol.specs.declared.Start.{Start}
use Rattle.protocol.specs.Init.{terms_of}
use Rattle.protocol.specs.Received.{is_init}
use Rattle.protocol.specs.State.{State}

-- an Init with its KeepAlive time and its maximum PDU length
pub record InitWith (g : Message) (ka mp : ℕ) : Type 0 where
  pub init : is_init g.typename ≡ true
  pub parameters : g.parameters ≡ Some (record { keepalive = ka; pdulength = mp })

-- both R set: the peer's, with its proposal and its ACK, and ours, since the state is kept
pub record Reconnects (s : State) (g : Message) (ka mp : ℕ) (peers : Timeout) (a : FtNumber) : Type 0 where
  pub init : InitWith g ka mp
  pub session : g.session ≡ Some (record { reconnect = true; timeout = peers })
  pub ack : g.ack ≡ Some a
  pub kept : s.kept ≡ true

-- "Equal means the two stored ones"
abbrev pub SameParameters : State → ℕ → ℕ → Type 0
SameParameters s ka mp = (s.terms.keepalive ≡ ka) × (s.terms.maxpdu ≡ mp)

pub data StartCase (s : State) (proposed : ℕ) : Option Message → Result Start Answer → Type 0 where
  -- "22: malformed received"; "An Init call given another type is 22"
  unread : StartCase s proposed None (Err Answer.MalformedReceived)
  another_type : {g : Message} → is_init g.typename ≡ false → StartCase s proposed (Some g) (Err Answer.MalformedReceived)
  -- "23: Init without parameters, or R set without ACK"
  without-parameters : {g : Message} → is_init g.typename ≡ true → g.parameters ≡ None
      → StartCase s proposed (Some g) (Err Answer.BadInit)
  without_ack : {g : Message} {ka mp : ℕ} {peers : Timeout} → InitWith g ka mp → g.session ≡ Some (record { reconnect = true; timeout = peers }) → g.ack ≡ None
      → StartCase s proposed (Some g) (Err Answer.BadInit)
  -- "no FT Session, state released, UpPlain"
  without_session : {g : Message} {ka mp : ℕ} → InitWith g ka mp → g.session ≡ None → StartCase s proposed (Some g) (Ok Start.Plain)
  -- "a zero R on either side, state released, then fresh UpFT"
  peer_clear : {g : Message} {ka mp : ℕ} {peers : Timeout} → InitWith g ka mp → g.session ≡ Some (record { reconnect = false; timeout = peers })
      → StartCase s proposed (Some g) (Ok (Start.Fresh (terms_of proposed peers ka mp)))
  ours_clear : {g : Message} {ka mp : ℕ} {peers : Timeout} {a : FtNumber} → InitWith g ka mp → g.session ≡ Some (record { reconnect = true; timeout = peers }) → g.ack ≡ Some a → s.kept ≡ false
      → StartCase s proposed (Some g) (Ok (Start.Fresh (terms_of proposed peers ka mp)))
  -- "35: parameters changed"
  parameters-changed : {g : Message} {ka mp : ℕ} {peers : Timeout} {a : FtNumber} → Reconnects s g ka mp peers a → (SameParameters s ka mp → ⊥)
      → StartCase s proposed (Some g) (Err Answer.ParametersChanged)
  -- "34: ACK sequence error"
  sequence_error : {g : Message} {ka mp : ℕ} {peers : Timeout} {a : FtNumber} → Reconnects s g ka mp peers a → SameParameters s ka mp
      → ack_of s.released.0 s.issued.0 a.0 ≡ None → StartCase s proposed (Some g) (Err Answer.AckSequenceError)
  -- "both R set and parameters equal, ACK applied, UpFT"
  resumes : {g : Message} {ka mp k : ℕ} {peers : Timeout} {a : FtNumber} → Reconnects s g ka mp peers a → SameParameters s ka mp
      → ack_of s.released.0 s.issued.0 a.0 ≡ Some k → StartCase s proposed (Some g) (Ok (Start.Resumed (terms_of proposed peers ka mp) k a))

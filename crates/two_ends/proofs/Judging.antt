-- How the messages of the two ends are judged in UpFT. Assumes nothing.
use Rattle.std.specs.Prelude.{Ok, Err, Option, Some, None}
use Prim.Native.Nat.{ℕ, ◌≤◌}
use mathlib.Core.Bool.{true, false, true≢false, Bool}
use mathlib.Core.Path.{◌≡◌, refl, sym, ◌∙◌}
use native.Mathlib.Omega.{arith}
use borrow.Author.Tests.{ne_eqb}
use Rattle.ft_number.specs.declared.FtNumber.{FtNumber}
use Rattle.ft_number.specs.declared.MessageId.{MessageId}
use Rattle.ft_number.specs.declared.TurnError.{TurnError}
use Rattle.ft_number.specs.Turn.{number_turn}
use Rattle.label_list.specs.declared.Protection.{Protection}
use Rattle.label_events.specs.declared.Reception.{Reception}
use Rattle.message.specs.declared.Message.{Message}
use Rattle.message.specs.declared.MessageType.{MessageType}
use Rattle.message.specs.Kinds.{kind_number, kind_for, kind_of}
use Rattle.protocol.specs.declared.Answer.{Answer}
use Rattle.protocol.specs.Cases.{Case, wrong_phase, an_init, fatal, zero_number, wrong_ack, missing, wrong, out_of_turn, no_word, taken, table_after}
use Rattle.protocol.specs.Labels.{meets, label_effect, is_protected, protection_rule, effect_reception}
use Rattle.protocol.specs.Phases.{up_with}
use Rattle.protocol.specs.Receive.{ack_on, is_fatal, is_zero, turn_borne}
use Rattle.protocol.specs.Received.{is_init}
use Rattle.protocol.specs.State.{Table, State}

never : {P : Type 0} → true ≡ false → P
never e = absurd (true≢false e)

errs : {P : Type 0} {j : ℕ} → Some j ≡ None → P
errs e = let z : ◌≡◌ {A = ℕ} 0 1 = cc in absurd (omega arith)

strays : {P : Type 0} {k : ℕ} → Ok k ≡ Err TurnError.OutOfTurn → P
strays e = let z : ◌≡◌ {A = ℕ} 0 1 = cc in absurd (omega arith)

-- ---- the answers that come between the two
pub data Fair : Answer → Type 0 where
  fair_done : Fair Answer.Done
  fair_full : Fair Answer.NoWordForMapping
  fair_fatal : Fair Answer.StatusFatal
  fair_missing : Fair Answer.ProtectionMissing
  fair_wrong : Fair Answer.ProtectionWrong

-- ---- a protected message in turn, with an ACK that is right
pub record InOrder (s : State) (re : Bool) (g : Message) (j : ℕ) (n : FtNumber) : Type 0 where
  pub another : is_init g.typename ≡ false
  pub protected : g.protection ≡ Some n
  pub acks : ack_on s g ≡ Some j
  pub some : n.0 ≡ 0 → ⊥
  pub leftout : ℕ
  pub turn : number_turn re s.secured.0 n.0 ≡ Ok leftout

pub order_fair : {s : State} {re : Bool} {sent : ℕ} {g : Message} {a : Answer} (j : ℕ) (n : FtNumber) → InOrder s re g j n → Case s (up_with re sent) (Some g) a → Fair a
order_fair j n p (wrong_phase e) = never e
order_fair j n p (an_init r i) = never (sym i ∙ p.another)
order_fair j n p (fatal r i f) = fair_fatal
order_fair {g = g} j n p (zero_number h z) =
    let e : is_zero (Some n) ≡ true = rw p.protected at z in
    never (sym e ∙ ne_eqb n.0 0 p.some)
order_fair j n p (wrong_ack h z e) = errs (sym p.acks ∙ e)
order_fair j n p (missing a e) = fair_missing
order_fair j n p (wrong a e) = fair_wrong
order_fair {s = s} {re = re} j n p (out_of_turn a e) =
    let f : turn_borne re s.secured.0 (Some n) ≡ Err TurnError.OutOfTurn = rw p.protected at e in
    strays (sym p.turn ∙ f)
order_fair j n p (no_word t e) = fair_full
order_fair j n p (taken t) = fair_done

-- ---- a message that touches nothing and is not protected, with an ACK that is right
pub record Plain (s : State) (g : Message) (j : ℕ) : Type 0 where
  pub another : is_init g.typename ≡ false
  pub mild : is_fatal g.status ≡ false
  pub bare : g.protection ≡ None
  pub acks : ack_on s g ≡ Some j
  pub effect : label_effect g ≡ None
  pub free : (t : Table) → protection_rule t g ≡ Protection.Right

pub plain_done : {s : State} {re : Bool} {sent : ℕ} {g : Message} {a : Answer} (j : ℕ) → Plain s g j → Case s (up_with re sent) (Some g) a → a ≡ Answer.Done
plain_done j p (wrong_phase e) = never e
plain_done j p (an_init r i) = never (sym i ∙ p.another)
plain_done j p (fatal r i f) = never (sym f ∙ p.mild)
plain_done j p (zero_number h z) = let e : is_zero None ≡ true = rw p.bare at z in never (sym e)
plain_done j p (wrong_ack h z e) = errs (sym p.acks ∙ e)
plain_done {s = s} j p (missing {k = k} a e) = let q : Protection.Right ≡ Protection.Missing = sym (p.free (table_after s k)) ∙ e in let z : ◌≡◌ {A = ℕ} 0 1 = cc in absurd (omega arith)
plain_done {s = s} j p (wrong {k = k} a e) = let q : Protection.Right ≡ Protection.Wrong = sym (p.free (table_after s k)) ∙ e in let z : ◌≡◌ {A = ℕ} 0 1 = cc in absurd (omega arith)
plain_done {s = s} {re = re} j p (out_of_turn a e) = let f : turn_borne re s.secured.0 None ≡ Err TurnError.OutOfTurn = rw p.bare at e in strays f
plain_done {s = s} {g = g} j p (no_word {k = k} t e) =
    let f : effect_reception (table_after s k) (meets s.table.words (table_after s k) g) (is_protected g.protection) None ≡ Reception.NoRoom = rw p.effect at e in
    let z : ◌≡◌ {A = ℕ} 0 1 = cc in
    absurd (omega arith)
plain_done j p (taken t) = refl

-- ---- a message of a kind is no Init
init_else : (type : MessageType) (status : Option ℕ) (id : MessageId) (requestid : Option MessageId) → 1 ≤ kind_number (kind_for type status id requestid) → is_init type ≡ false
init_else MessageType.Notification status id requestid l = refl
init_else MessageType.Initialization status id requestid l = absurd (omega arith)
init_else MessageType.KeepAlive status id requestid l = refl
init_else MessageType.Address status id requestid l = refl
init_else MessageType.AddressWithdraw status id requestid l = refl
init_else MessageType.Mapping status id requestid l = refl
init_else MessageType.Request status id requestid l = refl
init_else MessageType.Withdraw status id requestid l = refl
init_else MessageType.Release status id requestid l = refl
init_else MessageType.Abort status id requestid l = refl
init_else MessageType.Other status id requestid l = refl

pub not-init : (g : Message) → 1 ≤ kind_number (kind_of g) → is_init g.typename ≡ false
unfolding kind_of
not-init g l = init_else g.typename g.status g.id g.requestid l

-- ---- a message that is taken has room
pub has_room : {s : State} {re : Bool} {sent : ℕ} {g : Message} (j : ℕ) → ack_on s g ≡ Some j → Case s (up_with re sent) (Some g) Answer.Done
    → effect_reception (table_after s j) (meets s.table.words (table_after s j) g) (is_protected g.protection) (label_effect g) ≡ Reception.Taken
has_room {s} {g = g} j acks (taken {k = k} t) =
    let one : Some k ≡ Some j = sym t.turn.protection.ack.acks ∙ acks in
    let same : k ≡ j = cc in
    rw same at t.room

-- The judgement of a message is the list of its cases. Assumes nothing.
use Rattle.std.specs.Prelude.{Result, Ok, Err, Option, Some, None}
use Prim.Native.Nat.{ℕ}
use mathlib.Core.Bool.{Bool, true, false, true≢false, false≢true}
use mathlib.Core.Path.{◌≡◌, refl}
use native.Mathlib.Omega.{arith}
use borrow.Author.Tests.{eqb-false}
use Rattle.octets.specs.Pick.{pick}
use Rattle.ft_number.specs.declared.FtNumber.{FtNumber}
use Rattle.ft_number.specs.declared.TurnError.{TurnError}
use Rattle.ft_number.proofs.Turns.{turn_is_zero}
use Rattle.label_list.specs.declared.Protection.{Protection}
use Rattle.label_events.specs.declared.Reception.{Reception}
use Rattle.message.specs.declared.Message.{Message}
use Rattle.message.specs.Submission.{bears_ft}
use Rattle.protocol.specs.declared.Answer.{Answer}
use Rattle.protocol.specs.declared.Phase.{Phase}
use Rattle.protocol.specs.declared.Progress.{Progress}
use Rattle.protocol.specs.Acked.{acked}
use Rattle.protocol.specs.Cases.{may_receive, Heard, AckRight, ProtectionRight, TurnRight, Takes, Case, wrong_phase, malformed, an_init, fatal, ft_tlv, passed_on_plain, zero_number, wrong_ack, missing, wrong, out_of_turn, no_word, taken, table_after}
use Rattle.protocol.specs.Labels.{label_effect, is_protected, protection_rule, effect_reception, meets}
use Rattle.protocol.specs.Receive.{ack_rule, ack_on, ft_rule, receive_rule, is_fatal, message_rule, plain_rule, is_zero, turn_borne, turn_rule, reception_rule, protected_rule, labels_rule, read_rule, ack_count}
use Rattle.protocol.specs.Received.{is_init}
use Rattle.protocol.specs.State.{State}

-- 22 and 36, then the tests of the phase
heard-case : (P : Answer → Type 0) (g : Message) (a : Answer) → (is_init g.typename ≡ true → P Answer.MalformedReceived)
    → (is_init g.typename ≡ false → is_fatal g.status ≡ true → P Answer.StatusFatal) → (Heard g → P a) → P (message_rule g a)
unfolding message_rule
heard-case P g a i f h = by (is_init g.typename) refl (is_fatal g.status) refl
  where
    by : (x : Bool) → is_init g.typename ≡ x → (y : Bool) → is_fatal g.status ≡ y → P (pick x Answer.MalformedReceived (pick y Answer.StatusFatal a))
    by true p y q = i p
    by false p true q = f p q
    by false p false q = h (record { another = p; mild = q })

-- ---- UpFT
module _ (s : State) (u : Progress) (g : Message) where
  abbrev Here : Answer → Type 0
  Here a = Case s (Phase.UpFT u) (Some g) a

  room-case : {k : ℕ} → TurnRight s u.resumed g k → (r : Reception) → effect_reception (table_after s k) (meets s.table.words (table_after s k) g) (is_protected g.protection) (label_effect g) ≡ r → Here (reception_rule r)
  room-case t Reception.Taken e = taken (record { turn = t; room = e })
  room-case t Reception.NoRoom e = no_word t e

  abbrev turn : Result ℕ TurnError
  turn = turn_borne u.resumed s.secured.0 g.protection

  -- a number that is not zero has its turn, or is out of it
  turn-number : {P : Type 0} (f : Option FtNumber) → is_zero f ≡ false → turn_borne u.resumed s.secured.0 f ≡ Err TurnError.ZeroNumber → P
  turn-number None z e = let q : ◌≡◌ {A = ℕ} 0 1 = cc in absurd (omega arith)
  turn-number (Some n) z e = absurd (eqb-false n.0 0 z (turn_is_zero u.resumed s.secured.0 n.0 e))

  turn-case : {k : ℕ} → ProtectionRight s g k → (t : Result ℕ TurnError) → turn ≡ t
      → Here (turn_rule t (reception_rule (effect_reception (table_after s k) (meets s.table.words (table_after s k) g) (is_protected g.protection) (label_effect g))))
  turn-case {k} p (Ok n) e = room-case (record { protection = p; leftout = n; turn = e }) (effect_reception (table_after s k) (meets s.table.words (table_after s k) g) (is_protected g.protection) (label_effect g)) refl
  turn-case p (Err TurnError.OutOfTurn) e = out_of_turn p e
  turn-case p (Err TurnError.ZeroNumber) e = turn-number g.protection p.ack.nonzero e

  protection_case : {k : ℕ} → AckRight s g k → (p : Protection) → protection_rule (table_after s k) g ≡ p → Here (protected_rule s.table.words (table_after s k) turn g p)
  protection_case a Protection.Missing e = missing a e
  protection_case a Protection.Wrong e = wrong a e
  protection_case a Protection.Right e = turn-case (record { ack = a; right = e }) turn refl

  ack_case : Heard g → is_zero g.protection ≡ false → (x : Option ℕ) → ack_on s g ≡ x → Here (ack_rule s u.resumed g x)
  unfolding acked labels_rule
  ack_case h z (Some k) e = protection_case (record { heard = h; nonzero = z; acks = e }) (protection_rule (table_after s k) g) refl
  ack_case h z None e = wrong_ack h z e

  zero-case : Heard g → (b : Bool) → is_zero g.protection ≡ b → Here (pick b Answer.ZeroNumber (ack_rule s u.resumed g (ack_on s g)))
  zero-case h true e = zero_number h e
  zero-case h false e = ack_case h e (ack_on s g) refl

  ft_case : Here (ft_rule s u.resumed g)
  unfolding ft_rule
  ft_case = heard-case Here g (pick (is_zero g.protection) Answer.ZeroNumber (ack_rule s u.resumed g (ack_on s g))) (an_init refl) (fatal refl) (λ h. zero-case h (is_zero g.protection) refl)

up-case : (s : State) (u : Progress) (rd : Option Message) → Case s (Phase.UpFT u) rd (read_rule rd (ft_rule s u.resumed))
up-case s u None = malformed refl
up-case s u (Some g) = ft_case s u g

-- ---- UpPlain
plain-case : (s : State) (rd : Option Message) → Case s Phase.UpPlain rd (read_rule rd plain_rule)
plain-case s None = malformed refl
plain-case s (Some g) =
    heard-case (Case s Phase.UpPlain (Some g)) g (pick (bears_ft g.found) Answer.FtTlvInPlain Answer.Done) (an_init refl) (fatal refl)
    (λ h. by h (bears_ft g.found) refl)
  where
    by : Heard g → (b : Bool) → bears_ft g.found ≡ b → Case s Phase.UpPlain (Some g) (pick b Answer.FtTlvInPlain Answer.Done)
    by h true e = ft_tlv h e
    by h false e = passed_on_plain h e

-- ---- every phase
pub cases : (s : State) (ph : Phase) (rd : Option Message) → Case s ph rd (receive_rule s ph rd)
cases s Phase.Idle rd = wrong_phase refl
cases s (Phase.InitWait v) rd = wrong_phase refl
cases s (Phase.UpFT u) rd = up-case s u rd
cases s Phase.UpPlain rd = plain-case s rd
cases s Phase.Failed rd = wrong_phase refl

-- ---- and each case has its answer
pub wrong_by : (s : State) (ph : Phase) (rd : Option Message) → may_receive ph ≡ false → receive_rule s ph rd ≡ Answer.WrongPhase
wrong_by s Phase.Idle rd e = refl
wrong_by s (Phase.InitWait v) rd e = refl
wrong_by s (Phase.UpFT u) rd e = absurd (true≢false e)
wrong_by s Phase.UpPlain rd e = absurd (true≢false e)
wrong_by s Phase.Failed rd e = refl

-- 22 and 36 are judged alike in both phases
alike : (s : State) (ph : Phase) (rd : Option Message) (x : Answer) → may_receive ph ≡ true → ((rest : Message → Answer) → read_rule rd (λ g. message_rule g (rest g)) ≡ x)
    → receive_rule s ph rd ≡ x
unfolding ft_rule
alike s Phase.Idle rd x e f = absurd (false≢true e)
alike s (Phase.InitWait v) rd x e f = absurd (false≢true e)
alike s (Phase.UpFT u) rd x e f = f (λ g. pick (is_zero g.protection) Answer.ZeroNumber (ack_rule s u.resumed g (ack_on s g)))
alike s Phase.UpPlain rd x e f = f (λ g. pick (bears_ft g.found) Answer.FtTlvInPlain Answer.Done)
alike s Phase.Failed rd x e f = absurd (false≢true e)

-- past 30 and 34 the labels are judged, as the ACK leaves them
acked-rule : (s : State) (u : Progress) (g : Message) (k : ℕ) → AckRight s g k
    → receive_rule s (Phase.UpFT u) (Some g) ≡ protected_rule s.table.words (table_after s k) (turn_borne u.resumed s.secured.0 g.protection) g (protection_rule (table_after s k) g)
unfolding ft_rule message_rule labels_rule acked
acked-rule s u g k a = rw (a.heard.another, a.heard.mild, a.nonzero, a.acks)

-- and each case has its answer
pub case_answer : {s : State} {ph : Phase} {rd : Option Message} {a : Answer} → Case s ph rd a → receive_rule s ph rd ≡ a
unfolding ft_rule message_rule
case_answer {s} {ph} {rd} (wrong_phase e) = wrong_by s ph rd e
case_answer {s} {ph} (malformed e) = alike s ph None Answer.MalformedReceived e (λ rest. refl)
case_answer {s} {ph} (an_init {g = g} e i) = alike s ph (Some g) Answer.MalformedReceived e (λ rest. rw i)
case_answer {s} {ph} (fatal {g = g} e i f) = alike s ph (Some g) Answer.StatusFatal e (λ rest. rw (i, f))
case_answer (ft_tlv h b) = rw (h.another, h.mild, b)
case_answer (passed_on_plain h b) = rw (h.another, h.mild, b)
case_answer (zero_number h z) = rw (h.another, h.mild, z)
case_answer (wrong_ack h z e) = rw (h.another, h.mild, z, e)
case_answer {s} (missing {u} {k} {g} a e) = rw (acked-rule s u g k a, e)
case_answer {s} (wrong {u} {k} {g} a e) = rw (acked-rule s u g k a, e)
case_answer {s} (out_of_turn {u} {k} {g} p e) = rw (acked-rule s u g k p.ack, p.right, e)
case_answer {s} (no_word {u} {k} {g} t e) = rw (acked-rule s u g k t.protection.ack, t.protection.right, t.turn, e)
case_answer {s} (taken {u} {k} {g} t) = rw (acked-rule s u g k t.turn.protection.ack, t.turn.protection.right, t.turn.turn, t.room)

-- ---- done in UpFT: every test is passed
pub done-takes : {s : State} {u : Progress} {g : Message} → Case s (Phase.UpFT u) (Some g) Answer.Done → Takes s u.resumed g (ack_count (ack_on s g))
done-takes (taken t) = let e = t.turn.protection.ack.acks in rw e t

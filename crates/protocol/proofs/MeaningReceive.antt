-- What a received message leaves: its answer is that of its case, and where it is taken the ACK acts first, then the message. Assumes nothing.
use Rattle.std.specs.Prelude.{Result, Ok, Option, Some, None}
use Prim.Native.Nat.{ℕ, ◌<◌, ◌+◌, ◌≤◌}
use mathlib.Core.Bool.{Bool, true, false, true≢false}
use mathlib.Core.List.{List}
use mathlib.Core.Path.{◌≡◌, refl, ap, ◌∙◌, sym}
use native.Mathlib.Numerals.{add-one}
use native.Mathlib.Omega.{arith}
use lib.ListN.{length-drop}
use Rattle.octets.proofs.Choice.{no}
use Rattle.ft_number.specs.declared.FtNumber.{FtNumber}
use Rattle.ft_number.specs.declared.TurnError.{TurnError}
use Rattle.ft_number.specs.Turn.{turn_gap, farthest, number_turn}
use Rattle.ft_number.proofs.Turns.{turn_means, unresumed_turn}
use Rattle.message.specs.declared.Message.{Message}
use Rattle.message.specs.Reading.{reading_of}
use Rattle.protocol.specs.declared.Answer.{Answer}
use Rattle.protocol.specs.declared.Phase.{Phase}
use Rattle.protocol.specs.declared.Progress.{Progress}
use Rattle.protocol.specs.Acked.{ack_borne, released_labels, acked}
use Rattle.protocol.specs.Cases.{Case, Takes, wrong_phase, malformed, an_init, fatal, ft_tlv, passed_on_plain}
use Rattle.protocol.specs.Lawful.{Lawful}
use Rattle.protocol.specs.MeaningReceive.{ReceivedFrom, AckThenMessage, SecuresFrom, PlainAnswer, plain_malformed, plain_fatal, plain_ft_tlv, plain_done}
use Rattle.protocol.specs.Phases.{phase_fits}
use Rattle.protocol.specs.Receive.{ack_on, ack_count, turn_borne, secured_by, receive_rule, taken, received_state, receive, taken_in_ft, left_before}
use Rattle.protocol.specs.State.{State}
use Rattle.protocol.specs.Step.{unchanged}
use Rattle.protocol.proofs.Answered.{receive_says, receive-does}
use Rattle.protocol.proofs.Cases.{cases, case_answer, done-takes}
use Rattle.protocol.proofs.KeepingNumbers.{ack_again}
use Rattle.protocol.proofs.Settling.{admitted_is}

-- ---- the answer
module _ (s : State) (ph : Phase) (m : List ℕ) (fits : phase_fits ph s ≡ true) where
  -- in a phase that the state allows it is that of the message's own tests
  own_answer : (receive s ph m).answer ≡ receive_rule s ph (reading_of m)
  own_answer = receive_says s ph m ∙ admitted_is s ph fits (receive_rule s ph (reading_of m))

  -- so it is one of the cases
  pub receive-case : Case s ph (reading_of m) (receive s ph m).answer
  receive-case = rw own_answer (cases s ph (reading_of m))

  -- and that of no other
  pub case-receives : {a : Answer} → Case s ph (reading_of m) a → (receive s ph m).answer ≡ a
  case-receives c = own_answer ∙ case_answer c

-- ---- the state that a message leaves
module _ (s : State) (g : Message) where
  -- "the ACK acts first, then the message"
  pub received_acts : (k : ℕ) → ack_on s g ≡ Some k → AckThenMessage s g k (received_state s g)
  unfolding received_state taken acked
  received_acts k acks =
      rw acks
      (record {
        released = refl;
        issued = refl;
        secured = refl;
        fewer = length-drop k s.queue;
        kept = refl;
        terms = refl;
        labels = refl;
        ids = refl;
        index = refl;
        stopped = refl;
        stopping = refl;
        queue = refl;
      })

  -- "a protected one must bear the successor of S, and S moves to it"; 02: or is 1 to 64 steps ahead
  module _ (secured : s.secured.0 < 4294967296) (width : (n : FtNumber) → g.protection ≡ Some n → n.0 < 4294967296) (u : Progress) where
    abbrev turn : Result ℕ TurnError
    turn = turn_borne u.resumed s.secured.0 g.protection

    near_turn : (f : Option FtNumber) (k : ℕ) → ((n : FtNumber) → f ≡ Some n → n.0 < 4294967296) → turn_borne u.resumed s.secured.0 f ≡ Ok k → k + 1 ≤ farthest u.resumed
    near_turn None k w e = let z : 0 ≡ k = cc in omega (arith, z, one u.resumed)
      where
        one : (r : Bool) → 1 ≤ farthest r
        one true = omega arith
        one false = omega arith
    near_turn (Some n) k w e = omega (arith, (turn_means u.resumed s.secured.0 n.0 k (omega arith) (omega (arith, w n refl)) e).1)

    pub taken-secures : (k : ℕ) → Takes s u.resumed g k → SecuresFrom s u.resumed g (taken_in_ft s (Phase.UpFT u) (Some g))
    taken-secures k t =
        let a : AckThenMessage s g k (received_state s g) = received_acts k t.turn.protection.ack.acks in
        let e : left_before s (Phase.UpFT u) g ≡ t.turn.leftout = ap turn_gap t.turn.turn in
        let is : (n : FtNumber) → g.protection ≡ Some n → number_turn u.resumed s.secured.0 n.0 ≡ Ok t.turn.leftout =
        λ n q. ap (turn_borne u.resumed s.secured.0) (sym q) ∙ t.turn.turn in
        record {
          moves = λ n q. a.secured ∙ ap (secured_by s.secured) q;
          ahead = λ n q. rw (e, add-one t.turn.leftout) (sym (turn_means u.resumed s.secured.0 n.0 t.turn.leftout (omega arith) (omega (arith, width n q)) (is n q)).0);
          near = rw e (near_turn g.protection t.turn.leftout width t.turn.turn);
          successor = λ r n q. (unresumed_turn s.secured.0 n.0 t.turn.leftout (omega arith) (omega (arith, width n q)) (rw r at (is n q))).1;
          stays = λ q. (a.secured ∙ ap (secured_by s.secured) q, ap (λ (f : Option FtNumber). turn_gap (turn_borne u.resumed s.secured.0 f)) q);
        }

  -- a message that acknowledges R again, as one without FT ACK does, releases nothing: the message alone acts
  module _ (law : Lawful s) (again : ack_borne s g.ack ≡ s.released.0) where
    -- to acknowledge R again releases nothing,
    pub nothing_acked : ack_on s g ≡ Some 0
    unfolding ack_on
    nothing_acked = rw again (ack_again s law.released law.window)

    -- and the message alone acts
    pub message_alone : received_state s g ≡ taken s.table.words s g
    unfolding received_state taken acked released_labels
    message_alone = rw (nothing_acked, again, law.counted, law.indexed)

-- one without FT ACK acknowledges nothing new
pub unacked : (s : State) (g : Message) → Lawful s → g.ack ≡ None → ack_on s g ≡ Some 0
unacked s g law e = nothing_acked s g law (rw e)

-- ---- a message taken in UpFT
module _ (s : State) (u : Progress) (m : List ℕ) (fits : phase_fits (Phase.UpFT u) s ≡ true) (d : (receive s (Phase.UpFT u) m).answer ≡ Answer.Done) where
  abbrev left : State
  left = (receive s (Phase.UpFT u) m).state

  -- it was read whole
  pub receive_read : (g : Message) × (reading_of m ≡ Some g)
  receive_read = by (reading_of m) (rw d at (receive-case s (Phase.UpFT u) m fits))
    where
      by : (rd : Option Message) → Case s (Phase.UpFT u) rd Answer.Done → (g : Message) × (rd ≡ Some g)
      by None c = let z : Answer.MalformedReceived ≡ Answer.Done = case_answer c in no (cc)
      by (Some g) c = (g, refl)

  module _ (g : Message) (read : reading_of m ≡ Some g) where
    abbrev count : ℕ
    count = ack_count (ack_on s g)

    -- every test was passed
    pub receive-takes : Takes s u.resumed g count
    receive-takes = done-takes (rw (read, d) at (receive-case s (Phase.UpFT u) m fits))

    -- the state is exactly the rule's, the phase UpFT with the lowered count
    pub receive-leaves : ReceivedFrom s u g count (receive s (Phase.UpFT u) m)
    receive-leaves = rw (receive-does s (Phase.UpFT u) m d, read) (record { answer = refl; state = refl; phase = refl; output = refl })

    -- by its parts: R is the number acknowledged, I, kept and the terms stay, S is the message's number or stays, the k oldest leave,
    -- the label words are those after the ACK and then the message
    pub receive_acts : AckThenMessage s g count left
    receive_acts = rw receive-leaves.state (received_acts s g count receive-takes.turn.protection.ack.acks)

    -- S moves to the message's number, in turn after S; without FT Protection it stays
    pub receive-secures : s.secured.0 < 4294967296 → ((n : FtNumber) → g.protection ≡ Some n → n.0 < 4294967296)
        → SecuresFrom s u.resumed g (receive s (Phase.UpFT u) m)
    receive-secures secured width = rw (receive-does s (Phase.UpFT u) m d, read) (taken-secures s g secured width u count receive-takes)

-- ---- "In UpPlain messages are passed on."
module _ (s : State) (m : List ℕ) where
  -- UpPlain: Done changes nothing,
  pub plain-passed : (receive s Phase.UpPlain m).answer ≡ Answer.Done → receive s Phase.UpPlain m ≡ unchanged Answer.Done s Phase.UpPlain
  plain-passed d = receive-does s Phase.UpPlain m d

  -- and no answers come but 22, 36, 31 and Done
  pub plain_answers : phase_fits Phase.UpPlain s ≡ true → PlainAnswer (receive s Phase.UpPlain m).answer
  plain_answers fits = by (receive-case s Phase.UpPlain m fits)
    where
      by : {s : State} {rd : Option Message} {a : Answer} → Case s Phase.UpPlain rd a → PlainAnswer a
      by (wrong_phase e) = absurd (true≢false e)
      by (malformed e) = plain_malformed
      by (an_init e i) = plain_malformed
      by (fatal e i f) = plain_fatal
      by (ft_tlv h b) = plain_ft_tlv
      by (passed_on_plain h b) = plain_done

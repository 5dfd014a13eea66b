-- What a received message means for the state, clause by clause.
use Rattle.std.specs.Prelude.{Some, None, ℕ, ◌+◌, ◌-◌, ◌≤◌, Bool, false, [], ◌≡◌, drop}
use Rattle.ft_number.specs.declared.FtNumber.{FtNumber}
use Rattle.ft_number.specs.Circle.{next, after}
use Rattle.ft_number.specs.Turn.{farthest}
use Rattle.label_list.specs.Counting.{counting}
use Rattle.label_list.specs.Requests.{open_ids}
use Rattle.label_list.specs.Word.{lists_label}
use Rattle.message.specs.declared.Message.{Message}
use Rattle.message.specs.Kinds.{kind_of}
use Rattle.protocol.specs.declared.Answer.{Answer}
use Rattle.protocol.specs.declared.Progress.{Progress}
use Rattle.protocol.specs.Accepting.{stop_after}
use Rattle.protocol.specs.Acked.{ack_borne}
use Rattle.protocol.specs.Cases.{table_after}
use Rattle.protocol.specs.Phases.{up_with}
use Rattle.protocol.specs.Receive.{secured_by, received_state, message_labels, message_index}
use Rattle.protocol.specs.State.{State, held}
use Rattle.protocol.specs.Step.{Step}

-- a message taken in UpFT, whose ACK releases the oldest k held: "An ACK lowers that count by the messages it releases, not below 0."
pub record ReceivedFrom (s : State) (u : Progress) (g : Message) (k : ℕ) (x : Step) : Type 0 where
  pub answer : x.answer ≡ Answer.Done
  pub state : x.state ≡ received_state s g
  -- the connection stays resumed or not
  pub phase : x.phase ≡ up_with u.resumed (u.sent - k)
  pub output : x.output ≡ []

-- "the ACK acts first, then the message": the state t after g, whose ACK releases the oldest k held
pub record AckThenMessage (s : State) (g : Message) (k : ℕ) (t : State) : Type 0 where
  pub released : t.released.0 ≡ ack_borne s g.ack
  pub issued : t.issued ≡ s.issued
  pub secured : t.secured ≡ secured_by s.secured g.protection
  pub fewer : held t ≡ held s - k
  pub kept : t.kept ≡ s.kept
  pub terms : t.terms ≡ s.terms
  pub labels : t.table.words ≡ message_labels s.table.words (table_after s k) g
  -- the IDs of the Requests that are open still
  pub ids : t.table.ids ≡ open_ids t.table.words (table_after s k).ids
  -- the entries of the labels that are listed still, with that of the word that the message takes
  pub index : t.table.index ≡ counting 0 lists_label t.table.words (message_index s.table.words (table_after s k) g)
  -- kind 9 stops our Requests, kind 6 lets them go on; what we told the peer stays
  pub stopped : t.marks.stopped ≡ stop_after s.marks.stopped (kind_of g)
  pub stopping : t.marks.stopping ≡ s.marks.stopping
  pub queue : t.queue ≡ drop k s.queue

-- "a protected one must bear the successor of S, and S moves to it"; 02: "On a resumed connection .. 1 to 64 steps ahead of S", and so many less one were left out;
-- every other message leaves S
pub record SecuresFrom (s : State) (resumed : Bool) (g : Message) (x : Step) : Type 0 where
  pub moves : (n : FtNumber) → g.protection ≡ Some n → x.state.secured ≡ n
  pub ahead : (n : FtNumber) → g.protection ≡ Some n → n.0 ≡ after (x.leftout + 1) s.secured.0
  pub near : x.leftout + 1 ≤ farthest resumed
  -- on a connection that is not resumed
  pub successor : resumed ≡ false → (n : FtNumber) → g.protection ≡ Some n → n.0 ≡ next s.secured.0
  pub stays : g.protection ≡ None → (x.state.secured ≡ s.secured) × (x.leftout ≡ 0)

-- the answers in UpPlain: 22, 36, 31, 0
pub data PlainAnswer : Answer → Type 0 where
  plain_malformed : PlainAnswer Answer.MalformedReceived
  plain_fatal : PlainAnswer Answer.StatusFatal
  plain_ft_tlv : PlainAnswer Answer.FtTlvInPlain
  plain_done : PlainAnswer Answer.Done

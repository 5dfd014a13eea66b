-- The cabinets and the messages of the sample runs.
use Rattle.std.specs.Prelude.{ℕ, zero, suc, Bool, true, false, List, [], ◌∷◌}
use Rattle.ft_number.specs.declared.MessageId.{MessageId}
use Rattle.ft_number.specs.declared.Proposal.{Proposal}
use Rattle.ft_number.specs.declared.Timeout.{Timeout}
use Rattle.message_writer.specs.declared.OwnParameters.{OwnParameters}
use Rattle.protocol.specs.State.{State, no_table, no_marks}
use Rattle.two_ends.specs.Runs.{Event, submits, sends, keepalives, opens, delivers}
use Rattle.two_ends.specs.Start.{Opener}

-- an Address message with that message ID
abbrev pub address : ℕ → List ℕ
address n = 3 ∷ 0 ∷ 0 ∷ 4 ∷ 0 ∷ 0 ∷ 0 ∷ n ∷ []

-- a Mapping, a Withdraw and a Release of label 16, with an empty FEC
abbrev labelled : ℕ → ℕ → List ℕ
labelled type n = 4 ∷ type ∷ 0 ∷ 16 ∷ 0 ∷ 0 ∷ 0 ∷ n ∷ 1 ∷ 0 ∷ 0 ∷ 0 ∷ 2 ∷ 0 ∷ 0 ∷ 4 ∷ 0 ∷ 0 ∷ 0 ∷ 16 ∷ []

abbrev pub mapping : ℕ → List ℕ
mapping n = labelled 0 n

abbrev pub withdraw : ℕ → List ℕ
withdraw n = labelled 2 n

abbrev pub release : ℕ → List ℕ
release n = labelled 3 n

-- a Request with that message ID and an empty FEC, and an Abort of it with another
abbrev pub request : ℕ → List ℕ
request n = 4 ∷ 1 ∷ 0 ∷ 8 ∷ 0 ∷ 0 ∷ 0 ∷ n ∷ 1 ∷ 0 ∷ 0 ∷ 0 ∷ []

abbrev pub abort : ℕ → ℕ → List ℕ
abort n named = 4 ∷ 4 ∷ 0 ∷ 16 ∷ 0 ∷ 0 ∷ 0 ∷ n ∷ 1 ∷ 0 ∷ 0 ∷ 0 ∷ 6 ∷ 0 ∷ 0 ∷ 4 ∷ 0 ∷ 0 ∷ 0 ∷ named ∷ []

-- room for the output of a writer
abbrev pub room : ℕ
room = 50

abbrev pub id : MessageId
id = record { 0 = 1 }

abbrev pub parameters : OwnParameters
parameters = record { keepalive = 15; pdulength = 4096; lsr = 1; space = 0; ondemand = false }

-- 5 seconds, in the draft's form
abbrev pub five : Proposal
five = Proposal.Given (Timeout.Seconds 5)

-- a cabinet that opens with that state, and with that proposal
abbrev pub opener_by : Proposal → State → Opener
opener_by proposal s = record { state = s; id = id; parameters = parameters; proposal = proposal }

abbrev pub opener_with : State → Opener
opener_with s = opener_by five s

-- a state that holds nothing, kept, with these R and I, and S
abbrev pub kept_with : ℕ → ℕ → State
kept_with issued secured = record {
  released = record { 0 = issued };
  issued = record { 0 = issued };
  secured = record { 0 = secured };
  kept = true;
  terms = record { timeout = 5000; keepalive = 15; maxpdu = 4096 };
  marks = no_marks;
  table = no_table;
  queue = [];
}

-- ---- events
abbrev pub offer : Bool → ℕ → Bool × Event
offer at n = (at, submits (address n))

abbrev pub send : Bool → Bool × Event
send at = (at, sends true room)

abbrev pub alive : Bool → Bool × Event
alive at = (at, keepalives id room)

abbrev pub reopen_by : Proposal → Bool → Bool × Event
reopen_by proposal at = (at, opens id parameters proposal room)

abbrev pub reopen : Bool → Bool × Event
reopen at = reopen_by five at

abbrev pub deliver : Bool → Bool × Event
deliver at = (at, delivers)

-- that many submissions at a
abbrev pub many : ℕ → List (Bool × Event)
many zero = []
many (suc n) = offer true 7 ∷ many n

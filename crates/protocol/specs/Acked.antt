-- What an acknowledgement makes of the state: "it releases every message through it".
use Rattle.std.specs.Prelude.{Option, Some, None, ℕ, List, [], ◌∷◌, eqb, take, drop}
use Rattle.octets.specs.Pick.{pick}
use Rattle.ft_number.specs.declared.FtNumber.{FtNumber}
use Rattle.label_list.specs.declared.LabelMessage.{LabelMessage}
use Rattle.label_events.specs.Ack.{acked_of}
use Rattle.message.specs.declared.Kind.{Kind}
use Rattle.message.specs.Kinds.{kind_number}
use Rattle.message.specs.Storable.{kind_in, label_in}
use Rattle.message.specs.Submission.{submission_of}
use Rattle.protocol.specs.State.{State, with_queue, with_released, with_words}

-- the label words after a held message of that kind and label was released:
-- 01: "Released by ACK: Withdraw 2 becomes free; Release 5 becomes free; other codes stay." 02: "Free a withdrawn label at the second of Release and ACK."
unfoldable pub released_kind : ℕ → ℕ → List ℕ → List ℕ
released_kind kind label ls =
    pick (eqb kind (kind_number Kind.Withdraw)) (acked_of ls LabelMessage.Withdraw label)
    (pick (eqb kind (kind_number Kind.Release)) (acked_of ls LabelMessage.Release label) ls)

-- after all of them, the oldest first
unfoldable pub released_labels : List (List ℕ) → List ℕ → List ℕ
released_labels [] ls = ls
released_labels (m ∷ ms) ls = released_labels ms (released_kind (kind_in (submission_of m)) (label_in (submission_of m)) ls)

-- the state with the oldest k messages released by the acknowledgement of a
unfoldable pub acked : State → ℕ → ℕ → State
acked s k a =
    with_queue (with_words (with_released s (record { 0 = a })) (released_labels (take k s.queue) s.table.words)) (drop k s.queue)

-- the number that a message acknowledges: one that bears no FT ACK says nothing new, as the number acknowledged before does
abbrev pub ack_borne : State → Option FtNumber → ℕ
ack_borne s None = s.released.0
ack_borne s (Some n) = n.0

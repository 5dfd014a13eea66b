-- An aid of speed: messages that leave every label word as it is, told without a look at the words. No call's meaning rests on it.
use Rattle.std.specs.Prelude.{Option, Some, None, ℕ, Bool, true, false, take}
use Rattle.octets.specs.Pick.{both}
use Rattle.ft_number.specs.declared.MessageId.{MessageId}
use Rattle.label_list.specs.declared.LabelMessage.{LabelMessage}
use Rattle.label_events.specs.declared.Touched.{Touched}
use Rattle.message.specs.declared.Message.{Message}
use Rattle.protocol.specs.Labels.{answers, label_effect}
use Rattle.protocol.specs.State.{State}
use Rattle.calls.specs.Freeing.{frees_none}

abbrev pub touches_none : Option (LabelMessage × Touched) → Bool
touches_none None = true
touches_none (Some (m, t)) = false

abbrev pub names_none : Option MessageId → Bool
names_none None = true
names_none (Some id) = false

-- by a message that touches no label and answers no Request: an answer frees a word
abbrev pub leaves_words : Message → Bool
leaves_words g = both (touches_none (label_effect g)) (names_none (answers g))

-- by an ACK that releases the oldest k messages held, and then by the message
abbrev pub labels_stay : State → ℕ → Message → Bool
labels_stay s k g = both (leaves_words g) (frees_none (take k s.queue))

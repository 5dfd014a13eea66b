-- A message of ours is released by an ACK: the list afterwards.
use Rattle.std.specs.Prelude.{Option, Some, None, ℕ, List, get_or, set}
use Rattle.label_list.specs.declared.LabelMessage.{LabelMessage}
use Rattle.label_list.specs.Find.{find_of}
use Rattle.label_list.specs.Rules.{sent_side, code_acked}
use Rattle.label_list.specs.Word.{code_of, word_of, stands_for}

-- the label's word gets the code of the rule; an absent label changes nothing
unfoldable pub acked_at : Option ℕ → List ℕ → LabelMessage → ℕ → List ℕ
acked_at (Some i) words message label = set words i (word_of label (code_acked message (code_of (get_or words i 0))))
acked_at None words message label = words

abbrev pub acked_of : List ℕ → LabelMessage → ℕ → List ℕ
acked_of words message label = acked_at (find_of (stands_for (sent_side message) label) words) words message label

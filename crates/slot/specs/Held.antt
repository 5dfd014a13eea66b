-- The slot that holds a message with its own kind and label.
use Rattle.std.specs.Prelude.{ℕ, List}
use Rattle.message.specs.Storable.{kind_in, label_in}
use Rattle.message.specs.Submission.{submission_of}
use Rattle.slot.specs.Layout.{slot_block}

-- the block of a message, with the kind and the label as which Submit accepted it; no other message is ever stored
unfoldable pub slot_for : List ℕ → List ℕ
slot_for m = slot_block m (kind_in (submission_of m)) (label_in (submission_of m))

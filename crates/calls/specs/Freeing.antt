-- An aid of speed: messages whose release frees no label, told by their kinds alone. No call's meaning rests on it.
use Rattle.std.specs.Prelude.{ℕ, Bool, true, false, List, [], ◌∷◌, eqb}
use Rattle.octets.specs.Pick.{pick}
use Rattle.message.specs.declared.Kind.{Kind}
use Rattle.message.specs.Kinds.{kind_number}
use Rattle.message.specs.Storable.{kind_in}
use Rattle.message.specs.Submission.{submission_of}

-- of the kinds, those whose release may free a label
unfoldable pub frees_label : ℕ → Bool
frees_label kind = pick (eqb kind (kind_number Kind.Withdraw)) true (eqb kind (kind_number Kind.Release))

-- none of these messages is of such a kind: the label words stay as they are, whatever they are
unfoldable pub frees_none : List (List ℕ) → Bool
frees_none [] = true
frees_none (m ∷ ms) = pick (frees_label (kind_in (submission_of m))) false (frees_none ms)

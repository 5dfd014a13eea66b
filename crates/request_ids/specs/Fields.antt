-- Block 65's fields: zeros behind the IDs; an ID "counts only under code 7, where it stands once". Of the 119 label
-- words of version 2 none stands beside the last of the 120 places: what it holds is never looked at.
use Rattle.std.specs.Prelude.{ℕ, Bool, true, List, ◌≡◌}
use Rattle.octets.specs.Pick.{both}
use Rattle.block.specs.Check.{sound}
use Rattle.label_list.specs.Requests.{once_of}
use Rattle.word_block.specs.Layout.{block_words, rest_zero}

-- beside these label words
unfoldable pub ids_ok : List ℕ → List ℕ → Bool
ids_ok words b = both (rest_zero b) (once_of words (block_words b))

-- a block that passes
pub record IdsGood (words b : List ℕ) : Type 0 where
  pub check : sound b ≡ true
  pub fields : ids_ok words b ≡ true

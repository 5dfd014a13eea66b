-- A good block 65, by its clauses. Assumes nothing.
use Prim.Native.Nat.{ℕ}
use mathlib.Core.Bool.{true}
use mathlib.Core.List.{List}
use mathlib.Core.Path.{◌≡◌}
use Rattle.octets.proofs.Choice.{both_true}
use Rattle.label_list.specs.Requests.{once_of}
use Rattle.word_block.specs.Layout.{block_words, rest_zero}
use Rattle.request_ids.specs.Fields.{ids_ok, IdsGood}

module _ (ls b : List ℕ) (good : IdsGood ls b) where
  pub good_rest : rest_zero b ≡ true
  unfolding ids_ok
  good_rest = (both_true (rest_zero b) _ good.fields).0

  pub good_once : once_of ls (block_words b) ≡ true
  unfolding ids_ok
  good_once = (both_true (rest_zero b) _ good.fields).1

  -- beside other words
  pub good_beside : (ws : List ℕ) → once_of ws (block_words b) ≡ true → IdsGood ws b
  unfolding ids_ok
  good_beside ws once = record { check = good.check; fields = rw good_rest once }

-- The search for an open Request's ID, over pairs of a word and an ID. Assumes nothing.
use Rattle.std.proofs.lemmas.Iterator.Adapters.{position_from-zero}
use Rattle.std.specs.List.{position_from, position_or_len, zip}
use Rattle.std.specs.Prelude.{Some, None}
use Prim.Native.Nat.{ℕ, suc}
use mathlib.Core.Bool.{Bool, cond}
use mathlib.Core.List.{List, [], ◌∷◌}
use mathlib.Core.Path.{◌≡◌, refl, ◌∙◌}
use native.Mathlib.Numerals.{add-one}
use lib.Dec.{eqb, ltb}
use lib.ListN.{length}
use Rattle.octets.specs.Pick.{both}
use Rattle.octets.proofs.Choice.{by_test}
use Rattle.ft_number.specs.declared.MessageId.{MessageId}
use Rattle.label_list.specs.Requests.{open_from, open_at}
use Rattle.label_list.specs.Word.{is_request}

-- the word is an open Request's, and the ID beside it the one that is sought
abbrev pub is_open : ℕ → ℕ × ℕ → Bool
is_open id p = both (is_request p.0) (eqb p.1 id)

open_position : (id k : ℕ) (words ids : List ℕ) → position_from (is_open id) k (zip words ids) ≡ open_from id k words ids
open_position id k [] xs = refl
open_position id k (w ∷ ws) [] = refl
open_position id k (w ∷ ws) (x ∷ xs) =
    by_test (both (is_request w) (eqb x id)) (λ t. rw t) (λ f. rw (f, add-one) (open_position id (suc k) ws xs))

pub open_first : (id : MessageId) (words ids : List ℕ) → let at = position_or_len (is_open id.0) (zip words ids) in
    cond (ltb at (length (zip words ids))) (Some at) None ≡ open_at id words ids
unfolding open_at
open_first id words ids = position_from-zero (is_open id.0) (zip words ids) ∙ open_position id.0 0 words ids

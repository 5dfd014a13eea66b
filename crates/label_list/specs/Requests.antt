-- The open Requests: which IDs they have, by the words and the list of IDs beside them.
-- 02: "its message ID at the same place of a further lent list of 120 numbers ..; an ID counts only under code 7, where it stands once".
use Rattle.std.specs.Prelude.{Option, Some, None, ℕ, suc, ◌<◌, Bool, true, not, List, [], ◌∷◌, ◌≡◌, eqb, length, get_or}
use Rattle.octets.specs.Pick.{pick, both}
use Rattle.ft_number.specs.declared.MessageId.{MessageId}
use Rattle.label_list.specs.Counting.{counting}
use Rattle.label_list.specs.Find.{is_found}
use Rattle.label_list.specs.Word.{is_request}

-- the IDs that count; 0 in every other place
abbrev pub open_ids : List ℕ → List ℕ → List ℕ
open_ids words ids = counting 0 is_request words ids

-- the index, counted from k, of the first open Request with that ID; zero is an ID as any other
abbrev pub open_from : ℕ → ℕ → List ℕ → List ℕ → Option ℕ
open_from id k [] xs = None
open_from id k (w ∷ ws) [] = None
open_from id k (w ∷ ws) (x ∷ xs) = pick (both (is_request w) (eqb x id)) (Some k) (open_from id (suc k) ws xs)

unfoldable pub open_at : MessageId → List ℕ → List ℕ → Option ℕ
open_at id words ids = open_from id.0 0 words ids

-- an open Request of that ID stands at that place
pub record RequestAt (words ids : List ℕ) (id i : ℕ) : Type 0 where
  pub request : is_request (get_or words i 0) ≡ true
  pub inside : i < length ids
  pub same : get_or ids i 0 ≡ id

-- "where it stands once": no later open Request has the ID
abbrev pub once_word : ℕ → ℕ → List ℕ → List ℕ → Bool
once_word w x ws xs = pick (is_request w) (not (is_found (open_from x 0 ws xs))) true

unfoldable pub once_of : List ℕ → List ℕ → Bool
once_of [] xs = true
once_of (w ∷ ws) [] = true
once_of (w ∷ ws) (x ∷ xs) = both (once_word w x ws xs) (once_of ws xs)

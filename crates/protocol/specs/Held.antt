-- Whether a message of some kind and label is among those held.
use Rattle.std.specs.Prelude.{ℕ, Bool, true, false, List, [], ◌∷◌}
use Rattle.octets.specs.Pick.{pick}
use Rattle.message.specs.Storable.{bears}
use Rattle.message.specs.Submission.{submission_of}

-- a message of that kind and label is among these
unfoldable pub is_held : ℕ → ℕ → List (List ℕ) → Bool
is_held kind label [] = false
is_held kind label (m ∷ ms) = pick (bears (submission_of m) kind label) true (is_held kind label ms)

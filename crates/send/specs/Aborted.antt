-- An aid of speed: the IDs that messages abort, each of them read once. No call's meaning rests on it.
use Rattle.std.specs.Prelude.{Option, Some, None, ℕ, Bool, true, false, List, [], ◌∷◌, map, eqb}
use Rattle.octets.specs.Pick.{pick}
use Rattle.ft_number.specs.declared.MessageId.{MessageId}
use Rattle.message.specs.declared.Kind.{Kind}
use Rattle.message.specs.Submission.{submission_of}
use Rattle.protocol.specs.LeftOut.{kind_held}

abbrev pub aborted_id : Kind → Option MessageId
aborted_id Kind.Mapping = None
aborted_id Kind.Withdraw = None
aborted_id Kind.Release = None
aborted_id Kind.Address = None
aborted_id Kind.AddressWithdraw = None
aborted_id Kind.ResourcesAvailable = None
aborted_id (Kind.Request id) = None
aborted_id (Kind.Abort id) = Some id
aborted_id Kind.NoResources = None
aborted_id Kind.NoKind = None

-- one for each message
abbrev pub aborted_ids : List (List ℕ) → List (Option MessageId)
aborted_ids ms = map (λ m. aborted_id (kind_held (submission_of m))) ms

-- what a message aborts is the Request of that ID
abbrev pub names : MessageId → Option MessageId → Bool
names id (Some named) = eqb named.0 id.0
names id None = false

-- one of them is
unfoldable pub is_among : MessageId → List (Option MessageId) → Bool
is_among id [] = false
is_among id (aborted ∷ rest) = pick (names id aborted) true (is_among id rest)

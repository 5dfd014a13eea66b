-- What one end has given and the other uses.
use Rattle.std.specs.Prelude.{Result, Ok, Err, ℕ, true, false, List, [], ◌∷◌, ◌⊎◌, ◌≡◌, eqb}
use Rattle.octets.specs.Pick.{pick}
use Rattle.label_list.specs.declared.LabelMessage.TheVariants.{Mapping, Withdraw}
use Rattle.label_list.specs.declared.Side.TheVariants.{Given, Used}
use Rattle.label_list.specs.Rules.{code_received}
use Rattle.label_list.specs.Word.{listable}
use Rattle.label_events.specs.Change.{code_at}
use Rattle.message.specs.declared.Kind.{Kind}
use Rattle.message.specs.declared.SubmissionError.{SubmissionError}
use Rattle.message.specs.Submission.{submission_of}
use Rattle.protocol.specs.Held.{is_held}
use Rattle.two_ends.specs.World.{End}

-- the code of label l at its user, after a protected message with that submission
abbrev pub code_by : ℕ → ℕ → Result (Kind × ℕ) SubmissionError → ℕ
code_by l c (Err SubmissionError.Malformed) = c
code_by l c (Err SubmissionError.Refused) = c
code_by l c (Ok (Kind.Mapping, k)) = pick (eqb k l) (code_received Mapping true c) c
code_by l c (Ok (Kind.Withdraw, k)) = pick (eqb k l) (code_received Withdraw true c) c
code_by l c (Ok (Kind.Release, k)) = c
code_by l c (Ok (Kind.Address, k)) = c
code_by l c (Ok (Kind.AddressWithdraw, k)) = c
code_by l c (Ok (Kind.ResourcesAvailable, k)) = c
code_by l c (Ok (Kind.Request id, k)) = c
code_by l c (Ok (Kind.Abort id, k)) = c
code_by l c (Ok (Kind.NoResources, k)) = c
code_by l c (Ok (Kind.NoKind, k)) = c

-- and after all of these
abbrev pub code_after : ℕ → ℕ → List (List ℕ) → ℕ
code_after l c [] = c
code_after l c (m ∷ ms) = code_after l (code_by l c (submission_of m)) ms

-- given, or withdrawn and its Release has not come; in use, or asked back
abbrev pub IsGiven : ℕ → Type 0
IsGiven c = (c ≡ 1) ⊎ ((c ≡ 2) ⊎ (c ≡ 8))

abbrev pub IsUsed : ℕ → Type 0
IsUsed c = (c ≡ 3) ⊎ (c ≡ 4)

-- the words of the giver and of the user, the messages of the giver that the user has not secured, and those of the user that the giver has not: a label
-- that is given, and that no Release under way gives back, is in use or asked back once those messages have come
abbrev pub Agree : List ℕ → List ℕ → List (List ℕ) → List (List ℕ) → Type 0
Agree giver user out back =
    (l : ℕ) → listable l ≡ true → IsGiven (code_at giver Given l) → is_held 3 l back ≡ false → IsUsed (code_after l (code_at user Used l) out)

-- every label that x lists as given, or as withdrawn and not released, is in use or asked back at y
abbrev pub InUse : End → End → Type 0
InUse x y = (l : ℕ) → listable l ≡ true → IsGiven (code_at x.state.table.words Given l) → IsUsed (code_at y.state.table.words Used l)

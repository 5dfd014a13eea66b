-- Whether the two ends list the same labels, one as given and the other as used, where their owners keep one of two rules for a label.
-- Without either rule they need not: a Mapping of a label that is given and a Release of one that was not asked back may cross (the runs `race` and `race-asked`).
use Rattle.std.specs.Prelude.{Ok, ℕ, Bool, true, false, List, [], ◌∷◌, ◌≢◌, ◌⊎◌, ◌≡◌}
use Rattle.label_list.specs.declared.Side.TheVariants.{Given, Used}
use Rattle.label_events.specs.Change.{code_at}
use Rattle.message.specs.declared.Kind.{Kind}
use Rattle.message.specs.Submission.{submission_of}
use Rattle.protocol.specs.State.{State}
use Rattle.two_ends.specs.Demand.{accepted_read, held_messages}
use Rattle.two_ends.specs.Runs.{Event, submits, sends, keepalives, opens, passes, delivers, breaks, notices, restarts, event_at}
use Rattle.two_ends.specs.World.{End, World, swap}

-- a label is offered only while it is not given; or it is released only once it was asked back
pub data Rule : Type 0 where
  offered-free released-asked : Rule

-- what an owner submits in a state keeps the rule
abbrev pub Ruled : Rule → ℕ → State → List ℕ → Type 0
Ruled offered-free l s m = submission_of m ≡ Ok (Kind.Mapping, l) → code_at s.table.words Given l ≢ 1
Ruled released-asked l s m = submission_of m ≡ Ok (Kind.Release, l) → code_at s.table.words Used l ≢ 3

-- ---- a condition on what the owners submit, over a run; every other event may be any
-- at the end a
abbrev pub SubmitsSo : (State → List ℕ → Type 0) → World → Event → Type 0
SubmitsSo may w (submits m) = may w.a.state m
SubmitsSo may w (sends ask room) = Unit {0}
SubmitsSo may w (keepalives id room) = Unit {0}
SubmitsSo may w (opens id p t room) = Unit {0}
SubmitsSo may w (passes elapsed) = Unit {0}
SubmitsSo may w delivers = Unit {0}
SubmitsSo may w breaks = Unit {0}
SubmitsSo may w notices = Unit {0}
SubmitsSo may w restarts = Unit {0}

abbrev pub SubmitsSoAt : (State → List ℕ → Type 0) → World → Bool → Event → Type 0
SubmitsSoAt may w true v = SubmitsSo may w v
SubmitsSoAt may w false v = SubmitsSo may (swap w) v

abbrev pub AllSubmitSo : (State → List ℕ → Type 0) → World → List (Bool × Event) → Type 0
AllSubmitSo may w [] = Unit {0}
AllSubmitSo may w (v ∷ vs) = SubmitsSoAt may w v.0 v.1 × AllSubmitSo may (event_at w v.0 v.1) vs

-- ---- the codes of one label at its giver and at its user
-- once each has secured all that the other accepted
pub data Alike : ℕ → ℕ → Type 0 where
  in_use : Alike 1 3
  -- the ACK of the Withdraw has not come, or has
  asked_back : Alike 2 4
  asked_back_acked : Alike 8 4
  -- free, or waiting for the ACK of its Withdraw alone; not used, or waiting for the ACK of its Release alone
  ended : {c d : ℕ} → (c ≡ 0) ⊎ (c ≡ 9) → (d ≡ 0) ⊎ (d ≡ 5) → Alike c d

-- once all ACKs have come too
pub data SettledAs : ℕ → ℕ → Type 0 where
  free-absent : SettledAs 0 0
  given_in_use : SettledAs 1 3
  withdrawn_asked : SettledAs 8 4

-- of the giver x and the user y
pub record Matches (x y : End) (l : ℕ) : Type 0 where
  pub arrived : y.history.secured ≡ accepted_read x → x.history.secured ≡ accepted_read y
      → Alike (code_at x.state.table.words Given l) (code_at y.state.table.words Used l)
  pub settled : held_messages x ≡ [] → held_messages y ≡ [] → SettledAs (code_at x.state.table.words Given l) (code_at y.state.table.words Used l)

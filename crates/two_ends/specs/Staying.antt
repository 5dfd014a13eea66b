-- When an end releases its state.
use Rattle.std.specs.Prelude.{ℕ, ◌≤◌, Bool, true, false, List, [], ◌∷◌, ◌≡◌}
use Rattle.protocol.specs.Answers.{answer_number}
use Rattle.protocol.specs.Phases.{waiting}
use Rattle.protocol.specs.TimePassed.{expired}
use Rattle.two_ends.specs.Answers.{answer_to}
use Rattle.two_ends.specs.Runs.{Event, submits, sends, keepalives, opens, passes, delivers, breaks, notices, restarts, event_at}
use Rattle.two_ends.specs.World.{World, swap, Lasts}

-- a message on the line is answered 30 or above: by `Comes` that is 35 or 36
pub record Fatal (w : World) : Type 0 where
  pub message : List ℕ
  pub rest : List (List ℕ)
  pub on : w.a.joined ≡ true
  pub line : w.ba ≡ message ∷ rest
  pub answer : 30 ≤ answer_number (answer_to w.a message)

-- at the end a: the timeout passes in Failed, or such a message is delivered
abbrev pub Releasing : World → Event → Type 0
Releasing w (submits m) = ⊥
Releasing w (sends ask room) = ⊥
Releasing w (keepalives id room) = ⊥
Releasing w (opens id p t room) = ⊥
Releasing w (passes elapsed) = (waiting w.a.phase ≡ true) × (expired w.a.state elapsed ≡ true)
Releasing w delivers = Fatal w
Releasing w breaks = ⊥
Releasing w notices = ⊥
Releasing w restarts = ⊥

abbrev pub ReleasingAt : World → Bool → Event → Type 0
ReleasingAt w true v = Releasing w v
ReleasingAt w false v = Releasing (swap w) v

-- no event of the run does so
abbrev pub NoneReleases : World → List (Bool × Event) → Type 0
NoneReleases w [] = Unit {0}
NoneReleases w (v ∷ vs) = (ReleasingAt w v.0 v.1 → ⊥) × NoneReleases (event_at w v.0 v.1) vs

-- both ends have come to their fresh UpFT, and neither has released its state
pub record Stays (w : World) : Type 0 where
  pub lasts : Lasts w
  pub ours : w.a.begun ≡ true
  pub theirs : w.b.begun ≡ true

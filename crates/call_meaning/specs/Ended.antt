-- What a call leaves that is answered 20 or above.
use Rattle.std.specs.Prelude.{ℕ, List, ◌≡◌}
use Rattle.image.specs.Events.{release_of, break_of}
use Rattle.protocol.specs.declared.Phase.{Phase}
use Rattle.protocol.specs.Phases.{resting_phase}
use Rattle.protocol.specs.State.{released_state}
use Rattle.protocol.specs.Step.{broken}
use Rattle.calls.specs.Outcomes.{After}
use Rattle.calls.specs.State.{state_of}

-- 20 to 23, "as connection failed, ACK unapplied": the image before the call, its code 6 words freed; "Failed if kept, else Idle"
pub record Unapplied (im : List ℕ) (x : After) : Type 0 where
  pub image : x.image ≡ break_of im
  pub state : state_of x.image ≡ broken (state_of im)
  pub phase : x.outcome.phase ≡ resting_phase (state_of im)

-- 30 to 36, "released, Idle": "Released means block 0 with kept 0"
pub record ReleasedIdle (im : List ℕ) (x : After) : Type 0 where
  pub image : x.image ≡ release_of im
  pub state : state_of x.image ≡ released_state
  pub phase : x.outcome.phase ≡ Phase.Idle

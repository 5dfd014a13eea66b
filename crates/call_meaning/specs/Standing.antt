-- What every call keeps: a sound image whose numbers have their widths, and a phase that it allows.
use Rattle.std.specs.Prelude.{ℕ, true, List, ◌≡◌}
use Rattle.image.specs.State.{decode, InRange}
use Rattle.image.specs.Verdict.{IsSound}
use Rattle.protocol.specs.declared.Phase.{Phase}
use Rattle.protocol.specs.Phases.{phase_fits}
use Rattle.calls.specs.Outcomes.{After}
use Rattle.calls.specs.State.{state_of}

pub record Standing (im : List ℕ) (ph : Phase) : Type 0 where
  pub sound : IsSound im
  pub range : InRange (decode im)
  pub fits : phase_fits ph (state_of im) ≡ true

-- what a call leaves stands
abbrev pub Stands : After → Type 0
Stands x = Standing x.image x.outcome.phase

-- Format and Restore: a session begins with a new image, or with a stored one. Neither is given a phase.
use Rattle.protocol.specs.declared.Answer.{Answer}
use Rattle.protocol.specs.State.{State}
use Rattle.protocol.specs.Step.{Step, failed_with, released_with}

-- a new image has kept 0
abbrev pub format : Step
format = released_with Answer.Done

-- Restore "frees code 6 words, as after a break, and answers Failed if kept, else Idle"
abbrev pub restore : State → Step
restore s = failed_with Answer.Done s

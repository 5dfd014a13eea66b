-- What a call makes of the state and the phase, what it answers and what it writes; and what every answer but Done leaves, once for all calls.
use Rattle.std.specs.Prelude.{ℕ, not, Bool, List, [], ltb, length}
use Rattle.octets.specs.Pick.{pick}
use Rattle.label_list.specs.declared.SweepRule.TheVariants.{AfterBreak}
use Rattle.label_list.specs.Sweep.{swept_of}
use Rattle.protocol.specs.declared.Answer.{Answer}
use Rattle.protocol.specs.declared.Effect.{Effect}
use Rattle.protocol.specs.declared.Phase.{Phase}
use Rattle.protocol.specs.Answers.{effect_of}
use Rattle.protocol.specs.Phases.{phase_fits, resting_phase}
use Rattle.protocol.specs.State.{State, released_state, with_words}

-- a call that writes nothing has the empty list as its output; 02: "how many were left out", 0 where the call can leave out none
pub record Step : Type 0 where
  pub answer : Answer
  pub state : State
  pub phase : Phase
  pub output : List ℕ
  pub leftout : ℕ

-- a call that leaves out so many
abbrev pub stepped_past : ℕ → Answer → State → Phase → List ℕ → Step
stepped_past n a s ph o = record { answer = a; state = s; phase = ph; output = o; leftout = n }

abbrev pub stepped : Answer → State → Phase → List ℕ → Step
stepped a s ph o = stepped_past 0 a s ph o

-- "nothing changed"
abbrev pub unchanged : Answer → State → Phase → Step
unchanged a s ph = stepped a s ph []

-- "as connection failed": "code 6 words are freed; Failed if kept, else Idle"
abbrev pub broken : State → State
broken s = with_words s (swept_of s.table.words AfterBreak)

abbrev pub failed_with : Answer → State → Step
failed_with a s = stepped a (broken s) (resting_phase s) []

-- "released, Idle"
abbrev pub released_with : Answer → Step
released_with a = stepped a released_state Phase.Idle []

-- what an answer leaves; `done` is what the call does where the answer is Done
abbrev pub settled_by : Effect → Answer → State → Phase → Step → Step
settled_by Effect.Nothing a s ph done = unchanged a s ph
settled_by Effect.Fail a s ph done = failed_with a s
settled_by Effect.Release a s ph done = released_with a
settled_by Effect.Act a s ph done = done

unfoldable pub settle : Answer → State → Phase → Step → Step
settle a s ph done = settled_by (effect_of a) a s ph done

-- "1: wrong phase": a call that is not open answers 1; only then come its other tests, which say `a`
abbrev pub where_open : Bool → Answer → Answer
where_open may a = pick (not may) Answer.WrongPhase a

-- ".. or a phase the image rules out", here the state
unfoldable pub admitted : State → Phase → Answer → Answer
admitted s ph a = where_open (phase_fits ph s) a

-- "9: output too short"; exact room is enough
abbrev pub room_for : List ℕ → ℕ → Answer
room_for bytes room = pick (ltb room (length bytes)) Answer.OutputTooShort Answer.Done
